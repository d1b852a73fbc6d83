use Rattle.ring_threads.proofs.threads.run_receiver.Given as goal

abbrev pub ghosts-receive_all : goal.ghosts-receive_all
ghosts-receive_all a = record { name = a.blank.name; parts = a.blank.parts }
