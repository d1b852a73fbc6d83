use Rattle.ring_threads.proofs.threads.run_collector.Given as goal

abbrev pub ghosts-collect_all : goal.ghosts-collect_all
ghosts-collect_all a = record { name = a.blank.name; parts = a.blank.parts }
