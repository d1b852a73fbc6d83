use Rattle.shared_mix.proofs.history.shake.Given as goal

abbrev pub ghosts-first_actors : goal.ghosts-first_actors
ghosts-first_actors g a = record { name = a.blank.name; parts = a.blank.parts }
