use Rattle.shared_mix.proofs.plan.Plan.run.Given as goal

abbrev pub ghosts-jobs : goal.ghosts-jobs
ghosts-jobs g a = record { name = a.blank.name; parts = a.blank.parts }
