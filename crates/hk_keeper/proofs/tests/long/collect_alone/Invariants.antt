use Rattle.hk_keeper.proofs.tests.long.collect_alone.Given as goal

abbrev pub ghosts-collect_counted : goal.ghosts-collect_counted
ghosts-collect_counted g a = record { name = a.blank.name; parts = a.blank.parts }
