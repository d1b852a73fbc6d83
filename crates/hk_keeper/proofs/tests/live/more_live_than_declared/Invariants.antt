use Rattle.hk_keeper.proofs.tests.live.more_live_than_declared.Given as goal

abbrev pub ghosts-both_live : goal.ghosts-both_live
ghosts-both_live g a = record { name = a.blank.name; parts = a.blank.parts }
