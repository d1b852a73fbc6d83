use Rattle.hk_keeper.proofs.tests.live.an_object_that_is_cut_off_is_not_moved.Given as goal

abbrev pub ghosts-cut_off : goal.ghosts-cut_off
ghosts-cut_off g a = record { name = a.blank.name; parts = a.blank.parts }
