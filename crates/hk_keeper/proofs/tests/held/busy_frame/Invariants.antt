use Rattle.hk_keeper.proofs.tests.held.busy_frame.Given as goal

abbrev pub ghosts-copy_held : goal.ghosts-copy_held
ghosts-copy_held g a = record { name = a.blank.name; parts = a.blank.parts }
