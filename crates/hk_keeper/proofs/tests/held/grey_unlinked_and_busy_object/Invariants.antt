use Rattle.hk_keeper.proofs.tests.held.grey_unlinked_and_busy_object.Given as goal

abbrev pub ghosts-store_held : goal.ghosts-store_held
ghosts-store_held g a = record { name = a.blank.name; parts = a.blank.parts }
