use Rattle.hk_keeper.proofs.tests.room.room_after_the_flip.Given as goal

abbrev pub ghosts-filled_by_both : goal.ghosts-filled_by_both
ghosts-filled_by_both g a = record { name = a.blank.name; parts = a.blank.parts }
