use Rattle.hk_keeper.proofs.tests.room.room_after_events_of_one.Given as goal

abbrev pub ghosts-filled_again : goal.ghosts-filled_again
ghosts-filled_again g a = record { name = a.blank.name; parts = a.blank.parts }
