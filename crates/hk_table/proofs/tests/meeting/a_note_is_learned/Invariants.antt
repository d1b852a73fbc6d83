use Rattle.hk_table.proofs.tests.meeting.a_note_is_learned.Given as goal

abbrev pub ghosts-learn : goal.ghosts-learn
ghosts-learn g a = record { name = a.blank.name; parts = a.blank.parts }
