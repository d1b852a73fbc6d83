use Rattle.hk_table.proofs.tests.meeting.passes_write_into_each_others_objects.Given as goal

abbrev pub ghosts-exchange : goal.ghosts-exchange
ghosts-exchange g a = record { name = a.blank.name; parts = a.blank.parts }
