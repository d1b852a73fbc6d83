use Rattle.hk_table.proofs.tests.refusals.null_registers_and_missing_fields.Given as goal

abbrev pub ghosts-refused : goal.ghosts-refused
ghosts-refused g a = record { name = a.blank.name; parts = a.blank.parts }
