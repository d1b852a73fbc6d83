use Rattle.hk_table.proofs.tests.wide.register_31.Given as goal

abbrev pub ghosts-last_register : goal.ghosts-last_register
ghosts-last_register g a = record { name = a.blank.name; parts = a.blank.parts }
