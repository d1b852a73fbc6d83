use Rattle.hk_table.proofs.tests.threads.keep.Given as goal

abbrev pub ghosts-keep_number : goal.ghosts-keep_number
ghosts-keep_number a = record { name = a.blank.name; parts = a.blank.parts }
