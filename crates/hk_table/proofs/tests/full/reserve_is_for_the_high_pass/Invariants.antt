use Rattle.hk_table.proofs.tests.full.reserve_is_for_the_high_pass.Given as goal

abbrev pub ghosts-low_first : goal.ghosts-low_first
ghosts-low_first g a = record { name = a.blank.name; parts = a.blank.parts }
