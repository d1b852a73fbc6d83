use Rattle.hk_keeper.proofs.tests.closing.closed_in_a_cycle.Given as goal

abbrev pub ghosts-reserved_after : goal.ghosts-reserved_after
ghosts-reserved_after g a = record { name = a.blank.name; parts = a.blank.parts }
