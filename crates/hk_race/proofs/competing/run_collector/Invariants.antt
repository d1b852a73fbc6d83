use Rattle.hk_race.proofs.competing.run_collector.Given as goal

-- the ledger of the blank
abbrev pub ghosts-collect_all : goal.ghosts-collect_all
ghosts-collect_all g a = record { name = a.blank.name; parts = a.blank.parts }
