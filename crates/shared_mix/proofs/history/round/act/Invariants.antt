use Rattle.shared_mix.proofs.history.round.act.Given as goal

abbrev pub ghosts-play_round : goal.ghosts-play_round
ghosts-play_round a = record { name = a.blank.name; parts = a.blank.parts }

abbrev pub ghosts-collect_beside : goal.ghosts-collect_beside
ghosts-collect_beside a = record { name = a.blank.name; parts = a.blank.parts }
