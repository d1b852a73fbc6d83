use Rattle.hk_collect.proofs.UsedLaws.{traced_is_run, traced_keeps_geometry, late_is_later, keeps_none_late, grey_numbers_were_used, claimed_numbers_were_used, held_was_used, calls_reserve_used, collector_reserves_used}
use Rattle.hk_collect.proofs.used.reserved_was_used.Goals as goal

pub returns-clause-run : goal.returns-clause-run
returns-clause-run c = traced_is_run

pub returns-clause-geometry : goal.returns-clause-geometry
returns-clause-geometry c = traced_keeps_geometry

pub returns-clause-later : goal.returns-clause-later
returns-clause-later c = late_is_later

pub returns-clause-none_late : goal.returns-clause-none_late
returns-clause-none_late c = keeps_none_late

pub returns-clause-reserved : goal.returns-clause-reserved
returns-clause-reserved c = grey_numbers_were_used

pub returns-clause-claimed : goal.returns-clause-claimed
returns-clause-claimed c = claimed_numbers_were_used

pub returns-clause-held : goal.returns-clause-held
returns-clause-held c = held_was_used

pub returns-clause-calls : goal.returns-clause-calls
returns-clause-calls c = calls_reserve_used

pub returns-clause-collector : goal.returns-clause-collector
returns-clause-collector c = collector_reserves_used
