use Rattle.hk_collect.proofs.MeasureBounds.{bound_is_cycle}
use Rattle.hk_collect.proofs.MeasureEvents.{collector_is_measured, opening_is_calm}
use Rattle.hk_collect.proofs.MeasureSeats.{seats_keep_calm}
use Rattle.hk_collect.proofs.measure.measured_cycle.Goals as goal

pub returns-clause-measured : goal.returns-clause-measured
returns-clause-measured c = collector_is_measured

pub returns-clause-calm : goal.returns-clause-calm
returns-clause-calm c = seats_keep_calm

pub returns-clause-cycle : goal.returns-clause-cycle
returns-clause-cycle c = bound_is_cycle

pub returns-clause-opening : goal.returns-clause-opening
returns-clause-opening c = opening_is_calm
