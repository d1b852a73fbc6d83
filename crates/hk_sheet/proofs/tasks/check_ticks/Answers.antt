use Rattle.std.proofs.Common.{ap, sym, ◌∙◌}
use Rattle.hk_sheet.specs.Faults.{first_of}
use Rattle.hk_sheet.proofs.Spacing.{too_few}
use Rattle.hk_sheet.proofs.tasks.check_ticks.Goals as goal

pub returns : goal.returns
returns c = sym c.loop-rest.invariant.fault ∙ ap first_of (too_few _ _ _ _ c.in_default.len_below)
