use Rattle.std.proofs.Common.{◌≡◌, take}
use Rattle.hk_ceiling.proofs.admission.copy_of.Given as goal

abbrev pub invariant-loop-section : goal.invariant-loop-section
invariant-loop-section l = l.items.items ≡ take l.section-index l.sections
