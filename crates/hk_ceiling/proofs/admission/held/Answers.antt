use Rattle.std.proofs.Common.{List, sym, subst}
use Rattle.hk_ceiling.specs.declared.told.Section.{Section}
use Rattle.hk_ceiling.specs.Admission.{IsHeld}
use Rattle.hk_ceiling.proofs.admission.held.Goals as goal

pub invariant_of-result : goal.invariant_of-result
invariant_of-result c = record {
  kept = subst (λ (sections : List Section). IsHeld c.args.checked.sheet sections c.in_ok-responses.responses) (sym c.in_ok-sections.ensures) (record {
    few = c.requires.sections;
    none_wrong = c.requires.none_wrong;
    still = c.in_ok-responses.ensures.still;
    in_time = c.in_ok-responses.ensures.in_time;
  });
}
