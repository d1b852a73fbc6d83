-- One more place is looked at.
use Rattle.std.proofs.Common.{ℕ, ◌∙◌, sym, arith}
use Rattle.hk_edf.proofs.LeastRow.{earliest_none, earliest_taken, earliest_kept}
use Rattle.hk_edf.proofs.choice.EarliestPick.pick.Goals as goal
use Rattle.hk_edf.proofs.choice.EarliestPick.pick.Goals.{then-ready-place, else-ready-place}

pub loop-place-init : goal.loop-place-init
loop-place-init c = record { so_far = sym (earliest_none c.args.ready.now); within = c.requires.some }

pub loop-place-preserved : goal.loop-place-preserved
loop-place-preserved c =
    let rows = c.args.ready.now in
    let n : ℕ = c.loop-place.place in
    let best : ℕ = c.loop-place.best in
    elim c.if-ready-place.branch [
      | then-ready-place w ↦ record {
        so_far = w.best-is ∙ sym (earliest_taken rows n best (sym c.loop-place.invariant.so_far) w.if-ready-place.true);
        within = omega (arith, w.best-is, c.loop-place-test.true);
      }
      | else-ready-place w ↦ record {
        so_far = w.best-is ∙ sym (earliest_kept rows n best (sym c.loop-place.invariant.so_far) w.if-ready-place.false);
        within = omega (arith, w.best-is, c.loop-place.invariant.within);
      }
    ]
