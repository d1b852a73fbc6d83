-- One more place is looked at.
use Rattle.std.proofs.Common.{ℕ, ◌+◌, ◌<◌, Option, Some, IfSome, slice_index, sym, ap, ◌∙◌, subst, arith}
use Rattle.hk_plan.specs.Alone.{first_of}
use Rattle.hk_plan.proofs.Chosen.{Ready, chosen_none, chosen_more_ready, chosen_more_other, within_more}
use Rattle.hk_plan.proofs.first_ready.Goals as goal
use Rattle.hk_plan.proofs.first_ready.Goals.{then-row-moment+then-had-place, else-row-moment, else-row-moment-via-then-row-moment+else-had-place, else-row-moment-via-else-row-moment}

pub loop-place-init : goal.loop-place-init
loop-place-init c = record { so_far = chosen_none c.args.rows.now (slice_index c.args.had.now) c.args.moment; within = tt }

pub loop-place-preserved : goal.loop-place-preserved
loop-place-preserved c =
    let rows = c.args.rows.now in
    let had : ℕ → ℕ = slice_index c.args.had.now in
    let moment = c.args.moment in
    let place = c.loop-place.place in
    let P : Option ℕ → Type 0 = λ o. IfSome o (λ k. k < place + 1) in
    elim c.if-row-moment.branch [
      | then-row-moment+then-had-place w ↦
          let ready : Ready rows had moment place = record { arrived = w.if-row-moment.true; unended = w.if-had-place.true } in
          let within : w.first_of.result < place + 1 = omega (arith, w.first_of.ensures.within) in
          record {
            so_far = w.first-is ∙ (ap (λ k. Some k) w.first_of.ensures.value
                ∙ (ap (λ o. Some (first_of rows o place)) c.loop-place.invariant.so_far ∙ sym (chosen_more_ready rows had moment place ready)));
            within = subst P (sym w.first-is) within;
          }
      | else-row-moment w ↦
          let other : ¬ (Ready rows had moment place) =
          λ r. elim w.else-row-moment.branch [
            | else-row-moment-via-then-row-moment+else-had-place v ↦ omega (arith, v.if-had-place.false, r.unended)
            | else-row-moment-via-else-row-moment v ↦ omega (arith, v.if-row-moment.false, r.arrived)
          ] in
          record {
            so_far = w.first-is ∙ (c.loop-place.invariant.so_far ∙ sym (chosen_more_other rows had moment place other));
            within = subst P (sym w.first-is) (within_more c.loop-place.first place c.loop-place.invariant.within);
          }
    ]
