use Rattle.std.proofs.Common.{◌≡◌, ℕ, ◌<◌, ◌≤◌, length, sym, ◌∙◌, ap, subst, refl, IfOk, slice_index_or, is_some}
use Rattle.std.specs.List.{list_any}
use Rattle.hk_table.specs.Ends.{log_of, run_of}
use Rattle.hk_table.specs.Passes.{kept}
use Rattle.hk_race.specs.declared.competing.Job.{Job}
use Rattle.hk_race.specs.declared.competing.Ended.{Ended}
use Rattle.hk_race.specs.Jobs.{ComesBack, Agree}
use Rattle.hk_race.proofs.Coming.{all_of_heap, all_seats, agree, came_to_end, full_of, within_last, live_last, spot_last, seats_count}
use Rattle.hk_race.proofs.competing.compete.Goals as goal

pub close-closed-requires-clause-passes : goal.close-closed-requires-clause-passes
close-closed-requires-clause-passes g c =
    let count = subst (λ r. IfOk r (λ v. length v.items ≡ length c.in_ok-jobs.jobs.items)) c.in_ok-ended.was c.run_all-ended.ensures.count in
    let back = subst (λ r. IfOk r (λ v. (i : ℕ) (d : Ended) (j : Job) → i < length c.in_ok-jobs.jobs.items → ComesBack c.args.heap (slice_index_or c.in_ok-jobs.jobs.items i j) (slice_index_or v.items i d))) c.in_ok-ended.was c.run_all-ended.ensures.each in
    all_of_heap c.args.heap c.args.sheet.now c.in_ok-jobs.jobs.items c.in_ok-ended.ended.items c.in_ok-parts.parts.passes.items c.in_ok-parts.parts.told.items c.in_ok-jobs.ensures.each count back c.in_ok-parts.ensures

pub close-closed-requires-clause-seats : goal.close-closed-requires-clause-seats
close-closed-requires-clause-seats g c =
    let count = subst (λ r. IfOk r (λ v. length v.items ≡ length c.in_ok-jobs.jobs.items)) c.in_ok-ended.was c.run_all-ended.ensures.count in
    let back = subst (λ r. IfOk r (λ v. (i : ℕ) (d : Ended) (j : Job) → i < length c.in_ok-jobs.jobs.items → ComesBack c.args.heap (slice_index_or c.in_ok-jobs.jobs.items i j) (slice_index_or v.items i d))) c.in_ok-ended.was c.run_all-ended.ensures.each in
    all_seats c.args.heap c.args.sheet.now c.in_ok-jobs.jobs.items c.in_ok-ended.ended.items c.in_ok-parts.parts.passes.items c.in_ok-parts.parts.told.items c.in_ok-jobs.ensures.each count back c.in_ok-parts.ensures
    _ (seats_count c.args.heap.geometry c.args.sheet.now c.requires.sheet c.requires.sizes ∙ sym c.in_ok-jobs.ensures.count)

pub returns : goal.returns
returns g c =
    let count = subst (λ r. IfOk r (λ v. length v.items ≡ length c.in_ok-jobs.jobs.items)) c.in_ok-ended.was c.run_all-ended.ensures.count in
    let back = subst (λ r. IfOk r (λ v. (i : ℕ) (d : Ended) (j : Job) → i < length c.in_ok-jobs.jobs.items → ComesBack c.args.heap (slice_index_or c.in_ok-jobs.jobs.items i j) (slice_index_or v.items i d))) c.in_ok-ended.was c.run_all-ended.ensures.each in
    let closed = c.close-closed.ensures in
    let keeper = c.run_all-ended.result.1.keeper in
    let seats = seats_count c.args.heap.geometry c.args.sheet.now c.requires.sheet c.requires.sizes ∙ sym c.in_ok-jobs.ensures.count in
    record {
      passes = c.in_ok-parts.parts.passes.items;
      seats = all_seats c.args.heap c.args.sheet.now c.in_ok-jobs.jobs.items c.in_ok-ended.ended.items c.in_ok-parts.parts.passes.items c.in_ok-parts.parts.told.items c.in_ok-jobs.ensures.each count back c.in_ok-parts.ensures _ seats;
      of_heap = all_of_heap c.args.heap c.args.sheet.now c.in_ok-jobs.jobs.items c.in_ok-ended.ended.items c.in_ok-parts.parts.passes.items c.in_ok-parts.parts.told.items c.in_ok-jobs.ensures.each count back c.in_ok-parts.ensures;
      keeper = keeper;
      keeps = c.run_all-ended.ensures.keeper;
      closed = closed;
      text = c.in_ok-text.ensures c.args.heap.geometry (run_of c.close-closed.result).history
          (subst (λ told. Agree c.args.sheet.now c.args.heap.geometry (run_of c.close-closed.result).history told) (sym c.as_slice.ensures.value)
          (agree c.args.heap c.args.sheet.now c.in_ok-jobs.jobs.items c.in_ok-ended.ended.items c.in_ok-parts.parts.passes.items c.in_ok-parts.parts.told.items c.in_ok-jobs.ensures.each count back c.in_ok-parts.ensures
          c.args.heap.geometry (kept keeper) c.close-closed.result refl closed));
      live = c.run_all-ended.ensures.live ∙ sym (live_last c.args.heap.geometry (kept keeper).log (log_of c.close-closed.result) closed.keeper_begins closed.keeper_acts);
      ended = λ seat below. came_to_end c.args.heap c.args.sheet.now c.in_ok-jobs.jobs.items c.in_ok-ended.ended.items c.in_ok-parts.parts.passes.items c.in_ok-parts.parts.told.items c.in_ok-jobs.ensures.each count back c.in_ok-parts.ensures
          c.args.heap.geometry (kept keeper) c.close-closed.result refl closed seat (subst (λ (n : ℕ). seat < n) (sym c.in_ok-jobs.ensures.count) below);
      full = c.any_stopped-full.ensures ∙ ap (list_any (λ own. is_some own.full)) c.as_slice-2.ensures.value
          ∙ full_of c.args.heap c.args.sheet.now c.in_ok-jobs.jobs.items c.in_ok-ended.ended.items c.in_ok-parts.parts.passes.items c.in_ok-parts.parts.told.items c.in_ok-jobs.ensures.each count back c.in_ok-parts.ensures
          c.args.heap.geometry (kept keeper) c.close-closed.result refl closed seats;
      above = c.run_all-ended.ensures.above;
      reserved = within_last c.args.heap keeper c.in_ok-parts.parts.passes.items c.close-closed.result c.run_all-ended.result.1.live closed c.run_all-ended.ensures.reserved;
      cycle = λ none. subst (λ spot. 3 ≤ spot.cycle) (sym (spot_last c.args.heap keeper c.in_ok-parts.parts.passes.items c.close-closed.result c.run_all-ended.ensures.keeper closed)) (c.run_all-ended.ensures.cycle none);
    }

pub jobs_of-requires-clause-count : goal.jobs_of-requires-clause-count
jobs_of-requires-clause-count g c = c.requires.open.count ∙ seats_count c.args.heap.geometry c.args.sheet.now c.requires.sheet c.requires.sizes
