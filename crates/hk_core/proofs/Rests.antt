-- At a place that its call doesn't have, a step of a seat does nothing.
use Rattle.std.proofs.Common.{◌≡◌, ℕ, ◌≤◌, arith, false, refl, ◌∙◌, ap, sym, None}
use Rattle.std.proofs.lemmas.Bool.{ne_eqb}
use Rattle.std.proofs.lemmas.List.{set-get_or}
use Rattle.std.specs.Prelude.{nat_eq, slice_set}
use Rattle.hk_words.specs.declared.call.Call.{Call}
use Rattle.hk_words.specs.declared.call.Call.TheVariants as call
use Rattle.hk_core.specs.Event.{fired_if}
use Rattle.hk_core.specs.State.{State, idle, flight_of}
use Rattle.hk_core.specs.Step as table
use Rattle.hk_core.specs.AtCall.{event_in, found_in, next_in}

-- where there is no event, and the flight stays as it is
stays : (c : State) (seat : ℕ) (x : Call) → event_in c seat x ≡ None
    → ((old : ℕ) → table.took_at c.geometry (flight_of c.flights seat) old x ≡ flight_of c.flights seat)
    → c ≡ next_in c seat x
unfolding fired_if flight_of
stays c seat x none same = λ i. record c {
  row = sym (ap (fired_if c.row) none) i;
  flights = sym (ap (slice_set c.flights seat) (same (found_in c seat x)) ∙ set-get_or c.flights seat (idle seat)) i;
}

module _ (c : State) (seat dest reg field : ℕ) (out : 1 ≤ (flight_of c.flights seat).place → (flight_of c.flights seat).place ≤ 10 → ⊥) where
  not_at : (k : ℕ) → 1 ≤ k → k ≤ 10 → nat_eq (flight_of c.flights seat).place k ≡ false
  not_at k some few = ne_eqb _ k (λ e. out (omega arith) (omega arith))

  pub load_rests : c ≡ next_in c seat (call.Load dest reg field)
  unfolding table.event_at table.took_at table.load_event table.load_took
  load_rests =
      let n1 = not_at 1 (omega arith) (omega arith) in let n2 = not_at 2 (omega arith) (omega arith) in
      let n3 = not_at 3 (omega arith) (omega arith) in let n4 = not_at 4 (omega arith) (omega arith) in
      let n5 = not_at 5 (omega arith) (omega arith) in let n6 = not_at 6 (omega arith) (omega arith) in
      let n7 = not_at 7 (omega arith) (omega arith) in let n8 = not_at 8 (omega arith) (omega arith) in
      let n9 = not_at 9 (omega arith) (omega arith) in let n10 = not_at 10 (omega arith) (omega arith) in
      stays c seat (call.Load dest reg field)
      (rw (n1, n2, n3, n4, n5, n6, n7, n8, n9, n10) refl)
      (λ old. rw (n1, n2, n3, n4, n5, n6, n7, n8, n9, n10) refl)
