-- How a step moves a flight along the places of its call's row.
use Rattle.std.proofs.Common.{◌≡◌, ◌≢◌, ℕ, ◌+◌, ◌<◌, ◌≤◌, Bool, true, false, length, refl, ◌∙◌, ap, arith, Option, Some, None}
use Rattle.std.proofs.lemmas.Bool.{eqb-true, eq-eqb}
use Rattle.std.proofs.lemmas.Bool.Decides.{nat_tests}
use Rattle.std.specs.Prelude.{nat_eq, if◌then◌else◌}
use Rattle.hk_words.specs.declared.geometry.Geometry.{Geometry}
use Rattle.hk_words.specs.declared.call.Call.{Call}
use Rattle.hk_words.specs.declared.call.Call.TheVariants as call
use Rattle.hk_words.specs.declared.shape.Shape.{Shape}
use Rattle.hk_model.proofs.Updates.{upd_same, upd_other}
use Rattle.hk_core.specs.declared.flight.Flight.{Flight}
use Rattle.hk_core.specs.declared.outcome.Fault.{Fault}
use Rattle.hk_core.specs.State.{State, idle, flight_of}
use Rattle.hk_core.specs.Begin.{refusal, first_flight, accepted, after_begin, begun_or}
use Rattle.hk_core.specs.Step as table
use Rattle.hk_words.specs.Bounds.{places_of}
use Rattle.hk_core.specs.Step.{took_of, step_of, found_by, answer_by, next}
use Rattle.hk_core.specs.Places.{GoesOn, Ends, KeepsOthers}
use Rattle.hk_core.specs.View.{flight_at}
use Rattle.hk_core.proofs.Next.{flight_at-next}
use Rattle.hk_core.proofs.kinds.Begin.{flight_at-accepted}

by_test : (P : Flight → Type 0) (test : Bool) (a b : Flight) → (test ≡ true → P a) → (test ≡ false → P b) → P (if test then a else b)
by_test P true a b yes' no' = yes' refl
by_test P false a b yes' no' = no' refl

differ : (a b : ℕ) → nat_eq a b ≡ false → a ≢ b
differ a b e = grind (arith, nat_tests)

-- TABLES

-- a flight stands at the place after that of another, in the same call
pub record IsNextPlace (x y : Flight) : Type 0 where
  pub place : y.place ≡ x.place + 1
  pub call : y.call ≡ x.call
  pub entered : y.entered ≡ x.entered

-- the place of a test that holds, and the places that tests rule out
at_place : (x y : Flight) (p : ℕ) → nat_eq x.place p ≡ true → y.place ≡ p + 1 → y.call ≡ x.call → y.entered ≡ x.entered → IsNextPlace x y
at_place x y p e place same through = let at = eqb-true x.place p e in record { place = rw at place; call = same; entered = through }

module _ (g : Geometry) (x : Flight) (old : ℕ) (some : 1 ≤ x.place) where
  get_next : x.place < 3 → IsNextPlace x (table.get_took x old)
  unfolding table.get_took
  get_next few =
      by_test (IsNextPlace x) (nat_eq x.place 1) _ _ (λ e. at_place x _ 1 e refl refl refl) (λ n1.
      by_test (IsNextPlace x) (nat_eq x.place 2) _ _ (λ e. at_place x _ 2 e refl refl refl) (λ n2.
      by_test (IsNextPlace x) (nat_eq x.place 3) _ _ (λ e. let at = eqb-true x.place 3 e in absurd (omega arith)) (λ n3.
      let d1 = differ x.place 1 n1 in let d2 = differ x.place 2 n2 in let d3 = differ x.place 3 n3 in absurd (omega arith))))

  put_next : x.place < 3 → IsNextPlace x (table.put_took x old)
  unfolding table.put_took
  put_next few =
      by_test (IsNextPlace x) (nat_eq x.place 1) _ _ (λ e. at_place x _ 1 e refl refl refl) (λ n1.
      by_test (IsNextPlace x) (nat_eq x.place 2) _ _ (λ e. at_place x _ 2 e refl refl refl) (λ n2.
      by_test (IsNextPlace x) (nat_eq x.place 3) _ _ (λ e. let at = eqb-true x.place 3 e in absurd (omega arith)) (λ n3.
      let d1 = differ x.place 1 n1 in let d2 = differ x.place 2 n2 in let d3 = differ x.place 3 n3 in absurd (omega arith))))

  move_next : x.place < 3 → IsNextPlace x (table.move_took x)
  unfolding table.move_took
  move_next few =
      by_test (IsNextPlace x) (nat_eq x.place 1) _ _ (λ e. at_place x _ 1 e refl refl refl) (λ n1.
      by_test (IsNextPlace x) (nat_eq x.place 2) _ _ (λ e. at_place x _ 2 e refl refl refl) (λ n2.
      by_test (IsNextPlace x) (nat_eq x.place 3) _ _ (λ e. let at = eqb-true x.place 3 e in absurd (omega arith)) (λ n3.
      let d1 = differ x.place 1 n1 in let d2 = differ x.place 2 n2 in let d3 = differ x.place 3 n3 in absurd (omega arith))))

  clear_next : x.place < 1 → IsNextPlace x (table.clear_took x)
  unfolding table.clear_took
  clear_next few =
      by_test (IsNextPlace x) (nat_eq x.place 1) _ _ (λ e. let at = eqb-true x.place 1 e in absurd (omega arith)) (λ n1.
      let d1 = differ x.place 1 n1 in absurd (omega arith))

  load_next : x.place < 10 → IsNextPlace x (table.load_took x old)
  unfolding table.load_took
  load_next few =
      by_test (IsNextPlace x) (nat_eq x.place 1) _ _ (λ e. at_place x _ 1 e refl refl refl) (λ n1.
      by_test (IsNextPlace x) (nat_eq x.place 2) _ _ (λ e. at_place x _ 2 e refl refl refl) (λ n2.
      by_test (IsNextPlace x) (nat_eq x.place 3) _ _ (λ e. at_place x _ 3 e refl refl refl) (λ n3.
      by_test (IsNextPlace x) (nat_eq x.place 4) _ _ (λ e. at_place x _ 4 e refl refl refl) (λ n4.
      by_test (IsNextPlace x) (nat_eq x.place 5) _ _ (λ e. at_place x _ 5 e refl refl refl) (λ n5.
      by_test (IsNextPlace x) (nat_eq x.place 6) _ _ (λ e. at_place x _ 6 e refl refl refl) (λ n6.
      by_test (IsNextPlace x) (nat_eq x.place 7) _ _ (λ e. at_place x _ 7 e refl refl refl) (λ n7.
      by_test (IsNextPlace x) (nat_eq x.place 8) _ _ (λ e. at_place x _ 8 e refl refl refl) (λ n8.
      by_test (IsNextPlace x) (nat_eq x.place 9) _ _ (λ e. at_place x _ 9 e refl refl refl) (λ n9.
      by_test (IsNextPlace x) (nat_eq x.place 10) _ _ (λ e. let at = eqb-true x.place 10 e in absurd (omega arith)) (λ n10.
      let d1 = differ x.place 1 n1 in let d2 = differ x.place 2 n2 in let d3 = differ x.place 3 n3 in let d4 = differ x.place 4 n4 in let d5 = differ x.place 5 n5 in let d6 = differ x.place 6 n6 in let d7 = differ x.place 7 n7 in let d8 = differ x.place 8 n8 in let d9 = differ x.place 9 n9 in let d10 = differ x.place 10 n10 in absurd (omega arith)))))))))))

  store_next : x.place < 7 → IsNextPlace x (table.store_took x old)
  unfolding table.store_took
  store_next few =
      by_test (IsNextPlace x) (nat_eq x.place 1) _ _ (λ e. at_place x _ 1 e refl refl refl) (λ n1.
      by_test (IsNextPlace x) (nat_eq x.place 2) _ _ (λ e. at_place x _ 2 e refl refl refl) (λ n2.
      by_test (IsNextPlace x) (nat_eq x.place 3) _ _ (λ e. at_place x _ 3 e refl refl refl) (λ n3.
      by_test (IsNextPlace x) (nat_eq x.place 4) _ _ (λ e. at_place x _ 4 e refl refl refl) (λ n4.
      by_test (IsNextPlace x) (nat_eq x.place 5) _ _ (λ e. at_place x _ 5 e refl refl refl) (λ n5.
      by_test (IsNextPlace x) (nat_eq x.place 6) _ _ (λ e. at_place x _ 6 e refl refl refl) (λ n6.
      by_test (IsNextPlace x) (nat_eq x.place 7) _ _ (λ e. let at = eqb-true x.place 7 e in absurd (omega arith)) (λ n7.
      let d1 = differ x.place 1 n1 in let d2 = differ x.place 2 n2 in let d3 = differ x.place 3 n3 in let d4 = differ x.place 4 n4 in let d5 = differ x.place 5 n5 in let d6 = differ x.place 6 n6 in let d7 = differ x.place 7 n7 in absurd (omega arith))))))))

  new_next : (shape : Shape) → x.place < 7 → IsNextPlace x (table.new_took g x shape old)
  unfolding table.new_took
  new_next shape few =
      by_test (IsNextPlace x) (nat_eq x.place 1) _ _ (λ e. at_place x _ 1 e refl refl refl) (λ n1.
      by_test (IsNextPlace x) (nat_eq x.place 2) _ _ (λ e. at_place x _ 2 e refl refl refl) (λ n2.
      by_test (IsNextPlace x) (nat_eq x.place 3) _ _ (λ e. by_test (IsNextPlace x) x.full _ _ (λ _. at_place x _ 3 e refl refl refl) (λ _. at_place x _ 3 e refl refl refl)) (λ n3.
      by_test (IsNextPlace x) (nat_eq x.place 4) _ _ (λ e. at_place x _ 4 e refl refl refl) (λ n4.
      by_test (IsNextPlace x) (nat_eq x.place 5) _ _ (λ e. at_place x _ 5 e refl refl refl) (λ n5.
      by_test (IsNextPlace x) (nat_eq x.place 6) _ _ (λ e. at_place x _ 6 e refl refl refl) (λ n6.
      by_test (IsNextPlace x) (nat_eq x.place 7) _ _ (λ e. let at = eqb-true x.place 7 e in absurd (omega arith)) (λ n7.
      let d1 = differ x.place 1 n1 in let d2 = differ x.place 2 n2 in let d3 = differ x.place 3 n3 in let d4 = differ x.place 4 n4 in let d5 = differ x.place 5 n5 in let d6 = differ x.place 6 n6 in let d7 = differ x.place 7 n7 in absurd (omega arith))))))))

  next_at : (call' : Call) → x.place < places_of call' → IsNextPlace x (table.took_at g x old call')
  unfolding table.took_at
  next_at (call.Get reg field) few = get_next few
  next_at (call.Put reg field value) few = put_next few
  next_at (call.Move dest from) few = move_next few
  next_at (call.Clear dest) few = clear_next few
  next_at (call.Load dest reg field) few = load_next few
  next_at (call.Store reg field from) few = store_next few
  next_at (call.New dest shape) few = new_next shape few
  next_at (call.Same a b) few = absurd (omega arith)
  next_at (call.IsNull reg) few = absurd (omega arith)

  pub takes_next : x.place < places_of x.call → IsNextPlace x (took_of g x old)
  unfolding table.took_of
  takes_next few = next_at x.call few

  -- at the last place of its row it ends
  last_at : (call' : Call) → x.place ≡ places_of call' → table.took_at g x old call' ≡ idle x.seat
  unfolding table.took_at table.get_took table.put_took table.move_took table.clear_took table.load_took table.store_took table.new_took
  last_at (call.Get reg field) at = rw at refl
  last_at (call.Put reg field value) at = rw at refl
  last_at (call.Move dest from) at = rw at refl
  last_at (call.Clear dest) at = rw at refl
  last_at (call.Load dest reg field) at = rw at refl
  last_at (call.Store reg field from) at = rw at refl
  last_at (call.New dest shape) at = rw at refl
  last_at (call.Same a b) at = absurd (omega arith)
  last_at (call.IsNull reg) at = absurd (omega arith)

  pub takes_last : x.place ≡ places_of x.call → took_of g x old ≡ idle x.seat
  unfolding table.took_of
  takes_last at = last_at x.call at

-- THE STATE

module _ (c : State) (s : ℕ) where
  -- the flights after a step
  pub flight_stepped : s < length c.flights → flight_of (next c s).flights s ≡ took_of c.geometry (flight_of c.flights s) (found_by c s)
  unfolding flight_at
  flight_stepped below = ap (λ (f : ℕ → Flight). f s) (flight_at-next c s below) ∙ upd_same (flight_at c) s _

  pub others_kept : s < length c.flights → KeepsOthers c (next c s) s
  unfolding flight_at
  others_kept below other differs = ap (λ (f : ℕ → Flight). f other) (flight_at-next c s below) ∙ upd_other (flight_at c) s _ other differs

  pub goes_on : s < length c.flights → 1 ≤ (flight_of c.flights s).place → (flight_of c.flights s).place < places_of (flight_of c.flights s).call
      → GoesOn (flight_of c.flights s) (flight_of (next c s).flights s) (answer_by c s)
  unfolding answer_by step_of
  goes_on below some few =
      let x = flight_of c.flights s in
      let t = takes_next c.geometry x (found_by c s) some few in
      let e = flight_stepped below in
      record {
        place = ap (λ (y : Flight). y.place) e ∙ t.place;
        call = ap (λ (y : Flight). y.call) e ∙ t.call;
        entered = ap (λ (y : Flight). y.entered) e ∙ t.entered;
        answers = rw (not_last x.place (places_of x.call) few) refl;
      }
    where
      not_last : (p n : ℕ) → p < n → nat_eq p n ≡ false
      not_last p n h = grind (arith, nat_tests)

  pub ends : s < length c.flights → 1 ≤ (flight_of c.flights s).place → (flight_of c.flights s).place ≡ places_of (flight_of c.flights s).call
      → Ends (flight_of c.flights s) (flight_of (next c s).flights s) (answer_by c s)
  unfolding answer_by step_of idle
  ends below some at =
      let x = flight_of c.flights s in
      record {
        place = ap (λ (y : Flight). y.place) (flight_stepped below ∙ takes_last c.geometry x (found_by c s) some at);
        answers = rw (eq-eqb x.place (places_of x.call) at) refl;
      }

  -- and after a begin
  begun_if : (refused : Option Fault) (after : State) → refused ≡ None → begun_or refused after c ≡ after
  begun_if None after e = refl
  begun_if (Some fault) after e = absurd (cc)

  refused_if : (refused : Option Fault) (after : State) (fault : Fault) → refused ≡ Some fault → begun_or refused after c ≡ c
  refused_if None after fault e = absurd (cc)
  refused_if (Some fault') after fault e = refl

  pub refused_kept : (call' : Call) (fault : Fault) → refusal c s call' ≡ Some fault → after_begin c s call' ≡ c
  unfolding after_begin
  refused_kept call' fault e = refused_if (refusal c s call') (accepted c s call') fault e

  pub begins_first : s < length c.flights → (call' : Call) → refusal c s call' ≡ None → flight_of (after_begin c s call').flights s ≡ first_flight c s call'
  unfolding after_begin flight_at
  begins_first below call' e =
      ap (λ (d : State). flight_of d.flights s) (begun_if (refusal c s call') (accepted c s call') e)
      ∙ ap (λ (f : ℕ → Flight). f s) (flight_at-accepted c s call' below) ∙ upd_same (flight_at c) s _

  pub begins_alone : s < length c.flights → (call' : Call) → KeepsOthers c (after_begin c s call') s
  unfolding after_begin flight_at
  begins_alone below call' other differs = either (refusal c s call')
    where
      either : (refused : Option Fault) → flight_of (begun_or refused (accepted c s call') c).flights other ≡ flight_of c.flights other
      either None = ap (λ (f : ℕ → Flight). f other) (flight_at-accepted c s call' below) ∙ upd_other (flight_at c) s _ other differs
      either (Some fault) = refl
