-- What an accepted begin makes of a run; a pass that holds the registers and the count of its seat begins as the seat does.
use Rattle.std.proofs.Common.{◌≡◌, ℕ, ◌+◌, ◌<◌, Bool, true, false, List, length, refl, sym, ◌∙◌, ap, subst, arith, get_or-set_same, lt-ltb, Option, Some, None}
use Rattle.std.proofs.lemmas.Bool.{and_from}
use Rattle.std.proofs.lemmas.Bool.Decides.{nat_tests}
use Rattle.std.specs.Prelude.{nat_eq, nat_lt, not, slice_index, slice_set}
use Rattle.hk_words.specs.declared.geometry.Geometry.{Geometry}
use Rattle.hk_words.specs.declared.call.Call.{Call}
use Rattle.hk_words.specs.declared.call.Call.TheVariants as call
use Rattle.hk_words.specs.Geometry.{tasks}
use Rattle.hk_words.specs.Calls.{RegistersFit}
use Rattle.hk_model.specs.History.{is_question}
use Rattle.hk_core.specs.declared.outcome.Fault.{Fault}
use Rattle.hk_core.specs.State.{State, idle, flight_of}
use Rattle.hk_core.specs.Begin.{register_word, entered_word, copied_word, refusal, accepted, after_begin, begun_or, first_flight}
use Rattle.hk_core.specs.Run.{Running, begin, act, may_begin, is_idle}
use Rattle.hk_core.proofs.Places.{begins_first}
use Rattle.hk_core.proofs.Registers.{registers_tested}
use Rattle.hk_core.proofs.Turns.{has_flight}
use Rattle.hk_table.specs.Deeds.{entered_by, copied_by, refused_by, refused_with, first_by, first_with}
use Rattle.hk_table.specs.Knows.{PassView}
use Rattle.hk_table.proofs.Deeds.{SeatAt, IsRun, if_true, below_here}

module _ (g : Geometry) (s : ℕ) (r : Running) (h : IsRun g s r) (call' : Call) where
  begin_row : refusal r.core s call' ≡ None → (after_begin r.core s call').row ≡ r.core.row
  unfolding after_begin accepted
  begin_row accepts = either (refusal r.core s call')
    where
      either : (refused : Option Fault) → (begun_or refused (accepted r.core s call') r.core).row ≡ r.core.row
      either None = refl
      either (Some fault) = refl

  begin_begun : refusal r.core s call' ≡ None → (after_begin r.core s call').begun ≡ slice_set r.core.begun s (slice_index r.core.begun s + 1)
  unfolding after_begin accepted
  begin_begun accepts = either (refusal r.core s call') accepts
    where
      either : (refused : Option Fault) → refused ≡ None → (begun_or refused (accepted r.core s call') r.core).begun ≡ slice_set r.core.begun s (slice_index r.core.begun s + 1)
      either None e = refl
      either (Some fault) e = absurd (cc)

  pub begins : (flight_of r.core.flights s).place ≡ 0 → is_question call' ≡ false → RegistersFit g.registers call' → act r (begin s call') ≡ record r { core = after_begin r.core s call' }
  unfolding act
  begins idle asks fit =
      if_true (may_begin r.core s call') _ _
      (and_from (is_idle r.core s) _ (and_from (nat_lt s (tasks r.core.geometry)) _ (lt-ltb s (tasks r.core.geometry) (below_here g s r h)) (idle_test (flight_of r.core.flights s).place idle))
      (and_from (not (is_question call')) _ (not_test (is_question call') asks)
      ((registers_tested r.core.geometry.registers call').1 (subst (λ (k : Geometry). RegistersFit k.registers call') (sym h.geometry) fit))))
    where
      idle_test : (place : ℕ) → place ≡ 0 → nat_eq place 0 ≡ true
      idle_test place e = grind (arith, nat_tests)

      not_test : (b : Bool) → b ≡ false → not b ≡ true
      not_test true e = absurd (cc)
      not_test false e = refl

  pub begin_at : (flight_of r.core.flights s).place ≡ 0 → is_question call' ≡ false → RegistersFit g.registers call' → refusal r.core s call' ≡ None
      → SeatAt (act r (begin s call')) s r.core.row (first_flight r.core s call') (slice_index r.core.begun s + 1)
  begin_at idle asks fit accepts =
      let same = begins idle asks fit in
      let there = has_flight r.core s h.lawful.sized (below_here g s r h) in
      let counted : s < length r.core.begun = let b = h.lawful.sized.begun in let c = below_here g s r h in omega arith in
      record {
        row = ap (λ (k : Running). k.core.row) same ∙ begin_row accepts;
        flight = ap (λ (k : Running). flight_of k.core.flights s) same ∙ begins_first r.core s there call' accepts;
        begun = ap (λ (k : Running). slice_index k.core.begun s) same ∙ ap (λ (l : List ℕ). slice_index l s) (begin_begun accepts) ∙ get_or-set_same r.core.begun s _ 0 counted;
      }

-- a pass that holds the seat's registers and count begins as the seat does
module _ (g : Geometry) (c : State) (p : PassView) (registers : (reg : ℕ) → reg < g.registers → register_word c p.seat reg ≡ slice_index p.registers reg)
    (count : slice_index c.begun p.seat ≡ p.begun) where
  entered_same : (call' : Call) → RegistersFit g.registers call' → entered_word c p.seat call' ≡ entered_by p call'
  unfolding entered_word
  entered_same (call.Get reg field) fit = registers reg fit
  entered_same (call.Put reg field value) fit = registers reg fit
  entered_same (call.Load dest reg field) fit = registers reg fit.1
  entered_same (call.Store reg field from) fit = registers reg fit.0
  entered_same (call.Move dest from) fit = refl
  entered_same (call.Clear dest) fit = refl
  entered_same (call.New dest shape) fit = refl
  entered_same (call.Same a b) fit = refl
  entered_same (call.IsNull reg) fit = refl

  copied_same : (call' : Call) → RegistersFit g.registers call' → copied_word c p.seat call' ≡ copied_by p call'
  unfolding copied_word
  copied_same (call.Get reg field) fit = refl
  copied_same (call.Put reg field value) fit = refl
  copied_same (call.Load dest reg field) fit = refl
  copied_same (call.Store reg field from) fit = registers from fit.1
  copied_same (call.Move dest from) fit = registers from fit.1
  copied_same (call.Clear dest) fit = refl
  copied_same (call.New dest shape) fit = refl
  copied_same (call.Same a b) fit = refl
  copied_same (call.IsNull reg) fit = refl

  pub refusal_same : (call' : Call) → RegistersFit g.registers call' → refusal c p.seat call' ≡ refused_by p call'
  unfolding refusal refused_with
  refusal_same call' fit = rw (count, entered_same call' fit) refl

  pub first_same : (call' : Call) → RegistersFit g.registers call' → first_flight c p.seat call' ≡ first_by p call'
  unfolding first_flight first_with
  first_same call' fit = rw (entered_same call' fit, copied_same call' fit) refl
