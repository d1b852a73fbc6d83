-- What a machine keeps whose collector owes events: through an event that is owed, and through begins and steps.
use Rattle.std.proofs.Common.{◌≡◌, ◌≢◌, ℕ, ◌+◌, ◌-◌, ◌*◌, ◌≤◌, Bool, true, false, inl, inr, refl, sym, ◌∙◌, ap, arith}
use Rattle.std.proofs.lemmas.Bool.{cases_Bool}
use Rattle.std.specs.Prelude.{◌&&◌, Option, Some, None}
use Rattle.hk_words.specs.declared.call.Call.{Call}
use Rattle.hk_words.specs.Layout.{w0_words}
use Rattle.hk_model.specs.History.{History}
use Rattle.hk_core.specs.declared.outcome.Fault.{Fault}
use Rattle.hk_core.specs.declared.spot.Line.TheVariants as line
use Rattle.hk_core.specs.declared.spot.Work.{Work}
use Rattle.hk_core.specs.declared.spot.Work.TheVariants.{Useful, Flipped, Lost, BusyFrame, BusyObject, Unlinked, Grey, LiveOver, Worn}
use Rattle.hk_core.specs.State.{State, opening, opening_spot}
use Rattle.hk_core.specs.Step.{next, reference_size}
use Rattle.hk_core.specs.Begin.{refusal, accepted, after_begin, begun_or}
use Rattle.hk_core.specs.Run.{begin, act, may_begin}
use Rattle.hk_core.specs.Collect.{next_collected, work_by_collector}
use Rattle.hk_core.specs.View.{flight_at}
use Rattle.hk_core.specs.Lines as l
use Rattle.hk_core.specs.Lawful.{Lawful}
use Rattle.hk_core.proofs.Actions.{lawful_act_begin}
use Rattle.hk_core.proofs.OpeningLawful.{opening_lawful}
use Rattle.hk_core.proofs.OpeningRow.{w0-opening}
use Rattle.hk_core.proofs.Seven.{seat_steps}
use Rattle.hk_collect.specs.Runs.{in_attempt}
use Rattle.hk_collect.specs.Measure.{IsUntouched, IsCalm, NoneInFlight, WaitsForNobody, KeepsMeasure, CountsAttempt, useful_after}
use Rattle.hk_collect.specs.Pays.{HeapKept, ObjectsWithin, IsAttemptBound, Pays, debt_after, liable, met_still, LostIsFew, CollectorPays, MetKeepsHeap, BeginsKeepHeap, StepsKeepHeap, OpeningKeepsHeap}
use Rattle.hk_collect.specs.Taken.{Takes, used_in, taken_by}
use Rattle.hk_collect.specs.Works.{Loses}
use Rattle.hk_collect.proofs.Causes.{has_causes}
use Rattle.hk_collect.proofs.EachLine.{lawful_collected}
use Rattle.hk_collect.proofs.MeasureEvents.{collector_is_measured, opening_is_calm}
use Rattle.hk_collect.proofs.MeasureSeats.{seats_keep_calm}
use Rattle.hk_collect.proofs.MeasureBounds.{objects_are_births, spent_at}
use Rattle.hk_collect.proofs.MeasureAttempts.{untouched_outside, event_keeps_untouched, attempt_succeeds, lost_closes_attempt, attempts_are_counted}
use Rattle.hk_collect.proofs.Taken.{steps_take, events_take_none, flips_begin_cycles}

-- THE LOSS

module _ (c : State) (history : History) (words attempt : ℕ) (h : Lawful c history) (sizes : ObjectsWithin c.geometry history words) (bound : IsAttemptBound c.geometry words attempt) where
  few_lost : (lost : ℕ) → Loses c lost → lost ≤ attempt
  unfolding l.most_spent l.has_item
  few_lost lost (inl (seat, o)) =
      let few : c.spot.spent ≤ 1 + 4 * c.geometry.registers = spent_at c history h (line.FrameTrade seat) (1 + 4 * c.geometry.registers) o.at refl in
      omega (arith, o.counted, bound.frames)
  few_lost lost (inr o) =
      let few : c.spot.spent ≤ 1 + 5 * (reference_size c.spot.item - 1) = spent_at c history h line.ObjectTrade (1 + 5 * (reference_size c.spot.item - 1)) o.at refl in
      let moved = objects_are_births c history h (ap l.has_item o.at) in
      let size : reference_size c.spot.item ≤ words = let w = moved.1.words in let s = sizes moved.0 in omega arith in
      omega (arith, o.counted, bound.objects)

pub lost_is_few : LostIsFew
lost_is_few c history words attempt lost h sizes bound e = few_lost c history words attempt h sizes bound lost (((has_causes c).lost lost).0 e)

-- AN EVENT THAT IS OWED

less_liable : (attempt : ℕ) (met_now open' : Bool) → liable attempt (met_now && open') ≤ liable attempt met_now
less_liable attempt true true = omega arith
less_liable attempt true false = omega arith
less_liable attempt false open' = omega arith

module _ (rate words attempt : ℕ) (c : State) (history : History) (useful debt : ℕ) (met_now : Bool)
    (h : HeapKept rate c history useful debt (used_in c) met_now) (bound : IsAttemptBound c.geometry words attempt) (sizes : ObjectsWithin c.geometry history words)
    (none : NoneInFlight c) (owed : 1 ≤ debt) (fits : (found : ℕ) → work_by_collector c ≢ LiveOver found) (goes_on : work_by_collector c ≢ Worn) where
  measured : KeepsMeasure c useful
  measured = collector_is_measured c history useful h.lawful h.calm none h.useful_few

  counts : CountsAttempt c useful
  counts = attempts_are_counted c useful h.counted

  few_events : (lost : ℕ) → work_by_collector c ≡ Lost lost → lost ≤ attempt
  few_events lost = lost_is_few c history words attempt lost h.lawful sizes bound

  was_met : (lost : ℕ) → work_by_collector c ≡ Lost lost → met_now ≡ true
  was_met lost e = elim (cases_Bool met_now) [
    | inl yes' ↦ yes'
    | inr no' ↦ absurd (attempt_succeeds c lost (h.untouched no') e)
  ]

  untouched_then : met_still c met_now ≡ false → IsUntouched (next_collected c)
  untouched_then e = elim (cases_Bool met_now) [
    | inl yes' ↦ untouched_outside (next_collected c) (let b : in_attempt (next_collected c).spot.line ≡ false = rw yes' at e in b)
    | inr no' ↦ event_keeps_untouched c history h.lawful (h.untouched no')
  ]

  -- no event but the flip changes the words used
  used_same : work_by_collector c ≢ Flipped → rate * used_in (next_collected c) ≡ rate * used_in c
  used_same other = ap (λ n. rate * n) (let u = (events_take_none c history h.lawful other).used in let e : used_in (next_collected c) ≡ used_in c = omega arith in e)

  record Sums (w : Work) : Type 0 where
    balance : rate * used_in (next_collected c) ≤ useful_after w useful + debt_after w debt
    falls : debt_after w debt + liable attempt (met_still c met_now) + 1 ≤ debt + liable attempt met_now

  sums : (w : Work) → work_by_collector c ≡ w → WaitsForNobody w → Sums w
  sums Useful e ok =
      let same = used_same (λ f. let x : ◌≡◌ {A = Work} Useful Flipped = sym e ∙ f in cc) in
      let balance = h.balance in
      record { balance = omega arith; falls = omega (arith, less_liable attempt met_now (in_attempt (next_collected c).spot.line)) }
  sums Flipped e ok =
      let none_used : rate * used_in (next_collected c) ≡ 0 = ap (λ n. rate * n) (flips_begin_cycles c history h.lawful e).used ∙ omega arith in
      record { balance = omega arith; falls = omega (arith, less_liable attempt met_now (in_attempt (next_collected c).spot.line)) }
  sums (Lost n) e ok =
      let same = used_same (λ f. let x : ◌≡◌ {A = Work} (Lost n) Flipped = sym e ∙ f in cc) in
      let balance = h.balance in
      let away : useful_after (work_by_collector c) useful + n ≡ useful + 1 = counts.taken_away n e in
      let back : useful_after (work_by_collector c) useful ≡ useful + 1 - n = ap (λ w. useful_after w useful) e in
      let closed = (lost_closes_attempt c n e).is_closed in
      let few = few_events n e in
      let was = was_met n e in
      record { balance = omega arith; falls = rw (was, closed) (omega arith) }
  sums (BusyFrame seat) e ok = absurd ok
  sums (BusyObject number) e ok = absurd ok
  sums (Unlinked place) e ok = absurd ok
  sums (Grey number) e ok = absurd ok
  sums (LiveOver found) e ok = absurd (fits found e)
  sums Worn e ok = absurd (goes_on e)

  owed_pays : Pays rate attempt c history useful debt met_now
  unfolding next_collected
  owed_pays =
      let all = sums (work_by_collector c) refl measured.waits_for_nobody in
      record {
        kept = record {
          lawful = lawful_collected c history h.lawful;
          calm = measured.calm;
          useful_few = measured.measured;
          counted = counts.least;
          untouched = untouched_then;
          balance = all.balance;
        };
        waits_for_nobody = measured.waits_for_nobody;
        falls = all.falls;
        lost_few = few_events;
        lost_met = was_met;
      }

pub collector_pays : CollectorPays
collector_pays rate words attempt c history useful debt met_now h bound sizes none owed fits goes_on = owed_pays rate words attempt c history useful debt met_now h bound sizes none owed fits goes_on

-- A TICK OF A TASK

pub met_keeps_heap : MetKeepsHeap
met_keeps_heap rate c history useful debt used met_now h = record {
  lawful = h.lawful;
  calm = h.calm;
  useful_few = h.useful_few;
  counted = h.counted;
  untouched = untouched_outside c;
  balance = h.balance;
}

-- a begin that may be done keeps a lawful state lawful
pub lawful_begun : (c : State) (history : History) (seat : ℕ) (call : Call) → may_begin c seat call ≡ true → Lawful c history → Lawful (after_begin c seat call) history
unfolding act
lawful_begun c history seat call may h =
    let done : Lawful (act (record { core = c; history = history }) (begin seat call)).core (act (record { core = c; history = history }) (begin seat call)).history =
    lawful_act_begin (record { core = c; history = history }) seat call h in
    let kept : Lawful (after_begin c seat call) history = rw may at done in
    kept

pub begins_keep_heap : BeginsKeepHeap
unfolding after_begin accepted
begins_keep_heap rate c history useful debt met_now seat call may h =
    by_refusal (refusal c seat call) (lawful_begun c history seat call may h.lawful) ((seats_keep_calm.begin c seat call).calm h.calm)
  where
    by_refusal : (o : Option Fault) → let after' = begun_or o (accepted c seat call) c in
        Lawful after' history → IsCalm after' → HeapKept rate after' history useful debt (used_in after') (in_attempt after'.spot.line)
    by_refusal None lawful calm = record {
      lawful = lawful;
      calm = calm;
      useful_few = h.useful_few;
      counted = h.counted;
      untouched = untouched_outside (accepted c seat call);
      balance = h.balance;
    }
    by_refusal (Some fault) lawful calm = met_keeps_heap rate c history useful debt (used_in c) met_now h

pub steps_keep_heap : StepsKeepHeap
unfolding next flight_at
steps_keep_heap rate c history useful debt met_now s below flying h =
    let calm = seats_keep_calm.step c history s below flying h.lawful in
    let takes : Takes c (next c s) (taken_by c s) = steps_take c history s below h.lawful in
    let more : rate * used_in (next c s) ≡ rate * used_in c + rate * taken_by c s = ap (λ n. rate * n) takes.used ∙ omega arith in
    let balance = h.balance in
    record {
      lawful = (seat_steps c history s below h.lawful flying).lawful;
      calm = calm.calm h.calm;
      useful_few = h.useful_few;
      counted = h.counted;
      untouched = untouched_outside (next c s);
      balance = omega arith;
    }

pub opening_keeps_heap : OpeningKeepsHeap
unfolding opening opening_spot in_attempt
opening_keeps_heap rate g =
    let used : used_in (opening g) ≡ 0 = ap w0_words (w0-opening g) in
    let none : rate * used_in (opening g) ≡ 0 = ap (λ n. rate * n) used ∙ omega arith in
    record {
      lawful = opening_lawful g;
      calm = opening_is_calm g;
      useful_few = omega arith;
      counted = omega arith;
      untouched = λ _. untouched_outside (opening g) refl;
      balance = omega (arith, none);
    }
