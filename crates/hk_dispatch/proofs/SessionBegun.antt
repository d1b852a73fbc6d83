-- Each seat of a session has begun at most one call a tick. So no task of a run runs out of calls.
use Rattle.std.proofs.Common.{◌≡◌, ◌≢◌, ℕ, zero, suc, ◌+◌, ◌^◌, ◌≤◌, Bool, true, false, List, Option, Some, None, sym, subst, arith, inl, inr}
use Rattle.std.proofs.lemmas.Bool.{cases_Bool, leb-true}
use Rattle.std.specs.Prelude.{nat_le, not, is_some, ◌&&◌, ◌==◌, slice_index, if◌then◌else◌}
use Rattle.hk_words.specs.declared.call.Call.{Call}
use Rattle.hk_words.specs.declared.geometry.Geometry.{Geometry}
use Rattle.hk_words.specs.Calls.{entered}
use Rattle.hk_words.specs.Geometry.{tasks}
use Rattle.hk_model.proofs.Lists.{get_or-set_cases}
use Rattle.hk_model.proofs.Views.{get_or-replicate_same}
use Rattle.hk_core.specs.declared.outcome.Fault.{Fault}
use Rattle.hk_core.specs.declared.outcome.Fault.TheVariants.{Nil, Field, Spent}
use Rattle.hk_core.specs.State as machine
use Rattle.hk_core.specs.State.{State}
use Rattle.hk_core.specs.Step.{next, history_after}
use Rattle.hk_core.specs.Begin.{most_calls, has_field, entered_word, refusal, accepted, after_begin, begun_or}
use Rattle.hk_core.specs.Collect.{next_collected}
use Rattle.hk_core.specs.Run.{Running, begin, step, act, is_busy, may_begin}
use Rattle.hk_collect.specs.Used.{Trace, trace_act, trace_opening}
use Rattle.hk_plan.specs.declared.Ready.{Ready}
use Rattle.hk_script.specs.declared.walk.Need.{Need}
use Rattle.hk_script.specs.declared.walk.Need.TheVariants as need
use Rattle.hk_sheet.specs.declared.sheet.Sheet.{Sheet}
use Rattle.hk_dispatch.specs.Moment.{Moment, core_of, course_at, need_at, opening}
use Rattle.hk_dispatch.specs.Turns.{Turn, to_task, to_collector, to_nobody, turn}
use Rattle.hk_dispatch.specs.Ticks.{run_first, run_on, run_by, after_task, after_event, after_turn}
use Rattle.hk_dispatch.specs.Session.{after_tick, state}
use Rattle.hk_dispatch.proofs.Tracing.{traced_begin, traced_step}
use Rattle.hk_dispatch.proofs.CollectorTick.{core_collected}

-- no seat has begun more calls than so many
abbrev pub BegunFew : State → ℕ → Type 0
BegunFew c t = (s : ℕ) → slice_index c.begun s ≤ t

more : (c : State) (t : ℕ) → BegunFew c t → BegunFew c (suc t)
more c t h s = let few = h s in omega (arith, few)

-- AN ACTION

by_condition : (test : Bool) (a b : Running) (t : ℕ) → BegunFew a.core t → BegunFew b.core t → BegunFew (if test then a else b).core t
by_condition true a b t x y = x
by_condition false a b t x y = y

begun_more : (c : State) (seat t : ℕ) (call : Call) → BegunFew c t → BegunFew (after_begin c seat call) (suc t)
unfolding after_begin accepted
begun_more c seat t call h = by_refusal (refusal c seat call)
  where
    accepted_few : (s : ℕ) → slice_index (accepted c seat call).begun s ≤ suc t
    accepted_few s = elim (get_or-set_cases c.begun seat (slice_index c.begun seat + 1) s 0) [
      | inl own ↦ let few = h seat in omega (arith, few, own)
      | inr other ↦ let few = h s in omega (arith, few, other)
    ]

    by_refusal : (o : Option Fault) → BegunFew (begun_or o (accepted c seat call) c) (suc t)
    by_refusal (Some fault) = more c t h
    by_refusal None = accepted_few

begin_few : (r : Running) (seat t : ℕ) (c : Call) → BegunFew r.core t → BegunFew (act r (begin seat c)).core (suc t)
unfolding act
begin_few r seat t c h = by_condition (may_begin r.core seat c) (record r { core = after_begin r.core seat c }) r (suc t) (begun_more r.core seat t c h) (more r.core t h)

step_few : (r : Running) (seat t : ℕ) → BegunFew r.core t → BegunFew (act r (step seat)).core t
unfolding act next
step_few r seat t h = by_condition (is_busy r.core seat) (record { core = next r.core seat; history = history_after r.core seat r.history }) r t h h

-- A TICK

stepped : (r : Trace) (seat t : ℕ) → BegunFew r.running.core t → BegunFew (trace_act r (step seat)).running.core t
stepped r seat t h = subst (λ (x : Running). BegunFew x.core t) (sym (traced_step r seat)) (step_few r.running seat t h)

first : (r : Trace) (seat t : ℕ) (c : Call) (o : Option Fault) → BegunFew r.running.core t → BegunFew (run_first r seat c o).running.core (suc t)
first r seat t c (Some fault) h = more r.running.core t h
first r seat t c None h = stepped (trace_act r (begin seat c)) seat (suc t) (subst (λ (x : Running). BegunFew x.core (suc t)) (sym (traced_begin r seat c)) (begin_few r.running seat t c h))

on : (r : Trace) (seat t : ℕ) (c : Call) (spent : ℕ) → BegunFew r.running.core t → BegunFew (run_on r seat c spent).running.core (suc t)
on r seat t c zero h = first r seat t c (refusal r.running.core seat c) h
on r seat t c (suc spent) h = more (trace_act r (step seat)).running.core t (stepped r seat t h)

by_need : (r : Trace) (seat t spent : ℕ) (wants : Option Need) → BegunFew r.running.core t → BegunFew (run_by r seat spent wants).running.core (suc t)
by_need r seat t spent (Some (need.Heap c)) h = on r seat t c spent h
by_need r seat t spent (Some (need.Work n)) h = more r.running.core t h
by_need r seat t spent (Some need.Local) h = more r.running.core t h
by_need r seat t spent (Some (need.Out value)) h = more r.running.core t h
by_need r seat t spent (Some (need.Ask c)) h = more r.running.core t h
by_need r seat t spent None h = more r.running.core t h

event_few : (m : Moment) (t : ℕ) → BegunFew (core_of m) t → BegunFew (core_of (after_event m)) (suc t)
unfolding next_collected
event_few m t h = subst (λ (c : State). BegunFew c (suc t)) (sym (core_collected m)) (more (core_of m) t h)

task_few : (sheet : Sheet) (m : Moment) (t seat : ℕ) → BegunFew (core_of m) t → BegunFew (core_of (after_task sheet m t seat)) (suc t)
unfolding after_task
task_few sheet m t seat h = by_need m.trace seat t (course_at m seat).spent (need_at sheet m seat) h

turn_few : (sheet : Sheet) (m : Moment) (t : ℕ) (o : Turn) → BegunFew (core_of m) t → BegunFew (core_of (after_turn sheet m t o)) (suc t)
turn_few sheet m t (to_task seat) h = task_few sheet m t seat h
turn_few sheet m t to_collector h = event_few m t h
turn_few sheet m t to_nobody h = more (core_of m) t h

-- THE RUN

module _ (g : Geometry) (choice : List Ready → ℕ) (sheet : Sheet) where
  tick_few : (m : Moment) (t : ℕ) (over : Option ℕ) → BegunFew (core_of m) t → BegunFew (core_of (after_tick choice sheet m t over)) (suc t)
  tick_few m t None h = turn_few sheet m t (turn choice sheet m t) h
  tick_few m t (Some words) h = more (core_of m) t h

  pub begun_few : (t : ℕ) → BegunFew (core_of (state g choice sheet t)) t
  unfolding state opening trace_opening machine.opening
  begun_few zero s = let none : slice_index (machine.opening g).begun s ≡ 0 = get_or-replicate_same (tasks g) s 0 in omega (arith, none)
  begun_few (suc t) s = tick_few (state g choice sheet t) t (state g choice sheet t).over (begun_few t) s

-- so nobody is refused for that
other_cause : (null field : Bool) → (if null then Some Nil else if field then Some Field else None) ≢ Some Spent
other_cause true field e = absurd (cc)
other_cause false true e = absurd (cc)
other_cause false false e = absurd (cc)

pub not_spent : (c : State) (seat : ℕ) (call : Call) (t : ℕ) → BegunFew c t → t ≤ 2 ^ 24 → refusal c seat call ≢ Some Spent
unfolding refusal
not_spent c seat call t h few e = elim (cases_Bool (nat_le most_calls (slice_index c.begun seat))) [
  | inl yes' ↦ absurd (let le : most_calls ≤ slice_index c.begun seat = leb-true most_calls (slice_index c.begun seat) yes' in let own = h seat in omega (arith, le, own, few))
  | inr no' ↦ other_cause (is_some (entered call) && entered_word c seat call == 0) (not (has_field call (entered_word c seat call))) (rw no' at e)
]
