-- How a session ends: each tick goes on, or finds more words reserved than the space has for evacuation.
use Rattle.std.proofs.Common.{◌≡◌, ℕ, zero, suc, ◌+◌, ◌-◌, ◌<◌, ◌≤◌, true, List, Option, Some, None, refl, sym, ◌∙◌, subst, arith}
use Rattle.std.specs.Prelude.{nat_lt}
use Rattle.hk_words.specs.declared.geometry.Geometry.{Geometry}
use Rattle.hk_core.specs.declared.spot.Work.{Work}
use Rattle.hk_core.specs.Collect.{work_by_collector}
use Rattle.hk_plan.specs.declared.Ready.{Ready}
use Rattle.hk_sheet.specs.declared.sheet.Sheet.{Sheet}
use Rattle.hk_dispatch.specs.declared.tick.Who.{Who}
use Rattle.hk_dispatch.specs.declared.tick.End.{End}
use Rattle.hk_dispatch.specs.declared.tick.Tick.{Tick}
use Rattle.hk_dispatch.specs.declared.tick.Tick.TheVariants as tick
use Rattle.hk_dispatch.specs.Moment.{Moment, core_of, opening}
use Rattle.hk_dispatch.specs.Turns.{Turn, to_task, to_collector, to_nobody, turn}
use Rattle.hk_dispatch.specs.Ticks.{over_in, after_task, after_event, after_turn}
use Rattle.hk_dispatch.specs.Session.{after_tick, state, IsTick}
use Rattle.hk_dispatch.specs.Told.{told, told_turn, told_event, told_by}
use Rattle.hk_top.specs.declared.report.Finish.{Finish}
use Rattle.hk_top.specs.declared.report.Finish.TheVariants as finish
use Rattle.hk_top.specs.Report.{EndsSo, at_horizon, live_over}

-- a tick that answers so, after which the collector has found this
pub data GoesOn (answer : Tick) (over : Option ℕ) : Type 0 where
  ran : (who : Who) (out : Option ℕ) (end : Option End) → answer ≡ tick.Ran who out end → over ≡ None → GoesOn answer over
  stands : (words : ℕ) → answer ≡ tick.LiveOver words → over ≡ Some words → GoesOn answer over

pub not_over : (answer : Tick) (over : Option ℕ) → GoesOn answer over → answer ≡ tick.Over → ⊥
not_over answer over (ran who out end is none) e = let x : tick.Over ≡ tick.Ran who out end = sym e ∙ is in cc
not_over answer over (stands words is some) e = let x : tick.Over ≡ tick.LiveOver words = sym e ∙ is in cc

event_goes_on : (done : Work) (found : Option ℕ) → GoesOn (told_event done found) found
event_goes_on done None = ran _ _ _ refl refl
event_goes_on done (Some words) = stands words refl refl

turn_goes_on : (sheet : Sheet) (m : Moment) (at : ℕ) (o : Turn) → m.over ≡ None → GoesOn (told_turn sheet m at o) (after_turn sheet m at o).over
unfolding after_task after_event
turn_goes_on sheet m at (to_task seat) none = ran _ _ _ refl none
turn_goes_on sheet m at to_collector none = event_goes_on (work_by_collector (core_of m)) (over_in (work_by_collector (core_of m)))
turn_goes_on sheet m at to_nobody none = ran _ _ _ refl none

module _ (g : Geometry) (choice : List Ready → ℕ) (sheet : Sheet) where
  told_is : (at : ℕ) (over : Option ℕ) → over ≡ None → at < sheet.ticks → (m : Moment) → told_by choice sheet m at over ≡ told_turn sheet m at (turn choice sheet m at)
  told_is at None none within m = let e : nat_lt at sheet.ticks ≡ true = grind (arith, within) in rw e refl
  told_is at (Some words) none within m = absurd (let e : Some words ≡ None = none in cc)

  next_is : (at : ℕ) (m : Moment) (over : Option ℕ) → over ≡ None → after_tick choice sheet m at over ≡ after_turn sheet m at (turn choice sheet m at)
  next_is at m None none = refl
  next_is at m (Some words) none = absurd (let e : Some words ≡ None = none in cc)

  pub tick_goes_on : (at : ℕ) → IsTick g choice sheet at → GoesOn (told g choice sheet at) (state g choice sheet (suc at)).over
  unfolding told state
  tick_goes_on at t =
      let m = state g choice sheet at in
      let answer = told_is at m.over t.before_over t.within m in
      let next = next_is at m m.over t.before_over in
      subst (λ a. GoesOn a (after_tick choice sheet m at m.over).over) (sym answer)
      (subst (λ (n : Moment). GoesOn (told_turn sheet m at (turn choice sheet m at)) n.over) (sym next) (turn_goes_on sheet m at (turn choice sheet m at) t.before_over))

  -- from a moment before the collector found too much the session comes to an end
  pub record Ends (from : ℕ) : Type 0 where
    pub end : Finish
    pub ticks : ℕ
    pub so : EndsSo g choice sheet end ticks
    pub later : from ≤ ticks

  ends_by : (from : ℕ) → IsTick g choice sheet from → ((state g choice sheet (suc from)).over ≡ None → Ends (suc from))
      → GoesOn (told g choice sheet from) (state g choice sheet (suc from)).over → Ends (suc from)
  ends_by from t on (ran who out end answer goes) = on goes
  ends_by from t on (stands words answer over) = record { end = finish.Live words; ticks = suc from; so = live_over from words t answer; later = omega arith }

  ends_after : (left from : ℕ) → from + left ≡ sheet.ticks → (state g choice sheet from).over ≡ None → Ends from
  ends_after zero from here none =
      let same : from ≡ sheet.ticks = omega (arith, here) in
      record { end = finish.AtEnd; ticks = sheet.ticks; so = at_horizon (subst (λ t. (state g choice sheet t).over ≡ None) same none); later = omega (arith, same) }
  ends_after (suc left) from here none =
      let t : IsTick g choice sheet from = record { within = omega (arith, here); before_over = none } in
      let e = ends_by from t (λ goes. ends_after left (suc from) (omega (arith, here)) goes) (tick_goes_on from t) in
      let l = e.later in
      record { end = e.end; ticks = e.ticks; so = e.so; later = omega (arith, l) }

  pub ends_from : (from : ℕ) → from ≤ sheet.ticks → (state g choice sheet from).over ≡ None → Ends from
  ends_from from le none = ends_after (sheet.ticks - from) from (omega (arith, le)) none

  -- and with a tick, after that
  pub ends_past : (from : ℕ) → IsTick g choice sheet from → Ends (suc from)
  ends_past from t = let within = t.within in ends_by from t (λ goes. ends_from (suc from) (omega (arith, within)) goes) (tick_goes_on from t)

  -- the session is open at first
  pub opened : (state g choice sheet 0).over ≡ None
  unfolding state opening
  opened = refl
