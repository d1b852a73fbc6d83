-- A session ends in one way, and has one text.
use Rattle.std.proofs.Common.{◌≡◌, ℕ, zero, suc, ◌+◌, ◌-◌, ◌≤◌, List, ◌++◌, Option, Some, None, refl, sym, ap, ◌∙◌, subst, arith, inl, inr}
use Rattle.std.proofs.lemmas.Bool.{cases_lt, cases_eq}
use Rattle.hk_words.specs.declared.geometry.Geometry.{Geometry}
use Rattle.hk_plan.specs.declared.Ready.{Ready}
use Rattle.hk_sheet.specs.declared.sheet.Sheet.{Sheet}
use Rattle.hk_dispatch.specs.declared.tick.Tick.{Tick}
use Rattle.hk_dispatch.specs.declared.tick.Tick.TheVariants as tick
use Rattle.hk_dispatch.specs.Moment.{Moment}
use Rattle.hk_dispatch.specs.Session.{after_tick, state, IsTick}
use Rattle.hk_dispatch.specs.Told.{told}
use Rattle.hk_top.specs.declared.report.Form.{Form}
use Rattle.hk_top.specs.declared.report.Finish.{Finish}
use Rattle.hk_top.specs.declared.report.Finish.TheVariants as finish
use Rattle.hk_top.specs.Report.{ticks_text, last_lines, live_in, EndsSo, at_horizon, live_over, IsRunText}
use Rattle.hk_top.proofs.RunEnds.{GoesOn, ran, stands, tick_goes_on}

found_over : (answer : Tick) (over : Option ℕ) → GoesOn answer over → over ≡ live_in answer
found_over answer over (ran who out end is none) = none ∙ sym (ap live_in is)
found_over answer over (stands words is some) = some ∙ sym (ap live_in is)

module _ (g : Geometry) (choice : List Ready → ℕ) (sheet : Sheet) where
  -- a session that stands stays so
  stays : (m : Moment) (at : ℕ) (over : Option ℕ) (words : ℕ) → over ≡ Some words → m.over ≡ over → (after_tick choice sheet m at over).over ≡ Some words
  stays m at (Some w) words is same = same ∙ is
  stays m at None words is same = absurd (let e : None ≡ Some words = is in cc)

  stands_on : (from more words : ℕ) → (state g choice sheet from).over ≡ Some words → (state g choice sheet (from + more)).over ≡ Some words
  unfolding state
  stands_on from zero words some = let e : from ≡ from + 0 = omega arith in subst (λ t. (state g choice sheet t).over ≡ Some words) e some
  stands_on from (suc more) words some =
      let e : suc (from + more) ≡ from + suc more = omega arith in
      let m = state g choice sheet (from + more) in
      subst (λ t. (state g choice sheet t).over ≡ Some words) e (stays m (from + more) m.over words (stands_on from more words some) refl)

  stands_at : (from later words : ℕ) → from ≤ later → (state g choice sheet from).over ≡ Some words → (state g choice sheet later).over ≡ Some words
  stands_at from later words le some =
      let e : from + (later - from) ≡ later = omega (arith, le) in subst (λ t. (state g choice sheet t).over ≡ Some words) e (stands_on from (later - from) words some)

  pub found : (at words : ℕ) → IsTick g choice sheet at → told g choice sheet at ≡ tick.LiveOver words → (state g choice sheet (suc at)).over ≡ Some words
  found at words t is = found_over (told g choice sheet at) (state g choice sheet (suc at)).over (tick_goes_on g choice sheet at t) ∙ ap live_in is

  none_and_some : (o : Option ℕ) (words : ℕ) → o ≡ None → o ≡ Some words → ⊥
  none_and_some o words a b = let e : None ≡ Some words = sym a ∙ b in cc

  one_end : (end end' : Finish) (ticks ticks' : ℕ) → EndsSo g choice sheet end ticks → EndsSo g choice sheet end' ticks' → (end ≡ end') × (ticks ≡ ticks')
  one_end end end' ticks ticks' (at_horizon none) (at_horizon none') = (refl, refl)
  one_end end end' ticks ticks' (at_horizon none) (live_over at words t is) =
      let within = t.within in
      absurd (none_and_some (state g choice sheet sheet.ticks).over words none (stands_at (suc at) sheet.ticks words (omega (arith, within)) (found at words t is)))
  one_end end end' ticks ticks' (live_over at words t is) (at_horizon none) =
      let within = t.within in
      absurd (none_and_some (state g choice sheet sheet.ticks).over words none (stands_at (suc at) sheet.ticks words (omega (arith, within)) (found at words t is)))
  one_end end end' ticks ticks' (live_over at words t is) (live_over at' words' t' is') = elim (cases_lt at at') [
    | inl less ↦ absurd (none_and_some (state g choice sheet at').over words t'.before_over (stands_at (suc at) at' words (omega (arith, less)) (found at words t is)))
    | inr more ↦ elim (cases_eq at at') [
      | inl same ↦ by_tick same
      | inr other ↦ absurd (none_and_some (state g choice sheet at).over words' t.before_over (stands_at (suc at') at words' (omega (arith, more, other)) (found at' words' t' is')))
    ]
  ]
    where
      by_tick : at ≡ at' → (finish.Live words ≡ finish.Live words') × (suc at ≡ suc at')
      by_tick same =
          let answers : tick.LiveOver words ≡ tick.LiveOver words' = sym is ∙ ap (told g choice sheet) same ∙ is' in
          let w : Some words ≡ Some words' = ap live_in answers in
          (let e : words ≡ words' = cc in ap finish.Live e, ap suc same)

  pub one_run : (f : Form) (end end' : Finish) (text text' : List ℕ) → IsRunText f g choice sheet end text → IsRunText f g choice sheet end' text' → (end ≡ end') × (text ≡ text')
  one_run f end end' text text' a b =
      let one = one_end end end' a.ticks b.ticks a.ends b.ends in
      (one.0, a.is ∙ ap (λ t. ticks_text f g choice sheet t ++ last_lines g choice sheet end t) one.1 ∙ ap (λ e. ticks_text f g choice sheet b.ticks ++ last_lines g choice sheet e b.ticks) one.0 ∙ sym b.is)
