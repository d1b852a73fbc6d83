-- The text of a run, and first parts of it.
use Rattle.std.proofs.Common.{◌≡◌, ℕ, suc, ◌-◌, List, [], ◌++◌, Option, Some, None, refl, ap, subst, arith}
use Rattle.std.specs.Io.KnownBytes.{Appends}
use Rattle.hk_words.specs.declared.geometry.Geometry.{Geometry}
use Rattle.hk_io.specs.Bytes.{AppendsPrefix, AppendsFront}
use Rattle.hk_io.proofs.BytesLemmas.{AppendsFront-trans, Appends-all, AppendsPrefix-append, AppendsPrefix-behind, AppendsPrefix-rest}
use Rattle.hk_plan.specs.declared.Ready.{Ready}
use Rattle.hk_sheet.specs.declared.sheet.Sheet.{Sheet}
use Rattle.hk_dispatch.specs.declared.tick.Tick.{Tick}
use Rattle.hk_dispatch.specs.declared.tick.Tick.TheVariants as tick
use Rattle.hk_dispatch.specs.Session.{state, IsTick}
use Rattle.hk_dispatch.specs.Told.{told}
use Rattle.hk_top.specs.declared.report.Form.{Form}
use Rattle.hk_top.specs.declared.report.Finish.{Finish}
use Rattle.hk_top.specs.declared.report.Finish.TheVariants as finish
use Rattle.hk_top.specs.Report.{text_of_tick, live_in, ticks_text, closing, last_lines, EndsSo, IsRunText}
use Rattle.hk_top.specs.Text.{live_line}
use Rattle.hk_top.proofs.Below.{below_more, prefix_below}
use Rattle.hk_top.proofs.RunEnds.{GoesOn, ran, stands, ends_past}

-- a tick that found too much, and one that didn't
pub live_told : (answer : Tick) (words : ℕ) → live_in answer ≡ Some words → answer ≡ tick.LiveOver words
live_told (tick.LiveOver w) words e = let same : w ≡ words = cc in ap tick.LiveOver same
live_told (tick.Ran who out end) words e = absurd (let x : None ≡ Some words = e in cc)
live_told tick.Over words e = absurd (let x : None ≡ Some words = e in cc)

pub none_found : (answer : Tick) (over : Option ℕ) → GoesOn answer over → ((words : ℕ) → live_in answer ≡ Some words → ⊥) → over ≡ None
none_found answer over (ran who out end is none) not_live = none
none_found answer over (stands words is some) not_live = absurd (not_live words (ap live_in is))

module _ (f : Form) (g : Geometry) (choice : List Ready → ℕ) (sheet : Sheet) where
  abbrev pub ticks : ℕ → List ℕ
  ticks n = ticks_text f g choice sheet n

  abbrev pub tick_text : ℕ → List ℕ
  tick_text n = text_of_tick f sheet n (told g choice sheet n)

  abbrev pub last : Finish → ℕ → List ℕ
  last end n = last_lines g choice sheet end n

  -- there is a text of the run of which a first part was taken
  abbrev pub IsCut : (a c : Option (List ℕ)) → Type 0
  IsCut a c = (end : Finish) × (text : List ℕ) × IsRunText f g choice sheet end text × AppendsPrefix a c text

  pub live_is : (n words : ℕ) → last (finish.Live words) (suc n) ≡ live_line n words sheet.heap.live
  unfolding last_lines
  live_is n words = let e : suc n - 1 ≡ n = omega arith in ap (λ k. live_line k words sheet.heap.live) e

  pub end_is : (n : ℕ) → last finish.AtEnd n ≡ closing sheet (state g choice sheet n)
  unfolding last_lines
  end_is n = refl

  module _ (a b c : Option (List ℕ)) (w : List ℕ) (n : ℕ) (front : AppendsFront a b (ticks n) w) where
    -- one more tick, of which some was taken, or which was added
    pub cut_tick : IsTick g choice sheet n → AppendsPrefix b c (w ++ tick_text n) → IsCut a c
    cut_tick t part =
        let e = ends_past g choice sheet n t in
        let later = e.later in (
          e.end,
          ticks e.ticks ++ last e.end e.ticks,
          record { ticks = e.ticks; ends = e.so; is = refl },
          AppendsPrefix-append a c (ticks e.ticks) (last e.end e.ticks)
              (prefix_below tick_text a b c [] w (tick_text n) n refl e.ticks (omega (arith, later)) front part),
        )

    pub next_front : (w1 : List ℕ) → AppendsFront b c (w ++ tick_text n) w1 → AppendsFront a c (ticks (suc n)) w1
    next_front w1 more = subst (λ x. AppendsFront a c x w1) (below_more tick_text n (tick_text n) refl) (AppendsFront-trans a b c (ticks n) w (tick_text n) w1 front more)

    -- the last lines, after all ticks
    module _ (end : Finish) (so : EndsSo g choice sheet end n) (line : List ℕ) (is : line ≡ last end n) where
      text : IsRunText f g choice sheet end (ticks n ++ last end n)
      text = record { ticks = n; ends = so; is = refl }

      pub cut_last : AppendsPrefix b c (w ++ line) → IsCut a c
      cut_last part = (end, ticks n ++ last end n, text, subst (λ x. AppendsPrefix a c (ticks n ++ x)) is (AppendsPrefix-behind a b c (ticks n) w line front part))

      whole : (w1 : List ℕ) → AppendsFront b c (w ++ line) w1 → AppendsFront a c (ticks n ++ last end n) w1
      whole w1 more = subst (λ x. AppendsFront a c (ticks n ++ x) w1) is (AppendsFront-trans a b c (ticks n) w line w1 front more)

      -- what waits is taken in part, or whole
      pub cut_rest : (d : Option (List ℕ)) (w1 : List ℕ) → AppendsFront b c (w ++ line) w1 → AppendsPrefix c d w1 → IsCut a d
      cut_rest d w1 more part = (end, ticks n ++ last end n, text, AppendsPrefix-rest a c d (ticks n ++ last end n) w1 (whole w1 more) part)

      pub all_taken : (d : Option (List ℕ)) (w1 : List ℕ) → AppendsFront b c (w ++ line) w1 → Appends c d w1 → (text : List ℕ) × IsRunText f g choice sheet end text × Appends a d text
      all_taken d w1 more rest = (ticks n ++ last end n, text, Appends-all a c d (ticks n ++ last end n) w1 (whole w1 more) rest)
