-- Each atomic step of a pass keeps the rule, and tells what the pass knows afterwards.
use Rattle.std.proofs.Common.{◌≡◌, ℕ, ◌<◌, List, ◌∷◌, ◌++◌, refl, sym, ◌∙◌, ap, subst, Option, Some}
use Rattle.std.specs.Prelude.{slice_index, slice_set}
use Rattle.atomic_table.specs.Table.{Me, keeps, Allows}
use Rattle.hk_words.specs.declared.geometry.Geometry.{Geometry}
use Rattle.hk_core.specs.declared.event.Event.{Event}
use Rattle.hk_core.specs.Event.{fired, learnt_from, old_of, word_of, word_after, AmountFits}
use Rattle.hk_core.specs.Step.{step_of, event_of, took_of}
use Rattle.hk_core.specs.Fits.{FindsNumber}
use Rattle.hk_core.specs.Run.{step, run, run_from_opening}
use Rattle.hk_table.specs.Knows.{PassView, Knows, pass}
use Rattle.hk_table.specs.Rule.{PassFits, Fits as KnowsFits, InOneRun}
use Rattle.hk_table.specs.Deeds.{RestsFit, answered, LastStep, Deed, learnt_by, opens, deeds, rests, settled, most_rests, MayDo, Goes, StepsFrom, Stepped}
use Rattle.hk_table.specs.declared.view.View.{View}
use Rattle.hk_table.proofs.Keeps.{IsPass, seat_acts}
use Rattle.hk_table.proofs.Stepping.{deeds_by, is_open, can_fire, deeds_at, known, goes, q}

pub pass_step : (g : Geometry) (d : Deed) (slots id : ℕ) (me : Me (Unit {0}) View) (p : PassView) (e : Event) (f : ℕ → ℕ) → me.0.knows ≡ pass g p → MayDo g d p
    → event_of g d.flight ≡ Some e → ((n : ℕ) → AmountFits e n → n < 18446744073709551616 → f n ≡ word_after e n)
    → Allows (InOneRun g) slots id me (word_of e) f (Stepped d me)
unfolding fired old_of
pass_step g d slots id me p e f is may asks same s h homes at small =
    let here = run_from_opening g h.log in
    let fits : PassFits g h.log here p = (subst (λ (k : Knows). KnowsFits g h.log here k) is (h.views id me.0 at)).1 in
    let n = slice_index s.words (word_of e) in
    let found' = old_of here.core.row e in
    let same_word : n ≡ found' = ap (λ (row : List ℕ). slice_index row (word_of e)) h.words in
    let after = q g d h.log p fits may e asks in
    let w : View = record { knows = pass g after } in
    let own = (is_open g d h.log p fits may).own in
    let there = (deeds_at g d h.log p fits may e asks) in
    let amount = (can_fire g d h.log p fits may e asks).amount in
    let row_same : (run here (deeds g d found')).core.row ≡ slice_set s.words (word_of e) (f n) =
    there.row ∙ (λ i. slice_set (sym h.words i) (word_of e) (word_after e found'))
    ∙ ap (slice_set s.words (word_of e)) (ap (word_after e) (sym same_word) ∙ sym (same n (subst (AmountFits e) (sym same_word) amount) small)) in
    let pass_is : IsPass me.0.knows p = subst (λ (k : Knows). IsPass k p) (sym is) refl in (
      w,
      keeps,
      tt,
      subst (λ (words : List ℕ). InOneRun g (record { words = words; homes = s.homes; views = slice_set s.views id w })) row_same
          (seat_acts g s h id me.0 p after (deeds g d found') at pass_is fits.seat (deeds_by g d found' p.seat own) refl (known g d h.log p fits may e asks).so),
      (refl, subst (λ (k : Knows). StepsFrom d k n (pass g after)) (sym is) (after, refl, subst (λ (m : ℕ). Goes g d p m after) (sym same_word) (goes g d h.log p fits may e asks))),
    )

-- what was found tells no more than what was learnt
goes_so : (g : Geometry) (d : Deed) (p q : PassView) (m n : ℕ) → learnt_by (event_of g d.flight) m ≡ learnt_by (event_of g d.flight) n → Goes g d p m q → Goes g d p n q
goes_so g d p q m n same go = record {
  stands = go.stands;
  seat = go.seat;
  between = go.between;
  others = go.others;
  log = go.log ∙ ap (λ (x : ℕ). (p.log ++ go.between) ++ (opens d ++ step d.flight.seat ∷ rests most_rests g (took_of g d.flight x))) same;
  met = go.met;
  last = λ few. subst (λ (x : ℕ). LastStep g p.seat (run (run_from_opening g (p.log ++ go.between)) (opens d)) d.flight q.flight (step d.flight.seat ∷ rests most_rests g (took_of g d.flight x)) (answered most_rests g (took_of g d.flight x) (step_of d.flight))) same
      (go.last few);
  accepted = go.accepted;
  flight = go.flight ∙ ap (λ (x : ℕ). settled most_rests g (took_of g d.flight x)) same;
  begun = go.begun;
  registers = go.registers;
  finds = subst (λ (x : ℕ). FindsNumber d.flight d.flight.call x) same go.finds;
  fit = subst (λ (x : ℕ). RestsFit most_rests g (took_of g d.flight x)) same go.fit;
  used = go.used;
  more = go.more;
  trail = go.trail;
}

pub same_found : (d : Deed) (k : Knows) (g : Geometry) (p : PassView) → k ≡ pass g p → (e : Event) → event_of g d.flight ≡ Some e → (k' : Knows) (m n : ℕ)
    → learnt_from e m ≡ learnt_from e n → StepsFrom d k m k' → StepsFrom d k n k'
same_found d k g p is e asks k' m n same t =
    let t' : StepsFrom d (pass g p) m k' = subst (λ (x : Knows). StepsFrom d x m k') is t in
    let by : (x : ℕ) → learnt_by (event_of g d.flight) x ≡ learnt_from e x = λ x. ap (λ (o : Option Event). learnt_by o x) asks in
    subst (λ (x : Knows). StepsFrom d x n k') (sym is) (t'.0, t'.1, goes_so g d p t'.0 m n (by m ∙ same ∙ sym (by n)) t'.2)
