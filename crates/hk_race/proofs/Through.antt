-- Each statement of a walk takes a tick at least, so there are no more than its script costs.
use Rattle.std.proofs.Common.{◌≡◌, ◌⊎◌, ℕ, ◌≤◌, ◌+◌, true, List, length, refl, sym, ◌∙◌, subst, arith, inl, inr, Option, Some, None, is_some, IsSome, false, zero, suc, [], ◌∷◌, slice_get}
use Rattle.std.proofs.lemmas.Bool.{cases_lt}
use Rattle.std.specs.Prelude.{IfSome}
use Rattle.std.specs.List.{AllByRecursion}
use Rattle.hk_words.specs.declared.call.Call.{Call}
use Rattle.hk_words.specs.declared.call.Call.TheVariants as call
use Rattle.hk_words.specs.declared.call.Reply.{Reply}
use Rattle.hk_words.specs.declared.call.Reply.TheVariants as reply
use Rattle.hk_words.specs.Calls.{RegistersFit}
use Rattle.hk_model.specs.History.{is_question}
use Rattle.hk_script.specs.declared.statement.Statement.{Statement}
use Rattle.hk_script.specs.declared.statement.Statement.TheVariants as statement
use Rattle.hk_script.specs.declared.statement.Test.TheVariants as test
use Rattle.hk_script.specs.declared.walk.Need.{Need}
use Rattle.hk_script.specs.declared.walk.Need.TheVariants as need
use Rattle.hk_script.specs.declared.walk.Walk.{Walk}
use Rattle.hk_script.specs.Cost.{greatest_ticks}
use Rattle.hk_script.specs.Left.{ticks_left}
use Rattle.hk_script.specs.Limits.{limits_of}
use Rattle.hk_script.specs.Needs.{NeedFits, IsQuestion}
use Rattle.hk_script.specs.Runs.{need_ticks, taken_by}
use Rattle.hk_script.specs.Spelling.{IsStatement}
use Rattle.hk_script.specs.Walks.{Fits, started, need_in, need_at, need_of, walk_after}
use Rattle.hk_script.proofs.Needs as needs
use Rattle.hk_script.proofs.Potential.{ticks_fall, ticks_started, goes_on_fitting}
use Rattle.hk_script.proofs.Stops.{started_fits, wants_until_end, nothing_at_end}
use Rattle.hk_race.specs.declared.progress.Progress.{Progress}
use Rattle.hk_race.specs.Goes.{RunsOn, Walks, IsThrough}

-- what a need says of its call
abbrev pub CallFits : (registers : ℕ) → Option Need → Type 0
CallFits registers (Some (need.Heap c)) = (is_question c ≡ false) × RegistersFit registers c
CallFits registers (Some (need.Ask c)) = (is_question c ≡ true) × RegistersFit registers c
CallFits registers other = Unit {0}

no_question : (c : Call) → ¬ (IsQuestion c) → is_question c ≡ false
no_question (call.Get r field) n = refl
no_question (call.Put r field number) n = refl
no_question (call.Load dest r field) n = refl
no_question (call.Store r field from) n = refl
no_question (call.Move dest from) n = refl
no_question (call.Clear dest) n = refl
no_question (call.New dest shape) n = refl
no_question (call.Same a b) n = absurd (n refl)
no_question (call.IsNull r) n = absurd (n refl)

a_question : (c : Call) → IsQuestion c → is_question c ≡ true
a_question (call.Get r field) q = absurd (omega (arith, q))
a_question (call.Put r field number) q = absurd (omega (arith, q))
a_question (call.Load dest r field) q = absurd (omega (arith, q))
a_question (call.Store r field from) q = absurd (omega (arith, q))
a_question (call.Move dest from) q = absurd (omega (arith, q))
a_question (call.Clear dest) q = absurd (omega (arith, q))
a_question (call.New dest shape) q = absurd (omega (arith, q))
a_question (call.Same a b) q = refl
a_question (call.IsNull r) q = refl

fits_need : (fields registers : ℕ) (n : Need) → NeedFits (limits_of fields registers) n → CallFits registers (Some n)
fits_need fields registers (need.Work k) h = tt
fits_need fields registers need.Local h = tt
fits_need fields registers (need.Out v) h = tt
fits_need fields registers (need.Heap c) h = (no_question c h.2, h.0)
fits_need fields registers (need.Ask c) h = (a_question c h.1, h.0)

pub call_fits : (registers : ℕ) (script : List Statement) (w : Walk) (n : Need) → RunsOn registers script → need_of script w ≡ Some n → CallFits registers (Some n)
call_fits registers script w n runs is =
    let fit : IfSome (Some n) (NeedFits (limits_of runs.fields registers)) = subst (λ (o : Option Need). IfSome o (NeedFits (limits_of runs.fields registers))) is
    (needs.need_fits (limits_of runs.fields registers) script w runs.is) in
    fits_need runs.fields registers n fit

-- A NEED TAKES A TICK AT LEAST
abbrev TakesOne : Option Need → Type 0
TakesOne None = Unit {0}
TakesOne (Some n) = 1 ≤ need_ticks n

one_of : (fields registers : ℕ) (w : Walk) (s : Statement) → IsStatement (limits_of fields registers) s → TakesOne (need_in w s)
one_of fields registers w (statement.Work n) h = omega (arith, h)
one_of fields registers w (statement.Set v n) h = omega arith
one_of fields registers w (statement.Copy v u) h = omega arith
one_of fields registers w (statement.Add v u) h = omega arith
one_of fields registers w (statement.Sub v u) h = omega arith
one_of fields registers w (statement.Job v) h = omega arith
one_of fields registers w (statement.Out v) h = omega arith
one_of fields registers w (statement.Get v r f) h = omega arith
one_of fields registers w (statement.Put r f v) h = omega arith
one_of fields registers w (statement.Load d r f) h = omega arith
one_of fields registers w (statement.Store r f t) h = omega arith
one_of fields registers w (statement.Move d r) h = omega arith
one_of fields registers w (statement.Clear d) h = omega arith
one_of fields registers w (statement.New d shape) h = omega arith
one_of fields registers w (statement.If (test.Less l r)) h = omega arith
one_of fields registers w (statement.If (test.Equal l r)) h = omega arith
one_of fields registers w (statement.If (test.Null r)) h = omega arith
one_of fields registers w (statement.If (test.Same l r)) h = omega arith
one_of fields registers w statement.Else h = tt
one_of fields registers w (statement.Repeat n) h = omega arith
one_of fields registers w statement.End h = tt

one_at : (fields registers : ℕ) (w : Walk) (s : List Statement) (place : ℕ) → AllByRecursion (IsStatement (limits_of fields registers)) s → TakesOne (need_at w (slice_get s place))
one_at fields registers w [] place each = tt
one_at fields registers w (x ∷ s) zero each = one_of fields registers w x each.0
one_at fields registers w (x ∷ s) (suc place) each = one_at fields registers w s place each.1

takes_one : (registers : ℕ) (s : List Statement) (w : Walk) (n : Need) → RunsOn registers s → need_of s w ≡ Some n → 1 ≤ taken_by need_ticks (need_of s w)
unfolding need_of
takes_one registers s w n runs is =
    subst (λ (o : Option Need). 1 ≤ taken_by need_ticks o) (sym is) (subst TakesOne is (one_at runs.fields registers w s w.place runs.is.each))

-- a statement that wants something leaves less of its job
pub falls_by : (registers : ℕ) (script : List Statement) (w : Walk) (n : Need) (r : Reply) → RunsOn registers script → Walks script w → need_of script w ≡ Some n
    → ticks_left script (walk_after script w r) + 1 ≤ ticks_left script w
falls_by registers script w n r runs walks is =
    let fall = ticks_fall script w r runs.is walks.fits walks.levels in
    let one = takes_one registers script w n runs is in
    omega (arith, fall, one)

pub falls_at : (registers : ℕ) (script : List Statement) (w w' : Walk) (n : Need) (r : Reply) → RunsOn registers script → Walks script w → need_of script w ≡ Some n
    → w' ≡ walk_after script w r → ticks_left script w' + 1 ≤ ticks_left script w
falls_at registers script w w' n r runs walks is after_is =
    subst (λ (x : Walk). ticks_left script x + 1 ≤ ticks_left script w) (sym after_is) (falls_by registers script w n r runs walks is)

pub walks_on : (registers : ℕ) (script : List Statement) (w w' : Walk) (r : Reply) → RunsOn registers script → Walks script w → w' ≡ walk_after script w r → Walks script w'
walks_on registers script w w' r runs walks after_is =
    let on = goes_on_fitting script w r runs.is walks.fits in
    subst (Walks script) (sym after_is) (record { fits = on.0; levels = on.1 ∙ walks.levels })

pub walks_started : (registers : ℕ) (script : List Statement) (job : ℕ) → RunsOn registers script → Walks script (started job)
walks_started registers script job runs = record { fits = started_fits script job runs.is; levels = refl }

pub left_started : (registers : ℕ) (script : List Statement) (job : ℕ) → RunsOn registers script → ticks_left script (started job) ≤ greatest_ticks script
left_started registers script job runs = ticks_started script job runs.is

-- where nothing is wanted the walk is at its end
pub none_wanted : (script : List Statement) (w : Walk) → Fits script w → need_of script w ≡ None → w.place ≡ length script
none_wanted script w fits none = elim (cases_lt w.place (length script)) [
  | inl before ↦ absurd (some_none (need_of script w) (wants_until_end script w fits before) none)
  | inr past ↦ omega (arith, past, fits.within)
]
  where
    some_none : (o : Option Need) → IsSome o → o ≡ None → ⊥
    some_none None some is = cc
    some_none (Some n) some is = cc

-- a walk with nothing left of it wants nothing
pub none_left : (registers : ℕ) (script : List Statement) (w : Walk) → RunsOn registers script → Walks script w → ticks_left script w ≡ 0 → w.place ≡ length script
none_left registers script w runs walks nothing = by_need (need_of script w) refl
  where
    by_need : (o : Option Need) → need_of script w ≡ o → w.place ≡ length script
    by_need None is = none_wanted script w walks.fits is
    by_need (Some n) is = let less = falls_by registers script w n reply.Unit runs walks is in absurd (omega (arith, less, nothing))

-- THE LOOP OVER STATEMENTS
-- so many statements were done, and the walk goes on
pub left_after : (script : List Statement) (own own_now : Progress) (count cost : ℕ) → IsThrough script own ⊎ (ticks_left script own.walk + count ≤ cost)
    → ¬ (IsThrough script own)
    → IsThrough script own_now ⊎ (ticks_left script own_now.walk + 1 ≤ ticks_left script own.walk)
    → IsThrough script own_now ⊎ (ticks_left script own_now.walk + (count + 1) ≤ cost)
left_after script own own_now count cost (inl through) going falls = absurd (going through)
left_after script own own_now count cost (inr left) going (inl through) = inl through
left_after script own own_now count cost (inr left) going (inr falls) = inr (omega (arith, left, falls))

-- after as many statements as ticks were left it is at its end
pub through_by : (registers : ℕ) (script : List Statement) (own : Progress) (count cost : ℕ) → RunsOn registers script → Walks script own.walk
    → IsThrough script own ⊎ (ticks_left script own.walk + count ≤ cost) → count ≡ cost → IsThrough script own
through_by registers script own count cost runs walks (inl through) is = through
through_by registers script own count cost runs walks (inr left) is = inl (none_left registers script own.walk runs walks (omega (arith, left, is)))

-- a task that goes on isn't through with its job
pub not_through : (script : List Statement) (own : Progress) (wanted : Option Need) → wanted ≡ need_of script own.walk → is_some wanted ≡ true → is_some own.full ≡ false → ¬ (IsThrough script own)
not_through script own wanted is some going (inl at) = let none : wanted ≡ None = is ∙ nothing_at_end script own.walk (omega (arith, at)) in absurd (cc)
not_through script own wanted is some going (inr full) = absurd (cc)

pub at_end : (script : List Statement) (own : Progress) → own.full ≡ None → IsThrough script own → own.walk.place ≡ length script
at_end script own going (inl at) = at
at_end script own going (inr full) = absurd (cc)

pub jobs_after : (own own_now : Progress) (count : ℕ) → (own.jobs ≡ count) ⊎ (is_some own.full ≡ true) → is_some own.full ≡ false → (own_now.jobs ≡ own.jobs + 1) ⊎ (is_some own_now.full ≡ true)
    → (own_now.jobs ≡ count + 1) ⊎ (is_some own_now.full ≡ true)
jobs_after own own_now count (inr full) going after = absurd (cc)
jobs_after own own_now count (inl is) going (inr full) = inr full
jobs_after own own_now count (inl is) going (inl more) = inl (omega (arith, is, more))
