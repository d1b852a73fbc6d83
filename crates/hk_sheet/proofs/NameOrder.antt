-- Laws of names and of the set of the earlier ones.
use Rattle.std.proofs.Common.{◌≡◌, ℕ, ◌+◌, ◌<◌, Bool, true, false, not, ◌||◌, cond, bytes_eq, List, ◌∷◌, length, drop, get_or, Bor, Option, Ordering, Less, Equal, Greater, refl, ap, sym, ◌∙◌}
use Rattle.std.proofs.lemmas.Cmp.{nat_list_cmp_total}
use Rattle.std.proofs.lemmas.List.{drop_more}
use Rattle.std.proofs.lemmas.Map.Text.{is_eq-slice_cmp}
use Rattle.std.specs.BTreeSet.{BTreeSet, contains, Updates}
use Rattle.std.specs.Cmp.Lexicographic.{slice_cmp}
use Rattle.std.specs.Ordering.{nat_cmp, is_eq, ordering_reverse}
use Rattle.hk_sheet.specs.declared.error.SheetError.{SheetError}
use Rattle.hk_sheet.specs.Faults.{first_of, faults_of_names, is_name, is_among}
use Rattle.hk_sheet.specs.declared.raw.RawTask.{RawTask}
use Rattle.hk_sheet.specs.Raw.{raw_names}

is_eq-reverse : (o : Ordering) → is_eq (ordering_reverse o) ≡ is_eq o
is_eq-reverse Less = refl
is_eq-reverse Equal = refl
is_eq-reverse Greater = refl

-- two texts are the same in both directions
pub bytes_eq-flip : (xs ys : List ℕ) → bytes_eq xs ys ≡ bytes_eq ys xs
bytes_eq-flip xs ys = sym (is_eq-slice_cmp xs ys) ∙ (ap is_eq (nat_list_cmp_total.antisymm xs ys) ∙ (is_eq-reverse (slice_cmp nat_cmp ys xs) ∙ is_eq-slice_cmp ys xs))

-- how names are compared
abbrev pub text_cmp : Bor (List ℕ) → Bor (List ℕ) → Ordering
text_cmp x y = slice_cmp nat_cmp x.now y.now

cond-or : (a b : Bool) → cond a true b ≡ (a || b)
cond-or true b = refl
cond-or false b = refl

-- the set with one more name has the earlier names and it
pub one_more_name : (old new : BTreeSet (Bor (List ℕ))) (name : Bor (List ℕ)) (earlier : List (List ℕ)) → Updates text_cmp old new name true
    → ((q : Bor (List ℕ)) → contains text_cmp old q ≡ is_among earlier q.now)
    → (q : Bor (List ℕ)) → contains text_cmp new q ≡ is_among (name.now ∷ earlier) q.now
one_more_name old new name earlier updates has q =
    updates.0 q ∙ (rw (is_eq-slice_cmp name.now q.now, has q) (cond-or (bytes_eq name.now q.now) (is_among earlier q.now)) ∙ ap (λ same. same || is_among earlier q.now) (bytes_eq-flip name.now q.now))

-- after a name that is right, the first fault is that of the names behind it
pub next_name : (tasks : List RawTask) (i : ℕ) (task : RawTask) (name : List ℕ) (earlier : List (List ℕ)) (whole : Option SheetError) (d : RawTask) → i < length tasks → task ≡ get_or tasks i d → name ≡ task.name
    → is_name name ≡ true → is_among earlier name ≡ false → first_of (faults_of_names earlier i (raw_names (drop i tasks))) ≡ whole
    → first_of (faults_of_names (name ∷ earlier) (i + 1) (raw_names (drop (i + 1) tasks))) ≡ whole
next_name tasks i task name earlier whole d h at named right free so_far =
    let names : raw_names (drop i tasks) ≡ name ∷ raw_names (drop (i + 1) tasks) = ap raw_names (drop_more tasks i d h) ∙ ap (λ n. n ∷ raw_names (drop (i + 1) tasks)) (ap (λ (t : RawTask). t.name) (sym at) ∙ sym named) in
    let here = rw (names, right, free) at so_far in
    here

-- what was added wasn't there
pub was_free : (added there : Bool) → added ≡ true → added ≡ not there → there ≡ false
was_free added true new is = cc
was_free added false new is = refl
