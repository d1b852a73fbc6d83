-- Cutting views in two and joining them keeps the rule.
use Rattle.std.proofs.Common.{◌≡◌, ◌≢◌, ◌⊎◌, ℕ, zero, suc, ◌+◌, ◌<◌, List, [], ◌∷◌, ◌++◌, length, refl, sym, ◌∙◌, ap, subst, arith, inl, inr, ⊎_elim}
use Rattle.std.specs.Prelude.{slice_set}
use mathlib.Core.Option.{some, some-injective, some-ne-none}
use lib.ListN.{get_elem?}
use Rattle.atomic_table.specs.Table.{State as TableState, Splits, Joins}
use Rattle.atomic_table.proofs.Lists.{at_set, set_else}
use Rattle.hk_words.specs.declared.geometry.Geometry.{Geometry}
use Rattle.hk_words.specs.Geometry.{tasks}
use Rattle.hk_model.specs.History.{History}
use Rattle.hk_core.specs.Run.{Action, Running, run_from_opening}
use Rattle.hk_table.specs.Knows.{PassView, KeeperView, Knows, pass, told, note, ended, keeper, spent}
use Rattle.hk_table.specs.Rule.{fresh, KeeperFits, Fits, SeatApart, NoKeeper, Apart, InOneRun}
use Rattle.hk_table.specs.Seats.{noted, given, rest_of, made_of, last_log}
use Rattle.hk_table.specs.declared.view.View.{View}

-- A VIEW IS CHANGED, AND ONE IS ADDED: what is owed

abbrev pub view : Knows → View
view k = record { knows = k }

snoc : {A : Type 0} (l : List A) (a b : A) (j : ℕ) → get_elem? (l ++ a ∷ []) j ≡ some b → (get_elem? l j ≡ some b) ⊎ ((j ≡ length l) × (a ≡ b))
snoc [] a b zero e = inr (refl, some-injective a b e)
snoc [] a b (suc j) e = absurd (some-ne-none b (sym e))
snoc (x ∷ l) a b zero e = inl e
snoc (x ∷ l) a b (suc j) e = ⊎_elim (λ t. inl t) (λ t. inr (ap suc t.0, t.1)) (snoc l a b j e)

apart_spent : (k : Knows) → Apart k spent
apart_spent (pass g v) = tt
apart_spent (told g v h) = tt
apart_spent (note g h) = tt
apart_spent (ended g h) = tt
apart_spent (keeper g k) = tt
apart_spent spent = tt

apart_note : (g' : Geometry) (h : History) (k : Knows) → Apart k (note g' h)
apart_note g' h (pass g v) = tt
apart_note g' h (told g v h') = tt
apart_note g' h (note g h') = tt
apart_note g' h (ended g h') = tt
apart_note g' h (keeper g k) = tt
apart_note g' h spent = tt

apart_ended : (g' : Geometry) (l : List Action) (k : Knows) → Apart k (ended g' l)
apart_ended g' l (pass g v) = tt
apart_ended g' l (told g v h) = tt
apart_ended g' l (note g h) = tt
apart_ended g' l (ended g l') = tt
apart_ended g' l (keeper g k) = tt
apart_ended g' l spent = tt

module _ (g : Geometry) (s : TableState (Unit {0}) View) (h : InOneRun g s) where
  abbrev r : Running
  r = run_from_opening g h.log

  module _ (id : ℕ) (left right : View) (fits : Fits g h.log r left.knows) (fits' : Fits g h.log r right.knows)
      (others : (j : ℕ) (u : View) → j ≢ id → get_elem? s.views j ≡ some u → Apart left.knows u.knows × Apart u.knows left.knows × Apart right.knows u.knows × Apart u.knows right.knows)
      (apart : Apart left.knows right.knows) (apart' : Apart right.knows left.knows) where
    -- where a view stands: in the place of the first, elsewhere as before, or at the end
    abbrev Place : ℕ → View → Type 0
    Place i u = ((i ≡ id) × (left ≡ u)) ⊎ (((i ≢ id) × (get_elem? s.views i ≡ some u)) ⊎ ((i ≡ length (slice_set s.views id left)) × (right ≡ u)))

    place : (i : ℕ) (u : View) → get_elem? (slice_set s.views id left ++ right ∷ []) i ≡ some u → Place i u
    place i u there = ⊎_elim (λ t. ⊎_elim (λ x. inl x) (λ x. inr (inl x)) (at_set s.views id i left u t)) (λ t. inr (inr t)) (snoc (slice_set s.views id left) right u i there)

    each : (i : ℕ) (u : View) → Place i u → Fits g h.log r u.knows
    each i u (inl p) = subst (λ (x : View). Fits g h.log r x.knows) p.1 fits
    each i u (inr (inl p)) = h.views i u p.1
    each i u (inr (inr p)) = subst (λ (x : View). Fits g h.log r x.knows) p.1 fits'

    two : (i j : ℕ) (x y : View) → i ≢ j → Place i x → Place j y → Apart x.knows y.knows
    two i j x y differ (inl p) (inl q) = absurd (differ (p.0 ∙ sym q.0))
    two i j x y differ (inl p) (inr (inl q)) = subst (λ (z : View). Apart z.knows y.knows) p.1 (others j y q.0 q.1).0
    two i j x y differ (inl p) (inr (inr q)) = subst (λ (z : View). Apart z.knows y.knows) p.1 (subst (λ (z : View). Apart left.knows z.knows) q.1 apart)
    two i j x y differ (inr (inl p)) (inl q) = subst (λ (z : View). Apart x.knows z.knows) q.1 (others i x p.0 p.1).1
    two i j x y differ (inr (inl p)) (inr (inl q)) = h.apart i j x y differ p.1 q.1
    two i j x y differ (inr (inl p)) (inr (inr q)) = subst (λ (z : View). Apart x.knows z.knows) q.1 (others i x p.0 p.1).3
    two i j x y differ (inr (inr p)) (inl q) = subst (λ (z : View). Apart z.knows y.knows) p.1 (subst (λ (z : View). Apart right.knows z.knows) q.1 apart')
    two i j x y differ (inr (inr p)) (inr (inl q)) = subst (λ (z : View). Apart z.knows y.knows) p.1 (others j y q.0 q.1).2
    two i j x y differ (inr (inr p)) (inr (inr q)) = absurd (differ (p.0 ∙ sym q.0))

    -- two views in place of one
    pub cut : InOneRun g (record { words = s.words; homes = s.homes; views = slice_set s.views id left ++ right ∷ [] })
    cut = record {
      log = h.log;
      seats = h.seats;
      words = h.words;
      views = λ i u there. each i u (place i u there);
      apart = λ i j x y differ here there. two i j x y differ (place i x here) (place j y there);
    }

  module _ (id other : ℕ) (both gone : View) (done : gone.knows ≡ spent) (fits : Fits g h.log r both.knows)
      (others : (j : ℕ) (u : View) → j ≢ id → j ≢ other → get_elem? s.views j ≡ some u → Apart both.knows u.knows × Apart u.knows both.knows) where
    abbrev Stays : ℕ → View → Type 0
    Stays i u = ((i ≡ other) × (gone ≡ u)) ⊎ ((i ≢ other) × (((i ≡ id) × (both ≡ u)) ⊎ ((i ≢ id) × (get_elem? s.views i ≡ some u))))

    stays : (i : ℕ) (u : View) → get_elem? (slice_set (slice_set s.views id both) other gone) i ≡ some u → Stays i u
    stays i u there = ⊎_elim (λ t. inl t) (λ t. inr (t.0, at_set s.views id i both u t.1)) (at_set (slice_set s.views id both) other i gone u there)

    remains : (i : ℕ) (u : View) → Stays i u → Fits g h.log r u.knows
    remains i u (inl p) = subst (λ (x : View). Fits g h.log r x.knows) p.1 (subst (λ (k : Knows). Fits g h.log r k) (sym done) tt)
    remains i u (inr p) = ⊎_elim (λ t. subst (λ (x : View). Fits g h.log r x.knows) t.1 fits) (λ t. h.views i u t.1) p.1

    pair : (i j : ℕ) (x y : View) → i ≢ j → Stays i x → Stays j y → Apart x.knows y.knows
    pair i j x y differ (inl p) q = subst (λ (z : View). Apart z.knows y.knows) p.1 (subst (λ (k : Knows). Apart k y.knows) (sym done) tt)
    pair i j x y differ (inr p) (inl q) = subst (λ (z : View). Apart x.knows z.knows) q.1 (subst (λ (k : Knows). Apart x.knows k) (sym done) (apart_spent x.knows))
    pair i j x y differ (inr p) (inr q) =
        ⊎_elim
        (λ t. ⊎_elim (λ t'. absurd (differ (t.0 ∙ sym t'.0))) (λ t'. subst (λ (z : View). Apart z.knows y.knows) t.1 (others j y t'.0 q.0 t'.1).0) q.1)
        (λ t. ⊎_elim (λ t'. subst (λ (z : View). Apart x.knows z.knows) t'.1 (others i x t.0 p.0 t.1).1) (λ t'. h.apart i j x y differ t.1 t'.1) q.1)
        p.1

    -- one view in place of two
    pub tie : InOneRun g (record { words = s.words; homes = s.homes; views = slice_set (slice_set s.views id both) other gone })
    tie = record {
      log = h.log;
      seats = h.seats;
      words = h.words;
      views = λ i u there. remains i u (stays i u there);
      apart = λ i j x y differ here there. pair i j x y differ (stays i x here) (stays j y there);
    }

-- A NOTE

pub note_splits : (g : Geometry) (id : ℕ) (v : View) (p : PassView) → v.knows ≡ pass g p → Splits (InOneRun g) id v v (view (noted v.knows))
note_splits g id v p is s h at =
    let told-so : noted v.knows ≡ note g p.seen = ap noted is in
    let fits : Fits g h.log (run_from_opening g h.log) (pass g p) = subst (Fits g h.log (run_from_opening g h.log)) is (h.views id v at) in
    subst (λ (k : Knows). InOneRun g (record { words = s.words; homes = s.homes; views = slice_set s.views id v ++ view k ∷ [] })) (sym told-so)
    (cut g s h id v (view (note g p.seen)) (h.views id v at) (refl, fits.1.stands.saw)
    (λ j u differ there. (h.apart id j v u (λ e. differ (sym e)) at there, h.apart j id u v differ there at, tt, apart_note g p.seen u.knows))
    (apart_note g p.seen v.knows) tt)

pub note_joins : (g : Geometry) (id other : ℕ) (v w : View) (p : PassView) (seen : History) → v.knows ≡ pass g p → w.knows ≡ note g seen
    → Joins (InOneRun g) id v other w (view (given v.knows w.knows)) (view spent)
note_joins g id other v w p seen is is' s h at differ at' =
    let both : given v.knows w.knows ≡ told g p seen = (λ i. given (is i) (is' i)) in
    let r = run_from_opening g h.log in
    let there : get_elem? s.views other ≡ some w = sym (set_else s.views id other _ differ) ∙ at' in
    let fits : Fits g h.log r (pass g p) = subst (Fits g h.log r) is (h.views id v at) in
    let noted-so : Fits g h.log r (note g seen) = subst (Fits g h.log r) is' (h.views other w there) in
    subst (λ (k : Knows). InOneRun g (record { words = s.words; homes = s.homes; views = slice_set (slice_set s.views id (view k)) other (view spent) })) (sym both)
    (tie g s h id other (view (told g p seen)) (view spent) refl (refl, fits.1, noted-so.1)
    (λ j u d d' t. (
      subst (λ (k : Knows). Apart k u.knows) is (h.apart id j v u (λ e. d (sym e)) at t),
      as_told u.knows (subst (λ (k : Knows). Apart u.knows k) is (h.apart j id u v d t at)),
    )))
  where
    as_told : (k : Knows) → Apart k (pass g p) → Apart k (told g p seen)
    as_told (pass g' q) a = a
    as_told (told g' q h') a = a
    as_told (note g' h') a = a
    as_told (ended g' h') a = a
    as_told (keeper g' k) a = a
    as_told spent a = a

-- THE PASSES ARE MADE

pub pass_splits : (g : Geometry) (id : ℕ) (v : View) (k : KeeperView) → v.knows ≡ keeper g k → k.made < tasks g → Splits (InOneRun g) id v (view (rest_of v.knows)) (view (made_of v.knows))
pass_splits g id v k is some-left s h at =
    let r = run_from_opening g h.log in
    let k' : KeeperView = record k { made = k.made + 1 } in
    let fits : Fits g h.log r (keeper g k) = subst (Fits g h.log r) is (h.views id v at) in
    let keeps : KeeperFits g h.log r k = fits.1 in
    let from : (u : View) (j : ℕ) → j ≢ id → get_elem? s.views j ≡ some u → NoKeeper u.knows × Apart u.knows (keeper g k) = λ u j d t. (
      subst (λ (x : Knows). Apart x u.knows) is (h.apart id j v u (λ e. d (sym e)) at t),
      subst (λ (x : Knows). Apart u.knows x) is (h.apart j id u v d t at),
    ) in
    subst (λ (x : Knows). InOneRun g (record { words = s.words; homes = s.homes; views = slice_set s.views id (view (rest_of x)) ++ view (made_of x) ∷ [] })) (sym is)
    (cut g s h id (view (keeper g k')) (view (pass g (fresh g k.made))) (
      refl,
      record {
        begins = keeps.begins;
        acts = keeps.acts;
        spot = keeps.spot;
        longest = keeps.longest;
        unmade = λ seat later below. keeps.unmade seat (omega arith) below;
        closed = λ i d below. let one = keeps.closed i d below in (one.0, one.1, (let few = one.2 in omega arith));
      },
    )
    (refl, keeps.unmade k.made (omega arith) some-left)
    (λ j u d t. let f = from u j d t in (f.0, more_made u.knows f.1, new_apart u.knows f.0 f.1, new_apart' u.knows f.1))
    tt
    (omega arith, λ i d below e. let few = (keeps.closed i d below).2 in absurd (omega arith)))
  where
    more_made : (x : Knows) → Apart x (keeper g k) → Apart x (keeper g (record k { made = k.made + 1 }))
    more_made (pass g' q) a = (let b = a.0 in omega arith, a.1)
    more_made (told g' q h') a = (let b = a.0 in omega arith, a.1)
    more_made (note g' h') a = a
    more_made (ended g' h') a = a
    more_made (keeper g' q) a = a
    more_made spent a = a

    new_apart : (x : Knows) → NoKeeper x → Apart x (keeper g k) → SeatApart k.made x
    new_apart (pass g' q) none a = λ e. let b = a.0 in absurd (omega arith)
    new_apart (told g' q h') none a = λ e. let b = a.0 in absurd (omega arith)
    new_apart (note g' h') none a = tt
    new_apart (ended g' h') none a = tt
    new_apart (keeper g' q) none a = absurd none
    new_apart spent none a = tt

    new_apart' : (x : Knows) → Apart x (keeper g k) → Apart x (pass g (fresh g k.made))
    new_apart' (pass g' q) a = λ e. let b = a.0 in absurd (omega arith)
    new_apart' (told g' q h') a = λ e. let b = a.0 in absurd (omega arith)
    new_apart' (note g' h') a = tt
    new_apart' (ended g' h') a = tt
    new_apart' (keeper g' q) a = tt
    new_apart' spent a = tt

-- THE LAST LOG

pub log_splits : (g : Geometry) (id : ℕ) (v : View) (k : KeeperView) → v.knows ≡ keeper g k → Splits (InOneRun g) id v v (view (last_log v.knows))
log_splits g id v k is s h at =
    subst (λ (x : Knows). InOneRun g (record { words = s.words; homes = s.homes; views = slice_set s.views id v ++ view x ∷ [] })) (sym (ap last_log is))
    (cut g s h id v (view (ended g k.longest)) (h.views id v at) refl
    (λ j u differ there. (h.apart id j v u (λ e. differ (sym e)) at there, h.apart j id u v differ there at, tt, apart_ended g k.longest u.knows))
    (apart_ended g k.longest v.knows) tt)
