-- The entries that a pass adds, and the steps of a seat in a list of actions.
use Rattle.std.proofs.Common.{◌≡◌, ℕ, zero, suc, ◌+◌, Bool, true, false, List, [], ◌∷◌, ◌++◌, length, replicate, refl, sym, ◌∙◌, ap, subst, arith, append-nil, append_assoc}
use Rattle.std.proofs.lemmas.Bool.{eqb-true}
use Rattle.std.proofs.lemmas.List.{length-append}
use Rattle.std.proofs.lemmas.Bool.Decides.{nat_tests}
use Rattle.std.specs.Prelude.{nat_eq, if◌then◌else◌}
use Rattle.hk_model.specs.History.{Entry, History, of_seat}
use Rattle.hk_core.specs.Turns.{steps_of, step_count}
use Rattle.hk_core.specs.Run.{Action, begin, step, collect}
use Rattle.hk_table.specs.Actions.{Begins, acts_of}
use Rattle.hk_table.specs.Knows.{PassView}
use Rattle.hk_table.specs.Deeds.{Trail, quiet, acted}

-- TRAILS

pub trail_on : (p q w : PassView) (a b : History) → Trail p q a → Trail q w b → Trail p w (a ++ b)
trail_on p q w _ _ (quiet m s) (quiet m' s') = quiet (m' ∙ m) (s' ∙ s)
trail_on p q w _ _ (quiet m s) (acted front e before m' s' b) =
    acted front e before (m' ∙ ap (λ (l : History). l ++ (front ++ e ∷ [])) m) s' (b.0, b.1 ∙ ap (λ (l : History). l ++ b.0) s)
trail_on p q w _ _ (acted front e before m s b) (quiet m' s') =
    subst (λ (l : History). Trail p w l) (sym (append-nil (front ++ e ∷ []))) (acted front e before (m' ∙ m) (s' ∙ s) b)
trail_on p q w _ _ (acted front e before m s b) (acted front' e' before' m' s' b') =
    subst (λ (l : History). Trail p w l) (append_assoc (front ++ e ∷ []) front' (e' ∷ []))
    (acted ((front ++ e ∷ []) ++ front') e' before'
    (m' ∙ ap (λ (l : History). l ++ (front' ++ e' ∷ [])) m ∙ append_assoc p.mine (front ++ e ∷ []) (front' ++ e' ∷ []) ∙ ap (λ (l : History). p.mine ++ l) (sym (append_assoc (front ++ e ∷ []) front' (e' ∷ []))))
    s'
    (((b.0 ++ e ∷ []) ++ b'.0), b'.1 ∙ ap (λ (l : History). l ++ b'.0) (s ∙ ap (λ (l : History). l ++ e ∷ []) b.1 ∙ append_assoc p.seen b.0 (e ∷ [])) ∙ append_assoc p.seen (b.0 ++ e ∷ []) b'.0))

pub trail_mine : (p q : PassView) (more : History) → Trail p q more → q.mine ≡ p.mine ++ more
trail_mine p q _ (quiet m s) = m ∙ sym (append-nil p.mine)
trail_mine p q _ (acted front e before m s b) = m

-- a trail of one entry
pub record OneEntry (p q : PassView) (entry : Entry) : Type 0 where
  pub before : History
  pub seen : q.seen ≡ before ++ entry ∷ []
  pub saw : Begins before p.seen

pub last_of : {A : Type 0} (front : List A) (x y : A) → front ++ x ∷ [] ≡ y ∷ [] → x ≡ y
last_of [] x y e = let h : [] ++ x ∷ [] ≡ y ∷ [] = e in cc
last_of {A} (z ∷ front) x y e = absurd (let l : suc (length (front ++ x ∷ [])) ≡ 1 = ap length e in let m = length-append front (x ∷ []) in omega arith)

pub one_entry : (p q : PassView) (more : History) (entry : Entry) → Trail p q more → more ≡ entry ∷ [] → OneEntry p q entry
one_entry p q _ entry (quiet m s) e = absurd (cc)
one_entry p q _ entry (acted front x before m s b) e =
    let same : x ≡ entry = last_of front x entry e in
    record { before = before; seen = s ∙ ap (λ (y : Entry). before ++ y ∷ []) same; saw = b }

-- the last of a seat's entries is the seat's
pub own_entry : (s : ℕ) (seen front : History) (e : Entry) → of_seat seen s ≡ front ++ e ∷ [] → e.seat ≡ s
unfolding of_seat
own_entry s [] [] e is = absurd (cc)
own_entry s [] (x ∷ front) e is = absurd (cc)
own_entry s (x ∷ seen) front e is = go (nat_eq x.seat s) refl front is (λ f h. own_entry s seen f e h)
  where
    go : (b : Bool) → nat_eq x.seat s ≡ b → (front : History) → (if b then x ∷ of_seat seen s else of_seat seen s) ≡ front ++ e ∷ []
        → ((f : History) → of_seat seen s ≡ f ++ e ∷ [] → e.seat ≡ s) → e.seat ≡ s
    go false t front is rest = rest front is
    go true t [] is rest = let here : x ∷ of_seat seen s ≡ e ∷ [] = is in let same : x ≡ e = cc in ap (λ (k : Entry). k.seat) (sym same) ∙ eqb-true x.seat s t
    go true t (y ∷ front) is rest = let here : x ∷ of_seat seen s ≡ y ∷ (front ++ e ∷ []) = is in rest front (cc)

pub same_tail : (xs ys zs : History) → xs ++ ys ≡ xs ++ zs → ys ≡ zs
same_tail [] ys zs e = e
same_tail (x ∷ xs) ys zs e = same_tail xs ys zs (let h : x ∷ (xs ++ ys) ≡ x ∷ (xs ++ zs) = e in cc)

-- COUNTING STEPS

pub steps_both : (s : ℕ) (a b : List Action) → steps_of s (a ++ b) ≡ steps_of s a + steps_of s b
unfolding steps_of
steps_both s [] b = omega arith
steps_both s (x ∷ a) b = let more = steps_both s a b in omega arith

-- the steps of a seat are those among its own actions
steps_own : (s : ℕ) (l : List Action) → steps_of s (acts_of s l) ≡ steps_of s l
unfolding steps_of step_count
steps_own s [] = refl
steps_own s (begin t call ∷ l) = go (nat_eq t s) (steps_own s l)
  where
    go : (b : Bool) → steps_of s (acts_of s l) ≡ steps_of s l → steps_of s (if b then begin t call ∷ acts_of s l else acts_of s l) ≡ 0 + steps_of s l
    go true h = omega arith
    go false h = omega arith
steps_own s (step t ∷ l) = go (nat_eq t s) refl (steps_own s l)
  where
    go : (b : Bool) → nat_eq t s ≡ b → steps_of s (acts_of s l) ≡ steps_of s l
        → steps_of s (if b then step t ∷ acts_of s l else acts_of s l) ≡ (if b then 1 else 0) + steps_of s l
    go true e h = rw e (omega arith)
    go false e h = omega arith
steps_own s (collect ∷ l) = let more = steps_own s l in omega arith

pub steps_many : (s n : ℕ) → steps_of s (replicate n (step s)) ≡ n
unfolding steps_of step_count
steps_many s zero = refl
steps_many s (suc n) = rw (same s) (let more = steps_many s n in omega arith)
  where
    same : (s : ℕ) → nat_eq s s ≡ true
    same s = grind (arith, nat_tests)

pub acts_many : (s n : ℕ) → acts_of s (replicate n (step s)) ≡ replicate n (step s)
acts_many s zero = refl
acts_many s (suc n) = rw (same s) (ap (λ (l : List Action). step s ∷ l) (acts_many s n))
  where
    same : (s : ℕ) → nat_eq s s ≡ true
    same s = grind (arith, nat_tests)

pub steps_counted : (s n : ℕ) (l : List Action) → acts_of s l ≡ replicate n (step s) → steps_of s l ≡ n
steps_counted s n l e = sym (steps_own s l) ∙ ap (steps_of s) e ∙ steps_many s n
