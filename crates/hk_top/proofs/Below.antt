-- Texts of the numbers below a bound, that are handed to a sink one behind another.
use Rattle.std.proofs.Common.{◌≡◌, ℕ, zero, suc, ◌+◌, ◌<◌, ◌≤◌, List, [], ◌++◌, Option, sym, ap, ◌∙◌, subst, arith, append-nil, append_assoc, inl, inr}
use Rattle.std.proofs.lemmas.Bool.{cases_lt}
use Rattle.hk_io.specs.Bytes.{AppendsPrefix, AppendsFront}
use Rattle.hk_io.proofs.BytesLemmas.{AppendsFront-none}
use Rattle.hk_top.specs.Report.{texts_below}
use Rattle.hk_top.proofs.Written.{prefix_first, front_two, prefix_two}

module _ (f : ℕ → List ℕ) where
  pub below_more : (n : ℕ) (text : List ℕ) → text ≡ f n → texts_below f n ++ text ≡ texts_below f (suc n)
  unfolding texts_below
  below_more n text is = ap (λ t. texts_below f n ++ t) is

  -- the first of them are a first part of them
  record Rest (n m : ℕ) : Type 0 where
    rest : List ℕ
    whole : texts_below f n ++ rest ≡ texts_below f m

  rest_of : (n m : ℕ) → n ≤ m → Rest n m
  unfolding texts_below
  rest_of n zero le = record { rest = []; whole = append-nil (texts_below f n) ∙ ap (texts_below f) (let e : n ≡ zero = omega (arith, le) in e) }
  rest_of n (suc m) le = elim (cases_lt n (suc m)) [
    | inl less ↦
        let r = rest_of n m (omega (arith, less)) in
        record { rest = r.rest ++ f m; whole = sym (append_assoc (texts_below f n) r.rest (f m)) ∙ ap (λ t. t ++ f m) r.whole }
    | inr more ↦ record { rest = []; whole = append-nil (texts_below f n) ∙ ap (texts_below f) (let e : n ≡ suc m = omega (arith, le, more) in e) }
  ]

  -- none was added yet
  pub none_below : (a : Option (List ℕ)) (waited : List ℕ) → AppendsFront a a (waited ++ texts_below f 0) waited
  unfolding texts_below
  none_below a waited = subst (λ x. AppendsFront a a x waited) (sym (append-nil waited)) (AppendsFront-none a waited)

  module _ (a b c : Option (List ℕ)) (waited waiting text : List ℕ) (n : ℕ) (is : text ≡ f n) where
    -- one more was added
    pub front_below : (waiting2 : List ℕ) → AppendsFront a b (waited ++ texts_below f n) waiting → AppendsFront b c (waiting ++ text) waiting2
        → AppendsFront a c (waited ++ texts_below f (n + 1)) waiting2
    front_below waiting2 first second =
        let next : suc n ≡ n + 1 = omega arith in
        front_two a b c waited waiting (texts_below f n) text (texts_below f (n + 1)) (below_more n text is ∙ ap (texts_below f) next) waiting2 first second

    -- of what waited and of one more some was taken
    pub prefix_below : (m : ℕ) → n < m → AppendsFront a b (waited ++ texts_below f n) waiting → AppendsPrefix b c (waiting ++ text) → AppendsPrefix a c (waited ++ texts_below f m)
    prefix_below m less first second =
        let r = rest_of (suc n) m (omega (arith, less)) in
        prefix_first a c waited (texts_below f (suc n)) r.rest (texts_below f m) r.whole
        (prefix_two a b c waited waiting (texts_below f n) text (texts_below f (suc n)) (below_more n text is) first second)

  -- all were added
  pub all_below : (a b : Option (List ℕ)) (waited waiting : List ℕ) (n m : ℕ) → n ≡ m → AppendsFront a b (waited ++ texts_below f n) waiting
      → AppendsFront a b (waited ++ texts_below f m) waiting
  all_below a b waited waiting n m same front = subst (λ k. AppendsFront a b (waited ++ texts_below f k) waiting) same front
