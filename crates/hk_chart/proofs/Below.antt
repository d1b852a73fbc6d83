-- The texts of one number more.
use Rattle.std.proofs.Common.{◌≡◌, ℕ, suc, ◌+◌, List, [], ◌++◌, refl, ap, sym, ◌∙◌, arith, append_assoc, append-nil}
use Rattle.hk_chart.specs.Drawing.{texts_below}

module _ (text : ℕ → List ℕ) where
  below_suc : (n : ℕ) → texts_below text (suc n) ≡ texts_below text n ++ text n
  unfolding texts_below
  below_suc n = refl

  below_none : texts_below text 0 ≡ []
  unfolding texts_below
  below_none = refl

  pub below_first : (before : List ℕ) → before ≡ before ++ texts_below text 0
  below_first before = sym (append-nil before) ∙ ap (λ (l : List ℕ). before ++ l) (sym below_none)

  pub below_more : (before now added : List ℕ) (n : ℕ) → now ≡ before ++ texts_below text n → added ≡ now ++ text n → added ≡ before ++ texts_below text (n + 1)
  below_more before now added n so_far is =
      let e : suc n ≡ n + 1 = omega arith in
      is ∙ ap (λ (l : List ℕ). l ++ text n) so_far ∙ append_assoc before (texts_below text n) (text n)
      ∙ ap (λ (l : List ℕ). before ++ l) (sym (below_suc n) ∙ ap (texts_below text) e)
