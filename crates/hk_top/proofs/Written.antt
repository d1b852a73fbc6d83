-- Texts that are handed to a sink one behind another.
use Rattle.std.proofs.Common.{◌≡◌, ℕ, List, [], ◌++◌, Option, sym, ap, ◌∙◌, subst, append_assoc}
use Rattle.hk_io.specs.Bytes.{AppendsPrefix, AppendsFront}
use Rattle.hk_io.proofs.BytesLemmas.{AppendsPrefix-append, AppendsFront-none, AppendsFront-trans, AppendsPrefix-behind}

module _ (a b : Option (List ℕ)) where
  -- what is a first part of the first part of a text is a first part of the text
  pub prefix_first : (waiting line rest text : List ℕ) → line ++ rest ≡ text → AppendsPrefix a b (waiting ++ line) → AppendsPrefix a b (waiting ++ text)
  prefix_first waiting line rest text whole prefix =
      subst (AppendsPrefix a b) (append_assoc waiting line rest ∙ ap (λ x. waiting ++ x) whole) (AppendsPrefix-append a b (waiting ++ line) rest prefix)

module _ (a b c : Option (List ℕ)) (waiting waiting1 line1 line2 text : List ℕ) (whole : line1 ++ line2 ≡ text) where
  -- two texts were added
  pub front_two : (waiting2 : List ℕ) → AppendsFront a b (waiting ++ line1) waiting1 → AppendsFront b c (waiting1 ++ line2) waiting2 → AppendsFront a c (waiting ++ text) waiting2
  front_two waiting2 first second =
      subst (λ x. AppendsFront a c x waiting2) (append_assoc waiting line1 line2 ∙ ap (λ x. waiting ++ x) whole)
      (AppendsFront-trans a b c (waiting ++ line1) waiting1 line2 waiting2 first second)

  -- one text was added, and of what waited then and of the second some was taken
  pub prefix_two : AppendsFront a b (waiting ++ line1) waiting1 → AppendsPrefix b c (waiting1 ++ line2) → AppendsPrefix a c (waiting ++ text)
  prefix_two first second =
      subst (AppendsPrefix a c) (append_assoc waiting line1 line2 ∙ ap (λ x. waiting ++ x) whole)
      (AppendsPrefix-behind a b c (waiting ++ line1) waiting1 line2 first second)

-- nothing waited before
pub front_alone : (a b : Option (List ℕ)) (waiting text rest : List ℕ) → waiting ≡ [] → AppendsFront a b (waiting ++ text) rest → AppendsFront a b text rest
front_alone a b waiting text rest none front = subst (λ x. AppendsFront a b (x ++ text) rest) none front

-- what was added behind what waits
pub front_more : (a b : Option (List ℕ)) (waiting waiting1 bytes rest text : List ℕ) → AppendsFront a b waiting waiting1 → rest ≡ waiting1 ++ bytes → text ≡ bytes → AppendsFront a b (waiting ++ text) rest
front_more a b waiting waiting1 bytes rest text front is same =
    subst (λ x. AppendsFront a b (waiting ++ x) rest) (sym same)
    (subst (AppendsFront a b (waiting ++ bytes)) (sym is)
    (AppendsFront-trans a b b waiting waiting1 bytes (waiting1 ++ bytes) front (AppendsFront-none b (waiting1 ++ bytes))))
