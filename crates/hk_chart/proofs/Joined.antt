-- Texts that are handed to a sink one behind another.
use Rattle.std.proofs.Common.{◌≡◌, ℕ, suc, ◌+◌, ◌<◌, List, [], ◌∷◌, ◌++◌, length, take, drop, get_or, Option, sym, ap, ◌∙◌, subst, arith, append-nil, take-append-drop, flat_map, append_assoc}
use Rattle.std.proofs.lemmas.List.{take_all, drop_all}
use Rattle.std.specs.Io.KnownBytes.{Appends}
use Rattle.std.proofs.lemmas.List.Concat.{flat_map-append}
use Rattle.std.proofs.Math.Seq.{take-suc}
use Rattle.hk_io.specs.Bytes.{AppendsPrefix, AppendsFront}
use Rattle.hk_io.proofs.BytesLemmas.{AppendsPrefix-append, AppendsFront-trans, AppendsPrefix-behind, AppendsFront-behind, Appends-all, AppendsPrefix-rest}

module _ (a b : Option (List ℕ)) (waiting line rest : List ℕ) where
  -- what is a first part of the first part of a text is a first part of the text
  pub prefix_of_first : AppendsPrefix a b (waiting ++ line) → AppendsPrefix a b (waiting ++ (line ++ rest))
  prefix_of_first prefix = subst (AppendsPrefix a b) (append_assoc waiting line rest) (AppendsPrefix-append a b (waiting ++ line) rest prefix)

module _ (a b c : Option (List ℕ)) (waiting waiting1 line1 line2 : List ℕ) (first : AppendsFront a b (waiting ++ line1) waiting1) where
  -- two texts were added
  pub front_of_both : (waiting2 : List ℕ) → AppendsFront b c (waiting1 ++ line2) waiting2 → AppendsFront a c (waiting ++ (line1 ++ line2)) waiting2
  front_of_both waiting2 second =
      subst (λ x. AppendsFront a c x waiting2) (append_assoc waiting line1 line2)
      (AppendsFront-trans a b c (waiting ++ line1) waiting1 line2 waiting2 first second)

  -- one text was added, and of what waited then and of the second some was taken
  pub prefix_of_both : AppendsPrefix b c (waiting1 ++ line2) → AppendsPrefix a c (waiting ++ (line1 ++ line2))
  prefix_of_both second =
      subst (AppendsPrefix a c) (append_assoc waiting line1 line2)
      (AppendsPrefix-behind a b c (waiting ++ line1) waiting1 line2 first second)

pub ruleset joined = (prefix_of_first, front_of_both, prefix_of_both)

module _ {X : Type 0} (f : X → List ℕ) (xs : List X) where
  -- the texts of the first elements
  abbrev pub first_texts : ℕ → List ℕ
  first_texts n = flat_map f (take n xs)

  pub texts_more : (i : ℕ) (d : X) (text : List ℕ) → i < length xs → text ≡ f (get_or xs i d) → first_texts i ++ text ≡ first_texts (i + 1)
  texts_more i d text within is =
      let n : suc i ≡ i + 1 = omega arith in
      ap (λ t. first_texts i ++ t) (is ∙ sym (append-nil (f (get_or xs i d))))
      ∙ sym (flat_map-append f (take i xs) (get_or xs i d ∷ []))
      ∙ ap (flat_map f) (sym (take-suc xs i d within))
      ∙ ap first_texts n

  texts_whole : (i : ℕ) → first_texts i ++ flat_map f (drop i xs) ≡ flat_map f xs
  texts_whole i = sym (flat_map-append f (take i xs) (drop i xs)) ∙ ap (flat_map f) (take-append-drop i xs)

  module _ (a b c : Option (List ℕ)) (waited waiting text : List ℕ) (i : ℕ) (d : X) (within : i < length xs) (is : text ≡ f (get_or xs i d)) where
    -- one more text was added
    pub more_front : (waiting2 : List ℕ) → AppendsFront a b (waited ++ first_texts i) waiting → AppendsFront b c (waiting ++ text) waiting2
        → AppendsFront a c (waited ++ first_texts (i + 1)) waiting2
    more_front waiting2 first second =
        subst (λ x. AppendsFront a c (waited ++ x) waiting2) (texts_more i d text within is)
        (front_of_both a b c waited waiting (first_texts i) text first waiting2 second)

    -- of what waited and of one more text some was taken
    pub more_prefix : AppendsFront a b (waited ++ first_texts i) waiting → AppendsPrefix b c (waiting ++ text) → AppendsPrefix a c (waited ++ flat_map f xs)
    more_prefix first second =
        subst (λ x. AppendsPrefix a c (waited ++ x)) (texts_whole (i + 1))
        (prefix_of_first a c waited (first_texts (i + 1)) (flat_map f (drop (i + 1) xs))
        (subst (λ x. AppendsPrefix a c (waited ++ x)) (texts_more i d text within is) (prefix_of_both a b c waited waiting (first_texts i) text first second)))

module _ (a b c : Option (List ℕ)) (waited text shown : List ℕ) (same : shown ≡ text) (first : Appends a b waited) where
  -- what waited was taken, and a text behind it
  pub text_front : (waiting : List ℕ) → waiting ≡ [] → Appends b c shown → AppendsFront a c (waited ++ text) waiting
  text_front waiting none more = record {
    count = length (waited ++ text);
    taken = subst (Appends a c) (sym (take_all (length (waited ++ text)) (waited ++ text) (omega arith)))
        (Appends-all a b c (waited ++ text) text (AppendsFront-behind a b waited text first) (subst (Appends b c) same more));
    waits = none ∙ sym (drop_all (length (waited ++ text)) (waited ++ text) (omega arith));
  }

  -- and of the text some
  pub text_prefix : AppendsPrefix b c shown → AppendsPrefix a c (waited ++ text)
  text_prefix more = AppendsPrefix-rest a b c (waited ++ text) text (AppendsFront-behind a b waited text first) (subst (AppendsPrefix b c) same more)
