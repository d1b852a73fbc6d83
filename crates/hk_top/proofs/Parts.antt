-- Texts of the elements of a list, that are handed to a sink one behind another.
use Rattle.std.proofs.Common.{◌≡◌, ℕ, suc, ◌+◌, ◌<◌, ◌≤◌, List, [], ◌∷◌, ◌++◌, length, take, drop, get_or, Option, sym, ap, ◌∙◌, subst, arith, append-nil, take-append-drop, flat_map}
use Rattle.std.proofs.lemmas.List.{take_all}
use Rattle.std.proofs.lemmas.List.Concat.{flat_map-append}
use Rattle.std.proofs.Math.Seq.{take-suc}
use Rattle.hk_io.specs.Bytes.{AppendsPrefix, AppendsFront}
use Rattle.hk_top.proofs.Written.{prefix_first, front_two, prefix_two}

module _ {X : Type 0} (f : X → List ℕ) (xs : List X) where
  -- the texts of the first elements
  abbrev pub first_texts : ℕ → List ℕ
  first_texts n = flat_map f (take n xs)

  texts_more : (i : ℕ) (d : X) (text : List ℕ) → i < length xs → text ≡ f (get_or xs i d) → first_texts i ++ text ≡ first_texts (i + 1)
  texts_more i d text within is =
      let n : suc i ≡ i + 1 = omega arith in
      ap (λ t. first_texts i ++ t) (is ∙ sym (append-nil (f (get_or xs i d))))
      ∙ sym (flat_map-append f (take i xs) (get_or xs i d ∷ []))
      ∙ ap (flat_map f) (sym (take-suc xs i d within))
      ∙ ap first_texts n

  texts_whole : (i : ℕ) → first_texts i ++ flat_map f (drop i xs) ≡ flat_map f xs
  texts_whole i = sym (flat_map-append f (take i xs) (drop i xs)) ∙ ap (flat_map f) (take-append-drop i xs)

  module _ (a b c : Option (List ℕ)) (waited waiting text : List ℕ) (i : ℕ) (d : X) (within : i < length xs) (is : text ≡ f (get_or xs i d)) where
    -- one more text was added
    pub more_front : (waiting2 : List ℕ) → AppendsFront a b (waited ++ first_texts i) waiting → AppendsFront b c (waiting ++ text) waiting2
        → AppendsFront a c (waited ++ first_texts (i + 1)) waiting2
    more_front waiting2 first second = front_two a b c waited waiting (first_texts i) text (first_texts (i + 1)) (texts_more i d text within is) waiting2 first second

    -- of what waited and of one more text some was taken
    pub more_prefix : AppendsFront a b (waited ++ first_texts i) waiting → AppendsPrefix b c (waiting ++ text) → AppendsPrefix a c (waited ++ flat_map f xs)
    more_prefix first second =
        prefix_first a c waited (first_texts (i + 1)) (flat_map f (drop (i + 1) xs)) (flat_map f xs) (texts_whole (i + 1))
        (prefix_two a b c waited waiting (first_texts i) text (first_texts (i + 1)) (texts_more i d text within is) first second)

  -- all were added
  pub all_front : (a b : Option (List ℕ)) (waited waiting : List ℕ) (i : ℕ) → length xs ≤ i → AppendsFront a b (waited ++ first_texts i) waiting
      → AppendsFront a b (waited ++ flat_map f xs) waiting
  all_front a b waited waiting i all front = subst (λ l. AppendsFront a b (waited ++ flat_map f l) waiting) (take_all i xs all) front
