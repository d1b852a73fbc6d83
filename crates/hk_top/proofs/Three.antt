-- Three texts that are handed to a sink one behind another.
use Rattle.std.proofs.Common.{◌≡◌, ℕ, List, ◌++◌, Option, refl, sym, ◌∙◌, append_assoc}
use Rattle.hk_io.specs.Bytes.{AppendsPrefix, AppendsFront}
use Rattle.hk_top.proofs.Written.{prefix_first, front_two, prefix_two}

module _ (a b : Option (List ℕ)) (waiting t1 t2 t3 text : List ℕ) (whole : (t1 ++ t2) ++ t3 ≡ text) where
  -- of the first some was taken
  pub three_first : AppendsPrefix a b (waiting ++ t1) → AppendsPrefix a b (waiting ++ text)
  three_first part = prefix_first a b waiting t1 (t2 ++ t3) text (sym (append_assoc t1 t2 t3) ∙ whole) part

  module _ (c : Option (List ℕ)) (w1 : List ℕ) (first : AppendsFront a b (waiting ++ t1) w1) where
    -- the first was added, and of the second some was taken
    pub three_second : AppendsPrefix b c (w1 ++ t2) → AppendsPrefix a c (waiting ++ text)
    three_second part = prefix_first a c waiting (t1 ++ t2) t3 text whole (prefix_two a b c waiting w1 t1 t2 (t1 ++ t2) refl first part)

    module _ (d : Option (List ℕ)) (w2 : List ℕ) (second : AppendsFront b c (w1 ++ t2) w2) where
      -- two were added, and of the third some was taken
      pub three_third : AppendsPrefix c d (w2 ++ t3) → AppendsPrefix a d (waiting ++ text)
      three_third part =
          prefix_two a c d waiting w2 (t1 ++ t2) t3 text whole (front_two a b c waiting w1 t1 t2 (t1 ++ t2) refl w2 first second) part

      -- all were added
      pub three_all : (w3 : List ℕ) → AppendsFront c d (w2 ++ t3) w3 → AppendsFront a d (waiting ++ text) w3
      three_all w3 third =
          front_two a c d waiting w2 (t1 ++ t2) t3 text whole w3 (front_two a b c waiting w1 t1 t2 (t1 ++ t2) refl w2 first second) third
