-- Four texts that are handed to a sink one behind another.
use Rattle.std.proofs.Common.{◌≡◌, ℕ, List, ◌++◌, Option, refl, sym, ap, ◌∙◌, append_assoc}
use Rattle.hk_io.specs.Bytes.{AppendsPrefix, AppendsFront}
use Rattle.hk_top.proofs.Written.{prefix_first, front_two, prefix_two}

module _ (a b : Option (List ℕ)) (waiting t1 t2 t3 t4 text : List ℕ) (whole : ((t1 ++ t2) ++ t3) ++ t4 ≡ text) where
  -- of the first some was taken
  pub four_first : AppendsPrefix a b (waiting ++ t1) → AppendsPrefix a b (waiting ++ text)
  four_first part =
      prefix_first a b waiting t1 ((t2 ++ t3) ++ t4) text (sym (append_assoc t1 (t2 ++ t3) t4) ∙ ap (λ x. x ++ t4) (sym (append_assoc t1 t2 t3)) ∙ whole) part

  module _ (c : Option (List ℕ)) (w1 : List ℕ) (first : AppendsFront a b (waiting ++ t1) w1) where
    -- the first was added, and of the second some was taken
    pub four_second : AppendsPrefix b c (w1 ++ t2) → AppendsPrefix a c (waiting ++ text)
    four_second part =
        prefix_first a c waiting (t1 ++ t2) (t3 ++ t4) text (sym (append_assoc (t1 ++ t2) t3 t4) ∙ whole) (prefix_two a b c waiting w1 t1 t2 (t1 ++ t2) refl first part)

    module _ (d : Option (List ℕ)) (w2 : List ℕ) (second : AppendsFront b c (w1 ++ t2) w2) where
      two : AppendsFront a c (waiting ++ (t1 ++ t2)) w2
      two = front_two a b c waiting w1 t1 t2 (t1 ++ t2) refl w2 first second

      -- two were added, and of the third some was taken
      pub four_third : AppendsPrefix c d (w2 ++ t3) → AppendsPrefix a d (waiting ++ text)
      four_third part = prefix_first a d waiting ((t1 ++ t2) ++ t3) t4 text whole (prefix_two a c d waiting w2 (t1 ++ t2) t3 ((t1 ++ t2) ++ t3) refl two part)

      module _ (e : Option (List ℕ)) (w3 : List ℕ) (third : AppendsFront c d (w2 ++ t3) w3) where
        three : AppendsFront a d (waiting ++ ((t1 ++ t2) ++ t3)) w3
        three = front_two a c d waiting w2 (t1 ++ t2) t3 ((t1 ++ t2) ++ t3) refl w3 two third

        -- three were added, and of the last some was taken
        pub four_last : AppendsPrefix d e (w3 ++ t4) → AppendsPrefix a e (waiting ++ text)
        four_last part = prefix_two a d e waiting w3 ((t1 ++ t2) ++ t3) t4 text whole three part

        -- all were added
        pub four_all : (w4 : List ℕ) → AppendsFront d e (w3 ++ t4) w4 → AppendsFront a e (waiting ++ text) w4
        four_all w4 last = front_two a d e waiting w3 ((t1 ++ t2) ++ t3) t4 text whole w4 three last
