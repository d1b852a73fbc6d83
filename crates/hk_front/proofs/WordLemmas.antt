-- Words of a line that are written one behind another.
use Rattle.std.proofs.Common.{◌≡◌, ℕ, suc, ◌+◌, ◌<◌, ◌≤◌, Bool, true, false, List, [], ◌∷◌, ◌++◌, length, take, drop, get_or, fold, Option, Result, OnOk, OnErr, refl, sym, ap, ◌∙◌, subst, arith, append_assoc, append-nil, take-append-drop}
use Rattle.std.proofs.Math.Seq.{take-suc}
use Rattle.std.proofs.lemmas.List.{take_all, map-append}
use Rattle.std.specs.Io.KnownBytes.{Appends}
use denote.Ref.{Bor}
use Rattle.hk_io.specs.Bytes.{texts, AppendsPrefix}
use Rattle.hk_io.specs.Faults.{HasCause}
use Rattle.hk_io.specs.Line.{with_word}
use Rattle.hk_io.proofs.BytesLemmas.{AppendsFront-behind, AppendsPrefix-behind, AppendsPrefix-append}
use Rattle.hk_front.specs.Text.{line}
use Rattle.hk_front.specs.Words.{added, Puts}

-- first bytes were taken, and then some of more
pub prefix_after : (a b c : Option (List ℕ)) (first second : List ℕ) → Appends a b first → AppendsPrefix b c second → AppendsPrefix a c (first ++ second)
prefix_after a b c first second whole part =
    subst (λ x. AppendsPrefix a c (x ++ second)) (append-nil first)
    (AppendsPrefix-behind a b c (first ++ []) [] second (AppendsFront-behind a b first [] whole) part)

-- a space was taken, and some of a word
pub space_prefix : (a b c : Option (List ℕ)) (begun : Bool) (word : List ℕ) → begun ≡ true → Appends a b (32 ∷ []) → AppendsPrefix b c word → AppendsPrefix a c (added begun word)
space_prefix a b c begun word is space part = subst (λ x. AppendsPrefix a c (added x word)) (sym is) (prefix_after a b c (32 ∷ []) word space part)

-- a line has begun
abbrev pub has_begun : List ℕ → Bool
has_begun [] = false
has_begun (first ∷ rest) = true

pub with_word_is : (so_far word : List ℕ) → with_word so_far word ≡ so_far ++ added (has_begun so_far) word
with_word_is [] word = refl
with_word_is (first ∷ rest) word = refl

-- the line of the first words
abbrev pub first_words : List (Bor (List ℕ)) → ℕ → List ℕ
first_words words n = fold with_word [] (texts (take n words))

fold_last : (start : List ℕ) (ws : List (List ℕ)) (w : List ℕ) → fold with_word start (ws ++ w ∷ []) ≡ with_word (fold with_word start ws) w
fold_last start [] w = refl
fold_last start (v ∷ ws) w = fold_last (with_word start v) ws w

-- what some words add to a line
abbrev pub more_words : (start : List ℕ) → List (List ℕ) → List ℕ
more_words start [] = []
more_words start (w ∷ ws) = added (has_begun start) w ++ more_words (with_word start w) ws

fold_rest : (start : List ℕ) (ws : List (List ℕ)) → fold with_word start ws ≡ start ++ more_words start ws
fold_rest start [] = sym (append-nil start)
fold_rest start (w ∷ ws) =
    fold_rest (with_word start w) ws
    ∙ ap (λ x. x ++ more_words (with_word start w) ws) (with_word_is start w)
    ∙ append_assoc start (added (has_begun start) w) (more_words (with_word start w) ws)

fold_append : (start : List ℕ) (ws vs : List (List ℕ)) → fold with_word start (ws ++ vs) ≡ fold with_word (fold with_word start ws) vs
fold_append start [] vs = refl
fold_append start (w ∷ ws) vs = fold_append (with_word start w) ws vs

-- one word more
pub words_more : (words : List (Bor (List ℕ))) (n : ℕ) (d : Bor (List ℕ)) → n < length words
    → first_words words n ++ added (has_begun (first_words words n)) (get_or words n d).now ≡ first_words words (n + 1)
words_more words n d within =
    let w = get_or words n d in
    let s : suc n ≡ n + 1 = omega arith in
    sym (with_word_is (first_words words n) w.now)
    ∙ sym (fold_last [] (texts (take n words)) w.now)
    ∙ ap (fold with_word []) (sym (map-append (λ v. v.now) (take n words) (w ∷ [])) ∙ ap texts (sym (take-suc words n d within)))
    ∙ ap (first_words words) s

-- the line begins with its first words
pub words_begin : (words : List (Bor (List ℕ))) (n : ℕ) → (rest : List ℕ) × (first_words words n ++ rest ≡ line (texts words))
words_begin words n =
    let before = texts (take n words) in
    let behind = texts (drop n words) in
    let start = first_words words n in
    let split : before ++ behind ≡ texts words = sym (map-append (λ w. w.now) (take n words) (drop n words)) ∙ ap texts (take-append-drop n words) in
    let whole : start ++ more_words start behind ≡ fold with_word [] (texts words) =
    sym (fold_rest start behind) ∙ sym (fold_append [] before behind) ∙ ap (fold with_word []) split in (
      more_words start behind ++ 10 ∷ [],
      sym (append_assoc start (more_words start behind) (10 ∷ [])) ∙ ap (λ x. x ++ 10 ∷ []) whole,
    )

-- of the first words and one more some was taken
pub word_prefix : (a b c : Option (List ℕ)) (words : List (Bor (List ℕ))) (n : ℕ) (d : Bor (List ℕ)) (begun : Bool) → n < length words
    → begun ≡ has_begun (first_words words n) → Appends a b (first_words words n) → AppendsPrefix b c (added begun (get_or words n d).now) → AppendsPrefix a c (line (texts words))
word_prefix a b c words n d begun within is whole part =
    let rest = words_begin words (n + 1) in
    let q = subst (λ x. AppendsPrefix b c (added x (get_or words n d).now)) is part in
    let p = subst (AppendsPrefix a c) (words_more words n d within) (prefix_after a b c _ _ whole q) in
    subst (AppendsPrefix a c) rest.1 (AppendsPrefix-append a c (first_words words (n + 1)) rest.0 p)

-- all words and the newline are the line
pub line_last : (words : List (Bor (List ℕ))) (n : ℕ) → length words ≤ n → first_words words n ++ 10 ∷ [] ≡ line (texts words)
line_last words n all = ap (λ ws. fold with_word [] (texts ws) ++ 10 ∷ []) (take_all n words all)

pub last_prefix : (a b c : Option (List ℕ)) (words : List (Bor (List ℕ))) (n : ℕ) → length words ≤ n → Appends a b (first_words words n) → AppendsPrefix b c (10 ∷ [])
    → AppendsPrefix a c (line (texts words))
last_prefix a b c words n all whole part = subst (AppendsPrefix a c) (line_last words n all) (prefix_after a b c (first_words words n) (10 ∷ []) whole part)

-- the same, of an equal text
module _ {T E : Type 0} (a b : Option (List ℕ)) (f g : ℕ) (r : Result T E) (t u : List ℕ) (same : t ≡ u) where
  pub puts_as : Puts a b f g t r → Puts a b f g u r
  puts_as p = subst (λ x. Puts a b f g x r) same p

  pub put_as : OnOk r (Appends a b t) → OnErr r (AppendsPrefix a b t) → HasCause f g r → Puts a b f g u r
  put_as ok prefix cause = subst (λ x. Puts a b f g x r) same (record { ok = ok; prefix = prefix; cause = cause })
