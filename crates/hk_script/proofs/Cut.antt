-- The words of a line, one after another.
use Rattle.std.proofs.Common.{◌≡◌, ℕ, suc, ◌<◌, ◌≤◌, true, false, List, [], ◌∷◌, ◌++◌, length, take, drop, get_or, refl, sym, ap, ◌∙◌, subst, arith, inl, inr}
use Rattle.std.specs.Prelude.{nat_lt, filter, ◌==◌}
use Rattle.std.specs.List.{slice_split, position_or_len, All}
use Rattle.std.proofs.Math.Seq.{take-append-add}
use Rattle.std.proofs.lemmas.Bool.{cases_Bool, cases_lt}
use Rattle.std.proofs.lemmas.Bool.Decides.{nat_tests}
use Rattle.std.proofs.lemmas.List.{append-nil, take-append-drop, length-take-le, get_or-take, drop_more, drop_all}
use Rattle.std.proofs.lemmas.List.Splits.{slice_split_at, slice_split_none}
use Rattle.std.proofs.lemmas.List.Sums.{fails_before_first, passes_at_first}
use Rattle.hk_script.specs.Lex.{is_blank, ends_word, before_comment, words}

-- no byte of these ends a word
abbrev InWord : List ℕ → Type 0
InWord text = All (λ b. ends_word b ≡ false) text

-- these come after a word
abbrev pub AfterWord : List ℕ → Type 0
AfterWord [] = Unit {0}
AfterWord (b ∷ rest) = ends_word b ≡ true

-- the words of what stands before a comment
abbrev parted : List ℕ → List (List ℕ)
parted text = filter (λ word. nat_lt 0 (length word)) (slice_split is_blank text)

kept : (b : ℕ) (rest : List ℕ) → (b == 35) ≡ false → before_comment (b ∷ rest) ≡ b ∷ before_comment rest
kept b rest other = rw other (take-append-add (b ∷ []) rest (position_or_len (λ x. x == 35) rest))

-- a blank in front changes no word
pub words_after_blank : (b : ℕ) (rest : List ℕ) → is_blank b ≡ true → words (b ∷ rest) ≡ words rest
words_after_blank b rest h =
    let other : (b == 35) ≡ false = grind (arith, nat_tests) in
    ap parted (kept b rest other) ∙ rw h refl

-- a comment has no word
pub words_of_comment : (b : ℕ) (rest : List ℕ) → (b == 35) ≡ true → words (b ∷ rest) ≡ []
words_of_comment b rest h = rw h refl

-- a comment begins in no word
past_word : (w rest : List ℕ) → InWord w → before_comment (w ++ rest) ≡ w ++ before_comment rest
past_word [] rest h = refl
past_word (b ∷ w) rest h =
    let other : (b == 35) ≡ false = let e = h 0 0 (omega arith) in grind (arith, nat_tests) in
    kept b (w ++ rest) other ∙ ap (λ (l : List ℕ). b ∷ l) (past_word w rest (λ k d lt. h (suc k) d (omega arith)))

no_blank : (b : ℕ) → ends_word b ≡ false → is_blank b ≡ false
no_blank b h = grind (arith, nat_tests)

one_word : (w : List ℕ) → 0 < length w → InWord w → parted (w ++ []) ≡ w ∷ []
one_word w some h =
    let test : nat_lt 0 (length w) ≡ true = grind (arith, nat_tests) in
    rw (append-nil w, slice_split_none is_blank w (λ k d lt. no_blank (get_or w k d) (h k d lt)), test) refl

-- a word and what comes after it
words_apart : (w rest : List ℕ) → 0 < length w → InWord w → AfterWord rest → words (w ++ rest) ≡ w ∷ words rest
words_apart w [] some h a = ap parted (past_word w [] h) ∙ one_word w some h
words_apart w (b ∷ rest) some h a = elim (cases_Bool (b == 35)) [
  | inl comment ↦
      let cut : before_comment (b ∷ rest) ≡ [] = rw comment refl in
      ap parted (past_word w (b ∷ rest) h) ∙ ap (λ (l : List ℕ). parted (w ++ l)) cut ∙ one_word w some h ∙ ap (λ (l : List (List ℕ)). w ∷ l) (sym (words_of_comment b rest comment))
  | inr other ↦
      let blank : is_blank b ≡ true = grind (arith, nat_tests) in
      let test : nat_lt 0 (length w) ≡ true = grind (arith, nat_tests) in
      let split : slice_split is_blank (w ++ b ∷ before_comment rest) ≡ w ∷ slice_split is_blank (before_comment rest) =
      slice_split_at is_blank w b (before_comment rest) (λ k d lt. no_blank (get_or w k d) (h k d lt)) blank in
      ap parted (past_word w (b ∷ rest) h) ∙ ap (λ (l : List ℕ). parted (w ++ l)) (kept b rest other) ∙ rw (split, test) (ap (λ (l : List (List ℕ)). w ∷ l) (sym (words_after_blank b rest blank)))
]

-- a line that begins with a word of so many bytes
pub words_cut : (line : List ℕ) (n : ℕ) → n ≡ position_or_len ends_word line → n ≤ length line → 0 < n → words line ≡ take n line ∷ words (drop n line)
words_cut line n e within some =
    let count : length (take n line) ≡ n = length-take-le n line within in
    let first : 0 < length (take n line) = omega (arith, count) in
    let inside : InWord (take n line) = λ k d lt. let before : k < n = omega (arith, count) in rw (get_or-take n line k d before) (fails_before_first ends_word line k d (omega arith)) in
    let after : AfterWord (drop n line) = elim (cases_lt n (length line)) [
      | inl lt ↦
          let at : ends_word (get_or line n 0) ≡ true = rw e (passes_at_first ends_word line 0 (omega arith)) in
          subst AfterWord (sym (drop_more line n 0 lt)) at
      | inr le ↦ subst AfterWord (sym (drop_all n line (omega arith))) tt
    ] in
    ap words (sym (take-append-drop n line)) ∙ words_apart (take n line) (drop n line) first inside after
