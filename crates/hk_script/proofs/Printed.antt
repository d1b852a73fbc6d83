-- What is printed spells the script.
use Rattle.std.proofs.Common.{◌≡◌, ℕ, ◌+◌, ◌^◌, ◌<◌, ◌≤◌, Bool, true, false, List, [], ◌∷◌, ◌++◌, length, map, take, get_or, refl, sym, ap, ◌∙◌, subst, arith, append_assoc}
use Rattle.std.specs.Prelude.{nat_lt, nat_le, filter, codes, ◌==◌, ◌||◌}
use Rattle.std.specs.List.{AllZip, AllByRecursion, All, list_all, slice_split, position_or_len}
use Rattle.std.specs.Fmt.{decimal}
use Rattle.std.specs.Str.Parse.{AllDigits}
use Rattle.std.proofs.lemmas.Fmt.{decimal_is_IsNumeral, length-decimal-le}
use Rattle.std.proofs.lemmas.Bool.Decides.{nat_tests}
use Rattle.std.proofs.lemmas.List.{map-append, append-nil, take_more}
use Rattle.std.proofs.lemmas.List.Folds.{list_all-append}
use Rattle.std.proofs.lemmas.List.Splits.{slice_split_at, slice_split_none}
use Rattle.std.proofs.lemmas.List.Sums.{position_or_len_is, AllPass-from_list_all}
use Rattle.hk_script.specs.declared.limits.Limits.{Limits}
use Rattle.hk_script.specs.declared.statement.Statement.{Statement}
use Rattle.hk_script.specs.declared.statement.Statement.TheVariants as statement
use Rattle.hk_script.specs.declared.statement.Test.{Test}
use Rattle.hk_script.specs.declared.statement.Test.TheVariants as test
use Rattle.hk_script.specs.declared.printing.Argument.{Argument}
use Rattle.hk_script.specs.Limits.{AreLimits, widest}
use Rattle.hk_script.specs.Lex.{is_blank, before_comment, words, lines}
use Rattle.hk_script.specs.Spelling.{Piece, Exactly, Numeral, SpellsPiece, SpellsStatement, variable, register, pieces, test_pieces, IsVariable, IsRegister, IsTest, IsStatement}
use Rattle.hk_script.specs.Blocks.{IsScript}
use Rattle.hk_script.specs.Texts.{has_words, statement_lines, Spells}
use Rattle.hk_script.specs.Printing.{word_of, spaced, line_from, line_of, text_of}
use Rattle.hk_script.specs.Arguments.{piece_of}
use Rattle.std.proofs.lemmas.Grind.{common_steps}
use Rattle.hk_script.proofs.Digits.{and_parts}
use Rattle.hk_script.proofs.Wider.{within_widest, wider_each}

-- ---- the loop of a line

pub spaced-append : (a b : List Piece) → spaced (a ++ b) ≡ spaced a ++ spaced b
spaced-append [] b = refl
spaced-append (p ∷ a) b = ap (λ (t : List ℕ). 32 ∷ t) (ap (λ (t : List ℕ). word_of p ++ t) (spaced-append a b) ∙ sym (append_assoc (word_of p) (spaced a) (spaced b)))

pub one_more : (args : List Argument) (i : ℕ) (d : Argument) → i < length args → spaced (map piece_of (take (i + 1) args)) ≡ spaced (map piece_of (take i args)) ++ (32 ∷ word_of (piece_of (get_or args i d)))
one_more args i d lt =
    ap (λ (t : List Argument). spaced (map piece_of t)) (take_more args i d lt)
    ∙ ap spaced (map-append piece_of (take i args) (get_or args i d ∷ []))
    ∙ spaced-append (map piece_of (take i args)) (piece_of (get_or args i d) ∷ [])
    ∙ ap (λ (t : List ℕ). spaced (map piece_of (take i args)) ++ (32 ∷ t)) (append-nil (word_of (piece_of (get_or args i d))))

-- ---- words of letters and digits

-- every byte is above those that part words and lines
abbrev clean : List ℕ → Bool
clean word = list_all (λ b. nat_le 48 b) word

record Good (p : Piece) : Type 0 where
  some : 0 < length (word_of p)
  clean_word : clean (word_of p) ≡ true
  spelled : SpellsPiece (word_of p) p

clean_digits : (ds : List ℕ) → AllDigits 10 ds → clean ds ≡ true
clean_digits [] h = refl
clean_digits (c ∷ ds) h =
    let low : nat_le 48 c ≡ true = let small = h.0 in grind (arith, nat_tests) in
    rw (low, clean_digits ds h.1) refl

good_number : (n : ℕ) → n < 2 ^ 64 → Good (Numeral n)
good_number n lt =
    let d = decimal_is_IsNumeral n lt in
    let few : length (decimal n) ≤ 20 = length-decimal-le 20 n (omega arith) (omega arith) lt in
    record { some = d.0.0; clean_word = clean_digits (decimal n) d.0.1; spelled = (d.0, few, d.1) }

good_name : (letter v : ℕ) → 48 ≤ letter → v < 2 ^ 64 → Good (Exactly (letter ∷ decimal v))
good_name letter v l small =
    let a : nat_le 48 letter ≡ true = grind (arith, nat_tests) in
    record { some = omega arith; clean_word = rw (a, (good_number v small).clean_word) refl; spelled = refl }

good_variable : (v : ℕ) → IsVariable v → Good (variable v)
good_variable v h = good_name 118 v (omega arith) (omega arith)

good_register : (v : ℕ) → IsRegister widest v → Good (register v)
good_register v h = good_name 114 v (omega arith) (omega arith)

good_word : (name : List ℕ) → 0 < length name → clean name ≡ true → Good (Exactly name)
good_word name s c = record { some = s; clean_word = c; spelled = refl }

abbrev AllGood : List Piece → Type 0
AllGood ps = AllByRecursion Good ps

good_test : (t : Test) → IsTest widest t → AllGood (test_pieces t)
good_test (test.Less l r) h = (good_variable l h.0, (good_word (codes "<") (omega arith) refl, (good_variable r h.1, tt)))
good_test (test.Equal l r) h = (good_variable l h.0, (good_word (codes "=") (omega arith) refl, (good_variable r h.1, tt)))
good_test (test.Null r) h = (good_word (codes "null") (omega arith) refl, (good_register r h, tt))
good_test (test.Same l r) h = (good_word (codes "same") (omega arith) refl, (good_register l h.0, (good_register r h.1, tt)))

good_pieces : (s : Statement) → IsStatement widest s → AllGood (pieces s)
good_pieces (statement.Work n) h = (good_word (codes "work") (omega arith) refl, (good_number n (omega arith), tt))
good_pieces (statement.Set v n) h = (good_word (codes "set") (omega arith) refl, (good_variable v h.0, (good_number n h.1, tt)))
good_pieces (statement.Copy v u) h = (good_word (codes "copy") (omega arith) refl, (good_variable v h.0, (good_variable u h.1, tt)))
good_pieces (statement.Add v u) h = (good_word (codes "add") (omega arith) refl, (good_variable v h.0, (good_variable u h.1, tt)))
good_pieces (statement.Sub v u) h = (good_word (codes "sub") (omega arith) refl, (good_variable v h.0, (good_variable u h.1, tt)))
good_pieces (statement.Job v) h = (good_word (codes "job") (omega arith) refl, (good_variable v h, tt))
good_pieces (statement.Out v) h = (good_word (codes "out") (omega arith) refl, (good_variable v h, tt))
good_pieces (statement.Get v r f) h = (good_word (codes "get") (omega arith) refl, (good_variable v h.0, (good_register r h.1, (good_number f (omega arith), tt))))
good_pieces (statement.Put r f v) h = (good_word (codes "put") (omega arith) refl, (good_register r h.0, (good_number f (omega arith), (good_variable v h.2, tt))))
good_pieces (statement.Load d r f) h = (good_word (codes "load") (omega arith) refl, (good_register d h.0.1, (good_register r h.1, (good_number f (omega arith), tt))))
good_pieces (statement.Store r f t) h = (good_word (codes "store") (omega arith) refl, (good_register r h.0, (good_number f (omega arith), (good_register t h.2, tt))))
good_pieces (statement.Move d r) h = (good_word (codes "move") (omega arith) refl, (good_register d h.0.1, (good_register r h.1, tt)))
good_pieces (statement.Clear d) h = (good_word (codes "clear") (omega arith) refl, (good_register d h.1, tt))
good_pieces (statement.New d shape) h = let few = shape.few in (good_word (codes "new") (omega arith) refl, (good_register d h.0.1, (good_number shape.refs (omega arith), (good_number shape.nums (omega arith), tt))))
good_pieces (statement.If t) h = (good_word (codes "if") (omega arith) refl, good_test t h)
good_pieces statement.Else h = (good_word (codes "else") (omega arith) refl, tt)
good_pieces (statement.Repeat n) h = (good_word (codes "repeat") (omega arith) refl, (good_number n (omega arith), tt))
good_pieces statement.End h = (good_word (codes "end") (omega arith) refl, tt)

-- ---- a line is parted into its words

-- no byte of a list passes a test that fails at each good byte
none_pass : (good bad : ℕ → Bool) (xs : List ℕ) → list_all good xs ≡ true → ((b : ℕ) → good b ≡ true → bad b ≡ false) → All (λ x. bad x ≡ false) xs
none_pass good bad xs h apart = λ k d lt. apart (get_or xs k d) (AllPass-from_list_all good xs h k d lt)

blank_apart : (b : ℕ) → nat_le 48 b ≡ true → is_blank b ≡ false
blank_apart b h = grind (arith, nat_tests)

abbrev content : Piece → List Piece → List ℕ
content p ps = word_of p ++ spaced ps

parts_of : (p : Piece) (ps : List Piece) → AllGood (p ∷ ps) → filter (λ word. nat_lt 0 (length word)) (slice_split is_blank (content p ps)) ≡ map word_of (p ∷ ps)
parts_of p [] h =
    let some : nat_lt 0 (length (word_of p)) ≡ true = let s = h.0.some in grind (arith, nat_tests) in
    let whole : content p [] ≡ word_of p = append-nil (word_of p) in
    let split : slice_split is_blank (content p []) ≡ word_of p ∷ [] = ap (slice_split is_blank) whole ∙ slice_split_none is_blank (word_of p) (none_pass (λ b. nat_le 48 b) is_blank (word_of p) h.0.clean_word blank_apart) in
    rw (split, some) refl
parts_of p (q ∷ ps) h =
    let some : nat_lt 0 (length (word_of p)) ≡ true = let s = h.0.some in grind (arith, nat_tests) in
    let split : slice_split is_blank (content p (q ∷ ps)) ≡ word_of p ∷ slice_split is_blank (content q ps) =
    slice_split_at is_blank (word_of p) 32 (content q ps) (none_pass (λ b. nat_le 48 b) is_blank (word_of p) h.0.clean_word blank_apart) refl in
    rw (split, some) (ap (λ (t : List (List ℕ)). word_of p ∷ t) (parts_of q ps h.1))

-- the bytes of a line
abbrev plain : ℕ → Bool
plain b = nat_le 48 b || b == 32

plain_word : (word : List ℕ) → clean word ≡ true → list_all plain word ≡ true
plain_word [] h = refl
plain_word (b ∷ word) h =
    let both = and_parts (nat_le 48 b) (clean word) h in
    rw (both.0, plain_word word both.1) refl

plain_spaced : (ps : List Piece) → AllGood ps → list_all plain (spaced ps) ≡ true
plain_spaced [] h = refl
plain_spaced (p ∷ ps) h = rw (list_all-append plain (word_of p) (spaced ps), plain_word (word_of p) h.0.clean_word, plain_spaced ps h.1) refl

plain_content : (p : Piece) (ps : List Piece) → AllGood (p ∷ ps) → list_all plain (content p ps) ≡ true
plain_content p ps h = rw (list_all-append plain (word_of p) (spaced ps), plain_word (word_of p) h.0.clean_word, plain_spaced ps h.1) refl

hash_apart : (b : ℕ) → plain b ≡ true → (b == 35) ≡ false
hash_apart b h = grind (arith, nat_tests)

newline_apart : (b : ℕ) → plain b ≡ true → (b == 10) ≡ false
newline_apart b h = grind (arith, nat_tests)

no_comment : (xs : List ℕ) → list_all plain xs ≡ true → before_comment xs ≡ xs
no_comment xs h =
    let none = none_pass plain (λ b. b == 35) xs h hash_apart in
    let far : position_or_len (λ b. b == 35) xs ≡ length xs = position_or_len_is (λ b. b == 35) xs (length xs) 0 (omega arith) (λ k lt. none k 0 lt) (λ lt. absurd (omega arith)) in
    rw far (grind (arith, common_steps))

words_of : (p : Piece) (ps : List Piece) → AllGood (p ∷ ps) → words (content p ps) ≡ map word_of (p ∷ ps)
words_of p ps h = ap (λ (t : List ℕ). filter (λ word. nat_lt 0 (length word)) (slice_split is_blank t)) (no_comment (content p ps) (plain_content p ps h)) ∙ parts_of p ps h

spells_all : (ps : List Piece) → AllGood ps → AllZip SpellsPiece (map word_of ps) ps
spells_all [] h = tt
spells_all (p ∷ ps) h = (h.0.spelled, spells_all ps h.1)

-- ---- a text is parted into its lines

line_starts : (ps : List Piece) (rest : List ℕ) (p : Piece) → AllGood (p ∷ ps) → lines (line_from (p ∷ ps) ++ rest) ≡ content p ps ∷ lines rest
line_starts ps rest p h =
    let parted : line_from (p ∷ ps) ++ rest ≡ content p ps ++ (10 ∷ rest) = simp append_assoc in
    ap lines parted ∙ slice_split_at (λ x. x == 10) (content p ps) 10 rest (none_pass plain (λ b. b == 10) (content p ps) (plain_content p ps h) newline_apart) refl

-- the pieces of a statement begin with its name
record Named (s : Statement) : Type 0 where
  first : Piece
  others : List Piece
  is : pieces s ≡ first ∷ others

name_of : (s : Statement) → Named s
name_of (statement.Work n) = record { first = _; others = _; is = refl }
name_of (statement.Set v n) = record { first = _; others = _; is = refl }
name_of (statement.Copy v u) = record { first = _; others = _; is = refl }
name_of (statement.Add v u) = record { first = _; others = _; is = refl }
name_of (statement.Sub v u) = record { first = _; others = _; is = refl }
name_of (statement.Job v) = record { first = _; others = _; is = refl }
name_of (statement.Out v) = record { first = _; others = _; is = refl }
name_of (statement.Get v r f) = record { first = _; others = _; is = refl }
name_of (statement.Put r f v) = record { first = _; others = _; is = refl }
name_of (statement.Load d r f) = record { first = _; others = _; is = refl }
name_of (statement.Store r f t) = record { first = _; others = _; is = refl }
name_of (statement.Move d r) = record { first = _; others = _; is = refl }
name_of (statement.Clear d) = record { first = _; others = _; is = refl }
name_of (statement.New d shape) = record { first = _; others = _; is = refl }
name_of (statement.If t) = record { first = _; others = _; is = refl }
name_of statement.Else = record { first = _; others = _; is = refl }
name_of (statement.Repeat n) = record { first = _; others = _; is = refl }
name_of statement.End = record { first = _; others = _; is = refl }

pub text_spells : (s : List Statement) → AllByRecursion (IsStatement widest) s → AllZip SpellsStatement (statement_lines (text_of s)) s
unfolding line_of
text_spells [] h = tt
text_spells (s ∷ more) h =
    let n = name_of s in
    let p = n.first in
    let ps = n.others in
    let good : AllGood (p ∷ ps) = subst AllGood n.is (good_pieces s h.0) in
    let cut : lines (text_of (s ∷ more)) ≡ content p ps ∷ lines (text_of more) = ap (λ (t : List Piece). lines (line_from t ++ text_of more)) n.is ∙ line_starts ps (text_of more) p good in
    let shown : statement_lines (text_of (s ∷ more)) ≡ map word_of (p ∷ ps) ∷ statement_lines (text_of more) =
    ap (λ (t : List (List ℕ)). filter has_words (map words t)) cut ∙ ap (λ (t : List (List ℕ)). filter has_words (t ∷ map words (lines (text_of more)))) (words_of p ps good) in
    let spelled : AllZip SpellsPiece (map word_of (p ∷ ps)) (pieces s) = subst (λ (t : List Piece). AllZip SpellsPiece (map word_of (p ∷ ps)) t) (sym n.is) (spells_all (p ∷ ps) good) in
    subst (λ (t : List (List (List ℕ))). AllZip SpellsStatement t (s ∷ more)) (sym shown) (spelled, text_spells more h.1)

-- the canonical text spells the script
pub script_spelled : (limits : Limits) → AreLimits limits → (s : List Statement) → IsScript limits s → Spells limits (text_of s) s
script_spelled limits are s h = record { lines = text_spells s (wider_each limits widest (within_widest limits are) s h.each); script = h }

pub whole_text : (s : List Statement) (i : ℕ) → length s ≤ i → text_of (take i s) ≡ text_of s
whole_text s i le = ap text_of (grind (arith, common_steps))
