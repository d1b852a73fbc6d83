-- Names and the texts of scripts have only bytes below 128.
use Rattle.std.proofs.Common.{◌≡◌, ℕ, ◌<◌, ◌^◌, Bool, true, List, [], ◌∷◌, ◌++◌, codes, arith, refl, inl, inr, ◌==◌}
use Rattle.std.specs.Prelude.{nat_lt}
use Rattle.std.specs.Char.{is_ascii_lowercase}
use Rattle.std.specs.List.{AllByRecursion, list_all}
use Rattle.std.specs.Fmt.{decimal}
use Rattle.std.specs.Str.{IsAscii, IsUtf8}
use Rattle.std.proofs.lemmas.Bool.{cases_Bool, and_parts, ltb-true, false≢true}
use Rattle.std.proofs.lemmas.Bool.Decides.{nat_tests}
use Rattle.std.proofs.lemmas.Fmt.{IsAscii-decimal}
use Rattle.std.proofs.lemmas.Str.{IsAscii-append, IsUtf8-from_ascii}
use Rattle.std.proofs.lemmas.Str.Ascii.{IsAscii-nil, IsAscii-cons}
use Rattle.hk_script.specs.Blocks.{IsScript}
use Rattle.hk_script.specs.Limits.{AreLimits, limits_of, widest}
use Rattle.hk_script.proofs.Wider.{within_widest, wider_each}
use Rattle.hk_script.specs.Printing.{word_of, spaced, line_from, line_of, text_of}
use Rattle.hk_script.specs.Spelling.{Piece, Exactly, variable, register, pieces, test_pieces, IsTest, IsStatement}
use Rattle.hk_script.specs.declared.statement.Statement.{Statement}
use Rattle.hk_script.specs.declared.statement.Statement.TheVariants as statement
use Rattle.hk_script.specs.declared.statement.Test.{Test}
use Rattle.hk_script.specs.declared.statement.Test.TheVariants as test
use Rattle.hk_sheet.specs.declared.sheet.HeapKeys.{HeapKeys}
use Rattle.hk_sheet.specs.Faults.{is_name_byte, is_name}
use Rattle.hk_sheet.specs.Valid.{is_breadth}

-- NAMES

name_byte_small : (b : ℕ) → is_name_byte b ≡ true → b < 128
name_byte_small b h = grind (arith, nat_tests)

first_byte_small : (b : ℕ) → is_ascii_lowercase b ≡ true → b < 128
first_byte_small b h = grind (arith, nat_tests)

name_bytes_ascii : (bytes : List ℕ) → list_all is_name_byte bytes ≡ true → IsAscii bytes
name_bytes_ascii [] are = IsAscii-nil
name_bytes_ascii (b ∷ bytes) are =
    let both = and_parts (is_name_byte b) (list_all is_name_byte bytes) are in
    IsAscii-cons b bytes (name_byte_small b both.0) (name_bytes_ascii bytes both.1)

name_ascii : (name : List ℕ) → is_name name ≡ true → IsAscii name
name_ascii [] is = absurd (false≢true is)
name_ascii (b ∷ bytes) is =
    let both = and_parts (is_ascii_lowercase b) _ is in
    let rest = and_parts (list_all is_name_byte bytes) _ both.1 in
    IsAscii-cons b bytes (first_byte_small b both.0) (name_bytes_ascii bytes rest.0)

-- a name is text
pub name_is_text : (name : List ℕ) → is_name name ≡ true → IsUtf8 name
name_is_text name is = IsUtf8-from_ascii name (name_ascii name is)

-- SCRIPTS

-- a word that is written out
abbrev are_small : List ℕ → Bool
are_small word = list_all (λ b. nat_lt b 128) word

word_ascii : (word : List ℕ) → are_small word ≡ true → IsAscii word
word_ascii [] small = IsAscii-nil
word_ascii (b ∷ word) small =
    let both = and_parts (nat_lt b 128) (are_small word) small in
    IsAscii-cons b word (ltb-true b 128 both.0) (word_ascii word both.1)

abbrev IsPlain : Piece → Type 0
IsPlain p = IsAscii (word_of p)

abbrev ArePlain : List Piece → Type 0
ArePlain ps = AllByRecursion IsPlain ps

name_plain : (letter v : ℕ) → letter < 128 → v < 2 ^ 64 → IsPlain (Exactly (letter ∷ decimal v))
name_plain letter v small fits = IsAscii-cons letter (decimal v) small (IsAscii-decimal v fits)

variable_plain : (v : ℕ) → v < 2 ^ 64 → IsPlain (variable v)
variable_plain v fits = name_plain 118 v (omega arith) fits

register_plain : (v : ℕ) → v < 2 ^ 64 → IsPlain (register v)
register_plain v fits = name_plain 114 v (omega arith) fits

test_plain : (t : Test) → IsTest widest t → ArePlain (test_pieces t)
test_plain (test.Less l r) h = (variable_plain l (omega arith), (word_ascii (codes "<") refl, (variable_plain r (omega arith), tt)))
test_plain (test.Equal l r) h = (variable_plain l (omega arith), (word_ascii (codes "=") refl, (variable_plain r (omega arith), tt)))
test_plain (test.Null r) h = (word_ascii (codes "null") refl, (register_plain r (omega arith), tt))
test_plain (test.Same l r) h = (word_ascii (codes "same") refl, (register_plain l (omega arith), (register_plain r (omega arith), tt)))

pieces_plain : (s : Statement) → IsStatement widest s → ArePlain (pieces s)
pieces_plain (statement.Work n) h = (word_ascii (codes "work") refl, (IsAscii-decimal n (omega arith), tt))
pieces_plain (statement.Set v n) h = (word_ascii (codes "set") refl, (variable_plain v (omega arith), (IsAscii-decimal n h.1, tt)))
pieces_plain (statement.Copy v u) h = (word_ascii (codes "copy") refl, (variable_plain v (omega arith), (variable_plain u (omega arith), tt)))
pieces_plain (statement.Add v u) h = (word_ascii (codes "add") refl, (variable_plain v (omega arith), (variable_plain u (omega arith), tt)))
pieces_plain (statement.Sub v u) h = (word_ascii (codes "sub") refl, (variable_plain v (omega arith), (variable_plain u (omega arith), tt)))
pieces_plain (statement.Job v) h = (word_ascii (codes "job") refl, (variable_plain v (omega arith), tt))
pieces_plain (statement.Out v) h = (word_ascii (codes "out") refl, (variable_plain v (omega arith), tt))
pieces_plain (statement.Get v r f) h = (word_ascii (codes "get") refl, (variable_plain v (omega arith), (register_plain r (omega arith), (IsAscii-decimal f (omega arith), tt))))
pieces_plain (statement.Put r f v) h = (word_ascii (codes "put") refl, (register_plain r (omega arith), (IsAscii-decimal f (omega arith), (variable_plain v (omega arith), tt))))
pieces_plain (statement.Load d r f) h = (word_ascii (codes "load") refl, (register_plain d (omega arith), (register_plain r (omega arith), (IsAscii-decimal f (omega arith), tt))))
pieces_plain (statement.Store r f t) h = (word_ascii (codes "store") refl, (register_plain r (omega arith), (IsAscii-decimal f (omega arith), (register_plain t (omega arith), tt))))
pieces_plain (statement.Move d r) h = (word_ascii (codes "move") refl, (register_plain d (omega arith), (register_plain r (omega arith), tt)))
pieces_plain (statement.Clear d) h = (word_ascii (codes "clear") refl, (register_plain d (omega arith), tt))
pieces_plain (statement.New d shape) h =
    let few = shape.few in
    (word_ascii (codes "new") refl, (register_plain d (omega arith), (IsAscii-decimal shape.refs (omega arith), (IsAscii-decimal shape.nums (omega arith), tt))))
pieces_plain (statement.If t) h = (word_ascii (codes "if") refl, test_plain t h)
pieces_plain statement.Else h = (word_ascii (codes "else") refl, tt)
pieces_plain (statement.Repeat n) h = (word_ascii (codes "repeat") refl, (IsAscii-decimal n (omega arith), tt))
pieces_plain statement.End h = (word_ascii (codes "end") refl, tt)

spaced_ascii : (ps : List Piece) → ArePlain ps → IsAscii (spaced ps)
spaced_ascii [] are = IsAscii-nil
spaced_ascii (p ∷ ps) are = IsAscii-cons 32 (word_of p ++ spaced ps) (omega arith) (IsAscii-append (word_of p) (spaced ps) are.0 (spaced_ascii ps are.1))

newline_ascii : IsAscii (10 ∷ [])
newline_ascii = IsAscii-cons 10 [] (omega arith) IsAscii-nil

line_ascii : (ps : List Piece) → ArePlain ps → IsAscii (line_from ps)
line_ascii [] are = newline_ascii
line_ascii (p ∷ ps) are = IsAscii-append (word_of p ++ spaced ps) (10 ∷ []) (IsAscii-append (word_of p) (spaced ps) are.0 (spaced_ascii ps are.1)) newline_ascii

text_ascii : (script : List Statement) → AllByRecursion (IsStatement widest) script → IsAscii (text_of script)
unfolding line_of
text_ascii [] are = IsAscii-nil
text_ascii (s ∷ script) are = IsAscii-append (line_of s) (text_of script) (line_ascii (pieces s) (pieces_plain s are.0)) (text_ascii script are.1)

-- the text of a script is text
pub script_is_text : (script : List Statement) → IsScript widest script → IsUtf8 (text_of script)
script_is_text script is = IsUtf8-from_ascii (text_of script) (text_ascii script is.each)

-- a breadth gives limits that scripts are read with, and a script of these keeps the widest ones
pub limits_are : (fields registers : ℕ) → is_breadth fields registers ≡ true → AreLimits (limits_of fields registers)
limits_are fields registers is =
    elim (cases_Bool (fields == 254)) [
      | inl wide ↦ inr (grind (arith, nat_tests), grind (arith, nat_tests), grind (arith, nat_tests))
      | inr narrow ↦ inl (grind (arith, nat_tests), grind (arith, nat_tests))
    ]

pub keeps_widest : (heap : HeapKeys) (script : List Statement) → is_breadth heap.fields heap.registers ≡ true → IsScript (limits_of heap.fields heap.registers) script → IsScript widest script
keeps_widest heap script is keeps = record {
  each = wider_each (limits_of heap.fields heap.registers) widest (within_widest (limits_of heap.fields heap.registers) (limits_are heap.fields heap.registers is)) script keeps.each;
  blocks = keeps.blocks;
  some = keeps.some;
  few = keeps.few;
}
