-- The words of sections: NAME:RES:START:LEN.
use Rattle.std.specs.Prelude.{◌≡◌, ℕ, min, Bool, ◌&&◌, nat_eq, nat_lt, nat_le, List, length, map, Option, Some, None, if◌then◌else◌, String, string_bytes}
use Rattle.std.specs.declared.alloc.Global.{Global}
use Rattle.std.specs.List.{before_first, after_first, position_or_len, list_all}
use Rattle.std.specs.Char.{is_ascii_digit}
use Rattle.std.specs.Str.Parse.{digits_value}
use Rattle.hk_sheet.specs.Faults.{is_name}
use Rattle.hk_ceiling.specs.declared.told.Section.{Section}

abbrev pub is_colon : ℕ → Bool
is_colon byte = nat_eq byte 58

-- a text has a colon
abbrev pub has_colon : List ℕ → Bool
has_colon text = nat_lt (position_or_len is_colon text) (length text)

-- what stands before the first colon, and what after it
abbrev pub head : List ℕ → List ℕ
head text = before_first is_colon text

abbrev pub rest : List ℕ → List ℕ
rest text = after_first is_colon text

-- 1 to 8 decimal digits, and the number that they spell
abbrev pub is_number : List ℕ → Bool
is_number text = nat_lt 0 (length text) && (nat_le (length text) 8 && list_all is_ascii_digit text)

abbrev pub number_of : List ℕ → Option ℕ
number_of text = if is_number text then Some (digits_value 10 text) else None

-- the four parts of a word are those before the first three colons, and what stands after the third
abbrev pub name_in : List ℕ → List ℕ
name_in word = head word

abbrev pub resource_in : List ℕ → List ℕ
resource_in word = head (rest word)

abbrev pub start_in : List ℕ → List ℕ
start_in word = head (rest (rest word))

abbrev pub length_in : List ℕ → List ℕ
length_in word = rest (rest (rest word))

-- a word has three colons at least; its first part is a task's name, and the other three are numbers
abbrev pub is_section : List ℕ → Bool
is_section word =
    has_colon word && (has_colon (rest word) && (has_colon (rest (rest word)) && (is_name (name_in word)
    && (is_number (resource_in word) && (is_number (start_in word) && is_number (length_in word))))))

-- the parts of a word, as they are told
pub record Tells (word name : List ℕ) (resource start len : ℕ) : Type 0 where
  pub name_is : name ≡ name_in word
  pub resource_is : resource ≡ digits_value 10 (resource_in word)
  pub start_is : start ≡ digits_value 10 (start_in word)
  pub len_is : len ≡ digits_value 10 (length_in word)

-- the section that a word tells; a resource above 255 is told as 255
abbrev pub section_from : List ℕ → Section
section_from word = record {
  name = name_in word;
  res = min (digits_value 10 (resource_in word)) 255;
  start = digits_value 10 (start_in word);
  len = digits_value 10 (length_in word);
}

-- at most 64 words, each of which tells a section
abbrev pub tells : String Global → Bool
tells word = is_section (string_bytes word)

abbrev pub are_sections : List (String Global) → Bool
are_sections words = nat_le (length words) 64 && list_all tells words

abbrev pub section_told : String Global → Section
section_told word = section_from (string_bytes word)

abbrev pub sections_from : List (String Global) → List Section
sections_from words = map section_told words
