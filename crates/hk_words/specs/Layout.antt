-- The packed words of the heap. Each word is made of fields, from its lowest bit up, and the last field takes the
-- bits that are left of 64.
use Rattle.std.specs.Prelude.{◌≡◌, ◌≢◌, ℕ, ◌+◌, ◌-◌, ◌*◌, ◌/◌, ◌%◌, ◌^◌}

-- the lowest field of a word, of so many bits
abbrev pub first_field : (width word : ℕ) → ℕ
first_field width word = word % 2 ^ width

-- the field of so many bits above so many lower bits
abbrev pub field_of : (below width word : ℕ) → ℕ
field_of below width word = word / 2 ^ below % 2 ^ width

-- the last field of a word, above so many lower bits
abbrev pub last_field : (below word : ℕ) → ℕ
last_field below word = word / 2 ^ below

-- a field's value, moved to its place in a word
abbrev pub field_at : (below value : ℕ) → ℕ
field_at below value = value * 2 ^ below

-- the widths, in bits, of the fields of a reference: one more than the object's number, and the fields of its shape
abbrev pub number_bits : ℕ
number_bits = 20

abbrev pub refs_bits : ℕ
refs_bits = 8

abbrev pub nums_bits : ℕ
nums_bits = 8

-- the widths of the fields of a header or a frame word: the accessors, the object's place or the cycle in which the
-- frame was last blackened, and the version
abbrev pub accessors_bits : ℕ
accessors_bits = 6

abbrev pub place_bits : ℕ
place_bits = 22

abbrev pub blackened_bits : ℕ
blackened_bits = 22

abbrev pub version_bits : ℕ
version_bits = 36

-- the widths of the fields of W0: the words used, the objects made, and the cycle
abbrev pub words_bits : ℕ
words_bits = 24

abbrev pub objects_bits : ℕ
objects_bits = 20

abbrev pub cycle_bits : ℕ
cycle_bits = 20

-- a reference's parts; null is the word 0
abbrev pub reference_number : ℕ → ℕ
reference_number word = first_field number_bits word - 1

abbrev pub reference_refs : ℕ → ℕ
reference_refs word = field_of number_bits refs_bits word

abbrev pub reference_nums : ℕ → ℕ
reference_nums word = field_of (number_bits + refs_bits) nums_bits word

-- the reference to the object of this number, whose shape has these reference fields and number fields
abbrev pub pack_reference : (number refs nums : ℕ) → ℕ
pack_reference number refs nums =
    number + 1 + field_at number_bits refs + field_at (number_bits + refs_bits) nums

-- a word names an object: its lowest field isn't 0
abbrev pub NamesObject : ℕ → Type 0
NamesObject word = first_field number_bits word ≢ 0

-- an object's header: how many calls are inside it, where it is, and how often a call entered it
abbrev pub header_accessors : ℕ → ℕ
header_accessors word = first_field accessors_bits word

abbrev pub header_place : ℕ → ℕ
header_place word = field_of accessors_bits place_bits word

abbrev pub header_version : ℕ → ℕ
header_version word = last_field (accessors_bits + place_bits) word

abbrev pub pack_header : (accessors place version : ℕ) → ℕ
pack_header accessors place version =
    accessors + field_at accessors_bits place + field_at (accessors_bits + place_bits) version

-- the header with another place
abbrev pub header_moved : (word place : ℕ) → ℕ
header_moved word place = pack_header (header_accessors word) place (header_version word)

-- a task's frame word: how many calls are inside the frame, the cycle in which it was last blackened, and how
-- often a call entered it
abbrev pub frame_accessors : ℕ → ℕ
frame_accessors word = first_field accessors_bits word

abbrev pub frame_cycle : ℕ → ℕ
frame_cycle word = field_of accessors_bits blackened_bits word

abbrev pub frame_version : ℕ → ℕ
frame_version word = last_field (accessors_bits + blackened_bits) word

abbrev pub pack_frame : (accessors cycle version : ℕ) → ℕ
pack_frame accessors cycle version =
    accessors + field_at accessors_bits cycle + field_at (accessors_bits + blackened_bits) version

-- the frame word with another cycle
abbrev pub frame_blackened : (word cycle : ℕ) → ℕ
frame_blackened word cycle = pack_frame (frame_accessors word) cycle (frame_version word)

-- W0: the words used for allocation in this cycle, the objects made in it, and its number
abbrev pub w0_words : ℕ → ℕ
w0_words word = first_field words_bits word

abbrev pub w0_objects : ℕ → ℕ
w0_objects word = field_of words_bits objects_bits word

abbrev pub w0_cycle : ℕ → ℕ
w0_cycle word = last_field (words_bits + objects_bits) word

abbrev pub pack_w0 : (words objects cycle : ℕ) → ℕ
pack_w0 words objects cycle =
    words + field_at words_bits objects + field_at (words_bits + objects_bits) cycle

-- what a call adds to a header or a frame word as it enters: one accessor and one version
abbrev pub entering : ℕ
entering = pack_header 1 0 1

-- what a call takes from a header or a frame word as it leaves: one accessor
abbrev pub leaving : ℕ
leaving = pack_header 1 0 0

-- what making an object of so many words adds to W0
abbrev pub raise_by : (words : ℕ) → ℕ
raise_by words = pack_w0 words 1 0

-- a word with these parts, as a reference
pub record IsReference (word number' refs' nums' : ℕ) : Type 0 where
  pub number : reference_number word ≡ number'
  pub refs : reference_refs word ≡ refs'
  pub nums : reference_nums word ≡ nums'

-- a word with these parts, as a header
pub record IsHeader (word accessors' place' version' : ℕ) : Type 0 where
  pub accessors : header_accessors word ≡ accessors'
  pub place : header_place word ≡ place'
  pub version : header_version word ≡ version'

-- a word with these parts, as a frame word
pub record IsFrame (word accessors' cycle' version' : ℕ) : Type 0 where
  pub accessors : frame_accessors word ≡ accessors'
  pub cycle : frame_cycle word ≡ cycle'
  pub version : frame_version word ≡ version'

-- a word with these parts, as W0
pub record IsW0 (word words' objects' cycle' : ℕ) : Type 0 where
  pub words : w0_words word ≡ words'
  pub objects : w0_objects word ≡ objects'
  pub cycle : w0_cycle word ≡ cycle'
