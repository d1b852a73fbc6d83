-- The laws of the packed words, for the proofs of the crates above.
use Rattle.std.proofs.Common.{ℕ, ◌+◌, ◌-◌, ◌^◌, ◌<◌, arith}
use Rattle.hk_words.specs.Layout.{number_bits, refs_bits, nums_bits, accessors_bits, place_bits, blackened_bits, version_bits, words_bits, objects_bits, cycle_bits, entering, leaving, raise_by}
use Rattle.hk_words.specs.Layout.{IsReference, pack_reference}
use Rattle.hk_words.specs.Layout.{IsHeader, pack_header, header_accessors, header_place, header_version, header_moved}
use Rattle.hk_words.specs.Layout.{IsFrame, frame_accessors, frame_cycle, frame_version, frame_blackened}
use Rattle.hk_words.specs.Layout.{IsW0, pack_w0, w0_words, w0_objects, w0_cycle}

-- References

pub reference_unpacks : (number refs nums : ℕ) → number + 1 < 2 ^ number_bits → refs < 2 ^ refs_bits → nums < 2 ^ nums_bits → IsReference (pack_reference number refs nums) number refs nums
reference_unpacks number refs nums a b c = record { number = omega arith; refs = omega arith; nums = omega arith }

-- Headers

pub header_unpacks : (accessors place version : ℕ) → accessors < 2 ^ accessors_bits → place < 2 ^ place_bits → IsHeader (pack_header accessors place version) accessors place version
header_unpacks accessors place version a b = record { accessors = omega arith; place = omega arith; version = omega arith }

pub header_enters : (word : ℕ) → header_accessors word + 1 < 2 ^ accessors_bits → IsHeader (word + entering) (header_accessors word + 1) (header_place word) (header_version word + 1)
header_enters word a = record { accessors = omega arith; place = omega arith; version = omega arith }

pub header_leaves : (word : ℕ) → 0 < header_accessors word → IsHeader (word - leaving) (header_accessors word - 1) (header_place word) (header_version word)
header_leaves word a = record { accessors = omega arith; place = omega arith; version = omega arith }

pub header_moves : (word place : ℕ) → place < 2 ^ place_bits → IsHeader (header_moved word place) (header_accessors word) place (header_version word)
header_moves word place a = record { accessors = omega arith; place = omega arith; version = omega arith }

pub header_fits : (word : ℕ) → header_version word < 2 ^ version_bits → word < 2 ^ 64
header_fits word a = omega arith

-- Frame words

pub frame_enters : (word : ℕ) → frame_accessors word + 1 < 2 ^ accessors_bits → IsFrame (word + entering) (frame_accessors word + 1) (frame_cycle word) (frame_version word + 1)
frame_enters word a = record { accessors = omega arith; cycle = omega arith; version = omega arith }

pub frame_leaves : (word : ℕ) → 0 < frame_accessors word → IsFrame (word - leaving) (frame_accessors word - 1) (frame_cycle word) (frame_version word)
frame_leaves word a = record { accessors = omega arith; cycle = omega arith; version = omega arith }

pub frame_blackens : (word cycle : ℕ) → cycle < 2 ^ blackened_bits → IsFrame (frame_blackened word cycle) (frame_accessors word) cycle (frame_version word)
frame_blackens word cycle a = record { accessors = omega arith; cycle = omega arith; version = omega arith }

pub frame_fits : (word : ℕ) → frame_version word < 2 ^ version_bits → word < 2 ^ 64
frame_fits word a = omega arith

-- W0

pub w0_unpacks : (words objects cycle : ℕ) → words < 2 ^ words_bits → objects < 2 ^ objects_bits → IsW0 (pack_w0 words objects cycle) words objects cycle
w0_unpacks words objects cycle a b = record { words = omega arith; objects = omega arith; cycle = omega arith }

pub w0_raises : (word words : ℕ) → w0_words word + words < 2 ^ words_bits → w0_objects word + 1 < 2 ^ objects_bits → IsW0 (word + raise_by words) (w0_words word + words) (w0_objects word + 1) (w0_cycle word)
w0_raises word words a b = record { words = omega arith; objects = omega arith; cycle = omega arith }

pub w0_fits : (word : ℕ) → w0_cycle word < 2 ^ cycle_bits → word < 2 ^ 64
w0_fits word a = omega arith
