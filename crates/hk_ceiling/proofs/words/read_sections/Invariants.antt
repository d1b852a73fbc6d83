-- The words so far tell the sections so far.
use Rattle.std.proofs.Common.{◌≡◌, true, take, map}
use Rattle.std.specs.List.{list_all}
use Rattle.hk_ceiling.specs.Words.{tells, section_told}
use Rattle.hk_ceiling.proofs.words.read_sections.Given as goal

abbrev pub invariant-loop-word : goal.invariant-loop-word
invariant-loop-word l = (list_all tells (take l.word-index l.words) ≡ true) × (l.items.items ≡ map section_told (take l.word-index l.words))
