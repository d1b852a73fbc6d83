use Rattle.std.proofs.Common.{◌≡◌, take}
use Rattle.std.specs.List.{flat_map}
use Rattle.hk_sheet.specs.Faults.{shown_byte}
use Rattle.hk_sheet.proofs.paths.shown_at.Given as goal

-- the characters so far
abbrev pub invariant-loop-byte : goal.invariant-loop-byte
invariant-loop-byte l = l.items.items ≡ flat_map shown_byte (take l.byte-index l.byte-items)
