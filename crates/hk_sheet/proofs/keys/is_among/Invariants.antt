use Rattle.std.proofs.Common.{◌≡◌, drop, bytes_eq}
use Rattle.std.specs.List.{list_any}
use Rattle.hk_sheet.specs.Code.{texts}
use Rattle.hk_sheet.proofs.keys.is_among.Given as goal

-- the key is one of those that are left exactly where it is one of all
abbrev pub invariant-loop-other : goal.invariant-loop-other
invariant-loop-other l = list_any (λ other. bytes_eq other l.key) (texts (drop l.other-index l.listed)) ≡ list_any (λ other. bytes_eq other l.key) (texts l.listed)
