use Rattle.std.proofs.Common.{◌≡◌, ◌++◌, filter}
use Rattle.std.specs.Map.{keys_of}
use Rattle.hk_sheet.specs.Code.{texts}
use Rattle.hk_sheet.proofs.KeyOrder.{is_unknown}
use Rattle.hk_sheet.proofs.keys.Keys.unlisted.Given as goal

-- the unknown keys are among those that are left
abbrev pub invariant-loop-key : goal.invariant-loop-key
invariant-loop-key l = filter (is_unknown (texts l.own ++ texts l.more)) l.key-iterator ≡ filter (is_unknown (texts l.own ++ texts l.more)) (keys_of l.self.table.now.entries)
