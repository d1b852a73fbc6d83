use Rattle.std.proofs.Common.{◌≡◌, ◌∷◌, ◌++◌, filter, Some, ap, ◌∙◌, arith}
use Rattle.std.proofs.lemmas.Grind.{common_steps}
use Rattle.std.specs.Map.{keys_of}
use Rattle.hk_sheet.specs.Code.{texts}
use Rattle.hk_sheet.proofs.KeyOrder.{is_unknown, first_unknown, none_unknown}
use Rattle.hk_sheet.proofs.keys.Keys.unlisted.Goals as goal

pub returns-then-not-is_listed : goal.returns-then-not-is_listed
returns-then-not-is_listed c =
    let known = texts c.args.own.now ++ texts c.args.more.now in
    let key = c.in-Some.key.now in
    let entries = c.args.self.now.table.now.entries in
    let more : key ∷ filter (is_unknown known) c.next.new.self ≡ filter (is_unknown known) (keys_of entries) = grind (arith, common_steps) in
    ap Some c.as_str-then-not-is_listed.ensures.value ∙ first_unknown known entries key _ c.keys-key-items.ensures.ordered more

pub returns : goal.returns
returns c = none_unknown (texts c.args.own.now ++ texts c.args.more.now) c.args.self.now.table.now.entries (grind (arith, common_steps))
