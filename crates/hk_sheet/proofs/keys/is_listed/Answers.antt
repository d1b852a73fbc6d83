use Rattle.std.proofs.Common.{bytes_eq, refl}
use Rattle.std.proofs.lemmas.List.Folds.{list_any-append}
use Rattle.hk_sheet.specs.Code.{texts}
use Rattle.hk_sheet.specs.Faults.{is_known}
use Rattle.hk_sheet.proofs.keys.is_listed.Goals as goal

pub returns-then-is_among : goal.returns-then-is_among
unfolding is_known
returns-then-is_among c =
    rw (list_any-append (λ other. bytes_eq other c.args.key.now) (texts c.args.own.now) (texts c.args.more.now), ← c.is_among.ensures, c.if-is_among.true) refl

pub returns-else-is_among : goal.returns-else-is_among
unfolding is_known
returns-else-is_among c =
    rw (list_any-append (λ other. bytes_eq other c.args.key.now) (texts c.args.own.now) (texts c.args.more.now), ← c.is_among.ensures, c.if-is_among.false) c.is_among-else-is_among.ensures
