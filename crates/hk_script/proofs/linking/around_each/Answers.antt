use Rattle.std.proofs.Common.{◌≡◌, ◌++◌, ◌∷◌, [], ◌∙◌, List, drop, refl, sym, ap, arith, ◌+◌}
use Rattle.std.proofs.lemmas.List.{drop_all, append-nil}
use Rattle.std.proofs.lemmas.Result.{err_from_is_err_and}
use Rattle.hk_script.specs.declared.statement.Statement.{Statement}
use Rattle.hk_script.specs.Links.{around, arounds}
use Rattle.hk_script.proofs.Linked.{nests_or_memory, one_more}
use Rattle.hk_script.proofs.linking.around_each.Goals as goal

pub returns-in_err-nest : goal.returns-in_err-nest
returns-in_err-nest c =
    let p = err_from_is_err_and c.from_residual-in_err-nest.result c.from_residual-in_err-nest.ensures.1 in
    let i = c.loop-statement.invariant in
    rw (p.1, p.2) (nests_or_memory c.loop-statement.place c.loop-statement.blocks c.args.statements.now c.loop-statement.statement-index c.statement-item.result c.in_err-nest.field-0.0 (omega arith) c.statement-item.is i.2 c.in_err-nest.ensures)

pub loop-statement-init : goal.loop-statement-init
loop-statement-init c = (refl, rw (c.new-all.ensures.items, c.new-blocks.ensures) refl, rw c.new-blocks.ensures c.requires.blocks)

pub loop-statement-preserved : goal.loop-statement-preserved
loop-statement-preserved c =
    let i = c.loop-statement.invariant in
    let place = c.loop-statement.place in
    let few = c.requires.few in
    let next : c.saturating_add-place.result ≡ place + 1 = omega (arith, c.saturating_add-place.ensures, i.0) in
    let more = one_more place c.loop-statement.blocks c.nest.new.blocks c.args.statements.now c.loop-statement.statement-index c.statement-item.result c.loop-statement.all.items (arounds [] 0 c.args.statements.now) (omega arith) c.statement-item.is i.1 i.2 c.in_ok-nest.ensures in
    let pushed : c.push.new.self.items ≡ c.loop-statement.all.items ++ around c.loop-statement.blocks ∷ [] = c.in_ok-push.ensures.items ∙ rw (c.depth.ensures, c.again.ensures) refl in
    (omega (arith, next, i.0), rw (next, pushed) more.made, rw next more.nests)

pub returns : goal.returns
returns c =
    let i = c.loop-statement.invariant in
    let none : drop c.loop-statement.statement-index c.args.statements.now ≡ [] = drop_all c.loop-statement.statement-index c.args.statements.now (omega arith) in
    sym (append-nil c.loop-statement.all.items) ∙ sym (ap (λ (t : List Statement). c.loop-statement.all.items ++ arounds c.loop-statement.blocks c.loop-statement.place t) none) ∙ i.1
