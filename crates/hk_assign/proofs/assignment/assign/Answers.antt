use Rattle.std.proofs.Common.{◌≡◌, ◌∙◌, sym, ap, subst, length, arith}
use Rattle.std.proofs.lemmas.List.{take_at}
use Rattle.std.proofs.lemmas.List.FromFn.{length-range_with_len}
use Rattle.hk_assign.specs.Assignment.{TakesGreatest}
use Rattle.hk_assign.proofs.Blocked.{no_order}
use Rattle.hk_assign.proofs.assignment.assign.Goals as goal

pub returns-then-left-gt0-clause-none : goal.returns-then-left-gt0-clause-none
returns-then-left-gt0-clause-none c = no_order c.args.tasks.now _ c.requires.timed (c.place_all-left.ensures.stuck (λ none. omega (arith, none)))

pub returns-clause-greatest : goal.returns-clause-greatest
returns-clause-greatest c =
    let whole : c.of-2.result ≡ c.place_all-left.new.order = c.of-2.ensures ∙ take_at c.place_all-left.new.order _ (length c.args.tasks.now) (c.place_all-left.ensures.length ∙ ap length c.indices-order.ensures ∙ length-range_with_len 0 (length c.args.tasks.now)) in
    subst (TakesGreatest c.args.tasks.now) (sym whole) (c.place_all-left.ensures.greatest (omega arith))
