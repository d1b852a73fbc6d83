use Rattle.std.proofs.Common.{◌∙◌, ap}
use Rattle.hk_core.specs.declared.outcome.Outcome.TheVariants.{Full}
use Rattle.hk_core.proofs.NewRows.{full_left, full_answers, raise_can, wait_can, wait_left, wait_answers, make_can, make_answers, shut_can, make_left}
use Rattle.hk_core.proofs.machine.Core.make_through.Goals as goal

pub returns-then-full_to-clause-row : goal.returns-then-full_to-clause-row
returns-then-full_to-clause-row c =
    full_left c.args.self.now _ _ c.args.seat c.args.dest c.args.shape _ c.self.view_is c.ask-found.ensures.row c.ask-found.ensures.word c.if-full_to.ensures

pub returns-then-full_to-clause-outcome : goal.returns-then-full_to-clause-outcome
returns-then-full_to-clause-outcome c =
    ap Full (c.from.ensures ∙ c.w0_words.ensures)
    ∙ full_answers c.args.self.now _ _ c.args.seat c.args.dest c.args.shape _ c.self.view_is c.ask-found.ensures.row c.ask-found.ensures.word c.if-full_to.ensures

pub raise_through-raised-requires-clause-fits : goal.raise_through-raised-requires-clause-fits
raise_through-raised-requires-clause-fits c =
    raise_can c.args.self.now _ _ c.args.seat c.args.dest c.args.shape _ c.self.view_is c.ask-found.ensures.row c.ask-found.ensures.word c.if-full_to.ensures c.requires.places

pub shut-requires-clause-leaves : goal.shut-requires-clause-leaves
shut-requires-clause-leaves c =
    wait_can c.args.self.now _ _ c.args.seat c.args.dest c.args.shape _ c.self.view_is c.ask-found.ensures.row c.ask-found.ensures.word c.if-full_to.ensures c.requires.places
    _ _ c.raise_through-raised.ensures.row c.raise_through-raised.ensures.word c.if-full_to_all.ensures

pub returns-then-full_to_all-clause-row : goal.returns-then-full_to_all-clause-row
returns-then-full_to_all-clause-row c =
    wait_left c.args.self.now _ _ c.args.seat c.args.dest c.args.shape _ c.self.view_is c.ask-found.ensures.row c.ask-found.ensures.word c.if-full_to.ensures c.requires.places
    _ _ c.raise_through-raised.ensures.row c.raise_through-raised.ensures.word c.if-full_to_all.ensures _ c.shut.ensures

pub returns-then-full_to_all-clause-outcome : goal.returns-then-full_to_all-clause-outcome
returns-then-full_to_all-clause-outcome c =
    ap Full (c.from-then-full_to_all.ensures ∙ c.w0_words-then-full_to_all.ensures)
    ∙ wait_answers c.args.self.now _ _ c.args.seat c.args.dest c.args.shape _ c.self.view_is c.ask-found.ensures.row c.ask-found.ensures.word c.if-full_to.ensures c.requires.places
    _ _ c.raise_through-raised.ensures.row c.raise_through-raised.ensures.word c.if-full_to_all.ensures

pub object_through-requires-clause-fits : goal.object_through-requires-clause-fits
object_through-requires-clause-fits c =
    make_can c.args.self.now _ _ c.args.seat c.args.dest c.args.shape _ c.self.view_is c.ask-found.ensures.row c.ask-found.ensures.word c.if-full_to.ensures c.requires.places
    _ _ c.raise_through-raised.ensures.row c.raise_through-raised.ensures.word c.if-full_to_all.ensures

pub shut-requires-2-clause-leaves : goal.shut-requires-2-clause-leaves
shut-requires-2-clause-leaves c =
    shut_can c.args.self.now _ _ c.args.seat c.args.dest c.args.shape _ c.self.view_is c.ask-found.ensures.row c.ask-found.ensures.word c.if-full_to.ensures c.requires.places
    _ _ c.raise_through-raised.ensures.row c.raise_through-raised.ensures.word c.if-full_to_all.ensures _ c.object_through.ensures

pub returns-clause-row : goal.returns-clause-row
returns-clause-row c =
    make_left c.args.self.now _ _ c.args.seat c.args.dest c.args.shape _ c.self.view_is c.ask-found.ensures.row c.ask-found.ensures.word c.if-full_to.ensures c.requires.places
    _ _ c.raise_through-raised.ensures.row c.raise_through-raised.ensures.word c.if-full_to_all.ensures _ c.object_through.ensures _ c.shut-2.ensures

pub returns-clause-outcome : goal.returns-clause-outcome
returns-clause-outcome c =
    make_answers c.args.self.now _ _ c.args.seat c.args.dest c.args.shape _ c.self.view_is c.ask-found.ensures.row c.ask-found.ensures.word c.if-full_to.ensures c.requires.places
    _ _ c.raise_through-raised.ensures.row c.raise_through-raised.ensures.word c.if-full_to_all.ensures
