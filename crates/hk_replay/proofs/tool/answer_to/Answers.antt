-- What each form calls for.
use Rattle.std.proofs.Common.{Some, sym, ap, ◌∙◌}
use Rattle.hk_replay.proofs.ToolLemmas.{tells_check, tells_make, tells_usage}
use Rattle.hk_replay.proofs.tool.answer_to.Goals as goal

pub returns-in-Some-Check-clause-tells : goal.returns-in-Some-Check-clause-tells
returns-in-Some-Check-clause-tells g c =
    tells_check c.args.words.now (g.S.Source.left c.args.source.now) c.check_input.result (sym c.form_of.ensures ∙ c.in-Some-Check.is ∙ ap Some c.in-Some-Check.field-0-is) c.check_input.ensures.tells

pub returns-in-Some-Make-clause-tells : goal.returns-in-Some-Make-clause-tells
returns-in-Some-Make-clause-tells g c =
    tells_make c.args.words.now (g.S.Source.left c.args.source.now) c.make_log.result c.in-Some-Make.number (sym c.form_of.ensures ∙ c.in-Some-Make.is ∙ ap Some c.in-Some-Make.field-0-is) c.make_log.ensures

pub returns-in-None-clause-tells : goal.returns-in-None-clause-tells
returns-in-None-clause-tells g c =
    (tt, tells_usage c.args.words.now (g.S.Source.left c.args.source.now) c.usage_line.result (sym c.form_of.ensures ∙ c.in-None.is) c.usage_line.ensures)
