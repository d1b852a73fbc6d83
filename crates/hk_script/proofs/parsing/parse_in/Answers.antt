use Rattle.std.proofs.Common.{Ok, subst, sym, ◌∙◌}
use Rattle.std.proofs.lemmas.Result.{err_from_is_err_and}
use Rattle.hk_script.specs.Limits.{limits_of, widest}
use Rattle.hk_script.specs.Texts.{Refuses, script_of}
use Rattle.hk_script.proofs.Wider.{within_widest, wider_script}
use Rattle.hk_script.proofs.Texts.{text_takes, text_again, made_spelled, made_gives}
use Rattle.hk_script.proofs.parsing.parse_in.Goals as goal

pub new-requires : goal.new-requires
new-requires c =
    let limits = limits_of c.args.fields c.args.registers in
    wider_script limits widest (within_widest limits c.requires) _ (text_takes limits c.args.text.now _ c.in_ok-statements.ensures).script

pub returns-in_err-statements-clause-only : goal.returns-in_err-statements-clause-only
returns-in_err-statements-clause-only c =
    λ script h.
    let p = err_from_is_err_and c.from_residual.result c.from_residual.ensures.1 in
    rw (p.1, p.2) (subst (Refuses c.in_err-statements.field-0.0) (text_again (limits_of c.args.fields c.args.registers) c.requires c.args.text.now script h) c.in_err-statements.ensures)

pub returns-clause-spelled : goal.returns-clause-spelled
returns-clause-spelled c =
    let limits = limits_of c.args.fields c.args.registers in
    made_spelled limits c.args.text.now c.in_ok-statements.statements.items c.new.result c.new.ensures (text_takes limits c.args.text.now c.in_ok-statements.statements.items c.in_ok-statements.ensures)

pub returns-clause-only : goal.returns-clause-only
returns-clause-only c = λ script h. made_gives c.in_ok-statements.statements.items c.new.result (Ok script) c.new.ensures (sym (text_again (limits_of c.args.fields c.args.registers) c.requires c.args.text.now script h) ∙ c.in_ok-statements.ensures)

pub returns-clause-exact : goal.returns-clause-exact
returns-clause-exact c = made_gives c.in_ok-statements.statements.items c.new.result (script_of (limits_of c.args.fields c.args.registers) c.args.text.now) c.new.ensures c.in_ok-statements.ensures
