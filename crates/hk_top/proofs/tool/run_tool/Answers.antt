-- What the parts answer is what the program answers.
use Rattle.std.proofs.Common.{◌≡◌, ℕ, List, Some, None, Ok, refl, sym, ap, ◌∙◌, subst}
use Rattle.hk_io.specs.declared.Status.{Status}
use Rattle.hk_io.specs.declared.Status.TheVariants as status
use Rattle.hk_sheet.specs.Answers.{IsRead}
use Rattle.hk_gen.specs.Made.{made}
use Rattle.hk_front.specs.Endings.{HasText}
use Rattle.hk_front.proofs.EndLemmas.{ends_written, on_any_input, no_read_fault}
use Rattle.hk_top.specs.declared.tool.Command.TheVariants as command
use Rattle.hk_top.specs.Refusals.{usage_line}
use Rattle.hk_top.specs.Tool.{answer_for, BytesCallFor, IsSimulation}
use Rattle.hk_top.proofs.ToolLemmas.{asked_as, writes, writes_prefix, complete}
use Rattle.hk_top.proofs.tool.run_tool.Goals as goal

-- the usage line
abbrev UsageCalls : Status → List ℕ → Type 0
UsageCalls ended text = (ended ≡ status.Usage) × (text ≡ usage_line)

-- a text that is read as the sheet that is made for a number
abbrev MadeCalls : ℕ → Status → List ℕ → Type 0
MadeCalls n ended text = (ended ≡ status.Done) × IsRead text (Ok (made n))

pub returns-in_default-clause-whole : goal.returns-in_default-clause-whole
returns-in_default-clause-whole g c = λ has.
    let words = c.args.words.now in
    let left = g.S.Source.left c.args.source.now in
    let asks = sym c.command_of.ensures ∙ c.in_default.is in
    let ends = ends_written UsageCalls _ _ _ _ status.Usage usage_line c.put_line.result c.ended.result tt (refl, refl)
    (record { ok = c.put_line.ensures.ok; prefix = c.put_line.ensures.prefix; cause = c.put_line.ensures.cause }) c.ended.ensures in
    writes (λ bytes. UsageCalls) words left _ _ _ _ c.ended.result (asked_as words None asks) (on_any_input UsageCalls left _ _ _ _ c.ended.result ends) has

pub returns-in_default-clause-prefix : goal.returns-in_default-clause-prefix
returns-in_default-clause-prefix g c = λ fault.
    let words = c.args.words.now in
    let left = g.S.Source.left c.args.source.now in
    let asks = sym c.command_of.ensures ∙ c.in_default.is in
    let ends = ends_written UsageCalls _ _ _ _ status.Usage usage_line c.put_line.result c.ended.result tt (refl, refl)
    (record { ok = c.put_line.ensures.ok; prefix = c.put_line.ensures.prefix; cause = c.put_line.ensures.cause }) c.ended.ensures in
    writes_prefix (λ bytes. UsageCalls) words left _ _ _ _ c.ended.result (asked_as words None asks) (on_any_input UsageCalls left _ _ _ _ c.ended.result ends) fault

pub returns-in-Check-clause-whole : goal.returns-in-Check-clause-whole
returns-in-Check-clause-whole g c = λ has.
    let words = c.args.words.now in
    let left = g.S.Source.left c.args.source.now in
    let asks = sym c.command_of.ensures ∙ c.in-Some.is ∙ ap Some c.in-Check.is in
    let Calls = BytesCallFor (answer_for None) in
    writes Calls words left _ _ _ _ c.answer_input.result (asked_as words (Some command.Check) asks) (c.answer_input.ensures.ends (λ r. subst HasText r has)) has

pub returns-in-Check-clause-prefix : goal.returns-in-Check-clause-prefix
returns-in-Check-clause-prefix g c = λ fault.
    let words = c.args.words.now in
    let left = g.S.Source.left c.args.source.now in
    let asks = sym c.command_of.ensures ∙ c.in-Some.is ∙ ap Some c.in-Check.is in
    let Calls = BytesCallFor (answer_for None) in
    writes_prefix Calls words left _ _ _ _ c.answer_input.result (asked_as words (Some command.Check) asks) (c.answer_input.ensures.ends (no_read_fault c.answer_input.result fault)) fault

pub returns-in-Check-clause-complete : goal.returns-in-Check-clause-complete
returns-in-Check-clause-complete g c = λ no_read no_write.
    let words = c.args.words.now in
    let left = g.S.Source.left c.args.source.now in
    let asks = sym c.command_of.ensures ∙ c.in-Some.is ∙ ap Some c.in-Check.is in
    let Calls = BytesCallFor (answer_for None) in
    complete words left _ _ c.answer_input.result (λ has. writes Calls words left _ _ _ _ c.answer_input.result (asked_as words (Some command.Check) asks) (c.answer_input.ensures.ends (λ r. subst HasText r has)) has)
    (λ r. no_read (c.answer_input.ensures.read r).0) (λ w. no_write ((c.answer_input.ensures.ends (no_read_fault c.answer_input.result w)).ends.cause w))

pub returns-in-Run-clause-whole : goal.returns-in-Run-clause-whole
returns-in-Run-clause-whole g c = λ has.
    let words = c.args.words.now in
    let left = g.S.Source.left c.args.source.now in
    let asks = sym c.command_of.ensures ∙ c.in-Some.is ∙ ap Some c.in-Run.is in
    let Calls = BytesCallFor (answer_for (Some c.in-Run.form)) in
    writes Calls words left _ _ _ _ c.answer_input-in-Run.result (asked_as words (Some (command.Run c.in-Run.form)) asks) (c.answer_input-in-Run.ensures.ends (λ r. subst HasText r has)) has

pub returns-in-Run-clause-prefix : goal.returns-in-Run-clause-prefix
returns-in-Run-clause-prefix g c = λ fault.
    let words = c.args.words.now in
    let left = g.S.Source.left c.args.source.now in
    let asks = sym c.command_of.ensures ∙ c.in-Some.is ∙ ap Some c.in-Run.is in
    let Calls = BytesCallFor (answer_for (Some c.in-Run.form)) in
    writes_prefix Calls words left _ _ _ _ c.answer_input-in-Run.result (asked_as words (Some (command.Run c.in-Run.form)) asks) (c.answer_input-in-Run.ensures.ends (no_read_fault c.answer_input-in-Run.result fault)) fault

pub returns-in-Run-clause-complete : goal.returns-in-Run-clause-complete
returns-in-Run-clause-complete g c = λ no_read no_write.
    let words = c.args.words.now in
    let left = g.S.Source.left c.args.source.now in
    let asks = sym c.command_of.ensures ∙ c.in-Some.is ∙ ap Some c.in-Run.is in
    let Calls = BytesCallFor (answer_for (Some c.in-Run.form)) in
    complete words left _ _ c.answer_input-in-Run.result (λ has. writes Calls words left _ _ _ _ c.answer_input-in-Run.result (asked_as words (Some (command.Run c.in-Run.form)) asks) (c.answer_input-in-Run.ensures.ends (λ r. subst HasText r has)) has)
    (λ r. no_read (c.answer_input-in-Run.ensures.read r).0) (λ w. no_write ((c.answer_input-in-Run.ensures.ends (no_read_fault c.answer_input-in-Run.result w)).ends.cause w))

pub returns-in-Make-clause-whole : goal.returns-in-Make-clause-whole
returns-in-Make-clause-whole g c = λ has.
    let words = c.args.words.now in
    let left = g.S.Source.left c.args.source.now in
    let asks = sym c.command_of.ensures ∙ c.in-Some.is ∙ ap Some c.in-Make.is in
    let Calls = MadeCalls c.in-Make.number in
    let on = on_any_input Calls left _ _ _ _ c.write_made.result c.write_made.ensures.ends in
    writes (λ bytes. Calls) words left _ _ _ _ c.write_made.result (asked_as words (Some (command.Make c.in-Make.number)) asks) on has

pub returns-in-Make-clause-prefix : goal.returns-in-Make-clause-prefix
returns-in-Make-clause-prefix g c = λ fault.
    let words = c.args.words.now in
    let left = g.S.Source.left c.args.source.now in
    let asks = sym c.command_of.ensures ∙ c.in-Some.is ∙ ap Some c.in-Make.is in
    let Calls = MadeCalls c.in-Make.number in
    let on = on_any_input Calls left _ _ _ _ c.write_made.result c.write_made.ensures.ends in
    writes_prefix (λ bytes. Calls) words left _ _ _ _ c.write_made.result (asked_as words (Some (command.Make c.in-Make.number)) asks) on fault

pub returns-in-Simulate-clause-whole : goal.returns-in-Simulate-clause-whole
returns-in-Simulate-clause-whole g c = λ has.
    let words = c.args.words.now in
    let left = g.S.Source.left c.args.source.now in
    let asks = sym c.command_of.ensures ∙ c.in-Some.is ∙ ap Some c.in-Simulate.is in
    let Calls = IsSimulation c.in-Simulate.number in
    let on = on_any_input Calls left _ _ _ _ c.simulate.result c.simulate.ensures.ends in
    writes (λ bytes. Calls) words left _ _ _ _ c.simulate.result (asked_as words (Some (command.Simulate c.in-Simulate.number)) asks) on has

pub returns-in-Simulate-clause-prefix : goal.returns-in-Simulate-clause-prefix
returns-in-Simulate-clause-prefix g c = λ fault.
    let words = c.args.words.now in
    let left = g.S.Source.left c.args.source.now in
    let asks = sym c.command_of.ensures ∙ c.in-Some.is ∙ ap Some c.in-Simulate.is in
    let Calls = IsSimulation c.in-Simulate.number in
    let on = on_any_input Calls left _ _ _ _ c.simulate.result c.simulate.ensures.ends in
    writes_prefix (λ bytes. Calls) words left _ _ _ _ c.simulate.result (asked_as words (Some (command.Simulate c.in-Simulate.number)) asks) on fault

pub returns-in-Simulate-clause-complete : goal.returns-in-Simulate-clause-complete
returns-in-Simulate-clause-complete g c = λ no_read no_write.
    let words = c.args.words.now in
    let left = g.S.Source.left c.args.source.now in
    let asks = sym c.command_of.ensures ∙ c.in-Some.is ∙ ap Some c.in-Simulate.is in
    let Calls = IsSimulation c.in-Simulate.number in
    let on = on_any_input Calls left _ _ _ _ c.simulate.result c.simulate.ensures.ends in
    complete words left _ _ c.simulate.result (λ has. writes (λ bytes. Calls) words left _ _ _ _ c.simulate.result (asked_as words (Some (command.Simulate c.in-Simulate.number)) asks) on has)
    c.simulate.ensures.ends.no_read (λ w. no_write (c.simulate.ensures.ends.cause w))
