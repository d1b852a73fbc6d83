-- What the parts answer is what the program answers.
use Rattle.std.proofs.Common.{Err, refl, sym, ap, ◌∙◌}
use Rattle.hk_io.specs.declared.Status.TheVariants as status
use Rattle.hk_front.specs.Refusals.{long_line}
use Rattle.hk_front.specs.Input.{too_long}
use Rattle.hk_front.proofs.EndLemmas.{ends_written, ends_as}
use Rattle.hk_front.proofs.InputLemmas.{long_input, any_input, told_as}
use Rattle.hk_assign.specs.Tool.{usage_line, BytesCallFor, CallsFor}
use Rattle.hk_assign.proofs.Ends.{as_puts, no_words, some_words, asked_calls, writes, writes_prefix, complete}
use Rattle.hk_assign.proofs.tool.run_assign.Goals as goal

pub returns-then-not-is_empty-clause-whole : goal.returns-then-not-is_empty-clause-whole
returns-then-not-is_empty-clause-whole g c =
    let words = c.args.words.now in
    let input = any_input (g.S.Source.left c.args.source.now) in
    let ends = ends_written (CallsFor words input.0) _ _ _ _ status.Usage usage_line c.put_line.result c.ended.result tt
    (some_words words (sym c.is_empty.ensures ∙ c.if-not-is_empty.true), refl)
    (as_puts _ _ _ _ _ _ c.put_line.ensures.ok c.put_line.ensures.prefix c.put_line.ensures.cause) c.ended.ensures in
    writes words (g.S.Source.left c.args.source.now) _ _ _ _ input.0 input.1 c.ended.result ends

pub returns-then-not-is_empty-clause-prefix : goal.returns-then-not-is_empty-clause-prefix
returns-then-not-is_empty-clause-prefix g c =
    let words = c.args.words.now in
    let input = any_input (g.S.Source.left c.args.source.now) in
    let ends = ends_written (CallsFor words input.0) _ _ _ _ status.Usage usage_line c.put_line.result c.ended.result tt
    (some_words words (sym c.is_empty.ensures ∙ c.if-not-is_empty.true), refl)
    (as_puts _ _ _ _ _ _ c.put_line.ensures.ok c.put_line.ensures.prefix c.put_line.ensures.cause) c.ended.ensures in
    writes_prefix words (g.S.Source.left c.args.source.now) _ _ _ _ input.0 input.1 c.ended.result ends

pub returns-in-Ok-clause-whole : goal.returns-in-Ok-clause-whole
returns-in-Ok-clause-whole g c =
    let words = c.args.words.now in
    let slice = c.as_slice.result.now in
    let left = g.S.Source.left c.args.source.now in
    let told = told_as left c.in-Ok.bytes.items slice c.as_slice.ensures.value c.in-Ok.ensures.whole in
    let none = no_words words (sym c.is_empty.ensures ∙ c.if-not-is_empty.false) in
    let ends = ends_as (BytesCallFor slice) _ _ _ _ (CallsFor words slice) c.answer.result (asked_calls words slice none) c.answer.ensures.ends in
    writes words left _ _ _ _ slice told c.answer.result ends

pub returns-in-Ok-clause-prefix : goal.returns-in-Ok-clause-prefix
returns-in-Ok-clause-prefix g c =
    let words = c.args.words.now in
    let slice = c.as_slice.result.now in
    let left = g.S.Source.left c.args.source.now in
    let told = told_as left c.in-Ok.bytes.items slice c.as_slice.ensures.value c.in-Ok.ensures.whole in
    let none = no_words words (sym c.is_empty.ensures ∙ c.if-not-is_empty.false) in
    let ends = ends_as (BytesCallFor slice) _ _ _ _ (CallsFor words slice) c.answer.result (asked_calls words slice none) c.answer.ensures.ends in
    writes_prefix words left _ _ _ _ slice told c.answer.result ends

pub returns-in-Ok-clause-complete : goal.returns-in-Ok-clause-complete
returns-in-Ok-clause-complete g c = λ _ kept.
    let words = c.args.words.now in
    let slice = c.as_slice.result.now in
    let left = g.S.Source.left c.args.source.now in
    let told = told_as left c.in-Ok.bytes.items slice c.as_slice.ensures.value c.in-Ok.ensures.whole in
    let none = no_words words (sym c.is_empty.ensures ∙ c.if-not-is_empty.false) in
    let ends = ends_as (BytesCallFor slice) _ _ _ _ (CallsFor words slice) c.answer.result (asked_calls words slice none) c.answer.ensures.ends in
    complete words left _ _ c.answer.result (writes words left _ _ _ _ slice told c.answer.result ends)
    c.answer.ensures.ends.no_read (λ w. kept (c.answer.ensures.ends.cause w))

pub returns-in-Err-Long-clause-whole : goal.returns-in-Err-Long-clause-whole
returns-in-Err-Long-clause-whole g c =
    let words = c.args.words.now in
    let left = g.S.Source.left c.args.source.now in
    let long = long_input left (g.S.Source.left c.take_all.new.source) (c.in-Err-Long.ensures.long (ap Err c.in-Err-Long.field-0-is)) in
    let none = no_words words (sym c.is_empty.ensures ∙ c.if-not-is_empty.false) in
    let ends = ends_written (CallsFor words long.0) _ _ _ _ status.Sheet long_line c.put_line-in-Err-Long.result c.ended-in-Err-Long.result tt
    (none, too_long long.2 refl)
    (as_puts _ _ _ _ _ _ c.put_line-in-Err-Long.ensures.ok c.put_line-in-Err-Long.ensures.prefix c.put_line-in-Err-Long.ensures.cause) c.ended-in-Err-Long.ensures in
    writes words left _ _ _ _ long.0 long.1 c.ended-in-Err-Long.result ends

pub returns-in-Err-Long-clause-prefix : goal.returns-in-Err-Long-clause-prefix
returns-in-Err-Long-clause-prefix g c =
    let words = c.args.words.now in
    let left = g.S.Source.left c.args.source.now in
    let long = long_input left (g.S.Source.left c.take_all.new.source) (c.in-Err-Long.ensures.long (ap Err c.in-Err-Long.field-0-is)) in
    let none = no_words words (sym c.is_empty.ensures ∙ c.if-not-is_empty.false) in
    let ends = ends_written (CallsFor words long.0) _ _ _ _ status.Sheet long_line c.put_line-in-Err-Long.result c.ended-in-Err-Long.result tt
    (none, too_long long.2 refl)
    (as_puts _ _ _ _ _ _ c.put_line-in-Err-Long.ensures.ok c.put_line-in-Err-Long.ensures.prefix c.put_line-in-Err-Long.ensures.cause) c.ended-in-Err-Long.ensures in
    writes_prefix words left _ _ _ _ long.0 long.1 c.ended-in-Err-Long.result ends
