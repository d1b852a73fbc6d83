-- What the parts answer is what the program answers.
use Rattle.std.proofs.Common.{Err, None, refl, sym, ap, ◌∙◌, inl}
use Rattle.hk_io.specs.declared.Status.TheVariants as status
use Rattle.hk_front.specs.Refusals.{long_line}
use Rattle.hk_front.specs.Input.{too_long}
use Rattle.hk_front.proofs.EndLemmas.{ends_written, ends_as}
use Rattle.hk_front.proofs.InputLemmas.{long_input, any_input}
use Rattle.hk_race.specs.Race.{usage_line, BytesCallFor, CallsFor}
use Rattle.hk_race.proofs.Ends.{as_puts, no_words, some_words, usage_called, bytes_called, told_by, writes, writes_prefix, complete, by_written, nothing_written}
use Rattle.hk_race.proofs.tool.race.Goals as goal

pub returns-then-not-is_empty-clause-whole : goal.returns-then-not-is_empty-clause-whole
returns-then-not-is_empty-clause-whole g c =
    let words = c.args.words.now in
    let input = any_input (g.S.Source.left c.args.source.now) in
    let some = some_words words (sym c.is_empty.ensures ∙ c.if-not-is_empty.true) in
    let ends = ends_written (CallsFor words input.0 None) _ _ _ _ status.Usage usage_line c.put_line.result c.ended.result tt (usage_called words input.0 some)
    (as_puts _ _ _ _ _ _ c.put_line.ensures.ok c.put_line.ensures.prefix c.put_line.ensures.cause) c.ended.ensures in
    writes words (g.S.Source.left c.args.source.now) _ _ _ _ input.0 input.1 (record { status = c.ended.result; raced = None }) ends

pub returns-then-not-is_empty-clause-prefix : goal.returns-then-not-is_empty-clause-prefix
returns-then-not-is_empty-clause-prefix g c =
    let words = c.args.words.now in
    let input = any_input (g.S.Source.left c.args.source.now) in
    let some = some_words words (sym c.is_empty.ensures ∙ c.if-not-is_empty.true) in
    let ends = ends_written (CallsFor words input.0 None) _ _ _ _ status.Usage usage_line c.put_line.result c.ended.result tt (usage_called words input.0 some)
    (as_puts _ _ _ _ _ _ c.put_line.ensures.ok c.put_line.ensures.prefix c.put_line.ensures.cause) c.ended.ensures in
    writes_prefix words (g.S.Source.left c.args.source.now) _ _ _ _ input.0 input.1 (record { status = c.ended.result; raced = None }) ends

pub returns-then-not-is_empty-clause-complete : goal.returns-then-not-is_empty-clause-complete
returns-then-not-is_empty-clause-complete g c = λ _ kept.
    let words = c.args.words.now in
    let left = g.S.Source.left c.args.source.now in
    let input = any_input left in
    let some = some_words words (sym c.is_empty.ensures ∙ c.if-not-is_empty.true) in
    let ends = ends_written (CallsFor words input.0 None) _ _ _ _ status.Usage usage_line c.put_line.result c.ended.result tt (usage_called words input.0 some)
    (as_puts _ _ _ _ _ _ c.put_line.ensures.ok c.put_line.ensures.prefix c.put_line.ensures.cause) c.ended.ensures in
    complete words left _ _ (record { status = c.ended.result; raced = None }) (writes words left _ _ _ _ input.0 input.1 (record { status = c.ended.result; raced = None }) ends)
    (λ _. by_written c.put_line.result c.ended.result c.ended.ensures) ends.no_read (λ w. kept (ends.cause w))

pub returns-in-Ok-clause-whole : goal.returns-in-Ok-clause-whole
returns-in-Ok-clause-whole g c =
    let words = c.args.words.now in
    let slice = c.as_slice.result.now in
    let left = g.S.Source.left c.args.source.now in
    let told = told_by left c.in-Ok.bytes.items slice c.as_slice.ensures.value c.in-Ok.ensures.whole in
    let none = no_words words (sym c.is_empty.ensures ∙ c.if-not-is_empty.false) in
    let ends = ends_as (BytesCallFor slice c.answer.result.raced) _ _ _ _ (CallsFor words slice c.answer.result.raced) c.answer.result.status (bytes_called words slice c.answer.result.raced none) c.answer.ensures.ends in
    writes words left _ _ _ _ slice told c.answer.result ends

pub returns-in-Ok-clause-prefix : goal.returns-in-Ok-clause-prefix
returns-in-Ok-clause-prefix g c =
    let words = c.args.words.now in
    let slice = c.as_slice.result.now in
    let left = g.S.Source.left c.args.source.now in
    let told = told_by left c.in-Ok.bytes.items slice c.as_slice.ensures.value c.in-Ok.ensures.whole in
    let none = no_words words (sym c.is_empty.ensures ∙ c.if-not-is_empty.false) in
    let ends = ends_as (BytesCallFor slice c.answer.result.raced) _ _ _ _ (CallsFor words slice c.answer.result.raced) c.answer.result.status (bytes_called words slice c.answer.result.raced none) c.answer.ensures.ends in
    writes_prefix words left _ _ _ _ slice told c.answer.result ends

pub returns-in-Ok-clause-complete : goal.returns-in-Ok-clause-complete
returns-in-Ok-clause-complete g c = λ _ kept.
    let words = c.args.words.now in
    let slice = c.as_slice.result.now in
    let left = g.S.Source.left c.args.source.now in
    let told = told_by left c.in-Ok.bytes.items slice c.as_slice.ensures.value c.in-Ok.ensures.whole in
    let none = no_words words (sym c.is_empty.ensures ∙ c.if-not-is_empty.false) in
    let ends = ends_as (BytesCallFor slice c.answer.result.raced) _ _ _ _ (CallsFor words slice c.answer.result.raced) c.answer.result.status (bytes_called words slice c.answer.result.raced none) c.answer.ensures.ends in
    complete words left _ _ c.answer.result (writes words left _ _ _ _ slice told c.answer.result ends) (λ some. absurd (some none))
    c.answer.ensures.ends.no_read (λ w. kept (c.answer.ensures.ends.cause w))

pub returns-in-Err-Long-clause-whole : goal.returns-in-Err-Long-clause-whole
returns-in-Err-Long-clause-whole g c =
    let words = c.args.words.now in
    let left = g.S.Source.left c.args.source.now in
    let long = long_input left (g.S.Source.left c.take_all.new.source) (c.in-Err-Long.ensures.long (ap Err c.in-Err-Long.field-0-is)) in
    let none = no_words words (sym c.is_empty.ensures ∙ c.if-not-is_empty.false) in
    let ends = ends_written (CallsFor words long.0 None) _ _ _ _ status.Sheet long_line c.put_line-in-Err-Long.result c.ended-in-Err-Long.result tt
    (bytes_called words long.0 None none status.Sheet long_line (inl (too_long long.2 refl)))
    (as_puts _ _ _ _ _ _ c.put_line-in-Err-Long.ensures.ok c.put_line-in-Err-Long.ensures.prefix c.put_line-in-Err-Long.ensures.cause) c.ended-in-Err-Long.ensures in
    writes words left _ _ _ _ long.0 long.1 (record { status = c.ended-in-Err-Long.result; raced = None }) ends

pub returns-in-Err-Long-clause-prefix : goal.returns-in-Err-Long-clause-prefix
returns-in-Err-Long-clause-prefix g c =
    let words = c.args.words.now in
    let left = g.S.Source.left c.args.source.now in
    let long = long_input left (g.S.Source.left c.take_all.new.source) (c.in-Err-Long.ensures.long (ap Err c.in-Err-Long.field-0-is)) in
    let none = no_words words (sym c.is_empty.ensures ∙ c.if-not-is_empty.false) in
    let ends = ends_written (CallsFor words long.0 None) _ _ _ _ status.Sheet long_line c.put_line-in-Err-Long.result c.ended-in-Err-Long.result tt
    (bytes_called words long.0 None none status.Sheet long_line (inl (too_long long.2 refl)))
    (as_puts _ _ _ _ _ _ c.put_line-in-Err-Long.ensures.ok c.put_line-in-Err-Long.ensures.prefix c.put_line-in-Err-Long.ensures.cause) c.ended-in-Err-Long.ensures in
    writes_prefix words left _ _ _ _ long.0 long.1 (record { status = c.ended-in-Err-Long.result; raced = None }) ends

pub returns-in-Err-Long-clause-complete : goal.returns-in-Err-Long-clause-complete
returns-in-Err-Long-clause-complete g c = λ _ kept.
    let words = c.args.words.now in
    let left = g.S.Source.left c.args.source.now in
    let long = long_input left (g.S.Source.left c.take_all.new.source) (c.in-Err-Long.ensures.long (ap Err c.in-Err-Long.field-0-is)) in
    let none = no_words words (sym c.is_empty.ensures ∙ c.if-not-is_empty.false) in
    let ends = ends_written (CallsFor words long.0 None) _ _ _ _ status.Sheet long_line c.put_line-in-Err-Long.result c.ended-in-Err-Long.result tt
    (bytes_called words long.0 None none status.Sheet long_line (inl (too_long long.2 refl)))
    (as_puts _ _ _ _ _ _ c.put_line-in-Err-Long.ensures.ok c.put_line-in-Err-Long.ensures.prefix c.put_line-in-Err-Long.ensures.cause) c.ended-in-Err-Long.ensures in
    complete words left _ _ (record { status = c.ended-in-Err-Long.result; raced = None })
    (writes words left _ _ _ _ long.0 long.1 (record { status = c.ended-in-Err-Long.result; raced = None }) ends) (λ some. absurd (some none)) ends.no_read (λ w. kept (ends.cause w))

pub returns-in-Err-Memory-clause-complete : goal.returns-in-Err-Memory-clause-complete
returns-in-Err-Memory-clause-complete g c = λ _ _.
    nothing_written c.args.words.now (g.S.Source.left c.args.source.now) (no_words c.args.words.now (sym c.is_empty.ensures ∙ c.if-not-is_empty.false))
