-- What the parts answer is what the program answers.
use Rattle.std.proofs.Common.{◌≡◌, ◌≢◌, ℕ, List, refl, sym, ◌∙◌, subst}
use Rattle.hk_io.specs.declared.Status.{Status}
use Rattle.hk_io.specs.declared.Status.TheVariants as status
use Rattle.hk_front.specs.Endings.{HasText}
use Rattle.hk_front.proofs.EndLemmas.{ends_written, on_any_input, no_read_fault}
use Rattle.hk_ceiling.specs.declared.told.Section.{Section}
use Rattle.hk_ceiling.specs.Tool.{usage_line, BytesCallFor}
use Rattle.hk_ceiling.proofs.RunLemmas.{usage_calls, words_call, writes, writes_prefix, complete, some_told}
use Rattle.hk_ceiling.proofs.tool.run_ceiling.Goals as goal

-- the usage line
abbrev UsageCalls : Status → List ℕ → Type 0
UsageCalls ended text = (ended ≡ status.Usage) × (text ≡ usage_line)

pub returns-then-not-are_sections-clause-whole : goal.returns-then-not-are_sections-clause-whole
returns-then-not-are_sections-clause-whole g c = λ has.
    let words = c.args.words.now in
    let left = g.S.Source.left c.args.source.now in
    let ends = ends_written UsageCalls _ _ _ _ status.Usage usage_line c.put_line.result c.ended.result tt (refl, refl)
    (record { ok = c.put_line.ensures.ok; prefix = c.put_line.ensures.prefix; cause = c.put_line.ensures.cause }) c.ended.ensures in
    writes (λ bytes. UsageCalls) words left _ _ _ _ c.ended.result (usage_calls words (sym c.are_sections.ensures ∙ c.if-not-are_sections.true)) (on_any_input UsageCalls left _ _ _ _ c.ended.result ends) has

pub returns-then-not-are_sections-clause-prefix : goal.returns-then-not-are_sections-clause-prefix
returns-then-not-are_sections-clause-prefix g c = λ fault.
    let words = c.args.words.now in
    let left = g.S.Source.left c.args.source.now in
    let ends = ends_written UsageCalls _ _ _ _ status.Usage usage_line c.put_line.result c.ended.result tt (refl, refl)
    (record { ok = c.put_line.ensures.ok; prefix = c.put_line.ensures.prefix; cause = c.put_line.ensures.cause }) c.ended.ensures in
    writes_prefix (λ bytes. UsageCalls) words left _ _ _ _ c.ended.result (usage_calls words (sym c.are_sections.ensures ∙ c.if-not-are_sections.true)) (on_any_input UsageCalls left _ _ _ _ c.ended.result ends) fault

pub returns-in-Ok-Some-clause-whole : goal.returns-in-Ok-Some-clause-whole
returns-in-Ok-Some-clause-whole g c = λ has.
    let words = c.args.words.now in
    let left = g.S.Source.left c.args.source.now in
    let told = some_told words c.in-Ok-Some.field-0 c.in-Ok-Some.sections c.in-Ok-Some.field-0-is c.in-Ok-Some.ensures.sections in
    let Calls = BytesCallFor c.in-Ok-Some.sections in
    writes Calls words left _ _ _ _ c.answer_input.result
    (λ bytes s t called. words_call words bytes told.0 s t (subst (λ (x : List Section). BytesCallFor x bytes s t) told.1 called))
    (c.answer_input.ensures.ends (λ r. subst HasText r has)) has

pub returns-in-Ok-Some-clause-prefix : goal.returns-in-Ok-Some-clause-prefix
returns-in-Ok-Some-clause-prefix g c = λ fault.
    let words = c.args.words.now in
    let left = g.S.Source.left c.args.source.now in
    let told = some_told words c.in-Ok-Some.field-0 c.in-Ok-Some.sections c.in-Ok-Some.field-0-is c.in-Ok-Some.ensures.sections in
    let Calls = BytesCallFor c.in-Ok-Some.sections in
    writes_prefix Calls words left _ _ _ _ c.answer_input.result
    (λ bytes s t called. words_call words bytes told.0 s t (subst (λ (x : List Section). BytesCallFor x bytes s t) told.1 called))
    (c.answer_input.ensures.ends (no_read_fault c.answer_input.result fault)) fault

pub returns-then-not-are_sections-clause-complete : goal.returns-then-not-are_sections-clause-complete
returns-then-not-are_sections-clause-complete g c = λ _ kept.
    let words = c.args.words.now in
    let left = g.S.Source.left c.args.source.now in
    let ends = ends_written UsageCalls _ _ _ _ status.Usage usage_line c.put_line.result c.ended.result tt (refl, refl)
    (record { ok = c.put_line.ensures.ok; prefix = c.put_line.ensures.prefix; cause = c.put_line.ensures.cause }) c.ended.ensures in
    complete words left _ _ c.ended.result
    (writes (λ bytes. UsageCalls) words left _ _ _ _ c.ended.result (usage_calls words (sym c.are_sections.ensures ∙ c.if-not-are_sections.true)) (on_any_input UsageCalls left _ _ _ _ c.ended.result ends))
    ends.no_read (λ w. kept (ends.cause w))

pub returns-in-Ok-Some-clause-complete : goal.returns-in-Ok-Some-clause-complete
returns-in-Ok-Some-clause-complete g c = λ unread kept.
    let words = c.args.words.now in
    let left = g.S.Source.left c.args.source.now in
    let told = some_told words c.in-Ok-Some.field-0 c.in-Ok-Some.sections c.in-Ok-Some.field-0-is c.in-Ok-Some.ensures.sections in
    let Calls = BytesCallFor c.in-Ok-Some.sections in
    let not_read : c.answer_input.result ≢ status.ReadFault = λ r. unread (c.answer_input.ensures.read r).0 in
    complete words left _ _ c.answer_input.result
    (λ has. writes Calls words left _ _ _ _ c.answer_input.result
    (λ bytes s t called. words_call words bytes told.0 s t (subst (λ (x : List Section). BytesCallFor x bytes s t) told.1 called))
    (c.answer_input.ensures.ends not_read) has)
    not_read (λ w. kept ((c.answer_input.ensures.ends not_read).ends.cause w))
