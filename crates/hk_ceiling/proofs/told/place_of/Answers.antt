use Rattle.std.proofs.Common.{length, bytes_eq, sym, ap, ◌∙◌, arith}
use Rattle.std.proofs.lemmas.List.{get_or_read}
use Rattle.std.proofs.lemmas.List.Sums.{position_or_len_is}
use Rattle.hk_sheet.specs.declared.sheet.High.{High}
use Rattle.hk_dispatch.specs.Tasks.{no_high}
use Rattle.hk_ceiling.proofs.told.place_of.Goals as goal

pub returns-then-is_named-clause-value : goal.returns-then-is_named-clause-value
returns-then-is_named-clause-value c =
    sym (position_or_len_is (λ (t : High). bytes_eq t.name c.args.name.now) c.args.tasks.now c.loop-place.place no_high (omega (arith, c.loop-place-test.true)) c.loop-place.invariant
    (λ lt. ap (λ (t : High). bytes_eq t.name c.args.name.now) (sym (get_or_read c.args.tasks.now c.loop-place.place c.index-tasks-place.result lt c.index-tasks-place.is no_high))
    ∙ (sym c.is_named.ensures ∙ c.if-is_named.true)))

pub returns-clause-value : goal.returns-clause-value
returns-clause-value c =
    sym (position_or_len_is (λ (t : High). bytes_eq t.name c.args.name.now) c.args.tasks.now (length c.args.tasks.now) no_high (omega arith)
    (λ k lt. c.loop-place.invariant k (omega (arith, lt, c.loop-place-test.false))) (λ lt. absurd (omega (arith, lt))))
