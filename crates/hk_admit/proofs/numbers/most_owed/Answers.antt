use Rattle.std.proofs.Common.{◌∙◌, ap, arith}
use Rattle.hk_sheet.specs.declared.sheet.Sheet.{Sheet}
use Rattle.hk_admit.proofs.Owed.{owed_few}
use Rattle.hk_admit.proofs.numbers.most_owed.Goals as goal

pub events_in-requires-clause-few : goal.events_in-requires-clause-few
events_in-requires-clause-few c =
    owed_few c.args.sheet.now _ _ _ _ (ap (λ (s : Sheet). s.heap.rate) c.sheet.view_is) c.requires.attempt (c.deref.ensures.value ∙ ap (λ (s : Sheet). s.high) c.sheet.view_is) c.requires.busy

pub overflow_add-result : goal.overflow_add-result
overflow_add-result c =
    omega (arith, c.low_events.ensures.small, c.events_in.ensures, owed_few c.args.sheet.now _ _ _ _ (ap (λ (s : Sheet). s.heap.rate) c.sheet.view_is) c.requires.attempt (c.deref.ensures.value ∙ ap (λ (s : Sheet). s.high) c.sheet.view_is) c.requires.busy)
