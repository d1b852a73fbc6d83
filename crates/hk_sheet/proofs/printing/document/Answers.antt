use Rattle.std.proofs.Common.{◌≡◌, ℕ, true, ◌≤◌, List, [], ◌∷◌, ap, ◌∙◌}
use Rattle.std.specs.List.{AllByRecursion}
use Rattle.hk_sheet.specs.Printing.{IsHighOfRun, IsLowOfRun}
use Rattle.hk_sheet.specs.Valid.{is_breadth, IsHigh, IsLow}
use Rattle.hk_sheet.proofs.Plain.{keeps_widest}
use Rattle.hk_sheet.specs.declared.sheet.HeapKeys.{HeapKeys}
use Rattle.hk_sheet.specs.declared.sheet.High.{High}
use Rattle.hk_sheet.specs.declared.sheet.Low.{Low}
use Rattle.hk_sheet.specs.declared.sheet.Sheet.{Sheet}
use Rattle.hk_sheet.proofs.printing.document.Goals as goal

highs_of_run : (ticks : ℕ) (heap : HeapKeys) (tasks : List High) → is_breadth heap.fields heap.registers ≡ true → ticks ≤ 16777216 → AllByRecursion (IsHigh ticks heap) tasks → AllByRecursion IsHighOfRun tasks
highs_of_run ticks heap [] broad short are = tt
highs_of_run ticks heap (t ∷ tasks) broad short are = ((ticks, heap, short, are.0, keeps_widest heap t.script broad are.0.script), highs_of_run ticks heap tasks broad short are.1)

lows_of_run : (ticks : ℕ) (heap : HeapKeys) (tasks : List Low) → is_breadth heap.fields heap.registers ≡ true → ticks ≤ 16777216 → AllByRecursion (IsLow ticks heap) tasks → AllByRecursion IsLowOfRun tasks
lows_of_run ticks heap [] broad short are = tt
lows_of_run ticks heap (t ∷ tasks) broad short are = ((ticks, heap, short, are.0, keeps_widest heap t.script broad are.0.script), lows_of_run ticks heap tasks broad short are.1)

pub highs_value-requires : goal.highs_value-requires
highs_value-requires c =
    let sheet = c.args.sheet.now in
    let lent : c.deref.result.now ≡ sheet.high = c.deref.ensures.value ∙ ap (λ (s : Sheet). s.high) c.sheet.view_is in
    rw lent (highs_of_run sheet.ticks sheet.heap sheet.high c.requires.heap.breadth c.requires.ticks.at_most c.requires.high)

pub lows_value-requires : goal.lows_value-requires
lows_value-requires c =
    let sheet = c.args.sheet.now in
    let lent : c.deref-2.result.now ≡ sheet.low = c.deref-2.ensures.value ∙ ap (λ (s : Sheet). s.low) c.sheet.view_is in
    rw lent (lows_of_run sheet.ticks sheet.heap sheet.low c.requires.heap.breadth c.requires.ticks.at_most c.requires.low)
