use Rattle.std.proofs.Common.{◌≡◌, Bool, true, false, codes, None, map, All, ◌++◌, subst, sym, ap, ◌∙◌}
use Rattle.std.proofs.lemmas.List.Elements.{All-append}
use Rattle.toml.specs.Data.{Members}
use Rattle.toml.specs.View.{table_view}
use Rattle.hk_sheet.specs.declared.sheet.HeapKeys.{HeapKeys}
use Rattle.hk_sheet.specs.Rules.{heap_rules}
use Rattle.hk_sheet.specs.Faults.{fault_of_table}
use Rattle.hk_sheet.specs.Reading.{heap_in, heap_of}
use Rattle.hk_sheet.specs.Code.{seen}
use Rattle.hk_sheet.specs.Raw.{raw_task, IsFit}
use Rattle.hk_sheet.specs.Valid.{IsHeap}
use Rattle.hk_sheet.proofs.Validity.{heap_right}
use Rattle.hk_sheet.proofs.raw.raw_sheet.Goals as goal

-- the heap of a table that was read is right
right : (second : Bool) (entries : Members) (heap : HeapKeys) → (fault_of_table (codes "heap.") (heap_rules second) entries ≡ None) × (heap ≡ heap_in second entries) → IsHeap heap
right second entries heap read = subst IsHeap (sym read.1) (heap_right second entries read.0)

pub raw_tasks-requires : goal.raw_tasks-requires
raw_tasks-requires c = right c.in_ok-top.top.second (table_view c.in_ok-top.top.heap.now) c.in_ok-heap.heap c.in_ok-heap.ensures

pub raw_tasks-requires-2 : goal.raw_tasks-requires-2
raw_tasks-requires-2 c = right c.in_ok-top.top.second (table_view c.in_ok-top.top.heap.now) c.in_ok-heap.heap c.in_ok-heap.ensures

pub returns-clause-read : goal.returns-clause-read
unfolding heap_of
returns-clause-read c =
    let top = c.in_ok-top.ensures.read in
    let heap = c.in_ok-heap.ensures.1 ∙ (λ i. heap_in (top.second i) (top.heap i)) in
    let highs = ap seen c.deref.ensures.value ∙ top.highs in
    let lows = ap seen c.deref-2.ensures.value ∙ top.lows in
    let high_tasks = c.in_ok-highs.ensures.read.1 ∙ (λ i. map (raw_task true (heap i)) (highs i)) in
    let low_tasks = c.in_ok-lows.ensures.read.1 ∙ (λ i. map (raw_task false (heap i)) (lows i)) in
    record {
      ticks = top.ticks;
      heap = heap;
      right = right c.in_ok-top.top.second (table_view c.in_ok-top.top.heap.now) c.in_ok-heap.heap c.in_ok-heap.ensures;
      tasks = c.in_ok-joined.ensures ∙ (λ i. high_tasks i ++ low_tasks i);
      fit = subst (All IsFit) (sym c.in_ok-joined.ensures) (All-append IsFit c.in_ok-highs.highs.items c.in_ok-lows.lows.items c.in_ok-highs.ensures.fits c.in_ok-lows.ensures.fits);
    }
