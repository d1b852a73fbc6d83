use Rattle.std.proofs.Common.{subst}
use Rattle.hk_table.specs.declared.heap.Heap.{Heap}
use Rattle.hk_table.specs.Passes.{IsPassOf}
use Rattle.hk_race.proofs.thread.work_all.Goals as goal

-- the heap is the one that was lent
pub returns-clause-pass : goal.returns-clause-pass
returns-clause-pass g c = subst (λ (h : Heap). IsPassOf h c.work-told.new.desk.pass) c.work-told.ensures.same c.work-told.ensures.good
