use Rattle.std.proofs.Common.{subst, sym}
use Rattle.hk_model.specs.Plain.{heap_in}
use Rattle.hk_model.proofs.Fields.{own_has, register_set, register_set_kept}
use Rattle.hk_model.specs.Heap.{Heap, KeepsTasks}
use Rattle.hk_model.proofs.Heaps.{KeepsTasks-with_register}
use Rattle.hk_model.proofs.plain.Plain.set_register.Goals as goal

pub set-requires : goal.set-requires
set-requires c = own_has c.args.self.now (heap_in c.self.inside) c.args.seat c.from.result c.args.reg c.index_mut.result.now c.self.view_is c.from.ensures c.requires.seat c.requires.reg c.index_mut.ensures.value

pub invariant_of-self : goal.invariant_of-self
invariant_of-self c =
    register_set_kept c.args.self.now (heap_in c.self.inside) _ c.args.seat c.args.reg c.args.target c.self.view_is c.self.invariant c.requires.target
    (register_set c.args.self.now (heap_in c.self.inside) c.args.seat c.from.result c.args.reg c.index_mut.result.now c.set.new.self c.args.target c.self.view_is c.from.ensures c.index_mut.ensures.value c.set.ensures)

pub returns-clause-heap : goal.returns-clause-heap
returns-clause-heap c =
    register_set c.args.self.now (heap_in c.self.inside) c.args.seat c.from.result c.args.reg c.index_mut.result.now c.set.new.self c.args.target c.self.view_is c.from.ensures c.index_mut.ensures.value c.set.ensures

pub returns-clause-tasks : goal.returns-clause-tasks
returns-clause-tasks c =
    subst (λ (h : Heap). KeepsTasks c.args.self.now h) (sym (register_set c.args.self.now (heap_in c.self.inside) c.args.seat c.from.result c.args.reg c.index_mut.result.now c.set.new.self c.args.target c.self.view_is c.from.ensures c.index_mut.ensures.value c.set.ensures)) (KeepsTasks-with_register _ _ _ _)
