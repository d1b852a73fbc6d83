use Rattle.std.proofs.Common.{subst, sym, arith}
use Rattle.hk_model.specs.Plain.{heap_in}
use Rattle.hk_model.proofs.Fields.{birth_within, nums_has, value_set, value_set_kept}
use Rattle.hk_model.specs.Heap.{Heap, KeepsTasks}
use Rattle.hk_model.proofs.Heaps.{KeepsTasks-same}
use Rattle.hk_model.proofs.Views.{registers-with_value}
use Rattle.hk_model.proofs.plain.Plain.set_number.Goals as goal

pub index_mut-requires : goal.index_mut-requires
index_mut-requires c = omega (arith, birth_within c.args.self.now (heap_in c.self.inside) c.args.birth c.self.view_is c.requires.birth, c.self.inside.objects.ok.0)

pub set_number-requires : goal.set_number-requires
set_number-requires c = nums_has c.args.self.now (heap_in c.self.inside) c.args.birth c.args.field c.index_mut.result.now c.self.view_is c.self.invariant c.requires.birth c.index_mut.ensures.value c.requires.field

pub invariant_of-self : goal.invariant_of-self
invariant_of-self c =
    value_set_kept c.args.self.now (heap_in c.self.inside) _ c.args.birth c.args.field c.args.number c.self.view_is c.self.invariant
    (value_set c.args.self.now (heap_in c.self.inside) c.args.birth c.args.field c.args.number c.index_mut.result.now c.set_number.new.self c.self.view_is c.index_mut.ensures.value c.set_number.ensures)

pub returns-clause-heap : goal.returns-clause-heap
returns-clause-heap c = value_set c.args.self.now (heap_in c.self.inside) c.args.birth c.args.field c.args.number c.index_mut.result.now c.set_number.new.self c.self.view_is c.index_mut.ensures.value c.set_number.ensures

pub returns-clause-tasks : goal.returns-clause-tasks
returns-clause-tasks c =
    subst (λ (h : Heap). KeepsTasks c.args.self.now h) (sym (value_set c.args.self.now (heap_in c.self.inside) c.args.birth c.args.field c.args.number c.index_mut.result.now c.set_number.new.self c.self.view_is c.index_mut.ensures.value c.set_number.ensures)) (KeepsTasks-same _ _ (registers-with_value _ _ _ _))
