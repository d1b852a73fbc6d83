use Rattle.std.proofs.Common.{subst, sym, arith}
use Rattle.hk_model.specs.Plain.{heap_in}
use Rattle.hk_model.proofs.Fields.{birth_within, refs_has, link_set, link_set_kept}
use Rattle.hk_model.specs.Heap.{Heap, KeepsTasks}
use Rattle.hk_model.proofs.Heaps.{KeepsTasks-same}
use Rattle.hk_model.proofs.Views.{registers-with_link}
use Rattle.hk_model.proofs.plain.Plain.set_reference.Goals as goal

pub index_mut-requires : goal.index_mut-requires
index_mut-requires c = omega (arith, birth_within c.args.self.now (heap_in c.self.inside) c.args.birth c.self.view_is c.requires.birth, c.self.inside.objects.ok.0)

pub set_reference-requires : goal.set_reference-requires
set_reference-requires c = refs_has c.args.self.now (heap_in c.self.inside) c.args.birth c.args.field c.index_mut.result.now c.self.view_is c.self.invariant c.requires.birth c.index_mut.ensures.value c.requires.field

pub invariant_of-self : goal.invariant_of-self
invariant_of-self c =
    link_set_kept c.args.self.now (heap_in c.self.inside) _ c.args.birth c.args.field c.args.target c.self.view_is c.self.invariant c.requires.target
    (link_set c.args.self.now (heap_in c.self.inside) c.args.birth c.args.field c.args.target c.index_mut.result.now c.set_reference.new.self c.self.view_is c.index_mut.ensures.value c.set_reference.ensures)

pub returns-clause-heap : goal.returns-clause-heap
returns-clause-heap c = link_set c.args.self.now (heap_in c.self.inside) c.args.birth c.args.field c.args.target c.index_mut.result.now c.set_reference.new.self c.self.view_is c.index_mut.ensures.value c.set_reference.ensures

pub returns-clause-tasks : goal.returns-clause-tasks
returns-clause-tasks c =
    subst (λ (h : Heap). KeepsTasks c.args.self.now h) (sym (link_set c.args.self.now (heap_in c.self.inside) c.args.birth c.args.field c.args.target c.index_mut.result.now c.set_reference.new.self c.self.view_is c.index_mut.ensures.value c.set_reference.ensures)) (KeepsTasks-same _ _ (registers-with_link _ _ _ _))
