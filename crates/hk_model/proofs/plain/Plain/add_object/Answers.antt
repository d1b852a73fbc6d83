use Rattle.std.proofs.Common.{arith, subst, sym, ap, ◌∙◌}
use Rattle.hk_model.specs.Plain.{heap_in}
use Rattle.hk_model.specs.Heap.{Heap, KeepsTasks, born}
use Rattle.hk_model.proofs.Fields.{object_added, object_added_kept}
use Rattle.hk_model.proofs.Heaps.{KeepsTasks-same}
use Rattle.hk_model.proofs.Views.{born-with_object, registers-with_object}
use Rattle.hk_model.proofs.plain.Plain.add_object.Goals as goal

pub invariant_of-self-2 : goal.invariant_of-self-2
invariant_of-self-2 c =
    object_added_kept c.args.self.now (heap_in c.self.inside) _ c.args.shape c.self.view_is c.self.invariant
    (object_added c.args.self.now (heap_in c.self.inside) c.args.shape c.in_ok-object.object c.push.new.self.items c.self.view_is c.in_ok-object.ensures c.in_ok-push.ensures.items)

pub returns-clause-birth : goal.returns-clause-birth
unfolding born
returns-clause-birth c = c.len-birth.ensures ∙ c.self.inside.objects.ok.0 ∙ ap born c.self.view_is

pub returns-clause-heap : goal.returns-clause-heap
returns-clause-heap c = object_added c.args.self.now (heap_in c.self.inside) c.args.shape c.in_ok-object.object c.push.new.self.items c.self.view_is c.in_ok-object.ensures c.in_ok-push.ensures.items

pub returns-clause-born : goal.returns-clause-born
unfolding born
returns-clause-born c =
    let l = c.len-birth.ensures ∙ c.self.inside.objects.ok.0 ∙ ap born c.self.view_is in
    let n = ap born (object_added c.args.self.now (heap_in c.self.inside) c.args.shape c.in_ok-object.object c.push.new.self.items c.self.view_is c.in_ok-object.ensures c.in_ok-push.ensures.items) ∙ born-with_object c.args.self.now c.args.shape in
    omega (arith, l, n)

pub returns-clause-tasks : goal.returns-clause-tasks
returns-clause-tasks c =
    subst (λ (h : Heap). KeepsTasks c.args.self.now h) (sym (object_added c.args.self.now (heap_in c.self.inside) c.args.shape c.in_ok-object.object c.push.new.self.items c.self.view_is c.in_ok-object.ensures c.in_ok-push.ensures.items)) (KeepsTasks-same _ _ (registers-with_object _ _))
