use Rattle.std.proofs.Common.{◌<◌, subst, sym, ◌∙◌, ap, arith}
use Rattle.hk_model.specs.Heap.{IsPlain, register_count, opening}
use Rattle.hk_model.proofs.Fields.{IsPlain-kept, opening_is}
use Rattle.hk_model.proofs.Heaps.{IsHeap-opening, opening_count}
use Rattle.hk_model.proofs.plain.Plain.wide.Goals as goal

pub invariant_of-result : goal.invariant_of-result
invariant_of-result c =
    let some : 0 < c.args.registers = let two = c.requires.some in omega arith in
    let is = IsPlain-kept c.args.tasks c.args.registers (opening c.args.tasks c.args.registers c.args.board) (IsHeap-opening c.args.tasks c.args.registers c.args.board some) in
    subst IsPlain (sym (opening_is c.args.tasks c.args.registers c.args.board _ _ _ _ c.in_ok-new.ensures c.new-objects.ensures.items c.in_ok-push.ensures.items c.in_ok-registers.ensures)) is

pub returns-clause-heap : goal.returns-clause-heap
returns-clause-heap c = opening_is c.args.tasks c.args.registers c.args.board _ _ _ _ c.in_ok-new.ensures c.new-objects.ensures.items c.in_ok-push.ensures.items c.in_ok-registers.ensures

pub returns-clause-registers : goal.returns-clause-registers
returns-clause-registers c =
    let some : 0 < c.args.registers = let two = c.requires.some in omega arith in
    λ task l. ap (λ h. register_count h task) (opening_is c.args.tasks c.args.registers c.args.board _ _ _ _ c.in_ok-new.ensures c.new-objects.ensures.items c.in_ok-push.ensures.items c.in_ok-registers.ensures)
    ∙ opening_count c.args.tasks c.args.registers c.args.board task some l
