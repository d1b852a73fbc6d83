use Rattle.std.proofs.Common.{◌≡◌, List, ℕ, Bor, ◌∷◌, true, false, ap, sym, ◌∙◌, arith}
use Rattle.std.proofs.lemmas.Grind.{common_steps}
use Rattle.std.specs.BTreeSet.{contains}
use Rattle.hk_sheet.specs.declared.raw.RawTask.{RawTask}
use Rattle.hk_sheet.specs.Faults.{is_name}
use Rattle.hk_sheet.proofs.NameOrder.{text_cmp, one_more_name, next_name, was_free}
use Rattle.hk_sheet.proofs.tasks.check_names.Goals as goal

pub loop-index-preserved : goal.loop-index-preserved
loop-index-preserved c =
    let (earlier, fault, has) = c.loop-index.invariant in
    let task = c.index-tasks-index.result in
    let name : Bor (List ℕ) = c.as_slice-name.result in
    let named : name.now ≡ task.name = c.as_slice-name.ensures.value ∙ ap (λ (t : RawTask). t.name) c.task.view_is in
    let right : is_name name.now ≡ true = grind (arith, common_steps) in
    let free : contains text_cmp c.loop-index.earlier name ≡ false = was_free _ _ c.if-not-branch.false c.in_ok-insert.ensures.added in (
      name.now ∷ earlier,
      next_name c.args.tasks.now c.loop-index.index task name.now earlier _ task (omega arith) c.index-tasks-index.is named right (sym (has name) ∙ free) fault,
      one_more_name c.loop-index.earlier c.insert.new.self name earlier c.in_ok-insert.ensures.updates has,
    )
