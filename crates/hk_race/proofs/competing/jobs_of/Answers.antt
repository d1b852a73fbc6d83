use Rattle.std.proofs.Common.{◌≡◌, ℕ, ◌+◌, ◌<◌, length, sym, ◌∙◌, ap, subst, slice_index_or}
use Rattle.std.proofs.lemmas.Iterator.Consumers.{YieldsList-turn}
use Rattle.std.proofs.lemmas.Iterator.Adapters.{YieldsList-from_vec}
use Rattle.hk_table.specs.declared.pass.Pass.{Pass}
use Rattle.hk_table.specs.Passes.{IsPassOf, known}
use Rattle.hk_table.specs.Rule.{fresh}
use Rattle.hk_race.specs.declared.competing.Job.{Job}
use Rattle.hk_race.specs.Jobs.{IsJobOf}
use Rattle.hk_race.specs.Shown.{shown}
use Rattle.hk_race.specs.Tasks.{task_at}
use Rattle.hk_race.proofs.Coming.{job_of, jobs_more}
use Rattle.hk_race.proofs.Lists.{length_more}
use Rattle.hk_race.proofs.competing.jobs_of.Goals as goal

pub loop-pass-preserved : goal.loop-pass-preserved
loop-pass-preserved c =
    let gives = c.into_iter-pass-iterator.ensures.into_iter_gives in
    let t = YieldsList-turn (YieldsList-from_vec {s = c.into_iter-pass-iterator.result} c.args.passes.items gives.0 (gives.1 ∙ c.args.passes.ok.0)) c.loop-pass.yielded c.loop-pass.pass-iterator c.loop-pass.yielded_by _ c.next.new.self c.in-Some.pass c.in-Some.is c.next.ensures.steps in
    let seat = length c.loop-pass.yielded in
    let opened = subst (λ (p : Pass). IsPassOf c.args.heap.now p × (known p ≡ fresh c.args.heap.now.geometry seat)) (sym t.1) (c.requires.each seat c.in-Some.pass t.0) in
    let at : length c.loop-pass.jobs.items ≡ seat = c.loop-pass.invariant.count in
    let is : shown c.task_at-task.result ≡ task_at c.args.sheet.now seat = subst (λ (n : ℕ). shown c.task_at-task.result ≡ task_at c.args.sheet.now n) (c.len.ensures ∙ c.loop-pass.jobs.ok.0 ∙ at) c.task_at-task.ensures.shown in
    let job : Job = record { pass = c.in-Some.pass; task = c.task_at-task.result } in
    let ours : IsJobOf c.args.heap.now c.args.sheet.now (length c.loop-pass.jobs.items) job = subst (λ (n : ℕ). IsJobOf c.args.heap.now c.args.sheet.now n job) (sym at)
    (job_of c.args.heap.now c.args.sheet.now seat c.in-Some.pass c.task_at-task.result opened is c.task_at-task.ensures.holds c.requires.registers) in
    let more = jobs_more c.args.heap.now c.args.sheet.now c.loop-pass.jobs.items job c.loop-pass.invariant.each ours in
    let grown = c.in_ok-push.ensures.items in
    let longer = length_more c.loop-pass.jobs.items job in
    let yielded = length_more c.loop-pass.yielded c.in-Some.pass in
    record {
      count = ap length grown ∙ longer ∙ ap (λ (n : ℕ). n + 1) at ∙ sym yielded;
      each = subst (λ js. (k : ℕ) (d : Job) → k < length js → IsJobOf c.args.heap.now c.args.sheet.now k (slice_index_or js k d)) (sym grown) more;
    }
