use Rattle.std.proofs.Common.{◌≡◌, length, ap, sym, ◌∙◌, Some}
use Rattle.hk_script.specs.Walks.{walk_after}
use Rattle.hk_dispatch.specs.TaskRuns.{task_of}
use Rattle.hk_dispatch.proofs.Replied.{heard_walk}
use Rattle.hk_dispatch.proofs.OneTask.{shows_on, shows_over, end_on, end_over}
use Rattle.hk_dispatch.proofs.run.TaskRun.pass.Goals as goal

pub returns-then-self-statements-clause-course : goal.returns-then-self-statements-clause-course
returns-then-self-statements-clause-course c =
    let a = c.args.self.now in
    let task = task_of c.args.task in
    let is : c.done.new.self ≡ walk_after task.script a.walk c.args.reply =
    c.done.ensures.after ∙ ap (λ s. walk_after s a.walk c.heard.result) c.script-script.ensures ∙ ap (walk_after task.script a.walk) c.heard.ensures ∙ heard_walk task.script a.walk c.args.reply in
    let last : c.done.new.self.place ≡ length task.script = c.if-self-statements.true ∙ ap length (c.statements.ensures.statements ∙ c.script-script.ensures) in
    λ course words s. shows_over task a course s c.args.reply c.args.tick words c.done.new.self is last c.end.new.self c.end.ensures.course

pub returns-then-self-statements-clause-end : goal.returns-then-self-statements-clause-end
returns-then-self-statements-clause-end c =
    let a = c.args.self.now in
    let task = task_of c.args.task in
    let is : c.done.new.self ≡ walk_after task.script a.walk c.args.reply =
    c.done.ensures.after ∙ ap (λ s. walk_after s a.walk c.heard.result) c.script-script.ensures ∙ ap (walk_after task.script a.walk) c.heard.ensures ∙ heard_walk task.script a.walk c.args.reply in
    let last : c.done.new.self.place ≡ length task.script = c.if-self-statements.true ∙ ap length (c.statements.ensures.statements ∙ c.script-script.ensures) in
    end_over task a.job c.args.tick c.done.new.self (walk_after task.script a.walk c.args.reply) is last (Some c.end.result) c.end.ensures.end

pub returns-else-self-statements-clause-course : goal.returns-else-self-statements-clause-course
returns-else-self-statements-clause-course c =
    let a = c.args.self.now in
    let task = task_of c.args.task in
    let is : c.done.new.self ≡ walk_after task.script a.walk c.args.reply =
    c.done.ensures.after ∙ ap (λ s. walk_after s a.walk c.heard.result) c.script-script.ensures ∙ ap (walk_after task.script a.walk) c.heard.ensures ∙ heard_walk task.script a.walk c.args.reply in
    let list = ap length (c.statements.ensures.statements ∙ c.script-script.ensures) in
    λ course words s. shows_on task a course s c.args.reply c.args.tick words c.done.new.self is (λ e. c.if-self-statements.false (e ∙ sym list))

pub returns-else-self-statements-clause-end : goal.returns-else-self-statements-clause-end
returns-else-self-statements-clause-end c =
    let a = c.args.self.now in
    let task = task_of c.args.task in
    let is : c.done.new.self ≡ walk_after task.script a.walk c.args.reply =
    c.done.ensures.after ∙ ap (λ s. walk_after s a.walk c.heard.result) c.script-script.ensures ∙ ap (walk_after task.script a.walk) c.heard.ensures ∙ heard_walk task.script a.walk c.args.reply in
    let list = ap length (c.statements.ensures.statements ∙ c.script-script.ensures) in
    end_on task a.job c.args.tick c.done.new.self (walk_after task.script a.walk c.args.reply) is (λ e. c.if-self-statements.false (e ∙ sym list))
