use Rattle.std.proofs.Common.{◌≡◌, ◌++◌}
use Rattle.hk_chart.specs.Drawing.{task_label}
use Rattle.hk_chart.proofs.Joined.{first_texts}
use Rattle.hk_chart.proofs.caption.add_labels.Given as goal

abbrev pub invariant-loop-task : goal.invariant-loop-task
invariant-loop-task l = l.text ≡ l.initial.text ++ first_texts task_label l.tasks l.task-index
