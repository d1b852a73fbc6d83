-- One tenth more.
use Rattle.std.proofs.Common.{ℕ, List, ◌++◌, ap, ◌∙◌}
use Rattle.hk_chart.specs.Drawing.{grid_text}
use Rattle.hk_chart.proofs.Below.{below_first, below_more}
use Rattle.hk_chart.proofs.caption.add_grid.Goals as goal

pub loop-tenth-init : goal.loop-tenth-init
loop-tenth-init c = below_first (grid_text c.args.span c.args.tasks) c.args.text.now

pub loop-tenth-preserved : goal.loop-tenth-preserved
loop-tenth-preserved c =
    below_more (grid_text c.args.span c.args.tasks) c.args.text.now c.loop-tenth.text c.add.new.self c.loop-tenth.tenth c.loop-tenth.invariant
    (c.in_ok-add.ensures ∙ ap (λ (l : List ℕ). c.loop-tenth.text ++ l) (c.bytes.ensures.value ∙ c.grid_line.ensures))
