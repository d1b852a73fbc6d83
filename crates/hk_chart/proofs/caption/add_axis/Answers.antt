-- One tenth more.
use Rattle.std.proofs.Common.{ℕ, List, ◌++◌, ap, ◌∙◌}
use Rattle.hk_chart.specs.Drawing.{axis_text}
use Rattle.hk_chart.proofs.Below.{below_first, below_more}
use Rattle.hk_chart.proofs.caption.add_axis.Goals as goal

pub loop-tenth-init : goal.loop-tenth-init
loop-tenth-init c = below_first (axis_text c.args.span) c.args.text.now

pub loop-tenth-preserved : goal.loop-tenth-preserved
loop-tenth-preserved c =
    below_more (axis_text c.args.span) c.args.text.now c.loop-tenth.text c.add.new.self c.loop-tenth.tenth c.loop-tenth.invariant
    (c.in_ok-add.ensures ∙ ap (λ (l : List ℕ). c.loop-tenth.text ++ l) (c.bytes.ensures.value ∙ c.axis_line.ensures))
