use Rattle.std.proofs.Common.{◌≡◌, ◌++◌}
use Rattle.hk_chart.specs.Drawing.{grid_text, texts_below}
use Rattle.hk_chart.proofs.caption.add_grid.Given as goal

abbrev pub invariant-loop-tenth : goal.invariant-loop-tenth
invariant-loop-tenth l = l.text ≡ l.initial.text ++ texts_below (grid_text l.span l.tasks) l.tenth
