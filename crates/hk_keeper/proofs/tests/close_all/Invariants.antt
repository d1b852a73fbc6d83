use Rattle.std.specs.Prelude.{◌≡◌, ℕ, ◌<◌, slice_index_or}
use Rattle.hk_table.specs.declared.pass.Pass.{Pass}
use Rattle.hk_keeper.proofs.tests.close_all.Given as goal

abbrev pub invariant-loop-number : goal.invariant-loop-number
invariant-loop-number g l = (j : ℕ) → j < l.number → (d : Pass) → (slice_index_or l.passes.items j d).number ≡ j
