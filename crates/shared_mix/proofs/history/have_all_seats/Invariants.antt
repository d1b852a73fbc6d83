use Rattle.std.proofs.Common.{◌≡◌, ℕ, ◌<◌}
use Rattle.std.specs.Prelude.{slice_index_or}
use Rattle.hk_table.specs.declared.pass.Pass.{Pass}
use Rattle.shared_mix.proofs.history.have_all_seats.Given as goal

abbrev pub invariant-loop-place : goal.invariant-loop-place
invariant-loop-place l = (i : ℕ) (d : Pass) → i < l.place → (slice_index_or l.passes i d).number ≡ i
