-- What a walk wants keeps the limits of its script.
use Rattle.std.proofs.Common.{ℕ, suc, zero, List, [], ◌∷◌, Option, Some, None, refl, arith}
use Rattle.std.specs.Prelude.{slice_get, IfSome}
use Rattle.std.specs.List.{AllByRecursion}
use Rattle.hk_script.specs.declared.limits.Limits.{Limits}
use Rattle.hk_script.specs.declared.statement.Statement.{Statement}
use Rattle.hk_script.specs.declared.statement.Statement.TheVariants as statement
use Rattle.hk_script.specs.declared.statement.Test.TheVariants as test
use Rattle.hk_script.specs.declared.walk.Walk.{Walk}
use Rattle.hk_script.specs.Spelling.{IsStatement}
use Rattle.hk_script.specs.Blocks.{IsScript}
use Rattle.hk_script.specs.Walks.{need_in, need_at, need_of}
use Rattle.hk_script.specs.Needs.{NeedFits}

in_statement : (limits : Limits) (w : Walk) (s : Statement) → IsStatement limits s → IfSome (need_in w s) (NeedFits limits)
in_statement limits w (statement.Work n) h = tt
in_statement limits w (statement.Set v n) h = tt
in_statement limits w (statement.Copy v u) h = tt
in_statement limits w (statement.Add v u) h = tt
in_statement limits w (statement.Sub v u) h = tt
in_statement limits w (statement.Job v) h = tt
in_statement limits w (statement.Out v) h = tt
in_statement limits w (statement.Get v r f) h = (h.1, h.2, λ e. absurd (omega (arith, e)))
in_statement limits w (statement.Put r f v) h = (h.0, h.1, λ e. absurd (omega (arith, e)))
in_statement limits w (statement.Load d r f) h = ((h.0, h.1), h.2, λ e. absurd (omega (arith, e)))
in_statement limits w (statement.Store r f t) h = ((h.0, h.2), h.1, λ e. absurd (omega (arith, e)))
in_statement limits w (statement.Move d r) h = ((h.0, h.1), tt, λ e. absurd (omega (arith, e)))
in_statement limits w (statement.Clear d) h = (h, tt, λ e. absurd (omega (arith, e)))
in_statement limits w (statement.New d shape) h = (h.0, h.1, λ e. absurd (omega (arith, e)))
in_statement limits w (statement.If (test.Less l r)) h = tt
in_statement limits w (statement.If (test.Equal l r)) h = tt
in_statement limits w (statement.If (test.Null r)) h = (h, refl)
in_statement limits w (statement.If (test.Same l r)) h = (h, refl)
in_statement limits w statement.Else h = tt
in_statement limits w (statement.Repeat n) h = tt
in_statement limits w statement.End h = tt

-- a statement that stands at a place is one of the script's
got : (limits : Limits) (s : List Statement) (p : ℕ) → AllByRecursion (IsStatement limits) s → IfSome (slice_get s p) (IsStatement limits)
got limits [] p h = tt
got limits (x ∷ s) zero h = h.0
got limits (x ∷ s) (suc p) h = got limits s p h.1

pub need_fits : (limits : Limits) (s : List Statement) (w : Walk) → IsScript limits s → IfSome (need_of s w) (NeedFits limits)
unfolding need_of
need_fits limits s w h = by_get (slice_get s w.place) (got limits s w.place h.each) where
  by_get : (o : Option Statement) → IfSome o (IsStatement limits) → IfSome (need_at w o) (NeedFits limits)
  by_get None g = tt
  by_get (Some x) g = in_statement limits w x g
