-- What keeps narrow limits keeps wide ones.
use Rattle.std.proofs.Common.{ℕ, ◌<◌, List, [], ◌∷◌, arith, inl, inr}
use Rattle.std.specs.List.{AllByRecursion}
use Rattle.hk_script.specs.declared.limits.Limits.{Limits}
use Rattle.hk_script.specs.declared.statement.Statement.{Statement}
use Rattle.hk_script.specs.declared.statement.Statement.TheVariants as statement
use Rattle.hk_script.specs.declared.statement.Test.{Test}
use Rattle.hk_script.specs.declared.statement.Test.TheVariants as test
use Rattle.hk_script.specs.Limits.{AreLimits, AreWithin, widest}
use Rattle.hk_script.specs.Spelling.{IsTest, IsStatement}
use Rattle.hk_script.specs.Blocks.{IsScript}
use Rattle.hk_script.specs.Texts.{Spells}

-- the limits that scripts are read with are within the widest
pub within_widest : (limits : Limits) → AreLimits limits → AreWithin widest limits
within_widest limits (inl usual) = let a = usual.0 in let b = usual.1 in (omega arith, omega arith)
within_widest limits (inr large) = let a = large.0 in let b = large.2 in (omega arith, omega arith)

module _ (narrow wide : Limits) (within : AreWithin wide narrow) where
  wider : (n : ℕ) → n < narrow.registers → n < wide.registers
  wider n lt = let few = within.1 in omega arith

  more : (n : ℕ) → n < narrow.fields → n < wide.fields
  more n lt = let few = within.0 in omega arith

  pub wider_test : (t : Test) → IsTest narrow t → IsTest wide t
  wider_test (test.Less l r) h = h
  wider_test (test.Equal l r) h = h
  wider_test (test.Null r) h = wider r h
  wider_test (test.Same l r) h = (wider l h.0, wider r h.1)

  pub wider_statement : (s : Statement) → IsStatement narrow s → IsStatement wide s
  wider_statement (statement.Work n) h = h
  wider_statement (statement.Set v n) h = h
  wider_statement (statement.Copy v u) h = h
  wider_statement (statement.Add v u) h = h
  wider_statement (statement.Sub v u) h = h
  wider_statement (statement.Job v) h = h
  wider_statement (statement.Out v) h = h
  wider_statement (statement.Get v r f) h = (h.0, wider r h.1, more f h.2)
  wider_statement (statement.Put r f v) h = (wider r h.0, more f h.1, h.2)
  wider_statement (statement.Load d r f) h = ((h.0.0, wider d h.0.1), wider r h.1, more f h.2)
  wider_statement (statement.Store r f t) h = (wider r h.0, more f h.1, wider t h.2)
  wider_statement (statement.Move d r) h = ((h.0.0, wider d h.0.1), wider r h.1)
  wider_statement (statement.Clear d) h = (h.0, wider d h.1)
  wider_statement (statement.New d shape) h = ((h.0.0, wider d h.0.1), let few = within.0 in let small = h.1 in omega arith)
  wider_statement (statement.If t) h = wider_test t h
  wider_statement statement.Else h = h
  wider_statement (statement.Repeat n) h = h
  wider_statement statement.End h = h

  pub wider_each : (s : List Statement) → AllByRecursion (IsStatement narrow) s → AllByRecursion (IsStatement wide) s
  wider_each [] h = tt
  wider_each (x ∷ s) h = (wider_statement x h.0, wider_each s h.1)

  pub wider_script : (s : List Statement) → IsScript narrow s → IsScript wide s
  wider_script s h = record { each = wider_each s h.each; blocks = h.blocks; some = h.some; few = h.few }

  pub wider_spells : (text : List ℕ) (s : List Statement) → Spells narrow text s → Spells wide text s
  wider_spells text s h = record { lines = h.lines; script = wider_script s h.script }
