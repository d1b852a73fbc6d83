-- The walk of a job that isn't over: it wants something, each need takes a tick or more, and an operation that it wants may be
-- begun.
use Rattle.std.proofs.Common.{◌≡◌, ℕ, suc, zero, ◌<◌, ◌≤◌, true, false, List, [], ◌∷◌, length, Option, Some, None, refl, subst, arith}
use Rattle.std.specs.Prelude.{slice_get, IfSome, IsSome}
use Rattle.std.specs.List.{AllByRecursion}
use Rattle.hk_words.specs.declared.call.Call.{Call}
use Rattle.hk_words.specs.declared.call.Call.TheVariants as call
use Rattle.hk_words.specs.declared.geometry.Geometry.{Geometry}
use Rattle.hk_words.specs.Bounds.{places_of}
use Rattle.hk_words.specs.Calls.{RegistersFit}
use Rattle.hk_model.specs.History.{is_question}
use Rattle.hk_script.specs.Limits.{limits_of}
use Rattle.hk_script.specs.declared.statement.Statement.{Statement}
use Rattle.hk_script.specs.declared.statement.Statement.TheVariants as statement
use Rattle.hk_script.specs.declared.statement.Test.TheVariants as test
use Rattle.hk_script.specs.declared.walk.Need.{Need}
use Rattle.hk_script.specs.declared.walk.Need.TheVariants as need
use Rattle.hk_script.specs.declared.walk.Walk.{Walk}
use Rattle.hk_script.specs.Spelling.{IsStatement}
use Rattle.hk_script.specs.Blocks.{IsScript}
use Rattle.hk_script.specs.Walks.{need_in, need_at, need_of, Fits}
use Rattle.hk_script.specs.Runs.{need_ticks, taken_by}
use Rattle.hk_script.specs.Needs.{NeedFits}
use Rattle.hk_script.proofs.Needs.{need_fits}
use Rattle.hk_script.proofs.Stops.{wants_until_end}
use Rattle.hk_dispatch.specs.InStep.{MayBegin}

abbrev TakesSome : Need → Type 0
TakesSome n = 1 ≤ need_ticks n

takes_some : (fields registers : ℕ) (w : Walk) (s : Statement) → IsStatement (limits_of fields registers) s → IfSome (need_in w s) TakesSome
takes_some fields registers w (statement.Work n) h = h.0
takes_some fields registers w (statement.Set v n) h = omega arith
takes_some fields registers w (statement.Copy v u) h = omega arith
takes_some fields registers w (statement.Add v u) h = omega arith
takes_some fields registers w (statement.Sub v u) h = omega arith
takes_some fields registers w (statement.Job v) h = omega arith
takes_some fields registers w (statement.Out v) h = omega arith
takes_some fields registers w (statement.Get v r f) h = omega arith
takes_some fields registers w (statement.Put r f v) h = omega arith
takes_some fields registers w (statement.Load d r f) h = omega arith
takes_some fields registers w (statement.Store r f t) h = omega arith
takes_some fields registers w (statement.Move d r) h = omega arith
takes_some fields registers w (statement.Clear d) h = omega arith
takes_some fields registers w (statement.New d shape) h = omega arith
takes_some fields registers w (statement.If (test.Less l r)) h = omega arith
takes_some fields registers w (statement.If (test.Equal l r)) h = omega arith
takes_some fields registers w (statement.If (test.Null r)) h = omega arith
takes_some fields registers w (statement.If (test.Same l r)) h = omega arith
takes_some fields registers w statement.Else h = tt
takes_some fields registers w (statement.Repeat n) h = omega arith
takes_some fields registers w statement.End h = tt

-- a statement that stands at a place is one of the script's
got : (fields registers : ℕ) (s : List Statement) (p : ℕ) → AllByRecursion (IsStatement (limits_of fields registers)) s → IfSome (slice_get s p) (IsStatement (limits_of fields registers))
got fields registers [] p h = tt
got fields registers (x ∷ s) zero h = h.0
got fields registers (x ∷ s) (suc p) h = got fields registers s p h.1

need_takes : (fields registers : ℕ) (s : List Statement) (w : Walk) → IsScript (limits_of fields registers) s → IfSome (need_of s w) TakesSome
unfolding need_of
need_takes fields registers s w h = by_get (slice_get s w.place) (got fields registers s w.place h.each) where
  by_get : (o : Option Statement) → IfSome o (IsStatement (limits_of fields registers)) → IfSome (need_at w o) TakesSome
  by_get None g = tt
  by_get (Some x) g = takes_some fields registers w x g

-- what a walk wants that isn't at its end
pub wants : (s : List Statement) (w : Walk) → Fits s w → w.place < length s → (n : Need) × (need_of s w ≡ Some n)
wants s w f lt = some_of (need_of s w) (wants_until_end s w f lt) where
  some_of : (o : Option Need) → IsSome o → (n : Need) × (o ≡ Some n)
  some_of None h = absurd (let e : false ≡ true = h in cc)
  some_of (Some n) h = (n, refl)

pub wants_ticks : (fields registers : ℕ) (s : List Statement) (w : Walk) → IsScript (limits_of fields registers) s → Fits s w → w.place < length s → 1 ≤ taken_by need_ticks (need_of s w)
wants_ticks fields registers s w script f lt =
    let n = wants s w f lt in
    let some : TakesSome n.0 = subst (λ (o : Option Need). IfSome o TakesSome) n.1 (need_takes fields registers s w script) in
    rw n.1 some

-- an operation that a walk wants is no question, and its registers are those of the script's limits
pub may_begin_wanted : (g : Geometry) (fields registers : ℕ) (s : List Statement) (w : Walk) (c : Call) → IsScript (limits_of fields registers) s → registers ≡ g.registers
    → need_of s w ≡ Some (need.Heap c) → MayBegin g c
may_begin_wanted g fields registers s w c script same is =
    let fits : NeedFits (limits_of fields registers) (need.Heap c) = subst (λ (o : Option Need). IfSome o (NeedFits (limits_of fields registers))) is (need_fits (limits_of fields registers) s w script) in
    record { question = no_question c fits.2; registers = subst (λ r. RegistersFit r c) same fits.0 }
  where
    no_question : (c : Call) → ¬ (places_of c ≡ 0) → is_question c ≡ false
    no_question (call.Get reg field) h = refl
    no_question (call.Put reg field value) h = refl
    no_question (call.Load dest reg field) h = refl
    no_question (call.Store reg field from) h = refl
    no_question (call.Move dest from) h = refl
    no_question (call.Clear dest) h = refl
    no_question (call.New dest shape) h = refl
    no_question (call.Same a b) h = absurd (h refl)
    no_question (call.IsNull reg) h = absurd (h refl)
