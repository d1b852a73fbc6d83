-- The response time with room for a section is that of a task whose cost is raised by it.
use Rattle.std.proofs.Common.{◌≡◌, ℕ, ◌+◌, ◌-◌, ◌<◌, ◌↔◌, List, Option, Some, None, length, take, set, ◌++◌, IfSome, IsNone, ap, ◌∙◌, subst, arith, get_or-set_same}
use Rattle.std.proofs.lemmas.List.{take-set}
use Rattle.std.proofs.Math.Seq.{take-set-lt, take-append_seam}
use Rattle.hk_rta.specs.declared.Timing.{Timing}
use Rattle.hk_rta.specs.Demand.{demand, no_timing, timing_at, cost_at, period_at, deadline_at, jitter_at}
use Rattle.hk_rta.specs.Least.{IsLeast}
use Rattle.hk_rta.specs.Response as plain
use Rattle.hk_ceiling.specs.declared.ceilings.TaskSection.{TaskSection}
use Rattle.hk_ceiling.specs.Ceilings.{block}
use Rattle.hk_ceiling.specs.Bounds.{AreStill, brought, Solves, Response, IsLate}
use Rattle.hk_ceiling.proofs.Still.{brought_is}

module _ (tasks xs : List Timing) (sections : List TaskSection) (i cost : ℕ) (listed : i < length tasks) (still : AreStill tasks)
    (is : xs ≡ set tasks i (record { cost = cost; period = period_at tasks i; deadline = deadline_at tasks i; jitter = 0 }))
    (raised : cost ≡ cost_at tasks i + block sections i) where
  before : take i xs ≡ take i tasks
  before = ap (λ ys. take i ys) is ∙ take-set tasks i _

  here : timing_at xs i ≡ record { cost = cost; period = period_at tasks i; deadline = deadline_at tasks i; jitter = 0 }
  here = ap (λ ys. timing_at ys i) is ∙ get_or-set_same tasks i _ no_timing listed

  needs : (r : ℕ) → cost_at xs i + demand (take i xs) r ≡ cost_at tasks i + block sections i + brought (take i tasks) r
  needs r =
      let a : cost_at xs i ≡ cost = ap (λ (x : Timing). x.cost) here in
      omega (arith, a, raised, ap (λ ys. demand ys r) before, brought_is tasks r still i (omega (arith, listed)))

  pub solves_from : (r : ℕ) → plain.Solves xs i r → Solves tasks sections i r
  solves_from r s = record { positive = s.positive; balanced = omega (arith, s.balanced, needs r) }

  pub solves_to : (r : ℕ) → Solves tasks sections i r → plain.Solves xs i r
  solves_to r s = record { positive = s.positive; balanced = omega (arith, s.balanced, needs r) }

  pub same_deadline : deadline_at xs i ≡ deadline_at tasks i
  same_deadline = ap (λ (x : Timing). x.deadline) here

  no_jitter : jitter_at xs i ≡ 0
  no_jitter = ap (λ (x : Timing). x.jitter) here

  pub found : (o : Option ℕ) → IfSome o (λ r. plain.Response xs i r) → IfSome o (λ r. Response tasks sections i r)
  found None h = tt
  found (Some r) h =
      let same : r - jitter_at xs i ≡ r = omega (arith, no_jitter) in
      let least : IsLeast (plain.Solves xs i) r = subst (IsLeast (plain.Solves xs i)) same h.least in
      record { holds = solves_from r least.holds; least = λ m s. least.least m (solves_to m s) }

  pub late : (o : Option ℕ) → (IsNone o ↔ plain.IsLate xs i) → (IsNone o ↔ IsLate tasks sections i)
  late o h = (
    (λ none r le s. h.0 none r (omega (arith, le, same_deadline, no_jitter)) (solves_to r s)),
    (λ is_late. h.1 (λ r le s. is_late r (omega (arith, le, same_deadline)) (solves_from r s))),
  )

-- a change in what was copied to the front
pub set_in_front : (tasks copied rest : List Timing) (i : ℕ) (x : Timing) → i < length tasks → copied ≡ tasks
    → take (length tasks) (set (copied ++ rest) i x) ≡ set tasks i x
set_in_front tasks copied rest i x lt same =
    take-set-lt (length tasks) (copied ++ rest) i x lt
    ∙ ap (λ ys. set (take (length tasks) (ys ++ rest)) i x) same
    ∙ ap (λ ys. set ys i x) (take-append_seam tasks rest)
