-- The busy period: what waits, and what each task brings once; the first task twice, where its period ends before.
use Rattle.std.proofs.Common.{◌≡◌, refl, ℕ, ◌+◌, ◌*◌, ◌<◌, ◌≤◌, List, [], ◌∷◌, arith, inl, inr}
use Rattle.std.proofs.Math.Nat.{mul-le-mul_right}
use Rattle.std.proofs.lemmas.Bool.{cases_lt}
use Rattle.hk_rta.specs.declared.Load.{Load}
use Rattle.hk_rta.specs.Busy.{Suffices, Busy}
use Rattle.hk_rta.specs.Demand.{starts_in}
use Rattle.hk_gen.proofs.Starts.{starts_some, starts_once, starts_twice, starts_two}
use Rattle.hk_gen.proofs.Times.{AreTimes}

-- what comes each period, at once
abbrev pub load : (work period : ℕ) → Load
load work period = record { period = period; jitter = 0; work = work }

-- each job of the tasks brings its cost and 70 events
abbrev pub three_loads : (c0 c1 c2 p0 p1 p2 : ℕ) → List Load
three_loads c0 c1 c2 p0 p1 p2 = load (c0 + 70) p0 ∷ load (c1 + 70) p1 ∷ load (c2 + 70) p2 ∷ []

-- a busy period with what it leads to: how often the first task arrives in it
pub record FoundBusy (c0 c1 c2 p0 p1 p2 : ℕ) : Type 0 where
  pub length : ℕ
  pub busy : Busy (three_loads c0 c1 c2 p0 p1 p2) 89 length
  pub short : length ≤ 649
  pub firsts : starts_in (length + 0) p0 ≤ 2
  pub seconds : starts_in (length + 0) p1 ≡ 1
  pub thirds : starts_in (length + 0) p2 ≡ 1

-- what a load brings, by how often its period begins
brought : (times work period window : ℕ) → starts_in (window + 0) period ≡ times → starts_in (window + 0) period * work ≡ times * work
brought times work period window e = rw e refl

brought_least : (times work period window : ℕ) → times ≤ starts_in (window + 0) period → times * work ≤ starts_in (window + 0) period * work
brought_least times work period window h = mul-le-mul_right work h

module _ (c0 c1 c2 p0 p1 p2 : ℕ) (t : AreTimes c0 c1 c2 p0 p1 p2) where
  -- what waits and what each task brings once
  abbrev once : ℕ
  once = 89 + (c0 + 70) + (c1 + 70) + (c2 + 70)

  -- each window that has room holds all that
  once_least : (x : ℕ) → Suffices (three_loads c0 c1 c2 p0 p1 p2) 89 x → once ≤ x
  once_least x s =
      let some : 1 ≤ x + 0 = omega (arith, s.positive) in
      omega (
        arith,
        s.enough,
        brought_least 1 (c0 + 70) p0 x (starts_some (x + 0) p0 some (omega (arith, t.once.some))),
        brought_least 1 (c1 + 70) p1 x (starts_some (x + 0) p1 some (omega (arith, t.twice.some))),
        brought_least 1 (c2 + 70) p2 x (starts_some (x + 0) p2 some (omega (arith, t.fourth.some))),
      )

  -- and where that is longer than the first period, the first task's share once more
  again_least : (x : ℕ) → p0 < once → Suffices (three_loads c0 c1 c2 p0 p1 p2) 89 x → once + (c0 + 70) ≤ x
  again_least x long s =
      let some : 1 ≤ x + 0 = omega (arith, s.positive) in
      omega (
        arith,
        s.enough,
        brought_least 2 (c0 + 70) p0 x (starts_two (x + 0) p0 (omega (arith, t.once.some)) (omega (arith, long, once_least x s))),
        brought_least 1 (c1 + 70) p1 x (starts_some (x + 0) p1 some (omega (arith, t.twice.some))),
        brought_least 1 (c2 + 70) p2 x (starts_some (x + 0) p2 some (omega (arith, t.fourth.some))),
      )

  bounds : (once ≤ 509) × (452 ≤ once)
  bounds = (
    omega (arith, t.first.few, t.second.few, t.third.few),
    omega (arith, t.first.some, t.second.some, t.third.some),
  )

  -- the first period holds all
  in_one : once ≤ p0 → FoundBusy c0 c1 c2 p0 p1 p2
  in_one fits =
      let firsts = starts_once (once + 0) p0 (omega (arith, bounds.1)) (omega (arith, fits)) in
      let seconds = starts_once (once + 0) p1 (omega (arith, bounds.1)) (omega (arith, bounds.0, t.twice.some)) in
      let thirds = starts_once (once + 0) p2 (omega (arith, bounds.1)) (omega (arith, bounds.0, t.fourth.some)) in
      record {
        length = once;
        busy = record {
          holds = record {
            positive = omega (arith, bounds.1);
            enough = omega (arith, brought 1 (c0 + 70) p0 once firsts, brought 1 (c1 + 70) p1 once seconds, brought 1 (c2 + 70) p2 once thirds);
          };
          least = once_least;
        };
        short = omega (arith, bounds.0);
        firsts = omega (arith, firsts);
        seconds = seconds;
        thirds = thirds;
      }

  -- or the first task comes once more
  in_two : p0 < once → FoundBusy c0 c1 c2 p0 p1 p2
  in_two long =
      let x : ℕ = once + (c0 + 70) in
      let most : x ≤ 649 = omega (arith, bounds.0, t.first.few) in
      let some : 1 ≤ x + 0 = omega (arith, bounds.1) in
      let firsts = starts_twice (x + 0) p0 (omega (arith, t.once.some)) (omega (arith, long)) (omega (arith, most, t.once.some)) in
      let seconds = starts_once (x + 0) p1 some (omega (arith, most, t.twice.some)) in
      let thirds = starts_once (x + 0) p2 some (omega (arith, most, t.fourth.some)) in
      record {
        length = x;
        busy = record {
          holds = record {
            positive = omega (arith, some);
            enough = omega (arith, brought 2 (c0 + 70) p0 x firsts, brought 1 (c1 + 70) p1 x seconds, brought 1 (c2 + 70) p2 x thirds);
          };
          least = λ y s. again_least y long s;
        };
        short = most;
        firsts = omega (arith, firsts);
        seconds = seconds;
        thirds = thirds;
      }

  pub found_busy : FoundBusy c0 c1 c2 p0 p1 p2
  found_busy = elim (cases_lt p0 once) [
    | inl long ↦ in_two long
    | inr fits ↦ in_one fits
  ]
