-- The actions of seats, in any order: a begin whose condition holds keeps a lawful state lawful, and so does a step, where
-- the step of the seat does; one whose condition doesn't hold changes nothing.
use Rattle.std.proofs.Common.{◌≡◌, ℕ, ◌<◌, ◌≤◌, Bool, true, false, refl, arith}
use Rattle.std.proofs.lemmas.Bool.{and_parts, ltb-true, eqb-true, not-true}
use Rattle.std.proofs.lemmas.Bool.Decides.{nat_tests}
use Rattle.std.specs.Prelude.{nat_lt, nat_eq, not, ◌&&◌, if◌then◌else◌}
use Rattle.hk_words.specs.declared.call.Call.{Call}
use Rattle.hk_words.specs.Geometry.{tasks}
use Rattle.hk_model.specs.History.{is_question}
use Rattle.hk_core.specs.State.{flight_of}
use Rattle.hk_core.specs.Step.{next, history_after}
use Rattle.hk_core.specs.Begin.{after_begin}
use Rattle.hk_core.specs.Run.{Running, begin, step, act, may_begin, is_busy, registers_fit}
use Rattle.hk_core.specs.View.{flight_at}
use Rattle.hk_core.specs.Lawful.{Lawful}
use Rattle.hk_core.proofs.Registers.{registers_tested}
use Rattle.hk_core.proofs.kinds.Begin.{lawful_after_begin}

-- a run is lawful where its state is, for its history
abbrev pub IsLawfulRun : Running → Type 0
IsLawfulRun r = Lawful r.core r.history

if_lawful : (test : Bool) (a b : Running) → (test ≡ true → IsLawfulRun a) → IsLawfulRun b → IsLawfulRun (if test then a else b)
if_lawful true a b yes' no' = yes' refl
if_lawful false a b yes' no' = no'

in_flight : (place : ℕ) → nat_eq place 0 ≡ false → 1 ≤ place
in_flight place e = grind (arith, nat_tests)

pub lawful_act_begin : (r : Running) (seat : ℕ) (call : Call) → IsLawfulRun r → IsLawfulRun (act r (begin seat call))
unfolding act flight_at
lawful_act_begin r seat call h =
    if_lawful (may_begin r.core seat call) (record r { core = after_begin r.core seat call }) r
    (λ e.
    let p = and_parts (nat_lt seat (tasks r.core.geometry) && nat_eq (flight_of r.core.flights seat).place 0) (not (is_question call) && registers_fit r.core.geometry.registers call) e in
    let idle = and_parts (nat_lt seat (tasks r.core.geometry)) (nat_eq (flight_of r.core.flights seat).place 0) p.0 in
    let fit = and_parts (not (is_question call)) (registers_fit r.core.geometry.registers call) p.1 in
    lawful_after_begin r.core r.history seat call (ltb-true seat (tasks r.core.geometry) idle.0) (eqb-true (flight_of r.core.flights seat).place 0 idle.1)
    (not-true (is_question call) fit.0) ((registers_tested r.core.geometry.registers call).0 fit.1) h)
    h

pub lawful_act_step : (r : Running) (seat : ℕ) → IsLawfulRun r
    → (seat < tasks r.core.geometry → 1 ≤ (flight_at r.core seat).place → Lawful (next r.core seat) (history_after r.core seat r.history))
    → IsLawfulRun (act r (step seat))
unfolding act flight_at
lawful_act_step r seat h steps =
    if_lawful (is_busy r.core seat) (record { core = next r.core seat; history = history_after r.core seat r.history }) r
    (λ e.
    let p = and_parts (nat_lt seat (tasks r.core.geometry)) (not (nat_eq (flight_of r.core.flights seat).place 0)) e in
    steps (ltb-true seat (tasks r.core.geometry) p.0) (in_flight (flight_of r.core.flights seat).place (not-true (nat_eq (flight_of r.core.flights seat).place 0) p.1)))
    h
