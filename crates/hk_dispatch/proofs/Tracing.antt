-- The run of the heap, action by action.
use Rattle.std.proofs.Common.{◌≡◌, ℕ, List, [], ◌∷◌, ◌++◌, refl, sym, ◌∙◌, ap, inl, inr}
use Rattle.std.proofs.lemmas.Bool.{cases_Bool}
use Rattle.std.proofs.lemmas.List.Sums.{fold_push}
use Rattle.hk_words.specs.declared.call.Call.{Call}
use Rattle.hk_words.specs.declared.geometry.Geometry.{Geometry}
use Rattle.hk_core.specs.Collect.{work_by_collector}
use Rattle.hk_core.specs.Run.{Action, begin, step, collect, act}
use Rattle.hk_collect.specs.Used.{Trace, trace_act, trace_opening, traced, is_flip, bears_next}

abbrev pub IsRun : Geometry → Trace → Type 0
IsRun g r = (actions : List Action) × (r ≡ traced g actions)

-- a run with one more action
pub run_more : (g : Geometry) (r : Trace) (a : Action) → IsRun g r → IsRun g (trace_act r a)
unfolding traced
run_more g r a run = (run.0 ++ a ∷ [], ap (λ (s : Trace). trace_act s a) run.1 ∙ sym (fold_push trace_act (trace_opening g) run.0 a))

-- a traced action is the action
pub traced_begin : (r : Trace) (seat : ℕ) (c : Call) → (trace_act r (begin seat c)).running ≡ act r.running (begin seat c)
unfolding trace_act
traced_begin r seat c = refl

pub traced_step : (r : Trace) (seat : ℕ) → (trace_act r (step seat)).running ≡ act r.running (step seat)
unfolding trace_act
traced_step r seat = elim (cases_Bool (bears_next r.running.core seat)) [ inl yes' ↦ rw yes' refl | inr no' ↦ rw no' refl ]

pub traced_event : (r : Trace) → (trace_act r collect).running ≡ act r.running collect
unfolding trace_act
traced_event r = elim (cases_Bool (is_flip (work_by_collector r.running.core))) [ inl yes' ↦ rw yes' refl | inr no' ↦ rw no' refl ]
