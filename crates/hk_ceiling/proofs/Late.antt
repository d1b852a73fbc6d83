-- The first task that moves, and the first late one.
use Rattle.std.proofs.Common.{◌≡◌, ℕ, ◌<◌, ◌≤◌, List, [], length, get_or, slice_index, sym, ap, ◌∙◌, arith}
use Rattle.std.proofs.lemmas.List.{get_or-map, length-map}
use Rattle.hk_rta.specs.declared.Timing.{Timing}
use Rattle.hk_rta.specs.Demand.{no_timing, deadline_at, jitter_at}
use Rattle.hk_sheet.specs.declared.sheet.High.{High}
use Rattle.hk_admit.specs.Analysis.{timings_of}
use Rattle.hk_ceiling.specs.declared.ceilings.TaskSection.{TaskSection}
use Rattle.hk_ceiling.specs.Bounds.{Response, IsLate}
use Rattle.hk_ceiling.specs.Admission.{IsNameAt, IsFirstLateName}

pub named_at : (tasks : List High) (i : ℕ) (task : High) (name : List ℕ) → i < length tasks → task ≡ get_or tasks i task → name ≡ task.name → IsNameAt tasks i name
named_at tasks i task name within is named = named ∙ ap (λ (t : High). t.name) is ∙ sym (get_or-map (λ (t : High). t.name) tasks i task [] within)

pub late_at : (tasks : List High) (sections : List TaskSection) (responses : List ℕ) (i : ℕ) (task : High) (name : List ℕ) → i < length tasks → task ≡ get_or tasks i task → name ≡ task.name
    → IsLate (timings_of tasks) sections i → ((j : ℕ) → j < i → Response (timings_of tasks) sections j (slice_index responses j))
    → ((j : ℕ) → j < i → slice_index responses j ≤ deadline_at (timings_of tasks) j) → IsFirstLateName tasks sections name
late_at tasks sections responses i task name within is named late each in_time = record {
  place = i;
  first = record {
    within = omega (arith, within, length-map tasks (λ (t : High). t.timing));
    late = late;
    earlier = λ j before is_late. is_late (slice_index responses j) (in_time j before) ((each j before).holds);
  };
  named = named_at tasks i task name within is named;
}

pub jitter_is : (tasks : List High) (i : ℕ) (task : High) → i < length tasks → task ≡ get_or tasks i task → jitter_at (timings_of tasks) i ≡ task.timing.jitter
jitter_is tasks i task within is =
    ap (λ (t : Timing). t.jitter) (get_or-map (λ (t : High). t.timing) tasks i task no_timing within) ∙ ap (λ (t : High). t.timing.jitter) (sym is)
