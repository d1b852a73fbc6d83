-- From the parts of a check to the refusals of the whole.
use Rattle.std.proofs.Common.{◌≡◌, ◌∙◌, sym, ap, subst, ℕ, ◌+◌, ◌-◌, ◌<◌, ◌≤◌, Bool, true, false, Some, List, [], length, get_or, take, slice_index, arith}
use Rattle.std.specs.List.{find, list_any}
use Rattle.std.specs.Option.{option_map}
use Rattle.std.proofs.lemmas.List.{length-map, get_or-map}
use Rattle.hk_rta.specs.declared.Timing.{Timing}
use Rattle.hk_rta.specs.Demand.{deadline_at, jitter_at}
use Rattle.hk_rta.specs.Response.{Response, IsLate}
use Rattle.hk_sheet.specs.declared.sheet.High.{High}
use Rattle.hk_sheet.specs.declared.sheet.Sheet.{Sheet}
use Rattle.hk_admit.specs.declared.refused.Refused.{Refused}
use Rattle.hk_admit.specs.declared.refused.Refused.TheVariants as refused
use Rattle.hk_admit.specs.Analysis.{timings_of}
use Rattle.hk_admit.specs.Conditions.{is_too_long, is_too_large, AreInTime, AreResponses}
use Rattle.hk_admit.specs.Refusals.{too_long, too_large, first_too_long, first_too_large, IsFirstLateName, IsHeapRefusal, IsRefusal}
use Rattle.hk_admit.specs.Parts.{IsThat}
use Rattle.hk_admit.proofs.Found.{find_at}

-- the first task that fails a test of what it declares
first_at : (p : High → Bool) (f : High → Refused) (tasks : List High) (i : ℕ) (task : High) → i < length tasks → list_any p (take i tasks) ≡ false → task ≡ get_or tasks i task → p task ≡ true → option_map f (find p tasks) ≡ Some (f task)
first_at p f tasks i task within none is fails =
    ap (option_map f) (find_at p tasks i task within none (sym (ap p is) ∙ fails)) ∙ ap (λ (x : High). Some (f x)) (sym is)

pub too_long_at : (tasks : List High) (i : ℕ) (task : High) (r : Refused) → i < length tasks → list_any is_too_long (take i tasks) ≡ false → task ≡ get_or tasks i task → is_too_long task ≡ true → r ≡ too_long task → IsThat (first_too_long tasks) r
too_long_at tasks i task r within none is fails e =
    subst (IsThat (first_too_long tasks)) (sym e) (first_at is_too_long too_long tasks i task within none is fails)

pub too_large_at : (tasks : List High) (i : ℕ) (task : High) (r : Refused) → i < length tasks → list_any is_too_large (take i tasks) ≡ false → task ≡ get_or tasks i task → is_too_large task ≡ true → r ≡ too_large task → IsThat (first_too_large tasks) r
too_large_at tasks i task r within none is fails e =
    subst (IsThat (first_too_large tasks)) (sym e) (first_at is_too_large too_large tasks i task within none is fails)

-- a task whose response is at most its deadline isn't late
in_time_at : (tasks : List Timing) (i r : ℕ) → Response tasks i r → r ≤ deadline_at tasks i → ¬ (IsLate tasks i)
in_time_at tasks i r response short late =
    let whole : r - jitter_at tasks i + jitter_at tasks i ≡ r = omega (arith, response.after_jitter) in
    late (r - jitter_at tasks i) (omega (arith, whole, short)) response.least.holds

-- the first late task, where those before it have their responses
pub late_at : (tasks : List High) (responses : List ℕ) (i : ℕ) (task : High) (name : List ℕ) → i < length tasks → task ≡ get_or tasks i task → name ≡ task.name → IsLate (timings_of tasks) i → ((j : ℕ) → j < i → Response (timings_of tasks) j (slice_index responses j)) → ((j : ℕ) → j < i → slice_index responses j ≤ deadline_at (timings_of tasks) j) → IsFirstLateName tasks name
late_at tasks responses i task name within is named late each in_time = record {
  place = i;
  first = record {
    within = rw (length-map tasks (λ (t : High). t.timing)) within;
    late = late;
    earlier = λ j before. in_time_at (timings_of tasks) j (slice_index responses j) (each j before) (in_time j before);
  };
  named = named ∙ ap (λ (t : High). t.name) is ∙ sym (get_or-map (λ (t : High). t.name) tasks i task [] within);
}

-- tasks with their responses are in time
pub all_in_time : (tasks : List Timing) (responses : List ℕ) → AreResponses tasks responses → AreInTime tasks
all_in_time tasks responses are i within = in_time_at tasks i (slice_index responses i) (are.each i within) (are.in_time i within)

-- a refusal of the heap of a sheet whose tasks are in time is one of the whole
pub room_whole : (sheet : Sheet) (r : Refused) → AreInTime (timings_of sheet.high) → IsHeapRefusal sheet r → IsRefusal sheet r
room_whole sheet (refused.Cost task need declared) in_time h = h
room_whole sheet (refused.Words task need declared) in_time h = h
room_whole sheet (refused.Response task) in_time h = absurd h
room_whole sheet refused.Busy in_time h = (in_time, h)
room_whole sheet (refused.Rate have need) in_time h = (in_time, h)
room_whole sheet (refused.Reserve have need) in_time h = (in_time, h)
room_whole sheet refused.Memory in_time h = h
