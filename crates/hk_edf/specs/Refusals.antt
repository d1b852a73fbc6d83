-- What is asked of a sheet whose high jobs go by earliest deadlines, and why one is refused: first what the heap's check
-- refuses, then a jitter, then that too much is due.
use Rattle.std.specs.Prelude.{◌≡◌, ◌≢◌, ℕ, nat_lt, Bool, false, List, Option, Some}
use Rattle.std.specs.List.{find, list_any}
use Rattle.std.specs.Option.{option_map}
use Rattle.hk_rta.specs.Least.{IsLeast}
use Rattle.hk_sheet.specs.declared.sheet.High.{High}
use Rattle.hk_sheet.specs.declared.sheet.Sheet.{Sheet}
use Rattle.hk_admit.specs.declared.refused.Refused.TheVariants as heap
use Rattle.hk_admit.specs.Analysis.{timings_of}
use Rattle.hk_admit.specs.Facts.{IsChecked}
use Rattle.hk_admit.specs.Refusals.{IsHeapRefusal}
use Rattle.hk_edf.specs.declared.refused.EdfRefused.{EdfRefused}
use Rattle.hk_edf.specs.declared.refused.EdfRefused.TheVariants.{Heap, Jitter, Demand, Memory}
use Rattle.hk_edf.specs.Due.{FitsUpTo}
use Rattle.hk_edf.specs.Points.{IsOver}
use Rattle.hk_edf.specs.TooMuch.{Job, EndsAllDueBy}

-- a high task whose jobs may become ready late
abbrev pub has_jitter : High → Bool
has_jitter task = nat_lt 0 task.timing.jitter

-- the name of the first, in sheet order
abbrev pub first_jitter : List High → Option (List ℕ)
first_jitter tasks = option_map (λ (task : High). task.name) (find has_jitter tasks)

-- no high task has a jitter, and what is due fits up to the length of the busy period
pub record MeetsDemand (sheet : Sheet) (busy : ℕ) : Type 0 where
  pub no_jitter : list_any has_jitter sheet.high ≡ false
  pub fits : FitsUpTo (timings_of sheet.high) busy

-- the heap has room, and the name is that of the first high task with a jitter
pub record IsJittery (sheet : Sheet) (name : List ℕ) : Type 0 where
  pub work : ℕ
  pub attempt : ℕ
  pub busy : ℕ
  pub debt : ℕ
  pub checked : IsChecked sheet work attempt busy debt
  pub first : first_jitter sheet.high ≡ Some name

-- the heap has room, no high task has a jitter, and t is the least time up to the length of the busy period at which more
-- is due than there are ticks
pub record IsTooMuch (sheet : Sheet) (t : ℕ) : Type 0 where
  pub work : ℕ
  pub attempt : ℕ
  pub busy : ℕ
  pub debt : ℕ
  pub checked : IsChecked sheet work attempt busy debt
  pub no_jitter : list_any has_jitter sheet.high ≡ false
  pub least : IsLeast (IsOver (timings_of sheet.high) busy) t

-- why a sheet is refused; want of memory may come at any sheet
abbrev pub IsEdfRefusal : Sheet → EdfRefused → Type 0
IsEdfRefusal sheet (Heap refused) = IsHeapRefusal sheet refused × (refused ≢ heap.Memory)
IsEdfRefusal sheet (Jitter task) = IsJittery sheet task
IsEdfRefusal sheet (Demand t) = IsTooMuch sheet t
IsEdfRefusal sheet Memory = Unit {0}

-- a refusal for a jitter
abbrev pub IsJitterRefusal : List High → EdfRefused → Type 0
IsJitterRefusal tasks (Jitter task) = first_jitter tasks ≡ Some task
IsJitterRefusal tasks Memory = Unit {0}
IsJitterRefusal tasks (Heap refused) = ⊥
IsJitterRefusal tasks (Demand t) = ⊥

-- a sheet that is admitted has no refusal but want of memory
abbrev pub AdmittedIsNotRefused : Type 0
AdmittedIsNotRefused = (sheet : Sheet) (work attempt busy debt : ℕ) (refused : EdfRefused)
    → IsChecked sheet work attempt busy debt → MeetsDemand sheet busy → IsEdfRefusal sheet refused → refused ≡ Memory

-- a sheet has one refusal at most, but for want of memory
abbrev pub OneRefusal : Type 0
OneRefusal = (sheet : Sheet) (one other : EdfRefused)
    → IsEdfRefusal sheet one → IsEdfRefusal sheet other → one ≢ Memory → other ≢ Memory → one ≡ other

-- the high tasks of a sheet that is refused since too much is due can be scheduled by nobody: where their jobs all arrive
-- at 0 and at every period and take the whole cost, no assignment of the ticks ends all in time that are due by then
abbrev pub RefusedFitsNowhere : Type 0
RefusedFitsNowhere = (sheet : Sheet) (t : ℕ) → IsTooMuch sheet t → (who : ℕ → Option Job) → ¬ (EndsAllDueBy (timings_of sheet.high) who t)
