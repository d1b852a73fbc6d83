-- What the program answers and writes, by its words, its input, and what the race came to where there was one.
use Rattle.std.specs.Prelude.{◌≡◌, ◌≢◌, ◌⊎◌, ℕ, Bool, true, false, List, [], ◌∷◌, codes, Option, Some, None, is_some, if◌then◌else◌, IfSome, String}
use Rattle.std.specs.declared.alloc.Global.{Global}
use Rattle.std.specs.Io.KnownBytes.{Appends}
use Rattle.hk_words.specs.Geometry.{HasSizes}
use Rattle.hk_io.specs.declared.Status.{Status}
use Rattle.hk_io.specs.declared.Status.TheVariants as status
use Rattle.hk_io.specs.Bytes.{AppendsPrefix}
use Rattle.hk_sheet.specs.declared.sheet.Sheet.{Sheet}
use Rattle.hk_sheet.specs.Faults.{sizes_of}
use Rattle.hk_table.specs.declared.heap.Heap.{Heap}
use Rattle.hk_table.specs.Ends.{run_of}
use Rattle.hk_front.specs.Text.{line}
use Rattle.hk_front.specs.Input.{IsSheetOf, IsUnread}
use Rattle.hk_race.specs.declared.competing.Raced.{Raced}
use Rattle.hk_race.specs.declared.tool.RaceEnd.{RaceEnd}
use Rattle.hk_race.specs.Raced.{has_full, IsRace}
use Rattle.hk_race.specs.Tasks.{task_at, HasNoLong, IsFirstLong}
use Rattle.hk_race.specs.Text.{race_text}

-- the words that the program takes: none
abbrev pub usage_line : List ℕ
usage_line = line (codes "usage: henri_race" ∷ [])

-- a task of this name is long
abbrev pub long_task_line : (name : List ℕ) → List ℕ
long_task_line name = line (codes "sheet" ∷ codes "task" ∷ name ∷ codes "long" ∷ [])

-- how a race ends the program: by `Full` where a New of it found no room, else by `Live` where the collector found too many words
-- live, else by `Done`
abbrev pub status_by : (full : Bool) → (live : Option ℕ) → Status
status_by full live = if full then status.Full else if is_some live then status.Live else status.Done

abbrev pub status_of : Raced → Status
status_of r = status_by (has_full (run_of r.closed).history) r.live

-- the line for bytes that are a sheet with a long task: it names the first one
pub record IsTooLong (bytes : List ℕ) (text : List ℕ) : Type 0 where
  pub sheet : Sheet
  pub is : IsSheetOf bytes sheet
  pub seat : ℕ
  pub is_first : IsFirstLong sheet seat
  pub text_is : text ≡ long_task_line (task_at sheet seat).name

-- the scripts of a sheet were done on a heap of its geometry, and this is the race
pub record IsRaceOf (sheet : Sheet) (raced : Raced) : Type 0 where
  pub heap : Heap
  pub sizes : HasSizes heap.geometry (sizes_of sheet)
  pub race : IsRace heap sheet raced

-- The bytes are a sheet without a long task, and this is a race of it. It ends the program so, with the text of the sheet, of the
-- closing history, and of the words that the collector found live.
pub record IsTold (bytes : List ℕ) (raced : Raced) (ended : Status) (text : List ℕ) : Type 0 where
  pub sheet : Sheet
  pub is : IsSheetOf bytes sheet
  pub short : HasNoLong sheet
  pub of : IsRaceOf sheet raced
  pub ended_is : ended ≡ status_of raced
  pub text_is : text ≡ race_text sheet of.heap.geometry (run_of raced.closed).history raced.live

-- WHAT THE BYTES CALL FOR, where a race was run to its end, and where none was
abbrev pub BytesCallFor : (bytes : List ℕ) → Option Raced → Status → (text : List ℕ) → Type 0
BytesCallFor bytes (Some raced) ended text = IsTold bytes raced ended text
BytesCallFor bytes None status.Sheet text = IsUnread bytes text ⊎ IsTooLong bytes text
BytesCallFor bytes None other text = ⊥

-- the usage line, with no race
abbrev pub UsageCallsFor : Option Raced → Status → (text : List ℕ) → Type 0
UsageCallsFor (Some raced) ended text = ⊥
UsageCallsFor None ended text = (ended ≡ status.Usage) × (text ≡ usage_line)

-- WHAT THE WORDS AND THE BYTES CALL FOR: words, of any kind, call for the usage line, whatever the bytes
abbrev pub CallsFor : List (String Global) → (bytes : List ℕ) → Option Raced → Status → (text : List ℕ) → Type 0
CallsFor [] bytes raced ended text = BytesCallFor bytes raced ended text
CallsFor (word ∷ more) bytes raced ended text = UsageCallsFor raced ended text

-- the whole text was written that the words, the input and the race call for; where the input isn't told, that some input calls for
pub record Writes (words : List (String Global)) (input before after : Option (List ℕ)) (result : RaceEnd) : Type 0 where
  pub bytes : List ℕ
  pub told : IfSome input (λ left. bytes ≡ left)
  pub text : List ℕ
  pub called : CallsFor words bytes result.raced result.status text
  pub written : Appends before after text

-- a first part was written of the text that the words, the input and the race call for
pub record WritesPrefix (words : List (String Global)) (input before after : Option (List ℕ)) (result : RaceEnd) : Type 0 where
  pub bytes : List ℕ
  pub told : IfSome input (λ left. bytes ≡ left)
  pub ended : Status
  pub text : List ℕ
  pub called : CallsFor words bytes result.raced ended text
  pub written : AppendsPrefix before after text

-- a program that has run a race to its end ends so
abbrev pub EndsRace : Status → Type 0
EndsRace status.Done = Unit {0}
EndsRace status.Full = Unit {0}
EndsRace status.Live = Unit {0}
EndsRace status.WriteFault = Unit {0}
EndsRace other = ⊥

-- a race was run to its end, and ends the program by its own status
pub record HasRaced (result : RaceEnd) : Type 0 where
  pub raced : Raced
  pub is : result.raced ≡ Some raced
  pub ended_is : result.status ≡ status_of raced

-- WHERE NOTHING FAILS the words and the bytes decide, unless there is no memory: words end the program by `Usage`, bytes that are no
-- sheet, or one with a long task, by `Sheet`, and a sheet without one by its race
pub record EndsAsCalled (words : List (String Global)) (bytes : List ℕ) (result : RaceEnd) : Type 0 where
  pub usage : words ≢ [] → result.status ≡ status.Usage
  pub refused : words ≡ [] → (text : List ℕ) → IsUnread bytes text ⊎ IsTooLong bytes text → (result.status ≡ status.Sheet) ⊎ (result.status ≡ status.Memory)
  pub raced : words ≡ [] → (sheet : Sheet) → IsSheetOf bytes sheet → HasNoLong sheet → HasRaced result ⊎ (result.status ≡ status.Memory)
