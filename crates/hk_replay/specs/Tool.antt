-- What the program answers and writes, by its words and its input.
use Rattle.std.specs.Prelude.{◌≡◌, ◌≢◌, ◌⊎◌, ℕ, ◌<◌, ◌≤◌, List, [], ◌∷◌, map, length, codes, Option, Some, None, IfSome, String, if◌then◌else◌}
use Rattle.std.specs.String.{string_bytes}
use Rattle.std.specs.Str.{bytes_eq}
use Rattle.std.specs.declared.alloc.Global.{Global}
use Rattle.std.specs.Io.KnownBytes.{Appends}
use Rattle.hk_io.specs.Bytes.{AppendsPrefix}
use Rattle.hk_io.specs.Faults.{Rose}
use Rattle.hk_io.specs.Limits.{longest_input}
use Rattle.hk_replay.specs.declared.judge.Verdict.{Verdict}
use Rattle.hk_replay.specs.declared.judge.Verdict.TheVariants as verdict
use Rattle.hk_replay.specs.declared.replayed.Replayed.{Replayed}
use Rattle.hk_replay.specs.declared.replayed.Replayed.TheVariants as replayed
use Rattle.hk_replay.specs.declared.tool.Form.{Form}
use Rattle.hk_replay.specs.declared.tool.Form.TheVariants as form
use Rattle.hk_replay.specs.declared.tool.Text.{Text}
use Rattle.hk_replay.specs.declared.tool.Text.TheVariants as text
use Rattle.hk_replay.specs.declared.tool.Called.{Called}
use Rattle.hk_replay.specs.declared.tool.Called.TheVariants as owing
use Rattle.hk_replay.specs.Judged.{IsVerdict}
use Rattle.hk_replay.specs.Making.{made_log}
use Rattle.hk_replay.specs.Printing.{usage_line, long_line, verdict_line}
use Rattle.hk_replay.specs.Reading.{◌>>=◌}
use Rattle.hk_io.specs.Number.{number_of as number_in}

-- the exit status of a program that ends so
abbrev pub number_of : Replayed → ℕ
number_of replayed.Done = 0
number_of replayed.Memory = 1
number_of replayed.Usage = 2
number_of replayed.ReadFault = 3
number_of replayed.WriteFault = 4
number_of replayed.Differs = 10
number_of replayed.Log = 11

-- how the program ends for what a text comes to
abbrev pub ended_by : Verdict → Replayed
ended_by (verdict.Whole count) = replayed.Done
ended_by (verdict.Differs number) = replayed.Differs
ended_by (verdict.Log number) = replayed.Log

-- the form of the words behind the program's name: `check`, or `make` and a number
abbrev pub form_of : List (List ℕ) → Option Form
form_of (word ∷ []) = if bytes_eq word (codes "check") then Some form.Check else None
form_of (word ∷ n ∷ []) = if bytes_eq word (codes "make") then (number_in n >>= λ value. Some (form.Make value)) else None
form_of words = None

-- how `check` ends on these bytes, and what it writes: they are too many; or they come to a verdict
pub data CheckCallsFor (bytes : List ℕ) (ended : Replayed) (text : List ℕ) : Type 0 where
  too_long : longest_input < length bytes → ended ≡ replayed.Log → text ≡ long_line → CheckCallsFor bytes ended text
  judged : length bytes ≤ longest_input → (said : Verdict) → IsVerdict bytes said → ended ≡ ended_by said → text ≡ verdict_line said → CheckCallsFor bytes ended text

-- how a form ends on these bytes, and what it writes; words of no form call for the usage line
abbrev pub FormCallsFor : Option Form → (bytes : List ℕ) → Replayed → (text : List ℕ) → Type 0
FormCallsFor None bytes ended text = (ended ≡ replayed.Usage) × (text ≡ usage_line)
FormCallsFor (Some form.Check) bytes ended text = CheckCallsFor bytes ended text
FormCallsFor (Some (form.Make n)) bytes ended text = (ended ≡ replayed.Done) × (text ≡ made_log n)

-- WHAT THE WORDS AND THE BYTES CALL FOR
abbrev pub CallsFor : List (String Global) → (bytes : List ℕ) → Replayed → (text : List ℕ) → Type 0
CallsFor words bytes ended text = FormCallsFor (form_of (map string_bytes words)) bytes ended text

-- the words are `check`
abbrev pub IsCheck : List (String Global) → Type 0
IsCheck words = map string_bytes words ≡ codes "check" ∷ []

-- a program that ends so has written a text whole
abbrev pub HasText : Replayed → Type 0
HasText replayed.Memory = ⊥
HasText replayed.ReadFault = ⊥
HasText replayed.WriteFault = ⊥
HasText other = Unit {0}

-- the words and the input call for this end and this text; where the input isn't told, some input does
pub record Calls (words : List (String Global)) (input : Option (List ℕ)) (ended : Replayed) (text : List ℕ) : Type 0 where
  pub bytes : List ℕ
  pub told : IfSome input (λ left. bytes ≡ left)
  pub called : CallsFor words bytes ended text

-- the whole text was written that the words and the input call for
pub record Writes (words : List (String Global)) (input before after : Option (List ℕ)) (ended : Replayed) : Type 0 where
  pub text : List ℕ
  pub calls : Calls words input ended text
  pub written : Appends before after text

-- a first part was written of the text that the words and the input call for
pub record WritesPrefix (words : List (String Global)) (input before after : Option (List ℕ)) : Type 0 where
  pub ended : Replayed
  pub text : List ℕ
  pub calls : Calls words input ended text
  pub written : AppendsPrefix before after text

-- THE PARTS OF THE PROGRAM

-- the bytes of a text
abbrev pub bytes_of : Text → List ℕ
bytes_of (text.Line line) = line
bytes_of (text.Log log) = log.items

-- what is told of what the words and the input call for is so
abbrev pub Tells : List (String Global) → (input : Option (List ℕ)) → Called → Type 0
Tells words input (owing.Text ended text) = HasText ended × Calls words input ended (bytes_of text)
Tells words input owing.Memory = Unit {0}
Tells words input owing.ReadFault = Unit {0}

-- `check` calls for this, on this input
pub record CheckCalls (input : Option (List ℕ)) (ended : Replayed) (text : List ℕ) : Type 0 where
  pub bytes : List ℕ
  pub told : IfSome input (λ left. bytes ≡ left)
  pub called : CheckCallsFor bytes ended text

abbrev pub TellsCheck : (input : Option (List ℕ)) → Called → Type 0
TellsCheck input (owing.Text ended text) = HasText ended × CheckCalls input ended (bytes_of text)
TellsCheck input owing.Memory = Unit {0}
TellsCheck input owing.ReadFault = Unit {0}

-- the program is to end with Done
abbrev pub HasEnd : Called → Type 0
HasEnd (owing.Text ended text) = ended ≡ replayed.Done
HasEnd owing.Memory = ⊥
HasEnd owing.ReadFault = ⊥

-- it is to end with the usage line
abbrev pub IsUsage : Called → Type 0
IsUsage (owing.Text ended text) = ended ≡ replayed.Usage
IsUsage owing.Memory = ⊥
IsUsage owing.ReadFault = ⊥

-- it is to write the log for a number, or there was no memory
abbrev pub IsMade : ℕ → Called → Type 0
IsMade n (owing.Text ended text) = (ended ≡ replayed.Done) × (bytes_of text ≡ made_log n)
IsMade n owing.Memory = Unit {0}
IsMade n owing.ReadFault = ⊥

-- a text was to be written: it was, or a first part of it, and the count of faults rose
pub record Ends (owed : Replayed) (text : List ℕ) (before after : Option (List ℕ)) (faults faults_after : ℕ) (ended : Replayed) : Type 0 where
  pub ends : (ended ≡ owed) ⊎ (ended ≡ replayed.WriteFault)
  pub whole : ended ≡ owed → Appends before after text
  pub prefix : ended ≡ replayed.WriteFault → AppendsPrefix before after text
  pub cause : ended ≡ replayed.WriteFault → Rose faults faults_after
  pub kept : ended ≢ replayed.WriteFault → faults_after ≡ faults
  pub later : faults ≤ faults_after
