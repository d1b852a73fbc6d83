-- How a part of a program ends, and what it has written then.
use Rattle.std.specs.Prelude.{◌≡◌, ◌≢◌, ℕ, ◌≤◌, List, Option, IfSome}
use Rattle.std.specs.Io.KnownBytes.{Appends}
use Rattle.hk_io.specs.declared.Status.{Status}
use Rattle.hk_io.specs.declared.Status.TheVariants as status
use Rattle.hk_io.specs.Bytes.{AppendsPrefix}
use Rattle.hk_io.specs.Faults.{Rose}

-- a program that ends so has written a text whole
abbrev pub HasText : Status → Type 0
HasText status.Memory = ⊥
HasText status.ReadFault = ⊥
HasText status.WriteFault = ⊥
HasText other = Unit {0}

-- a part of the program ends so, where this says which ends and texts are called for
pub record EndsBy (Calls : Status → List ℕ → Type 0) (before after : Option (List ℕ)) (faults faults_after : ℕ) (ended : Status) : Type 0 where
  pub whole : HasText ended → (text : List ℕ) × Calls ended text × Appends before after text
  pub prefix : ended ≡ status.WriteFault → (other : Status) × (text : List ℕ) × Calls other text × AppendsPrefix before after text
  pub cause : ended ≡ status.WriteFault → Rose faults faults_after
  pub no_read : ended ≢ status.ReadFault
  pub kept : ended ≢ status.WriteFault → faults_after ≡ faults
  pub later : faults ≤ faults_after

-- so, on some bytes, which are the input where that is told
pub record EndsOn (Calls : List ℕ → Status → List ℕ → Type 0) (input before after : Option (List ℕ)) (faults faults_after : ℕ) (ended : Status) : Type 0 where
  pub bytes : List ℕ
  pub told : IfSome input (λ left. bytes ≡ left)
  pub ends : EndsBy (Calls bytes) before after faults faults_after ended
