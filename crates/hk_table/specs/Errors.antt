-- Why a call of a pass isn't done.
use Rattle.std.specs.Prelude.{◌≡◌, ℕ, Some}
use Rattle.hk_words.specs.declared.geometry.Geometry.{Geometry}
use Rattle.hk_words.specs.declared.call.Call.{Call}
use Rattle.hk_model.specs.Heap.{opening_of}
use Rattle.hk_model.specs.History.{after}
use Rattle.hk_model.specs.Replies.{reply_of}
use Rattle.hk_core.specs.declared.outcome.Fault.{Fault}
use Rattle.hk_core.specs.declared.outcome.Fault.TheVariants as fault
use Rattle.hk_core.specs.Faults.{IsPlainFault}
use Rattle.hk_table.specs.Knows.{PassView}
use Rattle.hk_table.specs.Deeds.{refused_by}
use Rattle.hk_table.specs.declared.error.HeapError.{HeapError}
use Rattle.hk_table.specs.declared.error.HeapError.TheVariants as error

-- the error of a call that isn't begun
abbrev pub error_of : Fault → HeapError
error_of fault.Spent = error.Spent
error_of fault.Nil = error.Nil
error_of fault.Field = error.Field

-- The first reason why a call isn't begun, by the begun calls and the registers of the pass. A null register and a missing
-- field are what the heap that never collects answers after what the pass has seen.
pub record Refuses (g : Geometry) (p : PassView) (call : Call) (error' : HeapError) : Type 0 where
  pub why : Fault
  pub refused : refused_by p call ≡ Some why
  pub is : error' ≡ error_of why
  pub plain : IsPlainFault why (reply_of (after (opening_of g) p.seen) p.seat call)

-- an error is a refusal, or says that there was no room
abbrev pub RefusedOrFull : HeapError → Type 0 → (ℕ → Type 0) → Type 0
RefusedOrFull error.Nil refused full = refused
RefusedOrFull error.Field refused full = refused
RefusedOrFull (error.Full words) refused full = full words
RefusedOrFull error.Spent refused full = refused
