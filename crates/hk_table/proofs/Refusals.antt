-- When a call of a pass is refused, and what the errors say.
use Rattle.std.proofs.Common.{◌≡◌, ℕ, refl, List, Option, Some, None}
use Rattle.hk_words.specs.declared.call.Call.{Call}
use Rattle.hk_core.specs.declared.outcome.Fault.{Fault}
use Rattle.hk_core.specs.declared.outcome.Fault.TheVariants as fault
use Rattle.hk_table.specs.Deeds.{first_with}

pub none_so : (o : Option Fault) → ((x : Fault) → o ≡ Some x → ⊥) → o ≡ None
none_so None none = refl
none_so (Some x) none = absurd (none x refl)

pub call_so : (seat : ℕ) (registers : List ℕ) (call : Call) → (first_with seat registers call).call ≡ call
unfolding first_with
call_so seat registers call = refl
