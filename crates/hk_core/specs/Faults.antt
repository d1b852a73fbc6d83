-- What a begin that is refused, or isn't, tells of the plain heap.
use Rattle.std.specs.Prelude.{◌≡◌, ◌≢◌, ⊤, Option, Some, None}
use Rattle.hk_words.specs.declared.call.Reply.{Reply}
use Rattle.hk_words.specs.declared.call.Reply.TheVariants as reply
use Rattle.hk_core.specs.declared.outcome.Fault.{Fault}
use Rattle.hk_core.specs.declared.outcome.Fault.TheVariants as fault

-- the call found its object and its field
abbrev pub FindsField : Reply → Type 0
FindsField answer = (answer ≢ reply.Nil) × (answer ≢ reply.Field)

-- a fault is what the plain heap answers; that a seat has begun as many calls as it can says nothing of the plain heap
abbrev pub IsPlainFault : Fault → Reply → Type 0
IsPlainFault fault.Spent answer = ⊤
IsPlainFault fault.Nil answer = answer ≡ reply.Nil
IsPlainFault fault.Field answer = answer ≡ reply.Field

-- a begin that is refused is so for what the plain heap answers, and one that isn't finds its object and field there
abbrev pub TellsPlain : Option Fault → Reply → Type 0
TellsPlain None answer = FindsField answer
TellsPlain (Some why) answer = IsPlainFault why answer
