-- What the needs of a walk name.
use Rattle.std.specs.Prelude.{◌≡◌, ℕ, ◌+◌, ◌<◌, ◌≤◌}
use Rattle.hk_words.specs.Bounds.{places_of}
use Rattle.hk_words.specs.Calls.{RegistersFit}
use Rattle.hk_words.specs.declared.call.Call.{Call}
use Rattle.hk_words.specs.declared.call.Call.TheVariants as call
use Rattle.hk_script.specs.declared.limits.Limits.{Limits}
use Rattle.hk_script.specs.declared.walk.Need.{Need}
use Rattle.hk_script.specs.declared.walk.Need.TheVariants as need

-- a call names a field below the limit, and makes an object of no more fields than that
abbrev pub FieldsFit : (fields : ℕ) → Call → Type 0
FieldsFit fields (call.Get reg field) = field < fields
FieldsFit fields (call.Put reg field value) = field < fields
FieldsFit fields (call.Load dest reg field) = field < fields
FieldsFit fields (call.Store reg field from) = field < fields
FieldsFit fields (call.New dest shape) = shape.refs + shape.nums ≤ fields
FieldsFit fields c = Unit {0}

-- a question is a call that has no places
abbrev pub IsQuestion : Call → Type 0
IsQuestion c = places_of c ≡ 0

-- a need keeps the limits; what it asks is a question, and no other call on the heap is one
abbrev pub NeedFits : Limits → Need → Type 0
NeedFits limits (need.Heap c) = RegistersFit limits.registers c × FieldsFit limits.fields c × ¬ (IsQuestion c)
NeedFits limits (need.Ask c) = RegistersFit limits.registers c × IsQuestion c
NeedFits limits n = Unit {0}
