-- What a call answers, and what it changes, on the heap that never collects. The reply `Unit` is called `Done` here,
-- since `Unit` is a word of the logic.
use Rattle.std.specs.Prelude.{ℕ, zero, suc, Bool, true, false, nat_lt, nat_eq, List, [], ◌∷◌, ◌++◌, slice_set, Option, Some, None, is_none, if◌then◌else◌}
use Rattle.hk_words.specs.declared.shape.Shape.{Shape}
use Rattle.hk_words.specs.declared.call.Call.{Call}
use Rattle.hk_words.specs.declared.call.Call.TheVariants.{Get, Put, Load, Store, Move, Clear, New, Same, IsNull}
use Rattle.hk_words.specs.declared.call.Reply.{Reply}
use Rattle.hk_words.specs.declared.call.Reply.TheVariants.{Unit as Done, Num, Yes, No, Nil, Field}
use Rattle.hk_model.specs.Heap.{Heap, register, refs, nums, link, value, born, made}

-- the outcome of a call that enters an object: the first where the entered register is null, the second where the
-- object of its birth has no such field, and else what is done with the birth
abbrev pub entering : {A : Type 0} → Option ℕ → (ℕ → Bool) → A → A → (ℕ → A) → A
entering None has_field nil no_field done = nil
entering (Some birth) has_field nil no_field done = if has_field birth then done birth else no_field

-- the object of a birth has a number field of this place
abbrev pub has_number : Heap → ℕ → ℕ → Bool
has_number h field birth = nat_lt field (nums h birth)

-- it has a reference field of this place
abbrev pub has_reference : Heap → ℕ → ℕ → Bool
has_reference h field birth = nat_lt field (refs h birth)

-- the answer to a question
abbrev pub said : Bool → Reply
said b = if b then Yes else No

-- two registers hold the same: both null, or one birth
abbrev pub is_same : Option ℕ → Option ℕ → Bool
is_same None None = true
is_same None (Some b) = false
is_same (Some a) None = false
is_same (Some a) (Some b) = nat_eq a b

-- what a call of a seat answers
unfoldable pub reply_of : Heap → ℕ → Call → Reply
reply_of h seat (Get reg field) = entering (register h seat reg) (has_number h field) Nil Field (λ birth. Num (value h birth field))
reply_of h seat (Put reg field number) = entering (register h seat reg) (has_number h field) Nil Field (λ birth. Done)
reply_of h seat (Load dest reg field) = entering (register h seat reg) (has_reference h field) Nil Field (λ birth. Done)
reply_of h seat (Store reg field from) = entering (register h seat reg) (has_reference h field) Nil Field (λ birth. Done)
reply_of h seat (Move dest from) = Done
reply_of h seat (Clear dest) = Done
reply_of h seat (New dest shape) = Done
reply_of h seat (Same a b) = said (is_same (register h seat a) (register h seat b))
reply_of h seat (IsNull reg) = said (is_none (register h seat reg))

-- a list with the element at a place changed; the list as it is where it has no such place
abbrev pub changed_at : {A : Type 0} → (A → A) → List A → ℕ → List A
changed_at change [] place = []
changed_at change (x ∷ xs) zero = change x ∷ xs
changed_at change (x ∷ xs) (suc place) = x ∷ changed_at change xs place

-- the heap with a register of a seat set
unfoldable pub with_register : Heap → ℕ → ℕ → Option ℕ → Heap
with_register h seat reg v = record h { registers = changed_at (λ own. slice_set own reg v) h.registers seat }

-- the heap with a reference field of the object of a birth set
unfoldable pub with_link : Heap → ℕ → ℕ → Option ℕ → Heap
with_link h birth field v = record h { objects = changed_at (λ object. record object { refs = slice_set object.refs field v }) h.objects birth }

-- the heap with a number field of the object of a birth set
unfoldable pub with_value : Heap → ℕ → ℕ → ℕ → Heap
with_value h birth field v = record h { objects = changed_at (λ object. record object { nums = slice_set object.nums field v }) h.objects birth }

-- the heap with one more object, as it is made
unfoldable pub with_object : Heap → Shape → Heap
with_object h shape = record h { objects = h.objects ++ made shape ∷ [] }

-- the heap after a call of a seat. No call takes an object away, and a New always finds room
unfoldable pub heap_after : Heap → ℕ → Call → Heap
heap_after h seat (Get reg field) = h
heap_after h seat (Put reg field number) = entering (register h seat reg) (has_number h field) h h (λ birth. with_value h birth field number)
heap_after h seat (Load dest reg field) = entering (register h seat reg) (has_reference h field) h h (λ birth. with_register h seat dest (link h birth field))
heap_after h seat (Store reg field from) = entering (register h seat reg) (has_reference h field) h h (λ birth. with_link h birth field (register h seat from))
heap_after h seat (Move dest from) = with_register h seat dest (register h seat from)
heap_after h seat (Clear dest) = with_register h seat dest None
heap_after h seat (New dest shape) = with_register (with_object h shape) seat dest (Some (born h))
heap_after h seat (Same a b) = h
heap_after h seat (IsNull reg) = h
