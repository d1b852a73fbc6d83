-- Histories: the calls that tasks have done, in the order of their effects, with what each answered. The reply `Unit`
-- is called `Done` here, since `Unit` is a word of the logic.
use Rattle.std.specs.Prelude.{◌≡◌, ◌≢◌, ◌⊎◌, ℕ, suc, Bool, true, false, ◌&&◌, nat_eq, List, [], ◌∷◌, map, filter, fold, slice_index, Option, Some, None, if◌then◌else◌}
use Rattle.hk_words.specs.declared.call.Call.{Call}
use Rattle.hk_words.specs.declared.call.Call.TheVariants.{Get, Put, Load, Store, Move, Clear, New, Same, IsNull}
use Rattle.hk_words.specs.declared.call.Reply.{Reply}
use Rattle.hk_words.specs.declared.call.Reply.TheVariants.{Unit as Done, Num, Yes, No, Nil, Field, Full}
use Rattle.hk_model.specs.Heap.{Heap}
use Rattle.hk_model.specs.Replies.{reply_of, heap_after}

-- a call that a task has done: its seat, the call, the reply, and a number. The number is the one that the object of
-- a New was given, for a New that was refused the words that it found used, and 0 for every other call
pub record Entry : Type 0 where
  pub seat : ℕ
  pub call : Call
  pub reply : Reply
  pub number : ℕ

-- the calls that were done, the earliest first
abbrev pub History : Type 0
History = List Entry

-- the call makes an object
abbrev pub is_new : Call → Bool
is_new (Get reg field) = false
is_new (Put reg field number) = false
is_new (Load dest reg field) = false
is_new (Store reg field from) = false
is_new (Move dest from) = false
is_new (Clear dest) = false
is_new (New dest shape) = true
is_new (Same a b) = false
is_new (IsNull reg) = false

-- the call only asks about registers; such a call has no effect, and stands in no history
abbrev pub is_question : Call → Bool
is_question (Get reg field) = false
is_question (Put reg field number) = false
is_question (Load dest reg field) = false
is_question (Store reg field from) = false
is_question (Move dest from) = false
is_question (Clear dest) = false
is_question (New dest shape) = false
is_question (Same a b) = true
is_question (IsNull reg) = true

-- the reply says that the call was done and has no value
abbrev pub is_done : Reply → Bool
is_done Done = true
is_done (Num number) = false
is_done Yes = false
is_done No = false
is_done Nil = false
is_done Field = false
is_done Full = false

-- the reply says that there was no room
abbrev pub is_full : Reply → Bool
is_full Done = false
is_full (Num number) = false
is_full Yes = false
is_full No = false
is_full Nil = false
is_full Field = false
is_full Full = true

-- the entry is a New that made its object
abbrev pub is_birth : Entry → Bool
is_birth e = is_new e.call && is_done e.reply

-- the entry is a New that found no room
abbrev pub is_refused : Entry → Bool
is_refused e = is_new e.call && is_full e.reply

-- the heap after an entry: a New that found no room changes nothing
unfoldable pub after_entry : Heap → Entry → Heap
after_entry h e = if is_refused e then h else heap_after h e.seat e.call

-- the heap after all entries of a history that began with a heap
unfoldable pub after : Heap → History → Heap
after start history = fold after_entry start history

-- an entry that may come next where the heap is h: the call is no question, and it answered what it answers on that
-- heap, where it found an object and its field; or it is a New that found no room
abbrev pub EntryLegal : Heap → Entry → Type 0
EntryLegal h e =
    (is_question e.call ≡ false)
    × (((e.reply ≡ reply_of h e.seat e.call) × (e.reply ≢ Nil) × (e.reply ≢ Field)) ⊎ (is_refused e ≡ true))

-- each entry of a history may come where it stands
unfoldable pub Legal : Heap → History → Type 0
Legal start [] = Unit {0}
Legal start (e ∷ later) = EntryLegal start e × Legal (after_entry start e) later

-- the entries of one seat
unfoldable pub of_seat : History → ℕ → History
of_seat history seat = filter (λ e. nat_eq e.seat seat) history

-- the entries that made an object: the object of the entry at place k is birth k + 1, since the board is birth 0
unfoldable pub births : History → History
births history = filter is_birth history

-- the numbers of the objects in order of birth; the board's is 0
unfoldable pub numbers : History → List ℕ
numbers history = 0 ∷ map (λ e. e.number) (births history)

-- the number of a birth
unfoldable pub number_of : History → ℕ → ℕ
number_of history birth = slice_index (numbers history) birth

-- the place in a list that begins with one element more: that of a later element, or else of the first one, where it
-- is the one that is sought
abbrev pub later_or : Option ℕ → Bool → Option ℕ
later_or (Some place) is_first = Some (suc place)
later_or None is_first = if is_first then Some 0 else None

-- the last place of a number in a list
unfoldable pub last_place : ℕ → List ℕ → Option ℕ
last_place n [] = None
last_place n (m ∷ ms) = later_or (last_place n ms) (nat_eq m n)

-- the last birth of a number, if it was given
unfoldable pub bearer : History → ℕ → Option ℕ
bearer history n = last_place n (numbers history)
