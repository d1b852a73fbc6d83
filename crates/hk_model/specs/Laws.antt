-- Laws of the heap that never collects and of its histories.
use Rattle.std.specs.Prelude.{◌≡◌, ◌≢◌, ◌↔◌, ℕ, ◌+◌, ◌<◌, ◌≤◌, List, All, slice_index, sum_by, [], ◌∷◌, ◌++◌, length, true, false, Some, None}
use Rattle.hk_words.specs.declared.shape.Shape.{Shape}
use Rattle.hk_words.specs.Shape.{size}
use Rattle.hk_words.specs.declared.call.Call.{Call}
use Rattle.hk_words.specs.declared.call.Call.TheVariants.{Put, Load, Store, Move, Clear, New}
use Rattle.hk_words.specs.declared.call.Reply.TheVariants.{Full}
use Rattle.hk_words.specs.Calls.{RegistersFit}
use Rattle.hk_model.specs.Heap.{Heap, IsHeap, HoldsBoard, born, register, refs, nums, link, value, opening}
use Rattle.hk_model.specs.Replies.{reply_of, heap_after}
use Rattle.hk_model.specs.History.{Entry, History, after_entry, after, EntryLegal, Legal, of_seat, is_birth, numbers, number_of, bearer}
use Rattle.hk_model.specs.Reach.{Reached, words_of_birth, Live}
use Rattle.hk_model.specs.Lasting.{Lasts, MakesAtMost}
use Rattle.hk_model.specs.View.{upd, upd2, view_of}

-- the heap after a history with one more entry is the heap after that entry
abbrev pub AfterGrows : Type 0
AfterGrows = (start : Heap) (history : History) (e : Entry) → after start (history ++ e ∷ []) ≡ after_entry (after start history) e

-- a history with one more entry is legal exactly where it was legal before and the entry may come next
abbrev pub LegalGrows : Type 0
LegalGrows = (start : Heap) (history : History) (e : Entry) → Legal start (history ++ e ∷ []) ↔ (Legal start history × EntryLegal (after start history) e)

-- the heap at the start is one, and stays one over every call and every history
abbrev pub OpeningIsHeap : Type 0
OpeningIsHeap = (tasks count : ℕ) (board : Shape) → 0 < count → IsHeap tasks count (opening tasks count board)

abbrev pub CallsKeepHeap : Type 0
CallsKeepHeap = (tasks count : ℕ) (h : Heap) (seat : ℕ) (call : Call) → IsHeap tasks count h → IsHeap tasks count (heap_after h seat call)

abbrev pub HistoriesKeepHeap : Type 0
HistoriesKeepHeap = (tasks count : ℕ) (start : Heap) (history : History) → IsHeap tasks count start → IsHeap tasks count (after start history)

-- register 0 of each task holds the board at the start, and a call whose registers fit leaves it there
abbrev pub OpeningHoldsBoard : Type 0
OpeningHoldsBoard = (tasks count : ℕ) (board : Shape) → HoldsBoard tasks (opening tasks count board)

abbrev pub CallsKeepBoard : Type 0
CallsKeepBoard = (tasks count : ℕ) (h : Heap) (seat : ℕ) (call : Call) → RegistersFit count call → HoldsBoard tasks h → HoldsBoard tasks (heap_after h seat call)

-- no call finds the heap full
abbrev pub NeverFull : Type 0
NeverFull = (h : Heap) (seat : ℕ) (call : Call) → reply_of h seat call ≢ Full

-- so many words of a heap are live, and no other number
abbrev pub SomeLive : Type 0
SomeLive = (tasks count : ℕ) (h : Heap) → IsHeap tasks count h → (words : ℕ) × Live tasks count h words

abbrev pub OneLive : Type 0
OneLive = (tasks count : ℕ) (h : Heap) (some other : ℕ) → Live tasks count h some → Live tasks count h other → some ≡ other

-- births that can be reached, each counted once, have no more words than are live
abbrev pub ReachedWithinLive : Type 0
ReachedWithinLive = (tasks count : ℕ) (h : Heap) (words : ℕ) (births : List ℕ) → Live tasks count h words
    → ((i j : ℕ) → i < j → j < length births → slice_index births i ≢ slice_index births j) → All (Reached tasks count h) births
    → sum_by (words_of_birth h) births ≤ words

-- what lasts as a history grows: a beginning of a legal history is legal
abbrev pub LegalBegins : Type 0
LegalBegins = (start : Heap) (first later : History) → Legal start (first ++ later) → Legal start first

-- births last, with their shapes
abbrev pub ShapesLast : Type 0
ShapesLast = (start : Heap) (history later : History) → Lasts (after start history) (after start (history ++ later))

-- where the board, and each object that a history makes, has at most so many words, so has each object after it
abbrev pub ObjectsStaySmall : Type 0
ObjectsStaySmall = (tasks count : ℕ) (board : Shape) (history : History) (most : ℕ) → size board ≤ most → All (MakesAtMost most) history
    → (birth : ℕ) → words_of_birth (after (opening tasks count board) history) birth ≤ most

-- an entry of another seat leaves the registers of a seat as they are, and so does a history of entries of others
abbrev pub OthersKeepRegisters : Type 0
OthersKeepRegisters = (h : Heap) (e : Entry) (seat reg : ℕ) → e.seat ≢ seat → register (after_entry h e) seat reg ≡ register h seat reg

abbrev pub OthersLeaveRegisters : Type 0
OthersLeaveRegisters = (h : Heap) (others : History) (seat reg : ℕ) → of_seat others seat ≡ [] → register (after h others) seat reg ≡ register h seat reg

-- after a legal history that began with the board alone there are as many numbers as objects
abbrev pub AsManyNumbers : Type 0
AsManyNumbers = (start : Heap) (history : History) → born start ≡ 1 → Legal start history → length (numbers history) ≡ born (after start history)

-- a birth has a number, and no later birth has it
abbrev pub IsLastBirth : History → (number birth : ℕ) → Type 0
IsLastBirth history number birth =
    (birth < length (numbers history)) × (number_of history birth ≡ number) × ((later : ℕ) → birth < later → later < length (numbers history) → number_of history later ≢ number)

-- the bearer of a number is its last birth, and a number without a bearer has no birth
abbrev pub BearerIsLast : Type 0
BearerIsLast = (history : History) (number birth : ℕ) → (bearer history number ≡ Some birth) ↔ IsLastBirth history number birth

abbrev pub NoBearer : Type 0
NoBearer = (history : History) (number : ℕ) → (bearer history number ≡ None) ↔ ((birth : ℕ) → birth < length (numbers history) → number_of history birth ≢ number)

-- what a birth at the end of a history changes: the next birth has the number, and is its bearer
abbrev pub BirthGivesNumber : Type 0
BirthGivesNumber = (history : History) (e : Entry) → is_birth e ≡ true →
    (number_of (history ++ e ∷ []) ≡ upd (number_of history) (length (numbers history)) e.number)
    × (bearer (history ++ e ∷ []) ≡ upd (bearer history) e.number (Some (length (numbers history))))

-- any other entry gives no number
abbrev pub OthersGiveNone : Type 0
OthersGiveNone = (history : History) (e : Entry) → is_birth e ≡ false →
    (number_of (history ++ e ∷ []) ≡ number_of history) × (bearer (history ++ e ∷ []) ≡ bearer history)

-- what each call that finds its object and field changes in the view of a heap: one function at one place
abbrev pub PutEffect : Type 0
PutEffect = (tasks count : ℕ) (h : Heap) (seat reg field number birth : ℕ) → IsHeap tasks count h → register h seat reg ≡ Some birth → field < nums h birth
    → view_of (heap_after h seat (Put reg field number)) ≡ record (view_of h) { value = upd2 (value h) birth field number }

abbrev pub StoreEffect : Type 0
StoreEffect = (tasks count : ℕ) (h : Heap) (seat reg field from birth : ℕ) → IsHeap tasks count h → register h seat reg ≡ Some birth → field < refs h birth
    → view_of (heap_after h seat (Store reg field from)) ≡ record (view_of h) { link = upd2 (link h) birth field (register h seat from) }

abbrev pub LoadEffect : Type 0
LoadEffect = (tasks count : ℕ) (h : Heap) (seat dest reg field birth : ℕ) → IsHeap tasks count h → seat < tasks → dest < count → register h seat reg ≡ Some birth → field < refs h birth
    → view_of (heap_after h seat (Load dest reg field)) ≡ record (view_of h) { register = upd2 (register h) seat dest (link h birth field) }

abbrev pub MoveEffect : Type 0
MoveEffect = (tasks count : ℕ) (h : Heap) (seat dest from : ℕ) → IsHeap tasks count h → seat < tasks → dest < count
    → view_of (heap_after h seat (Move dest from)) ≡ record (view_of h) { register = upd2 (register h) seat dest (register h seat from) }

abbrev pub ClearEffect : Type 0
ClearEffect = (tasks count : ℕ) (h : Heap) (seat dest : ℕ) → IsHeap tasks count h → seat < tasks → dest < count
    → view_of (heap_after h seat (Clear dest)) ≡ record (view_of h) { register = upd2 (register h) seat dest None }

-- a New makes the next birth, with the fields of its shape, and lets the register refer to it; its cells are read as
-- they were read before it was born, null and 0
abbrev pub NewEffect : Type 0
NewEffect = (tasks count : ℕ) (h : Heap) (seat dest : ℕ) (shape : Shape) → IsHeap tasks count h → seat < tasks → dest < count
    → view_of (heap_after h seat (New dest shape)) ≡ record (view_of h) {
      born = born h + 1;
      refs = upd (refs h) (born h) shape.refs;
      nums = upd (nums h) (born h) shape.nums;
      register = upd2 (register h) seat dest (Some (born h));
    }
