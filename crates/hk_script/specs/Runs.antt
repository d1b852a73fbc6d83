-- What a walk takes over the replies that it has.
use Rattle.std.specs.Prelude.{ℕ, ◌+◌, List, [], ◌∷◌, Option, Some, None, IsSomeAnd}
use Rattle.hk_words.specs.Bounds.{places_of}
use Rattle.hk_words.specs.Shape.{size}
use Rattle.hk_words.specs.declared.call.Call.{Call}
use Rattle.hk_words.specs.declared.call.Call.TheVariants as call
use Rattle.hk_words.specs.declared.call.Reply.{Reply}
use Rattle.hk_script.specs.declared.statement.Statement.{Statement}
use Rattle.hk_script.specs.declared.walk.Need.{Need}
use Rattle.hk_script.specs.declared.walk.Need.TheVariants as need
use Rattle.hk_script.specs.declared.walk.Walk.{Walk}
use Rattle.hk_script.specs.Walks.{need_of, walk_after, Answers}

-- the ticks of a need: a call on the heap takes those of its places, and a question one
abbrev pub need_ticks : Need → ℕ
need_ticks (need.Work n) = n
need_ticks need.Local = 1
need_ticks (need.Out n) = 1
need_ticks (need.Heap c) = places_of c
need_ticks (need.Ask c) = 1

-- the words that a call allocates
abbrev pub call_words : Call → ℕ
call_words (call.New dest shape) = size shape
call_words c = 0

-- the words that a need allocates
abbrev pub need_words : Need → ℕ
need_words (need.Heap c) = call_words c
need_words n = 0

-- what a need takes, nothing where there is none
abbrev pub taken_by : (Need → ℕ) → Option Need → ℕ
taken_by amount None = 0
taken_by amount (Some n) = amount n

-- replies that fit the needs of a walk, one after another
abbrev pub AreReplies : List Statement → Walk → List Reply → Type 0
AreReplies s w [] = Unit {0}
AreReplies s w (r ∷ rs) = IsSomeAnd (need_of s w) (λ n. Answers n r) × AreReplies s (walk_after s w r) rs

-- what a walk takes over these replies, where each need takes its amount
abbrev pub taken : (Need → ℕ) → List Statement → Walk → List Reply → ℕ
taken amount s w [] = 0
taken amount s w (r ∷ rs) = taken_by amount (need_of s w) + taken amount s (walk_after s w r) rs
