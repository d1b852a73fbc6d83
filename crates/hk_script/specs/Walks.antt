-- The walk of a script: what the next statement wants, and where a job stands after it.
use Rattle.std.specs.Prelude.{◌≡◌, ℕ, ◌+◌, ◌-◌, ◌%◌, ◌^◌, ◌<◌, ◌≤◌, Bool, true, false, nat_lt, ◌==◌, if◌then◌else◌, List, length, replicate, slice_get, slice_index, slice_index_or, slice_set, Option, Some, None}
use Rattle.hk_words.specs.declared.call.Call.{Call}
use Rattle.hk_words.specs.declared.call.Call.TheVariants as call
use Rattle.hk_words.specs.declared.call.Reply.{Reply}
use Rattle.hk_words.specs.declared.call.Reply.TheVariants as reply
use Rattle.hk_script.specs.declared.linking.Link.{Link}
use Rattle.hk_script.specs.declared.statement.Statement.{Statement}
use Rattle.hk_script.specs.declared.statement.Statement.TheVariants as statement
use Rattle.hk_script.specs.declared.statement.Test.{Test}
use Rattle.hk_script.specs.declared.statement.Test.TheVariants as test
use Rattle.hk_script.specs.declared.walk.Need.{Need}
use Rattle.hk_script.specs.declared.walk.Need.TheVariants as need
use Rattle.hk_script.specs.declared.walk.Walk.{Walk}
use Rattle.hk_script.specs.Links.{links_of}

-- the state in which a job begins
abbrev pub started : ℕ → Walk
started job = record { job = job; variables = replicate 8 0; place = 0; turns = replicate 16 0 }

-- the value of a variable
abbrev pub value : ℕ → Walk → ℕ
value v w = slice_index w.variables v

-- what a test wants
abbrev pub need_of_test : Test → Need
need_of_test (test.Less left right) = need.Local
need_of_test (test.Equal left right) = need.Local
need_of_test (test.Null reg) = need.Ask (call.IsNull reg)
need_of_test (test.Same left right) = need.Ask (call.Same left right)

-- what a statement wants; an `else` and an `end` want nothing
abbrev pub need_in : Walk → Statement → Option Need
need_in w (statement.Work n) = Some (need.Work n)
need_in w (statement.Set v n) = Some need.Local
need_in w (statement.Copy v u) = Some need.Local
need_in w (statement.Add v u) = Some need.Local
need_in w (statement.Sub v u) = Some need.Local
need_in w (statement.Job v) = Some need.Local
need_in w (statement.Out v) = Some (need.Out (value v w))
need_in w (statement.Get v reg field) = Some (need.Heap (call.Get reg field))
need_in w (statement.Put reg field v) = Some (need.Heap (call.Put reg field (value v w)))
need_in w (statement.Load dest reg field) = Some (need.Heap (call.Load dest reg field))
need_in w (statement.Store reg field from) = Some (need.Heap (call.Store reg field from))
need_in w (statement.Move dest from) = Some (need.Heap (call.Move dest from))
need_in w (statement.Clear dest) = Some (need.Heap (call.Clear dest))
need_in w (statement.New dest shape) = Some (need.Heap (call.New dest shape))
need_in w (statement.If t) = Some (need_of_test t)
need_in w statement.Else = None
need_in w (statement.Repeat n) = Some need.Local
need_in w statement.End = None

abbrev pub need_at : Walk → Option Statement → Option Need
need_at w None = None
need_at w (Some s) = need_in w s

-- what the next statement wants, where there is one
unfoldable pub need_of : List Statement → Walk → Option Need
need_of s w = need_at w (slice_get s w.place)

-- the link of the statement at a place
abbrev pub link_at : List Statement → ℕ → Link
link_at s place = slice_index_or (links_of s) place (record { on = 0; past = 0; level = 0 })

-- a variable is set, to a number modulo 2 ^ 64
abbrev pub assigned : ℕ → ℕ → Walk → Walk
assigned v n w = record w { variables = slice_set w.variables v n }

-- the walk goes on at a place
abbrev pub at : ℕ → Walk → Walk
at place w = record w { place = place }

-- the number of a reply
abbrev pub number_of_reply : Reply → ℕ
number_of_reply (reply.Num n) = n
number_of_reply reply.Unit = 0
number_of_reply reply.Yes = 0
number_of_reply reply.No = 0
number_of_reply reply.Nil = 0
number_of_reply reply.Field = 0
number_of_reply reply.Full = 0

-- a reply is yes
abbrev pub is_yes : Reply → Bool
is_yes reply.Yes = true
is_yes (reply.Num n) = false
is_yes reply.Unit = false
is_yes reply.No = false
is_yes reply.Nil = false
is_yes reply.Field = false
is_yes reply.Full = false

-- a test holds, by the variables or by the heap's reply
abbrev pub holds : Test → Walk → Reply → Bool
holds (test.Less left right) w r = nat_lt (value left w) (value right w)
holds (test.Equal left right) w r = value left w == value right w
holds (test.Null reg) w r = is_yes r
holds (test.Same left right) w r = is_yes r

-- a test of a `repeat`: another turn begins, or the repeat is left, and none of its turns is begun
abbrev pub turned : Link → ℕ → Walk → Walk
turned l count w =
    if nat_lt (slice_index w.turns l.level) count then record w { place = l.on; turns = slice_set w.turns l.level (slice_index w.turns l.level + 1) }
    else record w { place = l.past; turns = slice_set w.turns l.level 0 }

-- the variables after a statement
abbrev pub after_set : Walk → Reply → Statement → Walk
after_set w r (statement.Set v n) = assigned v n w
after_set w r (statement.Copy v u) = assigned v (value u w) w
after_set w r (statement.Add v u) = assigned v ((value v w + value u w) % 2 ^ 64) w
after_set w r (statement.Sub v u) = assigned v ((value v w + (2 ^ 64 - value u w)) % 2 ^ 64) w
after_set w r (statement.Job v) = assigned v w.job w
after_set w r (statement.Get v reg field) = assigned v (number_of_reply r) w
after_set w r s = w

-- the walk after a statement: a test of an `if` or of a `repeat` says where it goes on, and every other statement
-- leads to what follows
abbrev pub stepped : Link → Walk → Reply → Statement → Walk
stepped l w r (statement.If t) = if holds t w r then at l.on w else at l.past w
stepped l w r (statement.Repeat count) = turned l count w
stepped l w r statement.Else = w
stepped l w r statement.End = w
stepped l w r s = at l.on (after_set w r s)

abbrev pub moved : Link → Walk → Reply → Option Statement → Walk
moved l w r None = w
moved l w r (Some s) = stepped l w r s

-- the walk after its next statement, which had this reply
unfoldable pub walk_after : List Statement → Walk → Reply → Walk
walk_after s w r = moved (link_at s w.place) w r (slice_get s w.place)

-- a walk never stands at an `else` or an `end`
abbrev pub IsStop : Option Statement → Type 0
IsStop None = Unit {0}
IsStop (Some statement.Else) = ⊥
IsStop (Some statement.End) = ⊥
IsStop (Some s) = Unit {0}

-- a walk fits a script: it stands at a statement that takes a tick, or at the end
pub record Fits (s : List Statement) (w : Walk) : Type 0 where
  pub within : w.place ≤ length s
  pub stop : IsStop (slice_get s w.place)

-- a reply fits a need: a number to a get, yes or no to a question, and else Unit
abbrev pub AnswersCall : Call → Reply → Type 0
AnswersCall (call.Get reg field) r = (n : ℕ) × (n < 2 ^ 64) × (r ≡ reply.Num n)
AnswersCall c r = r ≡ reply.Unit

abbrev pub IsAnswer : Reply → Type 0
IsAnswer reply.Yes = Unit {0}
IsAnswer reply.No = Unit {0}
IsAnswer r = ⊥

abbrev pub Answers : Need → Reply → Type 0
Answers (need.Work n) r = r ≡ reply.Unit
Answers need.Local r = r ≡ reply.Unit
Answers (need.Out n) r = r ≡ reply.Unit
Answers (need.Heap c) r = AnswersCall c r
Answers (need.Ask c) r = IsAnswer r
