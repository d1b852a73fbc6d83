-- The greatest sum over the ways through a script.
use Rattle.std.specs.Prelude.{ℕ, ◌+◌, ◌*◌, ◌^◌, max, List, [], ◌∷◌, Option, Some, None, nat_le, if◌then◌else◌}
use Rattle.hk_words.specs.Bounds.{places_of}
use Rattle.hk_words.specs.Shape.{size}
use Rattle.hk_words.specs.declared.call.Call.TheVariants as call
use Rattle.hk_script.specs.declared.costs.Measure.{Measure}
use Rattle.hk_script.specs.declared.costs.Measure.TheVariants as measure
use Rattle.hk_script.specs.declared.beyond.Beyond.{Beyond}
use Rattle.hk_script.specs.declared.statement.Statement.{Statement}
use Rattle.hk_script.specs.declared.statement.Statement.TheVariants as statement

-- the ticks of a statement: a call on the heap takes those of its places, whichever value a put writes, and a `repeat`
-- those of one test
abbrev pub ticks_of : Statement → ℕ
ticks_of (statement.Work n) = n
ticks_of (statement.Set v n) = 1
ticks_of (statement.Copy v u) = 1
ticks_of (statement.Add v u) = 1
ticks_of (statement.Sub v u) = 1
ticks_of (statement.Job v) = 1
ticks_of (statement.Out v) = 1
ticks_of (statement.Get v reg field) = places_of (call.Get reg field)
ticks_of (statement.Put reg field v) = places_of (call.Put reg field 0)
ticks_of (statement.Load dest reg field) = places_of (call.Load dest reg field)
ticks_of (statement.Store reg field from) = places_of (call.Store reg field from)
ticks_of (statement.Move dest from) = places_of (call.Move dest from)
ticks_of (statement.Clear dest) = places_of (call.Clear dest)
ticks_of (statement.New dest shape) = places_of (call.New dest shape)
ticks_of (statement.If t) = 1
ticks_of statement.Else = 0
ticks_of (statement.Repeat n) = 1
ticks_of statement.End = 0

-- the words that a statement allocates
abbrev pub words_of : Statement → ℕ
words_of (statement.New dest shape) = size shape
words_of s = 0

-- the sums from a place on: to the end of the part that it stands in, and for each block around it, the innermost
-- first, of the block's `else` part, if that is still to come, and of what follows the block's end
pub record Ahead : Type 0 where
  pub here : ℕ
  pub blocks : List Beyond

abbrev pub beyond : ℕ → ℕ → Beyond
beyond e f = record { other = e; after = f }

-- what lies beyond the innermost block
abbrev pub nearest : List Beyond → Beyond
nearest [] = beyond 0 0
nearest (b ∷ outer) = b

-- the blocks around the innermost one
abbrev pub outer_of : List Beyond → List Beyond
outer_of [] = []
outer_of (b ∷ outer) = outer

-- one statement more in front, where w is what it takes: an `if` takes its test, the greater of its parts and what
-- follows; a `repeat` takes a test and its block n times, a last test, and what follows
abbrev pub in_front : ℕ → Statement → Ahead → Ahead
in_front w (statement.If t) a = record { here = w + max a.here (nearest a.blocks).other + (nearest a.blocks).after; blocks = outer_of a.blocks }
in_front w (statement.Repeat n) a = record { here = n * (w + a.here) + w + (nearest a.blocks).after; blocks = outer_of a.blocks }
in_front w statement.Else a = record { here = 0; blocks = beyond a.here (nearest a.blocks).after ∷ outer_of a.blocks }
in_front w statement.End a = record { here = 0; blocks = beyond 0 a.here ∷ a.blocks }
in_front w s a = record { here = w + a.here; blocks = a.blocks }

-- the sums from a place on, where weight is what each statement takes
abbrev pub ahead : (Statement → ℕ) → List Statement → Ahead
ahead weight [] = record { here = 0; blocks = [] }
ahead weight (s ∷ rest) = in_front (weight s) s (ahead weight rest)

-- the number, where it is at most 16,777,216
abbrev pub told : ℕ → Option ℕ
told n = if nat_le n (2 ^ 24) then Some n else None

-- what is summed
abbrev pub weight_of : Measure → Statement → ℕ
weight_of measure.Ticks s = ticks_of s
weight_of measure.Words s = words_of s

-- the greatest number of ticks of a way through a script
unfoldable pub greatest_ticks : List Statement → ℕ
greatest_ticks s = (ahead ticks_of s).here

-- the greatest number of words that a way through a script allocates
unfoldable pub greatest_words : List Statement → ℕ
greatest_words s = (ahead words_of s).here

-- the greatest size of a new object
abbrev pub largest_of : List Statement → ℕ
largest_of [] = 0
largest_of (s ∷ rest) = max (words_of s) (largest_of rest)
