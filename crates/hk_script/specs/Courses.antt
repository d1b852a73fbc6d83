-- What a job does that goes through a tree of blocks, and how a walk of a script follows it.
use Rattle.std.specs.Prelude.{◌≡◌, ℕ, zero, suc, if◌then◌else◌, List, Option, Some, None}
use Rattle.hk_words.specs.declared.call.Reply.{Reply}
use Rattle.hk_words.specs.declared.call.Reply.TheVariants as reply
use Rattle.hk_script.specs.declared.statement.Statement.{Statement}
use Rattle.hk_script.specs.declared.walk.Need.{Need}
use Rattle.hk_script.specs.declared.walk.Need.TheVariants as need
use Rattle.hk_script.specs.declared.walk.Walk.{Walk}
use Rattle.hk_script.specs.Trees.{Tree, Nothing, Does, When, Chooses, Repeats}
use Rattle.hk_script.specs.Walks.{started, need_in, need_of, need_of_test, holds, after_set, walk_after}

-- what a job does: it is done, with these variables, or it wants something, and then does what the reply says
pub data Course : Type 0 where
  Done : (variables : List ℕ) → Course
  Wants : Need → (Reply → Course) → Course

-- a course, and then the one that begins with the variables that it leaves
abbrev pub followed_by : Course → (List ℕ → Course) → Course
followed_by (Done variables) next = next variables
followed_by (Wants n go_on) next = Wants n (λ r. followed_by (go_on r) next)

-- so many turns of a block, each behind a test, and a last test
abbrev pub turns_of : ℕ → (block : List ℕ → Course) → (variables : List ℕ) → Course
turns_of zero block variables = Wants need.Local (λ r. Done variables)
turns_of (suc n) block variables = Wants need.Local (λ r. followed_by (block variables) (turns_of n block))

-- a statement that wants something goes on by the reply, and one that wants nothing goes on
abbrev pub wanting : Option Need → (Reply → Course) → Course
wanting (Some n) go_on = Wants n go_on
wanting None go_on = go_on reply.Unit

-- a job with these variables
abbrev pub with : (job : ℕ) → (variables : List ℕ) → Walk
with job variables = record (started job) { variables = variables }

-- what a job does that has these variables and goes through a tree: a statement wants what it wants and sets what it sets,
-- an `if` does the part that its test picks, and a `repeat` its block so many times
abbrev pub does : (job : ℕ) → Tree → (variables : List ℕ) → Course
does job Nothing variables = Done variables
does job (Does s rest) variables = wanting (need_in (with job variables) s) (λ r. does job rest (after_set (with job variables) r s).variables)
does job (When t part rest) variables =
    Wants (need_of_test t) (λ r. followed_by (if holds t (with job variables) r then does job part variables else Done variables) (does job rest))
does job (Chooses t part other rest) variables =
    Wants (need_of_test t) (λ r. followed_by (if holds t (with job variables) r then does job part variables else does job other variables) (does job rest))
does job (Repeats n block rest) variables = followed_by (turns_of n (does job block) variables) (does job rest)

-- a walk of a script follows a course: it wants what the course wants, and goes on as the course does, whatever the reply;
-- where the course is done, the walk wants nothing more, and its variables are the course's
abbrev pub Follows : List Statement → Walk → Course → Type 0
Follows s w (Done variables) = (need_of s w ≡ None) × (w.variables ≡ variables)
Follows s w (Wants n go_on) = (need_of s w ≡ Some n) × ((r : Reply) → Follows s (walk_after s w r) (go_on r))
