-- How the tick of a job leaves it: with a reply that fits what the job wanted, and that its walk takes.
use Rattle.std.proofs.Common.{◌≡◌, ℕ, zero, suc, ◌+◌, ◌<◌, Bool, true, false, List, inl, inr, refl, sym, ◌∙◌, ap, subst, arith, Option, Some, None}
use Rattle.std.specs.Prelude.{slice_get, nat_lt, ◌==◌, if◌then◌else◌}
use Rattle.hk_words.specs.declared.call.Call.{Call}
use Rattle.hk_words.specs.declared.call.Call.TheVariants as call
use Rattle.hk_words.specs.declared.call.Reply.{Reply}
use Rattle.hk_words.specs.declared.call.Reply.TheVariants as reply
use Rattle.hk_words.specs.Bounds.{places_of}
use Rattle.hk_words.specs.Geometry.{tasks}
use Rattle.hk_words.specs.Layout.{w0_words}
use Rattle.hk_model.specs.Replies.{said}
use Rattle.hk_core.specs.declared.flight.Flight.{Flight}
use Rattle.hk_core.specs.declared.outcome.Fault.{Fault}
use Rattle.hk_core.specs.declared.outcome.Outcome.TheVariants as outcome
use Rattle.hk_core.specs.declared.outcome.Step.TheVariants.{Going, Ended}
use Rattle.hk_core.specs.State.{State, IsSized, flight_of}
use Rattle.hk_core.specs.Step.{outcome_at, step_of, answer_by}
use Rattle.hk_core.specs.Begin.{refusal, first_flight, after_begin}
use Rattle.hk_core.proofs.Places.{begins_first}
use Rattle.hk_core.proofs.Turns.{has_flight}
use Rattle.hk_script.specs.declared.linking.Link.{Link}
use Rattle.hk_script.specs.declared.statement.Statement.{Statement}
use Rattle.hk_script.specs.declared.statement.Statement.TheVariants as statement
use Rattle.hk_script.specs.declared.statement.Test.TheVariants as test
use Rattle.hk_script.specs.declared.walk.Need.{Need}
use Rattle.hk_script.specs.declared.walk.Need.TheVariants as need
use Rattle.hk_script.specs.declared.walk.Walk.{Walk}
use Rattle.hk_script.specs.Walks.{moved, link_at, walk_after, IsAnswer}
use Rattle.hk_dispatch.specs.declared.operation.Left.TheVariants as left
use Rattle.hk_dispatch.specs.InStep.{SeatInStep, aside, under_way}
use Rattle.hk_dispatch.specs.Ticks.{reply_in, left_in, leaves_first, leaves_on, left_by, asked}
use Rattle.hk_dispatch.specs.TaskRuns.{LeavesBy, heard_of}
use Rattle.hk_dispatch.proofs.Courses.{by_test}

-- WHAT A WALK HEARS

-- a walk goes on as well from the reply that there was no room as from none
module _ (l : Link) (w : Walk) where
  same_moved : (o : Option Statement) → moved l w reply.Unit o ≡ moved l w reply.Full o
  same_moved None = refl
  same_moved (Some (statement.Work n)) = refl
  same_moved (Some (statement.Set v n)) = refl
  same_moved (Some (statement.Copy v u)) = refl
  same_moved (Some (statement.Add v u)) = refl
  same_moved (Some (statement.Sub v u)) = refl
  same_moved (Some (statement.Job v)) = refl
  same_moved (Some (statement.Out v)) = refl
  same_moved (Some (statement.Get v r f)) = refl
  same_moved (Some (statement.Put r f v)) = refl
  same_moved (Some (statement.Load d r f)) = refl
  same_moved (Some (statement.Store r f t)) = refl
  same_moved (Some (statement.Move d r)) = refl
  same_moved (Some (statement.Clear d)) = refl
  same_moved (Some (statement.New d shape)) = refl
  same_moved (Some (statement.If (test.Less a b))) = refl
  same_moved (Some (statement.If (test.Equal a b))) = refl
  same_moved (Some (statement.If (test.Null r))) = refl
  same_moved (Some (statement.If (test.Same a b))) = refl
  same_moved (Some statement.Else) = refl
  same_moved (Some (statement.Repeat n)) = refl
  same_moved (Some statement.End) = refl

pub heard_walk : (s : List Statement) (w : Walk) (r : Reply) → walk_after s w (heard_of r) ≡ walk_after s w r
unfolding walk_after
heard_walk s w reply.Full = same_moved (link_at s w.place) w (slice_get s w.place)
heard_walk s w reply.Unit = refl
heard_walk s w (reply.Num n) = refl
heard_walk s w reply.Yes = refl
heard_walk s w reply.No = refl
heard_walk s w reply.Nil = refl
heard_walk s w reply.Field = refl

-- HOW A TICK LEAVES A JOB

answered : (b : Bool) → IsAnswer (said b)
answered true = tt
answered false = tt

-- the end of a call
ended_by : (x : Flight) (c : Call) → LeavesBy (need.Heap c) (left.Passes (reply_in (outcome_at x c)))
ended_by x (call.Get reg field) = (x.item, refl)
ended_by x (call.New dest shape) = by_full x.full where
  by_full : (b : Bool) → LeavesBy (need.Heap (call.New dest shape)) (left.Passes (reply_in (if b then outcome.Full (w0_words x.word) else outcome.Done reply.Unit)))
  by_full true = inr refl
  by_full false = inl refl
ended_by x (call.Put reg field value) = refl
ended_by x (call.Load dest reg field) = refl
ended_by x (call.Store reg field from) = refl
ended_by x (call.Move dest from) = refl
ended_by x (call.Clear dest) = refl
ended_by x (call.Same a b) = refl
ended_by x (call.IsNull reg) = refl

-- a step of one
stepped_by : (x : Flight) (c : Call) → x.call ≡ c → LeavesBy (need.Heap c) (left_in (step_of x))
unfolding step_of
stepped_by x c is = by_last (x.place == places_of x.call) where
  by_last : (b : Bool) → LeavesBy (need.Heap c) (left_in (if b then Ended (outcome_at x x.call) else Going))
  by_last true = subst (λ (d : Call). LeavesBy (need.Heap c) (left.Passes (reply_in (outcome_at x d)))) (sym is) (ended_by x c)
  by_last false = tt

module _ (core : State) (seat : ℕ) (sized : IsSized core) (below : seat < tasks core.geometry) where
  first_by : (c : Call) (o : Option Fault) → refusal core seat c ≡ o → LeavesBy (need.Heap c) (leaves_first core seat c o)
  unfolding first_flight answer_by
  first_by c (Some fault) e = tt
  first_by c None e =
      let start = begins_first core seat (has_flight core seat sized below) c e in
      stepped_by (flight_of (after_begin core seat c).flights seat) c (ap (λ (x : Flight). x.call) start ∙ is_first)
    where
      is_first : (first_flight core seat c).call ≡ c
      is_first = refl

  operation_by : (c : Call) (spent : ℕ) → SeatInStep (flight_of core.flights seat) (Some (need.Heap c)) spent → LeavesBy (need.Heap c) (leaves_on core seat c spent)
  unfolding answer_by
  operation_by c zero s = first_by c (refusal core seat c) refl
  operation_by c (suc spent) (aside idle (inl w)) = absurd (cc)
  operation_by c (suc spent) (aside idle (inr w)) = absurd (omega (arith, w))
  operation_by c (suc spent) (under_way d e is at some within) =
      let same : d ≡ c = let k : ◌≡◌ {A = Option Need} (Some (need.Heap c)) (Some (need.Heap d)) = e in cc in
      stepped_by (flight_of core.flights seat) c (is ∙ same)

  -- a tick of what a job wants leaves it with a reply that fits that
  pub leaves_by : (n : Need) (spent : ℕ) → SeatInStep (flight_of core.flights seat) (Some n) spent → LeavesBy n (left_by core seat spent (Some n))
  leaves_by (need.Heap c) spent s = operation_by c spent s
  leaves_by (need.Ask c) spent s = answered (asked core seat c)
  leaves_by (need.Work n) spent s = by_test (LeavesBy (need.Work n)) (nat_lt (spent + 1) n) left.Stays (left.Passes reply.Unit) (λ e. tt) (λ e. refl)
  leaves_by need.Local spent s = refl
  leaves_by (need.Out value) spent s = refl
