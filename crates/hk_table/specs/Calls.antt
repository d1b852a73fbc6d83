-- What a call of the shared heap does to the pass that makes it.
use Rattle.std.specs.Prelude.{◌≡◌, ℕ, ◌+◌, ◌≤◌, List, [], ◌∷◌, ◌++◌, replicate, None}
use Rattle.hk_words.specs.declared.geometry.Geometry.{Geometry}
use Rattle.hk_words.specs.declared.call.Call.{Call}
use Rattle.hk_model.specs.Heap.{opening_of}
use Rattle.hk_model.specs.History.{Entry, History, Legal, EntryLegal, after}
use Rattle.hk_core.specs.declared.outcome.Outcome.{Outcome}
use Rattle.hk_core.specs.declared.flight.Flight.{Flight}
use Rattle.hk_core.specs.Step.{outcome_at}
use Rattle.hk_words.specs.Bounds.{places_of}
use Rattle.hk_core.specs.Replied.{outcome_of}
use Rattle.hk_core.specs.Run.{Action, begin, step, run_from_opening}
use Rattle.hk_table.specs.Actions.{Begins, acts_of}
use Rattle.hk_table.specs.Knows.{PassView}
use Rattle.hk_table.specs.Rule.{PassFits}
use Rattle.hk_table.specs.Deeds.{Stands, Trail, Accepts, refused_by}

-- a log is longer by a begin and so many steps of the seat, among the actions of others
pub record Gains (g : Geometry) (p : PassView) (call : Call) (log : List Action) (steps : ℕ) : Type 0 where
  pub between : List Action
  pub later : List Action
  pub is : log ≡ (p.log ++ between) ++ begin p.seat call ∷ later
  pub others : acts_of p.seat between ≡ []
  pub own : acts_of p.seat later ≡ replicate steps (step p.seat)
  -- the begin is accepted
  pub accepted : Accepts (run_from_opening g (p.log ++ between)) p.seat call
  pub met : PassFits g (p.log ++ between) (run_from_opening g (p.log ++ between)) p

-- a call under way
pub record UnderWay (g : Geometry) (p : PassView) (call : Call) (q : PassView) (steps : ℕ) : Type 0 where
  pub stands : Stands g q
  pub seat : q.seat ≡ p.seat
  pub begun : q.begun ≡ p.begun + 1
  pub gains : Gains g p call q.log steps
  pub more : History
  pub trail : Trail p q more
  pub place : q.flight.place ≡ steps + 1
  pub call_is : q.flight.call ≡ call
  pub in_row : steps + 1 ≤ places_of call

-- a call that has ended: its steps are those of its row, each once; the pass has one entry more, with which what it has
-- seen now ends
pub record Called (g : Geometry) (p : PassView) (call : Call) (outcome : Outcome) (q : PassView) : Type 0 where
  pub stands : Stands g q
  pub seat : q.seat ≡ p.seat
  pub idle : q.flight.place ≡ 0
  pub begun : q.begun ≡ p.begun + 1
  pub gains : Gains g p call q.log (places_of call)
  -- it was not refused
  pub accepted : refused_by p call ≡ None
  pub entry : Entry
  pub before : History
  pub entry_seat : entry.seat ≡ p.seat
  pub call_is : entry.call ≡ call
  pub says : outcome_of entry ≡ outcome
  -- it is one that the call can have
  pub shape : (x : Flight) × (outcome ≡ outcome_at x call)
  pub mine : q.mine ≡ p.mine ++ entry ∷ []
  pub seen : q.seen ≡ before ++ entry ∷ []
  pub saw : Begins before p.seen
  -- what it has seen is legal, so the entry says what the heap that never collects answers at that point
  pub legal : Legal (opening_of g) q.seen
  pub answers : EntryLegal (after (opening_of g) before) entry
