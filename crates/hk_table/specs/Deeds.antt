-- What one atomic step of a pass does: it may begin a call, it does the place of its flight, and the rests after it.
use Rattle.std.specs.Prelude.{◌≡◌, ◌⊎◌, ℕ, zero, suc, ◌+◌, ◌<◌, ◌≤◌, ◌==◌, Bool, true, false, not, ◌&&◌, nat_eq, List, [], ◌∷◌, ◌++◌, replicate, slice_index, is_none, option_map, unwrap_or, ⊤, Option, Some, None, if◌then◌else◌}
use Rattle.atomic_table.specs.Table.{Me}
use Rattle.hk_words.specs.declared.geometry.Geometry.{Geometry}
use Rattle.hk_words.specs.declared.call.Call.{Call}
use Rattle.hk_words.specs.Calls.{RegistersFit, entered}
use Rattle.hk_words.specs.Row.{register_at}
use Rattle.hk_words.specs.Bounds.{places_of}
use Rattle.hk_model.specs.History.{Entry, History, is_question}
use Rattle.hk_core.specs.declared.event.Event.{Event}
use Rattle.hk_core.specs.declared.event.Event.TheVariants.{Load, Write, Swap, Add, Sub, Max, Trade}
use Rattle.hk_core.specs.declared.flight.Flight.{Flight}
use Rattle.hk_core.specs.declared.outcome.Fault.{Fault}
use Rattle.hk_core.specs.Event.{learnt_from, word_of, word_after}
use Rattle.hk_core.specs.State.{flight_of, idle}
use Rattle.hk_core.specs.declared.outcome.Step.{Step}
use Rattle.hk_core.specs.Step.{event_of, took_of, step_of}
use Rattle.hk_core.specs.Begin.{refusal, refusal_by, flight_by, after_begin, copied}
use Rattle.hk_core.specs.Fits.{Fits, FindsNumber}
use Rattle.hk_core.specs.Run.{Action, Running, begin, step, act, run, run_from_opening}
use Rattle.hk_table.specs.Actions.{Begins, acts_of}
use Rattle.hk_table.specs.Knows.{PassView, Knows, pass, told, note, ended, keeper, spent}
use Rattle.hk_table.specs.Rule.{PassFits}
use Rattle.hk_table.specs.declared.view.View.{View}

-- RESTS

-- the call has a place left, and it is a rest
unfoldable pub is_rest : Geometry → Flight → Bool
is_rest g f = not (nat_eq f.place 0) && is_none (event_of g f)

-- the flight after the rests that follow, of which a row has fewer than ten
unfoldable pub settled : ℕ → Geometry → Flight → Flight
settled zero g f = f
settled (suc k) g f = if is_rest g f then settled k g (took_of g f 0) else f

unfoldable pub rests : ℕ → Geometry → Flight → List Action
rests zero g f = []
rests (suc k) g f = if is_rest g f then step f.seat ∷ rests k g (took_of g f 0) else []

-- what is answered in the end: by the last of the rests, if there are some
unfoldable pub answered : ℕ → Geometry → Flight → Step → Step
answered zero g f answer = answer
answered (suc k) g f answer = if is_rest g f then answered k g (took_of g f 0) (step_of f) else answer

-- the flights of the rests fit, and the one after them
unfoldable pub RestsFit : ℕ → Geometry → Flight → Type 0
RestsFit zero g f = ⊤
RestsFit (suc k) g f = (1 ≤ f.place → Fits g f) × (is_rest g f ≡ true → RestsFit k g (took_of g f 0))

abbrev pub most_rests : ℕ
most_rests = 10

-- DEEDS

-- what a step does: whether it begins the call, and the flight whose place it does
pub record Deed : Type 0 where
  pub begins : Bool
  pub flight : Flight

abbrev pub learnt_by : Option Event → ℕ → ℕ
learnt_by None found = 0
learnt_by (Some e) found = learnt_from e found

-- the flight after the place, where its event found a word
abbrev pub taken : Geometry → Deed → ℕ → Flight
taken g d found = took_of g d.flight (learnt_by (event_of g d.flight) found)

-- the actions that the step is
abbrev pub opens : Deed → List Action
opens d = if d.begins then begin d.flight.seat d.flight.call ∷ [] else []

abbrev pub deeds : Geometry → Deed → ℕ → List Action
deeds g d found = opens d ++ step d.flight.seat ∷ rests most_rests g (taken g d found)

-- a register after an event
abbrev pub register_after : Geometry → Option Event → (seat reg : ℕ) → ℕ → ℕ
register_after g None seat reg old = old
register_after g (Some e) seat reg old = if word_of e == register_at g seat reg then word_after e old else old

-- BEGINNING

abbrev pub entered_with : List ℕ → Call → ℕ
entered_with registers call = unwrap_or (option_map (slice_index registers) (entered call)) 0

abbrev pub copied_with : List ℕ → Call → ℕ
copied_with registers call = unwrap_or (option_map (slice_index registers) (copied call)) 0

abbrev pub entered_by : PassView → Call → ℕ
entered_by p call = entered_with p.registers call

abbrev pub copied_by : PassView → Call → ℕ
copied_by p call = copied_with p.registers call

-- why a call isn't begun, from the registers and the begun calls of a pass
unfoldable pub refused_with : List ℕ → ℕ → Call → Option Fault
refused_with registers begun call = refusal_by begun call (entered_with registers call)

-- the flight of a call that begins
unfoldable pub first_with : ℕ → List ℕ → Call → Flight
first_with seat registers call = flight_by seat call (entered_with registers call) (copied_with registers call)

abbrev pub refused_by : PassView → Call → Option Fault
refused_by p call = refused_with p.registers p.begun call

abbrev pub first_by : PassView → Call → Flight
first_by p call = first_with p.seat p.registers call

-- what a deed asks of the pass: that it may begin the call, or that the flight is its call in flight
pub record MayBegin (g : Geometry) (p : PassView) (f : Flight) : Type 0 where
  pub idle : p.flight.place ≡ 0
  pub question : is_question f.call ≡ false
  pub registers : RegistersFit g.registers f.call
  pub accepted : refused_by p f.call ≡ None
  pub first : f ≡ first_by p f.call

pub record InFlight (p : PassView) (f : Flight) : Type 0 where
  pub flight : f ≡ p.flight
  pub flying : 1 ≤ f.place

abbrev pub MayDo : Geometry → Deed → PassView → Type 0
MayDo g d p = (d.begins ≡ true → MayBegin g p d.flight) × (d.begins ≡ false → InFlight p d.flight)

-- WHAT A PASS KNOWS AFTERWARDS

-- a pass adds entries to its own: none, and it has seen nothing more; or some, and what it has seen now begins with all that
-- it had seen and ends with the last of them
pub data Trail (p q : PassView) : History → Type 0 where
  quiet : q.mine ≡ p.mine → q.seen ≡ p.seen → Trail p q []
  acted : (front : History) (e : Entry) (before : History) → q.mine ≡ p.mine ++ (front ++ e ∷ []) → q.seen ≡ before ++ e ∷ [] → Begins before p.seen
      → Trail p q (front ++ e ∷ [])

-- the pass stands in the run of its own log
abbrev pub Stands : Geometry → PassView → Type 0
Stands g q = PassFits g q.log (run_from_opening g q.log) q

-- a run at which a seat's begin is accepted
pub record Accepts (r : Running) (s : ℕ) (call : Call) : Type 0 where
  pub refused : refusal r.core s call ≡ None
  pub begun : act r (begin s call) ≡ record r { core = after_begin r.core s call }

-- Some steps of a seat, from its flight `first` in the run r on: the last of them is done at the flight `last`, which
-- answers so, and leaves the flight `next`
pub record LastStep (g : Geometry) (s : ℕ) (r : Running) (first next : Flight) (acts : List Action) (answer : Step) : Type 0 where
  pub count : ℕ
  pub are : acts ≡ replicate count (step s) ++ step s ∷ []
  pub last : Flight
  pub at : flight_of (run r (replicate count (step s))).core.flights s ≡ last
  pub place : last.place ≡ first.place + count
  pub call : last.call ≡ first.call
  pub answers : answer ≡ step_of last
  pub leads : ((last.place < places_of first.call) × (next.place ≡ last.place + 1) × (next.call ≡ first.call)) ⊎ ((last.place ≡ places_of first.call) × (next.place ≡ 0))

pub record Goes (g : Geometry) (d : Deed) (p : PassView) (found : ℕ) (q : PassView) : Type 0 where
  pub stands : Stands g q
  pub seat : q.seat ≡ p.seat
  -- the log is longer by actions of others and by those of the step
  pub between : List Action
  pub others : acts_of p.seat between ≡ []
  pub log : q.log ≡ (p.log ++ between) ++ deeds g d found
  pub met : PassFits g (p.log ++ between) (run_from_opening g (p.log ++ between)) p
  pub accepted : d.begins ≡ true → Accepts (run_from_opening g (p.log ++ between)) p.seat d.flight.call
  pub last : d.flight.place ≤ places_of d.flight.call
      → LastStep g p.seat (run (run_from_opening g (p.log ++ between)) (opens d)) d.flight q.flight (step d.flight.seat ∷ rests most_rests g (taken g d found))
      (answered most_rests g (taken g d found) (step_of d.flight))
  pub flight : q.flight ≡ settled most_rests g (taken g d found)
  pub begun : q.begun ≡ p.begun + (if d.begins then 1 else 0)
  pub registers : (reg : ℕ) → reg < g.registers
      → slice_index q.registers reg ≡ register_after g (event_of g d.flight) p.seat reg (slice_index p.registers reg)
  pub finds : FindsNumber d.flight d.flight.call (learnt_by (event_of g d.flight) found)
  pub fit : RestsFit most_rests g (taken g d found)
  pub used : is_rest g q.flight ≡ false
  pub more : History
  pub trail : Trail p q more

-- what the rule's views say of a pass, where they are a pass's
abbrev pub blank : PassView
blank = record { seat = 0; registers = []; flight = idle 0; begun = 0; log = []; seen = []; mine = [] }

abbrev pub the_pass : Knows → PassView
the_pass (pass g v) = v
the_pass (told g v h) = v
the_pass (note g h) = blank
the_pass (ended g h) = blank
the_pass (keeper g v) = blank
the_pass spent = blank

-- what a step tells of the seat, from what it knew
abbrev pub StepsFrom : Deed → Knows → ℕ → Knows → Type 0
StepsFrom d (pass g p) found after = (q : PassView) × (after ≡ pass g q) × Goes g d p found q
StepsFrom d (told g p h) found after = ⊥
StepsFrom d (note g h) found after = ⊥
StepsFrom d (ended g h) found after = ⊥
StepsFrom d (keeper g k) found after = ⊥
StepsFrom d spent found after = ⊥

abbrev pub Stepped : Deed → Me (Unit {0}) View → ℕ → Me (Unit {0}) View → Type 0
Stepped d before found after = (after.1 ≡ before.1) × StepsFrom d before.0.knows found after.0.knows

-- no deed at all: what a call that picks none has
abbrev pub no_deed : Deed
no_deed = record { begins = false; flight = idle 0 }

-- a register after an event, where only a write can be one of it
abbrev pub register_written : Geometry → Event → (seat reg : ℕ) → ℕ → ℕ
register_written g (Load word) seat reg old = old
register_written g (Write word value) seat reg old = if word == register_at g seat reg then value else old
register_written g (Swap word value) seat reg old = old
register_written g (Add word amount) seat reg old = old
register_written g (Sub word amount) seat reg old = old
register_written g (Max word value) seat reg old = old
register_written g (Trade word current new) seat reg old = old
