-- A tick of a task: what it says of the job's present statement.
use Rattle.std.proofs.Common.{◌≡◌, ◌≢◌, ℕ, ◌+◌, ◌<◌, ◌≤◌, Bool, true, false, Option, Some, None, refl, arith}
use Rattle.std.proofs.lemmas.Bool.{ltb-true, ne_eqb}
use Rattle.std.specs.Prelude.{nat_lt, ◌==◌, ◌&&◌, not, if◌then◌else◌}
use Rattle.hk_words.specs.declared.call.Call.{Call}
use Rattle.hk_words.specs.declared.call.Call.TheVariants as call
use Rattle.hk_words.specs.declared.call.Reply.TheVariants as reply
use Rattle.hk_words.specs.Bounds.{places_of}
use Rattle.hk_words.specs.Shape.{size}
use Rattle.hk_core.specs.declared.flight.Flight.{Flight}
use Rattle.hk_core.specs.State.{State, flight_of}
use Rattle.hk_script.specs.declared.walk.Need.{Need}
use Rattle.hk_script.specs.declared.walk.Need.TheVariants as need
use Rattle.hk_script.specs.Runs.{need_ticks, need_words, taken_by}
use Rattle.hk_dispatch.specs.declared.operation.Left.{Left}
use Rattle.hk_dispatch.specs.declared.operation.Left.TheVariants as left
use Rattle.hk_dispatch.specs.Ticks.{takes_on, words_by, left_by, leaves_on}
use Rattle.hk_dispatch.proofs.InStep.{OpInStep, still, done, refused}
use Rattle.hk_dispatch.proofs.Courses.{by_test}

-- THE WORDS that a tick takes are none but at the third place of a New, and there at most its size

takes_few : (core : State) (seat : ℕ) (c : Call) (spent : ℕ) → takes_on core seat c spent ≤ need_words (need.Heap c)
takes_few core seat (call.Get reg field) spent = omega arith
takes_few core seat (call.Put reg field value) spent = omega arith
takes_few core seat (call.Load dest reg field) spent = omega arith
takes_few core seat (call.Store reg field from) spent = omega arith
takes_few core seat (call.Move dest from) spent = omega arith
takes_few core seat (call.Clear dest) spent = omega arith
takes_few core seat (call.Same a b) spent = omega arith
takes_few core seat (call.IsNull reg) spent = omega arith
takes_few core seat (call.New dest shape) spent = by_test (λ w. w ≤ size shape) (spent == 2 && not (flight_of core.flights seat).full) (size shape) 0 (λ e. omega arith) (λ e. omega arith)

takes_none : (core : State) (seat : ℕ) (c : Call) (spent : ℕ) → spent ≢ 2 → takes_on core seat c spent ≡ 0
takes_none core seat (call.Get reg field) spent other = refl
takes_none core seat (call.Put reg field value) spent other = refl
takes_none core seat (call.Load dest reg field) spent other = refl
takes_none core seat (call.Store reg field from) spent other = refl
takes_none core seat (call.Move dest from) spent other = refl
takes_none core seat (call.Clear dest) spent other = refl
takes_none core seat (call.Same a b) spent other = refl
takes_none core seat (call.IsNull reg) spent other = refl
takes_none core seat (call.New dest shape) spent other = rw (ne_eqb spent 2 other) refl

pub words_few : (core : State) (seat spent : ℕ) (wants : Option Need) → words_by core seat spent wants ≤ taken_by need_words wants
words_few core seat spent (Some (need.Heap c)) = takes_few core seat c spent
words_few core seat spent (Some (need.Work n)) = omega arith
words_few core seat spent (Some need.Local) = omega arith
words_few core seat spent (Some (need.Out value)) = omega arith
words_few core seat spent (Some (need.Ask c)) = omega arith
words_few core seat spent None = omega arith

pub words_none : (core : State) (seat spent : ℕ) (wants : Option Need) → spent ≢ 2 → words_by core seat spent wants ≡ 0
words_none core seat spent (Some (need.Heap c)) other = takes_none core seat c spent other
words_none core seat spent (Some (need.Work n)) other = refl
words_none core seat spent (Some need.Local) other = refl
words_none core seat spent (Some (need.Out value)) other = refl
words_none core seat spent (Some (need.Ask c)) other = refl
words_none core seat spent None other = refl

-- A JOB STAYS at its statement only while that takes more ticks

stays_on : (x : Flight) (c : Call) (spent : ℕ) (l : Left) → OpInStep x c spent l → l ≡ left.Stays → spent + 1 < places_of c
stays_on x c spent left.Stays (still call at within) e = omega (arith, within)
stays_on x c spent (left.Passes r) (done r' at) e = absurd (cc)
stays_on x c spent (left.Faults f) (refused f' at) e = absurd (cc)

pub stays_more : (core : State) (seat spent : ℕ) (wants : Option Need) → (n : Need) → wants ≡ Some n
    → ((c : Call) → wants ≡ Some (need.Heap c) → (x : Flight) × OpInStep x c spent (leaves_on core seat c spent))
    → left_by core seat spent wants ≡ left.Stays → spent + 1 < taken_by need_ticks wants
stays_more core seat spent (Some (need.Work k)) n is op e = by_more (nat_lt (spent + 1) k) refl e
  where
    by_more : (b : Bool) → nat_lt (spent + 1) k ≡ b → (if b then left.Stays else left.Passes reply.Unit) ≡ left.Stays → spent + 1 < k
    by_more true t e = ltb-true (spent + 1) k t
    by_more false t e = absurd (cc)
stays_more core seat spent (Some need.Local) n is op e = absurd (cc)
stays_more core seat spent (Some (need.Out value)) n is op e = absurd (cc)
stays_more core seat spent (Some (need.Ask c)) n is op e = absurd (cc)
stays_more core seat spent (Some (need.Heap c)) n is op e = let o = op c refl in stays_on o.0 c spent _ o.1 e
stays_more core seat spent None n is op e = absurd (cc)
