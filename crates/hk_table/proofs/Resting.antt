-- What the code asks of rests, of a flight whose place is done, and of its event.
use Rattle.std.proofs.Common.{◌≡◌, ◌≢◌, ℕ, zero, suc, ◌-◌, ◌<◌, ◌≤◌, Bool, true, false, List, length, ne_eqb, ext_get_or, refl, sym, ◌∙◌, ap, subst, arith, Option, Some, None}
use Rattle.std.proofs.lemmas.Bool.Decides.{nat_tests}
use Rattle.std.specs.Prelude.{nat_eq, slice_index, not, is_none, ◌&&◌}
use Rattle.hk_words.specs.declared.geometry.Geometry.{Geometry}
use Rattle.hk_words.specs.declared.call.Call.{Call}
use Rattle.hk_words.specs.declared.call.Call.TheVariants as call
use Rattle.hk_words.specs.Geometry.{tasks, row_length}
use Rattle.hk_model.specs.History.{is_question}
use Rattle.hk_core.specs.declared.event.Event.{Event}
use Rattle.hk_core.specs.declared.event.Event.TheVariants as event
use Rattle.hk_core.specs.declared.flight.Flight.{Flight}
use Rattle.hk_core.specs.declared.outcome.Step.{Step}
use Rattle.hk_core.specs.Event.{word_of}
use Rattle.hk_core.specs.Fits.{Fits}
use Rattle.hk_core.specs.State.{flight_of}
use Rattle.hk_core.specs.Step as table
use Rattle.hk_core.specs.Step.{event_of, took_of, step_of}
use Rattle.hk_words.specs.Bounds.{places_of}
use Rattle.hk_collect.proofs.Running.{lawful_from_opening, geometry_from_opening}
use Rattle.hk_table.specs.Knows.{PassView, Knows, pass}
use Rattle.hk_words.specs.Row.{register_at}
use Rattle.hk_table.proofs.Slots.{Spares, event_spares, spares_registers}
use Rattle.hk_table.specs.Deeds.{the_pass, StepsFrom, Goes, register_after, register_written, Deed, is_rest, settled, answered, RestsFit, MayDo, MayBegin, Stands, first_by, first_with}
use Rattle.hk_table.proofs.Deeds.{can}
use Rattle.hk_table.proofs.Stepping.{opened, is_open, can_fire}

-- RESTS, with so many left

one_less : (k : ℕ) → suc k - 1 ≡ k
one_less k = omega arith

module _ (g : Geometry) (f : Flight) where
  pub rest_fits : (k : ℕ) → k ≢ 0 → RestsFit k g f → 1 ≤ f.place → Fits g f
  unfolding RestsFit
  rest_fits zero some h = absurd (some refl)
  rest_fits (suc k) some h = h.0

  pub rest_next : (k : ℕ) → k ≢ 0 → is_rest g f ≡ true → RestsFit k g f → RestsFit (k - 1) g (took_of g f 0)
  unfolding RestsFit
  rest_next zero some e h = absurd (some refl)
  rest_next (suc k) some e h = subst (λ (j : ℕ). RestsFit j g (took_of g f 0)) (sym (one_less k)) (h.1 e)

  pub settled_next : (k : ℕ) → k ≢ 0 → is_rest g f ≡ true → settled (k - 1) g (took_of g f 0) ≡ settled k g f
  unfolding settled
  settled_next zero some e = absurd (some refl)
  settled_next (suc k) some e = rw (e, one_less k) refl

  pub answered_next : (k : ℕ) (a : Step) → k ≢ 0 → is_rest g f ≡ true → answered (k - 1) g (took_of g f 0) (step_of f) ≡ answered k g f a
  unfolding answered
  answered_next zero a some e = absurd (some refl)
  answered_next (suc k) a some e = rw (e, one_less k) refl

  pub settled_stops : (k : ℕ) → is_rest g f ≡ false → f ≡ settled k g f
  unfolding settled
  settled_stops zero e = refl
  settled_stops (suc k) e = rw e refl

  pub answered_stops : (k : ℕ) (a : Step) → is_rest g f ≡ false → a ≡ answered k g f a
  unfolding answered
  answered_stops zero a e = refl
  answered_stops (suc k) a e = rw e refl

  pub settled_none : (k : ℕ) → k ≡ 0 → f ≡ settled k g f
  unfolding settled
  settled_none k e = rw e refl

  pub answered_none : (k : ℕ) (a : Step) → k ≡ 0 → a ≡ answered k g f a
  unfolding answered
  answered_none k a e = rw e refl

-- A PLACE THAT IS DONE

no_event : (o : Option Event) → ((x : Event) → o ≡ Some x → ⊥) → is_none o ≡ true
no_event None no-one = refl
no_event (Some x) no-one = absurd (no-one x refl)

-- a place in flight that is no rest has an event
pub has_event : (g : Geometry) (f : Flight) (o : Option Event) → is_rest g f ≡ false → 1 ≤ f.place → o ≡ event_of g f → ((x : Event) → o ≡ Some x → ⊥) → ⊥
unfolding is_rest
has_event g f o used some same none' =
    let empty : is_none (event_of g f) ≡ true = subst (λ (k : Option Event). is_none k ≡ true) same (no_event o none') in
    let flying : nat_eq f.place 0 ≡ false = not_idle f.place some in
    both used flying empty
  where
    not_idle : (place : ℕ) → 1 ≤ place → nat_eq place 0 ≡ false
    not_idle place h = grind (arith, nat_tests)

    both : (not (nat_eq f.place 0) && is_none (event_of g f)) ≡ false → nat_eq f.place 0 ≡ false → is_none (event_of g f) ≡ true → ⊥
    both a b c = let d : (not false && true) ≡ false = subst (λ (x : Bool). (not false && x) ≡ false) c (subst (λ (x : Bool). (not x && is_none (event_of g f)) ≡ false) b a) in cc

module _ (g : Geometry) (d : Deed) (p : PassView) (stands : Stands g p) (may : MayDo g d p) where
  pub does_fit : Fits g d.flight
  does_fit =
      let o = is_open g d p.log p stands may in
      let flying = subst (λ (f : Flight). 1 ≤ f.place) (sym o.at.flight) o.flying in
      subst (λ (f : Flight). Fits g f) o.at.flight (subst (λ (k : Geometry). Fits k (flight_of (opened g d p.log p stands may).core.flights p.seat)) o.is.geometry (can g p.seat (opened g d p.log p stands may) o.is flying).flight)

  pub does_fly : 1 ≤ d.flight.place
  does_fly = (is_open g d p.log p stands may).flying

  pub does_within : (e : Event) → event_of g d.flight ≡ Some e → word_of e < row_length g
  does_within e asks =
      let h = lawful_from_opening g p.log in
      subst (λ (n : ℕ). word_of e < n) (h.sized.row ∙ ap row_length (geometry_from_opening g p.log)) (can_fire g d p.log p stands may e asks).within

first_is : (g : Geometry) (p : PassView) (call' : Call) → is_question call' ≡ false → is_rest g (first_by p call') ≡ false
unfolding is_rest first_with event_of table.event_at table.get_event table.put_event table.move_event table.clear_event table.load_event table.store_event table.new_event table.enter_object table.enter_frame table.write_register table.load_w0
first_is g p (call.Get reg field) e = refl
first_is g p (call.Put reg field value) e = refl
first_is g p (call.Load dest reg field) e = refl
first_is g p (call.Store reg field from) e = refl
first_is g p (call.Move dest from) e = refl
first_is g p (call.Clear dest) e = refl
first_is g p (call.New dest shape) e = refl
first_is g p (call.Same a b) e = absurd (cc)
first_is g p (call.IsNull reg) e = absurd (cc)

-- the first place of a call is no rest
pub first_used : (g : Geometry) (p : PassView) (f : Flight) → MayBegin g p f → is_rest g f ≡ false
first_used g p f may = subst (λ (x : Flight). is_rest g x ≡ false) (sym may.first) (first_is g p f.call may.question)

pub first_so : (g : Geometry) (p : PassView) (f : Flight) → MayBegin g p f → (f.seat ≡ p.seat) × (f.place ≡ 1) × (1 ≤ places_of f.call)
unfolding first_with
first_so g p f may = (ap (λ (x : Flight). x.seat) may.first, ap (λ (x : Flight). x.place) may.first, each f.call may.question)
  where
    each : (call' : Call) → is_question call' ≡ false → 1 ≤ places_of call'
    each (call.Get reg field) e = omega arith
    each (call.Put reg field value) e = omega arith
    each (call.Load dest reg field) e = omega arith
    each (call.Store reg field from) e = omega arith
    each (call.Move dest from) e = omega arith
    each (call.Clear dest) e = omega arith
    each (call.New dest shape) e = omega arith
    each (call.Same a b) e = absurd (cc)
    each (call.IsNull reg) e = absurd (cc)

-- THE REGISTERS

register_same : (g : Geometry) (s reg old : ℕ) (e : Event) → s < tasks g → reg < g.registers → Spares g (suc s) (Some e) → register_after g (Some e) s reg old ≡ register_written g e s reg old
register_same g s reg old (event.Load word) seat there spares = rw (ne_eqb word (register_at g s reg) (spares_registers g (suc s) s reg (event.Load word) seat there refl spares)) refl
register_same g s reg old (event.Write word value) seat there spares = refl
register_same g s reg old (event.Swap word value) seat there spares = rw (ne_eqb word (register_at g s reg) (spares_registers g (suc s) s reg (event.Swap word value) seat there refl spares)) refl
register_same g s reg old (event.Add word amount) seat there spares = rw (ne_eqb word (register_at g s reg) (spares_registers g (suc s) s reg (event.Add word amount) seat there refl spares)) refl
register_same g s reg old (event.Sub word amount) seat there spares = rw (ne_eqb word (register_at g s reg) (spares_registers g (suc s) s reg (event.Sub word amount) seat there refl spares)) refl
register_same g s reg old (event.Max word value) seat there spares = rw (ne_eqb word (register_at g s reg) (spares_registers g (suc s) s reg (event.Max word value) seat there refl spares)) refl
register_same g s reg old (event.Trade word current new) seat there spares =
    rw (ne_eqb word (register_at g s reg) (spares_registers g (suc s) s reg (event.Trade word current new) seat there refl spares)) refl

-- registers that were changed as the event says are those that the pass knows
pub registers_so : (g : Geometry) (d : Deed) (p q : PassView) (found : ℕ) (e : Event) (new : List ℕ) → Stands g p → MayDo g d p → event_of g d.flight ≡ Some e → Goes g d p found q
    → length new ≡ length p.registers → ((reg : ℕ) → reg < g.registers → slice_index new reg ≡ register_written g e d.flight.seat reg (slice_index p.registers reg)) → new ≡ q.registers
registers_so g d p q found e new stands may asks go same each =
    let fits = does_fit g d p stands may in
    let own : d.flight.seat ≡ p.seat = (is_open g d p.log p stands may).own in
    let spares : Spares g (suc d.flight.seat) (Some e) = subst (Spares g (suc d.flight.seat)) asks (event_spares g (suc d.flight.seat) d.flight (λ k. absurd (omega arith)) fits) in
    let count = stands.count in
    let count' = go.stands.count in
    ext_get_or 0 new q.registers (omega arith) (λ reg there.
    each reg (omega arith)
    ∙ sym (register_same g d.flight.seat reg (slice_index p.registers reg) e fits.seat (omega arith) spares)
    ∙ (λ i. register_after g (sym asks i) (own i) reg (slice_index p.registers reg))
    ∙ sym (go.registers reg (omega arith)))

-- what a step tells, of the pass that stood there and of the one that stands there now
pub told_goes : (g : Geometry) (d : Deed) (k k' : Knows) (found : ℕ) → k ≡ pass g (the_pass k) → StepsFrom d k found k' → Goes g d (the_pass k) found (the_pass k')
told_goes g d k k' found is t =
    let t' : StepsFrom d (pass g (the_pass k)) found k' = subst (λ (x : Knows). StepsFrom d x found k') is t in
    subst (λ (x : PassView). Goes g d (the_pass k) found x) (sym (ap the_pass t'.1)) t'.2
