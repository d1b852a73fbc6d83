-- The actions of one atomic step of a pass, on the run of any log that the pass fits: what they change, and what the pass knows
-- afterwards.
use Rattle.std.proofs.Common.{◌≡◌, ℕ, zero, suc, ◌+◌, ◌<◌, ◌≤◌, Bool, true, false, List, [], ◌∷◌, ◌++◌, length, refl, sym, ◌∙◌, ap, subst, arith, inl, inr, get_or-set_same, get_or-set_other, Option, Some}
use Rattle.std.proofs.lemmas.Bool.{cases_eq, eqb-true}
use Rattle.std.proofs.lemmas.Bool.Decides.{nat_tests}
use Rattle.std.proofs.lemmas.List.Elements.{filter-append}
use Rattle.std.proofs.lemmas.List.FromFn.{get_or-map-range_with_len}
use Rattle.std.proofs.lemmas.List.Sums.{fold-append}
use Rattle.std.specs.Prelude.{nat_eq, ◌==◌, slice_index, slice_set, if◌then◌else◌}
use Rattle.hk_words.specs.declared.geometry.Geometry.{Geometry}
use Rattle.hk_words.specs.declared.call.Call.{Call}
use Rattle.hk_words.specs.declared.call.Call.TheVariants as call
use Rattle.hk_words.specs.Geometry.{tasks}
use Rattle.hk_words.specs.Row.{register_at}
use Rattle.hk_core.specs.declared.event.Event.{Event}
use Rattle.hk_core.specs.declared.flight.Flight.{Flight}
use Rattle.hk_core.specs.Event.{fired, fired_if, learnt, old_of, word_of, word_after, CanFire, CanFireIf}
use Rattle.hk_core.specs.State.{flight_of}
use Rattle.hk_core.specs.Step.{step_of, event_of, took_of, event_by, found_by}
use Rattle.hk_words.specs.Bounds.{places_of}
use Rattle.hk_core.specs.Begin.{register_word}
use Rattle.hk_core.specs.View.{flight_at}
use Rattle.hk_core.specs.Fits.{CanStep, FindsNumber}
use Rattle.hk_core.specs.Run.{Action, Running, begin, step, act, run, run_from_opening}
use Rattle.hk_core.proofs.Entries.{took_seat}
use Rattle.hk_collect.proofs.Running.{lawful_from_opening, geometry_from_opening}
use Rattle.hk_table.specs.Actions.{is_by, acts_of}
use Rattle.hk_table.specs.Knows.{PassView}
use Rattle.hk_table.specs.Rule.{PassFits}
use Rattle.hk_table.specs.Deeds.{Accepts, answered, LastStep, is_rest, Deed, learnt_by, taken, opens, deeds, rests, settled, most_rests, register_after, first_by, first_with, MayDo, Goes}
use Rattle.hk_table.proofs.Keeps.{ActBy, ActsBy, run_more}
use Rattle.hk_table.proofs.Deeds.{SeatAt, IsRun, run_acts, can, seated, step_at, rests_at, last_step, rests_fit, settled_used, idle_settled}
use Rattle.hk_table.proofs.Beginning.{begins, begin_at, refusal_same, first_same}
use Rattle.hk_table.proofs.Knowing.{nothing_more, Knowing, knowing, knows_more}

pub is_run : (g : Geometry) (log : List Action) (s : ℕ) → s < tasks g → IsRun g s (run_from_opening g log)
is_run g log s below = record { lawful = lawful_from_opening g log; geometry = geometry_from_opening g log; below = below }

if_acts : (s : ℕ) (test : Bool) (a b : List Action) → ActsBy s a → ActsBy s b → ActsBy s (if test then a else b)
if_acts s true a b x y = x
if_acts s false a b x y = y

first_acts : (s : ℕ) (test : Bool) (a : Action) (l : List Action) → ActBy s a → ActsBy s l → ActsBy s ((if test then a ∷ [] else []) ++ l)
first_acts s true a l x y = (x, y)
first_acts s false a l x y = y

rests_by : (g : Geometry) (s k : ℕ) (f : Flight) → f.seat ≡ s → ActsBy s (rests k g f)
unfolding rests
rests_by g s zero f own = tt
rests_by g s (suc k) f own = if_acts s (is_rest g f) _ [] (own, rests_by g s k (took_of g f 0) (took_seat g f 0 ∙ own)) tt

pub deeds_by : (g : Geometry) (d : Deed) (found s : ℕ) → d.flight.seat ≡ s → ActsBy s (deeds g d found)
deeds_by g d found s own =
    first_acts s d.begins (begin d.flight.seat d.flight.call) (step d.flight.seat ∷ rests most_rests g (taken g d found)) own
    (own, rests_by g s most_rests (taken g d found) (took_seat g d.flight (learnt_by (event_of g d.flight) found) ∙ own))

-- what is read after one word of a list was changed
set_read : (row : List ℕ) (w k : ℕ) (after : ℕ → ℕ) → w < length row → slice_index (slice_set row w (after (slice_index row w))) k ≡ (if w == k then after (slice_index row k) else slice_index row k)
set_read row w k after there = go (nat_eq w k) refl
  where
    go : (b : Bool) → nat_eq w k ≡ b → slice_index (slice_set row w (after (slice_index row w))) k ≡ (if b then after (slice_index row k) else slice_index row k)
    go true e = let same = eqb-true w k e in subst (λ (j : ℕ). slice_index (slice_set row w (after (slice_index row w))) j ≡ after (slice_index row j)) same (get_or-set_same row w _ 0 there)
    go false e = get_or-set_other row w k _ 0 (λ same. differ same e)
      where
        differ : k ≡ w → nat_eq w k ≡ false → ⊥
        differ same e = grind (arith, nat_tests)

module _ (g : Geometry) (d : Deed) (log : List Action) (p : PassView) (fits : PassFits g log (run_from_opening g log) p) (may : MayDo g d p) where
  abbrev here : Running
  here = run_from_opening g log

  -- the run after the begin, if the step begins the call
  pub record Opened (opened : Running) : Type 0 where
    pub is : IsRun g p.seat opened
    pub at : SeatAt opened p.seat here.core.row d.flight (p.begun + (if d.begins then 1 else 0))
    pub flying : 1 ≤ d.flight.place
    pub own : d.flight.seat ≡ p.seat
    pub accepted : d.begins ≡ true → Accepts here p.seat d.flight.call

  open_so : (b : Bool) → d.begins ≡ b → Opened (run here (opens d))
  unfolding run first_with
  open_so true yes' =
      let m = may.0 yes' in
      let h = is_run g log p.seat fits.seat in
      let first : d.flight ≡ first_by p d.flight.call = m.first in
      let own : d.flight.seat ≡ p.seat = ap (λ (f : Flight). f.seat) first in
      let accepts = refusal_same g here.core p fits.registers fits.begun d.flight.call m.registers ∙ m.accepted in
      let one = begin_at g p.seat here h d.flight.call (ap (λ (f : Flight). f.place) fits.flight ∙ m.idle) m.question m.registers accepts in
      let whole : Opened (act here (begin d.flight.seat d.flight.call)) = subst (λ (o : ℕ). Opened (act here (begin o d.flight.call))) (sym own) (record {
        is = run_acts g p.seat here (begin p.seat d.flight.call) h;
        at = record {
          row = one.row;
          flight = one.flight ∙ first_same g here.core p fits.registers fits.begun d.flight.call m.registers ∙ sym first;
          begun = one.begun ∙ ap (λ (n : ℕ). n + 1) fits.begun ∙ ap (λ (b : Bool). p.begun + (if b then 1 else 0)) (sym yes');
        };
        flying = subst (λ (f : Flight). 1 ≤ f.place) (sym first) (omega arith);
        own = own;
        accepted = λ _. record { refused = accepts; begun = begins g p.seat here h d.flight.call (ap (λ (f : Flight). f.place) fits.flight ∙ m.idle) m.question m.registers };
      }) in
      subst (λ (b : Bool). Opened (run here (if b then begin d.flight.seat d.flight.call ∷ [] else []))) (sym yes') whole
  open_so false no' =
      let m = may.1 no' in
      let h = is_run g log p.seat fits.seat in
      let plain : p.begun ≡ p.begun + 0 = omega arith in
      let whole : Opened here = record {
        is = h;
        at = record { row = refl; flight = fits.flight ∙ sym m.flight; begun = fits.begun ∙ plain ∙ ap (λ (b : Bool). p.begun + (if b then 1 else 0)) (sym no') };
        flying = m.flying;
        own = ap (λ (f : Flight). f.seat) (m.flight ∙ sym fits.flight) ∙ seated g p.seat here h;
        accepted = λ yes'. absurd (cc);
      } in
      subst (λ (b : Bool). Opened (run here (if b then begin d.flight.seat d.flight.call ∷ [] else []))) (sym no') whole

  abbrev pub opened : Running
  opened = run here (opens d)

  pub is_open : Opened opened
  is_open = open_so d.begins refl

  module _ (e : Event) (asks : event_of g d.flight ≡ Some e) where
    -- the event may be fired, and finds what it is to find
    can_do : CanStep opened.core p.seat
    can_do = can g p.seat opened is_open.is (subst (λ (f : Flight). 1 ≤ f.place) (sym is_open.at.flight) is_open.flying)

    asked : event_by opened.core p.seat ≡ Some e
    unfolding event_by
    asked = (λ i. event_of (is_open.is.geometry i) (is_open.at.flight i)) ∙ asks

    pub can_fire : CanFire here.core.row e
    can_fire = subst (λ (row : List ℕ). CanFire row e) is_open.at.row (subst (λ (o : Option Event). CanFireIf opened.core.row o) asked can_do.event)

    abbrev found : ℕ
    found = old_of here.core.row e

    learns : learnt here.core.row (Some e) ≡ learnt_by (event_of g d.flight) found
    unfolding learnt
    learns = ap (λ (o : Option Event). learnt_by o found) (sym asks)

    found_so : found_by opened.core p.seat ≡ learnt_by (event_of g d.flight) found
    unfolding found_by
    found_so = (λ i. learnt (is_open.at.row i) (asked i)) ∙ learns

    finds : FindsNumber d.flight d.flight.call (learnt_by (event_of g d.flight) found)
    finds = subst (λ (n : ℕ). FindsNumber d.flight d.flight.call n) found_so
        (subst (λ (f : Flight). FindsNumber f f.call (found_by opened.core p.seat)) is_open.at.flight can_do.finds)

    -- after the event and the rests
    pub deeds_at : SeatAt (run here (deeds g d found)) p.seat (fired here.core.row e) (settled most_rests g (taken g d found)) (p.begun + (if d.begins then 1 else 0))
    unfolding run fired_if
    deeds_at =
        let o = is_open in
        let one = step_at g p.seat opened o.is d.flight (Some e) o.at.flight o.flying asks in
        let goes : flight_of (act opened (step p.seat)).core.flights p.seat ≡ taken g d found = one.flight ∙ ap (λ (row : List ℕ). took_of g d.flight (learnt row (Some e))) o.at.row ∙ ap (took_of g d.flight) learns in
        let two = rests_at g p.seat most_rests (act opened (step p.seat)) (taken g d found) (run_acts g p.seat opened (step p.seat) o.is) goes in
        let same : run here (deeds g d found) ≡ run (act opened (step p.seat)) (rests most_rests g (taken g d found)) =
        fold-append act here (opens d) (step d.flight.seat ∷ rests most_rests g (taken g d found)) ∙ ap (λ (t : ℕ). run (act opened (step t)) (rests most_rests g (taken g d found))) o.own in
        subst (λ (r : Running). SeatAt r p.seat (fired here.core.row e) (settled most_rests g (taken g d found)) (p.begun + (if d.begins then 1 else 0))) (sym same)
        (record {
          row = two.row ∙ one.row ∙ ap (λ (row : List ℕ). fired row e) o.at.row;
          flight = two.flight;
          begun = two.begun ∙ one.begun ∙ o.at.begun;
        })

    taken_at : flight_of (act opened (step p.seat)).core.flights p.seat ≡ taken g d found
    taken_at =
        let o = is_open in
        let one = step_at g p.seat opened o.is d.flight (Some e) o.at.flight o.flying asks in
        one.flight ∙ ap (λ (row : List ℕ). took_of g d.flight (learnt row (Some e))) o.at.row ∙ ap (took_of g d.flight) learns

    used_then : is_rest g (settled most_rests g (taken g d found)) ≡ false
    unfolding flight_at
    used_then =
        let o = is_open in
        let h = run_acts g p.seat opened (step p.seat) o.is in
        let below : p.seat < tasks (act opened (step p.seat)).core.geometry = subst (λ (k : Geometry). p.seat < tasks k) (sym h.geometry) h.below in
        let formed = h.lawful.facts.flights_formed p.seat below in
        let few : (taken g d found).place ≤ places_of (taken g d found).call = subst (λ (f : Flight). f.place ≤ places_of f.call) taken_at formed.in_row in
        used_at (taken g d found) few
      where
        at_most : (call' : Call) → places_of call' ≤ 10
        at_most (call.Get reg field) = omega arith
        at_most (call.Put reg field value) = omega arith
        at_most (call.Load dest reg field) = omega arith
        at_most (call.Store reg field from) = omega arith
        at_most (call.Move dest from) = omega arith
        at_most (call.Clear dest) = omega arith
        at_most (call.New dest shape) = omega arith
        at_most (call.Same a b) = omega arith
        at_most (call.IsNull reg) = omega arith

        used_at : (f : Flight) → f.place ≤ places_of f.call → is_rest g (settled most_rests g f) ≡ false
        used_at f few = elim (cases_eq f.place 0) [
          | inl none ↦ idle_settled g most_rests f none
          | inr flies ↦ let most = at_most f.call in settled_used g most_rests f few (omega arith)
        ]

    last_so : d.flight.place ≤ places_of d.flight.call
        → LastStep g p.seat opened d.flight (flight_of (run here (deeds g d found)).core.flights p.seat) (step d.flight.seat ∷ rests most_rests g (taken g d found)) (answered most_rests g (taken g d found) (step_of d.flight))
    last_so few =
        let o = is_open in
        let one = step_at g p.seat opened o.is d.flight (Some e) o.at.flight o.flying asks in
        let goes' : flight_of (act opened (step p.seat)).core.flights p.seat ≡ taken g d found = one.flight ∙ ap (λ (row : List ℕ). took_of g d.flight (learnt row (Some e))) o.at.row ∙ ap (took_of g d.flight) learns in
        subst (λ (f : Flight). LastStep g p.seat opened d.flight f (step d.flight.seat ∷ rests most_rests g (taken g d found)) (answered most_rests g (taken g d found) (step_of d.flight))) (sym deeds_at.flight)
        (subst (λ (t : ℕ). LastStep g p.seat opened d.flight (settled most_rests g (taken g d found)) (step t ∷ rests most_rests g (taken g d found)) (answered most_rests g (taken g d found) (step_of d.flight))) (sym o.own)
        (last_step g p.seat most_rests opened d.flight (learnt_by (event_of g d.flight) found) o.is o.at.flight o.flying few goes'))

    -- a register after the event
    register_fired : (reg : ℕ) → slice_index (fired here.core.row e) (register_at g p.seat reg)
        ≡ register_after g (event_of g d.flight) p.seat reg (slice_index here.core.row (register_at g p.seat reg))
    unfolding fired old_of
    register_fired reg =
        set_read here.core.row (word_of e) (register_at g p.seat reg) (word_after e) can_fire.within
        ∙ ap (λ (o : Option Event). register_after g o p.seat reg (slice_index here.core.row (register_at g p.seat reg))) (sym asks)

    -- what the step tells
    abbrev by' : ActsBy p.seat (deeds g d found)
    by' = deeds_by g d found p.seat is_open.own

    pub known : Knowing g log p fits (deeds g d found) by'
    known = knows_more g log p fits (deeds g d found) by'

    abbrev pub q : PassView
    q = knowing g log p fits (deeds g d found) by' known.seen

    pub goes : Goes g d p found q
    unfolding register_word
    goes =
        let longer = fits.stands.begins in
        let same_run : run_from_opening g (log ++ deeds g d found) ≡ run here (deeds g d found) = run_more g log (deeds g d found) in
        let at = deeds_at in
        record {
          stands = subst (λ (r : Running). PassFits g (log ++ deeds g d found) r q) (sym same_run) known.so;
          seat = refl;
          between = longer.0;
          others = nothing_more (acts_of p.seat p.log) (acts_of p.seat longer.0)
              (fits.stands.acts ∙ ap (acts_of p.seat) longer.1 ∙ filter-append (is_by p.seat) p.log longer.0);
          log = ap (λ (l : List Action). l ++ deeds g d found) longer.1;
          met = subst (λ (l : List Action). PassFits g l (run_from_opening g l) p) longer.1 fits;
          last = λ few. subst (λ (l : List Action). LastStep g p.seat (run (run_from_opening g l) (opens d)) d.flight q.flight (step d.flight.seat ∷ rests most_rests g (taken g d found)) (answered most_rests g (taken g d found) (step_of d.flight))) longer.1
              (last_so few);
          accepted = λ yes'. subst (λ (l : List Action). Accepts (run_from_opening g l) p.seat d.flight.call) longer.1 (is_open.accepted yes');
          flight = at.flight;
          begun = at.begun;
          registers = λ reg there.
              get_or-map-range_with_len (register_word (run here (deeds g d found)).core p.seat) 0 g.registers reg reg 0 there (omega arith)
              ∙ (λ i. slice_index (at.row i) (register_at ((ap (λ (r : Running). r.core.geometry) (sym same_run) ∙ geometry_from_opening g (log ++ deeds g d found)) i) p.seat reg))
              ∙ register_fired reg
              ∙ ap (register_after g (event_of g d.flight) p.seat reg) ((λ i. slice_index here.core.row (register_at (sym (geometry_from_opening g log) i) p.seat reg)) ∙ fits.registers reg there);
          finds = finds;
          fit = rests_fit g p.seat most_rests (act opened (step p.seat)) (taken g d found) (run_acts g p.seat opened (step p.seat) is_open.is) taken_at;
          used = subst (λ (f : Flight). is_rest g f ≡ false) (sym at.flight) used_then;
          more = known.more;
          trail = known.trail;
        }
