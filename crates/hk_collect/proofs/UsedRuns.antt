-- What holds of a traced run, whatever the actions.
use Rattle.std.proofs.Common.{◌≡◌, ◌⊎◌, ℕ, ◌+◌, ◌<◌, ◌≤◌, Bool, true, false, inl, inr, refl, sym, subst, ◌∙◌, ap, arith, List, [], ◌∷◌, ◌++◌, Option, Some, None}
use Rattle.std.proofs.lemmas.Bool.{cases_lt, and_parts, and_from, eq-eqb, ltb-true, lt-ltb, not-true}
use Rattle.std.proofs.lemmas.List.Elements.{Contains-push, Contains-push_cases, Contains-append_left}
use Rattle.std.proofs.lemmas.List.FromFn.{get_or-map-range_with_len}
use Rattle.std.specs.List.{range_with_len}
use Rattle.std.specs.Prelude.{nat_eq, nat_lt, not, ◌&&◌, fold, map, Contains, if◌then◌else◌}
use Rattle.hk_words.specs.declared.call.Call.{Call}
use Rattle.hk_words.specs.declared.geometry.Geometry.{Geometry}
use Rattle.hk_words.specs.Geometry.{tasks}
use Rattle.hk_model.specs.Heap.{opening_of}
use Rattle.hk_model.specs.History.{History, after}
use Rattle.hk_model.specs.View.{upd}
use Rattle.hk_core.specs.declared.outcome.Fault.{Fault}
use Rattle.hk_core.specs.State.{State, opening, flight_of, idle}
use Rattle.hk_core.specs.Step.{next, history_after, effect_of, found_by, took_of}
use Rattle.hk_core.specs.Begin.{refusal, first_flight, accepted, after_begin, begun_or}
use Rattle.hk_core.specs.Collect.{next_collected, work_by_collector}
use Rattle.hk_core.specs.Run.{Action, Running, begin, step, collect, act, is_busy, may_begin}
use Rattle.hk_core.specs.View.{words_of, flight_at}
use Rattle.hk_core.specs.Flights as f
use Rattle.hk_core.specs.Reach.{words_of_birth}
use Rattle.hk_core.specs.Lawful.{Lawful}
use Rattle.hk_core.proofs.OpeningLawful.{opening_lawful}
use Rattle.hk_core.proofs.Next.{flight_at-next}
use Rattle.hk_core.proofs.kinds.Begin.{flight_at-accepted}
use Rattle.hk_model.proofs.Updates.{upd_same}
use Rattle.hk_core.proofs.Seven.{seat_steps}
use Rattle.hk_core.proofs.Shared.{never}
use Rattle.hk_core.proofs.Update.{upd_cases}
use Rattle.hk_collect.specs.Used.{Trace, next_birth, gives_young, is_raising, is_flip, trace_act, trace_opening, traced}
use Rattle.hk_collect.proofs.EachLine.{lawful_collected}
use Rattle.hk_collect.proofs.Pays.{lawful_begun}
use Rattle.hk_collect.proofs.Small.{by_test, in_flight, not_making_yet}
use Rattle.hk_collect.proofs.UsedBirth.{about_to_bear, next_after}
use Rattle.hk_collect.proofs.UsedLate.{AreRecent, recent_step, makes_no_more, words_longer}
use Rattle.hk_collect.proofs.UsedTrace.{UsesOf, uses_opening, uses_step, young_then, no_young, uses_collect, uses_flip, same_cycle, same_cycle_then, next_same, next_later}

-- the births since the flip, as far as they are young, and those that are late
pub record Since (g : Geometry) (history at_flip : History) (young late : List ℕ) : Type 0 where
  pub each : (b : ℕ) → next_birth g at_flip ≤ b → b < next_birth g history → Contains young b ⊎ Contains late b
  pub late_born : (b : ℕ) → Contains late b → (next_birth g at_flip ≤ b) × (b < next_birth g history)

-- a birth that there was at the flip has the words that it had
abbrev pub KeepWords : Geometry → (history at_flip : History) → Type 0
KeepWords g history at_flip = (b : ℕ) → b < next_birth g at_flip → words_of_birth (after (opening_of g) history) b ≡ words_of_birth (after (opening_of g) at_flip) b

-- what holds of a state, its history, and what is traced of it
pub record Holds (c : State) (history at_flip : History) (raised : ℕ → Bool) (late : List ℕ) : Type 0 where
  pub lawful : Lawful c history
  pub young : List ℕ
  pub uses : UsesOf c history at_flip young
  pub since : Since c.geometry history at_flip young late
  pub recent : AreRecent c raised
  pub shapes : KeepWords c.geometry history at_flip

abbrev pub InUse : Trace → Type 0
InUse r = Holds r.running.core r.running.history r.at_flip r.raised r.late

-- A BEGIN

module _ (c : State) (history at_flip : History) (raised : ℕ → Bool) (late : List ℕ) (o : Holds c history at_flip raised late) where
  -- a begin changes no word and not the spot
  holds_begin : (seat : ℕ) (call' : Call) → seat < tasks c.geometry → Lawful (after_begin c seat call') history → Holds (after_begin c seat call') history at_flip raised late
  unfolding after_begin accepted first_flight
  holds_begin seat call' below = by_refusal (refusal c seat call')
    where
      recent_begun : AreRecent (accepted c seat call') raised
      recent_begun s within making fresh =
          let flights : flight_at (accepted c seat call') s ≡ upd (flight_at c) seat (first_flight c seat call') s =
          ap (λ f. f s) (flight_at-accepted c seat call' (let many = o.lawful.sized.flights in omega (arith, below, many))) in
          elim (upd_cases (flight_at c) seat (first_flight c seat call') s) [
            | inl (e, q) ↦ never (sym (ap f.is_making (flights ∙ q) ∙ not_making_yet (first_flight c seat call') (omega arith)) ∙ making)
            | inr (d, q) ↦ ap f.cycle_of (flights ∙ q) ∙ o.recent s within (sym (ap f.is_making (flights ∙ q)) ∙ making) fresh
          ]

      by_refusal : (fault : Option Fault) → Lawful (begun_or fault (accepted c seat call') c) history → Holds (begun_or fault (accepted c seat call') c) history at_flip raised late
      by_refusal None lawful = record { lawful = lawful; young = o.young; uses = o.uses; since = o.since; recent = recent_begun; shapes = o.shapes }
      by_refusal (Some fault) lawful = o

  -- A STEP OF A SEAT

  module _ (s : ℕ) (below : s < tasks c.geometry) (flying : 1 ≤ (flight_at c s).place) where
    longer : next_birth c.geometry history ≤ next_birth c.geometry (history_after c s history)
    longer = next_later c history at_flip o.young o.lawful o.uses s below flying

    cycle_kept : (words_of c.geometry (next c s).row).cycle ≡ (words_of c.geometry c.row).cycle
    unfolding next
    cycle_kept = same_cycle c history at_flip o.young o.lawful o.uses s below flying

    recent_then : AreRecent (next c s) raised
    recent_then = recent_step c history raised o.lawful o.recent s below flying cycle_kept

    shapes_then : KeepWords c.geometry (history_after c s history) at_flip
    unfolding history_after
    shapes_then b there = words_longer c.geometry history (effect_of c.geometry (flight_of c.flights s) (found_by c s)) b (let later = o.uses.later in omega (arith, there, later)) ∙ o.shapes b there

    -- one that makes no object
    holds_other : f.has_header (flight_at c s) ≡ false → Holds (next c s) (history_after c s history) at_flip raised late
    unfolding next
    holds_other none =
        let same = next_same c history at_flip o.young o.lawful o.uses s below flying none in
        record {
          lawful = (seat_steps c history s below o.lawful flying).lawful;
          young = o.young;
          uses = subst (λ young. UsesOf (next c s) (history_after c s history) at_flip young) (no_young c history at_flip o.young o.lawful o.uses s below flying none)
              (uses_step c history at_flip o.young o.lawful o.uses s below flying);
          since = record {
            each = λ b since' below'. o.since.each b since' (omega (arith, same, below'));
            late_born = λ b there. let was = o.since.late_born b there in (was.0, (let before = was.1 in omega (arith, same, before)));
          };
          recent = recent_then;
          shapes = shapes_then;
        }

    -- one that makes an object: that is young, or late
    module _ (has : f.has_header (flight_at c s) ≡ true) where
      born_next : next_birth c.geometry (history_after c s history) ≡ next_birth c.geometry history + 1
      born_next = next_after c history o.lawful s below (about_to_bear (flight_at c s) has)

      young_or_late : (late_one : Bool) → raised s ≡ late_one
          → Contains (young_then c history at_flip o.young o.lawful o.uses s below flying) (next_birth c.geometry history)
          ⊎ Contains (if late_one then late ++ next_birth c.geometry history ∷ [] else late) (next_birth c.geometry history)
      unfolding flight_at f.is_making f.is_new_at
      young_or_late true e = inr (Contains-push late (next_birth c.geometry history))
      young_or_late false e = inl (rw recent_one (Contains-push o.young (next_birth c.geometry history)))
        where
          recent_one : gives_young c s ≡ true
          recent_one =
              let x = about_to_bear (flight_at c s) has in
              let making : f.is_making (flight_at c s) ≡ true = rw (x.is_new, x.at, x.room) refl in
              let now = o.recent s below making e in
              and_from (f.has_header (flight_of c.flights s)) (nat_eq (f.cycle_of (flight_of c.flights s)) (words_of c.geometry c.row).cycle) has (eq-eqb _ _ now)

      before_or_now : (late_one : Bool) (b : ℕ) → Contains o.young b ⊎ Contains late b
          → Contains (young_then c history at_flip o.young o.lawful o.uses s below flying) b ⊎ Contains (if late_one then late ++ next_birth c.geometry history ∷ [] else late) b
      before_or_now late_one b (inl is_young) = inl (more (gives_young c s))
        where
          more : (test : Bool) → Contains (if test then o.young ++ next_birth c.geometry history ∷ [] else o.young) b
          more true = Contains-append_left o.young (next_birth c.geometry history ∷ []) b is_young
          more false = is_young
      before_or_now true b (inr is_late) = inr (Contains-append_left late (next_birth c.geometry history ∷ []) b is_late)
      before_or_now false b (inr is_late) = inr is_late

      since_then : (late_one : Bool) → raised s ≡ late_one
          → Since c.geometry (history_after c s history) at_flip (young_then c history at_flip o.young o.lawful o.uses s below flying) (if late_one then late ++ next_birth c.geometry history ∷ [] else late)
      since_then late_one e = record {
        each = λ b since' below'. elim (cases_lt b (next_birth c.geometry history)) [
          | inl before ↦ before_or_now late_one b (o.since.each b since' before)
          | inr now ↦
              let one = born_next in
              let same : b ≡ next_birth c.geometry history = omega (arith, one, now, below') in
              rw same (young_or_late late_one e)
        ];
        late_born = born_then late_one;
      }
        where
          born_then : (test : Bool) (b : ℕ) → Contains (if test then late ++ next_birth c.geometry history ∷ [] else late) b
              → (next_birth c.geometry at_flip ≤ b) × (b < next_birth c.geometry (history_after c s history))
          born_then false b there = let was = o.since.late_born b there in (was.0, (let before = was.1 in let more = longer in omega (arith, before, more)))
          born_then true b there = elim (Contains-push_cases late (next_birth c.geometry history) b there) [
            | inl old ↦ let was = o.since.late_born b old in (was.0, (let before = was.1 in let more = longer in omega (arith, before, more)))
            | inr same ↦ ((let later = o.uses.later in omega (arith, same, later)), (let one = born_next in omega (arith, same, one)))
          ]

      none_then : f.is_making (flight_at (next c s) s) ≡ false
      none_then =
          let x = about_to_bear (flight_at c s) has in
          let own : flight_at (next c s) s ≡ took_of c.geometry (flight_at c s) (found_by c s) =
          ap (λ f. f s) (flight_at-next c s (let many = o.lawful.sized.flights in omega (arith, below, many))) ∙ upd_same (flight_at c) s (took_of c.geometry (flight_at c s) (found_by c s)) in
          ap f.is_making own ∙ makes_no_more c.geometry (flight_at c s) (found_by c s) x.dest x.shape x.is_new x.at

      holds_birth : Holds (next c s) (history_after c s history) at_flip (upd raised s false) (if raised s then late ++ next_birth c.geometry history ∷ [] else late)
      unfolding next
      holds_birth = record {
        lawful = (seat_steps c history s below o.lawful flying).lawful;
        young = young_then c history at_flip o.young o.lawful o.uses s below flying;
        uses = uses_step c history at_flip o.young o.lawful o.uses s below flying;
        since = since_then (raised s) refl;
        recent = λ t within making fresh. elim (upd_cases raised s false t) [
          | inl (e, q) ↦ never (sym (ap (λ k. f.is_making (flight_at (next c s) k)) e ∙ none_then) ∙ making)
          | inr (d, q) ↦ recent_then t within making (sym q ∙ fresh)
        ];
        shapes = shapes_then;
      }

  -- AN EVENT OF THE COLLECTOR

  holds_collect : is_flip (work_by_collector c) ≡ false → Holds (next_collected c) history at_flip raised late
  unfolding next_collected flight_at
  holds_collect none =
      let lawful_then = lawful_collected c history o.lawful in
      let cycle = same_cycle_then c history at_flip o.young o.lawful lawful_then o.uses none in
      record {
        lawful = lawful_then;
        young = o.young;
        uses = uses_collect c history at_flip o.young o.lawful lawful_then o.uses none;
        since = o.since;
        recent = λ s within making fresh. o.recent s within making fresh ∙ sym cycle;
        shapes = o.shapes;
      }

  holds_flip : is_flip (work_by_collector c) ≡ true → Holds (next_collected c) history history (is_raising c) []
  unfolding next_collected flight_at
  holds_flip flips = record {
    lawful = lawful_collected c history o.lawful;
    young = [];
    uses = uses_flip c history at_flip o.young o.lawful (lawful_collected c history o.lawful) o.uses flips;
    since = record { each = λ b since' below'. absurd (omega (arith, since', below')); late_born = λ b there. absurd (omega (arith, there.1)) };
    recent = λ s within making fresh. never (sym fresh ∙ and_from (nat_lt s (tasks c.geometry)) (f.is_making (flight_of c.flights s)) (lt-ltb s (tasks c.geometry) within) making);
    shapes = λ b there. refl;
  }

-- ANY ACTION

in_use_begin : (r : Trace) (seat : ℕ) (call' : Call) → InUse r → InUse (trace_act r (begin seat call'))
unfolding trace_act act
in_use_begin r seat call' o = by_test (λ (k : Running). Holds k.core k.history r.at_flip r.raised r.late) (may_begin r.running.core seat call') _ _
    (λ may.
    let c = r.running.core in
    let p = and_parts (nat_lt seat (tasks c.geometry) && nat_eq (flight_of c.flights seat).place 0) _ may in
    let below = ltb-true seat (tasks c.geometry) (and_parts (nat_lt seat (tasks c.geometry)) (nat_eq (flight_of c.flights seat).place 0) p.0).0 in
    holds_begin c r.running.history r.at_flip r.raised r.late o seat call' below (lawful_begun c r.running.history seat call' may o.lawful))
    (λ not'. o)

in_use_step : (r : Trace) (seat : ℕ) → InUse r → InUse (trace_act r (step seat))
unfolding trace_act act flight_at
in_use_step r seat o = each (is_busy r.running.core seat) (f.has_header (flight_of r.running.core.flights seat)) refl refl
  where
    each : (busy has : Bool) → is_busy r.running.core seat ≡ busy → f.has_header (flight_of r.running.core.flights seat) ≡ has
        → InUse (if busy && has
        then record {
          running = if busy then record { core = next r.running.core seat; history = history_after r.running.core seat r.running.history } else r.running;
          at_flip = r.at_flip;
          raised = upd r.raised seat false;
          late = if r.raised seat then r.late ++ next_birth r.running.core.geometry r.running.history ∷ [] else r.late;
        }
        else record r { running = if busy then record { core = next r.running.core seat; history = history_after r.running.core seat r.running.history } else r.running })
    each false has e i = o
    each true has e i =
        let c = r.running.core in
        let p = and_parts (nat_lt seat (tasks c.geometry)) (not (nat_eq (flight_of c.flights seat).place 0)) e in
        let below = ltb-true seat (tasks c.geometry) p.0 in
        let flying = in_flight (flight_of c.flights seat).place (not-true (nat_eq (flight_of c.flights seat).place 0) p.1) in
        elim has as (λ (test : Bool). f.has_header (flight_of c.flights seat) ≡ test → InUse (if test
        then record {
          running = record { core = next c seat; history = history_after c seat r.running.history };
          at_flip = r.at_flip;
          raised = upd r.raised seat false;
          late = if r.raised seat then r.late ++ next_birth c.geometry r.running.history ∷ [] else r.late;
        }
        else record r { running = record { core = next c seat; history = history_after c seat r.running.history } })) [
          | true ↦ λ i'. holds_birth c r.running.history r.at_flip r.raised r.late o seat below flying i'
          | false ↦ λ i'. holds_other c r.running.history r.at_flip r.raised r.late o seat below flying i'
        ] i

in_use_collect : (r : Trace) → InUse r → InUse (trace_act r collect)
unfolding trace_act act
in_use_collect r o = by_test InUse (is_flip (work_by_collector r.running.core)) _ _
    (λ flips. holds_flip r.running.core r.running.history r.at_flip r.raised r.late o flips) (λ none. holds_collect r.running.core r.running.history r.at_flip r.raised r.late o none)

pub in_use_act : (r : Trace) (a : Action) → InUse r → InUse (trace_act r a)
in_use_act r (begin seat call') o = in_use_begin r seat call' o
in_use_act r (step seat) o = in_use_step r seat o
in_use_act r collect o = in_use_collect r o

in_use_all : (r : Trace) (actions : List Action) → InUse r → InUse (fold trace_act r actions)
in_use_all r [] o = o
in_use_all r (a ∷ later) o = in_use_all (trace_act r a) later (in_use_act r a o)

-- at the start no seat has a call in flight
starts_idle : (g : Geometry) (s : ℕ) → s < tasks g → f.is_making (flight_at (opening g) s) ≡ false
unfolding opening flight_at flight_of idle
starts_idle g s within =
    let at : flight_of (map idle (range_with_len 0 (tasks g))) s ≡ idle s = get_or-map-range_with_len idle 0 (tasks g) s s (idle s) within (omega arith) in
    ap f.is_making at ∙ not_making_yet (idle s) (omega arith)

pub in_use_traced : (g : Geometry) (actions : List Action) → InUse (traced g actions)
unfolding traced trace_opening opening
in_use_traced g actions = in_use_all (trace_opening g) actions (record {
  lawful = opening_lawful g;
  young = [];
  uses = uses_opening g;
  since = record { each = λ b since' below'. absurd (omega (arith, since', below')); late_born = λ b there. absurd (omega (arith, there.1)) };
  recent = λ s within making fresh. never (sym (starts_idle g s within) ∙ making);
  shapes = λ b there. refl;
})
