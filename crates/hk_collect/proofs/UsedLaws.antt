-- The laws of traced runs, from the facts that hold of them.
use Rattle.std.proofs.Common.{◌≡◌, ℕ, ◌<◌, ◌≤◌, Bool, true, false, inl, inr, refl, sym, subst, ◌∙◌, ap, arith, List, [], ◌∷◌}
use Rattle.std.proofs.lemmas.Bool.{cases_Bool, and_left, and_right, and_parts, lt-ltb, ltb-true}
use Rattle.std.specs.Prelude.{nat_eq, nat_lt, fold, Some, if◌then◌else◌}
use Rattle.hk_words.specs.declared.geometry.Geometry.{Geometry}
use Rattle.hk_words.specs.Geometry.{tasks, numbers}
use Rattle.hk_words.specs.Layout as layout
use Rattle.hk_words.specs.Row.{word_of}
use Rattle.hk_words.specs.Row.Slot.{Header}
use Rattle.hk_model.specs.Heap.{opening_of}
use Rattle.hk_model.specs.History.{History, bearer}
use Rattle.hk_model.proofs.Histories.{bearer_is_last, length-numbers_born}
use Rattle.hk_core.specs.Collect as collects
use Rattle.hk_core.specs.Collect.{work_by_collector}
use Rattle.hk_core.specs.Flights as f
use Rattle.hk_core.specs.Flights.{to_reserve}
use Rattle.hk_core.specs.Run.{Action, Running, begin, step, collect, act, run, run_from_opening}
use Rattle.hk_core.specs.State.{State, opening, flight_of}
use Rattle.hk_core.specs.Step as table
use Rattle.hk_core.specs.View.{words_of, decoded, raw, word_if, names_of, flight_at}
use Rattle.hk_core.specs.Colours.{spaces_of, shades_of, is_within}
use Rattle.hk_core.specs.Lawful.{Lawful, hands_of}
use Rattle.hk_core.proofs.Update.{upd_cases}
use Rattle.hk_collect.proofs.spots.SpotClaim.{own_hand}
use Rattle.hk_collect.specs.Measure.{NoneInFlight}
use Rattle.hk_collect.specs.Used.{Trace, BearsUsed, TracedIsRun, TracedKeepsGeometry, LateIsLater, NoneLate, KeepsNoneLate, ClaimedWasUsed, is_claimed, ReservedWasUsed, HeldWasUsed, CallsReserveUsed, CollectorReservesUsed, bears_next, is_raising, is_flip, next_birth, trace_act, trace_opening, traced}
use Rattle.hk_collect.specs.Runs.{is_grey}
use Rattle.hk_collect.proofs.Running.{geometry_from_opening}
use Rattle.hk_collect.proofs.Small.{by_test, not_making_yet}
use Rattle.hk_collect.proofs.UsedFacts.{grey_claimed}
use Rattle.hk_collect.proofs.UsedMarks.{zero_not_old}
use Rattle.hk_collect.proofs.UsedReserves.{call_reserves, line_reserves}
use Rattle.hk_collect.proofs.UsedRuns.{InUse, in_use_traced}
use Rattle.hk_collect.proofs.UsedTrace.{one_at_start}
use Rattle.hk_core.proofs.Shared.{never}

-- TRACED RUNS ARE RUNS

either : (test : Bool) (a b : Trace) (k : Running) → a.running ≡ k → b.running ≡ k → (if test then a else b).running ≡ k
either true a b k one other = one
either false a b k one other = other

trace_runs : (r : Trace) (a : Action) → (trace_act r a).running ≡ act r.running a
unfolding trace_act
trace_runs r (begin seat call) = refl
trace_runs r (step seat) = either (bears_next r.running.core seat) _ _ (act r.running (step seat)) refl refl
trace_runs r collect = either (is_flip (work_by_collector r.running.core)) _ _ (act r.running collect) refl refl

fold_runs : (r : Trace) (k : Running) (actions : List Action) → r.running ≡ k → (fold trace_act r actions).running ≡ fold act k actions
fold_runs r k [] e = e
fold_runs r k (a ∷ later) e = fold_runs (trace_act r a) (act k a) later (trace_runs r a ∙ ap (λ j. act j a) e)

pub traced_is_run : TracedIsRun
unfolding traced trace_opening run_from_opening run
traced_is_run g actions = fold_runs (trace_opening g) (record { core = opening g; history = [] }) actions refl

-- their geometry stays
pub traced_keeps_geometry : TracedKeepsGeometry
traced_keeps_geometry g actions = ap (λ (k : Running). k.core.geometry) (traced_is_run g actions) ∙ geometry_from_opening g actions

-- WHAT IS GREY WAS IN USE

-- a number is borne by one of the births that there are
pub borne_there : (c : State) (history : History) (n b : ℕ) → Lawful c history → bearer history n ≡ Some b → b < next_birth c.geometry history
borne_there c history n b h bears =
    let last = ((bearer_is_last history n b).0 bears).0 in
    omega (arith, last, length-numbers_born (opening_of c.geometry) history (one_at_start c.geometry) h.legal)

pub claimed_was_used : (r : Trace) → InUse r → (n : ℕ) → n < numbers r.running.core.geometry → is_claimed r.running.core n ≡ true → BearsUsed r n
unfolding is_claimed names_of
claimed_was_used r o n within claimed =
    let found = o.uses.marks.grey n within claimed in (
      found.0,
      found.1,
      elim found.2 [
        | inl reached ↦ inl reached
        | inr later ↦ elim (o.since.each found.0 later (borne_there r.running.core r.running.history n found.0 o.lawful found.1)) [
          | inl young ↦ absurd (found.3 young)
          | inr late ↦ inr late
        ]
      ],
    )

pub claimed_numbers_were_used : ClaimedWasUsed
claimed_numbers_were_used g actions n within claimed = claimed_was_used (traced g actions) (in_use_traced g actions) n within claimed

grey_was_used : (r : Trace) → InUse r → (n : ℕ) → n < numbers r.running.core.geometry → is_grey r.running.core n ≡ true → BearsUsed r n
unfolding is_claimed
grey_was_used r o n within grey =
    claimed_was_used r o n within (grey_claimed r.running.core.geometry (words_of r.running.core.geometry r.running.core.row) n grey)

pub grey_numbers_were_used : ReservedWasUsed
grey_numbers_were_used g actions n within grey = grey_was_used (traced g actions) (in_use_traced g actions) n within grey

-- a grey number is one of the geometry
grey_within : (c : State) (n : ℕ) → is_grey c n ≡ true → n < numbers c.geometry
unfolding words_of decoded raw word_if
grey_within c n grey = elim (cases_Bool (nat_lt n (numbers c.geometry))) [
  | inl within ↦ ltb-true n (numbers c.geometry) within
  | inr out ↦
      let w = words_of c.geometry c.row in
      let z = spaces_of c.geometry w.cycle in
      let p = and_parts (nat_eq (w.mark n) w.cycle) (is_within z z.old (w.place n)) grey in
      let unplaced : w.place n ≡ 0 = ap (λ (test : Bool). layout.header_place (if test then word_of c.geometry c.row (Header n) else 0)) out in
      let there : is_within z z.old 0 ≡ true = ap (is_within z z.old) (sym unplaced) ∙ p.1 in
      never (sym (zero_not_old z (omega arith)) ∙ there)
]

held_used : (r : Trace) → InUse r → (k item cycle : ℕ) → k ≤ tasks r.running.core.geometry
    → hands_of r.running.core.geometry (flight_at r.running.core) r.running.core.spot k ≡ to_reserve item cycle → BearsUsed r (layout.reference_number item)
unfolding shades_of
held_used r o k item cycle few holds =
    let grey = holder_grey in
    grey_was_used r o (layout.reference_number item) (grey_within r.running.core (layout.reference_number item) grey) grey
  where
    holder_grey : is_grey r.running.core (layout.reference_number item) ≡ true
    holder_grey = (o.lawful.facts.claims_unreserved k item cycle few holds).is_grey

pub held_was_used : HeldWasUsed
held_was_used g actions k item cycle few holds = held_used (traced g actions) (in_use_traced g actions) k item cycle few holds

-- THE LAWS

pub calls_reserve_used : CallsReserveUsed
unfolding table.event_by flight_at hands_of
calls_reserve_used g actions seat words below e =
    let r = traced g actions in
    let c = r.running.core in
    let x = flight_of c.flights seat in
    let found = call_reserves c.geometry x words e in
    let holds : hands_of c.geometry (flight_at c) c.spot seat ≡ to_reserve x.item (layout.w0_cycle x.word) = rw (lt-ltb seat (tasks c.geometry) below) found.1 in
    (found.0, held_used r (in_use_traced g actions) seat x.item (layout.w0_cycle x.word) (omega arith) holds)

pub collector_reserves_used : CollectorReservesUsed
unfolding collects.event_by_collector collects.spot_event
collector_reserves_used g actions words e =
    let r = traced g actions in
    let c = r.running.core in
    let t = c.spot in
    let found = line_reserves c.geometry t t.line refl words e in
    (found.0, held_used r (in_use_traced g actions) (tasks c.geometry) t.cell t.cycle (omega arith) (own_hand c.geometry (flight_at c) t ∙ found.1))

-- LATE BIRTHS

pub late_is_later : LateIsLater
late_is_later g actions birth there =
    let r = traced g actions in
    subst (λ (k : Geometry). (next_birth k r.at_flip ≤ birth) × (birth < next_birth k r.running.history)) (traced_keeps_geometry g actions) ((in_use_traced g actions).since.late_born birth there)

none_late_step : (r : Trace) (seat : ℕ) → NoneLate r → NoneLate (trace_act r (step seat))
unfolding trace_act
none_late_step r seat o = by_test NoneLate (bears_next r.running.core seat) _ _
    (λ _. record {
      none_raised = λ other. elim (upd_cases r.raised seat false other) [ inl (e, q) ↦ q | inr (d, q) ↦ q ∙ o.none_raised other ];
      none_late = rw (o.none_raised seat) o.none_late;
    })
    (λ _. record { none_raised = o.none_raised; none_late = o.none_late })

none_late_collect : (r : Trace) → (is_flip (work_by_collector r.running.core) ≡ true → NoneInFlight r.running.core) → NoneLate r → NoneLate (trace_act r collect)
unfolding trace_act
none_late_collect r idle o = by_test NoneLate (is_flip (work_by_collector r.running.core)) _ _
    (λ flips. record { none_raised = λ seat. none_raising seat (idle flips); none_late = refl })
    (λ _. record { none_raised = o.none_raised; none_late = o.none_late })
  where
    none_raising : (seat : ℕ) → NoneInFlight r.running.core → is_raising r.running.core seat ≡ false
    none_raising seat aside = elim (cases_Bool (nat_lt seat (tasks r.running.core.geometry))) [
      | inl within ↦
          let x = flight_of r.running.core.flights seat in
          let at = aside seat (ltb-true seat (tasks r.running.core.geometry) within) in
          and_right (nat_lt seat (tasks r.running.core.geometry)) (f.is_making x) (not_making_yet x (omega (arith, at)))
      | inr out ↦ and_left (nat_lt seat (tasks r.running.core.geometry)) (f.is_making (flight_of r.running.core.flights seat)) out
    ]

pub keeps_none_late : KeepsNoneLate
unfolding trace_act trace_opening
keeps_none_late = record {
  opening = λ g. record { none_raised = λ seat. refl; none_late = refl };
  begin = λ r seat call o. record { none_raised = o.none_raised; none_late = o.none_late };
  step = none_late_step;
  collect = none_late_collect;
}
