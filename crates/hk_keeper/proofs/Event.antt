-- One event of the keeper, as a call of one.
use Rattle.std.proofs.Common.{◌≡◌, ◌≢◌, ℕ, ◌+◌, List, [], ◌∷◌, ◌++◌, refl, sym, ◌∙◌, ap, subst, arith, append-nil, append_assoc, Option, Some, None}
use Rattle.std.proofs.lemmas.List.Elements.{filter-append}
use Rattle.hk_words.specs.declared.geometry.Geometry.{Geometry}
use Rattle.hk_core.specs.declared.event.Event.{Event}
use Rattle.hk_core.specs.declared.spot.Work.{Work}
use Rattle.hk_core.specs.declared.spot.Work.TheVariants.{Useful, Flipped, Lost, BusyFrame, BusyObject, Unlinked, Grey, LiveOver, Worn}
use Rattle.hk_core.specs.Collect.{spot_event, spot_work, event_by_collector, work_by_collector}
use Rattle.hk_core.specs.Run.{Action, collect, Running, run_from_opening}
use Rattle.hk_collect.specs.Works.{HasCauses, IsWorn}
use Rattle.hk_collect.proofs.Causes.{has_causes}
use Rattle.hk_collect.proofs.Worn.{event_unless_worn}
use Rattle.hk_collect.proofs.Running.{lawful_from_opening, geometry_from_opening}
use Rattle.hk_table.specs.Actions.{is_collect}
use Rattle.hk_table.specs.Deeds.{learnt_by}
use Rattle.hk_table.specs.Knows.{KeeperView, Knows, keeper}
use Rattle.hk_table.specs.Seats.{Collects, CollectsFrom, the_keeper}
use Rattle.hk_keeper.specs.Collected.{answers, flips, EndsWith, Answers, useful, stopped, worn, Collected}
use Rattle.hk_keeper.proofs.Answering.{answers_more, answers_none}
use Rattle.hk_keeper.proofs.Cycle.{cycle_after}
use Rattle.hk_keeper.proofs.Together.{adds_nothing}

-- what the keeper knows after its step
pub keeper_after : (g : Geometry) (before after : Knows) (k : KeeperView) (found : ℕ) → before ≡ keeper g k → CollectsFrom before found after
    → (after ≡ keeper g (the_keeper after)) × Collects g k found (the_keeper after)
keeper_after g before after k found is t =
    let u : CollectsFrom (keeper g k) found after = subst (λ (x : Knows). CollectsFrom x found after) is t in
    let same : u.0 ≡ the_keeper after = sym (ap the_keeper u.1) in
    (u.1 ∙ ap (keeper g) same, subst (λ (x : KeeperView). Collects g k found x) same u.2)

-- one event, by its answer
one_answer : (g : Geometry) (before later : List Action) (answer : Work) → answer ≢ Worn → answers g before later ≡ answer ∷ [] → EndsWith g before later answer → Answers g before later 1 1 answer
one_answer g before later Useful event says last = useful refl refl says
one_answer g before later Flipped event says last = stopped (λ e. absurd (cc)) event 0 refl says last
one_answer g before later (Lost n) event says last = stopped (λ e. absurd (cc)) event 0 refl says last
one_answer g before later (BusyFrame n) event says last = stopped (λ e. absurd (cc)) event 0 refl says last
one_answer g before later (BusyObject n) event says last = stopped (λ e. absurd (cc)) event 0 refl says last
one_answer g before later (Unlinked n) event says last = stopped (λ e. absurd (cc)) event 0 refl says last
one_answer g before later (Grey n) event says last = stopped (λ e. absurd (cc)) event 0 refl says last
one_answer g before later (LiveOver n) event says last = stopped (λ e. absurd (cc)) event 0 refl says last
one_answer g before later Worn event says last = absurd (event refl)

module _ (g : Geometry) (k k' : KeeperView) (found : ℕ) (c : Collects g k found k') (e : Event) (asks : spot_event g k.spot ≡ Some e) where
  abbrev at : Running
  at = run_from_opening g (k.log ++ c.between)

  abbrev learnt : ℕ
  learnt = learnt_by (spot_event g k.spot) found

  its_work : work_by_collector at.core ≡ spot_work g k.spot learnt
  unfolding work_by_collector
  its_work = λ i. spot_work (geometry_from_opening g (k.log ++ c.between) i) (c.met i) (c.finds i)

  its_event : event_by_collector at.core ≡ Some e
  unfolding event_by_collector
  its_event = (λ i. spot_event (geometry_from_opening g (k.log ++ c.between) i) (c.met i)) ∙ asks

  not_worn : work_by_collector at.core ≢ Worn
  not_worn is =
      let none : event_by_collector at.core ≡ None = ((has_causes at.core).worn.0 is).no_event in
      let apart : Some e ≡ None = sym its_event ∙ none in
      absurd (cc)

  says_one : answers g k.log (c.between ++ collect ∷ []) ≡ work_by_collector at.core ∷ []
  unfolding answers
  says_one = answers_more g k.log c.between (collect ∷ []) ∙ ap (λ l. l ++ answers g (k.log ++ c.between) (collect ∷ [])) (answers_none g k.log c.between c.others)

  one_event_at : Collected g k 1 (work_by_collector at.core) 1 k'
  one_event_at = record {
    later = c.between ++ collect ∷ [];
    log = c.log ∙ append_assoc k.log c.between (collect ∷ []);
    gained = filter-append is_collect c.between (collect ∷ []) ∙ ap (λ l. l ++ collect ∷ []) c.others;
    few = omega arith;
    answered = one_answer g k.log (c.between ++ collect ∷ []) (work_by_collector at.core) not_worn says_one
        (record { front = c.between; last = refl; says = refl; causes = has_causes at.core });
    history = adds_nothing g k.log (c.between ++ collect ∷ []);
    cycle = ap (λ t. t.cycle) c.spot ∙ cycle_after g k.spot learnt ∙ ap (λ w. k.spot.cycle + flips w) (sym its_work);
    made = c.made;
    longest = c.longest;
    closed = c.closed;
  }

  pub one_event : Collected g k 1 (spot_work g k.spot learnt) 1 k'
  one_event = subst (λ (w : Work). Collected g k 1 w 1 k') its_work one_event_at

-- a flip that is due in the last cycle is no event
pub no_event : (g : Geometry) (k : KeeperView) → (run_from_opening g k.log).core.spot ≡ k.spot → spot_event g k.spot ≡ None → Collected g k 1 Worn 0 k
unfolding answers event_by_collector
no_event g k stands none =
    let r = run_from_opening g k.log in
    let asks : event_by_collector r.core ≡ None = (λ i. spot_event (geometry_from_opening g k.log i) (stands i)) ∙ none in
    let is : IsWorn r.core = (event_unless_worn r.core r.history (lawful_from_opening g k.log)).0 asks in
    let causes : HasCauses r.core Worn = subst (λ (w : Work). HasCauses r.core w) ((has_causes r.core).worn.1 is) (has_causes r.core) in
    record {
      later = [];
      log = sym (append-nil k.log);
      gained = refl;
      few = omega arith;
      answered = worn refl (omega arith) refl (subst (λ l. HasCauses (run_from_opening g l).core Worn) (sym (append-nil k.log)) causes);
      history = adds_nothing g k.log [];
      cycle = omega arith;
      made = refl;
      longest = refl;
      closed = refl;
    }

-- an option that is no value
pub none_of : {A : Type 0} (o : Option A) → ((x : A) → o ≡ Some x → ⊥) → o ≡ None
none_of None other = refl
none_of (Some x) other = absurd (other x refl)
