-- Each form of event, as the table does it for the keeper.
use Rattle.std.proofs.Common.{◌≡◌, ℕ, ◌+◌, ◌-◌, ◌%◌, ◌^◌, ◌<◌, refl, sym, ap, ◌∙◌, subst, Some, max}
use Rattle.std.specs.Prelude.{◌==◌, slice_index}
use prog.Atomic.{either}
use Rattle.atomic_table.specs.Table.{Me, Allows}
use Rattle.hk_words.specs.declared.geometry.Geometry.{Geometry}
use Rattle.hk_words.specs.Geometry.{row_length}
use Rattle.hk_core.specs.declared.event.Event.{Event}
use Rattle.hk_core.specs.declared.event.Event.TheVariants as event
use Rattle.hk_core.specs.Event.{word_of, learnt_from, CanFire, CanFireIf}
use Rattle.hk_core.specs.Collect.{spot_event, spot_took, event_by_collector}
use Rattle.hk_core.specs.Run.{run_from_opening}
use Rattle.hk_collect.specs.SpotFits.{SpotFits}
use Rattle.hk_collect.proofs.Fitting.{spot_fits, event_fires}
use Rattle.hk_collect.proofs.Running.{lawful_from_opening, geometry_from_opening}
use Rattle.hk_table.specs.Knows.{KeeperView, Knows, keeper}
use Rattle.hk_table.specs.Rule.{InOneRun}
use Rattle.hk_table.specs.Deeds.{learnt_by}
use Rattle.hk_table.specs.Seats.{Collected, CollectsFrom, Collects, the_keeper}
use Rattle.hk_table.specs.declared.view.View.{View}
use Rattle.hk_table.proofs.Firing.{Agrees, adds, subs, trades}
use Rattle.hk_table.proofs.Keeping.{keeper_step}

-- a keeper that stands in the run of its own log has a spot that fits, and the word of its event is in the row
module _ (g : Geometry) (k : KeeperView) (stands : (run_from_opening g k.log).core.spot ≡ k.spot) where
  pub keeper_fits : SpotFits g k.spot
  keeper_fits =
      let r = run_from_opening g k.log in
      subst (SpotFits g) stands (subst (λ (z : Geometry). SpotFits z r.core.spot) (geometry_from_opening g k.log) (spot_fits r.core r.history (lawful_from_opening g k.log)))

  pub keeper_within : (e : Event) → spot_event g k.spot ≡ Some e → word_of e < row_length g
  unfolding event_by_collector
  keeper_within e asks =
      let r = run_from_opening g k.log in
      let same = geometry_from_opening g k.log in
      let h = lawful_from_opening g k.log in
      let asked : event_by_collector r.core ≡ Some e = (λ i. spot_event (same i) (stands i)) ∙ asks in
      let can : CanFire r.core.row e = subst (λ o. CanFireIf r.core.row o) asked (event_fires r.core r.history h) in
      subst (λ (n : ℕ). word_of e < n) (h.sized.row ∙ ap row_length same) can.within

-- what was found tells no more than what was learnt
collects_so : (g : Geometry) (k k' : KeeperView) (m n : ℕ) → learnt_by (spot_event g k.spot) m ≡ learnt_by (spot_event g k.spot) n → Collects g k m k' → Collects g k n k'
collects_so g k k' m n same c = record {
  spot = c.spot ∙ ap (spot_took g k.spot) same;
  between = c.between;
  others = c.others;
  log = c.log;
  stands = c.stands;
  met = c.met;
  finds = c.finds ∙ same;
  made = c.made;
  longest = c.longest;
  closed = c.closed;
}

same_collected : (k : Knows) (g : Geometry) (v : KeeperView) → k ≡ keeper g v → (e : Event) → spot_event g v.spot ≡ Some e → (k' : Knows) (m n : ℕ)
    → learnt_from e m ≡ learnt_from e n → CollectsFrom k m k' → CollectsFrom k n k'
same_collected k g v is e asks k' m n same t =
    let t' : CollectsFrom (keeper g v) m k' = subst (λ (x : Knows). CollectsFrom x m k') is t in
    let by : (x : ℕ) → learnt_by (spot_event g v.spot) x ≡ learnt_from e x = λ x. ap (λ o. learnt_by o x) asks in
    subst (λ (x : Knows). CollectsFrom x n k') (sym is) (t'.0, t'.1, collects_so g v t'.0 m n (by m ∙ same ∙ sym (by n)) t'.2)

module _ (key g : Geometry) (same : key ≡ g) (slots id : ℕ) (me : Me (Unit {0}) View) (is : me.0.knows ≡ keeper g (the_keeper me.0.knows)) where
  allows : (e : Event) (f : ℕ → ℕ) → spot_event g (the_keeper me.0.knows).spot ≡ Some e → Agrees e f → Allows (InOneRun key) slots id me (word_of e) f (Collected me)
  allows e f asks agrees = subst (λ (z : Geometry). Allows (InOneRun z) slots id me (word_of e) f (Collected me)) (sym same)
      (keeper_step (λ c h l. spot_fits c h l) (λ c h l. event_fires c h l) g slots id me (the_keeper me.0.knows) e f is asks agrees)

  pub collects_load : (word : ℕ) → spot_event g (the_keeper me.0.knows).spot ≡ Some (event.Load word) → Allows (InOneRun key) slots id me word (λ n. n) (Collected me)
  collects_load word asks = allows (event.Load word) (λ n. n) asks (λ n fits small. refl)

  pub collects_swap : (word value : ℕ) → spot_event g (the_keeper me.0.knows).spot ≡ Some (event.Swap word value) → Allows (InOneRun key) slots id me word (λ _. value) (Collected me)
  collects_swap word value asks = allows (event.Swap word value) (λ _. value) asks (λ n fits small. refl)

  pub collects_add : (word amount : ℕ) → spot_event g (the_keeper me.0.knows).spot ≡ Some (event.Add word amount)
      → Allows (InOneRun key) slots id me word (λ n. (n + amount) % 2 ^ 64) (Collected me)
  collects_add word amount asks = allows (event.Add word amount) (λ n. (n + amount) % 2 ^ 64) asks (adds word amount)

  pub collects_sub : (word amount : ℕ) → spot_event g (the_keeper me.0.knows).spot ≡ Some (event.Sub word amount)
      → Allows (InOneRun key) slots id me word (λ n. (n + (2 ^ 64 - amount)) % 2 ^ 64) (Collected me)
  collects_sub word amount asks = allows (event.Sub word amount) (λ n. (n + (2 ^ 64 - amount)) % 2 ^ 64) asks (subs word amount)

  pub collects_max : (word value : ℕ) → spot_event g (the_keeper me.0.knows).spot ≡ Some (event.Max word value) → Allows (InOneRun key) slots id me word (λ n. max n value) (Collected me)
  collects_max word value asks = allows (event.Max word value) (λ n. max n value) asks (λ n fits small. refl)

  pub collects_trade : (word current new : ℕ) → spot_event g (the_keeper me.0.knows).spot ≡ Some (event.Trade word current new)
      → Allows (InOneRun key) slots id me word (λ n. either (n == current) new n) (Collected me)
  collects_trade word current new asks = allows (event.Trade word current new) (λ n. either (n == current) new n) asks (trades word current new)

  -- a store says nothing of what it finds
  pub collects_store : (word value : ℕ) → spot_event g (the_keeper me.0.knows).spot ≡ Some (event.Write word value) → Allows (InOneRun key) slots id me word (λ _. value) (λ _. Collected me value)
  collects_store word value asks s holds homes at small =
      let t = allows (event.Write word value) (λ _. value) asks (λ n fits small. refl) s holds homes at small in
      (t.0, t.1, t.2, t.3, (t.4.0, same_collected me.0.knows g (the_keeper me.0.knows) is (event.Write word value) asks t.0.knows (slice_index s.words word) value refl t.4.1))
