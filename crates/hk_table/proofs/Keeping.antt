-- An event of the collector, as one atomic step of the keeper, keeps the rule.
use Rattle.std.proofs.Common.{◌≡◌, ◌≢◌, ℕ, ◌<◌, ◌≤◌, List, [], ◌∷◌, ◌++◌, refl, sym, ◌∙◌, ap, subst, ⊎_elim, append-nil, Option, Some}
use Rattle.std.proofs.lemmas.List.Elements.{filter-append}
use Rattle.std.specs.Prelude.{All, slice_index, slice_set, slice_index_or}
use mathlib.Core.Option.{some}
use lib.ListN.{get_elem?}
use Rattle.atomic_table.specs.Table.{Me, keeps, Allows}
use Rattle.atomic_table.proofs.Lists.{at_set}
use Rattle.hk_words.specs.declared.geometry.Geometry.{Geometry}
use Rattle.hk_words.specs.Geometry.{tasks}
use Rattle.hk_words.specs.Row.{register_at}
use Rattle.hk_model.specs.History.{History, of_seat}
use Rattle.hk_core.specs.declared.flight.Flight.{Flight}
use Rattle.hk_core.specs.State.{flight_of}
use Rattle.hk_core.specs.declared.event.Event.{Event}
use Rattle.hk_core.specs.Event.{fired, fired_if, learnt, learnt_from, old_of, word_of, word_after, AmountFits, CanFire, CanFireIf}
use Rattle.hk_core.specs.Begin.{register_word}
use Rattle.hk_core.specs.Collect.{spot_event, spot_took, event_by_collector, found_by_collector, next_collected}
use Rattle.hk_core.specs.Run.{Action, collect, Running, act, run, run_from_opening}
use Rattle.hk_collect.proofs.Running.{lawful_from_opening, geometry_from_opening}
use Rattle.hk_collect.specs.SpotFits.{SpotFits}
use Rattle.hk_collect.specs.Laws.{LawfulSpotFits, LawfulCanCollect}
use Rattle.hk_table.specs.Actions.{Begins, is_by, is_collect, acts_of, collects}
use Rattle.hk_table.specs.Knows.{PassView, Closing, KeeperView, Knows, pass, told, note, ended, keeper, spent}
use Rattle.hk_table.specs.Rule.{fresh, StandsIn, PassFits, KeeperFits, Fits, NoKeeper, Apart, InOneRun}
use Rattle.hk_table.specs.Deeds.{learnt_by}
use Rattle.hk_table.specs.Seats.{CollectsFrom}
use Rattle.hk_table.specs.declared.view.View.{View}
use Rattle.hk_table.proofs.Collecting.{spot_leaves}
use Rattle.hk_table.proofs.Keeps.{run_more, begins_more, below_more}
use Rattle.hk_table.proofs.Knowing.{nothing_more}

module _ (fits-law : LawfulSpotFits) (can-law : LawfulCanCollect) (g : Geometry) (log : List Action) where
  abbrev r : Running
  r = run_from_opening g log

  abbrev log' : List Action
  log' = log ++ collect ∷ []

  abbrev r' : Running
  r' = run_from_opening g log'

  one : r' ≡ record r { core = next_collected r.core }
  unfolding run act
  one = run_more g log (collect ∷ [])

  same_g : r.core.geometry ≡ g
  same_g = geometry_from_opening g log

  row_one : r'.core.row ≡ fired_if r.core.row (event_by_collector r.core)
  unfolding next_collected
  row_one = ap (λ (x : Running). x.core.row) one

  flights_one : r'.core.flights ≡ r.core.flights
  unfolding next_collected
  flights_one = ap (λ (x : Running). x.core.flights) one

  begun_one : r'.core.begun ≡ r.core.begun
  unfolding next_collected
  begun_one = ap (λ (x : Running). x.core.begun) one

  spot_one : r'.core.spot ≡ spot_took r.core.geometry r.core.spot (found_by_collector r.core)
  unfolding next_collected
  spot_one = ap (λ (x : Running). x.core.spot) one

  history_one : r'.history ≡ r.history
  history_one = ap (λ (x : Running). x.history) one

  registers_one : (u reg : ℕ) → u < tasks g → reg < g.registers → register_word r'.core u reg ≡ register_word r.core u reg
  unfolding register_word event_by_collector
  registers_one u reg seat there =
      let same' = geometry_from_opening g log' in
      (λ i. slice_index (row_one i) (register_at (same' i) u reg))
      ∙ (λ i. slice_index (fired_if r.core.row (spot_event (same_g i) r.core.spot)) (register_at g u reg))
      ∙ spot_leaves g r.core.spot (subst (λ (z : Geometry). SpotFits z r.core.spot) same_g (fits-law r.core r.history (lawful_from_opening g log))) r.core.row u reg seat there
      ∙ (λ i. slice_index r.core.row (register_at (sym same_g i) u reg))

  acts_one : (t : ℕ) → acts_of t log' ≡ acts_of t log
  acts_one t = filter-append (is_by t) log (collect ∷ []) ∙ append-nil (acts_of t log)

  seen_one : (h : History) → Begins r.history h → Begins r'.history h
  seen_one h b = (b.0, history_one ∙ b.1)

  stands_one : (t : ℕ) (own : List Action) (seen mine : History) → StandsIn log r t own seen mine → StandsIn log' r' t own seen mine
  stands_one t own seen mine h = record {
    begins = begins_more log own (collect ∷ []) h.begins;
    acts = h.acts ∙ sym (acts_one t);
    saw = seen_one seen h.saw;
    seen_mine = h.seen_mine;
    all_mine = ap (λ (l : History). of_seat l t) history_one ∙ h.all_mine;
  }

  pass_one : (v : PassView) → PassFits g log r v → PassFits g log' r' v
  pass_one v h = record {
    seat = h.seat;
    stands = stands_one v.seat v.log v.seen v.mine h.stands;
    flight = ap (λ (l : List Flight). flight_of l v.seat) flights_one ∙ h.flight;
    begun = ap (λ (l : List ℕ). slice_index l v.seat) begun_one ∙ h.begun;
    registers = λ reg there. registers_one v.seat reg h.seat there ∙ h.registers reg there;
    count = h.count;
  }

  others_one : (k : Knows) → NoKeeper k → Fits g log r k → Fits g log' r' k
  others_one (pass g' v) none h = (h.0, pass_one v h.1)
  others_one (told g' v h') none h = (h.0, pass_one v h.1, seen_one h' h.2)
  others_one (note g' h') none h = (h.0, seen_one h' h.1)
  others_one (ended g' l) none h = h
  others_one (keeper g' k) none h = absurd none
  others_one spent none h = tt

  keeper_one : (k k' : KeeperView) → KeeperFits g log r k → k'.spot ≡ r'.core.spot → k'.log ≡ log' → k'.made ≡ k.made → k'.longest ≡ k.longest → k'.closed ≡ k.closed → KeeperFits g log' r' k'
  keeper_one k k' h spot log-is made longest closed = record {
    begins = ([], sym (append-nil k'.log ∙ log-is));
    acts = ap collects log-is;
    spot = sym spot;
    unmade = λ seat later below. pass_one (fresh g seat) (h.unmade seat (subst (λ (n : ℕ). n ≤ seat) made later) below);
    longest = subst (Begins log') (sym longest) (begins_more log k.longest (collect ∷ []) h.longest);
    closed = subst (λ (l : List Closing). All (λ c. StandsIn log' r' c.seat c.log c.seen c.mine × Begins k'.longest c.log × (c.seat < k'.made)) l) (sym closed)
        (λ i d below. let x = h.closed i d below in let c = slice_index_or k.closed i d in
        (stands_one c.seat c.log c.seen c.mine x.0, subst (λ (l : List Action). Begins l c.log) (sym longest) x.1, subst (λ (n : ℕ). c.seat < n) (sym made) x.2));
  }

pub keeper_step : LawfulSpotFits → LawfulCanCollect → (g : Geometry) (slots id : ℕ) (me : Me (Unit {0}) View) (k : KeeperView) (e : Event) (f : ℕ → ℕ) → me.0.knows ≡ keeper g k
    → spot_event g k.spot ≡ Some e → ((n : ℕ) → AmountFits e n → n < 18446744073709551616 → f n ≡ word_after e n)
    → Allows (InOneRun g) slots id me (word_of e) f (λ n m. (m.1 ≡ me.1) × CollectsFrom me.0.knows n m.0.knows)
unfolding fired fired_if old_of learnt event_by_collector found_by_collector
keeper_step fits-law can-law g slots id me k e f is asks same s h homes at small =
    let here = run_from_opening g h.log in
    let after = run_from_opening g (h.log ++ collect ∷ []) in
    let fits : KeeperFits g h.log here k = (subst (λ (x : Knows). Fits g h.log here x) is (h.views id me.0 at)).1 in
    let n = slice_index s.words (word_of e) in
    let found' = old_of here.core.row e in
    let same-word : n ≡ found' = ap (λ (row : List ℕ). slice_index row (word_of e)) h.words in
    let same-g = geometry_from_opening g h.log in
    let asked : spot_event here.core.geometry here.core.spot ≡ Some e = (λ i. spot_event (same-g i) (fits.spot i)) ∙ asks in
    let can : CanFire here.core.row e = subst (λ (o : Option Event). CanFireIf here.core.row o) asked (can-law here.core here.history (lawful_from_opening g h.log)) in
    let learnt-so : found_by_collector here.core ≡ learnt_by (spot_event g k.spot) n =
    ap (learnt here.core.row) asked ∙ ap (learnt_from e) (sym same-word) ∙ ap (λ (o : Option Event). learnt_by o n) (sym asks) in
    let k' : KeeperView = record {
      spot = spot_took g k.spot (learnt_by (spot_event g k.spot) n);
      log = h.log ++ collect ∷ [];
      made = k.made;
      longest = k.longest;
      closed = k.closed;
    } in
    let spot : k'.spot ≡ after.core.spot = sym (spot_one fits-law can-law g h.log ∙ (λ i. spot_took (same-g i) (fits.spot i) (learnt-so i))) in
    let keeps' : KeeperFits g (h.log ++ collect ∷ []) after k' = keeper_one fits-law can-law g h.log k k' fits spot refl refl refl refl in
    let w : View = record { knows = keeper g k' } in
    let words : slice_set s.words (word_of e) (f n) ≡ after.core.row =
    ap (slice_set s.words (word_of e)) (same n (subst (AmountFits e) (sym same-word) can.amount) small ∙ ap (word_after e) same-word)
    ∙ (λ i. slice_set (h.words i) (word_of e) (word_after e found'))
    ∙ sym (row_one fits-law can-law g h.log ∙ ap (fired_if here.core.row) asked) in
    let none : (j : ℕ) (u : View) → j ≢ id → get_elem? s.views j ≡ some u → NoKeeper u.knows = λ j u d t. subst (λ (x : Knows). Apart x u.knows) is (h.apart id j me.0 u (λ x. d (sym x)) at t) in (
      w,
      keeps,
      tt,
      record {
        log = h.log ++ collect ∷ [];
        seats = below_more (tasks g) h.log (collect ∷ []) h.seats tt;
        words = words;
        views = λ i u there. ⊎_elim (λ t. subst (λ (x : View). Fits g (h.log ++ collect ∷ []) after x.knows) t.1 (refl, keeps'))
            (λ t. others_one fits-law can-law g h.log u.knows (none i u t.0 t.1) (h.views i u t.1))
            (at_set s.views id i w u there);
        apart = λ i j x y d here' there.
            ⊎_elim
            (λ t. ⊎_elim (λ t'. absurd (d (t.0 ∙ sym t'.0))) (λ t'. subst (λ (z : View). Apart z.knows y.knows) t.1 (none j y t'.0 t'.1)) (at_set s.views id j w y there))
            (λ t. ⊎_elim (λ t'. subst (λ (z : View). Apart x.knows z.knows) t'.1 (as_before x.knows k k' refl refl (subst (λ (z : Knows). Apart x.knows z) is (h.apart i id x me.0 t.0 t.1 at))))
            (λ t'. h.apart i j x y d t.1 t'.1)
            (at_set s.views id j w y there))
            (at_set s.views id i w x here');
      },
      (
        refl,
        subst (λ (x : Knows). CollectsFrom x n (keeper g k')) (sym is) (
          k',
          refl,
          record {
            spot = refl;
            between = fits.begins.0;
            others = nothing_more (collects k.log) (collects fits.begins.0) (fits.acts ∙ ap collects fits.begins.1 ∙ filter-append is_collect k.log fits.begins.0);
            log = ap (λ (l : List Action). l ++ collect ∷ []) fits.begins.1;
            stands = sym spot;
            met = subst (λ (l : List Action). (run_from_opening g l).core.spot ≡ k.spot) fits.begins.1 fits.spot;
            finds = subst (λ (l : List Action). found_by_collector (run_from_opening g l).core ≡ learnt_by (spot_event g k.spot) n) fits.begins.1 learnt-so;
            made = refl;
            longest = refl;
            closed = refl;
          },
        ),
      ),
    )
  where
    as_before : (x : Knows) (a b : KeeperView) → b.made ≡ a.made → b.closed ≡ a.closed → Apart x (keeper g a) → Apart x (keeper g b)
    as_before (pass g' v) a b m c h = (subst (λ (n : ℕ). v.seat < n) (sym m) h.0, subst (λ (l : List Closing). All (λ y. y.seat ≢ v.seat) l) (sym c) h.1)
    as_before (told g' v h') a b m c h = (subst (λ (n : ℕ). v.seat < n) (sym m) h.0, subst (λ (l : List Closing). All (λ y. y.seat ≢ v.seat) l) (sym c) h.1)
    as_before (note g' h') a b m c h = tt
    as_before (ended g' h') a b m c h = tt
    as_before (keeper g' v) a b m c h = h
    as_before spent a b m c h = tt
