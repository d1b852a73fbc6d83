-- From steps to calls.
use Rattle.std.proofs.Common.{◌≡◌, ◌⊎◌, ℕ, ◌+◌, ◌<◌, ◌≤◌, true, false, List, [], ◌∷◌, ◌++◌, replicate, refl, sym, ◌∙◌, ap, subst, arith, inl, inr, ⊎_elim, append-nil, append_assoc, eq-eqb, None}
use Rattle.std.proofs.lemmas.List.{replicate-append-replicate}
use Rattle.std.proofs.lemmas.List.Elements.{filter-append}
use Rattle.std.proofs.lemmas.List.Sums.{fold-append}
use Rattle.std.proofs.lemmas.Bool.Decides.{nat_tests}
use Rattle.std.specs.Prelude.{nat_eq}
use Rattle.hk_words.specs.declared.geometry.Geometry.{Geometry}
use Rattle.hk_words.specs.declared.call.Call.{Call}
use Rattle.hk_words.specs.declared.call.Call.TheVariants as call
use Rattle.hk_model.specs.Heap.{opening_of}
use Rattle.hk_model.specs.History.{History, Legal, of_seat}
use Rattle.hk_model.proofs.Histories.{Legal_from-push}
use Rattle.hk_model.proofs.Lasting.{legal_begins}
use Rattle.hk_collect.proofs.Running.{legal_from_opening}
use Rattle.hk_core.specs.declared.flight.Flight.{Flight}
use Rattle.hk_core.specs.declared.outcome.Step.{Step}
use Rattle.hk_core.specs.declared.outcome.Step.TheVariants.{Going, Ended}
use Rattle.hk_core.specs.declared.outcome.Outcome.{Outcome}
use Rattle.hk_core.specs.State.{flight_of}
use Rattle.hk_core.specs.Step.{outcome_at, step_of, answer_by, history_after, next}
use Rattle.hk_words.specs.Bounds.{places_of}
use Rattle.hk_core.specs.Begin.{after_begin}
use Rattle.hk_core.specs.Turns.{steps_of}
use Rattle.hk_core.specs.Run.{Action, Running, begin, step, act, run, run_from_opening}
use Rattle.hk_core.proofs.Entries.{answers_entry}
use Rattle.hk_table.specs.Actions.{is_by, acts_of}
use Rattle.hk_table.specs.Knows.{PassView}
use Rattle.hk_table.specs.Deeds.{Deed, Trail, Stands, Goes, answered, most_rests, taken, refused_by}
use Rattle.hk_table.specs.Calls.{Gains, UnderWay, Called}
use Rattle.hk_table.proofs.Keeps.{run_more}
use Rattle.hk_table.proofs.Stepping.{is_run}
use Rattle.hk_table.proofs.Deeds.{IsRun, below_here, steps}
use Rattle.hk_table.proofs.Trails.{trail_on, trail_mine, one_entry, own_entry, same_tail, steps_both, steps_many, acts_many, steps_counted}

-- A STEP OF A CALL

acts_both : (s : ℕ) (a b : List Action) → acts_of s (a ++ b) ≡ acts_of s a ++ acts_of s b
acts_both s a b = filter-append (is_by s) a b

abbrev tail : ℕ → ℕ → List Action
tail s c = replicate c (step s) ++ step s ∷ []

own_tail : (s c : ℕ) → acts_of s (tail s c) ≡ replicate (c + 1) (step s)
own_tail s c = ap (acts_of s) (replicate-append-replicate c 1 (step s)) ∙ acts_many s (c + 1)

module _ (g : Geometry) (p : PassView) (call' : Call) where
  -- the actions of others come in between
  pub gains_others : (log others : List Action) (n : ℕ) → Gains g p call' log n → acts_of p.seat others ≡ [] → Gains g p call' (log ++ others) n
  gains_others log others n h none = record {
    between = h.between;
    later = h.later ++ others;
    is = ap (λ (l : List Action). l ++ others) h.is ∙ append_assoc (p.log ++ h.between) (begin p.seat call' ∷ h.later) others;
    others = h.others;
    own = acts_both p.seat h.later others ∙ (λ i. h.own i ++ none i) ∙ append-nil (replicate n (step p.seat));
    accepted = h.accepted;
    met = h.met;
  }

  -- and then steps of the seat
  pub gains_steps : (log : List Action) (n c : ℕ) → Gains g p call' log n → Gains g p call' (log ++ tail p.seat c) (n + (c + 1))
  gains_steps log n c h = record {
    between = h.between;
    later = h.later ++ tail p.seat c;
    is = ap (λ (l : List Action). l ++ tail p.seat c) h.is ∙ append_assoc (p.log ++ h.between) (begin p.seat call' ∷ h.later) (tail p.seat c);
    others = h.others;
    own = acts_both p.seat h.later (tail p.seat c) ∙ (λ i. h.own i ++ own_tail p.seat c i) ∙ replicate-append-replicate n (c + 1) (step p.seat);
    accepted = h.accepted;
    met = h.met;
  }

  -- what so many turns lead to
  pub data After (w : PassView) (answer : Step) (turns : ℕ) : Type 0 where
    goes_on : (n : ℕ) → turns ≤ n → answer ≡ Going → UnderWay g p call' w n → After w answer turns
    ends : (outcome : Outcome) → turns ≤ places_of call' → answer ≡ Ended outcome → Called g p call' outcome w → After w answer turns

  pub when_ended : (w : PassView) (answer : Step) (turns : ℕ) (outcome : Outcome) → After w answer turns → answer ≡ Ended outcome → Called g p call' outcome w × (turns ≤ places_of call')
  when_ended w answer turns outcome (goes_on n few is u) e = absurd (cc)
  when_ended w answer turns outcome (ends o few is u) e = (subst (λ (k : Outcome). Called g p call' k w) (let same : o ≡ outcome = cc in same) u, few)

  pub when_going : (w : PassView) (answer : Step) (turns : ℕ) → After w answer turns → answer ≡ Going → (n : ℕ) × (turns ≤ n) × UnderWay g p call' w n
  when_going w answer turns (goes_on n few is u) e = (n, few, u)
  when_going w answer turns (ends o few is u) e = absurd (cc)

  at_most : (k : Call) → places_of k ≤ 10
  at_most (call.Get reg field) = omega arith
  at_most (call.Put reg field value) = omega arith
  at_most (call.Load dest reg field) = omega arith
  at_most (call.Store reg field from) = omega arith
  at_most (call.Move dest from) = omega arith
  at_most (call.Clear dest) = omega arith
  at_most (call.New dest shape) = omega arith
  at_most (call.Same a b) = omega arith
  at_most (call.IsNull reg) = omega arith

  pub not_more : (w : PassView) (answer : Step) (turns : ℕ) → 10 < turns → After w answer turns → ⊥
  not_more w answer turns many (goes_on n few is u) = let most = at_most call' in let row = u.in_row in absurd (omega arith)
  not_more w answer turns many (ends o few is u) = let most = at_most call' in absurd (omega arith)

  module _ (log : List Action) (n c : ℕ) (gains : Gains g p call' log n) (w : PassView) (stands : Stands g w) (seat : w.seat ≡ p.seat) (begun : w.begun ≡ p.begun + 1)
      (log_is : w.log ≡ log ++ tail p.seat c) (x : Flight) (at : flight_of (run (run_from_opening g log) (replicate c (step p.seat))).core.flights p.seat ≡ x)
      (place : x.place ≡ (n + 1) + c) (call_is : x.call ≡ call') (more : History) (trail : Trail p w more) (turns : ℕ) (few : turns ≤ n)
      (accepts : refused_by p call' ≡ None) where
    abbrev start : Running
    start = run_from_opening g (p.log ++ gains.between)

    abbrev others_and : List Action
    others_and = gains.later ++ replicate c (step p.seat)

    abbrev last_run : Running
    last_run = run (record start { core = after_begin start.core p.seat call' }) others_and

    -- the run before the last step
    last_same : run (run_from_opening g log) (replicate c (step p.seat)) ≡ last_run
    unfolding run
    last_same =
        (λ i. run (run_from_opening g (gains.is i)) (replicate c (step p.seat)))
        ∙ (λ i. run (run_more g (p.log ++ gains.between) (begin p.seat call' ∷ gains.later) i) (replicate c (step p.seat)))
        ∙ sym (fold-append act (act start (begin p.seat call')) gains.later (replicate c (step p.seat)))
        ∙ (λ i. run (gains.accepted.begun i) others_and)

    here_run : IsRun g p.seat (run (run_from_opening g log) (replicate c (step p.seat)))
    here_run = subst (λ (r : Running). IsRun g p.seat r) (run_more g log (replicate c (step p.seat))) (is_run g (log ++ replicate c (step p.seat)) p.seat gains.met.seat)

    flight_last : flight_of last_run.core.flights p.seat ≡ x
    flight_last = sym (ap (λ (r : Running). flight_of r.core.flights p.seat) last_same) ∙ at

    -- the last step
    run_after : run_from_opening g w.log ≡ act last_run (step p.seat)
    unfolding run
    run_after =
        ap (run_from_opening g) log_is ∙ run_more g log (tail p.seat c)
        ∙ fold-append act (run_from_opening g log) (replicate c (step p.seat)) (step p.seat ∷ [])
        ∙ ap (λ (r : Running). act r (step p.seat)) last_same

    on : (x.place < places_of call') → w.flight.place ≡ x.place + 1 → w.flight.call ≡ call' → After w (step_of x) (turns + 1)
    unfolding step_of
    on less next' same = goes_on (n + (c + 1)) (omega arith) (going (not_last x.place (places_of call') less)) (record {
      stands = stands;
      seat = seat;
      begun = begun;
      gains = subst (λ (l : List Action). Gains g p call' l (n + (c + 1))) (sym log_is) (gains_steps log n c gains);
      more = more;
      trail = trail;
      place = omega arith;
      call_is = same;
      in_row = omega arith;
    })
      where
        not_last : (a b : ℕ) → a < b → nat_eq a b ≡ false
        not_last a b h = grind (arith, nat_tests)

        going : nat_eq x.place (places_of call') ≡ false → step_of x ≡ Going
        going e = rw (call_is, e) refl

    shape_last : x.place ≡ places_of call' → step_of x ≡ Ended (outcome_at x call')
    unfolding step_of
    shape_last last = rw (call_is, eq-eqb x.place (places_of call') last) refl

    inner : (a b : Outcome) → Ended a ≡ Ended b → a ≡ b
    inner a b e = cc

    over : x.place ≡ places_of call' → w.flight.place ≡ 0 → After w (step_of x) (turns + 1)
    unfolding answer_by history_after
    over last idle =
        let count : steps_of p.seat others_and ≡ n + c = steps_both p.seat gains.later (replicate c (step p.seat)) ∙ (λ i. steps_counted p.seat n gains.later gains.own i + steps_many p.seat c i) in
        let lawful = is_run g (p.log ++ gains.between) p.seat gains.met.seat in
        let answers = answers_entry start p.seat call' others_and lawful.lawful (below_here g p.seat start lawful) gains.accepted.refused (omega arith) in
        let same_run : act last_run (step p.seat) ≡ record { core = next last_run.core p.seat; history = history_after last_run.core p.seat last_run.history } =
        steps g p.seat last_run (subst (λ (r : Running). IsRun g p.seat r) last_same here_run) (subst (λ (f : Flight). 1 ≤ f.place) (sym flight_last) (omega arith)) in
        let history : (run_from_opening g w.log).history ≡ history_after last_run.core p.seat last_run.history = ap (λ (r : Running). r.history) (run_after ∙ same_run) in
        let mine : w.mine ≡ p.mine ++ answers.adds.entry ∷ [] =
        sym stands.stands.all_mine ∙ (λ i. of_seat (history i) (seat i)) ∙ answers.adds.last ∙ ap (λ (l : History). l ++ answers.adds.entry ∷ []) gains.met.stands.all_mine in
        let only : more ≡ answers.adds.entry ∷ [] = same_tail p.mine more (answers.adds.entry ∷ []) (sym (trail_mine p w more trail) ∙ mine) in
        let one = one_entry p w more answers.adds.entry trail only in
        let saw = stands.stands.saw in
        let legal : Legal (opening_of g) w.seen = legal_begins (opening_of g) w.seen saw.0 (subst (Legal (opening_of g)) saw.1 (legal_from_opening g w.log)) in
        let says : step_of x ≡ Ended answers.outcome = ap step_of (sym flight_last) ∙ answers.answers in
        ends answers.outcome (let l = last in let q = place in omega arith) says (record {
          stands = stands;
          seat = seat;
          idle = idle;
          begun = begun;
          gains = subst (λ (l : List Action). Gains g p call' l (places_of call')) (sym log_is)
              (subst (λ (k : ℕ). Gains g p call' (log ++ tail p.seat c) k) (let l = last in let q = place in omega arith) (gains_steps log n c gains));
          accepted = accepts;
          entry = answers.adds.entry;
          before = one.before;
          entry_seat = own_entry p.seat w.seen p.mine answers.adds.entry (ap (of_seat w.seen) (sym seat) ∙ stands.stands.seen_mine ∙ mine);
          call_is = answers.adds.call;
          says = answers.adds.says;
          shape = (x, inner answers.outcome (outcome_at x call') (sym says ∙ shape_last last));
          mine = mine;
          seen = one.seen;
          saw = one.saw;
          legal = legal;
          answers = (Legal_from-push (opening_of g) one.before answers.adds.entry (subst (Legal (opening_of g)) one.seen legal)).1;
        })

    pub led : ((x.place < places_of call') × (w.flight.place ≡ x.place + 1) × (w.flight.call ≡ call')) ⊎ ((x.place ≡ places_of call') × (w.flight.place ≡ 0)) → After w (step_of x) (turns + 1)
    led leads = ⊎_elim (λ t. on t.0 t.1 t.2) (λ t. over t.0 t.1) leads

-- FROM WHAT A STEP TELLS

pub after_begin_step : (g : Geometry) (p q : PassView) (f : Flight) (found : ℕ) → f.seat ≡ p.seat → f.place ≡ 1 → 1 ≤ places_of f.call → refused_by p f.call ≡ None
    → Goes g (record { begins = true; flight = f }) p found q
    → After g p f.call q (answered most_rests g (taken g (record { begins = true; flight = f }) found) (step_of f)) 1
unfolding run
after_begin_step g p q f found own first some accepts go =
    let d : Deed = record { begins = true; flight = f } in
    let last = go.last (let one = first in omega arith) in
    let base = (p.log ++ go.between) ++ begin p.seat f.call ∷ [] in
    let gains : Gains g p f.call base 0 = record { between = go.between; later = []; is = refl; others = go.others; own = refl; accepted = go.accepted refl; met = go.met } in
    let log_is : q.log ≡ base ++ tail p.seat last.count =
    go.log ∙ (λ i. (p.log ++ go.between) ++ (begin (own i) f.call ∷ last.are i)) ∙ sym (append_assoc (p.log ++ go.between) (begin p.seat f.call ∷ []) (tail p.seat last.count)) in
    let at = (λ i. flight_of (run (run_more g (p.log ++ go.between) (begin (sym own i) f.call ∷ []) i) (replicate last.count (step p.seat))).core.flights p.seat) ∙ last.at in
    let place = last.place in
    subst (λ (a : Step). After g p f.call q a 1) (sym last.answers)
    (led g p f.call base 0 last.count gains q go.stands go.seat go.begun log_is last.last at (omega arith) last.call go.more go.trail 0 (omega arith) accepts last.leads)

pub after_step : (g : Geometry) (p q w : PassView) (call' : Call) (n found turns : ℕ) → turns ≤ n → refused_by p call' ≡ None → UnderWay g p call' q n → Goes g (record { begins = false; flight = q.flight }) q found w
    → After g p call' w (answered most_rests g (taken g (record { begins = false; flight = q.flight }) found) (step_of q.flight)) (turns + 1)
unfolding run
after_step g p q w call' n found turns few accepts u go =
    let places : places_of q.flight.call ≡ places_of call' = ap places_of u.call_is in
    let in_row = u.in_row in
    let at-place = u.place in
    let last = go.last (omega arith) in
    let base = q.log ++ go.between in
    let gains = gains_others g p call' q.log go.between n u.gains (subst (λ (s : ℕ). acts_of s go.between ≡ []) u.seat go.others) in
    let log_is : w.log ≡ base ++ tail p.seat last.count = go.log ∙ ap (λ (l : List Action). base ++ l) (last.are ∙ ap (λ (s : ℕ). tail s last.count) u.seat) in
    let at : flight_of (run (run_from_opening g base) (replicate last.count (step p.seat))).core.flights p.seat ≡ last.last =
    (λ i. flight_of (run (run_from_opening g base) (replicate last.count (step (sym u.seat i)))).core.flights (sym u.seat i)) ∙ last.at in
    let place = last.place in
    let begun : w.begun ≡ p.begun + 1 = go.begun ∙ (let b = u.begun in omega arith) in
    let leads = ⊎_elim (λ t. inl ((let a = t.0 in omega arith), t.1, t.2 ∙ u.call_is)) (λ t. inr ((let a = t.0 in omega arith), t.1)) last.leads in
    subst (λ (a : Step). After g p call' w a (turns + 1)) (sym last.answers)
    (led g p call' base n last.count gains w go.stands (go.seat ∙ u.seat) begun log_is last.last at (omega arith) (last.call ∙ u.call_is) (u.more ++ go.more)
    (trail_on p q w u.more go.more u.trail go.trail) turns few accepts leads)
