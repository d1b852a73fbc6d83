-- Calls of the collector, one after the other.
use Rattle.std.proofs.Common.{◌≡◌, ◌≢◌, ℕ, ◌+◌, ◌≤◌, List, [], ◌∷◌, ◌++◌, replicate, refl, sym, ◌∙◌, ap, subst, arith, append-nil, append_assoc}
use Rattle.std.proofs.lemmas.List.{replicate-append-replicate}
use Rattle.std.proofs.lemmas.List.Elements.{filter-append}
use Rattle.hk_words.specs.declared.geometry.Geometry.{Geometry}
use Rattle.hk_core.specs.declared.spot.Work.{Work}
use Rattle.hk_core.specs.declared.spot.Work.TheVariants.{Useful, Worn}
use Rattle.hk_core.specs.Collect.{work_by_collector}
use Rattle.hk_core.specs.Run.{Action, collect, run, run_from_opening}
use Rattle.hk_collect.proofs.Running.{history_kept}
use Rattle.hk_collect.specs.Works.{HasCauses}
use Rattle.hk_table.specs.Actions.{is_collect}
use Rattle.hk_table.specs.Knows.{KeeperView}
use Rattle.hk_table.proofs.Keeps.{run_more}
use Rattle.hk_keeper.specs.Collected.{answers, EndsWith, Answers, useful, stopped, worn, flips, AddsNothing, Collected}
use Rattle.hk_keeper.proofs.Answering.{answers_more}

-- an event of the collector adds no entry
pub adds_nothing : (g : Geometry) (before later : List Action) → AddsNothing g before later
unfolding run
adds_nothing g before later front back is =
    ap (λ r. r.history) (run_more g (before ++ front) (collect ∷ [])) ∙ history_kept (run_from_opening g (before ++ front))

-- no event
pub nothing_yet : (g : Geometry) (k : KeeperView) → Collected g k 0 Useful 0 k
unfolding answers
nothing_yet g k = record {
  later = [];
  log = sym (append-nil k.log);
  gained = refl;
  few = omega arith;
  answered = useful refl refl refl;
  history = adds_nothing g k.log [];
  cycle = omega arith;
  made = refl;
  longest = refl;
  closed = refl;
}

-- after the answer Useful the budget is used up
all_useful : (g : Geometry) (before later : List Action) (budget events : ℕ) → Answers g before later budget events Useful
    → (events ≡ budget) × (answers g before later ≡ replicate budget Useful)
all_useful g before later budget events (useful is all says) = (all, says)
all_useful g before later budget events (stopped other not-worn few count says last) = absurd (other refl)
all_useful g before later budget events (worn is some says causes) = absurd (cc)

module _ (g : Geometry) (k k' : KeeperView) (m e : ℕ) (a : Collected g k m Useful e k') where
  pub as_many : e ≡ m
  as_many = (all_useful g k.log a.later m e a.answered).0

  module _ (n : ℕ) (answer : Work) (e' : ℕ) (k'' : KeeperView) (b : Collected g k' n answer e' k'') where
    later : List Action
    later = a.later ++ b.later

    -- a point of the second call, in the log of both
    point : (front : List Action) → k'.log ++ front ≡ k.log ++ (a.later ++ front)
    point front = ap (λ l. l ++ front) a.log ∙ append_assoc k.log a.later front

    says_all : answers g k.log (a.later ++ b.later) ≡ replicate m Useful ++ answers g k'.log b.later
    says_all = answers_more g k.log a.later b.later
        ∙ (λ i. (all_useful g k.log a.later m e a.answered).1 i ++ answers g (sym a.log i) b.later)

    last_of : EndsWith g k'.log b.later answer → EndsWith g k.log (a.later ++ b.later) answer
    last_of o = record {
      front = a.later ++ o.front;
      last = ap (λ l. a.later ++ l) o.last ∙ sym (append_assoc a.later o.front (collect ∷ []));
      says = o.says ∙ ap (λ l. work_by_collector (run_from_opening g l).core) (point o.front);
      causes = subst (λ l. HasCauses (run_from_opening g l).core answer) (point o.front) o.causes;
    }

    answers_both : Answers g k'.log b.later n e' answer → Answers g k.log (a.later ++ b.later) (m + n) (e + e') answer
    answers_both (useful is all says) = useful is (ap (λ x. x + e') as_many ∙ ap (λ x. m + x) all)
        (says_all ∙ ap (λ l. replicate m Useful ++ l) says ∙ replicate-append-replicate m n Useful)
    answers_both (stopped other not-worn few count says last) = stopped other not-worn (m + few) (let all = as_many in omega arith)
        (says_all ∙ ap (λ l. replicate m Useful ++ l) says ∙ sym (append_assoc (replicate m Useful) (replicate few Useful) (answer ∷ []))
        ∙ ap (λ l. l ++ answer ∷ []) (replicate-append-replicate m few Useful))
        (last_of last)
    answers_both (worn is some says causes) = worn is (let all = as_many in omega arith)
        (says_all ∙ ap (λ l. replicate m Useful ++ l) says ∙ replicate-append-replicate m e' Useful ∙ ap (λ x. replicate (x + e') Useful) (sym as_many))
        (subst (λ l. HasCauses (run_from_opening g l).core Worn) (point b.later) causes)

    stays : k.spot.cycle + flips Useful ≡ k.spot.cycle
    stays = omega arith

    -- a call after one that used its whole budget
    pub more : Collected g k (m + n) answer (e + e') k''
    more = record {
      later = a.later ++ b.later;
      log = b.log ∙ point b.later;
      gained = filter-append is_collect a.later b.later ∙ (λ i. a.gained i ++ b.gained i) ∙ replicate-append-replicate e e' collect;
      few = (let x = a.few in let y = b.few in omega arith);
      answered = answers_both b.answered;
      history = adds_nothing g k.log (a.later ++ b.later);
      cycle = b.cycle ∙ ap (λ x. x + flips answer) (a.cycle ∙ stays);
      made = b.made ∙ a.made;
      longest = b.longest ∙ a.longest;
      closed = b.closed ∙ a.closed;
    }

-- a call that stopped early would have done so with a larger budget
pub within : (g : Geometry) (k k' : KeeperView) (m budget : ℕ) (answer : Work) (events : ℕ) → answer ≢ Useful → m ≤ budget → Collected g k m answer events k' → Collected g k budget answer events k'
within g k k' m budget answer events other less c = record {
  later = c.later;
  log = c.log;
  gained = c.gained;
  few = (let x = c.few in omega arith);
  answered = so c.answered;
  history = c.history;
  cycle = c.cycle;
  made = c.made;
  longest = c.longest;
  closed = c.closed;
}
  where
    so : Answers g k.log c.later m events answer → Answers g k.log c.later budget events answer
    so (useful is all says) = absurd (other is)
    so (stopped not-useful not-worn few count says last) = stopped not-useful not-worn few count says last
    so (worn is some says causes) = worn is (omega arith) says causes
