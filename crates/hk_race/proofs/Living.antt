-- What the last event of the collector answers, as its turns go on.
use Rattle.std.proofs.Common.{◌≡◌, ℕ, suc, zero, ◌+◌, ◌<◌, ◌≤◌, List, [], ◌∷◌, ◌++◌, replicate, refl, sym, ◌∙◌, ap, subst, arith, append-nil, append_assoc, None, false, IfSome, min}
use Rattle.std.proofs.Math.Nat.{min-le_left}
use Rattle.hk_words.specs.declared.geometry.Geometry.{Geometry}
use Rattle.hk_core.specs.declared.spot.Work.{Work}
use Rattle.hk_core.specs.declared.spot.Work.TheVariants as work
use Rattle.hk_core.specs.Run.{Action, collect, run_from_opening}
use Rattle.hk_collect.proofs.Running.{geometry_from_opening}
use Rattle.hk_collect.specs.Works.{HasCauses, FindsLiveOver}
use Rattle.hk_core.specs.State.{opening_spot}
use Rattle.hk_table.specs.Knows.{KeeperView}
use Rattle.hk_table.specs.Seats.{keeper_from}
use Rattle.hk_keeper.specs.Collected.{answers, Answers, useful, stopped, worn, Collected}
use Rattle.hk_keeper.proofs.Answering.{answers_more}
use Rattle.hk_race.specs.Lives.{is_last, live_in, last_live, live_of, reserved_by}
use Rattle.hk_race.proofs.Rising.{found_reserved}

last_more : (before : List Work) (answer : Work) → last_live (before ++ answer ∷ []) ≡ live_in answer
last_more [] answer = refl
last_more (x ∷ []) answer = refl
last_more (x ∷ y ∷ before) answer = last_more (y ∷ before) answer

useful_on : (before : List Work) (n : ℕ) → last_live before ≡ None → last_live (before ++ replicate n work.Useful) ≡ None
useful_on before zero none = ap last_live (append-nil before) ∙ none
useful_on before (suc n) none =
    ap last_live (sym (append_assoc before (work.Useful ∷ []) (replicate n work.Useful)))
    ∙ useful_on (before ++ work.Useful ∷ []) n (last_more before work.Useful)

-- after a turn the last event has answered what the turn answers
pub live_after : (g : Geometry) (k k' : KeeperView) (budget events : ℕ) (answer : Work) → live_of g k.log ≡ None → Collected g k budget answer events k' → live_of g k'.log ≡ live_in answer
unfolding live_of
live_after g k k' budget events answer none c = by_answer c.answered
  where
    parts : answers g [] k'.log ≡ answers g [] k.log ++ answers g k.log c.later
    parts = ap (answers g []) c.log ∙ answers_more g [] k.log c.later

    by_answer : Answers g k.log c.later budget events answer → last_live (answers g [] k'.log) ≡ live_in answer
    by_answer (useful is all says) =
        ap last_live (parts ∙ ap (λ l. answers g [] k.log ++ l) says) ∙ useful_on (answers g [] k.log) budget none ∙ sym (ap live_in is)
    by_answer (stopped other not-worn few count says last) =
        ap last_live (parts ∙ ap (λ l. answers g [] k.log ++ l) says ∙ sym (append_assoc (answers g [] k.log) (replicate few work.Useful) (answer ∷ [])))
        ∙ last_more (answers g [] k.log ++ replicate few work.Useful) answer
    by_answer (worn is some says causes) =
        ap last_live (parts ∙ ap (λ l. answers g [] k.log ++ l) says) ∙ useful_on (answers g [] k.log) events none ∙ sym (ap live_in is)

-- at the start no event was done
pub live_first : (g : Geometry) → live_of g [] ≡ None
unfolding live_of answers
live_first g = refl

-- an answer after which the collector goes on, or with too many live words, or of no further cycle
pub goes_on_unlive : (answer : Work) → is_last answer ≡ false → live_in answer ≡ None
goes_on_unlive work.Useful on = refl
goes_on_unlive work.Flipped on = refl
goes_on_unlive (work.Lost n) on = refl
goes_on_unlive (work.BusyFrame seat) on = refl
goes_on_unlive (work.BusyObject n) on = refl
goes_on_unlive (work.Unlinked place) on = refl
goes_on_unlive (work.Grey n) on = refl
goes_on_unlive (work.LiveOver words) on = absurd (cc)
goes_on_unlive work.Worn on = absurd (cc)

-- the first cycle
pub first_cycle : (k : KeeperView) (made : ℕ) → k ≡ keeper_from made → 1 ≤ k.spot.cycle
unfolding opening_spot
first_cycle k made is = subst (λ (v : KeeperView). 1 ≤ v.spot.cycle) (sym is) (omega arith)

pub one_more : (a most now : ℕ) → now ≡ min (a + 1) most → now ≤ a + 1
one_more a most now is = let few = min-le_left (a + 1) most in omega (arith, is, few)

-- words that are too many are above those that were declared
above_live : (g : Geometry) (log : List Action) (words : ℕ) → HasCauses (run_from_opening g log).core (work.LiveOver words) → g.live < words
above_live g log words causes =
    let finds : FindsLiveOver (run_from_opening g log).core words = (causes.live_over words).0 refl in
    subst (λ (h : Geometry). h.live < words) (geometry_from_opening g log) finds.over

pub above_by : (g : Geometry) (k k' : KeeperView) (budget events : ℕ) (answer : Work) → Collected g k budget answer events k' → IfSome (live_in answer) (λ words. g.live < words)
above_by g k k' budget events (work.LiveOver words) c = by_answer c.answered
  where
    by_answer : Answers g k.log c.later budget events (work.LiveOver words) → g.live < words
    by_answer (useful is all says) = absurd (cc)
    by_answer (stopped other not-worn few count says last) = above_live g (k.log ++ last.front) words last.causes
    by_answer (worn is some says causes) = absurd (cc)
above_by g k k' budget events work.Useful c = tt
above_by g k k' budget events work.Flipped c = tt
above_by g k k' budget events (work.Lost n) c = tt
above_by g k k' budget events (work.BusyFrame seat) c = tt
above_by g k k' budget events (work.BusyObject n) c = tt
above_by g k k' budget events (work.Unlinked place) c = tt
above_by g k k' budget events (work.Grey n) c = tt
above_by g k k' budget events work.Worn c = tt

-- and they are reserved
pub within_by : (g : Geometry) (k k' : KeeperView) (budget events : ℕ) (answer : Work) → Collected g k budget answer events k' → IfSome (live_in answer) (λ words. words ≤ reserved_by g k'.log)
within_by g k k' budget events (work.LiveOver words) c = by_answer c.answered
  where
    by_answer : Answers g k.log c.later budget events (work.LiveOver words) → words ≤ reserved_by g k'.log
    by_answer (useful is all says) = absurd (cc)
    by_answer (stopped other not-worn few count says last) =
        let finds : FindsLiveOver (run_from_opening g (k.log ++ last.front)).core words = (last.causes.live_over words).0 refl in
        let log_is : k'.log ≡ (k.log ++ last.front) ++ collect ∷ [] = c.log ∙ ap (λ (l : List Action). k.log ++ l) last.last ∙ sym (append_assoc k.log last.front (collect ∷ [])) in
        subst (λ (l : List Action). words ≤ reserved_by g l) (sym log_is) (found_reserved g (k.log ++ last.front) words finds)
    by_answer (worn is some says causes) = absurd (cc)
within_by g k k' budget events work.Useful c = tt
within_by g k k' budget events work.Flipped c = tt
within_by g k k' budget events (work.Lost n) c = tt
within_by g k k' budget events (work.BusyFrame seat) c = tt
within_by g k k' budget events (work.BusyObject n) c = tt
within_by g k k' budget events (work.Unlinked place) c = tt
within_by g k k' budget events (work.Grey n) c = tt
within_by g k k' budget events work.Worn c = tt
