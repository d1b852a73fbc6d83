-- What the collector does to the shared heap in one call, as the keeper's log tells it.
use Rattle.std.specs.Prelude.{◌≡◌, ◌≢◌, ℕ, ◌+◌, ◌<◌, ◌≤◌, List, [], ◌∷◌, ◌++◌, replicate, if◌then◌else◌}
use Rattle.hk_words.specs.declared.geometry.Geometry.{Geometry}
use Rattle.hk_core.specs.declared.spot.Work.{Work}
use Rattle.hk_core.specs.declared.spot.Work.TheVariants.{Useful, Worn}
use Rattle.hk_core.specs.Collect.{work_by_collector}
use Rattle.hk_core.specs.Run.{Action, begin, step, collect, run_from_opening}
use Rattle.hk_collect.specs.Works.{HasCauses}
use Rattle.hk_collect.specs.Used.{is_flip}
use Rattle.hk_table.specs.Actions.{collects}
use Rattle.hk_table.specs.Knows.{KeeperView}

-- what the events of the collector answer, among actions that are done after others: each by the run at which it was done
unfoldable pub answers : Geometry → (before later : List Action) → List Work
answers g before [] = []
answers g before (begin seat call ∷ later) = answers g (before ++ begin seat call ∷ []) later
answers g before (step seat ∷ later) = answers g (before ++ step seat ∷ []) later
answers g before (collect ∷ later) = work_by_collector (run_from_opening g before).core ∷ answers g (before ++ collect ∷ []) later

-- the last action is an event of the collector; its answer has its cause in the run at which it was done
pub record EndsWith (g : Geometry) (before later : List Action) (answer : Work) : Type 0 where
  pub front : List Action
  pub last : later ≡ front ++ collect ∷ []
  pub says : answer ≡ work_by_collector (run_from_opening g (before ++ front)).core
  pub causes : HasCauses (run_from_opening g (before ++ front)).core answer

-- how so many events of a budget came to their answer
pub data Answers (g : Geometry) (before later : List Action) (budget events : ℕ) (answer : Work) : Type 0 where
  -- the whole budget was used, and each event was useful
  useful : answer ≡ Useful → events ≡ budget → answers g before later ≡ replicate budget Useful → Answers g before later budget events answer
  -- the last of the events was the first that wasn't useful
  stopped : answer ≢ Useful → answer ≢ Worn → (few : ℕ) → events ≡ few + 1 → answers g before later ≡ replicate few Useful ++ answer ∷ []
      → EndsWith g before later answer → Answers g before later budget events answer
  -- each event was useful, and then a flip was due in the last cycle, which is no event
  worn : answer ≡ Worn → events < budget → answers g before later ≡ replicate events Useful → HasCauses (run_from_opening g (before ++ later)).core Worn
      → Answers g before later budget events answer

-- the flips that an answer tells
abbrev pub flips : Work → ℕ
flips answer = if is_flip answer then 1 else 0

-- An event of the collector adds no entry to the history, wherever it stands among the actions.
abbrev pub AddsNothing : Geometry → (before later : List Action) → Type 0
AddsNothing g before later = (front back : List Action) → later ≡ front ++ collect ∷ back
    → (run_from_opening g ((before ++ front) ++ collect ∷ [])).history ≡ (run_from_opening g (before ++ front)).history

-- So many events of the collector, at most a budget of them, and their answer.
pub record Collected (g : Geometry) (k : KeeperView) (budget : ℕ) (answer : Work) (events : ℕ) (k' : KeeperView) : Type 0 where
  pub later : List Action
  -- the keeper's log has gained the events, among the actions of the seats
  pub log : k'.log ≡ k.log ++ later
  pub gained : collects later ≡ replicate events collect
  pub few : events ≤ budget
  pub answered : Answers g k.log later budget events answer
  pub history : AddsNothing g k.log later
  -- the cycle is the next one exactly after a flip
  pub cycle : k'.spot.cycle ≡ k.spot.cycle + flips answer
  -- the keeper's seat is as it was besides
  pub made : k'.made ≡ k.made
  pub longest : k'.longest ≡ k.longest
  pub closed : k'.closed ≡ k.closed
