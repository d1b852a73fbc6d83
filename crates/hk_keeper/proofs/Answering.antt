-- What the events among actions answer, where the actions come in two parts.
use Rattle.std.proofs.Common.{◌≡◌, List, [], ◌∷◌, ◌++◌, refl, sym, ◌∙◌, ap, append-nil, append_assoc}
use Rattle.hk_words.specs.declared.geometry.Geometry.{Geometry}
use Rattle.hk_core.specs.Collect.{work_by_collector}
use Rattle.hk_core.specs.Run.{Action, begin, step, collect, run_from_opening}
use Rattle.hk_table.specs.Actions.{collects}
use Rattle.hk_keeper.specs.Collected.{answers}

module _ (g : Geometry) where
  shift : (before a b : List Action) (x : Action) → answers g ((before ++ x ∷ []) ++ a) b ≡ answers g (before ++ x ∷ a) b
  shift before a b x = ap (λ l. answers g l b) (append_assoc before (x ∷ []) a)

  pub answers_more : (before a b : List Action) → answers g before (a ++ b) ≡ answers g before a ++ answers g (before ++ a) b
  unfolding answers
  answers_more before [] b = ap (λ l. answers g l b) (sym (append-nil before))
  answers_more before (begin seat call ∷ a) b = answers_more (before ++ begin seat call ∷ []) a b
      ∙ ap (λ l. answers g (before ++ begin seat call ∷ []) a ++ l) (shift before a b (begin seat call))
  answers_more before (step seat ∷ a) b = answers_more (before ++ step seat ∷ []) a b
      ∙ ap (λ l. answers g (before ++ step seat ∷ []) a ++ l) (shift before a b (step seat))
  answers_more before (collect ∷ a) b = ap (λ l. work_by_collector (run_from_opening g before).core ∷ l)
      (answers_more (before ++ collect ∷ []) a b ∙ ap (λ l. answers g (before ++ collect ∷ []) a ++ l) (shift before a b collect))

  -- actions of the seats answer nothing
  pub answers_none : (before later : List Action) → collects later ≡ [] → answers g before later ≡ []
  unfolding answers
  answers_none before [] none = refl
  answers_none before (begin seat call ∷ later) none = answers_none (before ++ begin seat call ∷ []) later none
  answers_none before (step seat ∷ later) none = answers_none (before ++ step seat ∷ []) later none
  answers_none before (collect ∷ later) none = absurd (cc)
