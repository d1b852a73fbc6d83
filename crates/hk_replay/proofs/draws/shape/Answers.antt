-- A shape is its numbers of fields.
use Rattle.std.proofs.Common.{ℕ, ◌+◌, ap, ◌∙◌}
use Rattle.hk_words.specs.Draws.{next, drawn}
use Rattle.hk_replay.specs.Making.{drawn_shape}
use Rattle.hk_replay.proofs.Shapes.{same_shape}
use Rattle.hk_replay.proofs.draws.shape.Goals as goal

pub returns-clause-value : goal.returns-clause-value
unfolding drawn_shape
returns-clause-value c = same_shape _ (drawn_shape _ _)
    (c.small-refs.ensures.value ∙ ap (drawn 3) c.small-refs.ensures.state)
    (ap (λ (n : ℕ). 1 + n) (c.small-nums.ensures.value ∙ ap (drawn 2) (c.small-nums.ensures.state ∙ ap next c.small-refs.ensures.state)))
