-- The number of the line, in digits.
use Rattle.std.proofs.Common.{[], ◌∷◌, ap, ◌∙◌}
use Rattle.std.specs.Prelude.{codes, decimal}
use Rattle.hk_front.specs.Text.{line}
use Rattle.hk_front.proofs.WordLemmas.{put_as}
use Rattle.hk_front.proofs.refusals.put_fault.Goals as goal

pub returns : goal.returns
returns g c =
    put_as _ _ _ _ _ _ _ (ap (λ n. line (codes "sheet" ∷ codes "script" ∷ c.args.task.now ∷ c.args.what.now ∷ n ∷ [])) (c.bytes.ensures.value ∙ c.digits-number.ensures ∙ ap decimal c.from.ensures))
    c.put_line.ensures.ok c.put_line.ensures.prefix c.put_line.ensures.cause
