-- The text of a low task spells its script.
use Rattle.std.proofs.Common.{◌∙◌}
use Rattle.hk_gen.specs.Made.{low_script}
use Rattle.hk_gen.proofs.Statements.{low_spelled}
use Rattle.hk_gen.proofs.scripts.low_script.Goals as goal

pub script-requires : goal.script-requires
script-requires c = (
  low_script c.args.field,
  low_spelled c.args.field _ c.requires (c.as_str.ensures.value ∙ c.in_ok-text.ensures),
)

pub returns : goal.returns
returns c =
    c.script.ensures (low_script c.args.field)
    (low_spelled c.args.field _ c.requires (c.as_str.ensures.value ∙ c.in_ok-text.ensures))
