-- The text of a high task spells its script.
use Rattle.std.proofs.Common.{◌∙◌}
use Rattle.hk_gen.specs.Made.{high_script}
use Rattle.hk_gen.proofs.Statements.{high_spelled}
use Rattle.hk_gen.proofs.scripts.high_script.Goals as goal

pub script-requires : goal.script-requires
script-requires c = (
  high_script c.args.field c.args.work,
  high_spelled c.args.field c.args.work _ c.requires.field c.requires.some c.requires.few (c.as_str.ensures.value ∙ c.in_ok-text.ensures),
)

pub returns : goal.returns
returns c =
    c.script.ensures (high_script c.args.field c.args.work)
    (high_spelled c.args.field c.args.work _ c.requires.field c.requires.some c.requires.few (c.as_str.ensures.value ∙ c.in_ok-text.ensures))
