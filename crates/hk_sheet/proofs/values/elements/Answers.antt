use Rattle.std.proofs.Common.{sym, ◌∙◌}
use Rattle.toml.specs.View.{view}
use Rattle.hk_sheet.proofs.Elements.{elements-view, elements_of-array}
use Rattle.hk_sheet.proofs.values.elements.Goals as goal

pub returns-in-Some : goal.returns-in-Some
returns-in-Some c =
    rw c.as_slice.ensures.value (elements-view c.in-Some.items.now.items ∙ sym (elements_of-array (view c.args.value.now) _ c.in-Some.ensures))
