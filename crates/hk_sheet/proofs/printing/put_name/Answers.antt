use Rattle.std.proofs.Common.{◌≡◌, ◌∙◌}
use Rattle.hk_sheet.proofs.Plain.{name_is_text}
use Rattle.hk_sheet.proofs.printing.put_name.Goals as goal

pub text_value-requires : goal.text_value-requires
text_value-requires c =
    let lent : c.deref.result.now ≡ c.args.name.now = c.deref.ensures.value ∙ c.name.view_is in
    rw lent (name_is_text c.args.name.now c.requires)
