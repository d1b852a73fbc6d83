use Rattle.std.proofs.Common.{◌≡◌, ◌∙◌}
use Rattle.hk_script.specs.Printing.{text_of}
use Rattle.hk_sheet.proofs.Plain.{script_is_text}
use Rattle.hk_sheet.proofs.printing.put_script.Goals as goal

pub text_value-requires : goal.text_value-requires
text_value-requires c =
    let printed : c.deref.result.now ≡ text_of c.args.script.now = c.deref.ensures.value ∙ c.in_ok-text.ensures.text in
    rw printed (script_is_text c.args.script.now c.requires)
