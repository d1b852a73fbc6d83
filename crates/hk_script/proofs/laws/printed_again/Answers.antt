use Rattle.hk_script.specs.Printing.{text_of}
use Rattle.hk_script.proofs.Texts.{text_again}
use Rattle.hk_script.proofs.Printed.{script_spelled}
use Rattle.hk_script.proofs.laws.printed_again.Goals as goal

pub returns : goal.returns
returns c = λ limits script are h. (script_spelled limits are script h, text_again limits are (text_of script) script (script_spelled limits are script h))
