use Rattle.std.proofs.Common.{◌∙◌, sym}
use Rattle.hk_script.proofs.Texts.{text_again}
use Rattle.hk_script.proofs.laws.one_script.Goals as goal

pub returns : goal.returns
returns c = λ limits text first second are a b. let e = sym (text_again limits are text first a) ∙ text_again limits are text second b in cc
