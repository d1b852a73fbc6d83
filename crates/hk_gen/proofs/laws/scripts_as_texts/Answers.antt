use Rattle.std.proofs.Common.{sym}
use Rattle.hk_gen.proofs.Statements.{high_text, low_text}
use Rattle.hk_gen.proofs.laws.scripts_as_texts.Goals as goal

pub returns : goal.returns
returns c = record { high = λ i work. sym (high_text i work); low = λ i. sym (low_text i) }
