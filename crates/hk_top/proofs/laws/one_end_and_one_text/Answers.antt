-- Words and bytes call for one end, and for one text.
use Rattle.std.specs.Prelude.{map}
use Rattle.std.specs.String.{string_bytes}
use Rattle.hk_top.specs.Tool.{asked}
use Rattle.hk_top.proofs.OneCall.{one_end, one_text}
use Rattle.hk_top.proofs.laws.one_end_and_one_text.Goals as goal

pub returns-clause-status : goal.returns-clause-status
returns-clause-status c = λ words bytes one other text text' a b. one_end (asked (map string_bytes words)) bytes one other text text' a b

pub returns-clause-text : goal.returns-clause-text
returns-clause-text c = λ words bytes one other text text' not_made a b. one_text (asked (map string_bytes words)) bytes one other text text' not_made a b
