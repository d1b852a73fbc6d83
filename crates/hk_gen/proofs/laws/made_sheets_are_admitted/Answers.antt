use Rattle.hk_gen.proofs.Drawn.{made_readable, made_admitted, made_unrefused}
use Rattle.hk_gen.proofs.laws.made_sheets_are_admitted.Goals as goal

pub returns : goal.returns
returns c = record { readable = made_readable; admitted = made_admitted; no_refusal = made_unrefused }
