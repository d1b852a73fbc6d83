use Rattle.std.proofs.Common.{◌∙◌, sym, arith}
use Rattle.std.proofs.lemmas.List.FromFn.{get_or-map-range_with_len}
use Rattle.hk_core.specs.State.{opening_register}
use Rattle.hk_keeper.proofs.tests.stepping.first_word.Goals as goal

pub returns : goal.returns
returns c =
    let g = c.args.g.now in
    c.opening_word.ensures ∙ sym (get_or-map-range_with_len (opening_register g) 0 g.registers c.args.reg c.args.reg 0 c.requires (omega arith))
