use Rattle.std.proofs.Common.{◌≡◌, ◌<◌, ◌∙◌, length, get_or, arith, ap}
use Rattle.std.proofs.lemmas.Grind.{get_or_default_zero}
use Rattle.hk_words.specs.Row.{IsRegister}
use Rattle.hk_words.specs.Row.Slot.{Register}
use Rattle.hk_words.proofs.RowLaws.{index_below}
use Rattle.hk_core.specs.State.{State}
use Rattle.hk_core.specs.Begin.{register_word}
use Rattle.hk_core.proofs.machine.Core.register.Goals as goal

pub index-requires : goal.index-requires
index-requires c =
    let e : c.self.inside.geometry ≡ c.args.self.now.geometry = ap (λ (s : State). s.geometry) c.self.view_is in
    let fits : IsRegister c.self.inside.geometry c.args.seat c.args.reg = rw e c.requires in
    omega (arith, index_below c.self.inside.geometry (Register c.args.seat c.args.reg) fits, c.self.invariant.row)

pub returns : goal.returns
unfolding register_word
returns c =
    let e : c.self.inside.geometry ≡ c.args.self.now.geometry = ap (λ (s : State). s.geometry) c.self.view_is in
    let fits : IsRegister c.self.inside.geometry c.args.seat c.args.reg = rw e c.requires in
    let within : c.register_at.result < length c.self.inside.row.items =
    omega (arith, index_below c.self.inside.geometry (Register c.args.seat c.args.reg) fits, c.self.invariant.row) in
    rw (← c.self.view_is)
    (c.index.ensures ∙ (get_or_default_zero c.self.inside.row.items c.register_at.result c.index.result.now within
    ∙ ap (λ i. get_or c.self.inside.row.items i 0) c.register_at.ensures))
