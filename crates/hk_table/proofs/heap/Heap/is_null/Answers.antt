use Rattle.std.proofs.Common.{◌≡◌, ◌∙◌, ap, refl, List, ℕ}
use Rattle.std.specs.Prelude.{nat_eq, slice_index}
use Rattle.hk_table.specs.Passes.{known}
use Rattle.hk_table.proofs.Questions.{null_answers, means_same}
use Rattle.hk_table.proofs.heap.Heap.is_null.Goals as goal

pub returns-clause-plain : goal.returns-clause-plain
returns-clause-plain c =
    let p = c.args.pass.now in
    let word : c.register.result ≡ slice_index (known p).registers c.args.reg = c.register.ensures ∙ ap (λ (l : List ℕ). slice_index l c.args.reg) c.requires.pass.registers in
    null_answers c.args.self.now.geometry (known p) c.requires.pass.stands c.requires.pass.idle c.args.reg c.requires.register (nat_eq c.register.result 0)
    (means_same _ 0 c.register.result 0 word refl)
