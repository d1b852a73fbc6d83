use Rattle.std.proofs.Common.{◌≡◌, ◌∙◌, ap, List, ℕ}
use Rattle.std.specs.Prelude.{nat_eq, slice_index}
use Rattle.hk_table.specs.Passes.{known}
use Rattle.hk_table.proofs.Questions.{same_registers_answer, means_same}
use Rattle.hk_table.proofs.heap.Heap.same.Goals as goal

pub returns-clause-plain : goal.returns-clause-plain
returns-clause-plain c =
    let p = c.args.pass.now in
    let own = c.requires.pass.registers in
    let first : c.register.result ≡ slice_index (known p).registers c.args.a = c.register.ensures ∙ ap (λ (l : List ℕ). slice_index l c.args.a) own in
    let second : c.register-2.result ≡ slice_index (known p).registers c.args.b = c.register-2.ensures ∙ ap (λ (l : List ℕ). slice_index l c.args.b) own in
    same_registers_answer c.args.self.now.geometry (known p) c.requires.pass.stands c.requires.pass.idle c.args.a c.args.b c.requires.first c.requires.second
    (nat_eq c.register.result c.register-2.result) (means_same _ _ c.register.result c.register-2.result first second)
