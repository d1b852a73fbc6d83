use Rattle.std.proofs.Common.{◌≡◌, ◌∙◌, ap, ℕ, ◌+◌, length}
use Rattle.hk_table.specs.Rule.{fresh}
use Rattle.hk_table.specs.Passes.{IsPassOf, known}
use Rattle.hk_table.proofs.Taking.{length_more, each_more}
use Rattle.hk_table.proofs.heap.Heap.first_passes.Goals as goal

pub loop-number-preserved : goal.loop-number-preserved
loop-number-preserved c =
    let h = c.args.self.now in
    let i = c.loop-number.invariant in
    let e = c.next_pass-pass.ensures in
    let pushed = c.in_ok-push.ensures.items in (
      e.table ∙ i.0,
      e.mine ∙ i.1,
      e.keeper,
      ap length pushed ∙ length_more c.loop-number.passes.items c.next_pass-pass.result ∙ ap (λ (n : ℕ). n + 1) i.3,
      each_more (λ seat p. IsPassOf h p × (known p ≡ fresh h.geometry seat)) c.loop-number.passes.items c.next_pass-pass.result _ c.loop-number.number pushed i.3 i.4 e.pass,
    )
