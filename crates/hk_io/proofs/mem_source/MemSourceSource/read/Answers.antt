use Rattle.std.proofs.Common.{◌≡◌, ◌∙◌, ◌+◌, ◌-◌, ap, sym, length, take, drop, min}
use Rattle.hk_io.proofs.BytesLemmas.{read-front}
use Rattle.hk_io.proofs.mem_source.MemSourceSource.read.Goals as goal

pub returns-clause-bytes : goal.returns-clause-bytes
returns-clause-bytes c =
    let inside = c.self.inside in
    let copied = c.copy_from_slice.ensures.after ∙ ap (λ w. take (inside.at + c.min-count.result - inside.at) (drop inside.at w)) c.deref-2.ensures.value in
    let size : c.len.result ≡ length inside.bytes.items = c.len.ensures ∙ inside.bytes.ok.0 in
    let count = c.min-count.ensures ∙ ap (λ k. min (length c.args.buf.now) (k - inside.at)) size in
    let both = read-front inside.bytes.items c.args.buf.now _ inside.at _ copied count in
    (ap (λ w. w.left) (sym c.self.view_is) ∙ both.0, both.1)
