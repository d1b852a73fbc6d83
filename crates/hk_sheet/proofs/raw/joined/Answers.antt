use Rattle.std.proofs.Common.{◌≡◌, ◌++◌, subst, sym, ap, ◌∙◌}
use Rattle.std.proofs.lemmas.Iterator.Adapters.{YieldsList-from_vec, fact_from_extend}
use Rattle.std.proofs.lemmas.List.{map-id}
use Rattle.std.specs.Result.{OnOk}
use Rattle.hk_sheet.proofs.raw.joined.Goals as goal

pub returns : goal.returns
returns c =
    let both = c.args.tasks.items ++ c.args.more.items in
    let all : OnOk c.extend.result (c.extend.new.self.items ≡ both) =
    fact_from_extend (λ x. x) c.extend.result c.extend.ensures.ran (λ it b. YieldsList-from_vec {s = it} _ b.0 (b.1 ∙ c.args.more.ok.0)) (λ xs e h. h.0 ∙ ap (λ ys. c.args.tasks.items ++ ys) (sym (map-id xs) ∙ e)) in
    subst (λ result. OnOk result (c.extend.new.self.items ≡ both)) c.in_ok-extend.was all
