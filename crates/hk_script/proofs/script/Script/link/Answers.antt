use Rattle.std.proofs.Common.{◌∙◌, ap, length, get_or, List, ◌<◌, arith}
use Rattle.std.proofs.lemmas.List.{get_or_read}
use Rattle.hk_script.specs.declared.linking.Link.{Link}
use Rattle.hk_script.specs.Links.{links_of}
use Rattle.hk_script.proofs.Linked.{length-links_of}
use Rattle.hk_script.proofs.script.Script.link.Goals as goal

pub index-requires : goal.index-requires
index-requires c =
    let links = c.self.invariant.1 in
    omega (arith, ap length links, length-links_of c.self.inside.statements.items, ap length c.self.view_is, c.self.inside.links.ok.0)

pub returns : goal.returns
returns c =
    let links = c.self.invariant.1 in
    let within : c.args.place < length c.self.inside.links.items = omega (arith, ap length links, length-links_of c.self.inside.statements.items, ap length c.self.view_is) in
    get_or_read c.self.inside.links.items _ _ within c.index.ensures (record { on = 0; past = 0; level = 0 })
    ∙ ap (λ (t : List Link). get_or t c.args.place (record { on = 0; past = 0; level = 0 })) (links ∙ ap links_of c.self.view_is)
