use Rattle.std.proofs.Common.{arith}
use Rattle.hk_model.specs.Plain.{heap_in}
use Rattle.hk_model.proofs.Fields.{birth_within, refs_has, link_read, link_if_born}
use Rattle.hk_model.proofs.plain.Plain.reference.Goals as goal

pub index-requires : goal.index-requires
index-requires c = omega (arith, birth_within c.args.self.now (heap_in c.self.inside) c.args.birth c.self.view_is c.requires.birth, c.self.inside.objects.ok.0)

pub reference-requires : goal.reference-requires
reference-requires c = refs_has c.args.self.now (heap_in c.self.inside) c.args.birth c.args.field c.index.result.now c.self.view_is c.self.invariant c.requires.birth c.index.ensures c.requires.field

pub returns-clause-value : goal.returns-clause-value
returns-clause-value c = link_read c.args.self.now (heap_in c.self.inside) c.args.birth c.args.field c.reference.result c.index.result.now c.self.view_is c.requires.birth c.index.ensures c.reference.ensures

pub returns-clause-born : goal.returns-clause-born
returns-clause-born c =
    link_if_born c.args.self.now (heap_in c.self.inside) c.args.birth c.args.field c.reference.result c.self.view_is c.self.invariant
    (link_read c.args.self.now (heap_in c.self.inside) c.args.birth c.args.field c.reference.result c.index.result.now c.self.view_is c.requires.birth c.index.ensures c.reference.ensures)
