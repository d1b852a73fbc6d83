use Rattle.std.proofs.Common.{arith}
use Rattle.hk_model.specs.Plain.{heap_in}
use Rattle.hk_model.proofs.Fields.{birth_within, nums_has, value_read}
use Rattle.hk_model.proofs.plain.Plain.number.Goals as goal

pub index-requires : goal.index-requires
index-requires c = omega (arith, birth_within c.args.self.now (heap_in c.self.inside) c.args.birth c.self.view_is c.requires.birth, c.self.inside.objects.ok.0)

pub number-requires : goal.number-requires
number-requires c = nums_has c.args.self.now (heap_in c.self.inside) c.args.birth c.args.field c.index.result.now c.self.view_is c.self.invariant c.requires.birth c.index.ensures c.requires.field

pub returns : goal.returns
returns c = value_read c.args.self.now (heap_in c.self.inside) c.args.birth c.args.field c.number.result c.index.result.now c.self.view_is c.requires.birth c.index.ensures c.number.ensures
