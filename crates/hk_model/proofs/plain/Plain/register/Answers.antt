use Rattle.hk_model.specs.Plain.{heap_in}
use Rattle.hk_model.proofs.Fields.{own_has, own_holds, register_if_born}
use Rattle.hk_model.proofs.plain.Plain.register.Goals as goal

pub get-requires : goal.get-requires
get-requires c = own_has c.args.self.now (heap_in c.self.inside) c.args.seat c.from.result c.args.reg c.index.result.now c.self.view_is c.from.ensures c.requires.seat c.requires.reg c.index.ensures

pub returns-clause-value : goal.returns-clause-value
returns-clause-value c =
    own_holds c.args.self.now (heap_in c.self.inside) c.args.seat c.from.result c.args.reg c.index.result.now c.get.result c.self.view_is c.from.ensures c.requires.seat c.index.ensures c.get.ensures

pub returns-clause-born : goal.returns-clause-born
returns-clause-born c =
    register_if_born c.args.self.now (heap_in c.self.inside) c.args.seat c.args.reg c.get.result c.self.view_is c.self.invariant
    (own_holds c.args.self.now (heap_in c.self.inside) c.args.seat c.from.result c.args.reg c.index.result.now c.get.result c.self.view_is c.from.ensures c.requires.seat c.index.ensures c.get.ensures)
