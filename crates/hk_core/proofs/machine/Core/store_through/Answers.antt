use Rattle.hk_core.proofs.LinkRows.{store_can, store_left}
use Rattle.hk_core.proofs.machine.Core.store_through.Goals as goal

pub copy_through-requires : goal.copy_through-requires
copy_through-requires c = store_can c.args.self.now c.args.seat c.args.reg c.args.field c.args.from _ _ c.register-entered.ensures c.register-item.ensures c.requires.places

pub returns : goal.returns
returns c = store_left c.args.self.now c.args.seat c.args.reg c.args.field c.args.from _ _ c.register-entered.ensures c.register-item.ensures
    _ c.copy_through.ensures
