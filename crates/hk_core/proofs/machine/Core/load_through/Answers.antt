use Rattle.hk_core.proofs.LinkRows.{read_fits, load_number, load_can, load_left}
use Rattle.hk_core.proofs.machine.Core.load_through.Goals as goal

pub read_through-read-requires-clause-fits : goal.read_through-read-requires-clause-fits
read_through-read-requires-clause-fits c =
    rw c.register-entered.ensures (read_fits c.args.self.now c.args.seat c.args.dest c.args.reg c.args.field c.requires.places)

pub write_through-requires-clause-number : goal.write_through-requires-clause-number
write_through-requires-clause-number c = load_number c.args.self.now _ c.args.seat c.args.dest c.args.reg c.args.field _ _ _ c.register-entered.ensures
    c.read_through-read.ensures.row c.read_through-read.ensures.item c.read_through-read.ensures.cycle c.requires.places

pub write_through-requires-clause-fits : goal.write_through-requires-clause-fits
write_through-requires-clause-fits c = load_can c.args.self.now _ c.args.seat c.args.dest c.args.reg c.args.field _ _ _ c.register-entered.ensures
    c.read_through-read.ensures.row c.read_through-read.ensures.item c.read_through-read.ensures.cycle c.requires.places

pub returns : goal.returns
returns c = load_left c.args.self.now _ c.args.seat c.args.dest c.args.reg c.args.field _ _ _ c.register-entered.ensures
    c.read_through-read.ensures.row c.read_through-read.ensures.item c.read_through-read.ensures.cycle
    _ c.write_through.ensures
