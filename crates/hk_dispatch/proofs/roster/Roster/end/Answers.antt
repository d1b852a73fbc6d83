use Rattle.std.proofs.Common.{◌≡◌, length, arith, rules}
use Rattle.hk_dispatch.proofs.RosterRows.{row_goes}
use Rattle.hk_dispatch.proofs.roster.Roster.end.Goals as goal

pub returns-in-Some-clause-rows : goal.returns-in-Some-clause-rows
returns-in-Some-clause-rows c =
    let s = c.args.self.now in
    let all : length s.rows ≡ 31 = search rules in
    let room = c.requires.room in
    let few = room.few in
    let moved = c.copy_within.ensures in
    row_goes s.rows s.gone s.count c.args.place (omega (arith, few, all)) c.requires.place c.copy_within.new.self moved.len moved.by_index.0 moved.by_index.2

pub returns-in_default-clause-rows : goal.returns-in_default-clause-rows
returns-in_default-clause-rows c =
    let s = c.args.self.now in
    let all : length s.rows ≡ 31 = search rules in
    let room = c.requires.room in
    let few = room.few in
    let moved = c.copy_within.ensures in
    row_goes s.rows s.gone s.count c.args.place (omega (arith, few, all)) c.requires.place c.copy_within.new.self moved.len moved.by_index.0 moved.by_index.2
