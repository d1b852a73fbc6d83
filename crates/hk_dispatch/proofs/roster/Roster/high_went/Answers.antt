use Rattle.std.proofs.Common.{◌≡◌, length, refl, arith, rules}
use Rattle.hk_dispatch.proofs.RosterRows.{row_counts}
use Rattle.hk_dispatch.proofs.roster.Roster.high_went.Goals as goal

pub returns-else-ended : goal.returns-else-ended
returns-else-ended c =
    let s = c.args.self.now in
    let all : length s.rows ≡ 31 = search rules in
    let room = c.requires.room in
    let few = room.few in
    rw c.if-ended.false (record { room = record { gone = room.gone; few = few }; rows = row_counts s.rows s.gone s.count c.args.place (omega (arith, few, all)) c.requires.place c.args.run.now.had; low = refl; due = refl })
