use Rattle.std.proofs.Common.{◌∙◌, arith}
use Rattle.hk_dispatch.proofs.Sheets.{count_tasks}
use Rattle.hk_dispatch.proofs.WentOn.{some_if, low_went}
use Rattle.hk_dispatch.proofs.stand.Stand.low_tick.Goals as goal

pub returns : goal.returns
returns c = λ m h only.
    let sheet = c.args.sheet.now in
    let low = c.requires.low in
    let below = low.below in
    low_went sheet m c.args.tick c.args.self.now h c.args.seat (omega (arith, below, count_tasks sheet)) c.give-done.result c.give-done.new.self (c.give-done.ensures.gave m h.before) c.give-done.ensures.keeps
    c.tell.result c.tell.ensures c.is_some.result c.is_some.ensures c.low_went.new.self c.low_went.ensures low only c.then_some-self.result (c.then_some-self.ensures ∙ some_if c.give-done.result.mid_course c.args.seat)
