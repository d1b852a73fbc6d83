-- What the bytes are is what is answered.
use Rattle.std.proofs.Common.{None, inl}
use Rattle.hk_front.proofs.EndLemmas.{ends_unread}
use Rattle.hk_front.proofs.InputLemmas.{read_sheet}
use Rattle.hk_race.specs.Race.{BytesCallFor}
use Rattle.hk_race.proofs.tool.answer.Goals as goal

pub returns-in-Err-clause-ends : goal.returns-in-Err-clause-ends
returns-in-Err-clause-ends g c =
    let bytes = c.args.bytes.now in
    ends_unread (BytesCallFor bytes None) bytes _ _ _ _ c.refuse_sheet.result (λ t unread. inl unread) (c.refuse_sheet.ensures.ends bytes c.requires c.in-Err.ensures.answer)

pub returns-in-Some-clause-ends : goal.returns-in-Some-clause-ends
returns-in-Some-clause-ends g c =
    let bytes = c.args.bytes.now in
    c.refuse_long.ensures.ends bytes (read_sheet bytes c.in-Ok.sheet c.requires c.in-Ok.ensures.answer)
