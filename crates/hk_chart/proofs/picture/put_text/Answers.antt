-- What waited, and the text behind it.
use Rattle.std.proofs.lemmas.Result.{on_ok_weaker, on_err_weaker}
use Rattle.hk_chart.proofs.Joined.{text_front, text_prefix}
use Rattle.hk_chart.proofs.picture.put_text.Goals as goal

pub returns-clause-ok : goal.returns-clause-ok
returns-clause-ok g c =
    on_ok_weaker c.put_all.result
    (text_front _ _ _ c.args.gather.now c.args.text.now c.bytes.result.now c.bytes.ensures c.in_ok-flush.ensures.ok c.flush.new.self c.in_ok-flush.ensures.empty)
    c.put_all.ensures.ok

pub returns-clause-prefix : goal.returns-clause-prefix
returns-clause-prefix g c =
    on_err_weaker c.put_all.result
    (text_prefix _ _ _ c.args.gather.now c.args.text.now c.bytes.result.now c.bytes.ensures c.in_ok-flush.ensures.ok)
    c.put_all.ensures.prefix
