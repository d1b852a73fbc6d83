-- One line behind another.
use Rattle.std.proofs.Common.{◌∙◌, zip}
use Rattle.std.proofs.lemmas.Result.{err_from_is_err_and}
use Rattle.hk_top.specs.Report.{line_of_response}
use Rattle.hk_top.proofs.Parts.{more_front, more_prefix, all_front}
use Rattle.hk_top.proofs.ReportLemmas.{response_text, zip_within, zip_past}
use Rattle.hk_top.proofs.report.write_high_tasks.Goals as goal

pub returns-in_err-push-clause-prefix : goal.returns-in_err-push-clause-prefix
returns-in_err-push-clause-prefix g c =
    let tasks = c.args.tasks.now in
    let responses = c.args.responses.now in
    let place = c.loop-place.place in
    let text = c.bytes.result.now in
    let within = c.loop-place-test.true in
    let is = response_text tasks responses place c.index-tasks-place.result _ c.bytes_of.result.now text within c.requires.whole c.index-tasks-place.is c.bytes_of.ensures
    (c.bytes.ensures.value ∙ c.high_line-line.ensures) in
    let p = err_from_is_err_and c.from_residual.result c.from_residual.ensures.1 in
    rw p.1 (more_prefix line_of_response (zip tasks responses) _ _ _ c.args.gather.now c.loop-place.gather text place _ (zip_within tasks responses place c.requires.whole within) is
    c.loop-place.invariant.front c.in_err-push.ensures.prefix)

pub loop-place-preserved : goal.loop-place-preserved
loop-place-preserved g c =
    let tasks = c.args.tasks.now in
    let responses = c.args.responses.now in
    let place = c.loop-place.place in
    let text = c.bytes.result.now in
    let within = c.loop-place-test.true in
    let is = response_text tasks responses place c.index-tasks-place.result _ c.bytes_of.result.now text within c.requires.whole c.index-tasks-place.is c.bytes_of.ensures
    (c.bytes.ensures.value ∙ c.high_line-line.ensures) in
    record {
      front = more_front line_of_response (zip tasks responses) _ _ _ c.args.gather.now c.loop-place.gather text place _ (zip_within tasks responses place c.requires.whole within) is _
          c.loop-place.invariant.front c.in_ok-push.ensures.ok;
      kept = c.in_ok-push.ensures.cause.kept ∙ c.loop-place.invariant.kept;
    }

pub returns-clause-ok : goal.returns-clause-ok
returns-clause-ok g c =
    let tasks = c.args.tasks.now in
    let responses = c.args.responses.now in
    all_front line_of_response (zip tasks responses) _ _ c.args.gather.now c.loop-place.gather c.loop-place.place
    (zip_past tasks responses c.loop-place.place c.requires.whole c.loop-place-test.false) c.loop-place.invariant.front
