-- What the parts answer is what the program answers.
use Rattle.std.proofs.Common.{Err, sym, ap, ◌∙◌}
use Rattle.hk_chart.specs.declared.charted.Charted.TheVariants as charted
use Rattle.hk_chart.specs.declared.span.Span.{Span}
use Rattle.hk_chart.specs.Drawing.{picture}
use Rattle.hk_chart.specs.Framed.{framed}
use Rattle.hk_chart.specs.Tool.{stop_line}
use Rattle.hk_chart.proofs.Endings.{framed_is, usage_calls, picture_calls, stop_calls, whole_of, prefix_of, complete}
use Rattle.hk_chart.proofs.tool.run_chart.Goals as goal

pub returns-in_default-clause-whole : goal.returns-in_default-clause-whole
returns-in_default-clause-whole g c =
    let calls = usage_calls c.args.words.now (g.S.Source.left c.args.source.now) c.bytes.result.now (c.bytes.ensures.value ∙ c.usage.ensures) (sym c.window_of.ensures ∙ c.in_default.is) in
    whole_of c.args.words.now (g.S.Source.left c.args.source.now) _ _ _ _ charted.Usage c.put_line.result c.bytes.result.now calls c.put_line.ensures

pub returns-in_default-clause-prefix : goal.returns-in_default-clause-prefix
returns-in_default-clause-prefix g c =
    let calls = usage_calls c.args.words.now (g.S.Source.left c.args.source.now) c.bytes.result.now (c.bytes.ensures.value ∙ c.usage.ensures) (sym c.window_of.ensures ∙ c.in_default.is) in
    prefix_of c.args.words.now (g.S.Source.left c.args.source.now) _ _ _ _ charted.Usage c.put_line.result c.bytes.result.now calls c.put_line.ensures

pub returns-in-Ok-frame_of-clause-prefix : goal.returns-in-Ok-frame_of-clause-prefix
returns-in-Ok-frame_of-clause-prefix g c =
    let text = framed c.in-Ok-frame_of.frame c.in-Ok.chart in
    let calls = picture_calls c.args.words.now (g.S.Source.left c.args.source.now) c.in-Some.window c.in-Ok.chart text (sym c.window_of.ensures ∙ c.in-Some.is) c.in-Ok.ensures.drawn
    (framed_is c.of-span.result c.in-Ok.chart c.in-Ok-frame_of.frame c.in-Ok-frame_of.ensures ∙ ap (λ (s : Span). picture s c.in-Ok.chart) c.of-span.ensures.value) in
    prefix_of c.args.words.now (g.S.Source.left c.args.source.now) _ _ _ _ charted.Done c.put_framed.result text calls c.put_framed.ensures

pub returns-in-Err-Stop-clause-whole : goal.returns-in-Err-Stop-clause-whole
returns-in-Err-Stop-clause-whole g c =
    let calls = stop_calls c.args.words.now (g.S.Source.left c.args.source.now) c.in-Some.window c.in-Err-Stop.stop c.bytes-in-Err-Stop.result.now (sym c.window_of.ensures ∙ c.in-Some.is)
    (c.in-Err-Stop.ensures.stopped c.in-Err-Stop.stop (ap Err c.in-Err-Stop.field-0-is)) (c.bytes-in-Err-Stop.ensures.value ∙ c.stop_line.ensures ∙ ap stop_line c.in-Err-Stop.stop-is) in
    whole_of c.args.words.now (g.S.Source.left c.args.source.now) _ _ _ _ charted.Trace c.put_line-in-Err-Stop.result c.bytes-in-Err-Stop.result.now calls c.put_line-in-Err-Stop.ensures

pub returns-in-Err-Stop-clause-prefix : goal.returns-in-Err-Stop-clause-prefix
returns-in-Err-Stop-clause-prefix g c =
    let calls = stop_calls c.args.words.now (g.S.Source.left c.args.source.now) c.in-Some.window c.in-Err-Stop.stop c.bytes-in-Err-Stop.result.now (sym c.window_of.ensures ∙ c.in-Some.is)
    (c.in-Err-Stop.ensures.stopped c.in-Err-Stop.stop (ap Err c.in-Err-Stop.field-0-is)) (c.bytes-in-Err-Stop.ensures.value ∙ c.stop_line.ensures ∙ ap stop_line c.in-Err-Stop.stop-is) in
    prefix_of c.args.words.now (g.S.Source.left c.args.source.now) _ _ _ _ charted.Trace c.put_line-in-Err-Stop.result c.bytes-in-Err-Stop.result.now calls c.put_line-in-Err-Stop.ensures

pub returns-in-Err-Stop-clause-complete : goal.returns-in-Err-Stop-clause-complete
returns-in-Err-Stop-clause-complete g c =
    let calls = stop_calls c.args.words.now (g.S.Source.left c.args.source.now) c.in-Some.window c.in-Err-Stop.stop c.bytes-in-Err-Stop.result.now (sym c.window_of.ensures ∙ c.in-Some.is)
    (c.in-Err-Stop.ensures.stopped c.in-Err-Stop.stop (ap Err c.in-Err-Stop.field-0-is)) (c.bytes-in-Err-Stop.ensures.value ∙ c.stop_line.ensures ∙ ap stop_line c.in-Err-Stop.stop-is) in
    λ _ kept. complete c.args.words.now (g.S.Source.left c.args.source.now) charted.Trace c.put_line-in-Err-Stop.result c.bytes-in-Err-Stop.result.now calls c.put_line-in-Err-Stop.ensures.ends (λ w. kept (c.put_line-in-Err-Stop.ensures.cause w))
