-- What the tick answers, and its text.
use Rattle.std.proofs.Common.{◌++◌, refl, sym, ap, subst, ◌∙◌}
use Rattle.std.specs.Prelude.{codes}
use Rattle.std.proofs.lemmas.Result.{err_from_is_err_and}
use Rattle.hk_io.specs.Bytes.{AppendsPrefix, AppendsFront}
use Rattle.hk_dispatch.specs.Told.{told}
use Rattle.hk_top.specs.Text.{event_line}
use Rattle.hk_top.proofs.ReportParts.{live_text}
use Rattle.hk_top.proofs.RunEnds.{not_over, tick_goes_on}
use Rattle.hk_top.proofs.report.write_next.Goals as goal

pub unreachable-requires : goal.unreachable-requires
unreachable-requires g c =
    let s = c.args.session.now in
    let choice = g.P.Pick.choice s.pick in
    let at = ap (told s.geometry choice s.sheet) c.requires.at in
    not_over _ _ (tick_goes_on s.geometry choice s.sheet c.args.tick c.requires.before) (sym at ∙ sym c.tick.ensures.answer ∙ c.in-Over.is)

pub returns-in_err-trace_live-in-LiveOver-clause-prefix : goal.returns-in_err-trace_live-in-LiveOver-clause-prefix
returns-in_err-trace_live-in-LiveOver-clause-prefix g c =
    let s = c.args.session.now in
    let choice = g.P.Pick.choice s.pick in
    let at = ap (told s.geometry choice s.sheet) c.requires.at in
    let text = live_text c.args.form s.sheet c.args.tick c.in-LiveOver.words (event_line c.args.tick (codes "live")) (told s.geometry choice s.sheet c.args.tick) refl
    (sym at ∙ sym c.tick.ensures.answer ∙ c.in-LiveOver.is) in
    let p = err_from_is_err_and c.from_residual-in_err-trace_live-in-LiveOver.result c.from_residual-in_err-trace_live-in-LiveOver.ensures.1 in
    rw p.1 (subst (λ x. AppendsPrefix (g.K.Sink.taken c.args.sink.now) (g.K.Sink.taken c.trace_live.new.sink) (c.args.gather.now ++ x)) text c.in_err-trace_live-in-LiveOver.ensures.prefix)

pub returns-in_ok-trace_live-in-LiveOver-clause-ok : goal.returns-in_ok-trace_live-in-LiveOver-clause-ok
returns-in_ok-trace_live-in-LiveOver-clause-ok g c =
    let s = c.args.session.now in
    let choice = g.P.Pick.choice s.pick in
    let at = ap (told s.geometry choice s.sheet) c.requires.at in
    let text = live_text c.args.form s.sheet c.args.tick c.in-LiveOver.words (event_line c.args.tick (codes "live")) (told s.geometry choice s.sheet c.args.tick) refl
    (sym at ∙ sym c.tick.ensures.answer ∙ c.in-LiveOver.is) in
    subst (λ x. AppendsFront (g.K.Sink.taken c.args.sink.now) (g.K.Sink.taken c.trace_live.new.sink) (c.args.gather.now ++ x) c.trace_live.new.gather) text c.in_ok-trace_live-in-LiveOver.ensures.ok
