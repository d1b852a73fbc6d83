-- The ticks one behind another, and the last lines.
use Rattle.std.proofs.Common.{◌≡◌, suc, ◌+◌, ◌<◌, ◌++◌, None, refl, sym, ap, ◌∙◌, subst, arith}
use Rattle.std.proofs.lemmas.Result.{err_from_is_err_and}
use Rattle.hk_io.specs.Bytes.{AppendsPrefix, AppendsFront}
use Rattle.hk_sheet.specs.declared.sheet.Sheet.{Sheet}
use Rattle.hk_sheet.specs.Valid.{IsSheet}
use Rattle.hk_dispatch.specs.Opened.{Opened}
use Rattle.hk_dispatch.specs.Session.{state, IsTick}
use Rattle.hk_dispatch.specs.Told.{told}
use Rattle.hk_top.specs.declared.report.Finish.TheVariants as finish
use Rattle.hk_top.specs.Names.{AreNamed, AreLowNamed}
use Rattle.hk_top.specs.Report.{live_in, closing, EndsSo, at_horizon, live_over}
use Rattle.hk_top.specs.Text.{live_line}
use Rattle.hk_top.proofs.Below.{none_below, front_below}
use Rattle.hk_top.proofs.RunEnds.{tick_goes_on, opened}
use Rattle.hk_top.proofs.RunText.{ticks, tick_text, live_told, none_found, live_is, end_is, cut_tick, next_front, cut_last, cut_rest, all_taken}
use Rattle.hk_top.proofs.SheetLemmas.{sheet_named, sheet_low_named}
use Rattle.hk_top.proofs.Written.{front_alone}
use Rattle.hk_top.proofs.report.write_run.Goals as goal

pub loop-tick-init : goal.loop-tick-init
loop-tick-init g c =
    let s = c.args.session.now in
    let choice = g.P.Pick.choice s.pick in
    record {
      within = omega arith;
      all = ap (λ (x : Sheet). x.ticks) c.checked.ensures.sheet;
      opened = ap (λ n. record s { given = n }) c.requires.start;
      before = opened s.geometry choice s.sheet;
      front = none_below (tick_text c.args.form s.geometry choice s.sheet) _ c.new-gather.result;
      kept = refl;
    }

pub returns-in_err-words-clause-prefix : goal.returns-in_err-words-clause-prefix
returns-in_err-words-clause-prefix g c =
    let s = c.args.session.now in
    let choice = g.P.Pick.choice s.pick in
    let f = c.args.form in
    let n = c.loop-tick.tick in
    let inv = c.loop-tick.invariant in
    let front = front_alone _ _ c.new-gather.result (ticks f s.geometry choice s.sheet n) c.loop-tick.gather c.new-gather.ensures inv.front in
    let t : IsTick s.geometry choice s.sheet n = record { within = subst (λ k. n < k) inv.all c.loop-tick-test.true; before_over = inv.before } in
    let p = err_from_is_err_and c.from_residual.result c.from_residual.ensures.1 in
    rw p.1 (cut_tick f s.geometry choice s.sheet _ _ _ c.loop-tick.gather n front t
    (subst (λ (x : Opened g.row.P.Denot). AppendsPrefix (g.K.Sink.taken c.loop-tick.sink) (g.K.Sink.taken c.write_next.new.sink) (c.loop-tick.gather ++ tick_text f x.geometry (g.P.Pick.choice x.pick) x.sheet n))
    inv.opened c.in_err-words.ensures.prefix))

pub returns-in_err-write_live-clause-prefix : goal.returns-in_err-write_live-clause-prefix
returns-in_err-write_live-clause-prefix g c =
    let s = c.args.session.now in
    let choice = g.P.Pick.choice s.pick in
    let f = c.args.form in
    let n = c.loop-tick.tick in
    let inv = c.loop-tick.invariant in
    let front = front_alone _ _ c.new-gather.result (ticks f s.geometry choice s.sheet n) c.loop-tick.gather c.new-gather.ensures inv.front in
    let t : IsTick s.geometry choice s.sheet n = record { within = subst (λ k. n < k) inv.all c.loop-tick-test.true; before_over = inv.before } in
    let next = next_front f s.geometry choice s.sheet _ _ _ c.loop-tick.gather n front c.write_next.new.gather
    (subst (λ (x : Opened g.row.P.Denot). AppendsFront (g.K.Sink.taken c.loop-tick.sink) (g.K.Sink.taken c.write_next.new.sink) (c.loop-tick.gather ++ tick_text f x.geometry (g.P.Pick.choice x.pick) x.sheet n) c.write_next.new.gather)
    inv.opened c.in_ok-words.ensures.ok) in
    let words = c.in-Some.words in
    let found = subst (λ (x : Opened g.row.P.Denot). c.in_ok-words.field-0 ≡ live_in (told x.geometry (g.P.Pick.choice x.pick) x.sheet n)) inv.opened c.in_ok-words.ensures.live in
    let answer = live_told (told s.geometry choice s.sheet n) words (sym found ∙ c.in-Some.is) in
    let so = live_over n words t answer in
    let sheet = c.checked-in-Some.ensures.sheet ∙ ap (λ (x : Opened g.row.P.Denot). x.sheet) c.write_next.ensures.opened ∙ ap (λ (x : Opened g.row.P.Denot). x.sheet) inv.opened in
    let line = ap (live_line n words) (c.from.ensures ∙ ap (λ (x : Sheet). x.heap.live) sheet) ∙ sym (live_is f s.geometry choice s.sheet n words) in
    let p = err_from_is_err_and c.from_residual-in_err-write_live.result c.from_residual-in_err-write_live.ensures.1 in
    rw p.1 (cut_last f s.geometry choice s.sheet _ _ _ c.write_next.new.gather (suc n) next (finish.Live words) so (live_line n words c.from.result) line c.in_err-write_live.ensures.prefix)

pub returns-in_err-flush-clause-prefix : goal.returns-in_err-flush-clause-prefix
returns-in_err-flush-clause-prefix g c =
    let s = c.args.session.now in
    let choice = g.P.Pick.choice s.pick in
    let f = c.args.form in
    let n = c.loop-tick.tick in
    let inv = c.loop-tick.invariant in
    let front = front_alone _ _ c.new-gather.result (ticks f s.geometry choice s.sheet n) c.loop-tick.gather c.new-gather.ensures inv.front in
    let t : IsTick s.geometry choice s.sheet n = record { within = subst (λ k. n < k) inv.all c.loop-tick-test.true; before_over = inv.before } in
    let next = next_front f s.geometry choice s.sheet _ _ _ c.loop-tick.gather n front c.write_next.new.gather
    (subst (λ (x : Opened g.row.P.Denot). AppendsFront (g.K.Sink.taken c.loop-tick.sink) (g.K.Sink.taken c.write_next.new.sink) (c.loop-tick.gather ++ tick_text f x.geometry (g.P.Pick.choice x.pick) x.sheet n) c.write_next.new.gather)
    inv.opened c.in_ok-words.ensures.ok) in
    let words = c.in-Some.words in
    let found = subst (λ (x : Opened g.row.P.Denot). c.in_ok-words.field-0 ≡ live_in (told x.geometry (g.P.Pick.choice x.pick) x.sheet n)) inv.opened c.in_ok-words.ensures.live in
    let answer = live_told (told s.geometry choice s.sheet n) words (sym found ∙ c.in-Some.is) in
    let so = live_over n words t answer in
    let sheet = c.checked-in-Some.ensures.sheet ∙ ap (λ (x : Opened g.row.P.Denot). x.sheet) c.write_next.ensures.opened ∙ ap (λ (x : Opened g.row.P.Denot). x.sheet) inv.opened in
    let line = ap (live_line n words) (c.from.ensures ∙ ap (λ (x : Sheet). x.heap.live) sheet) ∙ sym (live_is f s.geometry choice s.sheet n words) in
    let p = err_from_is_err_and c.from_residual-in_err-flush.result c.from_residual-in_err-flush.ensures.1 in
    rw p.1 (cut_rest f s.geometry choice s.sheet _ _ _ c.write_next.new.gather (suc n) next (finish.Live words) so (live_line n words c.from.result) line _ _ c.in_ok-write_live.ensures.ok c.in_err-flush.ensures.prefix)

pub returns-in-Some-clause-ok : goal.returns-in-Some-clause-ok
returns-in-Some-clause-ok g c =
    let s = c.args.session.now in
    let choice = g.P.Pick.choice s.pick in
    let f = c.args.form in
    let n = c.loop-tick.tick in
    let inv = c.loop-tick.invariant in
    let front = front_alone _ _ c.new-gather.result (ticks f s.geometry choice s.sheet n) c.loop-tick.gather c.new-gather.ensures inv.front in
    let t : IsTick s.geometry choice s.sheet n = record { within = subst (λ k. n < k) inv.all c.loop-tick-test.true; before_over = inv.before } in
    let next = next_front f s.geometry choice s.sheet _ _ _ c.loop-tick.gather n front c.write_next.new.gather
    (subst (λ (x : Opened g.row.P.Denot). AppendsFront (g.K.Sink.taken c.loop-tick.sink) (g.K.Sink.taken c.write_next.new.sink) (c.loop-tick.gather ++ tick_text f x.geometry (g.P.Pick.choice x.pick) x.sheet n) c.write_next.new.gather)
    inv.opened c.in_ok-words.ensures.ok) in
    let words = c.in-Some.words in
    let found = subst (λ (x : Opened g.row.P.Denot). c.in_ok-words.field-0 ≡ live_in (told x.geometry (g.P.Pick.choice x.pick) x.sheet n)) inv.opened c.in_ok-words.ensures.live in
    let answer = live_told (told s.geometry choice s.sheet n) words (sym found ∙ c.in-Some.is) in
    let so = live_over n words t answer in
    let sheet = c.checked-in-Some.ensures.sheet ∙ ap (λ (x : Opened g.row.P.Denot). x.sheet) c.write_next.ensures.opened ∙ ap (λ (x : Opened g.row.P.Denot). x.sheet) inv.opened in
    let line = ap (live_line n words) (c.from.ensures ∙ ap (λ (x : Sheet). x.heap.live) sheet) ∙ sym (live_is f s.geometry choice s.sheet n words) in
    all_taken f s.geometry choice s.sheet _ _ _ c.write_next.new.gather (suc n) next (finish.Live words) so (live_line n words c.from.result) line _ _ c.in_ok-write_live.ensures.ok c.in_ok-flush.ensures.ok

pub loop-tick-preserved : goal.loop-tick-preserved
loop-tick-preserved g c =
    let s = c.args.session.now in
    let choice = g.P.Pick.choice s.pick in
    let f = c.args.form in
    let n = c.loop-tick.tick in
    let inv = c.loop-tick.invariant in
    let front = front_alone _ _ c.new-gather.result (ticks f s.geometry choice s.sheet n) c.loop-tick.gather c.new-gather.ensures inv.front in
    let t : IsTick s.geometry choice s.sheet n = record { within = subst (λ k. n < k) inv.all c.loop-tick-test.true; before_over = inv.before } in
    let within = c.loop-tick-test.true in
    let found = subst (λ (x : Opened g.row.P.Denot). c.in_ok-words.field-0 ≡ live_in (told x.geometry (g.P.Pick.choice x.pick) x.sheet n)) inv.opened c.in_ok-words.ensures.live in
    let later : suc n ≡ n + 1 = omega arith in
    record {
      within = omega (arith, within);
      all = inv.all;
      opened = c.write_next.ensures.opened ∙ ap (λ (x : Opened g.row.P.Denot). record x { given = n + 1 }) inv.opened;
      before = subst (λ k. (state s.geometry choice s.sheet k).over ≡ None) later
          (none_found (told s.geometry choice s.sheet n) (state s.geometry choice s.sheet (suc n)).over (tick_goes_on s.geometry choice s.sheet n t)
          (λ words e. c.in_default.not-Some words (found ∙ e)));
      front = front_below (tick_text f s.geometry choice s.sheet) _ _ _ c.new-gather.result c.loop-tick.gather (tick_text f s.geometry choice s.sheet n) n refl c.write_next.new.gather inv.front
          (subst (λ (x : Opened g.row.P.Denot). AppendsFront (g.K.Sink.taken c.loop-tick.sink) (g.K.Sink.taken c.write_next.new.sink) (c.loop-tick.gather ++ tick_text f x.geometry (g.P.Pick.choice x.pick) x.sheet n) c.write_next.new.gather)
          inv.opened c.in_ok-words.ensures.ok);
      kept = c.in_ok-words.ensures.cause.kept ∙ inv.kept;
    }

pub write_closing-requires-clause-high : goal.write_closing-requires-clause-high
write_closing-requires-clause-high g c =
    let s = c.args.session.now in
    let readable = subst IsSheet c.checked.ensures.sheet c.checked.result.now.sound.readable in
    subst (λ (x : Opened g.row.P.Denot). AreNamed x.sheet.high) (sym c.loop-tick.invariant.opened) (sheet_named s.sheet s.sheet.high readable refl)

pub write_closing-requires-clause-low : goal.write_closing-requires-clause-low
write_closing-requires-clause-low g c =
    let s = c.args.session.now in
    let readable = subst IsSheet c.checked.ensures.sheet c.checked.result.now.sound.readable in
    subst (λ (x : Opened g.row.P.Denot). AreLowNamed x.sheet.low) (sym c.loop-tick.invariant.opened) (sheet_low_named s.sheet s.sheet.low readable refl)

pub returns-in_err-write_closing-clause-prefix : goal.returns-in_err-write_closing-clause-prefix
returns-in_err-write_closing-clause-prefix g c =
    let s = c.args.session.now in
    let choice = g.P.Pick.choice s.pick in
    let f = c.args.form in
    let n = c.loop-tick.tick in
    let inv = c.loop-tick.invariant in
    let front = front_alone _ _ c.new-gather.result (ticks f s.geometry choice s.sheet n) c.loop-tick.gather c.new-gather.ensures inv.front in
    let past = c.loop-tick-test.false in
    let within = inv.within in
    let all = inv.all in
    let here : n ≡ s.sheet.ticks = omega (arith, past, within, all) in
    let so = subst (λ k. EndsSo s.geometry choice s.sheet finish.AtEnd k) (sym here) (at_horizon (subst (λ k. (state s.geometry choice s.sheet k).over ≡ None) here inv.before)) in
    let text = closing s.sheet (state s.geometry choice s.sheet n) in
    let line = sym (end_is f s.geometry choice s.sheet n) in
    let p = err_from_is_err_and c.from_residual-in_err-write_closing.result c.from_residual-in_err-write_closing.ensures.1 in
    rw p.1 (cut_last f s.geometry choice s.sheet _ _ _ c.loop-tick.gather n front finish.AtEnd so text line
    (subst (λ (x : Opened g.row.P.Denot). AppendsPrefix (g.K.Sink.taken c.loop-tick.sink) (g.K.Sink.taken c.write_closing.new.sink) (c.loop-tick.gather ++ closing x.sheet (state x.geometry (g.P.Pick.choice x.pick) x.sheet x.given)))
    inv.opened c.in_err-write_closing.ensures.prefix))

pub returns-in_err-flush-2-clause-prefix : goal.returns-in_err-flush-2-clause-prefix
returns-in_err-flush-2-clause-prefix g c =
    let s = c.args.session.now in
    let choice = g.P.Pick.choice s.pick in
    let f = c.args.form in
    let n = c.loop-tick.tick in
    let inv = c.loop-tick.invariant in
    let front = front_alone _ _ c.new-gather.result (ticks f s.geometry choice s.sheet n) c.loop-tick.gather c.new-gather.ensures inv.front in
    let past = c.loop-tick-test.false in
    let within = inv.within in
    let all = inv.all in
    let here : n ≡ s.sheet.ticks = omega (arith, past, within, all) in
    let so = subst (λ k. EndsSo s.geometry choice s.sheet finish.AtEnd k) (sym here) (at_horizon (subst (λ k. (state s.geometry choice s.sheet k).over ≡ None) here inv.before)) in
    let text = closing s.sheet (state s.geometry choice s.sheet n) in
    let line = sym (end_is f s.geometry choice s.sheet n) in
    let p = err_from_is_err_and c.from_residual-in_err-flush-2.result c.from_residual-in_err-flush-2.ensures.1 in
    rw p.1 (cut_rest f s.geometry choice s.sheet _ _ _ c.loop-tick.gather n front finish.AtEnd so text line _ _
    (subst (λ (x : Opened g.row.P.Denot). AppendsFront (g.K.Sink.taken c.loop-tick.sink) (g.K.Sink.taken c.write_closing.new.sink) (c.loop-tick.gather ++ closing x.sheet (state x.geometry (g.P.Pick.choice x.pick) x.sheet x.given)) c.write_closing.new.gather)
    inv.opened c.in_ok-write_closing.ensures.ok) c.in_err-flush-2.ensures.prefix)

pub returns-clause-ok : goal.returns-clause-ok
returns-clause-ok g c =
    let s = c.args.session.now in
    let choice = g.P.Pick.choice s.pick in
    let f = c.args.form in
    let n = c.loop-tick.tick in
    let inv = c.loop-tick.invariant in
    let front = front_alone _ _ c.new-gather.result (ticks f s.geometry choice s.sheet n) c.loop-tick.gather c.new-gather.ensures inv.front in
    let past = c.loop-tick-test.false in
    let within = inv.within in
    let all = inv.all in
    let here : n ≡ s.sheet.ticks = omega (arith, past, within, all) in
    let so = subst (λ k. EndsSo s.geometry choice s.sheet finish.AtEnd k) (sym here) (at_horizon (subst (λ k. (state s.geometry choice s.sheet k).over ≡ None) here inv.before)) in
    let text = closing s.sheet (state s.geometry choice s.sheet n) in
    let line = sym (end_is f s.geometry choice s.sheet n) in
    all_taken f s.geometry choice s.sheet _ _ _ c.loop-tick.gather n front finish.AtEnd so text line _ _
    (subst (λ (x : Opened g.row.P.Denot). AppendsFront (g.K.Sink.taken c.loop-tick.sink) (g.K.Sink.taken c.write_closing.new.sink) (c.loop-tick.gather ++ closing x.sheet (state x.geometry (g.P.Pick.choice x.pick) x.sheet x.given)) c.write_closing.new.gather)
    inv.opened c.in_ok-write_closing.ensures.ok) c.in_ok-flush-2.ensures.ok
