use Rattle.std.proofs.Common.{ap, sym, ◌∙◌, Some, refl, inl, inr}
use Rattle.hk_model.specs.Heap.{opening_of}
use Rattle.hk_script.specs.declared.walk.Need.TheVariants.{Ask}
use Rattle.hk_race.proofs.Going.{ask_fits, goes_end, goes_work, goes_local, goes_ask, goes_out}
use Rattle.hk_race.proofs.Through.{call_fits, falls_at, walks_on, none_wanted}
use Rattle.hk_race.proofs.worker.statement.Goals as goal

pub ask-reply-requires-clause-question : goal.ask-reply-requires-clause-question
ask-reply-requires-clause-question g c = (call_fits _ c.args.script.now c.args.own.now.walk (Ask c.in-Some-Ask.question) c.requires.script (sym c.next.ensures.need ∙ c.in-Some-Ask.is ∙ ap Some c.in-Some-Ask.field-0-is)).0

pub ask-reply-requires-clause-registers : goal.ask-reply-requires-clause-registers
ask-reply-requires-clause-registers g c = (call_fits _ c.args.script.now c.args.own.now.walk (Ask c.in-Some-Ask.question) c.requires.script (sym c.next.ensures.need ∙ c.in-Some-Ask.is ∙ ap Some c.in-Some-Ask.field-0-is)).1

pub done-requires-in-Some-Ask-clause-answered : goal.done-requires-in-Some-Ask-clause-answered
done-requires-in-Some-Ask-clause-answered g c =
    let is = sym c.next.ensures.need ∙ c.in-Some-Ask.is ∙ ap Some c.in-Some-Ask.field-0-is in
    ask_fits (opening_of (g.D.Desk.geometry c.args.desk.now)) (g.D.Desk.seat c.args.desk.now) c.args.script.now c.args.own.now.walk (g.D.Desk.seen c.args.desk.now) c.in-Some-Ask.question c.ask-reply.result
    (call_fits _ c.args.script.now c.args.own.now.walk (Ask c.in-Some-Ask.question) c.requires.script is).0 is c.ask-reply.ensures

pub returns-in-None-clause-goes : goal.returns-in-None-clause-goes
returns-in-None-clause-goes g c = goes_end _ _ c.args.script.now _ c.args.own.now c.requires.going (sym c.next.ensures.need ∙ c.in-None.is)

pub returns-in-None-clause-falls : goal.returns-in-None-clause-falls
returns-in-None-clause-falls g c = inl (inl (none_wanted c.args.script.now c.args.own.now.walk c.requires.walks.fits (sym c.next.ensures.need ∙ c.in-None.is)))

pub returns-in_ok-push-in-Some-Out-clause-goes : goal.returns-in_ok-push-in-Some-Out-clause-goes
returns-in_ok-push-in-Some-Out-clause-goes g c =
    goes_out _ _ c.args.script.now _ c.args.own.now _ c.in-Some-Out.value c.requires.going (sym c.next.ensures.need ∙ c.in-Some-Out.is ∙ ap Some c.in-Some-Out.field-0-is) c.in_ok-push-in-Some-Out.ensures.items c.done-in-Some-Out.ensures.after refl refl

pub returns-in_ok-push-in-Some-Out-clause-walks : goal.returns-in_ok-push-in-Some-Out-clause-walks
returns-in_ok-push-in-Some-Out-clause-walks g c = walks_on _ c.args.script.now c.args.own.now.walk c.done-in-Some-Out.new.self _ c.requires.script c.requires.walks c.done-in-Some-Out.ensures.after

pub returns-in_ok-push-in-Some-Out-clause-falls : goal.returns-in_ok-push-in-Some-Out-clause-falls
returns-in_ok-push-in-Some-Out-clause-falls g c = inr (falls_at _ c.args.script.now c.args.own.now.walk c.done-in-Some-Out.new.self _ _ c.requires.script c.requires.walks (sym c.next.ensures.need ∙ c.in-Some-Out.is ∙ ap Some c.in-Some-Out.field-0-is) c.done-in-Some-Out.ensures.after)

pub returns-in-Some-Ask-clause-goes : goal.returns-in-Some-Ask-clause-goes
returns-in-Some-Ask-clause-goes g c =
    goes_ask _ _ c.args.script.now _ c.args.own.now c.in-Some-Ask.question c.ask-reply.result c.done-in-Some-Ask.new.self c.requires.going (sym c.next.ensures.need ∙ c.in-Some-Ask.is ∙ ap Some c.in-Some-Ask.field-0-is) c.ask-reply.ensures c.done-in-Some-Ask.ensures.after

pub returns-in-Some-Ask-clause-walks : goal.returns-in-Some-Ask-clause-walks
returns-in-Some-Ask-clause-walks g c = walks_on _ c.args.script.now c.args.own.now.walk c.done-in-Some-Ask.new.self _ c.requires.script c.requires.walks c.done-in-Some-Ask.ensures.after

pub returns-in-Some-Ask-clause-falls : goal.returns-in-Some-Ask-clause-falls
returns-in-Some-Ask-clause-falls g c = inr (falls_at _ c.args.script.now c.args.own.now.walk c.done-in-Some-Ask.new.self _ _ c.requires.script c.requires.walks (sym c.next.ensures.need ∙ c.in-Some-Ask.is ∙ ap Some c.in-Some-Ask.field-0-is) c.done-in-Some-Ask.ensures.after)

pub returns-in-Some-Work-clause-goes : goal.returns-in-Some-Work-clause-goes
returns-in-Some-Work-clause-goes g c = goes_work _ _ c.args.script.now _ c.args.own.now _ c.done.new.self c.requires.going (sym c.next.ensures.need ∙ c.in-Some-Work.is ∙ ap Some c.in-Some-Work.field-0-is) c.done.ensures.after

pub returns-in-Some-Work-clause-walks : goal.returns-in-Some-Work-clause-walks
returns-in-Some-Work-clause-walks g c = walks_on _ c.args.script.now c.args.own.now.walk c.done.new.self _ c.requires.script c.requires.walks c.done.ensures.after

pub returns-in-Some-Work-clause-falls : goal.returns-in-Some-Work-clause-falls
returns-in-Some-Work-clause-falls g c = inr (falls_at _ c.args.script.now c.args.own.now.walk c.done.new.self _ _ c.requires.script c.requires.walks (sym c.next.ensures.need ∙ c.in-Some-Work.is ∙ ap Some c.in-Some-Work.field-0-is) c.done.ensures.after)

pub returns-in-Some-Local-clause-goes : goal.returns-in-Some-Local-clause-goes
returns-in-Some-Local-clause-goes g c = goes_local _ _ c.args.script.now _ c.args.own.now c.done-in-Some-Local.new.self c.requires.going (sym c.next.ensures.need ∙ c.in-Some-Local.is ∙ ap Some c.in-Some-Local.field-0-is) c.done-in-Some-Local.ensures.after

pub returns-in-Some-Local-clause-walks : goal.returns-in-Some-Local-clause-walks
returns-in-Some-Local-clause-walks g c = walks_on _ c.args.script.now c.args.own.now.walk c.done-in-Some-Local.new.self _ c.requires.script c.requires.walks c.done-in-Some-Local.ensures.after

pub returns-in-Some-Local-clause-falls : goal.returns-in-Some-Local-clause-falls
returns-in-Some-Local-clause-falls g c = inr (falls_at _ c.args.script.now c.args.own.now.walk c.done-in-Some-Local.new.self _ _ c.requires.script c.requires.walks (sym c.next.ensures.need ∙ c.in-Some-Local.is ∙ ap Some c.in-Some-Local.field-0-is) c.done-in-Some-Local.ensures.after)
