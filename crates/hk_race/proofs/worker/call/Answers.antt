use Rattle.std.proofs.Common.{inl, inr, refl}
use Rattle.hk_script.specs.declared.walk.Need.TheVariants.{Heap}
use Rattle.hk_race.proofs.Going.{goes_done, goes_full, goes_nil, goes_field}
use Rattle.hk_race.proofs.Through.{call_fits, falls_at, walks_on}
use Rattle.hk_race.proofs.worker.call.Goals as goal

pub call-requires-clause-question : goal.call-requires-clause-question
call-requires-clause-question g c = (call_fits _ c.args.script.now c.args.own.now.walk (Heap c.args.call) c.requires.script c.requires.need).0

pub call-requires-clause-registers : goal.call-requires-clause-registers
call-requires-clause-registers g c = (call_fits _ c.args.script.now c.args.own.now.walk (Heap c.args.call) c.requires.script c.requires.need).1

pub returns-in-Done-clause-goes : goal.returns-in-Done-clause-goes
returns-in-Done-clause-goes g c = goes_done _ _ c.args.script.now _ _ c.args.own.now c.args.call c.in-Done.reply c.done.new.self c.requires.going c.requires.need c.in-Done.ensures.tells c.done.ensures.after

pub returns-in-Done-clause-walks : goal.returns-in-Done-clause-walks
returns-in-Done-clause-walks g c = walks_on _ c.args.script.now c.args.own.now.walk c.done.new.self _ c.requires.script c.requires.walks c.done.ensures.after

pub returns-in-Done-clause-falls : goal.returns-in-Done-clause-falls
returns-in-Done-clause-falls g c = inr (falls_at _ c.args.script.now c.args.own.now.walk c.done.new.self _ _ c.requires.script c.requires.walks c.requires.need c.done.ensures.after)

pub returns-in-Full-clause-goes : goal.returns-in-Full-clause-goes
returns-in-Full-clause-goes g c = goes_full _ _ c.args.script.now _ _ c.args.own.now c.args.call c.in-Full.words c.requires.going c.requires.need c.in-Full.ensures.tells

pub returns-in-Full-clause-falls : goal.returns-in-Full-clause-falls
returns-in-Full-clause-falls g c = inl (inr refl)

pub returns-in_ok-end_job-in-Nil-clause-goes : goal.returns-in_ok-end_job-in-Nil-clause-goes
returns-in_ok-end_job-in-Nil-clause-goes g c = goes_nil _ _ c.args.script.now _ _ c.args.own.now _ c.args.call _ c.requires.going c.requires.need c.in-Nil.ensures.tells c.statement-statement.ensures c.in_ok-end_job-in-Nil.ensures.ends

pub returns-in_ok-end_job-in-Field-clause-goes : goal.returns-in_ok-end_job-in-Field-clause-goes
returns-in_ok-end_job-in-Field-clause-goes g c = goes_field _ _ c.args.script.now _ _ c.args.own.now _ c.args.call _ c.requires.going c.requires.need c.in-Field.ensures.tells c.statement-statement-in-Field.ensures c.in_ok-end_job-in-Field.ensures.ends
