use Rattle.std.proofs.Common.{ap, length, subst, sym, arith}
use Rattle.hk_script.specs.declared.linking.Link.{Link}
use Rattle.hk_script.specs.Levels.{HasLevel}
use Rattle.hk_script.specs.Walks.{Answers, Fits}
use Rattle.hk_script.proofs.Stops.{wanted_within, read_here, after_is, keeps_fitting}
use Rattle.hk_script.proofs.walk.Walk.done.Goals as goal

pub bounds-statements-place : goal.bounds-statements-place
bounds-statements-place c =
    let within = wanted_within c.args.script.now c.args.self.now (λ need. Answers need c.args.reply) c.requires.answered in
    omega (arith, within, ap length c.statements.ensures.statements)

pub link-link-requires : goal.link-link-requires
link-link-requires c = wanted_within c.args.script.now c.args.self.now (λ need. Answers need c.args.reply) c.requires.answered

pub step-requires-clause-statement : goal.step-requires-clause-statement
step-requires-clause-statement c =
    let within = wanted_within c.args.script.now c.args.self.now (λ need. Answers need c.args.reply) c.requires.answered in
    (read_here c.args.script.now c.statements.result.now c.args.self.now.place c.index-statements-place.result c.statements.ensures.script c.statements.ensures.statements within c.index-statements-place.is).statement

pub step-requires-clause-level : goal.step-requires-clause-level
step-requires-clause-level c =
    let within = wanted_within c.args.script.now c.args.self.now (λ need. Answers need c.args.reply) c.requires.answered in
    let here = read_here c.args.script.now c.statements.result.now c.args.self.now.place c.index-statements-place.result c.statements.ensures.script c.statements.ensures.statements within c.index-statements-place.is in
    subst (λ (l : Link). HasLevel c.index-statements-place.result l) (sym c.link-link.ensures) here.level

pub returns-clause-after : goal.returns-clause-after
returns-clause-after c =
    let within = wanted_within c.args.script.now c.args.self.now (λ need. Answers need c.args.reply) c.requires.answered in
    let here = read_here c.args.script.now c.statements.result.now c.args.self.now.place c.index-statements-place.result c.statements.ensures.script c.statements.ensures.statements within c.index-statements-place.is in
    after_is c.args.script.now c.args.self.now c.step.new.self c.args.reply c.index-statements-place.result c.link-link.result here c.link-link.ensures c.step.ensures

pub returns-clause-fits : goal.returns-clause-fits
returns-clause-fits c =
    let within = wanted_within c.args.script.now c.args.self.now (λ need. Answers need c.args.reply) c.requires.answered in
    let here = read_here c.args.script.now c.statements.result.now c.args.self.now.place c.index-statements-place.result c.statements.ensures.script c.statements.ensures.statements within c.index-statements-place.is in
    let after = after_is c.args.script.now c.args.self.now c.step.new.self c.args.reply c.index-statements-place.result c.link-link.result here c.link-link.ensures c.step.ensures in
    subst (Fits c.args.script.now) (sym after) (keeps_fitting c.args.script.now c.args.self.now c.args.reply c.statements.ensures.script c.requires.fits within)
