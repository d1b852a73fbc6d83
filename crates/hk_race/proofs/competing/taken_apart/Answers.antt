use Rattle.std.proofs.Common.{sym, subst, ◌++◌, ◌∷◌, [], List}
use Rattle.hk_table.specs.declared.pass.Pass.{Pass}
use Rattle.hk_race.specs.declared.progress.Progress.{Progress}
use Rattle.hk_race.specs.Jobs.{Parts}
use Rattle.hk_race.proofs.Coming.{parts_more}
use Rattle.hk_race.proofs.competing.taken_apart.Goals as goal

pub loop-one-preserved : goal.loop-one-preserved
loop-one-preserved c =
    subst (λ (ps : List Pass). Parts (c.loop-one.yielded ++ c.in-Some.one ∷ []) ps c.push-in-loop-one.new.self.items) (sym c.in_ok-push.ensures.items)
    (subst (λ (all : List Progress). Parts (c.loop-one.yielded ++ c.in-Some.one ∷ []) (c.loop-one.passes.items ++ c.in-Some.one.pass ∷ []) all) (sym c.in_ok-push-2.ensures.items)
    (parts_more c.loop-one.yielded c.loop-one.passes.items c.loop-one.all.items c.in-Some.one c.in-Some-told.own c.loop-one.invariant c.in-Some-told.is))
