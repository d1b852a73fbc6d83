use Rattle.std.proofs.Common.{◌≡◌, subst}
use Rattle.hk_core.specs.declared.outcome.Outcome.TheVariants.{Full}
use Rattle.hk_table.specs.Calls.{Called}
use Rattle.hk_table.specs.Errors.{Refuses, RefusedOrFull}
use Rattle.hk_table.specs.declared.error.HeapError.{HeapError}
use Rattle.hk_table.specs.Passes.{known}
use Rattle.hk_race.proofs.Joining.{tells_done, tells_full, not_spent}
use Rattle.hk_race.proofs.shared.said_of.Goals as goal

pub returns-in-Ok-clause-tells : goal.returns-in-Ok-clause-tells
returns-in-Ok-clause-tells g c = tells_done _ (known c.args.pass.now) _ c.args.call _ c.requires.pass.stands c.requires.pass.idle c.requires.question c.requires.registers c.in-Ok.ensures.done c.in-Ok.ensures.fits

pub returns-in-Err-Full-clause-tells : goal.returns-in-Err-Full-clause-tells
returns-in-Err-Full-clause-tells g c =
    let failed = subst (λ (e : HeapError). RefusedOrFull e (Refuses c.args.heap.now.geometry (known c.args.pass.now) c.args.call c.in-Err-Full.field-0 × (c.reply.new.pass ≡ c.args.pass.now))
    (λ words. Called c.args.heap.now.geometry (known c.args.pass.now) c.args.call (Full words) (known c.reply.new.pass))) c.in-Err-Full.field-0-is c.in-Err-Full.ensures.failed in
    tells_full _ (known c.args.pass.now) _ c.args.call _ c.requires.pass.stands c.requires.pass.idle c.requires.question c.requires.registers failed

pub unreachable-requires : goal.unreachable-requires
unreachable-requires g c =
    let failed = subst (λ (e : HeapError). RefusedOrFull e (Refuses c.args.heap.now.geometry (known c.args.pass.now) c.args.call c.in-Err-Spent.field-0 × (c.reply.new.pass ≡ c.args.pass.now))
    (λ words. Called c.args.heap.now.geometry (known c.args.pass.now) c.args.call (Full words) (known c.reply.new.pass))) c.in-Err-Spent.field-0-is c.in-Err-Spent.ensures.failed in
    not_spent _ (known c.args.pass.now) c.args.call c.requires.few (subst (Refuses c.args.heap.now.geometry (known c.args.pass.now) c.args.call) c.in-Err-Spent.field-0-is failed.0)
