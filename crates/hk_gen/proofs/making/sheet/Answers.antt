-- The tasks are drawn one after another, each from the state that the one before left.
use Rattle.std.proofs.Common.{◌≡◌, ◌∙◌, ap, [], ◌∷◌, subst, sym}
use Rattle.hk_sheet.specs.declared.sheet.Sheet.{Sheet}
use Rattle.hk_sheet.specs.Valid.{IsSheet}
use Rattle.hk_admit.specs.declared.refused.Refused.{Refused}
use Rattle.hk_admit.specs.declared.refused.Refused.TheVariants.{Memory}
use Rattle.hk_admit.specs.Refusals.{IsRefusal}
use Rattle.hk_gen.specs.Made.{after, high_drawn, low_drawn, sheet_of, made}
use Rattle.hk_gen.proofs.Drawn.{made_readable, made_unrefused}
use Rattle.hk_gen.proofs.making.sheet.Goals as goal

is_made : (c : goal.In_ok-low) → sheet_of c.in_ok-high.high.items c.in_ok-low.low.items ≡ made c.args.number
unfolding made
is_made c =
    let s3 = c.in_ok-high_task.ensures.draws in
    let s6 = c.in_ok-high_task-2.ensures.draws ∙ ap (after 3) s3 in
    let s9 = c.in_ok-high_task-3.ensures.draws ∙ ap (after 3) s6 in
    let s11 = c.in_ok-low_task.ensures.draws ∙ ap (after 2) s9 in
    let h0 = c.in_ok-high_task.ensures.task in
    let h1 = c.in_ok-high_task-2.ensures.task ∙ ap (high_drawn 1) s3 in
    let h2 = c.in_ok-high_task-3.ensures.task ∙ ap (high_drawn 2) s6 in
    let l0 = c.in_ok-low_task.ensures.task ∙ ap (low_drawn 0) s9 in
    let l1 = c.in_ok-low_task-2.ensures.task ∙ ap (low_drawn 1) s11 in
    let high = c.in_ok-high.ensures.items ∙ (λ i. h0 i ∷ h1 i ∷ h2 i ∷ []) in
    let low = c.in_ok-low.ensures.items ∙ (λ i. l0 i ∷ l1 i ∷ []) in
    λ i. sheet_of (high i) (low i)

pub returns-clause-made : goal.returns-clause-made
returns-clause-made c = is_made c

pub returns-clause-readable : goal.returns-clause-readable
returns-clause-readable c = subst IsSheet (sym (is_made c)) (made_readable c.args.number)

pub returns-clause-unrefused : goal.returns-clause-unrefused
returns-clause-unrefused c = subst (λ (s : Sheet). (refused : Refused) → IsRefusal s refused → refused ≡ Memory) (sym (is_made c)) (made_unrefused c.args.number)
