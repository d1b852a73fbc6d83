-- A sheet has one refusal at most, but for want of memory.
use Rattle.std.proofs.Common.{◌≡◌, ◌≢◌, ◌∙◌, refl, sym, ap, ℕ, Some, List, [], map, slice_index_or, inl, inr, arith}
use Rattle.std.proofs.lemmas.Bool.{cases_lt}
use Rattle.hk_sheet.specs.declared.sheet.High.{High}
use Rattle.hk_sheet.specs.declared.sheet.Sheet.{Sheet}
use Rattle.hk_rta.specs.declared.Timing.{Timing}
use Rattle.hk_admit.specs.declared.refused.Refused.{Refused}
use Rattle.hk_admit.specs.declared.refused.Refused.TheVariants as refused
use Rattle.hk_admit.specs.Analysis.{timings_of, most_owed}
use Rattle.hk_admit.specs.Conditions.{is_too_long, is_too_large, IsFirstLate}
use Rattle.hk_admit.specs.Refusals.{too_long, too_large, IsFirstLateName, IsHeapRefusal, IsRefusal}
use Rattle.hk_admit.proofs.Excluded.{never, one_busy}

one_some : {r s : Refused} → Some r ≡ Some s → r ≡ s
one_some e = cc

same_rate : {a b c d : ℕ} → a ≡ c → b ≡ d → refused.Rate a b ≡ refused.Rate c d
same_rate p q = cc

same_reserve : {a b c d : ℕ} → a ≡ c → b ≡ d → refused.Reserve a b ≡ refused.Reserve c d
same_reserve p q = cc

-- there is one first late task
one_place : (tasks : List Timing) (i j : ℕ) → IsFirstLate tasks i → IsFirstLate tasks j → i ≡ j
one_place tasks i j h k =
    elim (cases_lt i j) [
      | inl less ↦ absurd (k.earlier i less h.late)
      | inr fine ↦ elim (cases_lt j i) [
        | inl less ↦ absurd (h.earlier j less k.late)
        | inr same ↦ omega arith
      ]
    ]

one_name : (tasks : List High) (a b : List ℕ) → IsFirstLateName tasks a → IsFirstLateName tasks b → a ≡ b
one_name tasks a b h k =
    h.named ∙ ap (λ (i : ℕ). slice_index_or (map (λ (task : High). task.name) tasks) i []) (one_place (timings_of tasks) h.place k.place h.first k.first) ∙ sym k.named

pub one_heap_refusal : (sheet : Sheet) (r s : Refused) → IsHeapRefusal sheet r → IsHeapRefusal sheet s → r ≢ refused.Memory → s ≢ refused.Memory → r ≡ s
one_heap_refusal sheet (refused.Cost tp np dp) (refused.Cost tq nq dq) h k p q = one_some (sym h ∙ k)
one_heap_refusal sheet (refused.Cost tp np dp) (refused.Words tq nq dq) h k p q = absurd (never too_long is_too_long sheet.high (refused.Cost tp np dp) k.0 h)
one_heap_refusal sheet (refused.Cost tp np dp) refused.Busy h k p q = absurd (never too_long is_too_long sheet.high (refused.Cost tp np dp) k.0.ticks h)
one_heap_refusal sheet (refused.Cost tp np dp) (refused.Rate have' need') h k p q = absurd (never too_long is_too_long sheet.high (refused.Cost tp np dp) k.0.ticks h)
one_heap_refusal sheet (refused.Cost tp np dp) (refused.Reserve have' need') h k p q = absurd (never too_long is_too_long sheet.high (refused.Cost tp np dp) k.0.ticks h)
one_heap_refusal sheet (refused.Cost tp np dp) refused.Memory h k p q = absurd (q refl)
one_heap_refusal sheet (refused.Cost tp np dp) (refused.Response t) h k p q = absurd k
one_heap_refusal sheet (refused.Words tp np dp) (refused.Cost tq nq dq) h k p q = absurd (never too_long is_too_long sheet.high (refused.Cost tq nq dq) h.0 k)
one_heap_refusal sheet (refused.Words tp np dp) (refused.Words tq nq dq) h k p q = one_some (sym h.1 ∙ k.1)
one_heap_refusal sheet (refused.Words tp np dp) refused.Busy h k p q = absurd (never too_large is_too_large sheet.high (refused.Words tp np dp) k.0.words h.1)
one_heap_refusal sheet (refused.Words tp np dp) (refused.Rate have' need') h k p q = absurd (never too_large is_too_large sheet.high (refused.Words tp np dp) k.0.words h.1)
one_heap_refusal sheet (refused.Words tp np dp) (refused.Reserve have' need') h k p q = absurd (never too_large is_too_large sheet.high (refused.Words tp np dp) k.0.words h.1)
one_heap_refusal sheet (refused.Words tp np dp) refused.Memory h k p q = absurd (q refl)
one_heap_refusal sheet (refused.Words tp np dp) (refused.Response t) h k p q = absurd k
one_heap_refusal sheet refused.Busy (refused.Cost tq nq dq) h k p q = absurd (never too_long is_too_long sheet.high (refused.Cost tq nq dq) h.0.ticks k)
one_heap_refusal sheet refused.Busy (refused.Words tq nq dq) h k p q = absurd (never too_large is_too_large sheet.high (refused.Words tq nq dq) h.0.words k.1)
one_heap_refusal sheet refused.Busy refused.Busy h k p q = refl
one_heap_refusal sheet refused.Busy (refused.Rate have' need') h k p q = absurd (h.1 k.1.busy k.1.is_busy.short k.1.is_busy.least.holds)
one_heap_refusal sheet refused.Busy (refused.Reserve have' need') h k p q = absurd (h.1 k.1.busy k.1.is_busy.short k.1.is_busy.least.holds)
one_heap_refusal sheet refused.Busy refused.Memory h k p q = absurd (q refl)
one_heap_refusal sheet refused.Busy (refused.Response t) h k p q = absurd k
one_heap_refusal sheet (refused.Rate have need) (refused.Cost tq nq dq) h k p q = absurd (never too_long is_too_long sheet.high (refused.Cost tq nq dq) h.0.ticks k)
one_heap_refusal sheet (refused.Rate have need) (refused.Words tq nq dq) h k p q = absurd (never too_large is_too_large sheet.high (refused.Words tq nq dq) h.0.words k.1)
one_heap_refusal sheet (refused.Rate have need) refused.Busy h k p q = absurd (k.1 h.1.busy h.1.is_busy.short h.1.is_busy.least.holds)
one_heap_refusal sheet (refused.Rate have need) (refused.Rate have' need') h k p q = same_rate (h.1.has ∙ sym k.1.has) (h.1.needs ∙ sym k.1.needs)
one_heap_refusal sheet (refused.Rate have need) (refused.Reserve have' need') h k p q = absurd (omega (arith, h.1.has, h.1.needs, h.1.short, k.1.keeps_up))
one_heap_refusal sheet (refused.Rate have need) refused.Memory h k p q = absurd (q refl)
one_heap_refusal sheet (refused.Rate have need) (refused.Response t) h k p q = absurd k
one_heap_refusal sheet (refused.Reserve have need) (refused.Cost tq nq dq) h k p q = absurd (never too_long is_too_long sheet.high (refused.Cost tq nq dq) h.0.ticks k)
one_heap_refusal sheet (refused.Reserve have need) (refused.Words tq nq dq) h k p q = absurd (never too_large is_too_large sheet.high (refused.Words tq nq dq) h.0.words k.1)
one_heap_refusal sheet (refused.Reserve have need) refused.Busy h k p q = absurd (k.1 h.1.busy h.1.is_busy.short h.1.is_busy.least.holds)
one_heap_refusal sheet (refused.Reserve have need) (refused.Rate have' need') h k p q = absurd (omega (arith, k.1.has, k.1.needs, k.1.short, h.1.keeps_up))
one_heap_refusal sheet (refused.Reserve have need) (refused.Reserve have' need') h k p q = same_reserve (h.1.has ∙ sym k.1.has) (h.1.needs ∙ ap (most_owed sheet) (one_busy sheet h.1.busy k.1.busy h.1.is_busy k.1.is_busy) ∙ sym k.1.needs)
one_heap_refusal sheet (refused.Reserve have need) refused.Memory h k p q = absurd (q refl)
one_heap_refusal sheet (refused.Reserve have need) (refused.Response t) h k p q = absurd k
one_heap_refusal sheet (refused.Response t) s h k p q = absurd h
one_heap_refusal sheet refused.Memory s h k p q = absurd (p refl)

pub one_refusal : (sheet : Sheet) (r s : Refused) → IsRefusal sheet r → IsRefusal sheet s → r ≢ refused.Memory → s ≢ refused.Memory → r ≡ s
one_refusal sheet (refused.Cost tp np dp) (refused.Cost tq nq dq) h k p q = one_some (sym h ∙ k)
one_refusal sheet (refused.Cost tp np dp) (refused.Words tq nq dq) h k p q = absurd (never too_long is_too_long sheet.high (refused.Cost tp np dp) k.0 h)
one_refusal sheet (refused.Cost tp np dp) (refused.Response tq) h k p q = absurd (never too_long is_too_long sheet.high (refused.Cost tp np dp) k.0.ticks h)
one_refusal sheet (refused.Cost tp np dp) refused.Busy h k p q = absurd (never too_long is_too_long sheet.high (refused.Cost tp np dp) k.1.0.ticks h)
one_refusal sheet (refused.Cost tp np dp) (refused.Rate have' need') h k p q = absurd (never too_long is_too_long sheet.high (refused.Cost tp np dp) k.1.0.ticks h)
one_refusal sheet (refused.Cost tp np dp) (refused.Reserve have' need') h k p q = absurd (never too_long is_too_long sheet.high (refused.Cost tp np dp) k.1.0.ticks h)
one_refusal sheet (refused.Cost tp np dp) refused.Memory h k p q = absurd (q refl)
one_refusal sheet (refused.Words tp np dp) (refused.Cost tq nq dq) h k p q = absurd (never too_long is_too_long sheet.high (refused.Cost tq nq dq) h.0 k)
one_refusal sheet (refused.Words tp np dp) (refused.Words tq nq dq) h k p q = one_some (sym h.1 ∙ k.1)
one_refusal sheet (refused.Words tp np dp) (refused.Response tq) h k p q = absurd (never too_large is_too_large sheet.high (refused.Words tp np dp) k.0.words h.1)
one_refusal sheet (refused.Words tp np dp) refused.Busy h k p q = absurd (never too_large is_too_large sheet.high (refused.Words tp np dp) k.1.0.words h.1)
one_refusal sheet (refused.Words tp np dp) (refused.Rate have' need') h k p q = absurd (never too_large is_too_large sheet.high (refused.Words tp np dp) k.1.0.words h.1)
one_refusal sheet (refused.Words tp np dp) (refused.Reserve have' need') h k p q = absurd (never too_large is_too_large sheet.high (refused.Words tp np dp) k.1.0.words h.1)
one_refusal sheet (refused.Words tp np dp) refused.Memory h k p q = absurd (q refl)
one_refusal sheet (refused.Response tp) (refused.Cost tq nq dq) h k p q = absurd (never too_long is_too_long sheet.high (refused.Cost tq nq dq) h.0.ticks k)
one_refusal sheet (refused.Response tp) (refused.Words tq nq dq) h k p q = absurd (never too_large is_too_large sheet.high (refused.Words tq nq dq) h.0.words k.1)
one_refusal sheet (refused.Response tp) (refused.Response tq) h k p q = ap refused.Response (one_name sheet.high tp tq h.1 k.1)
one_refusal sheet (refused.Response tp) refused.Busy h k p q = absurd (k.0 h.1.place h.1.first.within h.1.first.late)
one_refusal sheet (refused.Response tp) (refused.Rate have' need') h k p q = absurd (k.0 h.1.place h.1.first.within h.1.first.late)
one_refusal sheet (refused.Response tp) (refused.Reserve have' need') h k p q = absurd (k.0 h.1.place h.1.first.within h.1.first.late)
one_refusal sheet (refused.Response tp) refused.Memory h k p q = absurd (q refl)
one_refusal sheet refused.Busy (refused.Cost tq nq dq) h k p q = absurd (never too_long is_too_long sheet.high (refused.Cost tq nq dq) h.1.0.ticks k)
one_refusal sheet refused.Busy (refused.Words tq nq dq) h k p q = absurd (never too_large is_too_large sheet.high (refused.Words tq nq dq) h.1.0.words k.1)
one_refusal sheet refused.Busy (refused.Response tq) h k p q = absurd (h.0 k.1.place k.1.first.within k.1.first.late)
one_refusal sheet refused.Busy refused.Busy h k p q = refl
one_refusal sheet refused.Busy (refused.Rate have' need') h k p q = absurd (h.1.1 k.1.1.busy k.1.1.is_busy.short k.1.1.is_busy.least.holds)
one_refusal sheet refused.Busy (refused.Reserve have' need') h k p q = absurd (h.1.1 k.1.1.busy k.1.1.is_busy.short k.1.1.is_busy.least.holds)
one_refusal sheet refused.Busy refused.Memory h k p q = absurd (q refl)
one_refusal sheet (refused.Rate have need) (refused.Cost tq nq dq) h k p q = absurd (never too_long is_too_long sheet.high (refused.Cost tq nq dq) h.1.0.ticks k)
one_refusal sheet (refused.Rate have need) (refused.Words tq nq dq) h k p q = absurd (never too_large is_too_large sheet.high (refused.Words tq nq dq) h.1.0.words k.1)
one_refusal sheet (refused.Rate have need) (refused.Response tq) h k p q = absurd (h.0 k.1.place k.1.first.within k.1.first.late)
one_refusal sheet (refused.Rate have need) refused.Busy h k p q = absurd (k.1.1 h.1.1.busy h.1.1.is_busy.short h.1.1.is_busy.least.holds)
one_refusal sheet (refused.Rate have need) (refused.Rate have' need') h k p q = same_rate (h.1.1.has ∙ sym k.1.1.has) (h.1.1.needs ∙ sym k.1.1.needs)
one_refusal sheet (refused.Rate have need) (refused.Reserve have' need') h k p q = absurd (omega (arith, h.1.1.has, h.1.1.needs, h.1.1.short, k.1.1.keeps_up))
one_refusal sheet (refused.Rate have need) refused.Memory h k p q = absurd (q refl)
one_refusal sheet (refused.Reserve have need) (refused.Cost tq nq dq) h k p q = absurd (never too_long is_too_long sheet.high (refused.Cost tq nq dq) h.1.0.ticks k)
one_refusal sheet (refused.Reserve have need) (refused.Words tq nq dq) h k p q = absurd (never too_large is_too_large sheet.high (refused.Words tq nq dq) h.1.0.words k.1)
one_refusal sheet (refused.Reserve have need) (refused.Response tq) h k p q = absurd (h.0 k.1.place k.1.first.within k.1.first.late)
one_refusal sheet (refused.Reserve have need) refused.Busy h k p q = absurd (k.1.1 h.1.1.busy h.1.1.is_busy.short h.1.1.is_busy.least.holds)
one_refusal sheet (refused.Reserve have need) (refused.Rate have' need') h k p q = absurd (omega (arith, k.1.1.has, k.1.1.needs, k.1.1.short, h.1.1.keeps_up))
one_refusal sheet (refused.Reserve have need) (refused.Reserve have' need') h k p q = same_reserve (h.1.1.has ∙ sym k.1.1.has) (h.1.1.needs ∙ ap (most_owed sheet) (one_busy sheet h.1.1.busy k.1.1.busy h.1.1.is_busy k.1.1.is_busy) ∙ sym k.1.1.needs)
one_refusal sheet (refused.Reserve have need) refused.Memory h k p q = absurd (q refl)
one_refusal sheet refused.Memory s h k p q = absurd (p refl)
