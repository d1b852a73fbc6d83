-- What is kept of an admitted sheet excludes each refusal, and a sheet has one refusal at most.
use Rattle.std.proofs.Common.{◌≡◌, ◌≢◌, ◌∙◌, refl, sym, ap, ℕ, true, false, List, [], length, map, slice_index, slice_index_or, inl, inr, arith}
use Rattle.std.proofs.lemmas.Bool.{cases_lt}
use Rattle.hk_rta.specs.declared.Timing.{Timing}
use Rattle.hk_sheet.specs.declared.sheet.High.{High}
use Rattle.hk_sheet.specs.declared.sheet.Sheet.{Sheet}
use Rattle.hk_admit.specs.Analysis.{timings_of}
use Rattle.hk_admit.specs.Facts.{IsChecked}
use Rattle.hk_admit.proofs.Excluded.{checked_excludes}
use Rattle.hk_admit.proofs.Unique.{one_heap_refusal}
use Rattle.hk_ceiling.specs.declared.ceilings.TaskSection.{TaskSection}
use Rattle.hk_ceiling.specs.declared.told.Section.{Section}
use Rattle.hk_ceiling.specs.declared.refused.CeilRefused.{CeilRefused}
use Rattle.hk_ceiling.specs.declared.refused.CeilRefused.TheVariants as refusal
use Rattle.hk_ceiling.specs.Admission.{NoSectionWrong, AreResponses, IsHeld, IsFirstMoved, IsFirstMovedName, IsFirstLate, IsFirstLateName, IsCeilRefusal}
use Rattle.hk_ceiling.specs.Bounds.{AreStill}
use Rattle.hk_ceiling.specs.Order.{IsFirstWrong, NoneWrong}
use Rattle.hk_ceiling.specs.Told.{all_numbered}

-- where none is wrong there is no first wrong one
none_first : (timings : List Timing) (sections : List TaskSection) (q : ℕ) → NoneWrong timings sections (length sections) → IsFirstWrong timings sections q → ⊥
none_first timings sections q none first = let e : true ≡ false = sym first.wrong ∙ none q first.listed in cc

-- where no task moves none is the first that does
none_moves : (tasks : List Timing) (i : ℕ) → AreStill tasks → IsFirstMoved tasks i → ⊥
none_moves tasks i still first = omega (arith, first.moves, still i first.within)

-- where each is in time none is late
none_late : (tasks : List Timing) (sections : List TaskSection) (responses : List ℕ) (i : ℕ) → AreResponses tasks sections responses → IsFirstLate tasks sections i → ⊥
none_late tasks sections responses i are first = first.late (slice_index responses i) (are.in_time i first.within) (are.each i first.within).holds

pub held_excludes : (sheet : Sheet) (sections : List Section) (work attempt busy debt : ℕ) (responses : List ℕ) (r : CeilRefused)
    → IsChecked sheet work attempt busy debt → IsHeld sheet sections responses → IsCeilRefusal sheet sections r → r ≡ refusal.Memory
held_excludes sheet sections work attempt busy debt responses (refusal.Section q) is held h = absurd (none_first (timings_of sheet.high) (all_numbered sheet.high sections) q held.none_wrong h)
held_excludes sheet sections work attempt busy debt responses (refusal.Heap refused) is held h = absurd (h.2 (checked_excludes sheet work attempt busy debt refused is h.1))
held_excludes sheet sections work attempt busy debt responses (refusal.Jitter name) is held h = absurd (none_moves (timings_of sheet.high) h.2.place held.still h.2.first)
held_excludes sheet sections work attempt busy debt responses (refusal.Response name) is held h =
    absurd (none_late (timings_of sheet.high) (all_numbered sheet.high sections) responses h.2.1.place held.in_time h.2.1.first)
held_excludes sheet sections work attempt busy debt responses refusal.Memory is held h = refl

-- ONE REFUSAL

one_wrong : (timings : List Timing) (sections : List TaskSection) (p q : ℕ) → IsFirstWrong timings sections p → IsFirstWrong timings sections q → p ≡ q
one_wrong timings sections p q h k = elim (cases_lt p q) [
  | inl less ↦ absurd (let e : true ≡ false = sym h.wrong ∙ k.earlier p less in cc)
  | inr fine ↦ elim (cases_lt q p) [
    | inl less ↦ absurd (let e : true ≡ false = sym k.wrong ∙ h.earlier q less in cc)
    | inr same ↦ omega (arith, fine, same)
  ]
]

one_moved : (tasks : List Timing) (i j : ℕ) → IsFirstMoved tasks i → IsFirstMoved tasks j → i ≡ j
one_moved tasks i j h k = elim (cases_lt i j) [
  | inl less ↦ absurd (omega (arith, h.moves, k.earlier i less))
  | inr fine ↦ elim (cases_lt j i) [
    | inl less ↦ absurd (omega (arith, k.moves, h.earlier j less))
    | inr same ↦ omega (arith, fine, same)
  ]
]

one_late : (tasks : List Timing) (sections : List TaskSection) (i j : ℕ) → IsFirstLate tasks sections i → IsFirstLate tasks sections j → i ≡ j
one_late tasks sections i j h k = elim (cases_lt i j) [
  | inl less ↦ absurd (k.earlier i less h.late)
  | inr fine ↦ elim (cases_lt j i) [
    | inl less ↦ absurd (h.earlier j less k.late)
    | inr same ↦ omega (arith, fine, same)
  ]
]

abbrev name_at : List High → ℕ → List ℕ
name_at tasks i = slice_index_or (map (λ (task : High). task.name) tasks) i []

moved_name : (tasks : List High) (a b : List ℕ) → IsFirstMovedName tasks a → IsFirstMovedName tasks b → a ≡ b
moved_name tasks a b h k = h.named ∙ ap (name_at tasks) (one_moved (timings_of tasks) h.place k.place h.first k.first) ∙ sym k.named

late_name : (tasks : List High) (sections : List TaskSection) (a b : List ℕ) → IsFirstLateName tasks sections a → IsFirstLateName tasks sections b → a ≡ b
late_name tasks sections a b h k = h.named ∙ ap (name_at tasks) (one_late (timings_of tasks) sections h.place k.place h.first k.first) ∙ sym k.named

module _ (sheet : Sheet) (sections : List Section) where
  abbrev numbered : List TaskSection
  numbered = all_numbered sheet.high sections

  wrong_not : (q : ℕ) → NoSectionWrong sheet.high sections → IsFirstWrong (timings_of sheet.high) numbered q → ⊥
  wrong_not q none first = none_first (timings_of sheet.high) numbered q none first

  pub one_refusal : (r s : CeilRefused) → IsCeilRefusal sheet sections r → IsCeilRefusal sheet sections s → r ≢ refusal.Memory → s ≢ refusal.Memory → r ≡ s
  one_refusal (refusal.Section p) (refusal.Section q) h k x y = ap refusal.Section (one_wrong (timings_of sheet.high) numbered p q h k)
  one_refusal (refusal.Section p) (refusal.Heap b) h k x y = absurd (wrong_not p k.0 h)
  one_refusal (refusal.Section p) (refusal.Jitter b) h k x y = absurd (wrong_not p k.0 h)
  one_refusal (refusal.Section p) (refusal.Response b) h k x y = absurd (wrong_not p k.0 h)
  one_refusal (refusal.Section p) refusal.Memory h k x y = absurd (y refl)
  one_refusal (refusal.Heap a) (refusal.Section q) h k x y = absurd (wrong_not q h.0 k)
  one_refusal (refusal.Heap a) (refusal.Heap b) h k x y = ap refusal.Heap (one_heap_refusal sheet a b h.1 k.1 h.2 k.2)
  one_refusal (refusal.Heap a) (refusal.Jitter b) h k x y = absurd (h.2 (checked_excludes sheet k.1.work k.1.attempt k.1.busy k.1.debt a k.1.sound h.1))
  one_refusal (refusal.Heap a) (refusal.Response b) h k x y = absurd (h.2 (checked_excludes sheet k.1.work k.1.attempt k.1.busy k.1.debt a k.1.sound h.1))
  one_refusal (refusal.Heap a) refusal.Memory h k x y = absurd (y refl)
  one_refusal (refusal.Jitter a) (refusal.Section q) h k x y = absurd (wrong_not q h.0 k)
  one_refusal (refusal.Jitter a) (refusal.Heap b) h k x y = absurd (k.2 (checked_excludes sheet h.1.work h.1.attempt h.1.busy h.1.debt b h.1.sound k.1))
  one_refusal (refusal.Jitter a) (refusal.Jitter b) h k x y = ap refusal.Jitter (moved_name sheet.high a b h.2 k.2)
  one_refusal (refusal.Jitter a) (refusal.Response b) h k x y = absurd (none_moves (timings_of sheet.high) h.2.place k.2.0 h.2.first)
  one_refusal (refusal.Jitter a) refusal.Memory h k x y = absurd (y refl)
  one_refusal (refusal.Response a) (refusal.Section q) h k x y = absurd (wrong_not q h.0 k)
  one_refusal (refusal.Response a) (refusal.Heap b) h k x y = absurd (k.2 (checked_excludes sheet h.1.work h.1.attempt h.1.busy h.1.debt b h.1.sound k.1))
  one_refusal (refusal.Response a) (refusal.Jitter b) h k x y = absurd (none_moves (timings_of sheet.high) k.2.place h.2.0 k.2.first)
  one_refusal (refusal.Response a) (refusal.Response b) h k x y = ap refusal.Response (late_name sheet.high numbered a b h.2.1 k.2.1)
  one_refusal (refusal.Response a) refusal.Memory h k x y = absurd (y refl)
  one_refusal refusal.Memory s h k x y = absurd (x refl)
