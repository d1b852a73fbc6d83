-- Words and bytes call for one end, and for one text, or for texts that are read as one sheet.
use Rattle.std.proofs.Common.{◌≡◌, ◌≢◌, ℕ, ◌⊎◌, inl, inr, List, All, Option, Some, None, Ok, refl, sym, ap, ◌∙◌, subst, String, Global}
use Rattle.hk_io.specs.declared.Status.{Status}
use Rattle.hk_io.specs.declared.Status.TheVariants as status
use Rattle.hk_rta.specs.Demand.{IsTimed}
use Rattle.hk_sheet.specs.declared.error.SheetError.{SheetError}
use Rattle.hk_sheet.specs.declared.sheet.Sheet.{Sheet}
use Rattle.hk_sheet.specs.Answers.{IsRead}
use Rattle.hk_sheet.specs.Faults.{unless_fault, fault_of, sheet_of}
use Rattle.hk_sheet.specs.Reading.{sheet_in}
use Rattle.hk_sheet.specs.Valid.{IsSheet}
use Rattle.hk_sheet.proofs.Validity.{sheet_right}
use Rattle.hk_admit.specs.Analysis.{timings_of}
use Rattle.hk_admit.proofs.Readable.{all_in_range, all_timed}
use Rattle.hk_front.specs.Input.{IsSheetOf}
use Rattle.hk_front.proofs.OneInput.{one_sheet, none_read, one_unread}
use Rattle.hk_assign.specs.Assignment.{IsStuck}
use Rattle.hk_assign.specs.Sheets.{names_at, in_sheet_order, IsAssigned}
use Rattle.hk_assign.specs.Tool.{IsAsked, usage_line, order_line, IsArranged, IsNoOrder, BytesCallFor, CallsFor, AreOneSheet}
use Rattle.hk_assign.proofs.Blocked.{no_order}
use Rattle.hk_assign.proofs.OneOrder.{one_order, one_set}

-- A SHEET

-- a sheet that is read is one that can be read
is_good : (fault : Option SheetError) (found sheet : Sheet) → unless_fault fault found ≡ Ok sheet → (fault ≡ None) × (found ≡ sheet)
is_good None found sheet e = (refl, cc)
is_good (Some error) found sheet e = absurd (cc)

is_sheet : (bytes : List ℕ) (sheet : Sheet) → IsSheetOf bytes sheet → IsSheet sheet
unfolding sheet_of
is_sheet bytes sheet is =
    let good = is_good (fault_of is.read.document) (sheet_in is.read.document) sheet is.read.read in
    subst IsSheet good.1 (sheet_right is.read.document good.0)

pub timed : (sheet : Sheet) → IsSheet sheet → All IsTimed (timings_of sheet.high)
timed sheet is = all_timed sheet.high (all_in_range sheet is)

-- THE TEXTS

-- one sheet for tasks that have an order
arranged_same : (bytes t t' : List ℕ) → IsArranged bytes t → IsArranged bytes t' → AreOneSheet t t'
arranged_same bytes t t' a b =
    let sheet = b.sheet in
    let same : a.sheet ≡ sheet = one_sheet bytes a.sheet sheet a.is b.is in
    let assigned : IsAssigned sheet.high a.order = subst (λ (s : Sheet). IsAssigned s.high a.order) same a.assigned in
    let order : a.order ≡ b.order =
    one_order (timings_of sheet.high) (timed sheet (is_sheet bytes sheet b.is)) a.order b.order assigned.keeps b.assigned.keeps assigned.greatest b.assigned.greatest in (
      in_sheet_order sheet b.order,
      subst (λ (o : List ℕ). IsRead t (Ok (in_sheet_order sheet o))) order (subst (λ (s : Sheet). IsRead t (Ok (in_sheet_order s a.order))) same a.text_is),
      b.text_is,
    )

-- one line for tasks that have none
no_order_same : (bytes t t' : List ℕ) → IsNoOrder bytes t → IsNoOrder bytes t' → t ≡ t'
no_order_same bytes t t' a b =
    let sheet = b.sheet in
    let same : a.sheet ≡ sheet = one_sheet bytes a.sheet sheet a.is b.is in
    let stuck : IsStuck (timings_of sheet.high) a.set = subst (λ (s : Sheet). IsStuck (timings_of s.high) a.set) same a.stuck in
    let set : a.set ≡ b.set = one_set (timings_of sheet.high) a.set b.set stuck b.stuck in
    a.text_is
    ∙ ap (λ (s : Sheet). order_line (names_at s.high a.set)) same
    ∙ ap (λ (places : List ℕ). order_line (names_at sheet.high places)) set
    ∙ sym b.text_is

-- tasks that have an order aren't stuck
not_both : (bytes t t' : List ℕ) → IsArranged bytes t → IsNoOrder bytes t' → ⊥
not_both bytes t t' a b =
    let sheet = b.sheet in
    let same : a.sheet ≡ sheet = one_sheet bytes a.sheet sheet a.is b.is in
    let assigned : IsAssigned sheet.high a.order = subst (λ (s : Sheet). IsAssigned s.high a.order) same a.assigned in
    no_order (timings_of sheet.high) b.set (timed sheet (is_sheet bytes sheet b.is)) b.stuck a.order assigned.keeps

-- THE END

one_bytes : (bytes : List ℕ) (s s' : Status) (t t' : List ℕ) → BytesCallFor bytes s t → BytesCallFor bytes s' t' → s ≡ s'
one_bytes bytes status.Done status.Done t t' a b = refl
one_bytes bytes status.Done status.Memory t t' a b = absurd b
one_bytes bytes status.Done status.Usage t t' a b = absurd b
one_bytes bytes status.Done status.ReadFault t t' a b = absurd b
one_bytes bytes status.Done status.WriteFault t t' a b = absurd b
one_bytes bytes status.Done status.Sheet t t' a b = absurd (none_read bytes t' a.sheet b a.is)
one_bytes bytes status.Done status.NotAdmitted t t' a b = absurd (not_both bytes t t' a b)
one_bytes bytes status.Done status.Live t t' a b = absurd b
one_bytes bytes status.Done status.Full t t' a b = absurd b
one_bytes bytes status.Memory s' t t' a b = absurd a
one_bytes bytes status.Usage s' t t' a b = absurd a
one_bytes bytes status.ReadFault s' t t' a b = absurd a
one_bytes bytes status.WriteFault s' t t' a b = absurd a
one_bytes bytes status.Sheet status.Done t t' a b = absurd (none_read bytes t b.sheet a b.is)
one_bytes bytes status.Sheet status.Memory t t' a b = absurd b
one_bytes bytes status.Sheet status.Usage t t' a b = absurd b
one_bytes bytes status.Sheet status.ReadFault t t' a b = absurd b
one_bytes bytes status.Sheet status.WriteFault t t' a b = absurd b
one_bytes bytes status.Sheet status.Sheet t t' a b = refl
one_bytes bytes status.Sheet status.NotAdmitted t t' a b = absurd (none_read bytes t b.sheet a b.is)
one_bytes bytes status.Sheet status.Live t t' a b = absurd b
one_bytes bytes status.Sheet status.Full t t' a b = absurd b
one_bytes bytes status.NotAdmitted status.Done t t' a b = absurd (not_both bytes t' t b a)
one_bytes bytes status.NotAdmitted status.Memory t t' a b = absurd b
one_bytes bytes status.NotAdmitted status.Usage t t' a b = absurd b
one_bytes bytes status.NotAdmitted status.ReadFault t t' a b = absurd b
one_bytes bytes status.NotAdmitted status.WriteFault t t' a b = absurd b
one_bytes bytes status.NotAdmitted status.Sheet t t' a b = absurd (none_read bytes t' a.sheet b a.is)
one_bytes bytes status.NotAdmitted status.NotAdmitted t t' a b = refl
one_bytes bytes status.NotAdmitted status.Live t t' a b = absurd b
one_bytes bytes status.NotAdmitted status.Full t t' a b = absurd b
one_bytes bytes status.Live s' t t' a b = absurd a
one_bytes bytes status.Full s' t t' a b = absurd a

-- there are words, or there are none
record IsWrong (words : List (String Global)) (s : Status) (t : List ℕ) : Type 0 where
  usage : s ≡ status.Usage
  wrong : ¬ (IsAsked words)
  line : t ≡ usage_line

record IsRight (words : List (String Global)) (bytes : List ℕ) (s : Status) (t : List ℕ) : Type 0 where
  none : IsAsked words
  called : BytesCallFor bytes s t

parted : (words : List (String Global)) (bytes : List ℕ) (s : Status) (t : List ℕ) → CallsFor words bytes s t → IsWrong words s t ⊎ IsRight words bytes s t
parted words bytes status.Done t called = inr (record { none = called.0; called = called.1 })
parted words bytes status.Memory t called = inr (record { none = called.0; called = called.1 })
parted words bytes status.Usage t called = inl (record { usage = refl; wrong = called.0; line = called.1 })
parted words bytes status.ReadFault t called = inr (record { none = called.0; called = called.1 })
parted words bytes status.WriteFault t called = inr (record { none = called.0; called = called.1 })
parted words bytes status.Sheet t called = inr (record { none = called.0; called = called.1 })
parted words bytes status.NotAdmitted t called = inr (record { none = called.0; called = called.1 })
parted words bytes status.Live t called = inr (record { none = called.0; called = called.1 })
parted words bytes status.Full t called = inr (record { none = called.0; called = called.1 })

-- one end
pub one_status : (words : List (String Global)) (bytes : List ℕ) (s s' : Status) (t t' : List ℕ) → CallsFor words bytes s t → CallsFor words bytes s' t' → s ≡ s'
one_status words bytes s s' t t' a b = go (parted words bytes s t a) (parted words bytes s' t' b)
  where
    go : IsWrong words s t ⊎ IsRight words bytes s t → IsWrong words s' t' ⊎ IsRight words bytes s' t' → s ≡ s'
    go (inl x) (inl y) = x.usage ∙ sym y.usage
    go (inl x) (inr y) = absurd (x.wrong y.none)
    go (inr x) (inl y) = absurd (y.wrong x.none)
    go (inr x) (inr y) = one_bytes bytes s s' t t' x.called y.called

-- one text, where it isn't a sheet
one_same_text : (words : List (String Global)) (bytes : List ℕ) (s : Status) (t t' : List ℕ) → CallsFor words bytes s t → CallsFor words bytes s t' → s ≢ status.Done → t ≡ t'
one_same_text words bytes status.Done t t' a b other = absurd (other refl)
one_same_text words bytes status.Memory t t' a b other = absurd a.1
one_same_text words bytes status.Usage t t' a b other = a.1 ∙ sym b.1
one_same_text words bytes status.ReadFault t t' a b other = absurd a.1
one_same_text words bytes status.WriteFault t t' a b other = absurd a.1
one_same_text words bytes status.Sheet t t' a b other = one_unread bytes t t' a.1 b.1
one_same_text words bytes status.NotAdmitted t t' a b other = no_order_same bytes t t' a.1 b.1
one_same_text words bytes status.Live t t' a b other = absurd a.1
one_same_text words bytes status.Full t t' a b other = absurd a.1

pub one_text : (words : List (String Global)) (bytes : List ℕ) (s s' : Status) (t t' : List ℕ) → CallsFor words bytes s t → CallsFor words bytes s' t' → s ≢ status.Done → t ≡ t'
one_text words bytes s s' t t' a b other =
    one_same_text words bytes s t t' a (subst (λ (u : Status). CallsFor words bytes u t') (sym (one_status words bytes s s' t t' a b)) b) other

-- and one sheet, where it is one
pub one_arranged : (words : List (String Global)) (bytes t t' : List ℕ) → CallsFor words bytes status.Done t → CallsFor words bytes status.Done t' → AreOneSheet t t'
one_arranged words bytes t t' a b = arranged_same bytes t t' a.1 b.1
