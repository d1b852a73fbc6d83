-- What the types keep of a sheet excludes each of its refusals.
use Rattle.std.proofs.Common.{◌≡◌, refl, ap, ℕ, Bool, false, Some, None, List, [], ◌∷◌, arith}
use Rattle.std.specs.List.{find, list_any}
use Rattle.std.specs.Option.{option_map}
use Rattle.hk_sheet.specs.declared.sheet.High.{High}
use Rattle.hk_sheet.specs.declared.sheet.Sheet.{Sheet}
use Rattle.hk_admit.specs.declared.refused.Refused.{Refused}
use Rattle.hk_admit.specs.declared.refused.Refused.TheVariants as refused
use Rattle.hk_admit.specs.Analysis.{timings_of, IsBusy, most_owed}
use Rattle.hk_admit.specs.Conditions.{is_too_long, is_too_large, AreResponses}
use Rattle.hk_admit.specs.Facts.{IsChecked}
use Rattle.hk_admit.specs.Refusals.{too_long, too_large, IsHeapRefusal, IsRefusal}
use Rattle.hk_admit.proofs.Found.{failed}
use Rattle.hk_admit.proofs.Parted.{all_in_time}

-- where none passes, none is found
find_none : (p : High → Bool) (tasks : List High) → list_any p tasks ≡ false → find p tasks ≡ None
find_none p [] none = refl
find_none p (task ∷ rest) none =
    let split = failed (p task) (list_any p rest) none in
    rw split.0 (find_none p rest split.1)

pub never : (f : High → Refused) (p : High → Bool) (tasks : List High) (r : Refused) → list_any p tasks ≡ false → ¬ (option_map f (find p tasks) ≡ Some r)
never f p tasks r none found =
    let e : option_map f (find p tasks) ≡ None = ap (option_map f) (find_none p tasks none) in
    absurd (cc)

-- there is one busy period
pub one_busy : (sheet : Sheet) (x y : ℕ) → IsBusy sheet x → IsBusy sheet y → x ≡ y
one_busy sheet x y p q = omega (arith, p.least.least y q.least.holds, q.least.least x p.least.holds)

pub checked_excludes : (sheet : Sheet) (work attempt busy debt : ℕ) (r : Refused) → IsChecked sheet work attempt busy debt → IsHeapRefusal sheet r → r ≡ refused.Memory
checked_excludes sheet work attempt busy debt (refused.Cost task need declared) is h =
    absurd (never too_long is_too_long sheet.high (refused.Cost task need declared) is.declared.ticks h)
checked_excludes sheet work attempt busy debt (refused.Words task need declared) is h =
    absurd (never too_large is_too_large sheet.high (refused.Words task need declared) is.declared.words h.1)
checked_excludes sheet work attempt busy debt (refused.Response task) is h = absurd h
checked_excludes sheet work attempt busy debt refused.Busy is h = absurd (h.1 busy is.busy_is.short is.busy_is.least.holds)
checked_excludes sheet work attempt busy debt (refused.Rate have need) is h =
    absurd (omega (arith, h.1.has, h.1.needs, h.1.short, is.work_is, is.rate))
checked_excludes sheet work attempt busy debt (refused.Reserve have need) is h =
    let same = ap (most_owed sheet) (one_busy sheet h.1.busy busy h.1.is_busy is.busy_is) in
    absurd (omega (arith, h.1.has, h.1.needs, h.1.short, same, is.debt_is, is.reserve))
checked_excludes sheet work attempt busy debt refused.Memory is h = refl

pub admitted_excludes : (sheet : Sheet) (work attempt busy debt : ℕ) (responses : List ℕ) (r : Refused) → IsChecked sheet work attempt busy debt → AreResponses (timings_of sheet.high) responses → IsRefusal sheet r → r ≡ refused.Memory
admitted_excludes sheet work attempt busy debt responses (refused.Cost task need declared) is are h =
    checked_excludes sheet work attempt busy debt (refused.Cost task need declared) is h
admitted_excludes sheet work attempt busy debt responses (refused.Words task need declared) is are h =
    checked_excludes sheet work attempt busy debt (refused.Words task need declared) is h
admitted_excludes sheet work attempt busy debt responses (refused.Response task) is are h =
    absurd (all_in_time (timings_of sheet.high) responses are h.1.place h.1.first.within h.1.first.late)
admitted_excludes sheet work attempt busy debt responses refused.Busy is are h =
    checked_excludes sheet work attempt busy debt refused.Busy is h.1
admitted_excludes sheet work attempt busy debt responses (refused.Rate have need) is are h =
    checked_excludes sheet work attempt busy debt (refused.Rate have need) is h.1
admitted_excludes sheet work attempt busy debt responses (refused.Reserve have need) is are h =
    checked_excludes sheet work attempt busy debt (refused.Reserve have need) is h.1
admitted_excludes sheet work attempt busy debt responses refused.Memory is are h = refl
