-- The lines on what each task came to.
use Rattle.std.proofs.Common.{◌≡◌, ℕ, zero, suc, ◌+◌, ◌<◌, List, [], ◌∷◌, length, get_or, refl, ap, ◌∙◌, arith}
use Rattle.hk_sheet.specs.declared.sheet.High.{High}
use Rattle.hk_sheet.specs.declared.sheet.Low.{Low}
use Rattle.hk_sheet.specs.declared.sheet.Sheet.{Sheet}
use Rattle.hk_dispatch.specs.Tasks.{no_high}
use Rattle.hk_dispatch.specs.Moment.{Moment, course_at}
use Rattle.hk_top.specs.Report.{no_low, line_of_high_end, line_of_low_end}
use Rattle.hk_top.specs.Text.{done_line}

high_name : (hs : List High) (place : ℕ) (d e : High) → place < length hs → (get_or hs place d).name ≡ (get_or hs place e).name
high_name [] place d e within = absurd (omega (arith, within))
high_name (h ∷ hs) zero d e within = refl
high_name (h ∷ hs) (suc place) d e within = high_name hs place d e (omega (arith, within))

low_name : (ls : List Low) (place : ℕ) (d e : Low) → place < length ls → (get_or ls place d).name ≡ (get_or ls place e).name
low_name [] place d e within = absurd (omega (arith, within))
low_name (l ∷ ls) zero d e within = refl
low_name (l ∷ ls) (suc place) d e within = low_name ls place d e (omega (arith, within))

line_by : (name name' : List ℕ) (job job' latest latest' : ℕ) (text : List ℕ) → name ≡ name' → job ≡ job' → latest ≡ latest' → text ≡ done_line name job latest → text ≡ done_line name' job' latest'
line_by name name' job job' latest latest' text n j l is =
    is ∙ ap (λ x. done_line x job latest) n ∙ ap (λ x. done_line name' x latest) j ∙ ap (λ x. done_line name' job' x) l

module _ (sheet : Sheet) (m : Moment) (place seat job latest : ℕ) (text name : List ℕ) (job_is : job ≡ (course_at m seat).job) (latest_is : latest ≡ (course_at m seat).latest)
    (is : text ≡ done_line name job latest) where
  pub high_end : (tasks : List High) (h : High) → tasks ≡ sheet.high → place < length tasks → h ≡ get_or tasks place h → name ≡ h.name → seat ≡ place
      → text ≡ line_of_high_end sheet m place
  high_end tasks h same within is_h is_name at =
      line_by name _ job _ latest _ text
      (is_name ∙ ap (λ x. x.name) is_h ∙ high_name tasks place h no_high within ∙ ap (λ ts. (get_or ts place no_high).name) same)
      (job_is ∙ ap (λ s. (course_at m s).job) at) (latest_is ∙ ap (λ s. (course_at m s).latest) at) is

  pub low_end : (tasks : List Low) (l : Low) → tasks ≡ sheet.low → place < length tasks → l ≡ get_or tasks place l → name ≡ l.name → seat ≡ length sheet.high + place
      → text ≡ line_of_low_end sheet m place
  low_end tasks l same within is_l is_name at =
      line_by name _ job _ latest _ text
      (is_name ∙ ap (λ x. x.name) is_l ∙ low_name tasks place l no_low within ∙ ap (λ ts. (get_or ts place no_low).name) same)
      (job_is ∙ ap (λ s. (course_at m s).job) at) (latest_is ∙ ap (λ s. (course_at m s).latest) at) is
