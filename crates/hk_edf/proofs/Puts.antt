-- Texts that are written one behind another.
use Rattle.std.proofs.Common.{◌≡◌, ℕ, suc, ◌+◌, ◌<◌, List, [], ◌∷◌, ◌++◌, length, take, drop, get_or, flat_map, Option, Result, Err, refl, sym, ap, ◌∙◌, subst, arith, append_assoc, append-nil, take-append-drop}
use Rattle.std.proofs.KnownBytes.{Appends-trans}
use Rattle.std.proofs.Math.Seq.{take-suc}
use Rattle.std.proofs.lemmas.List.Concat.{flat_map-append}
use Rattle.std.proofs.lemmas.Result.{on_ok_weaker, on_err_weaker}
use Rattle.std.specs.Prelude.{codes, decimal}
use Rattle.std.specs.Io.KnownBytes.{Appends}
use Rattle.hk_io.specs.Bytes.{AppendsPrefix}
use Rattle.hk_io.specs.Faults.{HasCause}
use Rattle.hk_io.proofs.BytesLemmas.{AppendsPrefix-append}
use Rattle.hk_sheet.specs.declared.sheet.High.{High}
use Rattle.hk_sheet.specs.declared.sheet.Low.{Low}
use Rattle.hk_sheet.specs.declared.sheet.Sheet.{Sheet}
use Rattle.hk_front.specs.Text.{line}
use Rattle.hk_front.specs.Words.{Puts}
use Rattle.hk_front.proofs.WordLemmas.{prefix_after}
use Rattle.hk_top.specs.Text.{heap_line, low_line}
use Rattle.hk_top.specs.Report.{line_of_low, low_lines}
use Rattle.hk_top.proofs.Parts.{first_texts}
use Rattle.hk_edf.specs.Text.{deadline_lines, edf_analysis}

-- ---- two texts

module _ (a b c : Option (List ℕ)) (f m g : ℕ) (first second : List ℕ) (written : Appends a b first) (kept : m ≡ f) where
  -- a text was written, and then another or a first part of it
  pub puts_after : {T E : Type 0} (r : Result T E) → Puts b c m g second r → Puts a c f g (first ++ second) r
  puts_after r p = record {
    ok = on_ok_weaker r (λ h. Appends-trans a b c first second written h) p.ok;
    prefix = on_err_weaker r (λ h. prefix_after a b c first second written h) p.prefix;
    cause = subst (λ n. HasCause n g r) kept p.cause;
  }

-- of a text some was written, and so of a longer one
pub puts_part : {T U E F : Type 0} (a b : Option (List ℕ)) (f g : ℕ) (first rest : List ℕ) (e : E) (e' : F)
    → Puts {T = T} {E = E} a b f g first (Err e) → Puts {T = U} {E = F} a b f g (first ++ rest) (Err e')
puts_part a b f g first rest e e' p = record {
  ok = tt;
  prefix = AppendsPrefix-append a b first rest p.prefix;
  cause = record { later = p.cause.later; failed = p.cause.failed; kept = tt };
}

-- ---- the texts of the elements of a list

module _ {X : Type 0} (f : X → List ℕ) (xs : List X) (a b c : Option (List ℕ)) (i : ℕ) (d : X) (text : List ℕ) (within : i < length xs) (is : text ≡ f (get_or xs i d))
    (written : Appends a b (first_texts f xs i)) where
  texts_more : first_texts f xs i ++ text ≡ first_texts f xs (i + 1)
  texts_more =
      let n : suc i ≡ i + 1 = omega arith in
      ap (λ t. first_texts f xs i ++ t) (is ∙ sym (append-nil (f (get_or xs i d))))
      ∙ sym (flat_map-append f (take i xs) (get_or xs i d ∷ []))
      ∙ ap (flat_map f) (sym (take-suc xs i d within))
      ∙ ap (first_texts f xs) n

  -- one more was written
  pub more_written : Appends b c text → Appends a c (first_texts f xs (i + 1))
  more_written next = subst (Appends a c) texts_more (Appends-trans a b c (first_texts f xs i) text written next)

  -- of one more some was
  pub more_prefix : AppendsPrefix b c text → AppendsPrefix a c (flat_map f xs)
  more_prefix next =
      let whole : first_texts f xs (i + 1) ++ flat_map f (drop (i + 1) xs) ≡ flat_map f xs =
      sym (flat_map-append f (take (i + 1) xs) (drop (i + 1) xs)) ∙ ap (flat_map f) (take-append-drop (i + 1) xs) in
      subst (AppendsPrefix a c) whole
      (AppendsPrefix-append a c (first_texts f xs (i + 1)) (flat_map f (drop (i + 1) xs))
      (subst (AppendsPrefix a c) texts_more (prefix_after a b c (first_texts f xs i) text written next)))

-- ---- the lines

low_line_is : (name : List ℕ) → line (codes "low" ∷ name ∷ []) ≡ low_line name
unfolding low_line
low_line_is name = refl

pub low_text : (tasks : List Low) (i : ℕ) (task : Low) (name : List ℕ) → task ≡ get_or tasks i task → name ≡ task.name → line (codes "low" ∷ name ∷ []) ≡ line_of_low (get_or tasks i task)
low_text tasks i task name is named = low_line_is name ∙ ap low_line named ∙ ap line_of_low is

pub high_text : (tasks : List High) (i : ℕ) (task : High) (name digits : List ℕ) → task ≡ get_or tasks i task → name ≡ task.name → digits ≡ decimal task.timing.deadline
    → line (codes "high" ∷ name ∷ codes "deadline" ∷ digits ∷ []) ≡ line (codes "high" ∷ (get_or tasks i task).name ∷ codes "deadline" ∷ decimal (get_or tasks i task).timing.deadline ∷ [])
high_text tasks i task name digits is named number =
    ap (λ n. line (codes "high" ∷ n ∷ codes "deadline" ∷ digits ∷ [])) named
    ∙ ap (λ d. line (codes "high" ∷ task.name ∷ codes "deadline" ∷ d ∷ [])) number
    ∙ ap (λ (t : High). line (codes "high" ∷ t.name ∷ codes "deadline" ∷ decimal t.timing.deadline ∷ [])) is

-- ---- the analysis

module _ (sheet : Sheet) (work attempt busy debt : ℕ) (high : List High) (low : List Low) (h : high ≡ sheet.high) (l : low ≡ sheet.low) where
  pub analysis_parts : (heap_line work attempt busy debt ++ deadline_lines high) ++ low_lines low ≡ edf_analysis sheet work attempt busy debt
  unfolding edf_analysis
  analysis_parts = λ i. (heap_line work attempt busy debt ++ deadline_lines (h i)) ++ low_lines (l i)

  pub analysis_first : heap_line work attempt busy debt ++ (deadline_lines high ++ low_lines low) ≡ edf_analysis sheet work attempt busy debt
  analysis_first = sym (append_assoc (heap_line work attempt busy debt) (deadline_lines high) (low_lines low)) ∙ analysis_parts
