-- One more turn of the loops over tables and tasks.
use Rattle.std.proofs.Common.{◌≡◌, ℕ, ◌+◌, ◌<◌, List, [], ◌∷◌, ◌++◌, map, flat_map, append_assoc, take, drop, length, get_or, Option, None, sym, refl, ap, ◌∙◌, Bor, Global, String, BTreeMap, arith}
use Rattle.std.proofs.lemmas.List.{take_more, drop_more, map-append}
use Rattle.toml.specs.Data.{Members}
use Rattle.toml.specs.View.{table_view}
use Rattle.toml.specs.declared.value.Value.{Value}
use Rattle.hk_sheet.specs.declared.error.SheetError.{SheetError}
use Rattle.hk_sheet.specs.Rules.{Rule}
use Rattle.hk_sheet.specs.Faults.{first_of, fault_of_table, faults_of_tasks, task_path}
use Rattle.hk_sheet.specs.Code.{seen}

module _ (tables : List (Bor (BTreeMap (String Global) Value))) (i : ℕ) (t : Bor (BTreeMap (String Global) Value)) (more : i < length tables) (at : t ≡ get_or tables i t) where
  -- one more is read
  pub one_more_read : {R : Type 0} (say : Members → R) (old new : List R) (x : R) → old ≡ map say (seen (take i tables)) → new ≡ old ++ x ∷ [] → x ≡ say (table_view t.now)
      → new ≡ map say (seen (take (i + 1) tables))
  one_more_read say old new x so_far is right =
      let grown : take (i + 1) tables ≡ take i tables ++ t ∷ [] = take_more tables i t more ∙ ap (λ u. take i tables ++ u ∷ []) (sym at) in
      is ∙ (λ k. so_far k ++ right k ∷ [])
      ∙ sym (ap (λ ts. map say (seen ts)) grown ∙ ap (map say) (map-append (λ t. table_view t.now) (take i tables) (t ∷ [])) ∙ map-append say (seen (take i tables)) (table_view t.now ∷ []))

  -- one that has no fault is passed
  pub one_passed : (kind : List ℕ) (rules : Members → List Rule) (whole : Option SheetError) → fault_of_table (task_path kind i) (rules (table_view t.now)) (table_view t.now) ≡ None
      → first_of (faults_of_tasks kind rules i (seen (drop i tables))) ≡ whole → first_of (faults_of_tasks kind rules (i + 1) (seen (drop (i + 1) tables))) ≡ whole
  one_passed kind rules whole none so_far =
      let list : drop i tables ≡ t ∷ drop (i + 1) tables = drop_more tables i t more ∙ ap (λ u. u ∷ drop (i + 1) tables) (sym at) in
      let here = rw (list, none) at so_far in
      here

-- what one element gives goes to the end of what was given so far
pub one_more_given : {A B : Type 0} (give : A → List B) (old new : List B) (left rest : List A) (x : A) (whole : List B) → left ≡ x ∷ rest → new ≡ old ++ give x
    → old ++ flat_map give left ≡ whole → new ++ flat_map give rest ≡ whole
one_more_given give old new left rest x whole list is so_far =
    ap (λ given. given ++ flat_map give rest) is ∙ append_assoc old (give x) (flat_map give rest) ∙ ap (λ these. old ++ flat_map give these) (sym list) ∙ so_far

-- nothing is left of a list without a length
pub nothing_left : {X : Type 0} (xs : List X) → length xs ≡ 0 → xs ≡ []
nothing_left [] none = refl
nothing_left (x ∷ xs) none = absurd (omega arith)
