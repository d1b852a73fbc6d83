-- The keys of a table ascend: the first unknown one is the least.
use Rattle.std.proofs.Common.{◌≡◌, ℕ, List, [], ◌∷◌, map, filter, fold, not, Bool, Some, None, String, Global, string_bytes, refl, ap, sym, ◌∙◌, inl, inr, Less, Greater}
use Rattle.std.proofs.lemmas.Bool.{cases_Bool}
use Rattle.std.proofs.lemmas.Cmp.{nat_list_cmp_total}
use Rattle.std.specs.List.{AllByRecursion}
use Rattle.std.specs.List.Sorted.{IsStrictlySortedBy}
use Rattle.std.specs.Map.{keys_of}
use Rattle.std.specs.Ordering.{ordering_reverse, nat_cmp}
use Rattle.std.specs.Cmp.Lexicographic.{slice_cmp}
use Rattle.std.specs.String.{string_cmp}
use Rattle.toml.specs.View.{members_view}
use Rattle.toml.specs.declared.value.Value.{Value}
use Rattle.hk_sheet.specs.Faults.{is_known, unknown_keys, least, lesser}
use Rattle.hk_sheet.specs.Faults as faults

-- the keys of a table are those of the map
pub keys-members : (es : List (String Global × Value)) → map string_bytes (keys_of es) ≡ faults.keys_of (members_view es)
keys-members [] = refl
keys-members (e ∷ es) = ap (λ rest. string_bytes e.0 ∷ rest) (keys-members es)

-- of two keys, one that comes before the other is the lesser
lesser-first : (k y : List ℕ) → slice_cmp nat_cmp k y ≡ Less → lesser k y ≡ k
lesser-first k y before = let after : slice_cmp nat_cmp y k ≡ Greater = nat_list_cmp_total.antisymm y k ∙ ap ordering_reverse before in rw after refl

-- a key that comes before all others is the least
kept : (p : List ℕ → Bool) (k : String Global) (xs : List (String Global)) → AllByRecursion (λ y. string_cmp k y ≡ Less) xs
    → fold lesser (string_bytes k) (filter p (map string_bytes xs)) ≡ string_bytes k
kept p k [] all = refl
kept p k (y ∷ ys) all =
    elim (cases_Bool (p (string_bytes y))) [
      | inl passes ↦ rw passes (ap (λ z. fold lesser z (filter p (map string_bytes ys))) (lesser-first (string_bytes k) (string_bytes y) all.0) ∙ kept p k ys all.1)
      | inr fails ↦ rw fails (kept p k ys all.1)
    ]

-- the first of those that pass a test is the least of them
first_least : (p : List ℕ → Bool) (ks : List (String Global)) (key : String Global) (rest : List (String Global)) → IsStrictlySortedBy string_cmp ks
    → key ∷ rest ≡ filter (λ k. p (string_bytes k)) ks → least (filter p (map string_bytes ks)) ≡ Some (string_bytes key)
unfolding IsStrictlySortedBy
first_least p [] key rest sorted is = cc
first_least p (x ∷ xs) key rest sorted is =
    elim (cases_Bool (p (string_bytes x))) [
      | inl passes ↦ (
          let head = rw passes at is in
          let same : key ≡ x = cc in
          rw passes (ap Some (kept p x xs sorted.0 ∙ ap string_bytes (sym same))))
      | inr fails ↦ rw fails (first_least p xs key rest sorted.1 (rw fails at is))
    ]

-- none passes
no_least : (p : List ℕ → Bool) (ks : List (String Global)) → [] ≡ filter (λ k. p (string_bytes k)) ks → least (filter p (map string_bytes ks)) ≡ None
no_least p [] is = refl
no_least p (x ∷ xs) is =
    elim (cases_Bool (p (string_bytes x))) [
      | inl passes ↦ (let none = rw passes at is in cc)
      | inr fails ↦ rw fails (no_least p xs (rw fails at is))
    ]

-- a key is none of these
abbrev pub is_unknown : (known : List (List ℕ)) → String Global → Bool
is_unknown known key = not (is_known known (string_bytes key))

module _ (known : List (List ℕ)) (es : List (String Global × Value)) where
  pub first_unknown : (key : String Global) (rest : List (String Global)) → IsStrictlySortedBy string_cmp (keys_of es)
      → key ∷ rest ≡ filter (is_unknown known) (keys_of es) → Some (string_bytes key) ≡ least (unknown_keys known (members_view es))
  first_unknown key rest sorted is = rw (← keys-members es) (sym (first_least (λ k. not (is_known known k)) (keys_of es) key rest sorted is))

  pub none_unknown : [] ≡ filter (is_unknown known) (keys_of es) → None ≡ least (unknown_keys known (members_view es))
  none_unknown is = rw (← keys-members es) (sym (no_least (λ k. not (is_known known k)) (keys_of es) is))
