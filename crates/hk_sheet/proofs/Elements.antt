-- Laws of the values of a document, and of what stands for them in the code.
use Rattle.std.proofs.Common.{◌≡◌, ℕ, ◌+◌, ◌<◌, List, [], ◌∷◌, ◌++◌, map, take, drop, is_some, Bool, length, get_or, Option, Some, None, refl, ap, sym, ◌∙◌, Bor, Global, String, BTreeMap, option_to_list}
use Rattle.std.specs.List.{filter_map, cons_option, list_all}
use Rattle.std.proofs.lemmas.List.{take_more, drop_more, map-append}
use Rattle.std.proofs.lemmas.List.Elements.{filter_map-append}
use Rattle.toml.specs.Data.{Data, string, integer, float, boolean, datetime, array, table, Items, Members, as_array, as_table}
use Rattle.toml.specs.View.{view, items_view, table_view}
use Rattle.toml.specs.declared.value.Value.{Value}
use Rattle.hk_sheet.specs.Rules.{elements, elements_of}
use Rattle.hk_sheet.specs.Code.{seen}

-- the elements of an array are its values' data
pub elements-view : (vs : List Value) → map view vs ≡ elements (items_view vs)
elements-view [] = refl
elements-view (v ∷ vs) = ap (λ rest. view v ∷ rest) (elements-view vs)

-- a value that is an array has these elements
pub elements_of-array : (d : Data) (items : Items) → Some items ≡ as_array d → elements_of d ≡ elements items
elements_of-array (string s) items e = cc
elements_of-array (integer z) items e = cc
elements_of-array (float x) items e = cc
elements_of-array (boolean b) items e = cc
elements_of-array (datetime t) items e = cc
elements_of-array (array ds) items e = let same : items ≡ ds = cc in ap elements (sym same)
elements_of-array (table ms) items e = cc

-- one more table
pub seen_push : (ts : List (Bor (BTreeMap (String Global) Value))) (t : Bor (BTreeMap (String Global) Value)) → seen (ts ++ t ∷ []) ≡ seen ts ++ table_view t.now ∷ []
seen_push ts t = map-append (λ t. table_view t.now) ts (t ∷ [])

-- what one element gives
of_option : {Y : Type 0} (o : Option Y) → cons_option o [] ≡ option_to_list o
of_option None = refl
of_option (Some y) = refl

-- one more value, which is a table or none
pub one_more_table : (vs : List Value) (i : ℕ) (v : Value) → i < length vs → v ≡ get_or vs i v
    → filter_map as_table (map view (take (i + 1) vs)) ≡ filter_map as_table (map view (take i vs)) ++ option_to_list (as_table (view v))
one_more_table vs i v h is =
    rw (take_more vs i v h, map-append, filter_map-append, ← is) (ap (λ r. filter_map as_table (map view (take i vs)) ++ r) (of_option (as_table (view v))))

-- so with the tables so far and it, where it is one
pub table_pushed : (old new : List (Bor (BTreeMap (String Global) Value))) (t : Bor (BTreeMap (String Global) Value)) (before : List Members) (d : Data)
    → seen old ≡ before → new ≡ old ++ t ∷ [] → Some (table_view t.now) ≡ as_table d → seen new ≡ before ++ option_to_list (as_table d)
table_pushed old new t before d so_far is found = cc (seen_push old t, ap option_to_list found)

-- the values behind a table
pub tables_left : (vs : List Value) (i : ℕ) (v : Value) (m : Members) (whole : Bool) → i < length vs → v ≡ get_or vs i v → Some m ≡ as_table (view v)
    → list_all (λ d. is_some (as_table d)) (map view (drop i vs)) ≡ whole → list_all (λ d. is_some (as_table d)) (map view (drop (i + 1) vs)) ≡ whole
tables_left vs i v m whole h at is so_far =
    let list : drop i vs ≡ v ∷ drop (i + 1) vs = drop_more vs i v h ∙ ap (λ n. n ∷ drop (i + 1) vs) (sym at) in
    let here = rw (list, ← is) at so_far in
    here
