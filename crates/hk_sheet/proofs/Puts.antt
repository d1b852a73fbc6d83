-- What putting a value into a table's map leaves.
use Rattle.std.proofs.Common.{◌≡◌, List, [], ◌∷◌, String, Global, Ordering, Less, Equal, Greater, string_bytes, refl, ◌∙◌}
use Rattle.std.specs.BTreeMap.{insert_entry}
use Rattle.std.specs.Ordering.{match_ordering}
use Rattle.std.specs.String.{string_cmp}
use Rattle.toml.specs.View.{view, members_view}
use Rattle.toml.specs.declared.value.Value.{Value}
use Rattle.hk_sheet.specs.Printing.{with_entry}

abbrev Entries : Type 0
Entries = List (String Global × Value)

view_match : (o : Ordering) (a b c : Entries) → members_view (match_ordering o a b c) ≡ match_ordering o (members_view a) (members_view b) (members_view c)
view_match Less a b c = refl
view_match Equal a b c = refl
view_match Greater a b c = refl

pub view_insert : (k : String Global) (v : Value) (es : Entries) → members_view (insert_entry string_cmp es k v) ≡ with_entry (string_bytes k) (view v) (members_view es)
view_insert k v [] = refl
view_insert k v (e ∷ es) = view_match (string_cmp k e.0) _ _ _ ∙ rw (view_insert k v es)
