use Rattle.std.proofs.Common.{◌≡◌, take, drop, map, is_some}
use Rattle.std.specs.List.{filter_map, list_all}
use Rattle.toml.specs.Data.{as_table}
use Rattle.toml.specs.View.{view}
use Rattle.hk_sheet.specs.Code.{seen}
use Rattle.hk_sheet.proofs.values.tables.Given as goal

-- the tables so far; and the values that are left are tables exactly where all are
abbrev pub invariant-loop-value : goal.invariant-loop-value
invariant-loop-value l = record {
  read : seen l.tables.items ≡ filter_map as_table (map view (take l.value-index l.values));
  left : list_all (λ d. is_some (as_table d)) (map view (drop l.value-index l.values)) ≡ list_all (λ d. is_some (as_table d)) (map view l.values);
}
