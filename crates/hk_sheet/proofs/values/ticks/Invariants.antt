use Rattle.std.proofs.Common.{◌≡◌, ◌-◌, ◌&&◌, nat_le, length, take, drop, map}
use Rattle.std.specs.List.{list_all}
use Rattle.toml.specs.View.{view}
use Rattle.hk_sheet.specs.Rules.{number_of, is_integer, is_in}
use Rattle.hk_sheet.proofs.values.ticks.Given as goal

-- the ticks so far; and the values that are left are integers, and ticks of the run, exactly where all are
abbrev pub invariant-loop-value : goal.invariant-loop-value
invariant-loop-value l = record {
  read : l.numbers.items ≡ map number_of (map view (take l.value-index l.values));
  integers : list_all is_integer (map view (drop l.value-index l.values)) ≡ list_all is_integer (map view l.values);
  within : (l.within && list_all (is_in 0 (l.ticks - 1)) (map view (drop l.value-index l.values))) ≡ (nat_le (length (map view l.values)) 4096 && list_all (is_in 0 (l.ticks - 1)) (map view l.values));
}
