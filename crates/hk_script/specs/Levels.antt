-- The level of a `repeat` has a counter.
use Rattle.std.specs.Prelude.{◌<◌}
use Rattle.hk_script.specs.declared.linking.Link.{Link}
use Rattle.hk_script.specs.declared.statement.Statement.{Statement}
use Rattle.hk_script.specs.declared.statement.Statement.TheVariants as statement

abbrev pub HasLevel : Statement → Link → Type 0
HasLevel (statement.Repeat n) l = l.level < 16
HasLevel s l = Unit {0}
