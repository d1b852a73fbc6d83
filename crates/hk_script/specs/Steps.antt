-- The ways from a place on, as the code holds them.
use Rattle.hk_script.specs.declared.linking.Places.{Places}
use Rattle.hk_script.specs.Links.{Ways}

abbrev pub seen_ways : Places → Ways
seen_ways p = record { on = p.on; blocks = p.blocks }
