-- The search finds the first task of the name.
use Rattle.std.proofs.Common.{rules, tests}
use Rattle.std.specs.Str.{bytes_eq}
use Rattle.std.proofs.lemmas.Iterator.{YieldsList-from_slice}
use Rattle.std.proofs.lemmas.Iterator.Search.{position_from_yields_List}
use Rattle.hk_chart.specs.Trace.{place_of}
use Rattle.hk_chart.proofs.reading.place_of.Goals as goal

pub returns : goal.returns
unfolding place_of
returns c =
    position_from_yields_List (λ task. bytes_eq task.name c.args.name.now) _ _ c.position.result c.position.ensures.ran
    (YieldsList-from_slice _ c.iter.ensures.rest) (λ x b q k. search (rules, tests))
