-- What was read so far, and what it came to.
use Rattle.std.proofs.Common.{◌≡◌, ℕ, take, Option, Err, ap, ◌∙◌, subst, rules}
use Rattle.std.specs.Io.KnownBytes.{IsAtEnd}
use Rattle.hk_chart.specs.declared.reader.Stop.{Stop}
use Rattle.hk_chart.specs.Reading.{HasTaken, HasRead}
use Rattle.hk_chart.proofs.Taking.{same_stop, comes_more, comes_end, comes_stop, drawn_if}
use Rattle.hk_chart.proofs.reader.read_chart.Goals as goal

pub returns-in-Ok-eq0-clause-drawn : goal.returns-in-Ok-eq0-clause-drawn
returns-in-Ok-eq0-clause-drawn g c =
    let buf = c.read.new.buf in
    let over : IsAtEnd (g.S.Source.left c.read.new.self) = search rules in
    drawn_if c.args.window _ _ _ c.loop-reader.reader (take c.in-Ok-eq0.field-0 buf) c.finish.result c.loop-reader.invariant.comes c.in-Ok-eq0.ensures.bytes.0
    (ap (λ (n : ℕ). take n buf) c.in-Ok-eq0.field-0-test) over c.finish.ensures.drawn

pub returns-in-Ok-eq0-clause-stopped : goal.returns-in-Ok-eq0-clause-stopped
returns-in-Ok-eq0-clause-stopped g c = λ stop is.
    let buf = c.read.new.buf in
    let over : IsAtEnd (g.S.Source.left c.read.new.self) = search rules in
    comes_end c.args.window _ _ _ c.loop-reader.reader (take c.in-Ok-eq0.field-0 buf) (Err stop) c.loop-reader.invariant.comes c.in-Ok-eq0.ensures.bytes.0
    (ap (λ (n : ℕ). take n buf) c.in-Ok-eq0.field-0-test) over (c.finish.ensures.stopped stop is)

pub loop-reader-preserved : goal.loop-reader-preserved
loop-reader-preserved g c =
    let piece = take c.in-Ok.count c.read.new.buf in
    record {
      comes = comes_more c.args.window _ _ _ c.loop-reader.reader c.take_piece.new.self piece c.loop-reader.invariant.comes c.in-Ok.ensures.bytes.0
          (subst (λ (o : Option Stop). HasTaken c.args.window c.loop-reader.reader piece c.take_piece.new.self o) c.in-Ok-None.field-0-is c.in-Ok-None.ensures.taken);
      counted = c.take_piece.ensures.counted;
      kept = c.in-Ok.ensures.cause.kept ∙ c.loop-reader.invariant.kept;
    }

pub returns-in-Ok-Some-clause-stopped : goal.returns-in-Ok-Some-clause-stopped
returns-in-Ok-Some-clause-stopped g c = λ stop is.
    let piece = take c.in-Ok.count c.read.new.buf in
    let same : c.in-Ok-Some.stop ≡ stop = same_stop c.in-Ok-Some.stop stop is in
    subst (λ (why : Stop). HasRead c.args.window (g.S.Source.left c.args.source.now) (Err why)) same
    (comes_stop c.args.window _ _ _ c.loop-reader.reader c.take_piece.new.self piece c.in-Ok-Some.stop c.loop-reader.invariant.comes c.in-Ok.ensures.bytes.0
    (subst (λ (o : Option Stop). HasTaken c.args.window c.loop-reader.reader piece c.take_piece.new.self o) c.in-Ok-Some.field-0-is c.in-Ok-Some.ensures.taken))
