-- The input is what was read of it.
use Rattle.std.proofs.Common.{Err, refl, ap}
use Rattle.hk_io.specs.declared.Status.TheVariants as status
use Rattle.hk_front.specs.Refusals.{long_line}
use Rattle.hk_front.specs.Input.{too_long}
use Rattle.hk_front.proofs.EndLemmas.{ends_written, ends_memory}
use Rattle.hk_front.proofs.InputLemmas.{long_input, any_input}
use Rattle.hk_top.specs.Tool.{answer_for, BytesCallFor}
use Rattle.hk_top.proofs.tool.answer_input.Goals as goal

pub returns-in-Err-Long-clause-ends : goal.returns-in-Err-Long-clause-ends
returns-in-Err-Long-clause-ends g c = λ _.
    let left = g.S.Source.left c.args.source.now in
    let long = long_input left (g.S.Source.left c.take_all.new.source) (c.in-Err-Long.ensures.long (ap Err c.in-Err-Long.field-0-is)) in
    record {
      bytes = long.0;
      told = long.1;
      ends = ends_written (BytesCallFor (answer_for c.args.form) long.0) _ _ _ _ status.Sheet long_line c.put_line.result c.ended.result tt (too_long long.2 refl)
          (record { ok = c.put_line.ensures.ok; prefix = c.put_line.ensures.prefix; cause = c.put_line.ensures.cause }) c.ended.ensures;
    }

pub returns-in-Err-Memory-clause-ends : goal.returns-in-Err-Memory-clause-ends
returns-in-Err-Memory-clause-ends g c = λ _.
    let input = any_input (g.S.Source.left c.args.source.now) in
    record { bytes = input.0; told = input.1; ends = ends_memory (BytesCallFor (answer_for c.args.form) input.0) _ _ _ _ refl }
