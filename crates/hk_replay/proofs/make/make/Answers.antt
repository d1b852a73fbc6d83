-- The lines that are drawn one after another are the log.
use Rattle.std.proofs.Common.{ℕ, List, ◌++◌, sym, ap, ◌∙◌, arith, Some, None}
use Rattle.std.proofs.lemmas.List.{append-nil}
use Rattle.hk_replay.proofs.ToolLemmas.{made_first, made_more, made_last}
use Rattle.hk_replay.proofs.make.make.Goals as goal
use Rattle.hk_replay.proofs.make.make.Goals.{in-Some+in_ok-extend_from_slice-2, in_default}

pub loop-init : goal.loop-init
loop-init c = (
  omega arith,
  made_first _ c.in_ok-machine.machine _ c.args.number
      (c.in_ok-extend_from_slice.ensures.items ∙ ap (λ (l : List ℕ). l ++ c.bytes.result.now) c.new-log.ensures.items ∙ c.bytes.ensures.value ∙ c.heading_line.ensures)
      c.in_ok-machine.ensures c.heap.ensures,
)

pub loop-preserved : goal.loop-preserved
loop-preserved c =
    let few = c.loop-test.true in (
      omega (arith, few),
      elim c.match-drawn_line.branch [
        | in-Some+in_ok-extend_from_slice-2 w ↦
            made_more c.loop.log.items c.match-drawn_line.log.items c.loop.counter c.loop.machine c.drawn_line.new.machine c.loop.draws.state c.drawn_line.new.draws.state c.args.number (Some w.in-Some.line) few
            (sym w.in-Some.is ∙ c.drawn_line.ensures.line) c.drawn_line.ensures.machine c.drawn_line.ensures.draws
            (ap (λ v. v.items) w.log-is ∙ w.in_ok-extend_from_slice-2.ensures.items ∙ ap (λ (b : List ℕ). c.loop.log.items ++ b) (w.bytes-in-Some.ensures.value ∙ w.text_of.ensures)) c.loop.invariant.1
        | in_default w ↦
            made_more c.loop.log.items c.match-drawn_line.log.items c.loop.counter c.loop.machine c.drawn_line.new.machine c.loop.draws.state c.drawn_line.new.draws.state c.args.number None few
            (sym w.in_default.is ∙ c.drawn_line.ensures.line) c.drawn_line.ensures.machine c.drawn_line.ensures.draws
            (ap (λ v. v.items) w.log-is ∙ sym (append-nil c.loop.log.items)) c.loop.invariant.1
      ],
    )

pub returns : goal.returns
returns c = made_last c.loop.log.items c.loop.counter c.loop.machine c.loop.draws.state c.args.number (omega (arith, c.loop-test.false)) c.loop.invariant.1
