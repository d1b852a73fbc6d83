-- A line that isn't one of a trace, one that may not follow, and one that does.
use Rattle.std.proofs.Common.{List, sym, ap, ◌∙◌}
use Rattle.hk_chart.specs.declared.task.Task.{Task}
use Rattle.hk_chart.specs.Shapes.{deadline_of}
use Rattle.hk_chart.specs.Words.{words_of}
use Rattle.hk_chart.proofs.Followed.{said_is, second_is, not_said, not_there, follows}
use Rattle.hk_chart.proofs.chart.Chart.take_line.Goals as goal

pub returns-in_default : goal.returns-in_default
returns-in_default c =
    let words = words_of c.args.line.now in
    let said = said_is c.all.result.now c.args.self.now.tasks c.deref.result.now c.in_ok-words.words.items words c.trace_line.result c.trace_line.ensures c.all.ensures c.deref.ensures.value c.in_ok-words.ensures in
    not_said c.args.window c.args.self.now words (sym said ∙ c.in_default.is)

pub returns-in_default-after_line : goal.returns-in_default-after_line
returns-in_default-after_line c =
    let words = words_of c.args.line.now in
    let said = said_is c.all.result.now c.args.self.now.tasks c.deref.result.now c.in_ok-words.words.items words c.trace_line.result c.trace_line.ensures c.all.ensures c.deref.ensures.value c.in_ok-words.ensures in
    not_there c.args.window c.args.self.now words c.in-Some.said (sym said ∙ c.in-Some.is) (sym c.after_line.ensures ∙ c.in_default-after_line.is)

pub returns : goal.returns
returns c =
    let words = words_of c.args.line.now in
    let said = said_is c.all.result.now c.args.self.now.tasks c.deref.result.now c.in_ok-words.words.items words c.trace_line.result c.trace_line.ensures c.all.ensures c.deref.ensures.value c.in_ok-words.ensures in
    follows c.args.window c.args.self.now words c.in-Some.said (sym said ∙ c.in-Some.is) c.in-Some-after_line.progress (sym c.after_line.ensures ∙ c.in-Some-after_line.is)
    c.second_of.result.now (second_is c.deref-2.result.now c.in_ok-words.words.items words c.second_of.result.now c.second_of.ensures c.deref-2.ensures.value c.in_ok-words.ensures)
    c.bar_of-bar.result c.bar_of-bar.ensures c.add_of.new.self c.in_ok-add_of.ensures c.closed_by.result c.closed_by.ensures
    c.add_bar.new.self c.add.new.self c.add-2.new.self c.add-3.new.self c.in_ok-add_bar.ensures
    c.arrival_of.result c.deadline_of-deadline.result c.mark_of.result c.arrival_of.ensures c.in_ok-add.ensures
    (c.deadline_of-deadline.ensures ∙ ap (λ (t : List Task). deadline_of c.args.window t c.in-Some.said) c.all-2.ensures) c.in_ok-add-2.ensures c.mark_of.ensures c.in_ok-add-3.ensures
    c.open_after-self.result c.open_after-self.ensures
