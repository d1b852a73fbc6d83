-- The analysis, a tick and the last lines, by their parts.
use Rattle.std.proofs.Common.{◌≡◌, ℕ, List, ◌++◌, length, Option, refl, sym, ap, ◌∙◌}
use Rattle.std.specs.Prelude.{codes}
use Rattle.hk_sheet.specs.declared.sheet.High.{High}
use Rattle.hk_sheet.specs.declared.sheet.Low.{Low}
use Rattle.hk_sheet.specs.declared.sheet.Sheet.{Sheet}
use Rattle.hk_dispatch.specs.declared.tick.Who.{Who}
use Rattle.hk_dispatch.specs.declared.tick.End.{End}
use Rattle.hk_dispatch.specs.declared.tick.Tick.{Tick}
use Rattle.hk_dispatch.specs.declared.tick.Tick.TheVariants.{Ran, LiveOver}
use Rattle.hk_dispatch.specs.Moment.{Moment}
use Rattle.hk_top.specs.declared.report.Form.{Form}
use Rattle.hk_top.specs.Report.{high_lines, low_lines, analysis, name_of, who_text, out_text, fault_text, ended_text, traced, voiced, text_of_tick, texts_below, line_of_high_end, line_of_low_end, closing}
use Rattle.hk_top.specs.Text.{heap_line, event_line, cycles_line, end_line}

pub analysis_parts : (sheet : Sheet) (work attempt busy debt : ℕ) (times : List ℕ) (heap : List ℕ) (hs : List High) (rs : List ℕ) (ls : List Low)
    → heap ≡ heap_line work attempt busy debt → hs ≡ sheet.high → rs ≡ times → ls ≡ sheet.low
    → (heap ++ high_lines hs rs) ++ low_lines ls ≡ analysis sheet work attempt busy debt times
unfolding analysis
analysis_parts sheet work attempt busy debt times heap hs rs ls is_heap is_high is_responses is_low =
    ap (λ x. (x ++ high_lines hs rs) ++ low_lines ls) is_heap
    ∙ ap (λ x. (heap_line work attempt busy debt ++ high_lines x rs) ++ low_lines ls) is_high
    ∙ ap (λ x. (heap_line work attempt busy debt ++ high_lines sheet.high x) ++ low_lines ls) is_responses
    ∙ ap (λ x. (heap_line work attempt busy debt ++ high_lines sheet.high times) ++ low_lines x) is_low

pub tick_parts : (f : Form) (sheet : Sheet) (at : ℕ) (who : Who) (out : Option ℕ) (end : Option End) (line name : List ℕ) → line ≡ who_text sheet at who → name ≡ name_of sheet who
    → ((traced f line ++ voiced f (out_text at name out)) ++ voiced f (fault_text at name end)) ++ traced f (ended_text at name end) ≡ text_of_tick f sheet at (Ran who out end)
unfolding text_of_tick
tick_parts f sheet at who out end line name is_line is_name =
    ap (λ x. ((traced f x ++ voiced f (out_text at name out)) ++ voiced f (fault_text at name end)) ++ traced f (ended_text at name end)) is_line
    ∙ ap (λ x. ((traced f (who_text sheet at who) ++ voiced f (out_text at x out)) ++ voiced f (fault_text at x end)) ++ traced f (ended_text at x end)) is_name

-- a tick at which the collector found too much
pub live_text : (f : Form) (sheet : Sheet) (at words : ℕ) (line : List ℕ) (answer : Tick) → line ≡ event_line at (codes "live") → answer ≡ LiveOver words
    → traced f line ≡ text_of_tick f sheet at answer
unfolding text_of_tick
live_text f sheet at words line answer is_line is = ap (traced f) is_line ∙ sym (ap (text_of_tick f sheet at) is)

module _ (sheet : Sheet) (m : Moment) where
  abbrev pub high_ends : List ℕ
  high_ends = texts_below (line_of_high_end sheet m) (length sheet.high)

  abbrev pub low_ends : List ℕ
  low_ends = texts_below (line_of_low_end sheet m) (length sheet.low)

  pub closing_is : ((high_ends ++ low_ends) ++ cycles_line m.flips m.events m.idle) ++ end_line sheet.ticks ≡ closing sheet m
  unfolding closing
  closing_is = refl

  pub closing_parts : (cycles end : List ℕ) → cycles ≡ cycles_line m.flips m.events m.idle → end ≡ end_line sheet.ticks
      → ((high_ends ++ low_ends) ++ cycles) ++ end ≡ closing sheet m
  closing_parts cycles end is_cycles is_end =
      ap (λ x. ((high_ends ++ low_ends) ++ x) ++ end) is_cycles ∙ ap (λ x. ((high_ends ++ low_ends) ++ cycles_line m.flips m.events m.idle) ++ x) is_end ∙ closing_is

pub cycles_by : (m : Moment) (flips events idle : ℕ) (text : List ℕ) → text ≡ cycles_line flips events idle → flips ≡ m.flips → events ≡ m.events → idle ≡ m.idle
    → text ≡ cycles_line m.flips m.events m.idle
cycles_by m flips events idle text is f e i = is ∙ ap (λ x. cycles_line x events idle) f ∙ ap (λ x. cycles_line m.flips x idle) e ∙ ap (cycles_line m.flips m.events) i
