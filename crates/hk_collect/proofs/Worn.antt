-- In a lawful state the collector has an event on every line, but at rest in the last cycle.
use Rattle.std.proofs.Common.{◌≡◌, ◌+◌, Bool, true, false, refl, Some, None}
use Rattle.std.proofs.lemmas.Bool.{eqb-true}
use Rattle.std.specs.Prelude.{◌↔◌, nat_eq, if◌then◌else◌}
use Rattle.hk_words.specs.Layout.{pack_w0}
use Rattle.hk_words.specs.Row.{w0_at}
use Rattle.hk_model.specs.History.{History}
use Rattle.hk_core.specs.declared.event.Event.{Event}
use Rattle.hk_core.specs.declared.event.Event.TheVariants as event
use Rattle.hk_core.specs.declared.spot.Line.{Line}
use Rattle.hk_core.specs.declared.spot.Line.TheVariants as line
use Rattle.hk_core.specs.declared.spot.Stage.TheVariants as stage
use Rattle.hk_core.specs.State.{State}
use Rattle.hk_core.specs.Collect as table
use Rattle.hk_core.specs.Collect.{last_cycle, spot_event, event_at_line, event_by_collector}
use Rattle.hk_core.specs.Lines as l
use Rattle.hk_core.specs.Lawful.{Lawful}
use Rattle.hk_collect.specs.Works.{IsWorn}
use Rattle.hk_collect.proofs.Causes.{worn}
use Rattle.hk_collect.proofs.Fitting.{formed}

there : {A : Type 0} (e : Event) → Some e ≡ None → A
there e none = absurd (cc)

module _ (c : State) where
  rests : c.spot.line ≡ line.Rest → (test : Bool) → nat_eq c.spot.cycle last_cycle ≡ test
      → (if test then None else Some (event.Swap (w0_at c.geometry) (pack_w0 0 0 (c.spot.cycle + 1)))) ≡ None → IsWorn c
  rests at true last none = worn c at (eqb-true c.spot.cycle last_cycle last)
  rests at false more none = there _ none

  no_event : (ln : Line) → c.spot.line ≡ ln → l.LineFits c.geometry c.spot ln → event_at_line c.geometry c.spot ln ≡ None → IsWorn c
  unfolding event_at_line table.rest_event table.frame_event table.register_event table.frame_trade_event table.scan_event table.link_event table.look_event table.cell_event table.object_trade_event table.pass_event table.pass_head_event table.sweep_event table.clear_event table.reset_event table.claim_cell table.reserve_cell table.link_cell
  no_event line.Rest at fits none = rests at (nat_eq c.spot.cycle last_cycle) refl none
  no_event (line.Frame seat) at fits none = there _ none
  no_event (line.Register seat reg stage.Read) at fits none = there _ none
  no_event (line.Register seat reg stage.Claim) at fits none = there _ none
  no_event (line.Register seat reg stage.Reserve) at fits none = there _ none
  no_event (line.Register seat reg stage.Tie) at fits none = there _ none
  no_event (line.Register seat reg stage.Write) at fits none = absurd fits.2
  no_event (line.Register seat reg stage.Mark) at fits none = absurd fits.2
  no_event (line.Register seat reg stage.Empty) at fits none = absurd fits.2
  no_event (line.FrameTrade seat) at fits none = there _ none
  no_event line.Scan at fits none = there _ none
  no_event line.Link at fits none = there _ none
  no_event line.Look at fits none = there _ none
  no_event (line.Cell index stage.Read) at fits none = there _ none
  no_event (line.Cell index stage.Claim) at fits none = there _ none
  no_event (line.Cell index stage.Reserve) at fits none = there _ none
  no_event (line.Cell index stage.Tie) at fits none = there _ none
  no_event (line.Cell index stage.Write) at fits none = there _ none
  no_event (line.Cell index stage.Mark) at fits none = absurd fits.1
  no_event (line.Cell index stage.Empty) at fits none = absurd fits.1
  no_event line.ObjectTrade at fits none = there _ none
  no_event (line.Pass number) at fits none = there _ none
  no_event (line.PassHead number) at fits none = there _ none
  no_event (line.Sweep number stage.Read) at fits none = there _ none
  no_event (line.Sweep number stage.Claim) at fits none = absurd fits.1
  no_event (line.Sweep number stage.Reserve) at fits none = absurd fits.1
  no_event (line.Sweep number stage.Tie) at fits none = absurd fits.1
  no_event (line.Sweep number stage.Write) at fits none = there _ none
  no_event (line.Sweep number stage.Mark) at fits none = there _ none
  no_event (line.Sweep number stage.Empty) at fits none = there _ none
  no_event (line.Clear word) at fits none = there _ none
  no_event line.Reset at fits none = there _ none

  pub event_unless_worn : (history : History) → Lawful c history → (event_by_collector c ≡ None) ↔ IsWorn c
  unfolding event_by_collector spot_event
  event_unless_worn history h = (no_event c.spot.line refl (formed c history h c.spot.line refl), λ o. o.no_event)
