use Rattle.std.proofs.Common.{◌≡◌, ℕ, true, false, length, get_or, set, List, Option, Some, refl, ap, sym, subst, ◌∙◌, arith, rules}
use Rattle.std.proofs.lemmas.List.{get_or_default}
use Rattle.std.specs.Prelude.{not}
use Rattle.std.specs.Option.{is_some}
use Rattle.hk_sheet.specs.declared.sheet.High.{High}
use Rattle.hk_dispatch.specs.declared.roster.Roster.{Roster}
use Rattle.hk_dispatch.specs.Tasks.{no_high}
use Rattle.hk_dispatch.proofs.Looking.{Looked, no_run, row_by, looked_first, looked_waits, looked_high, looked_low, looked_all, not_by, not_yet, by_now}
use Rattle.hk_dispatch.proofs.roster.Roster.look.Goals as goal
use Rattle.hk_dispatch.proofs.roster.Roster.look.Goals.{then-ready-tick, else-ready-tick+then-seat-high, else-ready-tick+else-seat-high+then-is_none, else-ready-tick+else-seat-high+else-is_none}

pub loop-seat-init : goal.loop-seat-init
loop-seat-init c =
    let size : length c.args.self.now.rows ≡ 31 = search rules in
    looked_first c.args.high.now c.args.tasks.now c.args.tick _ size refl refl refl

pub loop-seat-preserved-in_default : goal.loop-seat-preserved-in_default
loop-seat-preserved-in_default c =
    let l = c.loop-seat in
    let none = not_by (get_or c.args.tasks.now l.seat no_run).ready c.args.tick c.in_default.not-Some in
    looked_waits c.args.high.now c.args.tasks.now c.args.tick l.seat l.self l.self none (λ ready e. absurd (c.in_default.not-Some ready e)) (omega arith) refl refl refl refl l.invariant

pub add-requires-clause-fits : goal.add-requires-clause-fits
add-requires-clause-fits c =
    let seat = c.loop-seat.seat in
    let ready = c.if-ready-tick.false in
    let arrival = c.requires.arrival seat no_run c.in-Some.ready c.loop-seat-test.true c.in-Some.is in
    let deadline = c.requires.deadline seat c.if-seat-high.true in
    let same = ap (λ (h : High). h.timing.deadline) (get_or_default c.args.high.now seat c.index-high-seat.result no_high c.if-seat-high.true) in
    let early = c.requires.early in
    omega (arith, ready, arrival, deadline, same, early)

pub loop-seat-preserved : goal.loop-seat-preserved
loop-seat-preserved c =
    let l = c.loop-seat in
    let high = c.args.high.now in
    let runs = c.args.tasks.now in
    let tick = c.args.tick in
    elim c.if-ready-tick.branch [
      | then-ready-tick w ↦
          let late = not_yet (get_or runs l.seat no_run).ready tick c.in-Some.ready c.in-Some.is w.if-ready-tick.true in
          looked_waits high runs tick l.seat l.self c.if-ready-tick.self late
          (λ ready e.
          let same : c.in-Some.ready ≡ ready = let k : ◌≡◌ {A = Option ℕ} (Some c.in-Some.ready) (Some ready) = sym c.in-Some.is ∙ e in cc in
          let is = ap (λ (s : Roster). s.stale_from) w.self-is in let least = w.min-self.ensures in omega (arith, same, is, least))
          (let is = ap (λ (s : Roster). s.stale_from) w.self-is in let least = w.min-self.ensures in omega (arith, is, least))
          (ap (λ (s : Roster). s.rows) w.self-is) (ap (λ (s : Roster). s.count) w.self-is) (ap (λ (s : Roster). s.gone) w.self-is) (ap (λ (s : Roster). s.low) w.self-is) l.invariant
      | else-ready-tick+then-seat-high w ↦
          let due = by_now (get_or runs l.seat no_run).ready tick c.in-Some.ready c.in-Some.is w.if-ready-tick.false in
          let is = w.self-is ∙ w.add.ensures in
          let same : ◌≡◌ {A = High} (get_or high l.seat w.index-high-seat.result) (get_or high l.seat no_high) = get_or_default high l.seat w.index-high-seat.result no_high w.if-seat-high.true in
          looked_high high runs tick l.seat l.self c.if-ready-tick.self (let few = c.requires.few in let lt = c.loop-seat-test.true in omega (arith, few, lt)) w.if-seat-high.true due
          (ap (λ (s : Roster). s.rows) is ∙ ap (λ (h : High). set l.self.rows l.self.count (row_by l.seat (get_or runs l.seat no_run) h.timing.deadline)) same)
          (ap (λ (s : Roster). s.count) is) (ap (λ (s : Roster). s.gone) is) (ap (λ (s : Roster). s.low) is) (ap (λ (s : Roster). s.stale_from) is) l.invariant
      | else-ready-tick+else-seat-high+then-is_none w ↦
          let due = by_now (get_or runs l.seat no_run).ready tick c.in-Some.ready c.in-Some.is w.if-ready-tick.false in
          looked_low high runs tick l.seat l.self c.if-ready-tick.self w.if-seat-high.false due
          (λ e. ap (λ (s : Roster). s.low) w.self-is) (λ x e. absurd (let f : true ≡ false = sym (ap is_some e) ∙ w.is_none.ensures ∙ ap not w.if-is_none.true in cc))
          (ap (λ (s : Roster). s.rows) w.self-is) (ap (λ (s : Roster). s.count) w.self-is) (ap (λ (s : Roster). s.gone) w.self-is) (ap (λ (s : Roster). s.stale_from) w.self-is) l.invariant
      | else-ready-tick+else-seat-high+else-is_none w ↦
          let due = by_now (get_or runs l.seat no_run).ready tick c.in-Some.ready c.in-Some.is w.if-ready-tick.false in
          looked_low high runs tick l.seat l.self c.if-ready-tick.self w.if-seat-high.false due
          (λ e. absurd (let f : false ≡ true = sym (ap is_some e) ∙ w.is_none.ensures ∙ ap not w.if-is_none.false in cc)) (λ x e. ap (λ (s : Roster). s.low) w.self-is ∙ e)
          (ap (λ (s : Roster). s.rows) w.self-is) (ap (λ (s : Roster). s.count) w.self-is) (ap (λ (s : Roster). s.gone) w.self-is) (ap (λ (s : Roster). s.stale_from) w.self-is) l.invariant
    ]

pub returns-clause-room : goal.returns-clause-room
returns-clause-room c =
    let l = c.loop-seat in
    let looked = l.invariant in
    let none = looked.none_gone in
    let few = looked.few in
    let all = l.auto.seat-end in
    let most = c.requires.few in
    record { gone = omega (arith, none); few = omega (arith, few, all, most) }

pub returns-clause-ready : goal.returns-clause-ready
returns-clause-ready c =
    let l = c.loop-seat in
    λ sheet m e h.
    let all : l.seat ≡ length c.args.tasks.now = let a = c.loop-seat-test.false in let b = l.auto.seat-end in omega (arith, a, b) in
    looked_all sheet m c.args.tasks.now c.args.tick h l.self (let k = c.requires.high_first in omega (arith, k, ap (length {A = High}) e))
    (subst (λ (hs : List High). Looked hs c.args.tasks.now c.args.tick (length c.args.tasks.now) l.self) (sym e)
    (subst (λ n. Looked c.args.high.now c.args.tasks.now c.args.tick n l.self) all l.invariant))
