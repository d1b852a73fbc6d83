-- What a lawful state promises of the lists: they name nothing that is in use, and their unread numbers are free.
use Rattle.std.proofs.Common.{◌≡◌, ◌≢◌, ◌⊎◌, ℕ, ◌+◌, ◌-◌, ◌<◌, ◌≤◌, true, false, inl, inr, refl, sym, ◌∙◌, ap, subst, arith, Option}
use Rattle.std.proofs.lemmas.Bool.{cases_lt, cases_eq, cases_Bool, and_parts, and_from}
use Rattle.std.proofs.lemmas.Bool.Decides.{nat_tests}
use Rattle.std.specs.Prelude.{nat_le, ◌&&◌}
use Rattle.hk_words.specs.declared.geometry.Geometry.{Geometry}
use Rattle.hk_words.specs.declared.call.Call.{Call}
use Rattle.hk_words.specs.declared.call.Call.TheVariants as call
use Rattle.hk_words.specs.Geometry.{list_length}
use Rattle.hk_words.specs.Layout as layout
use Rattle.hk_core.specs.declared.flight.Flight.{Flight}
use Rattle.hk_core.specs.declared.spot.Spot.{Spot}
use Rattle.hk_core.specs.declared.spot.Line.{Line}
use Rattle.hk_core.specs.declared.spot.Line.TheVariants as line
use Rattle.hk_core.specs.declared.spot.Stage.TheVariants as stage
use Rattle.hk_core.specs.Collect.{current_space, next_list}
use Rattle.hk_core.specs.View.{Words, Names, Contents}
use Rattle.hk_core.specs.Flights as f
use Rattle.hk_core.specs.Flights.{Hand}
use Rattle.hk_core.specs.Lines as l
use Rattle.hk_core.specs.Colours.{Spaces, Shades}
use Rattle.hk_core.specs.Facts as fact
use Rattle.hk_core.specs.Facts.{IsOwn, IsUnread, own_entry}
use Rattle.hk_core.specs.Lawful.{Facts}
use Rattle.hk_core.specs.Stands.{IsUnreadEntry, IsOnNoList, ListsStand, WrittenStand}
use Rattle.hk_core.proofs.kinds.WriteCell.{ShadesMean, fresh_when_done}
use Rattle.hk_core.proofs.PromisedNumbers.{mark_fresh, kept_when_reached, item_null_or_good}
use Rattle.hk_core.proofs.Shared.{refuted}

-- ENTRIES OF THE NEXT LIST

-- the number of a written entry is marked for the next cycle, or it is the last one, which wasn't claimed in this cycle
abbrev pub IsMarkedOrLast : Line → (cycle mark : ℕ) → Type 0
IsMarkedOrLast ln cycle mark = (mark ≡ cycle + 1) ⊎ ((l.is_marking ln ≡ false) × (mark < cycle))

none_written : {A : Type 0} (j : ℕ) → j < 0 → A
none_written j below = absurd (omega arith)

written_case : (g : Geometry) (t : Spot) (ln : Line) (cycle : ℕ) (mark next : ℕ → ℕ) → fact.WrittenMarked cycle (l.marked g t ln) mark next
    → l.InStep (list_length g) cycle t.entries mark next ln → (j : ℕ) → j < l.written g t ln → IsMarkedOrLast ln cycle (mark (next j))
unfolding l.written l.marked l.unmarked_at l.is_marking
written_case g t line.Rest cycle mark next marked step j below = inl (marked j below)
written_case g t (line.Frame s) cycle mark next marked step j below = none_written j below
written_case g t (line.Register s r stage) cycle mark next marked step j below = none_written j below
written_case g t (line.FrameTrade s) cycle mark next marked step j below = none_written j below
written_case g t line.Scan cycle mark next marked step j below = none_written j below
written_case g t line.Link cycle mark next marked step j below = none_written j below
written_case g t line.Look cycle mark next marked step j below = none_written j below
written_case g t (line.Cell i stage) cycle mark next marked step j below = none_written j below
written_case g t line.ObjectTrade cycle mark next marked step j below = none_written j below
written_case g t (line.Pass n) cycle mark next marked step j below = none_written j below
written_case g t (line.PassHead n) cycle mark next marked step j below = none_written j below
written_case g t (line.Sweep n stage.Read) cycle mark next marked step j below = inl (marked j (omega arith))
written_case g t (line.Sweep n stage.Claim) cycle mark next marked step j below = inl (marked j (omega arith))
written_case g t (line.Sweep n stage.Reserve) cycle mark next marked step j below = inl (marked j (omega arith))
written_case g t (line.Sweep n stage.Tie) cycle mark next marked step j below = inl (marked j (omega arith))
written_case g t (line.Sweep n stage.Write) cycle mark next marked step j below = inl (marked j (omega arith))
written_case g t (line.Sweep n stage.Mark) cycle mark next marked step j below = elim (cases_eq j (t.entries - 1)) [
  | inl last ↦
      let number : next j ≡ n = ap next last ∙ step.2 in
      inr (refl, rw number step.3)
  | inr earlier ↦ inl (marked j (omega arith))
]
written_case g t (line.Sweep n stage.Empty) cycle mark next marked step j below = inl (marked j (omega arith))
written_case g t (line.Clear i) cycle mark next marked step j below = inl (marked j below)
written_case g t line.Reset cycle mark next marked step j below = inl (marked j below)

-- of the entries that are written but not marked, the one there is has a mark below the cycle
unmarked_case : (g : Geometry) (t : Spot) (ln : Line) (cycle : ℕ) (mark next : ℕ → ℕ) → l.InStep (list_length g) cycle t.entries mark next ln
    → (j : ℕ) → l.marked g t ln ≤ j → j < l.written g t ln → mark (next j) < cycle
unfolding l.written l.marked l.unmarked_at
unmarked_case g t line.Rest cycle mark next step j above below = absurd (omega arith)
unmarked_case g t (line.Frame s) cycle mark next step j above below = none_written j below
unmarked_case g t (line.Register s r stage) cycle mark next step j above below = none_written j below
unmarked_case g t (line.FrameTrade s) cycle mark next step j above below = none_written j below
unmarked_case g t line.Scan cycle mark next step j above below = none_written j below
unmarked_case g t line.Link cycle mark next step j above below = none_written j below
unmarked_case g t line.Look cycle mark next step j above below = none_written j below
unmarked_case g t (line.Cell i stage) cycle mark next step j above below = none_written j below
unmarked_case g t line.ObjectTrade cycle mark next step j above below = none_written j below
unmarked_case g t (line.Pass n) cycle mark next step j above below = none_written j below
unmarked_case g t (line.PassHead n) cycle mark next step j above below = none_written j below
unmarked_case g t (line.Sweep n stage.Read) cycle mark next step j above below = absurd (omega arith)
unmarked_case g t (line.Sweep n stage.Claim) cycle mark next step j above below = absurd (omega arith)
unmarked_case g t (line.Sweep n stage.Reserve) cycle mark next step j above below = absurd (omega arith)
unmarked_case g t (line.Sweep n stage.Tie) cycle mark next step j above below = absurd (omega arith)
unmarked_case g t (line.Sweep n stage.Write) cycle mark next step j above below = absurd (omega arith)
unmarked_case g t (line.Sweep n stage.Mark) cycle mark next step j above below =
    let last : j ≡ t.entries - 1 = omega arith in
    let number : next j ≡ n = ap next last ∙ step.2 in
    rw number step.3
unmarked_case g t (line.Sweep n stage.Empty) cycle mark next step j above below = absurd (omega arith)
unmarked_case g t (line.Clear i) cycle mark next step j above below = absurd (omega arith)
unmarked_case g t line.Reset cycle mark next step j above below = absurd (omega arith)

-- so all but the last one are marked, and all but the last one are without a header
all_but_last : (g : Geometry) (t : Spot) (ln : Line) → (l.written g t ln ≤ l.marked g t ln + 1) × (l.written g t ln ≤ l.emptied g t ln + 1)
unfolding l.written l.marked l.emptied l.unmarked_at l.headed_at
all_but_last g t line.Rest = (omega arith, omega arith)
all_but_last g t (line.Frame s) = (omega arith, omega arith)
all_but_last g t (line.Register s r stage) = (omega arith, omega arith)
all_but_last g t (line.FrameTrade s) = (omega arith, omega arith)
all_but_last g t line.Scan = (omega arith, omega arith)
all_but_last g t line.Link = (omega arith, omega arith)
all_but_last g t line.Look = (omega arith, omega arith)
all_but_last g t (line.Cell i stage) = (omega arith, omega arith)
all_but_last g t line.ObjectTrade = (omega arith, omega arith)
all_but_last g t (line.Pass n) = (omega arith, omega arith)
all_but_last g t (line.PassHead n) = (omega arith, omega arith)
all_but_last g t (line.Sweep n stage.Read) = (omega arith, omega arith)
all_but_last g t (line.Sweep n stage.Claim) = (omega arith, omega arith)
all_but_last g t (line.Sweep n stage.Reserve) = (omega arith, omega arith)
all_but_last g t (line.Sweep n stage.Tie) = (omega arith, omega arith)
all_but_last g t (line.Sweep n stage.Write) = (omega arith, omega arith)
all_but_last g t (line.Sweep n stage.Mark) = (omega arith, omega arith)
all_but_last g t (line.Sweep n stage.Empty) = (omega arith, omega arith)
all_but_last g t (line.Clear i) = (omega arith, omega arith)
all_but_last g t line.Reset = (omega arith, omega arith)

-- a New without a number has written no header
pub numbered : (x : Flight) → f.has_header x ≡ true → f.has_number x ≡ true
unfolding f.has_header f.has_number f.is_new_at
numbered x headed = let p = and_parts _ _ headed in and_from _ _ (each x.call x.place p.0) p.1
  where
    wider : (p : ℕ) → (nat_le 6 p && nat_le p 6) ≡ true → (nat_le 5 p && nat_le p 6) ≡ true
    wider p e = grind (arith, nat_tests)

    each : (call' : Call) (p : ℕ) → f.is_new_at 6 6 call' p ≡ true → f.is_new_at 5 6 call' p ≡ true
    each (call.Get reg field) p e = e
    each (call.Put reg field value) p e = e
    each (call.Load dest reg field) p e = e
    each (call.Store reg field from) p e = e
    each (call.Move dest from) p e = e
    each (call.Clear dest) p e = e
    each (call.New dest shape) p e = wider p e
    each (call.Same a b) p e = e
    each (call.IsNull reg) p e = e

headless : (x : Flight) → f.has_number x ≡ false → f.has_header x ≡ false
headless x none = elim (cases_Bool (f.has_header x)) [ inl headed ↦ refuted _ none (numbered x headed) | inr bare ↦ bare ]

module _ (g : Geometry) (w : Words) (z : Spaces) (sh : Shades) (flight : ℕ → Flight) (begun : ℕ → ℕ) (hand : ℕ → Hand) (t : Spot)
    (names : Names) (contents : Contents) (range : ℕ → Option ℕ) (h : Facts g w z sh flight begun hand t names contents range)
    (m : ShadesMean g w z sh flight t.line names) where
  -- an entry that a New of this cycle was given is its own
  own_there : (s j : ℕ) → f.cycle_of (flight s) ≡ w.cycle → f.objects_before (flight s) ≡ j
      → own_entry w.entry (flight s) ≡ w.entry (current_space w.cycle) j
  own_there s j now at = ap (λ (c : ℕ). w.entry (current_space c) (f.objects_before (flight s))) now ∙ ap (w.entry (current_space w.cycle)) at

  -- the unread numbers are free
  unread_free : (j : ℕ) → IsUnreadEntry g w flight j → IsUnread g w.cycle w.accessors w.place w.version w.mark (w.entry (current_space w.cycle) j)
  unread_free j (inl (after, before)) = h.unread_free j after before
  unread_free j (inr (s, below, making, none, now, at)) =
      let o : IsOwn g w.accessors w.place w.version w.mark (flight s) (own_entry w.entry (flight s)) = h.own_entries s below making in
      let no_place : w.place (own_entry w.entry (flight s)) ≡ 0 = rw (headless (flight s) none) at o.placed in
      subst (λ (n : ℕ). IsUnread g w.cycle w.accessors w.place w.version w.mark n) (own_there s j now at) (record {
        within = o.within;
        no_header = record { no_accessors = o.no_accessors; no_place = no_place; no_version = o.no_version };
        is_marked = o.is_marked ∙ now;
      })

  -- and distinct
  unread_distinct : (i j : ℕ) → IsUnreadEntry g w flight i → IsUnreadEntry g w flight j → i ≢ j
      → w.entry (current_space w.cycle) i ≢ w.entry (current_space w.cycle) j
  unread_distinct i j (inl (after, before)) (inl (after', before')) differ same = elim (cases_lt i j) [
    | inl less ↦ h.unread_distinct i j after less before' same
    | inr more ↦ h.unread_distinct j i after' (omega arith) before (sym same)
  ]
  unread_distinct i j (inl (after, before)) (inr (s, below, making, none, now, at)) differ same =
      h.own_entries_read s i below making after before (own_there s j now at ∙ sym same)
  unread_distinct i j (inr (s, below, making, none, now, at)) (inl (after, before)) differ same =
      h.own_entries_read s j below making after before (own_there s i now at ∙ same)
  unread_distinct i j (inr (s, below, making, none, now, at)) (inr (s', below', making', none', now', at')) differ same = elim (cases_eq s s') [
    | inl one ↦ differ (sym at ∙ ap (λ (k : ℕ). f.objects_before (flight k)) one ∙ at')
    | inr other ↦ h.own_entries_distinct s s' below below' other making making' (own_there s i now at ∙ same ∙ sym (own_there s' j now' at'))
  ]

  -- a kept number is on no list
  on_no_list : (n : ℕ) → sh.kept n ≡ true → IsOnNoList g w flight t n
  on_no_list n kept = record {
    not_unread = λ j unread same. (m.kept n kept).placed (ap w.place (sym same) ∙ (unread_free j unread).no_header.no_place);
    not_written = λ j below same. elim (written_case g t t.line w.cycle w.mark (w.entry (next_list w.cycle)) h.written_marked h.sweep_in_step j below) [
      | inl later ↦ elim (mark_fresh w.cycle (l.is_marking t.line) (w.mark n) (m.kept n kept).is_fresh) [
        | inl marked ↦ let mark : w.mark n ≡ w.cycle + 1 = ap w.mark (sym same) ∙ later in omega arith
        | inr before ↦ let mark : w.mark n ≡ w.cycle + 1 = ap w.mark (sym same) ∙ later in omega arith
      ]
      | inr last ↦
          let marked : w.mark n ≡ w.cycle = fresh_when_done w.cycle (l.is_marking t.line) (w.mark n) last.0 (m.kept n kept).is_fresh in
          let low : w.mark n < w.cycle = subst (λ (k : ℕ). w.mark k < w.cycle) same last.1 in
          omega arith
    ];
  }

  pub written_stand : WrittenStand g w t
  written_stand = record {
    numbers = h.written_numbers;
    distinct = h.written_distinct;
    marked = h.written_marked;
    unmarked = unmarked_case g t t.line w.cycle w.mark (w.entry (next_list w.cycle)) h.sweep_in_step;
    empty = h.written_empty;
    marked_but_last = (all_but_last g t t.line).0;
    empty_but_last = (all_but_last g t t.line).1;
  }

  pub lists_stand : ListsStand g w flight t names contents
  lists_stand = record {
    reached = λ birth reach. on_no_list (names.number birth) (kept_when_reached g w z sh flight begun hand t names contents range h birth reach).is_kept;
    read = λ s below has some. elim (item_null_or_good g w z sh flight begun hand t names contents range h s below has) [
      | inl null ↦ absurd (some null)
      | inr good ↦ on_no_list (layout.reference_number (flight s).item) good.is_kept
    ];
    through = λ s below goes. on_no_list (layout.reference_number (flight s).entered) (h.entered_good s below goes.0 goes.1).is_kept;
    distinct = unread_distinct;
    free = unread_free;
  }
