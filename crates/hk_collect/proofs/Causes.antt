-- Each answer of the collector's step comes exactly where its cause is there.
use Rattle.std.proofs.Common.{◌≡◌, ℕ, ◌+◌, ◌<◌, Bool, true, false, inl, inr, refl, sym, ◌∙◌, ap, subst, Some, None}
use Rattle.std.proofs.lemmas.Bool.{eqb-true, eqb-false, eq-eqb, ne_eqb, ltb-true, lt-ltb}
use Rattle.std.specs.Prelude.{nat_eq, nat_lt, ⊤, if◌then◌else◌}
use Rattle.hk_words.specs.Layout.{frame_accessors, header_accessors, frame_blackened, header_moved, pack_w0}
use Rattle.hk_words.specs.Row.{Slot, W0, W1, Frame, Header, Space, index_of, word_of}
use Rattle.hk_core.specs.declared.event.Event.TheVariants as event
use Rattle.hk_core.specs.declared.spot.Line.{Line}
use Rattle.hk_core.specs.declared.spot.Line.TheVariants as line
use Rattle.hk_core.specs.declared.spot.Work.{Work}
use Rattle.hk_core.specs.declared.spot.Work.TheVariants as work
use Rattle.hk_core.specs.Event.{fired_if, learnt, old_of}
use Rattle.hk_core.specs.State.{State}
use Rattle.hk_core.specs.Collect as table
use Rattle.hk_core.specs.Collect.{last_cycle, moved_number, moved_to, is_old, spot_event, event_at_line, spot_took, took_at_line, spot_work, work_at_line, event_by_collector, found_by_collector, next_collected, work_by_collector}
use Rattle.hk_collect.specs.Works.{Flips, IsWorn, Loses, FindsBusyFrame, FindsBusyObject, FindsUnlinked, FindsGrey, FindsLiveOver, HasCauses}

-- the cause of an answer
abbrev Cause : State → Work → Type 0
Cause c work.Useful = ⊤
Cause c work.Flipped = Flips c
Cause c (work.Lost events) = Loses c events
Cause c (work.BusyFrame seat) = FindsBusyFrame c seat
Cause c (work.BusyObject number) = FindsBusyObject c number
Cause c (work.Unlinked place) = FindsUnlinked c place
Cause c (work.Grey number) = FindsGrey c number
Cause c (work.LiveOver words) = FindsLiveOver c words
Cause c work.Worn = IsWorn c

module _ (c : State) where
  event_at : (ln : Line) → c.spot.line ≡ ln → event_by_collector c ≡ event_at_line c.geometry c.spot ln
  unfolding event_by_collector spot_event
  event_at ln at = ap (event_at_line c.geometry c.spot) at

  -- what a load and an exchange find
  found_load : (ln : Line) → c.spot.line ≡ ln → (slot : Slot) → event_at_line c.geometry c.spot ln ≡ Some (event.Load (index_of c.geometry slot)) → found_by_collector c ≡ word_of c.geometry c.row slot
  unfolding found_by_collector learnt old_of
  found_load ln at slot is = ap (learnt c.row) (event_at ln at ∙ is)

  found_trade : (ln : Line) → c.spot.line ≡ ln → (slot : Slot) (current new : ℕ) → event_at_line c.geometry c.spot ln ≡ Some (event.Trade (index_of c.geometry slot) current new)
      → found_by_collector c ≡ word_of c.geometry c.row slot
  unfolding found_by_collector learnt old_of
  found_trade ln at slot current new is = ap (learnt c.row) (event_at ln at ∙ is)

  work_at : (ln : Line) → c.spot.line ≡ ln → work_by_collector c ≡ work_at_line c.geometry c.spot (found_by_collector c) ln
  unfolding work_by_collector spot_work
  work_at ln at = ap (work_at_line c.geometry c.spot (found_by_collector c)) at

  -- in the last cycle nothing changes
  pub worn : c.spot.line ≡ line.Rest → c.spot.cycle ≡ last_cycle → IsWorn c
  unfolding event_at_line table.rest_event next_collected spot_took took_at_line table.rest_took fired_if
  worn at last =
      let none : event_by_collector c ≡ None = event_at line.Rest at ∙ rw (eq-eqb c.spot.cycle last_cycle last) refl in
      let row : fired_if c.row (event_by_collector c) ≡ c.row = ap (fired_if c.row) none in
      let spot : spot_took c.geometry c.spot (found_by_collector c) ≡ c.spot = ap (took_at_line c.geometry c.spot (found_by_collector c)) at ∙ rw (eq-eqb c.spot.cycle last_cycle last) refl in
      record {
        rests = at;
        last = last;
        no_event = none;
        unchanged = λ i. record { geometry = c.geometry; row = row i; flights = c.flights; begun = c.begun; spot = spot i };
      }

  -- A CAUSE GIVES ITS ANSWER

  flips_answers : Flips c → work_by_collector c ≡ work.Flipped
  unfolding work_at_line table.rest_work event_at_line table.rest_event
  flips_answers o = work_at line.Rest o.rests ∙ by_test (nat_eq c.spot.cycle last_cycle) (sym (event_at line.Rest o.rests) ∙ o.swaps)
    where
      by_test : (test : Bool) → (if test then None else Some (event.Swap (index_of c.geometry W0) (pack_w0 0 0 (c.spot.cycle + 1)))) ≡ Some (event.Swap (index_of c.geometry W0) (pack_w0 0 0 (c.spot.cycle + 1)))
          → ◌≡◌ {A = Work} (if test then work.Worn else work.Flipped) work.Flipped
      by_test true e = absurd (cc)
      by_test false e = refl

  worn_answers : IsWorn c → work_by_collector c ≡ work.Worn
  unfolding work_at_line table.rest_work
  worn_answers o = work_at line.Rest o.rests ∙ rw (eq-eqb c.spot.cycle last_cycle o.last) refl

  loses_answers : (events : ℕ) → Loses c events → work_by_collector c ≡ work.Lost events
  unfolding work_at_line table.frame_trade_work table.object_trade_work event_at_line table.frame_trade_event table.object_trade_event
  loses_answers events (inl (seat, o)) =
      let found : found_by_collector c ≡ word_of c.geometry c.row (Frame seat) = found_trade (line.FrameTrade seat) o.at (Frame seat) c.spot.first (frame_blackened c.spot.first c.spot.cycle) refl in
      let other : nat_eq (found_by_collector c) c.spot.first ≡ false = ne_eqb (found_by_collector c) c.spot.first (λ e. o.another (sym found ∙ e)) in
      work_at (line.FrameTrade seat) o.at ∙ rw other (ap work.Lost (sym o.counted))
  loses_answers events (inr o) =
      let found : found_by_collector c ≡ word_of c.geometry c.row (Header (moved_number c.spot)) =
      found_trade line.ObjectTrade o.at (Header (moved_number c.spot)) c.spot.first (header_moved c.spot.first (moved_to c.geometry c.spot)) refl in
      let other : nat_eq (found_by_collector c) c.spot.first ≡ false = ne_eqb (found_by_collector c) c.spot.first (λ e. o.another (sym found ∙ e)) in
      work_at line.ObjectTrade o.at ∙ rw other (ap work.Lost (sym o.counted))

  busy_frame_answers : (seat : ℕ) → FindsBusyFrame c seat → work_by_collector c ≡ work.BusyFrame seat
  unfolding work_at_line table.frame_work event_at_line table.frame_event
  busy_frame_answers seat o =
      let found : found_by_collector c ≡ word_of c.geometry c.row (Frame seat) = found_load (line.Frame seat) o.at (Frame seat) refl in
      work_at (line.Frame seat) o.at ∙ rw (found, lt-ltb 0 (frame_accessors (word_of c.geometry c.row (Frame seat))) o.busy) refl

  busy_object_answers : (number : ℕ) → FindsBusyObject c number → work_by_collector c ≡ work.BusyObject number
  unfolding work_at_line table.look_work event_at_line table.look_event
  busy_object_answers number o =
      let found : found_by_collector c ≡ word_of c.geometry c.row (Header number) = found_load line.Look o.at (Header (moved_number c.spot)) refl ∙ ap (λ (k : ℕ). word_of c.geometry c.row (Header k)) (sym o.moved) in
      work_at line.Look o.at ∙ rw (found, lt-ltb 0 (header_accessors (word_of c.geometry c.row (Header number))) o.busy) (ap work.BusyObject (sym o.moved))

  unlinked_answers : (place : ℕ) → FindsUnlinked c place → work_by_collector c ≡ work.Unlinked place
  unfolding work_at_line table.link_work event_at_line table.link_event
  unlinked_answers place o =
      let found : found_by_collector c ≡ 0 = found_load line.Link o.at (Space (moved_to c.geometry c.spot)) refl ∙ ap (λ (k : ℕ). word_of c.geometry c.row (Space k)) (sym o.there) ∙ o.unlinked in
      work_at line.Link o.at ∙ rw (eq-eqb (found_by_collector c) 0 found) (ap work.Unlinked (sym o.there))

  grey_answers : (number : ℕ) → FindsGrey c number → work_by_collector c ≡ work.Grey number
  unfolding work_at_line table.pass_head_work event_at_line table.pass_head_event
  grey_answers number o =
      let found : found_by_collector c ≡ word_of c.geometry c.row (Header number) = found_load (line.PassHead number) o.at (Header number) refl in
      work_at (line.PassHead number) o.at ∙ rw (found, o.old) refl

  live_over_answers : (words : ℕ) → FindsLiveOver c words → work_by_collector c ≡ work.LiveOver words
  unfolding work_at_line table.scan_work event_at_line table.scan_event
  live_over_answers words o =
      let found : found_by_collector c ≡ words = found_load line.Scan o.at W1 refl ∙ sym o.reserved in
      work_at line.Scan o.at ∙ rw (found, lt-ltb c.geometry.live words o.over) refl

  -- AN ANSWER HAS ITS CAUSE

  frame_cause : (seat : ℕ) → c.spot.line ≡ line.Frame seat → Cause c (table.frame_work seat (found_by_collector c))
  unfolding table.frame_work event_at_line table.frame_event
  frame_cause seat at = by_test (nat_lt 0 (frame_accessors (found_by_collector c))) refl
    where
      by_test : (test : Bool) → nat_lt 0 (frame_accessors (found_by_collector c)) ≡ test → Cause c (if test then work.BusyFrame seat else work.Useful)
      by_test true e = record {
        at = at;
        loads = event_at (line.Frame seat) at;
        busy = subst (λ (k : ℕ). 0 < frame_accessors k) (found_load (line.Frame seat) at (Frame seat) refl) (ltb-true 0 (frame_accessors (found_by_collector c)) e);
      }
      by_test false e = tt

  frame_trade_cause : (seat : ℕ) → c.spot.line ≡ line.FrameTrade seat → Cause c (table.frame_trade_work c.spot (found_by_collector c))
  unfolding table.frame_trade_work event_at_line table.frame_trade_event
  frame_trade_cause seat at = by_test (nat_eq (found_by_collector c) c.spot.first) refl
    where
      by_test : (test : Bool) → nat_eq (found_by_collector c) c.spot.first ≡ test → Cause c (if test then work.Useful else work.Lost (c.spot.spent + 1))
      by_test true e = tt
      by_test false e = inl (
        seat,
        record {
          at = at;
          exchanges = event_at (line.FrameTrade seat) at;
          another = λ same. eqb-false (found_by_collector c) c.spot.first e (found_trade (line.FrameTrade seat) at (Frame seat) c.spot.first (frame_blackened c.spot.first c.spot.cycle) refl ∙ same);
          counted = refl;
        },
      )

  object_trade_cause : c.spot.line ≡ line.ObjectTrade → Cause c (table.object_trade_work c.spot (found_by_collector c))
  unfolding table.object_trade_work event_at_line table.object_trade_event
  object_trade_cause at = by_test (nat_eq (found_by_collector c) c.spot.first) refl
    where
      by_test : (test : Bool) → nat_eq (found_by_collector c) c.spot.first ≡ test → Cause c (if test then work.Useful else work.Lost (c.spot.spent + 1))
      by_test true e = tt
      by_test false e = inr (record {
        at = at;
        exchanges = event_at line.ObjectTrade at;
        another = λ same. eqb-false (found_by_collector c) c.spot.first e
            (found_trade line.ObjectTrade at (Header (moved_number c.spot)) c.spot.first (header_moved c.spot.first (moved_to c.geometry c.spot)) refl ∙ same);
        counted = refl;
      })

  look_cause : c.spot.line ≡ line.Look → Cause c (table.look_work c.spot (found_by_collector c))
  unfolding table.look_work event_at_line table.look_event
  look_cause at = by_test (nat_lt 0 (header_accessors (found_by_collector c))) refl
    where
      by_test : (test : Bool) → nat_lt 0 (header_accessors (found_by_collector c)) ≡ test → Cause c (if test then work.BusyObject (moved_number c.spot) else work.Useful)
      by_test true e = record {
        at = at;
        moved = refl;
        loads = event_at line.Look at;
        busy = subst (λ (k : ℕ). 0 < header_accessors k) (found_load line.Look at (Header (moved_number c.spot)) refl) (ltb-true 0 (header_accessors (found_by_collector c)) e);
      }
      by_test false e = tt

  link_cause : c.spot.line ≡ line.Link → Cause c (table.link_work c.geometry c.spot (found_by_collector c))
  unfolding table.link_work event_at_line table.link_event
  link_cause at = by_test (nat_eq (found_by_collector c) 0) refl
    where
      by_test : (test : Bool) → nat_eq (found_by_collector c) 0 ≡ test → Cause c (if test then work.Unlinked (moved_to c.geometry c.spot) else work.Useful)
      by_test true e = record {
        at = at;
        there = refl;
        loads = event_at line.Link at;
        unlinked = sym (found_load line.Link at (Space (moved_to c.geometry c.spot)) refl) ∙ eqb-true (found_by_collector c) 0 e;
      }
      by_test false e = tt

  scan_cause : c.spot.line ≡ line.Scan → Cause c (table.scan_work c.geometry (found_by_collector c))
  unfolding table.scan_work event_at_line table.scan_event
  scan_cause at = by_test (nat_lt c.geometry.live (found_by_collector c)) refl
    where
      by_test : (test : Bool) → nat_lt c.geometry.live (found_by_collector c) ≡ test → Cause c (if test then work.LiveOver (found_by_collector c) else work.Useful)
      by_test true e = record {
        at = at;
        loads = event_at line.Scan at;
        reserved = found_load line.Scan at W1 refl;
        over = ltb-true c.geometry.live (found_by_collector c) e;
      }
      by_test false e = tt

  pass_head_cause : (number : ℕ) → c.spot.line ≡ line.PassHead number → Cause c (table.pass_head_work c.geometry c.spot number (found_by_collector c))
  unfolding table.pass_head_work event_at_line table.pass_head_event
  pass_head_cause number at = by_test (is_old c.geometry c.spot (found_by_collector c)) refl
    where
      by_test : (test : Bool) → is_old c.geometry c.spot (found_by_collector c) ≡ test → Cause c (if test then work.Grey number else work.Useful)
      by_test true e = record {
        at = at;
        loads = event_at (line.PassHead number) at;
        old = subst (λ (k : ℕ). is_old c.geometry c.spot k ≡ true) (found_load (line.PassHead number) at (Header number) refl) e;
      }
      by_test false e = tt

  rest_cause : c.spot.line ≡ line.Rest → Cause c (table.rest_work c.spot)
  unfolding table.rest_work event_at_line table.rest_event
  rest_cause at = by_test (nat_eq c.spot.cycle last_cycle) refl
    where
      by_test : (test : Bool) → nat_eq c.spot.cycle last_cycle ≡ test → Cause c (if test then work.Worn else work.Flipped)
      by_test true e = worn at (eqb-true c.spot.cycle last_cycle e)
      by_test false e = record { rests = at; swaps = event_at line.Rest at ∙ rw e refl }

  line_cause : (ln : Line) → c.spot.line ≡ ln → Cause c (work_at_line c.geometry c.spot (found_by_collector c) ln)
  unfolding work_at_line
  line_cause line.Rest at = rest_cause at
  line_cause (line.Frame seat) at = frame_cause seat at
  line_cause (line.Register seat reg stage) at = tt
  line_cause (line.FrameTrade seat) at = frame_trade_cause seat at
  line_cause line.Scan at = scan_cause at
  line_cause line.Link at = link_cause at
  line_cause line.Look at = look_cause at
  line_cause (line.Cell index stage) at = tt
  line_cause line.ObjectTrade at = object_trade_cause at
  line_cause (line.Pass number) at = tt
  line_cause (line.PassHead number) at = pass_head_cause number at
  line_cause (line.Sweep number stage) at = tt
  line_cause (line.Clear word) at = tt
  line_cause line.Reset at = tt

  has_cause : Cause c (work_by_collector c)
  has_cause = subst (Cause c) (sym (work_at c.spot.line refl)) (line_cause c.spot.line refl)

  cause_of : (answer : Work) → work_by_collector c ≡ answer → Cause c answer
  cause_of answer e = subst (Cause c) e has_cause

  -- each answer, and its cause
  pub has_causes : HasCauses c (work_by_collector c)
  has_causes = record {
    flipped = (cause_of work.Flipped, flips_answers);
    lost = λ events. (cause_of (work.Lost events), loses_answers events);
    busy_frame = λ seat. (cause_of (work.BusyFrame seat), busy_frame_answers seat);
    busy_object = λ number. (cause_of (work.BusyObject number), busy_object_answers number);
    unlinked = λ place. (cause_of (work.Unlinked place), unlinked_answers place);
    grey = λ number. (cause_of (work.Grey number), grey_answers number);
    live_over = λ words. (cause_of (work.LiveOver words), live_over_answers words);
    worn = (cause_of work.Worn, worn_answers);
  }
