-- What is in use after an event of the collector: marks and places, but for the flip, and no register changes.
use Rattle.std.proofs.Common.{◌≡◌, ℕ, ◌+◌, ◌<◌, ◌≤◌, Bool, true, false, inl, inr, refl, sym, ◌∙◌, ap, arith, subst, List, Option, Some, None}
use Rattle.std.proofs.lemmas.Bool.{cases_eq, eqb-true, and_parts, and_right}
use Rattle.std.proofs.lemmas.Bool.Decides.{nat_tests}
use Rattle.std.specs.Prelude.{nat_eq, nat_le, nat_lt, ◌&&◌, ◌||◌, if◌then◌else◌}
use Rattle.hk_words.specs.Geometry.{tasks, numbers, list_length}
use Rattle.hk_words.specs.Layout as layout
use Rattle.hk_words.specs.Row.{place_at, w0_at, w1_at, header_at, mark_at, frame_at, register_at, entry_at, space_at, word_of}
use Rattle.hk_words.specs.Row.Slot.{Header}
use Rattle.hk_model.specs.History.{History}
use Rattle.hk_model.specs.View.{upd}
use Rattle.hk_model.proofs.Updates.{upd_same, upd_other}
use Rattle.hk_core.specs.declared.event.Event.{Event}
use Rattle.hk_core.specs.declared.event.Event.TheVariants as event
use Rattle.hk_core.specs.declared.spot.Line.{Line}
use Rattle.hk_core.specs.declared.spot.Line.TheVariants as line
use Rattle.hk_core.specs.declared.spot.Stage.{Stage}
use Rattle.hk_core.specs.declared.spot.Stage.TheVariants as stage
use Rattle.hk_core.specs.Collect as table
use Rattle.hk_core.specs.Collect.{last_cycle, current_space, old_space, next_list, moved_number, moved_from, moved_to}
use Rattle.hk_core.specs.Event.{fired_if, word_after, old_of}
use Rattle.hk_core.specs.State.{State}
use Rattle.hk_core.specs.Step.{reference_size}
use Rattle.hk_core.specs.View.{Words, words_of, names_of, contents_of, flight_at, begun_at, reference_at}
use Rattle.hk_core.specs.Lines as l
use Rattle.hk_core.specs.Colours.{Spaces, spaces_of, shades_of, is_within}
use Rattle.hk_core.specs.Lawful.{Lawful}
use Rattle.hk_core.proofs.Columns.{fired_kept, old_at, words_some}
use Rattle.hk_core.proofs.Inside.{shapes_fit}
use Rattle.hk_core.proofs.kinds.ClaimWords.{words-claim}
use Rattle.hk_core.proofs.kinds.Seats.{kept_means}
use Rattle.hk_core.proofs.kinds.WriteCell.{reference_parts}
use Rattle.hk_collect.proofs.spots.SpotMove.{item_there}
use Rattle.hk_collect.proofs.spots.SpotWords.{words-move}
use Rattle.hk_collect.proofs.spots.SpotSweepRow.{words-write_mark, words-empty_header}
use Rattle.hk_collect.proofs.UsedCalls.{used_some}
use Rattle.hk_collect.specs.Used.{stands_claimed}
use Rattle.hk_collect.proofs.UsedFacts.{claimed_of, grey_claimed, MarksUsed, SpotUsed, marks_agree, marks_claim, marks_fewer, marks_place}
use Rattle.hk_collect.proofs.UsedRows.{Agrees, agrees_fired, agrees_load, agrees_rest, agrees_same, beside_w0, beside_w1, beside_frame, beside_entry, beside_space}

-- no word of the old space stands at place 0
pub zero_not_old : (z : Spaces) → 1 ≤ z.old → is_within z z.old 0 ≡ false
zero_not_old z some = outside z.old (z.old + (z.live + z.alloc)) some
  where
    outside : (from to : ℕ) → 1 ≤ from → (nat_le from 0 && nat_lt 0 to) ≡ false
    outside from to some = grind (arith, nat_tests)

-- nor among those where moved objects stand
pub zero_not_claimed : (z : Spaces) → 1 ≤ z.old → 1 ≤ z.current → stands_claimed z 0 ≡ false
zero_not_claimed z some more = neither _ _ (zero_not_old z some) (outside z.current (z.current + z.live) more)
  where
    neither : (a b : Bool) → a ≡ false → b ≡ false → (a || b) ≡ false
    neither a b e d = rw (e, d) refl

    outside : (from to : ℕ) → 1 ≤ from → (nat_le from 0 && nat_lt 0 to) ≡ false
    outside from to some = grind (arith, nat_tests)

never : {A : Type 0} → false ≡ true → A
never e = absurd (cc)

module _ (c : State) (history : History) (h : Lawful c history) (used : ℕ → Type 0) (young : List ℕ) where
  abbrev pub now : Words
  now = words_of c.geometry c.row

  abbrev pub borne : ℕ → Option ℕ
  borne = (names_of c.geometry history).bearer

  abbrev pub then_words : Option Event → Words
  then_words e = words_of c.geometry (fired_if c.row e)

  module _ (marks : MarksUsed c.geometry now borne used young) (spot : SpotUsed c.geometry now c.spot.line c.spot.cell borne used) where
    -- an event after which the cycle is the same keeps the facts on marks and places, and no register changes
    abbrev pub KeepsMarks : Option Event → Type 0
    KeepsMarks e = ((then_words e).cycle ≡ now.cycle → MarksUsed c.geometry (then_words e) borne used young) × ((then_words e).register ≡ now.register)

    quiet : (e : Option Event) → Agrees now (then_words e) → KeepsMarks e
    quiet e a = ((λ cycle. marks_agree c.geometry now (then_words e) borne used young a cycle marks), a.register)

    loads : (word : ℕ) → KeepsMarks (Some (event.Load word))
    loads word = quiet (Some (event.Load word)) (agrees_load c.geometry c.row word)

    rests : KeepsMarks None
    rests = quiet None (agrees_rest c.geometry c.row)

    by_test : (test : Bool) (a b : Option Event) → (test ≡ true → KeepsMarks a) → (test ≡ false → KeepsMarks b) → KeepsMarks (if test then a else b)
    by_test true a b yes' no' = yes' refl
    by_test false a b yes' no' = no' refl

    knows : c.spot.cycle ≡ now.cycle
    knows = h.facts.spot_knows_cycle

    -- CLAIM, RESERVE, LINK

    claims : l.has_reference c.spot.line ≡ true → KeepsMarks (table.claim_cell c.geometry c.spot)
    unfolding table.claim_cell
    claims deals =
        let g = c.geometry in
        let t = c.spot in
        let n = layout.reference_number t.cell in
        let e = event.Max (mark_at g n) t.cycle in
        let good = h.facts.cell_good deals in
        let within = (kept_means g now (flight_at c) t.line (names_of g history) n good.is_kept).within in
        let found = used_some borne used t.cell good.some (spot.in_work deals) in
        let after' = words_some g c.row e _ (words-claim g c.row h.sized.row n t.cycle within) in
        let few : t.cycle ≤ now.cycle = let same = knows in omega arith in (
          (λ cycle. marks_claim g now (then_words (Some e)) borne used young n t.cycle found.0 cycle (ap (λ (u : Words). u.place) after') (ap (λ (u : Words). u.mark) after') few found.1 found.2 marks),
          ap (λ (u : Words). u.register) after',
        )

    reserves : KeepsMarks (table.reserve_cell c.geometry c.spot)
    unfolding table.reserve_cell
    reserves = quiet _ (agrees_fired c.geometry c.row (event.Add (w1_at c.geometry) (reference_size c.spot.cell)) (beside_w1 c.geometry))

    links : KeepsMarks (table.link_cell c.geometry c.spot)
    unfolding table.link_cell
    links =
        let p = place_at c.geometry (current_space c.spot.cycle) c.spot.offset in
        quiet _ (agrees_fired c.geometry c.row (event.Write (space_at c.geometry p) c.spot.cell) (beside_space c.geometry p))

    -- THE EXCHANGE OF A HEADER

    -- the object that is moved was claimed
    item_claimed : c.spot.line ≡ line.ObjectTrade → claimed_of c.geometry now (moved_number c.spot) ≡ true
    unfolding shades_of l.has_item l.is_at_range
    item_claimed at =
        let g = c.geometry in
        let names = names_of g history in
        let found = h.facts.scan_at_range (ap l.is_at_range at) in
        let link = h.facts.item_is_linked (ap l.has_item at) in
        let k = found.0 in
        let both = h.facts.ranges_above_grey c.spot.scan k found.1 (omega arith) in
        let shows : c.spot.item ≡ reference_at names k = elim (h.facts.ranges_linked c.spot.scan k found.1 found.2) [
          | inl unlinked ↦ absurd (link.0 (sym link.1 ∙ unlinked))
          | inr linked ↦ sym link.1 ∙ linked
        ] in
        let within = (kept_means g now (flight_at c) c.spot.line names k both.0).within in
        let number : moved_number c.spot ≡ k = (reference_parts g names k c.spot.item within (shapes_fit g history) shows).0 in
        ap (claimed_of g now) number ∙ grey_claimed g now k both.1

    moves : c.spot.line ≡ line.ObjectTrade → KeepsMarks (table.object_trade_event c.geometry c.spot)
    unfolding table.object_trade_event
    moves at = by_word (nat_eq (word_of c.geometry c.row (Header (moved_number c.spot))) c.spot.first) refl
      where
        fires : Event
        fires = event.Trade (header_at c.geometry (moved_number c.spot)) c.spot.first (layout.header_moved c.spot.first (moved_to c.geometry c.spot))

        by_word : (same : Bool) → nat_eq (word_of c.geometry c.row (Header (moved_number c.spot))) c.spot.first ≡ same
            → KeepsMarks (Some (event.Trade (header_at c.geometry (moved_number c.spot)) c.spot.first (layout.header_moved c.spot.first (moved_to c.geometry c.spot))))
        by_word true e =
            let g = c.geometry in
            let t = c.spot in
            let n = moved_number t in
            let p = moved_to g t in
            let e' = event.Trade (header_at g n) t.first (layout.header_moved t.first p) in
            let there = item_there g now (flight_at c) (begun_at c) t (names_of g history) (contents_of g history) h.range at h.facts (shapes_fit g history) in
            let after' = words_some g c.row e' _ (words-move g c.row h.sized.row n t.first p there.within there.few (eqb-true _ _ e)) in
            let places : (then_words (Some e')).place ≡ upd now.place n p = ap (λ (u : Words). u.place) after' in (
              (λ cycle. marks_place g now (then_words (Some e')) borne used young n p cycle (ap (λ (u : Words). u.mark) after') places
                  (λ within claimed. item_claimed at) marks),
              ap (λ (u : Words). u.register) after',
            )
        by_word false e =
            let g = c.geometry in
            let t = c.spot in
            let e' = event.Trade (header_at g (moved_number t)) t.first (layout.header_moved t.first (moved_to g t)) in
            let old : old_of c.row e' ≡ word_of g c.row (Header (moved_number t)) = old_at g c.row e' (Header (moved_number t)) refl in
            let stays : word_after e' (old_of c.row e') ≡ old_of c.row e' = rw old (rw e refl) in
            quiet (Some e') (agrees_same now (then_words (Some e')) (words_some g c.row e' now (ap (words_of g) (fired_kept c.row e' stays))))

    -- THE SWEEP

    sweep_marks : (n : ℕ) → c.spot.line ≡ line.Sweep n stage.Mark → KeepsMarks (Some (event.Write (mark_at c.geometry n) (c.spot.cycle + 1)))
    sweep_marks n at =
        let g = c.geometry in
        let t = c.spot in
        let e = event.Write (mark_at g n) (t.cycle + 1) in
        let fits : (n < numbers g) × l.IsSweepStage stage.Mark = subst (l.LineFits g t) at h.facts.spot_formed in
        let step = subst (l.InStep (list_length g) now.cycle t.entries now.mark (now.entry (next_list now.cycle))) at h.facts.sweep_in_step in
        let low : now.mark n < now.cycle = step.3 in
        let after' = words_some g c.row e _ (words-write_mark g c.row h.sized.row n (t.cycle + 1) fits.0) in
        let marks' : (then_words (Some e)).mark ≡ upd now.mark n (t.cycle + 1) = ap (λ (u : Words). u.mark) after' in
        let places : (then_words (Some e)).place ≡ now.place = ap (λ (u : Words). u.place) after' in (
          (λ cycle. marks_fewer g now (then_words (Some e)) borne used young cycle
              (λ m within grey. elim (cases_eq m n) [
                | inl same ↦
                    let p = and_parts _ _ grey in
                    let top : (then_words (Some e)).mark m ≡ (then_words (Some e)).cycle = eqb-true _ _ p.0 in
                    let above : (then_words (Some e)).mark m ≡ t.cycle + 1 = ap (λ f. f m) marks' ∙ ap (upd now.mark n (t.cycle + 1)) same ∙ upd_same now.mark n (t.cycle + 1) in
                    let k = knows in
                    absurd (omega arith)
                | inr d ↦
                    let kept : (then_words (Some e)).mark m ≡ now.mark m = ap (λ f. f m) marks' ∙ upd_other now.mark n (t.cycle + 1) m d in
                    rw (cycle, places, kept) at grey
              ])
              (λ m was. elim (cases_eq m n) [
                | inl same ↦ let is : now.mark n ≡ now.cycle = ap now.mark (sym same) ∙ was in absurd (omega arith)
                | inr d ↦ ap (λ f. f m) marks' ∙ upd_other now.mark n (t.cycle + 1) m d ∙ was ∙ sym cycle
              ]) marks),
          ap (λ (u : Words). u.register) after',
        )

    sweep_empties : (n : ℕ) → c.spot.line ≡ line.Sweep n stage.Empty → KeepsMarks (Some (event.Write (header_at c.geometry n) 0))
    sweep_empties n at =
        let g = c.geometry in
        let t = c.spot in
        let e = event.Write (header_at g n) 0 in
        let fits : (n < numbers g) × l.IsSweepStage stage.Empty = subst (l.LineFits g t) at h.facts.spot_formed in
        let after' = words_some g c.row e _ (words-empty_header g c.row h.sized.row n fits.0) in
        let places : (then_words (Some e)).place ≡ upd now.place n 0 = ap (λ (u : Words). u.place) after' in (
          (λ cycle. marks_place g now (then_words (Some e)) borne used young n 0 cycle (ap (λ (u : Words). u.mark) after') places
              (λ within claimed. never (sym (rw (cycle, places, upd_same now.place n 0) (and_right _ _ (zero_not_claimed (spaces_of g now.cycle) (omega arith) (omega arith)))) ∙ claimed)) marks),
          ap (λ (u : Words). u.register) after',
        )

    -- THE LINES

    register_keeps : (s r : ℕ) (st : Stage) → c.spot.line ≡ line.Register s r st → KeepsMarks (table.register_event c.geometry c.spot s r st)
    unfolding table.register_event l.has_reference l.is_in_work
    register_keeps s r stage.Read at = loads (register_at c.geometry s r)
    register_keeps s r stage.Claim at = claims (ap l.has_reference at)
    register_keeps s r stage.Reserve at = reserves
    register_keeps s r stage.Tie at = links
    register_keeps s r stage.Write at = rests
    register_keeps s r stage.Mark at = rests
    register_keeps s r stage.Empty at = rests

    cell_keeps : (i : ℕ) (st : Stage) → c.spot.line ≡ line.Cell i st → KeepsMarks (table.cell_event c.geometry c.spot i st)
    unfolding table.cell_event l.has_reference l.is_in_work
    cell_keeps i stage.Read at = loads (space_at c.geometry (moved_from c.spot + 1 + i))
    cell_keeps i stage.Claim at = claims (ap l.has_reference at)
    cell_keeps i stage.Reserve at = reserves
    cell_keeps i stage.Tie at = links
    cell_keeps i stage.Write at =
        let p = moved_to c.geometry c.spot + 1 + i in
        quiet _ (agrees_fired c.geometry c.row (event.Write (space_at c.geometry p) c.spot.cell) (beside_space c.geometry p))
    cell_keeps i stage.Mark at = rests
    cell_keeps i stage.Empty at = rests

    sweep_keeps : (n : ℕ) (st : Stage) → c.spot.line ≡ line.Sweep n st → KeepsMarks (table.sweep_event c.geometry c.spot n st)
    unfolding table.sweep_event
    sweep_keeps n stage.Read at = loads (mark_at c.geometry n)
    sweep_keeps n stage.Claim at = rests
    sweep_keeps n stage.Reserve at = rests
    sweep_keeps n stage.Tie at = rests
    sweep_keeps n stage.Write at =
        let j = next_list c.spot.cycle in
        quiet _ (agrees_fired c.geometry c.row (event.Write (entry_at c.geometry j c.spot.entries) n) (beside_entry c.geometry j c.spot.entries))
    sweep_keeps n stage.Mark at = sweep_marks n at
    sweep_keeps n stage.Empty at = sweep_empties n at

    line_keeps : (ln : Line) → c.spot.line ≡ ln → KeepsMarks (table.event_at_line c.geometry c.spot ln)
    unfolding table.event_at_line table.rest_event table.frame_event table.frame_trade_event table.scan_event table.link_event table.look_event table.pass_event table.pass_head_event table.clear_event table.reset_event
    line_keeps line.Rest at = by_test (nat_eq c.spot.cycle last_cycle) _ _ (λ _. rests)
        (λ _. quiet _ (agrees_fired c.geometry c.row (event.Swap (w0_at c.geometry) (layout.pack_w0 0 0 (c.spot.cycle + 1))) (beside_w0 c.geometry)))
    line_keeps (line.Frame s) at = loads (frame_at c.geometry s)
    line_keeps (line.Register s r st) at = register_keeps s r st at
    line_keeps (line.FrameTrade s) at =
        let fits : s < tasks c.geometry = subst (l.LineFits c.geometry c.spot) at h.facts.spot_formed in
        quiet _ (agrees_fired c.geometry c.row (event.Trade (frame_at c.geometry s) c.spot.first (layout.frame_blackened c.spot.first c.spot.cycle)) (beside_frame c.geometry s fits))
    line_keeps line.Scan at = loads (w1_at c.geometry)
    line_keeps line.Link at = loads (space_at c.geometry (moved_to c.geometry c.spot))
    line_keeps line.Look at = loads (header_at c.geometry (moved_number c.spot))
    line_keeps (line.Cell i st) at = cell_keeps i st at
    line_keeps line.ObjectTrade at = moves at
    line_keeps (line.Pass n) at = loads (mark_at c.geometry n)
    line_keeps (line.PassHead n) at = loads (header_at c.geometry n)
    line_keeps (line.Sweep n st) at = sweep_keeps n st at
    line_keeps (line.Clear i) at =
        let p = place_at c.geometry (old_space c.spot.cycle) i in
        quiet _ (agrees_fired c.geometry c.row (event.Write (space_at c.geometry p) 0) (beside_space c.geometry p))
    line_keeps line.Reset at = quiet _ (agrees_fired c.geometry c.row (event.Write (w1_at c.geometry) 0) (beside_w1 c.geometry))

    pub collector_keeps : KeepsMarks (table.event_by_collector c)
    unfolding table.event_by_collector table.spot_event
    collector_keeps = line_keeps c.spot.line refl
