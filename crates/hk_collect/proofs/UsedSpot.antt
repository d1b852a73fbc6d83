-- What is in use at the spot of the collector after its event: the words of a frame from the start of an attempt on it, and
-- the reference that is dealt with.
use Rattle.std.proofs.Common.{◌≡◌, ℕ, ◌+◌, ◌*◌, ◌<◌, ◌≤◌, Bool, true, false, inl, inr, refl, sym, ◌∙◌, ap, arith, subst, List, Option, Some, None}
use Rattle.std.proofs.lemmas.Bool.{and_parts, ltb-true, ltb-false}
use Rattle.std.specs.Prelude.{nat_eq, nat_lt, not, ◌&&◌, is_some, if◌then◌else◌}
use Rattle.hk_words.specs.declared.call.Call.{Call}
use Rattle.hk_words.specs.declared.call.Call.TheVariants as call
use Rattle.hk_words.specs.Geometry.{tasks, numbers, space_words}
use Rattle.hk_words.specs.Layout as layout
use Rattle.hk_words.specs.Row.{frame_at, register_at, space_at, word_of}
use Rattle.hk_words.specs.Row.Slot.{Frame}
use Rattle.hk_model.specs.Heap.{opening_of}
use Rattle.hk_model.specs.History.{History, after}
use Rattle.hk_core.specs.declared.event.Event.TheVariants as event
use Rattle.hk_core.specs.declared.flight.Flight.{Flight}
use Rattle.hk_core.specs.declared.spot.Spot.{Spot}
use Rattle.hk_core.specs.declared.spot.Line.{Line}
use Rattle.hk_core.specs.declared.spot.Line.TheVariants as line
use Rattle.hk_core.specs.declared.spot.Stage.{Stage}
use Rattle.hk_core.specs.declared.spot.Stage.TheVariants as stage
use Rattle.hk_core.specs.Collect as table
use Rattle.hk_core.specs.Collect.{last_cycle, moved_number, moved_from, after_register, after_pass, is_reference}
use Rattle.hk_core.specs.Event.{learnt}
use Rattle.hk_core.specs.State.{State}
use Rattle.hk_core.specs.Step.{reference_size, reserved_fits}
use Rattle.hk_core.specs.View.{Words, words_of, decoded, names_of, contents_of, flight_at, begun_at, shown, size_at, refs_at, reference_at}
use Rattle.hk_core.specs.Flights as f
use Rattle.hk_core.specs.Lines as l
use Rattle.hk_core.specs.Colours.{spaces_of, shades_of, held_by, IsKeptBirth, IsNullOrKept}
use Rattle.hk_core.specs.Lawful.{Lawful}
use Rattle.hk_core.proofs.Columns.{raw_frame}
use Rattle.hk_core.proofs.Inside.{shapes_fit}
use Rattle.hk_core.proofs.kinds.LoadRead.{kept_number, shown_none, shown_birth, found-cell}
use Rattle.hk_core.proofs.kinds.Seats.{kept_means}
use Rattle.hk_core.proofs.kinds.NewHeader.{number_of_reference}
use Rattle.hk_collect.proofs.spots.SpotLines.{AtItem, AtCell, at_cell}
use Rattle.hk_collect.proofs.spots.SpotLoads.{work_at}
use Rattle.hk_collect.proofs.spots.SpotLoadsCells.{IsItem, item_known}
use Rattle.hk_collect.proofs.spots.SpotLoadsRow.{found-frame, found-register, space_ends}
use Rattle.hk_core.proofs.kinds.WriteCell.{shades_mean}
use Rattle.hk_collect.specs.Used.{Closed, IsUsedWord}
use Rattle.hk_collect.proofs.UsedCalls.{word_used}
use Rattle.hk_collect.specs.Runs.{is_grey_by}
use Rattle.hk_collect.proofs.UsedFacts.{grey_claimed, MarksUsed, SpotUsed}
use Rattle.hk_core.proofs.Shared.{never, never_some}

-- a call that holds a register back is inside its frame, unless it rests
back_in_frame : (x : Flight) (r : ℕ) → f.is_resting x ≡ false → f.holds_back x r ≡ true → f.in_frame x ≡ true
unfolding f.holds_back f.holds_back_at f.in_frame f.in_frame_at
back_in_frame x r busy back = each x.call x.place back
  where
    wider : (p : ℕ) → f.is_between 5 8 p ≡ true → f.is_between 2 10 p ≡ true
    wider p e = grind arith

    each : (call' : Call) (p : ℕ) → f.holds_back_at call' p r ≡ true → (f.in_frame_at call' p && not (f.is_resting x)) ≡ true
    each (call.Get reg field) p e = absurd (cc)
    each (call.Put reg field value) p e = absurd (cc)
    each (call.Load dest reg field) p e = let q = and_parts (f.is_between 5 8 p) (nat_eq dest r) e in rw (wider p q.0, busy) refl
    each (call.Store reg field from) p e = absurd (cc)
    each (call.Move dest from) p e = absurd (cc)
    each (call.Clear dest) p e = absurd (cc)
    each (call.New dest shape) p e = absurd (cc)
    each (call.Same a b) p e = absurd (cc)
    each (call.IsNull reg) p e = absurd (cc)

-- a call that holds a register back never rests
back_is_busy : (x : Flight) (r : ℕ) → f.IsInStep x → f.holds_back x r ≡ true → f.is_resting x ≡ false
unfolding f.holds_back f.holds_back_at
back_is_busy x r step back = each x.call step back
  where
    each : (call' : Call) → f.IsInStepAt call' x.place x.full x.raised → f.holds_back_at call' x.place r ≡ true → f.is_resting x ≡ false
    each (call.Get reg field) o e = absurd (cc)
    each (call.Put reg field value) o e = absurd (cc)
    each (call.Load dest reg field) o e = rw o.not_full refl
    each (call.Store reg field from) o e = absurd (cc)
    each (call.Move dest from) o e = absurd (cc)
    each (call.Clear dest) o e = absurd (cc)
    each (call.New dest shape) o e = absurd (cc)
    each (call.Same a b) o e = absurd (cc)
    each (call.IsNull reg) o e = absurd (cc)

no_accessors : (b : Bool) → ◌≡◌ {A = ℕ} (if b then 1 else 0) 0 → b ≡ false
no_accessors true e = absurd (omega arith)
no_accessors false e = refl

attempt_seat : (s p k passed : ℕ) → ◌≡◌ {A = Option (ℕ × ℕ)} (Some (s, p)) (Some (k, passed)) → s ≡ k
attempt_seat s p k passed e = let same : ◌≡◌ {A = ℕ × ℕ} (s, p) (k, passed) = cc in ap (λ (x : ℕ × ℕ). x.0) same

module _ (c : State) (history : History) (h : Lawful c history) (used : ℕ → Type 0) (closed : Closed (after (opening_of c.geometry) history) used) where
  abbrev pub now : Words
  now = words_of c.geometry c.row

  abbrev pub borne : ℕ → Option ℕ
  borne = (names_of c.geometry history).bearer

  -- the facts of a spot, of the registers as they are
  abbrev pub Stands : Spot → Type 0
  Stands u = SpotUsed c.geometry now u.line u.cell borne used

  -- no attempt and no reference
  idle : (u : Spot) → l.frame_attempt c.geometry u.line ≡ None → l.has_reference u.line ≡ false → Stands u
  idle u no_attempt no_reference = record {
    attempt = λ s passed r at seat reg. never_some (sym no_attempt ∙ at);
    in_work = λ deals. never (sym no_reference ∙ deals);
  }

  -- the words of a frame name births in use
  abbrev FrameUsed : ℕ → Type 0
  FrameUsed s = (r : ℕ) → r < c.geometry.registers → IsUsedWord borne used (now.register s r)

  in_attempt : (u : Spot) (s p : ℕ) → l.frame_attempt c.geometry u.line ≡ Some (s, p) → FrameUsed s → (l.has_reference u.line ≡ true → IsUsedWord borne used u.cell) → Stands u
  in_attempt u s p at all deals = record {
    attempt = λ k passed r at' seat reg. let same : s ≡ k = attempt_seat s p k passed (sym at ∙ at') in rw (← same) (all r reg);
    in_work = deals;
  }

  at_cell_of : (u : Spot) → l.frame_attempt c.geometry u.line ≡ None → (l.has_reference u.line ≡ true → IsUsedWord borne used u.cell) → Stands u
  at_cell_of u no_attempt deals = record {
    attempt = λ s passed r at seat reg. never_some (sym no_attempt ∙ at);
    in_work = deals;
  }

  by_test : (test : Bool) (u v : Spot) → (test ≡ true → Stands u) → (test ≡ false → Stands v) → Stands (if test then u else v)
  by_test true u v yes' no' = yes' refl
  by_test false u v yes' no' = no' refl

  -- AN ATTEMPT BEGINS

  -- where no call is inside the frame, its words show the plain registers
  frame_used : (s : ℕ) → s < tasks c.geometry → now.frame_accessors s ≡ 0 → FrameUsed s
  frame_used s below empty r fits = word_used c history h used closed s r below fits (by_back (f.holds_back (flight_at c s) r) refl)
    where
      outside : f.in_frame (flight_at c s) ≡ false
      outside = no_accessors (f.in_frame (flight_at c s)) (sym (h.facts.frame_accessors_counted s below) ∙ empty)

      by_back : (back : Bool) → f.holds_back (flight_at c s) r ≡ back → back ≡ false
      by_back false e = refl
      by_back true e =
          let busy = back_is_busy (flight_at c s) r (h.facts.news_in_step s below) e in
          never (sym outside ∙ back_in_frame (flight_at c s) r busy e)

  frame_word : (s : ℕ) → s < tasks c.geometry → layout.frame_accessors (word_of c.geometry c.row (Frame s)) ≡ now.frame_accessors s
  unfolding words_of decoded
  frame_word s below = ap layout.frame_accessors (sym (raw_frame c.geometry c.row s below))

  -- A CELL OF THE OBJECT THAT IS MOVED

  a_birth : (o : Option ℕ) → is_some o ≡ true → (b : ℕ) × (o ≡ Some b)
  a_birth None some = absurd (cc)
  a_birth (Some b) some = (b, refl)

  refs_borne : (n b : ℕ) → borne n ≡ Some b → refs_at (names_of c.geometry history) n ≡ (names_of c.geometry history).refs b
  unfolding refs_at
  refs_borne n b e = rw e refl

  module _ (young : List ℕ) (marks : MarksUsed c.geometry now borne used young) where
    -- its number is grey, so a birth in use bears it
    item_used : AtItem c.geometry now (spaces_of c.geometry now.cycle) (shades_of c.geometry now (flight_at c) c.spot.line (names_of c.geometry history)) c.spot h.range
        → (b : ℕ) → borne (moved_number c.spot) ≡ Some b → used b
    unfolding shades_of
    item_used o b bears =
        let g = c.geometry in
        let t = c.spot in
        let names = names_of g history in
        let sh = shades_of g now (flight_at c) t.line names in
        let found = o.at_range.found in
        let k = found.0 in
        let both = h.facts.ranges_above_grey t.scan k found.1 (omega arith) in
        let shows : t.item ≡ reference_at names k = elim (h.facts.ranges_linked t.scan k found.1 found.2) [
          | inl unlinked ↦ absurd (o.some (sym o.linked ∙ unlinked))
          | inr linked ↦ sym o.linked ∙ linked
        ] in
        let within : k < numbers g = (kept_means g now (flight_at c) t.line names k both.0).within in
        let number : moved_number t ≡ k = number_of_reference g names k t.item within shows in
        let grey : is_grey_by g now k ≡ true = both.1 in
        let is = marks.grey k within (grey_claimed g now k grey) in
        let same : Some is.0 ≡ Some b = sym is.1 ∙ ap borne (sym number) ∙ bears in
        let one : is.0 ≡ b = cc in
        rw (← one) is.2

    -- a reference cell of it names a birth in use
    cell_used : (i : ℕ) → c.spot.line ≡ line.Cell i stage.Read → i < layout.reference_refs c.spot.item → IsUsedWord borne used (now.cell (moved_from c.spot + 1 + i))
    unfolding names_of contents_of
    cell_used i at inside =
        let g = c.geometry in
        let t = c.spot in
        let names = names_of g history in
        let contents = contents_of g history in
        let z = spaces_of g now.cycle in
        let sh = shades_of g now (flight_at c) t.line names in
        let o : AtCell g now z sh t names h.range i stage.Read = at_cell g now z sh (flight_at c) t names h.range i stage.Read
        (work_at g now (flight_at c) (begun_at c) t names contents h.range (line.Cell i stage.Read) at h.facts) in
        let known : IsItem sh names t.item = item_known g now (flight_at c) (begun_at c) t names contents h.range h.facts (shapes_fit g history) o.in_object.at_item in
        let n = moved_number t in
        let k = kept_means g now (flight_at c) t.line names n known.is_kept in
        let birth : (b : ℕ) × (names.bearer n ≡ Some b) = a_birth (names.bearer n) k.is_born in
        let b = birth.0 in
        let refs : layout.reference_refs t.item ≡ names.refs b = known.refs ∙ refs_borne n b birth.1 in
        let within : i < names.refs b = omega arith in
        let shows : now.cell (moved_from t + 1 + i) ≡ shown names (contents.link b i) =
        ap (λ p. now.cell (p + 1 + i)) o.in_object.behind.placed ∙ h.facts.links_shown n b known.is_kept birth.1 i within in
        rw shows (by_link b i within (item_used o.in_object.at_item b birth.1) _ refl (h.facts.links_kept n b known.is_kept birth.1 i within))
      where
        by_link : (b i : ℕ) → i < (names_of c.geometry history).refs b → used b → (link : Option ℕ) → (contents_of c.geometry history).link b i ≡ link
            → IsNullOrKept (shades_of c.geometry now (flight_at c) c.spot.line (names_of c.geometry history)).kept (names_of c.geometry history) link
            → IsUsedWord borne used (shown (names_of c.geometry history) link)
        by_link b i within is link e (inl null) = inl (shown_none (names_of c.geometry history) link null)
        by_link b i within is link e (inr found) =
            let g = c.geometry in
            let names = names_of g history in
            let sh = shades_of g now (flight_at c) c.spot.line names in
            let child = found.0 in
            let kept : IsKeptBirth sh.kept names child = found.2 in
            let number = kept_number g now (held_by g (flight_at c)) c.spot.line names sh (kept_means g now (flight_at c) c.spot.line names) child (shown names link) kept (shown_birth names link child found.1) in
            inr (child, ap names.bearer number.0 ∙ kept.bears, closed.links b i child is within (e ∙ found.1))

    -- what the load of the cell finds is that word
    cell_found : (i : ℕ) → c.spot.line ≡ line.Cell i stage.Read → i < layout.reference_refs c.spot.item
        → learnt c.row (Some (event.Load (space_at c.geometry (moved_from c.spot + 1 + i)))) ≡ now.cell (moved_from c.spot + 1 + i)
    cell_found i at inside =
        let g = c.geometry in
        let t = c.spot in
        let names = names_of g history in
        let contents = contents_of g history in
        let z = spaces_of g now.cycle in
        let sh = shades_of g now (flight_at c) t.line names in
        let o : AtCell g now z sh t names h.range i stage.Read = at_cell g now z sh (flight_at c) t names h.range i stage.Read
        (work_at g now (flight_at c) (begun_at c) t names contents h.range (line.Cell i stage.Read) at h.facts) in
        let known : IsItem sh names t.item = item_known g now (flight_at c) (begun_at c) t names contents h.range h.facts (shapes_fit g history) o.in_object.at_item in
        let n = moved_number t in
        let size : sh.size n ≡ size_at names n = (shades_mean g now (flight_at c) t.line names).size n in
        let words : reference_size t.item ≡ size_at names n = known.size in
        let placed : moved_from t ≡ now.place n = o.in_object.behind.placed in
        let current_ends = space_ends g now.cycle in
        let old_ends = space_ends g (now.cycle + 1) in
        let within : moved_from t + 1 + i ≤ 2 * space_words g = elim (h.facts.objects_in_one_space n known.is_kept) [
          | inl old ↦ let ends : now.place n + sh.size n ≤ z.old + (z.live + z.alloc) = old.before in omega arith
          | inr current ↦ let ends : now.place n + sh.size n ≤ z.current + (z.live + z.alloc) = current.before in omega arith
        ] in
        found-cell g c.row (moved_from t + 1 + i) (omega arith) within

    -- THE SPOT AFTER ITS EVENT

    module _ (spot : Stands c.spot) where
      -- the facts of a line and a cell
      abbrev At : Line → ℕ → Type 0
      At ln cell = SpotUsed c.geometry now ln cell borne used

      by_line : (P : Line → Type 0) (test : Bool) (a b : Line) → (test ≡ true → P a) → (test ≡ false → P b) → P (if test then a else b)
      by_line P true a b yes' no' = yes' refl
      by_line P false a b yes' no' = no' refl

      by_stage : (P : Stage → Type 0) (test : Bool) (a b : Stage) → (test ≡ true → P a) → (test ≡ false → P b) → P (if test then a else b)
      by_stage P true a b yes' no' = yes' refl
      by_stage P false a b yes' no' = no' refl

      still : (ln : Line) (cell : ℕ) → l.frame_attempt c.geometry ln ≡ None → l.has_reference ln ≡ false → At ln cell
      still ln cell no_attempt no_reference = idle (record c.spot { line = ln; cell = cell }) no_attempt no_reference

      inside : (ln : Line) (cell s p : ℕ) → l.frame_attempt c.geometry ln ≡ Some (s, p) → FrameUsed s → (l.has_reference ln ≡ true → IsUsedWord borne used cell) → At ln cell
      inside ln cell s p at all deals = in_attempt (record c.spot { line = ln; cell = cell }) s p at all deals

      dealt : (ln : Line) (cell : ℕ) → l.frame_attempt c.geometry ln ≡ None → (l.has_reference ln ≡ true → IsUsedWord borne used cell) → At ln cell
      dealt ln cell no_attempt deals = at_cell_of (record c.spot { line = ln; cell = cell }) no_attempt deals

      -- a frame
      frame_stands : (s : ℕ) → c.spot.line ≡ line.Frame s → Stands (table.frame_took c.spot s (learnt c.row (table.frame_event c.geometry s)))
      unfolding table.frame_took table.frame_event l.frame_attempt l.has_reference l.is_in_work
      frame_stands s at =
          let g = c.geometry in
          let below : s < tasks g = subst (l.LineFits g c.spot) at h.facts.spot_formed in
          let old = learnt c.row (Some (event.Load (frame_at g s))) in
          let parts : layout.frame_accessors old ≡ now.frame_accessors s = ap (λ k. layout.frame_accessors k) (found-frame g c.row s) ∙ frame_word s below in
          by_test (nat_lt 0 (layout.frame_accessors old)) _ _ (λ busy. spot)
          (λ free. let none' = ltb-false 0 (layout.frame_accessors old) free in let empty : now.frame_accessors s ≡ 0 = omega arith in
          inside (line.Register s 0 stage.Read) c.spot.cell s 0 refl (frame_used s below empty) (λ deals. never deals))

      -- a register
      after_register_stands : (s r cell : ℕ) → FrameUsed s → At (after_register c.geometry s r) cell
      unfolding l.frame_attempt l.has_reference l.is_in_work
      after_register_stands s r cell all = by_line (λ ln. At ln cell) (nat_lt (r + 1) c.geometry.registers) _ _
          (λ _. inside (line.Register s (r + 1) stage.Read) cell s (r + 1) refl all (λ deals. never deals))
          (λ _. inside (line.FrameTrade s) cell s c.geometry.registers refl all (λ deals. never deals))

      register_stands : (s r : ℕ) (st : Stage) → c.spot.line ≡ line.Register s r st
          → Stands (table.register_took c.geometry c.spot s r st (learnt c.row (table.register_event c.geometry c.spot s r st)))
      unfolding table.register_took table.register_event l.frame_attempt l.has_reference l.is_in_work
      register_stands s r st at = each st at
        where
          fits : (st : Stage) → c.spot.line ≡ line.Register s r st → (s < tasks c.geometry) × (r < c.geometry.registers) × l.IsRegisterStage st
          fits st at = subst (l.LineFits c.geometry c.spot) at h.facts.spot_formed

          all : (st : Stage) → c.spot.line ≡ line.Register s r st → FrameUsed s
          all st at k few = spot.attempt s r k (ap (l.frame_attempt c.geometry) at) (fits st at).0 few

          each : (st : Stage) → c.spot.line ≡ line.Register s r st → Stands (table.register_took c.geometry c.spot s r st (learnt c.row (table.register_event c.geometry c.spot s r st)))
          each stage.Read at =
              let here = fits stage.Read at in
              let old = learnt c.row (Some (event.Load (register_at c.geometry s r))) in
              let found : old ≡ now.register s r = found-register c.geometry c.row s r here.0 here.1 in
              by_line (λ ln. At ln old) (nat_eq old 0) _ _ (λ _. after_register_stands s r old (all stage.Read at))
              (λ _. inside (line.Register s r stage.Claim) old s r refl (all stage.Read at) (λ deals. rw found (all stage.Read at r here.1)))
          each stage.Claim at =
              let old = learnt c.row (table.claim_cell c.geometry c.spot) in
              by_line (λ ln. At ln c.spot.cell) (nat_lt old c.spot.cycle) _ _
              (λ _. inside (line.Register s r stage.Reserve) c.spot.cell s r refl (all stage.Claim at) (λ deals. spot.in_work (ap l.has_reference at)))
              (λ _. after_register_stands s r c.spot.cell (all stage.Claim at))
          each stage.Reserve at =
              let old = learnt c.row (table.reserve_cell c.geometry c.spot) in
              by_line (λ ln. At ln c.spot.cell) (reserved_fits c.geometry old c.spot.cell) _ _
              (λ _. inside (line.Register s r stage.Tie) c.spot.cell s r refl (all stage.Reserve at) (λ deals. spot.in_work (ap l.has_reference at)))
              (λ _. after_register_stands s r c.spot.cell (all stage.Reserve at))
          each stage.Tie at = after_register_stands s r c.spot.cell (all stage.Tie at)
          each stage.Write at = spot
          each stage.Mark at = spot
          each stage.Empty at = spot

      -- a cell
      cell_stands : (i : ℕ) (st : Stage) → c.spot.line ≡ line.Cell i st → Stands (table.cell_took c.geometry c.spot i st (learnt c.row (table.cell_event c.geometry c.spot i st)))
      unfolding table.cell_took table.cell_event l.frame_attempt l.has_reference l.is_in_work
      cell_stands i stage.Read at =
          let old = learnt c.row (Some (event.Load (space_at c.geometry (moved_from c.spot + 1 + i)))) in
          by_stage (λ st. At (line.Cell i st) old) (is_reference c.spot i old) _ _
          (λ e. let p = and_parts (nat_lt i (layout.reference_refs c.spot.item)) (not (nat_eq old 0)) e in
          let within = ltb-true i (layout.reference_refs c.spot.item) p.0 in
          dealt (line.Cell i stage.Claim) old refl (λ deals. rw (cell_found i at within) (cell_used i at within)))
          (λ _. still (line.Cell i stage.Write) old refl refl)
      cell_stands i stage.Claim at =
          let old = learnt c.row (table.claim_cell c.geometry c.spot) in
          by_stage (λ st. At (line.Cell i st) c.spot.cell) (nat_lt old c.spot.cycle) _ _
          (λ _. dealt (line.Cell i stage.Reserve) c.spot.cell refl (λ deals. spot.in_work (ap l.has_reference at)))
          (λ _. still (line.Cell i stage.Write) c.spot.cell refl refl)
      cell_stands i stage.Reserve at =
          let old = learnt c.row (table.reserve_cell c.geometry c.spot) in
          by_stage (λ st. At (line.Cell i st) c.spot.cell) (reserved_fits c.geometry old c.spot.cell) _ _
          (λ _. dealt (line.Cell i stage.Tie) c.spot.cell refl (λ deals. spot.in_work (ap l.has_reference at)))
          (λ _. still (line.Cell i stage.Write) c.spot.cell refl refl)
      cell_stands i stage.Tie at = still (line.Cell i stage.Write) c.spot.cell refl refl
      cell_stands i stage.Write at = by_line (λ ln. At ln c.spot.cell) (nat_lt (i + 2) (reference_size c.spot.item)) _ _
          (λ _. still (line.Cell (i + 1) stage.Read) c.spot.cell refl refl) (λ _. still line.ObjectTrade c.spot.cell refl refl)
      cell_stands i stage.Mark at = spot
      cell_stands i stage.Empty at = spot

      -- the sweep
      sweep_stands : (n old : ℕ) (st : Stage) → Stands (table.sweep_took c.geometry c.spot n st old)
      unfolding table.sweep_took l.frame_attempt l.has_reference
      sweep_stands n old stage.Read = by_line (λ ln. At ln c.spot.cell) (nat_lt old c.spot.cycle) _ _
          (λ _. still (line.Sweep n stage.Write) c.spot.cell refl refl) (λ _. still (line.Sweep (n + 1) stage.Read) c.spot.cell refl refl)
      sweep_stands n old stage.Claim = spot
      sweep_stands n old stage.Reserve = spot
      sweep_stands n old stage.Tie = spot
      sweep_stands n old stage.Write = still (line.Sweep n stage.Mark) c.spot.cell refl refl
      sweep_stands n old stage.Mark = still (line.Sweep n stage.Empty) c.spot.cell refl refl
      sweep_stands n old stage.Empty = by_line (λ ln. At ln c.spot.cell) _ _ _
          (λ _. still (line.Sweep (n + 1) stage.Read) c.spot.cell refl refl) (λ _. still (line.Clear 0) c.spot.cell refl refl)

      after_pass_stands : (n cell : ℕ) → At (after_pass c.geometry n) cell
      unfolding l.frame_attempt l.has_reference
      after_pass_stands n cell = by_line (λ ln. At ln cell) (nat_lt (n + 1) (numbers c.geometry)) _ _
          (λ _. still (line.Pass (n + 1)) cell refl refl) (λ _. still (line.Sweep 0 stage.Read) cell refl refl)

      -- each line, but for the flip
      line_stands : (ln : Line) → c.spot.line ≡ ln → (ln ≡ line.Rest → nat_eq c.spot.cycle last_cycle ≡ true)
          → Stands (table.took_at_line c.geometry c.spot (learnt c.row (table.event_at_line c.geometry c.spot ln)) ln)
      unfolding table.took_at_line table.event_at_line table.rest_took table.frame_trade_took table.scan_took table.link_took table.look_took table.object_trade_took table.pass_took table.pass_head_took table.clear_took l.frame_attempt l.has_reference l.is_in_work
      line_stands line.Rest at worn = by_test (nat_eq c.spot.cycle last_cycle) _ _ (λ _. spot) (λ flips. never (sym flips ∙ worn refl))
      line_stands (line.Frame s) at worn = frame_stands s at
      line_stands (line.Register s r st) at worn = register_stands s r st at
      line_stands (line.FrameTrade s) at worn = by_line (λ ln. At ln c.spot.cell) _ _ _
          (λ _. by_line (λ ln. At ln c.spot.cell) (nat_lt (s + 1) (tasks c.geometry)) _ _ (λ _. still (line.Frame (s + 1)) c.spot.cell refl refl) (λ _. still line.Scan c.spot.cell refl refl))
          (λ _. still (line.Frame s) c.spot.cell refl refl)
      line_stands line.Scan at worn = by_test _ _ _ (λ _. spot)
          (λ _. by_line (λ ln. At ln c.spot.cell) _ _ _ (λ _. still line.Link c.spot.cell refl refl) (λ _. still (line.Pass 0) c.spot.cell refl refl))
      line_stands line.Link at worn = by_test _ _ _ (λ _. still line.Scan c.spot.cell refl refl) (λ _. still line.Look c.spot.cell refl refl)
      line_stands line.Look at worn = by_test _ _ _ (λ _. spot) (λ _. still (line.Cell 0 stage.Read) c.spot.cell refl refl)
      line_stands (line.Cell i st) at worn = cell_stands i st at
      line_stands line.ObjectTrade at worn = by_test _ _ _ (λ _. still line.Scan c.spot.cell refl refl) (λ _. still line.Look c.spot.cell refl refl)
      line_stands (line.Pass n) at worn = by_line (λ ln. At ln c.spot.cell) _ _ _ (λ _. still (line.PassHead n) c.spot.cell refl refl) (λ _. after_pass_stands n c.spot.cell)
      line_stands (line.PassHead n) at worn = by_line (λ ln. At ln c.spot.cell) _ _ _ (λ _. still line.Scan c.spot.cell refl refl) (λ _. after_pass_stands n c.spot.cell)
      line_stands (line.Sweep n st) at worn = sweep_stands n _ st
      line_stands (line.Clear i) at worn = by_line (λ ln. At ln c.spot.cell) _ _ _ (λ _. still (line.Clear (i + 1)) c.spot.cell refl refl) (λ _. still line.Reset c.spot.cell refl refl)
      line_stands line.Reset at worn = still line.Rest c.spot.cell refl refl

      -- so the spot after the collector's event, but for the flip
      pub spot_stands : (c.spot.line ≡ line.Rest → nat_eq c.spot.cycle last_cycle ≡ true) → Stands (table.next_collected c).spot
      unfolding table.next_collected table.spot_took table.found_by_collector table.event_by_collector table.spot_event
      spot_stands worn = line_stands c.spot.line refl worn
