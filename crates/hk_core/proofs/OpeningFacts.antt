-- The facts of the opening state.
use Rattle.std.proofs.Common.{◌≡◌, ℕ, ◌+◌, ◌-◌, ◌*◌, ◌<◌, Bool, true, false, refl, sym, arith, ◌∙◌, ap, inl, inr, Some, None}
use Rattle.std.proofs.lemmas.Bool.{cases_eq, cases_lt, both_ways, and_parts, lt-ltb, le-ltb}
use Rattle.std.proofs.lemmas.Bool.Decides.{nat_tests}
use Rattle.std.specs.Prelude.{is_some}
use Rattle.hk_words.specs.declared.geometry.Geometry.{Geometry}
use Rattle.hk_words.specs.Geometry.{tasks, numbers, list_length}
use Rattle.hk_words.specs.Layout as layout
use Rattle.hk_core.specs.State.{idle, opening_spot, board_reference}
use Rattle.hk_core.specs.Counts.{count_below}
use Rattle.hk_core.specs.View.{Words, Names, Contents, shown, refs_at, nums_at, size_at, reference_at}
use Rattle.hk_core.specs.Flights as f
use Rattle.hk_core.specs.Lines as l
use Rattle.hk_core.specs.Colours.{spaces_of, shades_of, kept_by, held_by, white_by, grey_by, black_frame_by, IsGood, IsKeptBirth, InCurrent}
use Rattle.hk_core.specs.Facts as fact
use Rattle.hk_core.specs.Lawful.{FactsOf, hands_of}
use Rattle.hk_core.proofs.OpeningTables as table
use Rattle.hk_core.proofs.OpeningTables.{count_none}
use Rattle.hk_core.proofs.OpeningRow.{IsOpened}
use Rattle.hk_core.proofs.OpeningHeap.{HasBoardAlone}
use Rattle.hk_core.proofs.Shared.{never, never_false, never_some}

module _ (g : Geometry) (place mark accessors version frame_accessors frame_cycle frame_version : ℕ → ℕ) (register entry : ℕ → ℕ → ℕ) (cell : ℕ → ℕ)
    (o : IsOpened g place mark accessors version frame_accessors frame_cycle frame_version register entry cell)
    (names : Names) (contents : Contents) (b : HasBoardAlone g names contents) where
  -- the words at the start
  abbrev start : Words
  start = record {
    used = 0;
    objects = 0;
    cycle = 1;
    reserved = 0;
    accessors = accessors;
    place = place;
    version = version;
    mark = mark;
    frame_accessors = frame_accessors;
    frame_cycle = frame_cycle;
    frame_version = frame_version;
    register = register;
    entry = entry;
    cell = cell;
  }

  abbrev kept : ℕ → Bool
  kept = kept_by g 1 false (held_by g idle) names.bearer place mark

  -- the board alone is kept
  kept_board : (n : ℕ) → kept n ≡ true → n ≡ 0
  kept_board n h = elim (cases_eq n 0) [
    | inl e ↦ e
    | inr d ↦
        let p = and_parts _ _ h in
        let q = and_parts _ _ p.0 in
        let r = and_parts _ _ q.1 in
        let e : is_some (names.bearer n) ≡ false = rw (b.no_bearer n d) refl in
        absurd (both_ways _ e r.0)
  ]

  board_kept : kept 0 ≡ true
  board_kept =
      let p = o.board_place in
      let m = o.current_mark 0 (omega arith) in
      rw (b.bearer, table.held_by-idle g 0) (grind (arith, nat_tests))

  -- the board's words
  board_size : size_at names 0 ≡ 1 + g.board.refs + g.board.nums
  unfolding size_at refs_at nums_at
  board_size = rw b.bearer (rw (b.refs, b.nums) refl)

  board_shown : reference_at names 0 ≡ board_reference g
  unfolding reference_at refs_at nums_at
  board_shown = rw b.bearer (rw (b.refs, b.nums) refl)

  birth_shown : shown names (Some 0) ≡ board_reference g
  unfolding shown
  birth_shown = rw (b.number 0, b.refs, b.nums) refl

  null_shown : shown names None ≡ 0
  unfolding shown
  null_shown = refl

  -- the board's reference names number 0
  number_of_board : layout.reference_number (board_reference g) ≡ 0
  number_of_board = omega arith

  -- the facts that say something of the opening state
  marks_above : fact.MarksAboveAreWritten g 1 mark (entry 0) (list_length g)
  marks_above n h a = elim (cases_lt (list_length g) n) [
    | inl c ↦ elim (cases_lt (2 * list_length g) n) [
      | inl d ↦ absurd (omega (arith, o.no_mark n d))
      | inr d ↦
          let j : ℕ = n - list_length g - 1 in
          let within : j < list_length g = omega arith in
          (j, within, o.next_list j within ∙ omega arith)
    ]
    | inr c ↦ absurd (omega (arith, o.current_mark n c))
  ]

  none_raises : count_below (tasks g) (λ s. f.will_raise (idle s)) ≡ 0
  none_raises = count_none (λ s. f.will_raise (idle s)) table.will_raise-idle (tasks g)

  versions : (begun : ℕ → ℕ) → fact.VersionsBounded g version idle begun
  versions begun n h = omega (arith, o.no_version n, count_none (λ s. f.before_object (idle s)) table.before_object-idle (tasks g))

  frame_versions : (begun : ℕ → ℕ) → fact.FrameVersionsBounded g frame_version idle begun
  frame_versions begun s h = omega (arith, o.no_frame_version s, count_none (λ t. f.before_frame (idle t)) table.before_frame-idle (tasks g))

  nobody_inside : fact.AccessorsCounted g accessors idle
  nobody_inside n h = o.no_accessors n ∙ sym (count_none (λ s. f.is_inside (idle s) n) (table.is_inside-idle n) (tasks g))

  nobody_in_frames : fact.FrameAccessorsCounted g frame_accessors idle
  nobody_in_frames s h = rw (table.in_frame-idle s) (o.no_frame_accessors s)

  registers_shown : fact.RegistersShown g names register contents.register idle
  registers_shown s r a c = rw (table.holds_back-idle s r) (elim (cases_eq r 0) [
    | inl e ↦ rw e (o.board_register s a ∙ (sym birth_shown ∙ ap (shown names) (sym (b.board s a))))
    | inr d ↦ o.no_register s r d ∙ (sym null_shown ∙ ap (shown names) (sym (b.no_register s r d)))
  ])

  board_good : IsGood kept names (board_reference g)
  board_good = record {
    some = omega arith;
    is_kept = rw number_of_board board_kept;
    shows = rw number_of_board (sym board_shown);
  }

  registers_good : fact.RegistersGood g kept names register
  registers_good s r a c = elim (cases_eq r 0) [
    | inl e ↦ inr (rw (e, o.board_register s a) board_good)
    | inr d ↦ inl (o.no_register s r d)
  ]

  board_birth : IsKeptBirth kept names 0
  board_birth = record { is_kept = rw (b.number 0) board_kept; bears = rw (b.number 0) b.bearer }

  registers_kept : fact.RegistersKept g kept names contents.register
  registers_kept s r a c = elim (cases_eq r 0) [
    | inl e ↦ inr (0, rw e (b.board s a), board_birth)
    | inr d ↦ inl (b.no_register s r d)
  ]

  links_kept : fact.LinksKept kept names contents.link
  links_kept n birth h e i l = inl (b.no_link birth i)

  links_shown : fact.LinksShown kept names place cell contents.link
  links_shown n birth h e i l = o.no_cell _ ∙ (sym null_shown ∙ ap (shown names) (sym (b.no_link birth i)))

  values_shown : fact.ValuesShown kept names place cell contents.value
  values_shown n birth h e i l = o.no_cell _ ∙ sym (b.no_value birth i)

  board_in_space : InCurrent (spaces_of g 1) (place 0) (size_at names 0)
  board_in_space = record { after = omega (arith, o.board_place); before = omega (arith, o.board_place, board_size) }

  in_one_space : fact.ObjectsInOneSpace (spaces_of g 1) kept place (size_at names)
  in_one_space n h = rw (kept_board n h) (inr board_in_space)

  apart : fact.ObjectsApart kept place (size_at names)
  apart m n a c d = absurd (d (kept_board m a ∙ sym (kept_board n c)))

  no_unclaimed : fact.UnclaimedIsOld (spaces_of g 1) 1 kept place mark (size_at names)
  no_unclaimed n h l = let e = kept_board n h in let m = o.current_mark 0 (omega arith) in absurd (omega (arith, e, m, ap mark e))

  below_used : fact.ObjectsBelowUsed (spaces_of g 1) 0 kept place (size_at names)
  below_used n h i = rw (kept_board n h) (omega (arith, o.board_place, board_size))

  unread_free : fact.UnreadFree g 1 0 accessors place version mark (entry 1)
  unread_free j a h = rw (o.current_list j h) (record {
    within = omega arith;
    no_header = record { no_accessors = o.no_accessors _; no_place = o.no_place _ (omega arith); no_version = o.no_version _ };
    is_marked = o.current_mark _ (omega arith);
  })

  unread_distinct : fact.UnreadDistinct g 0 (entry 1)
  unread_distinct i j a c d e =
      let x = o.current_list i (omega arith) in
      let y = o.current_list j d in
      omega arith

  written_numbers : fact.WrittenNumbers g (list_length g) (entry 0)
  written_numbers j h = rw (o.next_list j h) (omega arith)

  written_distinct : fact.WrittenDistinct (list_length g) (entry 0)
  written_distinct i j a c e =
      let x = o.next_list i (omega arith) in
      let y = o.next_list j c in
      omega arith

  written_marked : fact.WrittenMarked 1 (list_length g) mark (entry 0)
  written_marked j h = rw (o.next_list j h) (o.next_mark _ (omega arith) (omega arith))

  written_empty : fact.WrittenEmpty (list_length g) accessors place version (entry 0)
  written_empty j h = rw (o.next_list j h) (record { no_accessors = o.no_accessors _; no_place = o.no_place _ (omega arith); no_version = o.no_version _ })

  formed : fact.FlightsFormed g idle
  unfolding idle
  formed s h = record { seated = refl; in_row = omega arith; registers = λ e. never e; no_question = refl; entered_null = λ h. refl }

  in_step : fact.NewsInStep g idle
  unfolding idle
  in_step s h = record { not_full = refl; not_raised = refl }

  no_black_frame : fact.BlackFrameHasNoWhite g (white_by 1 place mark) (black_frame_by 1 frame_cycle) register
  no_black_frame s r a c h = never (rw (o.no_frame_cycle s) at h)

  none_grey : (n : ℕ) → n < numbers g → grey_by (spaces_of g 1) 1 place mark n ≡ false
  none_grey n h = elim (cases_eq n 0) [
    | inl e ↦ rw e (let p = o.board_place in grind (arith, nat_tests))
    | inr d ↦ let p = o.no_place n d in grind (arith, nat_tests)
  ]

  board_not_white : white_by 1 place mark 0 ≡ false
  board_not_white = let m = o.current_mark 0 (omega arith) in grind (arith, nat_tests)

  settled : fact.IsSettled g 1 (white_by 1 place mark) (grey_by (spaces_of g 1) 1 place mark) register idle
  settled = record {
    none_grey = none_grey;
    none_late = λ s a h. absurd (both_ways _ (table.has_raised-idle s) h);
    registers = λ s r a c. elim (cases_eq r 0) [
      | inl e ↦ inr (rw (e, o.board_register s a, number_of_board) board_not_white)
      | inr d ↦ inl (o.no_register s r d)
    ];
    entered = λ s a h. absurd (both_ways _ (table.is_flying-idle s) h);
    items = λ s a h. absurd (both_ways _ (table.has_item-idle s) h);
  }

  -- a number in a seat's flight is none of a New's
  no_making : {A : Type 0} (s : ℕ) → f.is_making (idle s) ≡ true → A
  no_making s h = absurd (both_ways _ (table.is_making-idle s) h)

  -- nobody has a claim in hand
  hands : (k : ℕ) → hands_of g idle opening_spot k ≡ f.no_claim
  unfolding hands_of opening_spot l.hand_of_spot l.hand_at_line
  hands k = elim (cases_lt k (tasks g)) [
    | inl h ↦ rw (lt-ltb k (tasks g) h) (table.hand_of_flight-idle g k)
    | inr h ↦ rw (le-ltb k (tasks g) h) refl
  ]

  no_hand : {A : Type 0} (k item c : ℕ) → hands_of g idle opening_spot k ≡ f.to_reserve item c → A
  no_hand k item c e = let h = hands k in absurd (cc)

  no_link_hand : {A : Type 0} (k item c offset : ℕ) → hands_of g idle opening_spot k ≡ f.to_link item c offset → A
  no_link_hand k item c offset e = let h = hands k in absurd (cc)

  no_item : {A : Type 0} (k item : ℕ) → f.item_in (hands_of g idle opening_spot k) ≡ Some item → A
  unfolding f.item_in
  no_item k item e = never_some (sym (ap f.item_in (hands k)) ∙ e)

  -- all of them
  pub opening_facts : FactsOf g start idle (λ s. 0) opening_spot names contents (λ x. None)
  unfolding shades_of opening_spot l.is_marking l.is_resting l.is_sweeping_or_marking l.written l.marked l.emptied l.cleared l.frames_done l.frame_attempt l.register_in_work l.has_reference l.is_at_range l.has_item l.object_attempt l.cell_loaded l.cell_to_write l.passing l.sweeping l.most_spent
  opening_facts = record {
    spot_knows_cycle = refl;
    cycle_fits = omega arith;
    marks_above_are_written = marks_above;
    frames_not_ahead = λ s h. omega (arith, o.no_frame_cycle s);
    objects_have_two_words = omega arith;
    used_stays_bounded = omega (arith, none_raises);
    objects_stay_bounded = omega (arith, none_raises);
    begun_bounded = λ s h. omega arith;
    versions_bounded = versions (λ s. 0);
    frame_versions_bounded = frame_versions (λ s. 0);
    accessors_counted = nobody_inside;
    frame_accessors_counted = nobody_in_frames;
    registers_shown = registers_shown;
    registers_good = registers_good;
    registers_kept = registers_kept;
    entered_good = λ s a h e. absurd (both_ways _ (table.is_flying-idle s) e);
    loaded_good = λ s a e. absurd (both_ways _ (table.has_loaded-idle s) e);
    cell_good = λ e. never e;
    links_kept = links_kept;
    links_shown = links_shown;
    values_shown = values_shown;
    objects_in_one_space = in_one_space;
    objects_apart = apart;
    objects_apart_from_new = λ s n a e h. no_making s e;
    news_apart = λ s t a c d e h. no_making s e;
    unclaimed_is_old = no_unclaimed;
    objects_below_used = below_used;
    moved_stands_in_range = λ e. never_false e;
    free_is_zero = λ i h out. o.no_cell _;
    unreserved_is_zero = λ e. never_false e;
    unused_is_zero = λ e x h out. o.no_cell _;
    cleared_is_zero = λ i h. o.no_cell _;
    ranges_within = λ x n e. never_some e;
    ranges_join = λ x n e. never_some e;
    first_range = λ h. absurd (omega arith);
    ranges_apart = λ x n y e h k. refl;
    nothing_reserved_at_rest = λ e. refl;
    one_range_each = λ x y n e h. never_some e;
    ranges_below_moved = λ x n e. never_some e;
    ranges_above_grey = λ x n e. never_some e;
    ranges_linked = λ x n e. never_some e;
    scan_bounded = λ e. never_false e;
    marks_few = λ e. never e;
    claims_unreserved = λ k item c h e. no_hand k item c e;
    claims_unlinked = λ k item c offset h e. no_link_hand k item c offset e;
    claims_apart = λ j k a c d item other e. no_item j item e;
    grey_waits = λ n below e. absurd (both_ways _ (none_grey n below) e);
    unlinked_waits = λ x n e. never_some e;
    unread_free = unread_free;
    unread_distinct = unread_distinct;
    own_entries = λ s a e. no_making s e;
    own_entries_distinct = λ s t a c d e. no_making s e;
    own_entries_read = λ s j a e. no_making s e;
    number_is_own = λ s a e. absurd (both_ways _ (table.has_number-idle s) e);
    written_numbers = written_numbers;
    written_distinct = written_distinct;
    written_marked = written_marked;
    written_empty = written_empty;
    sweep_in_step = tt;
    swept_marked = λ n m e. never_some e;
    news_found_room = λ s a e. absurd (both_ways _ (table.has_room-idle s) e);
    news_clean = λ s i a e. no_making s e;
    news_recent = λ s a e. absurd (both_ways _ (table.has_raised-idle s) e);
    flights_formed = formed;
    news_in_step = in_step;
    fields_there = λ s a e. absurd (both_ways _ (table.is_flying-idle s) e);
    entered_stays = λ s r a e. absurd (both_ways _ (table.register_stays-idle s) e);
    place_known = λ s a e. absurd (both_ways _ (table.in_object-idle s) e);
    loaded_recent = λ s a e. absurd (both_ways _ (table.has_cycle_inside-idle s) e);
    loaded_stays = λ s r a e. absurd (both_ways _ (table.has_written-idle s) e);
    copied_stays = λ s r a e. absurd (both_ways _ (table.is_flying-idle s) e);
    claims_last = λ s a e. absurd (both_ways _ (table.has_claimed-idle s) e);
    black_leads_to_no_white = λ n birth k h e i child c l. never_some (sym (b.no_link birth i) ∙ l);
    black_frame_has_no_white = no_black_frame;
    late_in_no_black_object = λ s a e. absurd (both_ways _ (table.has_cycle_inside-idle s) e);
    late_in_no_black_frame = λ s a e. absurd (both_ways _ (table.has_cycle_in_frame-idle s) e);
    loaded_white_from_no_black = λ s a e. absurd (both_ways _ (table.has_loaded_inside-idle s) e);
    entered_white_in_no_black_frame = λ s a e. absurd (both_ways _ (table.is_load-idle s) e);
    spot_formed = tt;
    frames_blackened = λ s h. absurd (omega arith);
    frame_attempt_behind = λ s passed e. never_some e;
    registers_passed = λ s passed r e. never_some e;
    register_in_work = λ s r e. never_some e;
    cell_claimed = λ i e. never_some e;
    scan_at_range = λ e. never e;
    item_is_linked = λ e. never e;
    object_attempt_behind = λ passed e. never_some e;
    cells_passed = λ passed i e. never_some e;
    cells_copied = λ passed i e. never_some e;
    cell_loaded = λ i e. never_some e;
    pass_meets_grey = λ n e. never_some e;
    settled_from_sweep = λ e. settled;
    spent_bounded = λ most e. never_some e;
  }
