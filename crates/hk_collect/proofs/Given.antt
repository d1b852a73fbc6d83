-- While a call is inside an object, no step and no event of the collector gives the place of that object to another number.
-- A place is changed by an event on the header of its number alone: where a call enters or leaves the object of that number,
-- where a New writes its header, where the collector moves the object, and where the sweep empties the header.
use Rattle.std.proofs.Common.{◌≡◌, ◌≢◌, ◌⊎◌, ℕ, ◌+◌, ◌-◌, ◌*◌, ◌<◌, ◌≤◌, Bool, true, false, List, length, inl, inr, refl, sym, ◌∙◌, ap, subst, arith, Option, Some, None, get_or-set_other}
use Rattle.std.proofs.lemmas.Bool.{cases_eq, cases_lt, eqb-true}
use Rattle.std.proofs.lemmas.Bool.Decides.{nat_tests}
use Rattle.std.specs.Prelude.{nat_eq, nat_lt, not, ◌&&◌, if◌then◌else◌}
use Rattle.hk_words.specs.declared.call.Call.{Call}
use Rattle.hk_words.specs.declared.call.Call.TheVariants as call
use Rattle.hk_words.specs.declared.geometry.Geometry.{Geometry}
use Rattle.hk_words.specs.declared.shape.Shape.{Shape}
use Rattle.hk_words.specs.Geometry.{tasks, numbers, list_length, space_words, marks_from, frames_from, registers_from, lists_from, spaces_from}
use Rattle.hk_words.specs.Layout as layout
use Rattle.hk_words.specs.Row.{w0_at, w1_at, header_at, mark_at, frame_at, register_at, entry_at, space_at, place_at, word_of}
use Rattle.hk_words.specs.Row.Slot.{Header}
use Rattle.hk_model.specs.History.{History}
use Rattle.hk_model.specs.View.{upd}
use Rattle.hk_model.proofs.Updates.{upd_same}
use Rattle.hk_core.specs.declared.event.Event.{Event}
use Rattle.hk_core.specs.declared.event.Event.TheVariants as event
use Rattle.hk_core.specs.declared.flight.Flight.{Flight}
use Rattle.hk_core.specs.declared.spot.Line.{Line}
use Rattle.hk_core.specs.declared.spot.Line.TheVariants as line
use Rattle.hk_core.specs.declared.spot.Stage.{Stage}
use Rattle.hk_core.specs.declared.spot.Stage.TheVariants as stage
use Rattle.hk_core.specs.Event as fires
use Rattle.hk_core.specs.Event.{fired, fired_if, old_of}
use Rattle.hk_core.specs.State.{State}
use Rattle.hk_core.specs.Step as table
use Rattle.hk_core.specs.Step.{reference_size, event_of, took_of, found_by, event_by, next, history_after}
use Rattle.hk_core.specs.Collect as collector
use Rattle.hk_core.specs.Collect.{last_cycle, moved_number, moved_to, event_at_line, spot_event, event_by_collector, next_collected}
use Rattle.hk_core.specs.View.{Words, raw, word_if, decoded, words_of, names_of, contents_of, flight_at, begun_at}
use Rattle.hk_core.specs.Flights as f
use Rattle.hk_core.specs.Lines as l
use Rattle.hk_core.specs.Colours.{spaces_of, shades_of, Apart}
use Rattle.hk_core.specs.Inside.{kept_in, size_in, StandsApart}
use Rattle.hk_core.specs.Lawful.{Lawful, hands_of}
use Rattle.hk_core.proofs.Apart.{stands_apart}
use Rattle.hk_core.proofs.Columns.{fired_if_some, fired_kept, words_some, old_at}
use Rattle.hk_core.proofs.Inside.{shapes_fit}
use Rattle.hk_core.proofs.Places.{flight_stepped, others_kept}
use Rattle.hk_core.proofs.Seven.{seat_steps}
use Rattle.hk_core.proofs.Shared.{size_some}
use Rattle.hk_core.proofs.kinds.Enter.{object_of}
use Rattle.hk_core.proofs.kinds.Seats.{kept_means}
use Rattle.hk_core.proofs.kinds.WriteCell.{shades_mean}
use Rattle.hk_collect.proofs.spots.SpotCopy.{in_no_object}
use Rattle.hk_collect.proofs.spots.SpotMove.{moved_words}
use Rattle.hk_collect.proofs.spots.SpotSweepEmpty.{emptied_words}
use Rattle.hk_collect.proofs.spots.SpotSweepRow.{words-empty_header}
use Rattle.hk_collect.proofs.spots.SpotWords.{words-move}
use Rattle.hk_collect.proofs.Fitting.{in_space, formed, marks_at, here_object_trade, item_names, item_range}
use Rattle.hk_collect.proofs.Collected.{inside_kept}
use Rattle.hk_collect.proofs.EachLine.{place_small, words-lost}
use Rattle.hk_collect.proofs.Small.{by_test}

-- WHAT AN EVENT LEAVES

-- a call leaves the object of a number, or enters it
record Leaves (x : Flight) (m : ℕ) : Type 0 where
  inside : f.in_object x ≡ true
  its : object_of x ≡ m

record Enters (x y : Flight) (m : ℕ) : Type 0 where
  outside : f.in_object x ≡ false
  inside : f.in_object y ≡ true
  its : object_of y ≡ m

-- a New gives its number a header
record Heads (x y : Flight) (m : ℕ) : Type 0 where
  outside : f.in_object x ≡ false
  headed : f.has_header y ≡ true
  its : y.number ≡ m

-- so many more words come later in the row
later : (a b c : ℕ) → a ≤ b → a ≤ b + c
later a b c e = omega arith

module _ (g : Geometry) (row : List ℕ) (m : ℕ) where
  -- an event leaves the place of the number
  Aside : Option Event → Type 0
  Aside e = (words_of g (fired_if row e)).place m ≡ (words_of g row).place m

  -- an event at another index does
  beside : (e : Event) → header_at g m ≢ fires.word_of e → Aside (Some e)
  unfolding Aside words_of decoded raw word_if fired_if fired
  beside e differ =
      ap (λ (word : ℕ). layout.header_place (if nat_lt m (numbers g) then word else 0))
      (get_or-set_other row (fires.word_of e) (header_at g m) (fires.word_after e (old_of row e)) 0 differ)

  none_aside : Aside None
  unfolding Aside fired_if
  none_aside = refl

  if_aside : (test : Bool) (a b : Option Event) → Aside a → Aside b → Aside (if test then a else b)
  if_aside true a b x y = x
  if_aside false a b x y = y

  -- an event on the header of another number does
  header_beside : (e : Event) (k : ℕ) → fires.word_of e ≡ header_at g k → m ≢ k → Aside (Some e)
  header_beside e k at differ = beside e (λ same. differ (let one : m ≡ k = omega arith in one))

  module _ (within : m < numbers g) where
    beyond : (e : Event) (base k : ℕ) → fires.word_of e ≡ base + k → 2 + numbers g ≤ base → Aside (Some e)
    beyond e base k at after = beside e (λ same. omega arith)

    from_registers : 2 + numbers g ≤ registers_from g
    from_registers = omega arith

    from_lists : 2 + numbers g ≤ lists_from g
    from_lists = later (2 + numbers g) (registers_from g) (g.registers * tasks g) from_registers

    from_spaces : 2 + numbers g ≤ spaces_from g
    from_spaces = later (2 + numbers g) (lists_from g) (2 * list_length g) from_lists

    on_w0 : (e : Event) → fires.word_of e ≡ 0 → Aside (Some e)
    on_w0 e at = beside e (λ same. omega arith)

    on_w1 : (e : Event) → fires.word_of e ≡ 1 → Aside (Some e)
    on_w1 e at = beside e (λ same. omega arith)

    on_mark : (e : Event) (k : ℕ) → fires.word_of e ≡ mark_at g k → Aside (Some e)
    on_mark e k at = beyond e (marks_from g) k at (omega arith)

    on_frame : (e : Event) (k : ℕ) → fires.word_of e ≡ frame_at g k → Aside (Some e)
    on_frame e k at = beyond e (frames_from g) k at (omega arith)

    on_register : (e : Event) (s r : ℕ) → fires.word_of e ≡ register_at g s r → Aside (Some e)
    on_register e s r at = beyond e (registers_from g) (s * g.registers + r) at from_registers

    on_entry : (e : Event) (side k : ℕ) → fires.word_of e ≡ entry_at g side k → Aside (Some e)
    on_entry e side k at = beyond e (lists_from g) (side * list_length g + k) at from_lists

    on_space : (e : Event) (p : ℕ) → fires.word_of e ≡ space_at g p → Aside (Some e)
    on_space e p at = beyond e (spaces_from g) (p - 1) at from_spaces

-- STEPS

-- what a step from one flight to another does to the place of the number
abbrev Treats : Geometry → List ℕ → ℕ → Flight → Flight → Option Event → Type 0
Treats g row m x y e = Aside g row m e ⊎ (Leaves x m ⊎ (Enters x y m ⊎ Heads x y m))

module _ (g : Geometry) (row : List ℕ) (m : ℕ) (within : m < numbers g) (x : Flight) where
  read_aside : (p : ℕ) → Aside g row m (table.read_cell g p)
  unfolding table.read_cell
  read_aside p = on_space g row m within (event.Load (space_at g p)) p refl

  write_aside : (p v : ℕ) → Aside g row m (table.write_cell g p v)
  unfolding table.write_cell
  write_aside p v = on_space g row m within (event.Write (space_at g p) v) p refl

  enter_frame_aside : Aside g row m (table.enter_frame g x)
  unfolding table.enter_frame
  enter_frame_aside = on_frame g row m within (event.Add (frame_at g x.seat) layout.entering) x.seat refl

  leave_frame_aside : Aside g row m (table.leave_frame g x)
  unfolding table.leave_frame
  leave_frame_aside = on_frame g row m within (event.Sub (frame_at g x.seat) layout.leaving) x.seat refl

  load_aside : Aside g row m (table.load_w0 g)
  unfolding table.load_w0
  load_aside = on_w0 g row m within (event.Load (w0_at g)) refl

  claim_aside : Aside g row m (table.claim g x)
  unfolding table.claim
  claim_aside = if_aside g row m (nat_eq x.item 0) None _ (none_aside g row m)
      (on_mark g row m within (event.Max (mark_at g (layout.reference_number x.item)) (layout.w0_cycle x.word)) (layout.reference_number x.item) refl)

  reserve_aside : Aside g row m (table.reserve g x)
  unfolding table.reserve
  reserve_aside = if_aside g row m x.claimer _ None (on_w1 g row m within (event.Add (w1_at g) (reference_size x.item)) refl) (none_aside g row m)

  link_aside : Aside g row m (table.link g x)
  unfolding table.link
  link_aside = if_aside g row m (x.claimer && table.reserved_fits g x.offset x.item) _ None
      (on_space g row m within (event.Write (space_at g (place_at g (table.side_of x) x.offset)) x.item) (place_at g (table.side_of x) x.offset) refl) (none_aside g row m)

  register_aside : (reg word : ℕ) → Aside g row m (table.write_register g x reg word)
  unfolding table.write_register
  register_aside reg word = on_register g row m within (event.Write (register_at g x.seat reg) word) x.seat reg refl

  raise_aside : (shape : Shape) → Aside g row m (table.raise g shape)
  unfolding table.raise
  raise_aside shape = on_w0 g row m within (event.Add (w0_at g) _) refl

  entry_aside : Aside g row m (table.load_entry g x)
  unfolding table.load_entry
  entry_aside = on_entry g row m within (event.Load (entry_at g (table.side_of x) (layout.w0_objects x.word))) (table.side_of x) (layout.w0_objects x.word) refl

  -- a call enters its object, leaves it, and gives it a header
  enters : (y : Flight) → f.in_object x ≡ false → f.in_object y ≡ true → y.entered ≡ x.entered → Treats g row m x y (table.enter_object g x)
  unfolding table.enter_object
  enters y outside inside same = elim (cases_eq m (object_of x)) [
    | inl e ↦ inr (inr (inl (record { outside = outside; inside = inside; its = ap layout.reference_number same ∙ sym e })))
    | inr d ↦ inl (header_beside g row m (event.Add (header_at g (object_of x)) layout.entering) (object_of x) refl d)
  ]

  leaves : (y : Flight) → f.in_object x ≡ true → Treats g row m x y (table.leave_object g x)
  unfolding table.leave_object
  leaves y inside = elim (cases_eq m (object_of x)) [
    | inl e ↦ inr (inl (record { inside = inside; its = sym e }))
    | inr d ↦ inl (header_beside g row m (event.Sub (header_at g (object_of x)) layout.leaving) (object_of x) refl d)
  ]

  heads : (y : Flight) → f.in_object x ≡ false → f.has_header y ≡ true → y.number ≡ x.number → Treats g row m x y (table.write_header g x)
  unfolding table.write_header
  heads y outside headed same = elim (cases_eq m x.number) [
    | inl e ↦ inr (inr (inr (record { outside = outside; headed = headed; its = same ∙ sym e })))
    | inr d ↦ inl (header_beside g row m (event.Write (header_at g x.number) _) x.number refl d)
  ]

  module _ (old : ℕ) where
    get_treats : (reg field : ℕ) → x.call ≡ call.Get reg field → Treats g row m x (table.get_took x old) (table.get_event g x field)
    unfolding table.get_event table.get_took f.in_object f.in_object_at
    get_treats reg field is =
        by_test (Treats g row m x (table.get_took x old)) (nat_eq x.place 1) _ _
        (λ e. let at = eqb-true x.place 1 e in enters (table.get_took x old) (rw (at, is) refl) (rw (at, is) refl) (rw at refl)) (λ n1.
        by_test (Treats g row m x (table.get_took x old)) (nat_eq x.place 2) _ _ (λ e. inl (read_aside _)) (λ n2.
        by_test (Treats g row m x (table.get_took x old)) (nat_eq x.place 3) _ _
        (λ e. let at = eqb-true x.place 3 e in leaves (table.get_took x old) (rw (at, is) refl)) (λ n3. inl (none_aside g row m))))

    put_treats : (reg field value : ℕ) → x.call ≡ call.Put reg field value → Treats g row m x (table.put_took x old) (table.put_event g x field value)
    unfolding table.put_event table.put_took f.in_object f.in_object_at
    put_treats reg field value is =
        by_test (Treats g row m x (table.put_took x old)) (nat_eq x.place 1) _ _
        (λ e. let at = eqb-true x.place 1 e in enters (table.put_took x old) (rw (at, is) refl) (rw (at, is) refl) (rw at refl)) (λ n1.
        by_test (Treats g row m x (table.put_took x old)) (nat_eq x.place 2) _ _ (λ e. inl (write_aside _ _)) (λ n2.
        by_test (Treats g row m x (table.put_took x old)) (nat_eq x.place 3) _ _
        (λ e. let at = eqb-true x.place 3 e in leaves (table.put_took x old) (rw (at, is) refl)) (λ n3. inl (none_aside g row m))))

    move_aside : (dest : ℕ) → Aside g row m (table.move_event g x dest)
    unfolding table.move_event
    move_aside dest =
        if_aside g row m (nat_eq x.place 1) _ _ enter_frame_aside (
        if_aside g row m (nat_eq x.place 2) _ _ (register_aside _ _) (
        if_aside g row m (nat_eq x.place 3) _ _ leave_frame_aside (none_aside g row m)))

    clear_aside : (dest : ℕ) → Aside g row m (table.clear_event g x dest)
    unfolding table.clear_event
    clear_aside dest = if_aside g row m (nat_eq x.place 1) _ _ (register_aside _ _) (none_aside g row m)

    load_treats : (dest reg field : ℕ) → x.call ≡ call.Load dest reg field → Treats g row m x (table.load_took x old) (table.load_event g x dest field)
    unfolding table.load_event table.load_took f.in_object f.in_object_at
    load_treats dest reg field is =
        by_test (Treats g row m x (table.load_took x old)) (nat_eq x.place 1) _ _ (λ e. inl enter_frame_aside) (λ n1.
        by_test (Treats g row m x (table.load_took x old)) (nat_eq x.place 2) _ _
        (λ e. let at = eqb-true x.place 2 e in enters (table.load_took x old) (rw (at, is) refl) (rw (at, is) refl) (rw at refl)) (λ n2.
        by_test (Treats g row m x (table.load_took x old)) (nat_eq x.place 3) _ _ (λ e. inl load_aside) (λ n3.
        by_test (Treats g row m x (table.load_took x old)) (nat_eq x.place 4) _ _ (λ e. inl (read_aside _)) (λ n4.
        by_test (Treats g row m x (table.load_took x old)) (nat_eq x.place 5) _ _ (λ e. inl claim_aside) (λ n5.
        by_test (Treats g row m x (table.load_took x old)) (nat_eq x.place 6) _ _ (λ e. inl reserve_aside) (λ n6.
        by_test (Treats g row m x (table.load_took x old)) (nat_eq x.place 7) _ _ (λ e. inl link_aside) (λ n7.
        by_test (Treats g row m x (table.load_took x old)) (nat_eq x.place 8) _ _ (λ e. inl (register_aside _ _)) (λ n8.
        by_test (Treats g row m x (table.load_took x old)) (nat_eq x.place 9) _ _
        (λ e. let at = eqb-true x.place 9 e in leaves (table.load_took x old) (rw (at, is) refl)) (λ n9.
        by_test (Treats g row m x (table.load_took x old)) (nat_eq x.place 10) _ _ (λ e. inl leave_frame_aside) (λ n10. inl (none_aside g row m)))))))))))

    store_treats : (reg field from : ℕ) → x.call ≡ call.Store reg field from → Treats g row m x (table.store_took x old) (table.store_event g x field)
    unfolding table.store_event table.store_took f.in_object f.in_object_at
    store_treats reg field from is =
        by_test (Treats g row m x (table.store_took x old)) (nat_eq x.place 1) _ _
        (λ e. let at = eqb-true x.place 1 e in enters (table.store_took x old) (rw (at, is) refl) (rw (at, is) refl) (rw at refl)) (λ n1.
        by_test (Treats g row m x (table.store_took x old)) (nat_eq x.place 2) _ _
        (λ e. inl (if_aside g row m (nat_eq x.item 0) _ _ (none_aside g row m) load_aside)) (λ n2.
        by_test (Treats g row m x (table.store_took x old)) (nat_eq x.place 3) _ _ (λ e. inl claim_aside) (λ n3.
        by_test (Treats g row m x (table.store_took x old)) (nat_eq x.place 4) _ _ (λ e. inl reserve_aside) (λ n4.
        by_test (Treats g row m x (table.store_took x old)) (nat_eq x.place 5) _ _ (λ e. inl link_aside) (λ n5.
        by_test (Treats g row m x (table.store_took x old)) (nat_eq x.place 6) _ _ (λ e. inl (write_aside _ _)) (λ n6.
        by_test (Treats g row m x (table.store_took x old)) (nat_eq x.place 7) _ _
        (λ e. let at = eqb-true x.place 7 e in leaves (table.store_took x old) (rw (at, is) refl)) (λ n7. inl (none_aside g row m))))))))

    new_treats : (dest : ℕ) (shape : Shape) → x.call ≡ call.New dest shape → Treats g row m x (table.new_took g x shape old) (table.new_event g x dest shape)
    unfolding table.new_event table.new_took f.in_object f.in_object_at f.has_header f.is_new_at
    new_treats dest shape is =
        by_test (Treats g row m x (table.new_took g x shape old)) (nat_eq x.place 1) _ _ (λ e. inl load_aside) (λ n1.
        by_test (Treats g row m x (table.new_took g x shape old)) (nat_eq x.place 2) _ _
        (λ e. inl (if_aside g row m x.full _ _ (none_aside g row m) enter_frame_aside)) (λ n2.
        by_test (Treats g row m x (table.new_took g x shape old)) (nat_eq x.place 3) _ _
        (λ e. inl (if_aside g row m x.full _ _ (none_aside g row m) (raise_aside shape))) (λ n3.
        by_test (Treats g row m x (table.new_took g x shape old)) (nat_eq x.place 4) _ _
        (λ e. inl (if_aside g row m x.full _ _ (none_aside g row m) entry_aside)) (λ n4.
        by_test (Treats g row m x (table.new_took g x shape old)) (nat_eq x.place 5) _ _
        (λ e. let at = eqb-true x.place 5 e in
        by_test (Treats g row m x (table.new_took g x shape old)) x.full _ _ (λ full. inl (none_aside g row m))
        (λ room. heads (table.new_took g x shape old) (rw is refl) (rw (at, is, room) refl) (rw at refl))) (λ n5.
        by_test (Treats g row m x (table.new_took g x shape old)) (nat_eq x.place 6) _ _
        (λ e. inl (if_aside g row m x.full _ _ (none_aside g row m) (register_aside _ _))) (λ n6.
        by_test (Treats g row m x (table.new_took g x shape old)) (nat_eq x.place 7) _ _
        (λ e. inl (if_aside g row m (x.full && not x.raised) _ _ (none_aside g row m) leave_frame_aside)) (λ n7. inl (none_aside g row m))))))))

    -- whatever its call
    treats : Treats g row m x (took_of g x old) (event_of g x)
    unfolding event_of took_of table.event_at table.took_at
    treats = each x.call refl
      where
        each : (k : Call) → x.call ≡ k → Treats g row m x (table.took_at g x old k) (table.event_at g x k)
        each (call.Get reg field) is = get_treats reg field is
        each (call.Put reg field value) is = put_treats reg field value is
        each (call.Load dest reg field) is = load_treats dest reg field is
        each (call.Store reg field from) is = store_treats reg field from is
        each (call.Move dest from) is = inl (move_aside dest)
        each (call.Clear dest) is = inl (clear_aside dest)
        each (call.New dest shape) is = new_treats dest shape is
        each (call.Same a b) is = inl (none_aside g row m)
        each (call.IsNull reg) is = inl (none_aside g row m)

-- THE OBJECT THAT A CALL IS INSIDE

-- objects that are apart have other places
other_place : (a i b j : ℕ) → 0 < i → 0 < j → Apart a i b j → a ≢ b
other_place a i b j some some' (inl before) same = absurd (omega arith)
other_place a i b j some some' (inr after) same = absurd (omega arith)

-- a number that isn't one of the geometry has no place, whatever the row
no_place : (g : Geometry) (row row' : List ℕ) (m : ℕ) → numbers g ≤ m → (words_of g row').place m ≡ (words_of g row).place m
unfolding words_of decoded raw word_if
no_place g row row' m over = rw (beyond m (numbers g) over) refl
  where
    beyond : (a b : ℕ) → b ≤ a → nat_lt a b ≡ false
    beyond a b e = grind (arith, nat_tests)

module _ (c : State) (history : History) (h : Lawful c history) (inside : ℕ) (below : inside < tasks c.geometry) (is_inside : f.in_object (flight_at c inside) ≡ true) where
  -- an action that leads to other words gives the place of the object to no other number
  abbrev pub GivesToNone : List ℕ → Type 0
  GivesToNone row = (m : ℕ) → m ≢ object_of (flight_at c inside) → (words_of c.geometry row).place m ≡ (words_of c.geometry c.row).place (object_of (flight_at c inside))
      → (words_of c.geometry c.row).place m ≡ (words_of c.geometry c.row).place (object_of (flight_at c inside))

  -- A STEP

  module _ (s : ℕ) (s_below : s < tasks c.geometry) (some : 1 ≤ (flight_at c s).place) where
    there : s < length c.flights
    there = let flights = h.sized.flights in omega arith

    -- the step of a call that is outside its object is another seat's
    another : f.in_object (flight_at c s) ≡ false → inside ≢ s
    another outside same = let a : f.in_object (flight_at c inside) ≡ false = ap (λ (t : ℕ). f.in_object (flight_at c t)) same ∙ outside in absurd (cc)

    its_flight : inside ≢ s → flight_at (next c s) inside ≡ flight_at c inside
    unfolding flight_at
    its_flight differs = others_kept c s there inside differs

    own_flight : flight_at (next c s) s ≡ took_of c.geometry (flight_at c s) (found_by c s)
    unfolding flight_at
    own_flight = flight_stepped c s there

    stands : inside ≢ s → StandsApart (next c s) (history_after c s history) (object_of (flight_at c inside))
    unfolding next
    stands differs =
        let same = its_flight differs in
        let lawful = (seat_steps c history s s_below h some).lawful in
        subst (λ (n : ℕ). StandsApart (next c s) (history_after c s history) n) (ap object_of same)
        (stands_apart (next c s) (history_after c s history) lawful inside below (ap f.in_object same ∙ is_inside))

    -- its place is the one that it had
    stays : (words_of c.geometry (next c s).row).place (object_of (flight_at c inside)) ≡ (words_of c.geometry c.row).place (object_of (flight_at c inside))
    stays = ((seat_steps c history s s_below h some).alone inside below is_inside).place

    -- a number whose object a call has entered, or that has been given a header, has another place
    entered_elsewhere : (m : ℕ) → m ≢ object_of (flight_at c inside) → Enters (flight_at c s) (took_of c.geometry (flight_at c s) (found_by c s)) m
        → (words_of c.geometry (next c s).row).place m ≢ (words_of c.geometry (next c s).row).place (object_of (flight_at c inside))
    unfolding next
    entered_elsewhere m differs e =
        let after = history_after c s history in
        let lawful = (seat_steps c history s s_below h some).lawful in
        let its : object_of (flight_at (next c s) s) ≡ m = ap object_of own_flight ∙ e.its in
        let kept : kept_in (next c s) after m ≡ true = ap (kept_in (next c s) after) (sym its) ∙ inside_kept (next c s) after lawful s s_below (ap f.in_object own_flight ∙ e.inside) in
        let names = names_of c.geometry after in
        other_place _ (size_in (next c s) after m) _ (size_in (next c s) after (object_of (flight_at c inside))) (size_some names m) (size_some names (object_of (flight_at c inside)))
        ((stands (another e.outside)).apart m kept differs)

    headed_elsewhere : (m : ℕ) → Heads (flight_at c s) (took_of c.geometry (flight_at c s) (found_by c s)) m
        → (words_of c.geometry (next c s).row).place m ≢ (words_of c.geometry (next c s).row).place (object_of (flight_at c inside))
    unfolding next
    headed_elsewhere m e same =
        let its : (flight_at (next c s) s).number ≡ m = ap (λ (y : Flight). y.number) own_flight ∙ e.its in
        (stands (another e.outside)).headers s s_below (ap f.has_header own_flight ∙ e.headed) (ap (words_of c.geometry (next c s).row).place its ∙ same)

    -- an event of a seat that leaves the place
    stepped : (m : ℕ) → Aside c.geometry c.row m (event_of c.geometry (flight_at c s)) → (words_of c.geometry (next c s).row).place m ≡ (words_of c.geometry c.row).place m
    unfolding Aside next event_by flight_at
    stepped m aside = aside

    pub step_gives_to_none : GivesToNone (next c s).row
    step_gives_to_none m differs given = elim (cases_lt m (numbers c.geometry)) [
      | inl within ↦ by_treatment (treats c.geometry c.row m within (flight_at c s) (found_by c s))
      | inr over ↦ sym (no_place c.geometry c.row (next c s).row m over) ∙ given
    ]
      where
        by_treatment : Treats c.geometry c.row m (flight_at c s) (took_of c.geometry (flight_at c s) (found_by c s)) (event_of c.geometry (flight_at c s))
            → (words_of c.geometry c.row).place m ≡ (words_of c.geometry c.row).place (object_of (flight_at c inside))
        by_treatment (inl aside) = sym (stepped m aside) ∙ given
        by_treatment (inr (inl leaves)) = sym (ap (words_of c.geometry (next c s).row).place (sym leaves.its) ∙ ((seat_steps c history s s_below h some).alone s s_below leaves.inside).place ∙ ap (words_of c.geometry c.row).place leaves.its) ∙ given
        by_treatment (inr (inr (inl enters))) = absurd (entered_elsewhere m differs enters (given ∙ sym stays))
        by_treatment (inr (inr (inr heads))) = absurd (headed_elsewhere m heads (given ∙ sym stays))

  -- AN EVENT OF THE COLLECTOR

  -- its place is one
  is_placed : (words_of c.geometry c.row).place (object_of (flight_at c inside)) ≢ 0
  is_placed = (kept_means c.geometry (words_of c.geometry c.row) (flight_at c) c.spot.line (names_of c.geometry history) (object_of (flight_at c inside)) (inside_kept c history h inside below is_inside)).placed

  -- an object is moved to a place that no kept object has
  moved_elsewhere : c.spot.line ≡ line.ObjectTrade → (words_of c.geometry c.row).place (object_of (flight_at c inside)) ≢ moved_to c.geometry c.spot
  unfolding l.is_marking shades_of
  moved_elsewhere at same =
      let g = c.geometry in
      let w = words_of g c.row in
      let names = names_of g history in
      let n = object_of (flight_at c inside) in
      let sh = shades_of g w (flight_at c) c.spot.line names in
      let o = here_object_trade c history h at in
      let marks = marks_at c history h line.ObjectTrade at refl in
      let m = shades_mean g w (flight_at c) c.spot.line names in
      let kept : kept_in c history n ≡ true = inside_kept c history h inside below is_inside in
      let knows : c.spot.cycle ≡ w.cycle = h.facts.spot_knows_cycle in
      let range : c.spot.scan + reference_size c.spot.item ≤ g.live = item_range c history h o.in_object.at_item marks in
      let there : (spaces_of g c.spot.cycle).current + c.spot.scan ≡ moved_to g c.spot = omega arith in
      let here : (spaces_of g w.cycle).current + c.spot.scan ≡ moved_to g c.spot = ap (λ (k : ℕ). (spaces_of g k).current + c.spot.scan) (sym knows) ∙ there in
      let size : sh.size n ≡ size_in c history n = m.size n in
      let words : 0 < size_in c history n = size_some names n in
      let first : w.place n + 0 ≡ moved_to g c.spot = omega arith in
      in_no_object g w (spaces_of g w.cycle) sh (flight_at c) (begun_at c) (hands_of g (flight_at c) c.spot) c.spot names (contents_of g history) h.range h.facts
      m (shapes_fit g history) marks o.in_object.at_item n 0 c.spot.scan kept (omega arith) (omega arith) (omega arith) (first ∙ sym here)

  module _ (m : ℕ) (within : m < numbers c.geometry)
      (given : (words_of c.geometry (fired_if c.row (spot_event c.geometry c.spot))).place m ≡ (words_of c.geometry c.row).place (object_of (flight_at c inside))) where
    Had : Type 0
    Had = (words_of c.geometry c.row).place m ≡ (words_of c.geometry c.row).place (object_of (flight_at c inside))

    -- the words after the event of a line
    at_line : (ln : Line) → c.spot.line ≡ ln → (words_of c.geometry (fired_if c.row (event_at_line c.geometry c.spot ln))).place m ≡ (words_of c.geometry c.row).place (object_of (flight_at c inside))
    unfolding spot_event
    at_line ln at = ap (λ (k : Line). (words_of c.geometry (fired_if c.row (event_at_line c.geometry c.spot k))).place m) (sym at) ∙ given

    -- a line whose event leaves the place
    line_aside : (ln : Line) → c.spot.line ≡ ln → Aside c.geometry c.row m (event_at_line c.geometry c.spot ln) → Had
    unfolding Had Aside
    line_aside ln at aside = sym aside ∙ at_line ln at

    loads : (word : ℕ) → Aside c.geometry c.row m (Some (event.Load word))
    unfolding Aside
    loads word = ap (λ (row : List ℕ). (words_of c.geometry row).place m) (fired_if_some c.row (event.Load word) ∙ fired_kept c.row (event.Load word) refl)

    claims : Aside c.geometry c.row m (collector.claim_cell c.geometry c.spot)
    unfolding collector.claim_cell
    claims = on_mark c.geometry c.row m within (event.Max (mark_at c.geometry (layout.reference_number c.spot.cell)) c.spot.cycle) (layout.reference_number c.spot.cell) refl

    reserves : Aside c.geometry c.row m (collector.reserve_cell c.geometry c.spot)
    unfolding collector.reserve_cell
    reserves = on_w1 c.geometry c.row m within (event.Add (w1_at c.geometry) (reference_size c.spot.cell)) refl

    writes : (p v : ℕ) → Aside c.geometry c.row m (Some (event.Write (space_at c.geometry p) v))
    writes p v = on_space c.geometry c.row m within (event.Write (space_at c.geometry p) v) p refl

    links : Aside c.geometry c.row m (collector.link_cell c.geometry c.spot)
    unfolding collector.link_cell
    links = writes _ _

    register_line_aside : (s r : ℕ) (stage : Stage) → Aside c.geometry c.row m (collector.register_event c.geometry c.spot s r stage)
    unfolding collector.register_event
    register_line_aside s r stage.Read = loads _
    register_line_aside s r stage.Claim = claims
    register_line_aside s r stage.Reserve = reserves
    register_line_aside s r stage.Tie = links
    register_line_aside s r stage.Write = none_aside c.geometry c.row m
    register_line_aside s r stage.Mark = none_aside c.geometry c.row m
    register_line_aside s r stage.Empty = none_aside c.geometry c.row m

    cell_line_aside : (i : ℕ) (stage : Stage) → Aside c.geometry c.row m (collector.cell_event c.geometry c.spot i stage)
    unfolding collector.cell_event
    cell_line_aside i stage.Read = loads _
    cell_line_aside i stage.Claim = claims
    cell_line_aside i stage.Reserve = reserves
    cell_line_aside i stage.Tie = links
    cell_line_aside i stage.Write = writes _ _
    cell_line_aside i stage.Mark = none_aside c.geometry c.row m
    cell_line_aside i stage.Empty = none_aside c.geometry c.row m

    rest_aside : Aside c.geometry c.row m (collector.rest_event c.geometry c.spot)
    unfolding collector.rest_event
    rest_aside = if_aside c.geometry c.row m (nat_eq c.spot.cycle last_cycle) None _ (none_aside c.geometry c.row m)
        (on_w0 c.geometry c.row m within (event.Swap (w0_at c.geometry) (layout.pack_w0 0 0 (c.spot.cycle + 1))) refl)

    -- the exchange of a header that is still the loaded one
    trade_traded : c.spot.line ≡ line.ObjectTrade → m ≡ moved_number c.spot → word_of c.geometry c.row (Header (moved_number c.spot)) ≡ c.spot.first → Had
    unfolding event_at_line collector.object_trade_event l.is_marking
    trade_traded at its same =
        let g = c.geometry in
        let k = moved_number c.spot in
        let p = moved_to g c.spot in
        let o = here_object_trade c history h at in
        let marks = marks_at c history h line.ObjectTrade at refl in
        let fits : k < numbers g = (item_names c history h marks o.in_object.at_item).within in
        let range : c.spot.scan + reference_size c.spot.item ≤ g.live = item_range c history h o.in_object.at_item marks in
        let lies = in_space g (collector.current_space c.spot.cycle) c.spot.scan (omega arith) (omega arith) in
        let ends : p ≤ 2 * space_words g = lies.within in
        let e = event.Trade (header_at g k) c.spot.first (layout.header_moved c.spot.first p) in
        let words : words_of g (fired_if c.row (Some e)) ≡ moved_words (words_of g c.row) k p =
        words_some g c.row e (moved_words (words_of g c.row) k p) (words-move g c.row h.sized.row k c.spot.first p fits (place_small g p ends) same) in
        let moved : (words_of g (fired_if c.row (Some e))).place m ≡ p =
        ap (λ (w : Words). w.place m) words ∙ ap (upd (words_of g c.row).place k p) its ∙ upd_same (words_of g c.row).place k p in
        absurd (moved_elsewhere at (sym (at_line line.ObjectTrade at) ∙ moved))

    trade_lost : c.spot.line ≡ line.ObjectTrade → word_of c.geometry c.row (Header (moved_number c.spot)) ≢ c.spot.first → Had
    unfolding event_at_line collector.object_trade_event Aside
    trade_lost at differs =
        let g = c.geometry in
        let new = layout.header_moved c.spot.first (moved_to g c.spot) in
        let e = event.Trade (header_at g (moved_number c.spot)) c.spot.first new in
        line_aside line.ObjectTrade at
        (ap (λ (w : Words). w.place m) (words_some g c.row e (words_of g c.row)
        (words-lost c (header_at g (moved_number c.spot)) c.spot.first new (λ same. differs (sym (old_at g c.row e (Header (moved_number c.spot)) refl) ∙ same)))))

    trade_had : c.spot.line ≡ line.ObjectTrade → Had
    unfolding event_at_line collector.object_trade_event
    trade_had at = elim (cases_eq m (moved_number c.spot)) [
      | inl its ↦ elim (cases_eq (word_of c.geometry c.row (Header (moved_number c.spot))) c.spot.first) [
        | inl same ↦ trade_traded at its same
        | inr differs ↦ trade_lost at differs
      ]
      | inr other ↦ line_aside line.ObjectTrade at
          (header_beside c.geometry c.row m (event.Trade (header_at c.geometry (moved_number c.spot)) c.spot.first (layout.header_moved c.spot.first (moved_to c.geometry c.spot)))
          (moved_number c.spot) refl other)
    ]

    -- a header that the sweep empties says no place
    empty_had : (n : ℕ) → c.spot.line ≡ line.Sweep n stage.Empty → Had
    unfolding event_at_line collector.sweep_event
    empty_had n at = elim (cases_eq m n) [
      | inl its ↦
          let g = c.geometry in
          let e = event.Write (header_at g n) 0 in
          let words : words_of g (fired_if c.row (Some e)) ≡ emptied_words (words_of g c.row) n =
          words_some g c.row e (emptied_words (words_of g c.row) n) (words-empty_header g c.row h.sized.row n (formed c history h (line.Sweep n stage.Empty) at).0) in
          let none : (words_of g (fired_if c.row (Some e))).place m ≡ 0 =
          ap (λ (w : Words). w.place m) words ∙ ap (upd (words_of g c.row).place n 0) its ∙ upd_same (words_of g c.row).place n 0 in
          absurd (is_placed (sym (at_line (line.Sweep n stage.Empty) at) ∙ none))
      | inr other ↦ line_aside (line.Sweep n stage.Empty) at (header_beside c.geometry c.row m (event.Write (header_at c.geometry n) 0) n refl other)
    ]

    sweep_had : (n : ℕ) (stage : Stage) → c.spot.line ≡ line.Sweep n stage → Had
    unfolding event_at_line collector.sweep_event
    sweep_had n stage.Read at = line_aside (line.Sweep n stage.Read) at (loads _)
    sweep_had n stage.Claim at = line_aside (line.Sweep n stage.Claim) at (none_aside c.geometry c.row m)
    sweep_had n stage.Reserve at = line_aside (line.Sweep n stage.Reserve) at (none_aside c.geometry c.row m)
    sweep_had n stage.Tie at = line_aside (line.Sweep n stage.Tie) at (none_aside c.geometry c.row m)
    sweep_had n stage.Write at = line_aside (line.Sweep n stage.Write) at
        (on_entry c.geometry c.row m within (event.Write (entry_at c.geometry (collector.next_list c.spot.cycle) c.spot.entries) n) (collector.next_list c.spot.cycle) c.spot.entries refl)
    sweep_had n stage.Mark at = line_aside (line.Sweep n stage.Mark) at (on_mark c.geometry c.row m within (event.Write (mark_at c.geometry n) (c.spot.cycle + 1)) n refl)
    sweep_had n stage.Empty at = empty_had n at

    -- whatever the line, a number that has the place after the event had it before
    line_had : (ln : Line) → c.spot.line ≡ ln → Had
    unfolding event_at_line collector.frame_event collector.frame_trade_event collector.scan_event collector.link_event collector.look_event collector.pass_event collector.pass_head_event collector.clear_event collector.reset_event
    line_had line.Rest at = line_aside line.Rest at rest_aside
    line_had (line.Frame s) at = line_aside (line.Frame s) at (loads _)
    line_had (line.Register s r stage) at = line_aside (line.Register s r stage) at (register_line_aside s r stage)
    line_had (line.FrameTrade s) at = line_aside (line.FrameTrade s) at
        (on_frame c.geometry c.row m within (event.Trade (frame_at c.geometry s) c.spot.first (layout.frame_blackened c.spot.first c.spot.cycle)) s refl)
    line_had line.Scan at = line_aside line.Scan at (loads _)
    line_had line.Link at = line_aside line.Link at (loads _)
    line_had line.Look at = line_aside line.Look at (loads _)
    line_had (line.Cell i stage) at = line_aside (line.Cell i stage) at (cell_line_aside i stage)
    line_had line.ObjectTrade at = trade_had at
    line_had (line.Pass n) at = line_aside (line.Pass n) at (loads _)
    line_had (line.PassHead n) at = line_aside (line.PassHead n) at (loads _)
    line_had (line.Sweep n stage) at = sweep_had n stage at
    line_had (line.Clear i) at = line_aside (line.Clear i) at (writes _ _)
    line_had line.Reset at = line_aside line.Reset at (on_w1 c.geometry c.row m within (event.Write (w1_at c.geometry) 0) refl)

  pub collect_gives_to_none : GivesToNone (next_collected c).row
  unfolding next_collected event_by_collector Had
  collect_gives_to_none m differs given = elim (cases_lt m (numbers c.geometry)) [
    | inl within ↦ line_had m within given c.spot.line refl
    | inr over ↦ sym (no_place c.geometry c.row (next_collected c).row m over) ∙ given
  ]
