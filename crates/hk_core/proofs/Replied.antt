-- Each call adds one entry to the history, and answers what the entry says.
use Rattle.std.proofs.Common.{◌≡◌, ℕ, ◌+◌, ◌<◌, ◌≤◌, Bool, true, false, inl, inr, refl, sym, ◌∙◌, arith, Option, Some, None}
use Rattle.std.proofs.lemmas.Bool.{cases_Bool, cases_eq}
use Rattle.std.specs.Prelude.{nat_le, ◌||◌}
use Rattle.hk_words.specs.declared.geometry.Geometry.{Geometry}
use Rattle.hk_words.specs.declared.call.Call.{Call}
use Rattle.hk_words.specs.declared.call.Call.TheVariants as call
use Rattle.hk_words.specs.declared.call.Reply.TheVariants as reply
use Rattle.hk_words.specs.declared.shape.Shape.{Shape}
use Rattle.hk_words.specs.Layout as layout
use Rattle.hk_model.specs.History.{Entry}
use Rattle.hk_core.specs.declared.flight.Flight.{Flight}
use Rattle.hk_core.specs.declared.outcome.Outcome.{Outcome}
use Rattle.hk_core.specs.Step as table
use Rattle.hk_words.specs.Bounds.{places_of}
use Rattle.hk_core.specs.Step.{outcome_at, took_of, effect_of, full_to, full_to_all}
use Rattle.hk_core.specs.Replied.{outcome_of}
use Rattle.hk_core.proofs.kinds.Seats.{moved_on}
use Rattle.hk_core.proofs.kinds.NewLoads.{new_loaded, new_on, refused}
use Rattle.hk_core.proofs.kinds.NewRaise.{new_raised}
use Rattle.hk_core.proofs.kinds.NewHistory.{made}
use Rattle.hk_core.proofs.kinds.NewTables.{refused_if, new_says_1, new_says_2, new_says_3, new_says_4, new_says_5, new_says_6, new_rests_2, new_rests_3, new_rests_4, new_rests_5, new_rests_6}

-- TABLES

-- the effect of a call was done before the place where it stands
unfoldable pub done_at : Call → (place : ℕ) → (full : Bool) → Bool
done_at (call.Get reg field) place full = nat_le 3 place
done_at (call.Put reg field value) place full = nat_le 3 place
done_at (call.Load dest reg field) place full = nat_le 5 place
done_at (call.Store reg field from) place full = nat_le 7 place
done_at (call.Move dest from) place full = nat_le 3 place
done_at (call.Clear dest) place full = false
done_at (call.New dest shape) place full = full || nat_le 7 place
done_at (call.Same a b) place full = false
done_at (call.IsNull reg) place full = false

unfoldable pub is_done : Flight → Bool
is_done x = done_at x.call x.place x.full

-- an entry of a flight's call that says an outcome
pub record Says (x : Flight) (o : Option Entry) (outcome' : Outcome) : Type 0 where
  pub entry : Entry
  pub is : o ≡ Some entry
  pub seat : entry.seat ≡ x.seat
  pub call : entry.call ≡ x.call
  pub says : outcome_of entry ≡ outcome'

-- what a place before the last one does: nothing yet, or the effect, or nothing more
pub data StepKind (x y : Flight) (o : Option Entry) : Type 0 where
  quiet : is_done x ≡ false → is_done y ≡ false → o ≡ None → StepKind x y o
  acts : is_done x ≡ false → is_done y ≡ true → Says x o (outcome_at y y.call) → StepKind x y o
  past : is_done x ≡ true → is_done y ≡ true → o ≡ None → outcome_at y y.call ≡ outcome_at x x.call → StepKind x y o

-- and what the last one does: nothing more, or all at once
pub data EndKind (x : Flight) (o : Option Entry) : Type 0 where
  over : is_done x ≡ true → o ≡ None → EndKind x o
  at_once : is_done x ≡ false → Says x o (outcome_at x x.call) → EndKind x o

-- the place is one of those from a first to a last one
choose : {A : Type 0} (p k n : ℕ) → k ≤ p → p < n → (p ≡ k → A) → (k + 1 ≤ p → A) → A
choose p k n from to here later = elim (cases_eq p k) [ inl e ↦ here e | inr d ↦ later (omega arith) ]

module _ (g : Geometry) (x : Flight) (old : ℕ) where
  get_kind : (reg field : ℕ) → x.call ≡ call.Get reg field → 1 ≤ x.place → x.place < 3 → StepKind x (took_of g x old) (effect_of g x old)
  unfolding is_done done_at table.took_of table.took_at table.get_took table.effect_of table.effect_at table.get_entry
  get_kind reg field is some few =
      choose x.place 1 3 some few
      (λ at. quiet (rw (is, at) refl) (rw (is, at) refl) (rw (is, at) refl))
      (λ from_2. let at : x.place ≡ 2 = omega arith in acts (rw (is, at) refl) (rw (is, at) refl)
      (record { entry = record { seat = x.seat; call = x.call; reply = reply.Num old; number = 0 }; is = rw (is, at) refl; seat = refl; call = refl; says = rw (is, at) refl }))

  get_end : (reg field : ℕ) → x.call ≡ call.Get reg field → x.place ≡ 3 → EndKind x (effect_of g x old)
  unfolding is_done done_at table.effect_of table.effect_at table.get_entry
  get_end reg field is at = over (rw (is, at) refl) (rw (is, at) refl)

  put_kind : (reg field value : ℕ) → x.call ≡ call.Put reg field value → 1 ≤ x.place → x.place < 3 → StepKind x (took_of g x old) (effect_of g x old)
  unfolding is_done done_at table.took_of table.took_at table.put_took table.effect_of table.effect_at table.put_entry
  put_kind reg field value is some few =
      choose x.place 1 3 some few
      (λ at. quiet (rw (is, at) refl) (rw (is, at) refl) (rw (is, at) refl))
      (λ from_2. let at : x.place ≡ 2 = omega arith in acts (rw (is, at) refl) (rw (is, at) refl)
      (record { entry = record { seat = x.seat; call = x.call; reply = reply.Unit; number = 0 }; is = rw (is, at) refl; seat = refl; call = refl; says = rw (is, at) refl }))

  put_end : (reg field value : ℕ) → x.call ≡ call.Put reg field value → x.place ≡ 3 → EndKind x (effect_of g x old)
  unfolding is_done done_at table.effect_of table.effect_at table.put_entry
  put_end reg field value is at = over (rw (is, at) refl) (rw (is, at) refl)

  move_kind : (dest from : ℕ) → x.call ≡ call.Move dest from → 1 ≤ x.place → x.place < 3 → StepKind x (took_of g x old) (effect_of g x old)
  unfolding is_done done_at table.took_of table.took_at table.move_took table.effect_of table.effect_at table.move_entry
  move_kind dest from is some few =
      choose x.place 1 3 some few
      (λ at. quiet (rw (is, at) refl) (rw (is, at) refl) (rw (is, at) refl))
      (λ from_2. let at : x.place ≡ 2 = omega arith in acts (rw (is, at) refl) (rw (is, at) refl)
      (record { entry = record { seat = x.seat; call = x.call; reply = reply.Unit; number = 0 }; is = rw (is, at) refl; seat = refl; call = refl; says = rw (is, at) refl }))

  move_end : (dest from : ℕ) → x.call ≡ call.Move dest from → x.place ≡ 3 → EndKind x (effect_of g x old)
  unfolding is_done done_at table.effect_of table.effect_at table.move_entry
  move_end dest from is at = over (rw (is, at) refl) (rw (is, at) refl)

  store_kind : (reg field from : ℕ) → x.call ≡ call.Store reg field from → 1 ≤ x.place → x.place < 7 → StepKind x (took_of g x old) (effect_of g x old)
  unfolding is_done done_at table.took_of table.took_at table.store_took table.effect_of table.effect_at table.store_entry
  store_kind reg field from is some few =
      choose x.place 1 7 some few
      (λ at. quiet (rw (is, at) refl) (rw (is, at) refl) (rw (is, at) refl))
      (λ from_2.
      choose x.place 2 7 from_2 few
      (λ at. quiet (rw (is, at) refl) (rw (is, at) refl) (rw (is, at) refl))
      (λ from_3.
      choose x.place 3 7 from_3 few
      (λ at. quiet (rw (is, at) refl) (rw (is, at) refl) (rw (is, at) refl))
      (λ from_4.
      choose x.place 4 7 from_4 few
      (λ at. quiet (rw (is, at) refl) (rw (is, at) refl) (rw (is, at) refl))
      (λ from_5.
      choose x.place 5 7 from_5 few
      (λ at. quiet (rw (is, at) refl) (rw (is, at) refl) (rw (is, at) refl))
      (λ from_6. let at : x.place ≡ 6 = omega arith in acts (rw (is, at) refl) (rw (is, at) refl)
      (record { entry = record { seat = x.seat; call = x.call; reply = reply.Unit; number = 0 }; is = rw (is, at) refl; seat = refl; call = refl; says = rw (is, at) refl }))))))

  store_end : (reg field from : ℕ) → x.call ≡ call.Store reg field from → x.place ≡ 7 → EndKind x (effect_of g x old)
  unfolding is_done done_at table.effect_of table.effect_at table.store_entry
  store_end reg field from is at = over (rw (is, at) refl) (rw (is, at) refl)

  load_kind : (dest reg field : ℕ) → x.call ≡ call.Load dest reg field → 1 ≤ x.place → x.place < 10 → StepKind x (took_of g x old) (effect_of g x old)
  unfolding is_done done_at table.took_of table.took_at table.load_took table.effect_of table.effect_at table.load_entry_of
  load_kind dest reg field is some few =
      choose x.place 1 10 some few
      (λ at. quiet (rw (is, at) refl) (rw (is, at) refl) (rw (is, at) refl))
      (λ from_2.
      choose x.place 2 10 from_2 few
      (λ at. quiet (rw (is, at) refl) (rw (is, at) refl) (rw (is, at) refl))
      (λ from_3.
      choose x.place 3 10 from_3 few
      (λ at. quiet (rw (is, at) refl) (rw (is, at) refl) (rw (is, at) refl))
      (λ from_4.
      choose x.place 4 10 from_4 few
      (λ at. acts (rw (is, at) refl) (rw (is, at) refl)
      (record { entry = record { seat = x.seat; call = x.call; reply = reply.Unit; number = 0 }; is = rw (is, at) refl; seat = refl; call = refl; says = rw (is, at) refl }))
      (λ from_5.
      choose x.place 5 10 from_5 few
      (λ at. past (rw (is, at) refl) (rw (is, at) refl) (rw (is, at) refl) (rw (is, at) refl))
      (λ from_6.
      choose x.place 6 10 from_6 few
      (λ at. past (rw (is, at) refl) (rw (is, at) refl) (rw (is, at) refl) (rw (is, at) refl))
      (λ from_7.
      choose x.place 7 10 from_7 few
      (λ at. past (rw (is, at) refl) (rw (is, at) refl) (rw (is, at) refl) (rw (is, at) refl))
      (λ from_8.
      choose x.place 8 10 from_8 few
      (λ at. past (rw (is, at) refl) (rw (is, at) refl) (rw (is, at) refl) (rw (is, at) refl))
      (λ from_9. let at : x.place ≡ 9 = omega arith in past (rw (is, at) refl) (rw (is, at) refl) (rw (is, at) refl) (rw (is, at) refl)))))))))

  load_end : (dest reg field : ℕ) → x.call ≡ call.Load dest reg field → x.place ≡ 10 → EndKind x (effect_of g x old)
  unfolding is_done done_at table.effect_of table.effect_at table.load_entry_of
  load_end dest reg field is at = over (rw (is, at) refl) (rw (is, at) refl)

  clear_end : (dest : ℕ) → x.call ≡ call.Clear dest → x.place ≡ 1 → EndKind x (effect_of g x old)
  unfolding is_done done_at table.effect_of table.effect_at table.clear_entry
  clear_end dest is at =
      at_once (rw is refl)
      (record { entry = record { seat = x.seat; call = x.call; reply = reply.Unit; number = 0 }; is = rw (is, at) refl; seat = refl; call = refl; says = rw is refl })

  -- a New
  module _ (dest : ℕ) (shape : Shape) (is : x.call ≡ call.New dest shape) where
    new_done : (y : Flight) → y.call ≡ call.New dest shape → is_done y ≡ (y.full || nat_le 7 y.place)
    unfolding is_done done_at
    new_done y same = rw same refl

    -- a place that looks at W0
    new_looks : (b : Bool) (word : ℕ) (y : Flight) → x.full ≡ false → nat_le 7 x.place ≡ false → y.call ≡ call.New dest shape → y.full ≡ b → nat_le 7 y.place ≡ false → y.word ≡ word
        → StepKind x y (refused_if x.seat dest shape b word)
    new_looks true word y room early same full early' found =
        acts (new_done x is ∙ rw (room, early) refl) (new_done y same ∙ rw full refl)
        (record { entry = refused x.seat dest shape (layout.w0_words word); is = refl; seat = refl; call = sym is; says = rw (same, full, found) refl })
    new_looks false word y room early same full early' found =
        quiet (new_done x is ∙ rw (room, early) refl) (new_done y same ∙ rw (full, early') refl) refl

    -- a rest
    new_rests_so : (q m : ℕ) → x.full ≡ true → StepKind x (new_on x q m) None
    new_rests_so q m full = past (new_done x is ∙ rw full refl) (new_done (new_on x q m) is ∙ rw full refl) refl (rw is refl)

    -- a place that goes on
    new_goes_so : (y : Flight) → x.full ≡ false → nat_le 7 x.place ≡ false → y.call ≡ call.New dest shape → y.full ≡ false → nat_le 7 y.place ≡ false → StepKind x y None
    new_goes_so y room early same full early' = quiet (new_done x is ∙ rw (room, early) refl) (new_done y same ∙ rw (full, early') refl) refl

    new_kind : (x.place ≡ 1 → x.full ≡ false) → 1 ≤ x.place → x.place < 7 → StepKind x (took_of g x old) (effect_of g x old)
    new_kind fresh some few =
        choose x.place 1 7 some few
        (λ at. let o = new_says_1 g x dest shape is at in rw (o.flight old, o.entry old) (new_looks (full_to g x.seat shape old) old (new_loaded g x shape old) (fresh at) (rw at refl) is refl refl refl))
        (λ from_2. choose x.place 2 7 from_2 few
        (λ at. elim (cases_Bool x.full) [
          | inl full ↦ let o = new_rests_2 g x dest shape is at full in rw (o.flight old, o.entry old) (new_rests_so 3 x.number full)
          | inr room ↦ let o = new_says_2 g x dest shape is at room in rw (o.flight old, o.entry old) (new_goes_so (moved_on x 3 x.at) room (rw at refl) is room refl)
        ])
        (λ from_3. choose x.place 3 7 from_3 few
        (λ at. elim (cases_Bool x.full) [
          | inl full ↦ let o = new_rests_3 g x dest shape is at full in rw (o.flight old, o.entry old) (new_rests_so 4 x.number full)
          | inr room ↦ let o = new_says_3 g x dest shape is at room in rw (o.flight old, o.entry old) (new_looks (full_to_all g shape old) old (new_raised g x shape old) room (rw at refl) is refl refl refl)
        ])
        (λ from_4. choose x.place 4 7 from_4 few
        (λ at. elim (cases_Bool x.full) [
          | inl full ↦ let o = new_rests_4 g x dest shape is at full in rw (o.flight old, o.entry old) (new_rests_so 5 old full)
          | inr room ↦ let o = new_says_4 g x dest shape is at room in rw (o.flight old, o.entry old) (new_goes_so (new_on x 5 old) room (rw at refl) is room refl)
        ])
        (λ from_5. choose x.place 5 7 from_5 few
        (λ at. elim (cases_Bool x.full) [
          | inl full ↦ let o = new_rests_5 g x dest shape is at full in rw (o.flight old, o.entry old) (new_rests_so 6 x.number full)
          | inr room ↦ let o = new_says_5 g x dest shape is at room in rw (o.flight old, o.entry old) (new_goes_so (new_on x 6 x.number) room (rw at refl) is room refl)
        ])
        (λ from_6. let at : x.place ≡ 6 = omega arith in
        elim (cases_Bool x.full) [
          | inl full ↦ let o = new_rests_6 g x dest shape is at full in rw (o.flight old, o.entry old) (new_rests_so 7 x.number full)
          | inr room ↦
              let o = new_says_6 g x dest shape is at room in
              rw (o.flight old, o.entry old)
              (acts (new_done x is ∙ rw (room, at) refl) (new_done (new_on x 7 x.number) is ∙ rw room refl)
              (record { entry = made x.seat dest shape x.number; is = refl; seat = refl; call = sym is; says = rw (is, room) refl }))
        ])))))

    new_end : x.place ≡ 7 → EndKind x (effect_of g x old)
    unfolding table.effect_of table.effect_at table.new_entry
    new_end at = over (new_done x is ∙ rw at (or_true x.full)) (rw (is, at) refl)
      where
        or_true : (b : Bool) → (b || true) ≡ true
        or_true true = refl
        or_true false = refl

  -- ANY CALL
  pub step_kind : (x.place ≡ 1 → x.full ≡ false) → 1 ≤ x.place → x.place < places_of x.call → StepKind x (took_of g x old) (effect_of g x old)
  step_kind fresh some few = each x.call refl few
    where
      each : (call' : Call) → x.call ≡ call' → x.place < places_of call' → StepKind x (took_of g x old) (effect_of g x old)
      each (call.Get reg field) e few = get_kind reg field e some few
      each (call.Put reg field value) e few = put_kind reg field value e some few
      each (call.Load dest reg field) e few = load_kind dest reg field e some few
      each (call.Store reg field from) e few = store_kind reg field from e some few
      each (call.Move dest from) e few = move_kind dest from e some few
      each (call.Clear dest) e few = absurd (omega arith)
      each (call.New dest shape) e few = new_kind dest shape e fresh some few
      each (call.Same a b) e few = absurd (omega arith)
      each (call.IsNull reg) e few = absurd (omega arith)

  pub end_kind : 1 ≤ x.place → x.place ≡ places_of x.call → EndKind x (effect_of g x old)
  end_kind some at = each x.call refl at
    where
      each : (call' : Call) → x.call ≡ call' → x.place ≡ places_of call' → EndKind x (effect_of g x old)
      each (call.Get reg field) e at = get_end reg field e at
      each (call.Put reg field value) e at = put_end reg field value e at
      each (call.Load dest reg field) e at = load_end dest reg field e at
      each (call.Store reg field from) e at = store_end reg field from e at
      each (call.Move dest from) e at = move_end dest from e at
      each (call.Clear dest) e at = clear_end dest e at
      each (call.New dest shape) e at = new_end dest shape e at
      each (call.Same a b) e at = absurd (omega arith)
      each (call.IsNull reg) e at = absurd (omega arith)
