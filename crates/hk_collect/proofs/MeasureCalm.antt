-- What a lawful state says where no call is in mid-course: nobody is inside a frame or an object, nobody has a claim in hand,
-- so no link word is missing; and where all that is reserved was scanned, no number is grey.
use Rattle.std.proofs.Common.{◌≡◌, ◌≢◌, ℕ, zero, suc, ◌+◌, ◌<◌, ◌≤◌, Bool, true, false, inl, inr, refl, sym, ◌∙◌, arith, Some}
use Rattle.std.proofs.lemmas.Bool.{cases_Bool, ltb-true}
use Rattle.std.specs.Prelude.{nat_lt}
use Rattle.hk_words.specs.declared.geometry.Geometry.{Geometry}
use Rattle.hk_words.specs.declared.call.Call.{Call}
use Rattle.hk_words.specs.declared.call.Call.TheVariants as call
use Rattle.hk_words.specs.Geometry.{tasks, numbers}
use Rattle.hk_model.specs.History.{History}
use Rattle.hk_core.specs.declared.flight.Flight.{Flight}
use Rattle.hk_core.specs.State.{State}
use Rattle.hk_core.specs.Counts.{count_below}
use Rattle.hk_core.specs.View.{words_of, names_of, flight_at}
use Rattle.hk_core.specs.Flights as f
use Rattle.hk_core.specs.Flights.{no_claim, hand_of_flight}
use Rattle.hk_core.specs.Lines as l
use Rattle.hk_core.specs.Colours.{spaces_of, shades_of}
use Rattle.hk_core.specs.Facts as fact
use Rattle.hk_core.specs.Lawful.{Lawful, hands_of}
use Rattle.hk_core.proofs.kinds.LoadRead.{some_words}
use Rattle.hk_core.proofs.kinds.WriteCell.{IsGreyIn, shades_mean}
use Rattle.hk_collect.specs.Runs.{is_grey}
use Rattle.hk_collect.specs.Measure.{NoneInFlight}

-- AN IDLE SEAT

-- a call at place 0 is inside nothing, and has no claim in hand
pub record IsAside (call : Call) : Type 0 where
  pub object : f.in_object_at call 0 ≡ false
  pub frame : f.in_frame_at call 0 ≡ false
  pub reserves : f.reserves_at call 0 ≡ false
  pub links : f.links_at call 0 ≡ false

aside : (call : Call) → IsAside call
unfolding f.in_object_at f.in_frame_at f.reserves_at f.links_at
aside (call.Get reg field) = record { object = refl; frame = refl; reserves = refl; links = refl }
aside (call.Put reg field value) = record { object = refl; frame = refl; reserves = refl; links = refl }
aside (call.Load dest reg field) = record { object = refl; frame = refl; reserves = refl; links = refl }
aside (call.Store reg field from) = record { object = refl; frame = refl; reserves = refl; links = refl }
aside (call.Move dest from) = record { object = refl; frame = refl; reserves = refl; links = refl }
aside (call.Clear dest) = record { object = refl; frame = refl; reserves = refl; links = refl }
aside (call.New dest shape) = record { object = refl; frame = refl; reserves = refl; links = refl }
aside (call.Same a b) = record { object = refl; frame = refl; reserves = refl; links = refl }
aside (call.IsNull reg) = record { object = refl; frame = refl; reserves = refl; links = refl }

-- the same of its flight
pub record IsIdle (g : Geometry) (x : Flight) : Type 0 where
  pub outside : (n : ℕ) → f.is_inside x n ≡ false
  pub no_frame : f.in_frame x ≡ false
  pub no_hand : hand_of_flight g x ≡ no_claim

idle_flight : (g : Geometry) (x : Flight) → x.place ≡ 0 → IsIdle g x
unfolding f.is_inside f.in_object f.in_frame hand_of_flight
idle_flight g x idle =
    let o = aside x.call in
    record {
      outside = λ n. rw (idle, o.object) refl;
      no_frame = rw (idle, o.frame) refl;
      no_hand = rw (idle, o.reserves, o.links) (elim (cases_Bool x.claimer) [ inl claimer ↦ rw claimer refl | inr other ↦ rw other refl ]);
    }

-- a test that nobody passes counts nobody
count_none : (test : ℕ → Bool) (n : ℕ) → ((k : ℕ) → k < n → test k ≡ false) → count_below n test ≡ 0
unfolding count_below
count_none test zero none = refl
count_none test (suc n) none =
    let before : count_below n test ≡ 0 = count_none test n (λ k below. none k (omega arith)) in
    rw (none n (omega arith)) (omega arith)

-- NOBODY IN MID-COURSE

module _ (c : State) (history : History) (h : Lawful c history) (none : NoneInFlight c) where
  idle_seat : (s : ℕ) → s < tasks c.geometry → IsIdle c.geometry (flight_at c s)
  unfolding flight_at
  idle_seat s below = idle_flight c.geometry (flight_at c s) (none s below)

  pub nobody_in_frame : (s : ℕ) → s < tasks c.geometry → (words_of c.geometry c.row).frame_accessors s ≡ 0
  nobody_in_frame s below = h.facts.frame_accessors_counted s below ∙ rw (idle_seat s below).no_frame refl

  pub nobody_in_object : (n : ℕ) → n < numbers c.geometry → (words_of c.geometry c.row).accessors n ≡ 0
  nobody_in_object n within = h.facts.accessors_counted n within
      ∙ count_none (λ s. f.is_inside (flight_at c s) n) (tasks c.geometry) (λ s below. (idle_seat s below).outside n)

  module _ (quiet : l.hand_of_spot c.spot ≡ no_claim) where
    no_hands : (k : ℕ) → hands_of c.geometry (flight_at c) c.spot k ≡ no_claim
    unfolding hands_of
    no_hands k = elim (cases_Bool (nat_lt k (tasks c.geometry))) [
      | inl seat ↦ rw seat ((idle_seat k (ltb-true k (tasks c.geometry) seat)).no_hand)
      | inr mine ↦ rw mine quiet
    ]

    none_reserves : (n : ℕ) {A : Type 0} → fact.IsHeld c.geometry (hands_of c.geometry (flight_at c) c.spot) n → A
    none_reserves n held = absurd (let e = sym (no_hands held.0) ∙ held.4 in cc)

    none_links : (offset : ℕ) {A : Type 0} → fact.IsLinking c.geometry (hands_of c.geometry (flight_at c) c.spot) offset → A
    none_links offset linking = absurd (let e = sym (no_hands linking.0) ∙ linking.4 in cc)

    -- so the link word of a range that fits is there
    pub linked : (x n : ℕ) → h.range x ≡ Some n → x + (shades_of c.geometry (words_of c.geometry c.row) (flight_at c) c.spot.line (names_of c.geometry history)).size n ≤ c.geometry.live
        → (words_of c.geometry c.row).cell ((spaces_of c.geometry (words_of c.geometry c.row).cycle).current + x) ≢ 0
    linked x n there fits missing = none_links x (h.facts.unlinked_waits x n there fits missing)

    -- and where all that is reserved was scanned, no number is grey
    pub none_grey : l.is_resting c.spot.line ≡ false → (words_of c.geometry c.row).reserved ≤ c.spot.scan
        → (n : ℕ) → n < numbers c.geometry → is_grey c n ≡ false
    unfolding shades_of
    none_grey busy scanned n within = elim (cases_Bool (is_grey c n)) [
      | inl grey ↦ elim (h.facts.grey_waits n within grey) [
        | inl ranged ↦ absurd (past n grey ranged.0 ranged.1)
        | inr held ↦ none_reserves n held
      ]
      | inr light ↦ light
    ]
      where
        past : (n : ℕ) → is_grey c n ≡ true → (x : ℕ) → h.range x ≡ Some n → ⊥
        past n grey x there =
            let g = c.geometry in
            let w = words_of g c.row in
            let names = names_of g history in
            let sh = shades_of g w (flight_at c) c.spot.line names in
            let z = spaces_of g w.cycle in
            let m = shades_mean g w (flight_at c) c.spot.line names in
            let some : 0 < sh.size n = some_words names sh.size n (m.size n) in
            let ends : x + sh.size n ≤ w.reserved = h.facts.ranges_within x n there in
            let live : c.spot.scan ≤ g.live = (h.facts.scan_bounded busy).1 in
            let moved = h.facts.ranges_below_moved x n there (omega arith) in
            let stands : w.place n ≡ z.current + x = moved.stands in
            let o : IsGreyIn z w.cycle w.place w.mark n = m.grey n grey in
            let after : z.old ≤ w.place n = o.after in
            let before : w.place n < z.old + (z.live + z.alloc) = o.before in
            elim m.spaces [ inl a ↦ omega arith | inr b ↦ omega arith ]
