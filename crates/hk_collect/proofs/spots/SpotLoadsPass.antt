-- The pass loads the mark of a number, and its header where it was claimed. A number that isn't grey is past; a grey one
-- sends the collector back to the scan. Where the last number is past, the state is settled.
use Rattle.std.proofs.Common.{◌≡◌, ◌≢◌, ◌⊎◌, ℕ, ◌+◌, ◌<◌, ◌≤◌, Bool, true, false, inl, inr, refl, sym, ◌∙◌, ap, arith, Option}
use Rattle.std.proofs.lemmas.Bool.{cases_eq, cases_Bool, eqb-true, eqb-false, lt-ltb, le-leb, and_from}
use Rattle.std.specs.Prelude.{nat_eq, nat_lt, if◌then◌else◌}
use Rattle.hk_words.specs.declared.geometry.Geometry.{Geometry}
use Rattle.hk_words.specs.Geometry.{numbers, space_words}
use Rattle.hk_words.specs.Layout as layout
use Rattle.hk_words.specs.Row.{place_at}
use Rattle.hk_core.specs.declared.flight.Flight.{Flight}
use Rattle.hk_core.specs.declared.spot.Spot.{Spot}
use Rattle.hk_core.specs.declared.spot.Line.TheVariants as line
use Rattle.hk_core.specs.declared.spot.Stage.TheVariants as stage
use Rattle.hk_core.specs.Collect.{spot_took, took_at_line, pass_took, pass_head_took, after_pass, is_old, old_space}
use Rattle.hk_core.specs.View.{Words, Names, Contents}
use Rattle.hk_core.specs.Lines as l
use Rattle.hk_core.specs.Colours.{spaces_of, Shades, shades_of}
use Rattle.hk_core.specs.Lawful.{FactsOf}
use Rattle.hk_core.proofs.Shared.{refuted}
use Rattle.hk_core.proofs.kinds.WriteCell.{IsGreyIn, shades_mean}
use Rattle.hk_collect.proofs.spots.SpotLines.{AtPass, at_pass, at_pass_head, scan_works, pass_works, pass_head_works}
use Rattle.hk_collect.proofs.spots.SpotLoads.{work_at, goes_on, took_at}

-- A NUMBER THAT ISN'T GREY

module _ (g : Geometry) (w : Words) (sh : Shades) (flight : ℕ → Flight) (n : ℕ) (o : AtPass g w sh flight n) (not_grey : sh.grey n ≡ false) where
  -- it is past, where there is one more
  pub pass_past : n + 1 < numbers g → AtPass g w sh flight (n + 1)
  pass_past more = record {
    all_black = o.all_black;
    number = more;
    meets = elim o.meets [
      | inl found ↦ elim (cases_eq found.0 n) [
        | inl here ↦ refuted (sh.grey found.0) (ap sh.grey here ∙ not_grey) found.3
        | inr ahead ↦ let from : n ≤ found.0 = found.1 in inl (found.0, (omega arith), found.2, found.3)
      ]
      | inr settled ↦ inr settled
    ];
  }

module _ (g : Geometry) (w : Words) (flight : ℕ → Flight) (begun : ℕ → ℕ) (t : Spot) (names : Names) (contents : Contents) (range : ℕ → Option ℕ) where
  -- a number whose mark isn't the cycle isn't grey
  pub unmarked_not_grey : (n : ℕ) → w.mark n ≢ w.cycle → (shades_of g w flight t.line names).grey n ≡ false
  unmarked_not_grey n differs = elim (cases_Bool ((shades_of g w flight t.line names).grey n)) [
    | inl grey ↦ absurd (differs ((shades_mean g w flight t.line names).grey n grey).of_cycle)
    | inr light ↦ light
  ]

  -- nor is one whose place isn't in the old space
  pub moved_not_grey : (n old : ℕ) → FactsOf g w flight begun t names contents range → layout.header_place old ≡ w.place n → is_old g t old ≡ false
      → (shades_of g w flight t.line names).grey n ≡ false
  moved_not_grey n old h place moved = elim (cases_Bool ((shades_of g w flight t.line names).grey n)) [
    | inl grey ↦
        let z = spaces_of g w.cycle in
        let same : t.cycle ≡ w.cycle = h.spot_knows_cycle in
        let o : IsGreyIn z w.cycle w.place w.mark n = (shades_mean g w flight t.line names).grey n grey in
        let after : z.old ≤ w.place n = o.after in
        let before : w.place n < z.old + (z.live + z.alloc) = o.before in
        let first : place_at g (old_space t.cycle) 0 ≡ z.old = ap (λ cycle. place_at g (old_space cycle) 0) same in
        let end : place_at g (old_space t.cycle) (space_words g) ≡ z.old + (z.live + z.alloc) = ap (λ cycle. place_at g (old_space cycle) (space_words g)) same ∙ ends (old_space w.cycle) in
        let stays : is_old g t old ≡ true = and_from _ _
        (le-leb (place_at g (old_space t.cycle) 0) (layout.header_place old) (omega arith))
        (lt-ltb (layout.header_place old) (place_at g (old_space t.cycle) (space_words g)) (omega arith)) in
        refuted (is_old g t old) moved stays
    | inr light ↦ light
  ]
    where
      ends : (space : ℕ) → place_at g space (space_words g) ≡ place_at g space 0 + (g.live + g.alloc)
      ends space = omega arith

  module _ (n : ℕ) (h : FactsOf g w flight begun t names contents range) where
    -- from a number that isn't grey the pass goes on to the next one
    to_next : (t.line ≡ line.Pass n) ⊎ (t.line ≡ line.PassHead n) → (shades_of g w flight t.line names).grey n ≡ false → n + 1 < numbers g
        → FactsOf g w flight begun (record t { line = line.Pass (n + 1) }) names contents range
    unfolding l.is_marking l.hand_at_line
    to_next (inl at) not_grey more =
        let z = spaces_of g w.cycle in
        let sh = shades_of g w flight t.line names in
        let other : Spot = record t { line = line.Pass (n + 1) } in
        let o : AtPass g w sh flight n = at_pass g w z sh flight t names range n (work_at g w flight begun t names contents range (line.Pass n) at h) in
        goes_on g w flight begun t names contents range (line.Pass n) at h other
        (record { from = record { marking = refl; no_hand = refl }; to = record { marking = refl; no_hand = refl }; cycle = refl; scan = refl; entries = refl })
        (pass_works g w z sh flight other names range (n + 1) (pass_past g w sh flight n o not_grey more))
    to_next (inr at) not_grey more =
        let z = spaces_of g w.cycle in
        let sh = shades_of g w flight t.line names in
        let other : Spot = record t { line = line.Pass (n + 1) } in
        let o : AtPass g w sh flight n = at_pass_head g w z sh flight t names range n (work_at g w flight begun t names contents range (line.PassHead n) at h) in
        goes_on g w flight begun t names contents range (line.PassHead n) at h other
        (record { from = record { marking = refl; no_hand = refl }; to = record { marking = refl; no_hand = refl }; cycle = refl; scan = refl; entries = refl })
        (pass_works g w z sh flight other names range (n + 1) (pass_past g w sh flight n o not_grey more))

    -- the mark of a claimed number is loaded
    pub pass_finds_claimed : t.line ≡ line.Pass n → w.mark n ≡ w.cycle → FactsOf g w flight begun (spot_took g t (w.mark n)) names contents range
    unfolding took_at_line pass_took l.is_marking l.hand_at_line
    pass_finds_claimed at marked = rw (took_at g t (line.Pass n) (w.mark n) at) (by_test (nat_eq (w.mark n) t.cycle) refl)
      where
        by_test : (claimed : Bool) → nat_eq (w.mark n) t.cycle ≡ claimed
            → FactsOf g w flight begun (record t { line = if claimed then line.PassHead n else after_pass g n }) names contents range
        by_test true claimed =
            let z = spaces_of g w.cycle in
            let sh = shades_of g w flight t.line names in
            let other : Spot = record t { line = line.PassHead n } in
            let o : AtPass g w sh flight n = at_pass g w z sh flight t names range n (work_at g w flight begun t names contents range (line.Pass n) at h) in
            goes_on g w flight begun t names contents range (line.Pass n) at h other
            (record { from = record { marking = refl; no_hand = refl }; to = record { marking = refl; no_hand = refl }; cycle = refl; scan = refl; entries = refl })
            (pass_head_works g w z sh flight other names range n o)
        by_test false unclaimed = absurd (eqb-false (w.mark n) t.cycle unclaimed (marked ∙ sym h.spot_knows_cycle))

    -- the mark of another number is loaded, where there is one more
    pub pass_finds_unclaimed : t.line ≡ line.Pass n → w.mark n ≢ w.cycle → n + 1 < numbers g → FactsOf g w flight begun (spot_took g t (w.mark n)) names contents range
    unfolding took_at_line pass_took
    pass_finds_unclaimed at differs more = rw (took_at g t (line.Pass n) (w.mark n) at) (by_test (nat_eq (w.mark n) t.cycle) refl (nat_lt (n + 1) (numbers g)) refl)
      where
        by_test : (claimed : Bool) → nat_eq (w.mark n) t.cycle ≡ claimed → (next : Bool) → nat_lt (n + 1) (numbers g) ≡ next
            → FactsOf g w flight begun (record t { line = if claimed then line.PassHead n else if next then line.Pass (n + 1) else line.Sweep 0 stage.Read }) names contents range
        by_test true claimed next e = absurd (differs (eqb-true (w.mark n) t.cycle claimed ∙ h.spot_knows_cycle))
        by_test false unclaimed true e = to_next (inl at) (unmarked_not_grey n differs) more
        by_test false unclaimed false e = refuted (nat_lt (n + 1) (numbers g)) e (lt-ltb (n + 1) (numbers g) more)

    -- the header of a claimed number is loaded, whose place is in the old space: it is grey
    pub pass_finds_grey : (old : ℕ) → t.line ≡ line.PassHead n → is_old g t old ≡ true → FactsOf g w flight begun (spot_took g t old) names contents range
    unfolding took_at_line pass_head_took l.is_marking l.hand_at_line
    pass_finds_grey old at grey = rw (took_at g t (line.PassHead n) old at) (by_test (is_old g t old) refl)
      where
        by_test : (stays : Bool) → is_old g t old ≡ stays → FactsOf g w flight begun (record t { line = if stays then line.Scan else after_pass g n }) names contents range
        by_test true stays =
            let z = spaces_of g w.cycle in
            let sh = shades_of g w flight t.line names in
            let other : Spot = record t { line = line.Scan } in
            let o : AtPass g w sh flight n = at_pass_head g w z sh flight t names range n (work_at g w flight begun t names contents range (line.PassHead n) at h) in
            goes_on g w flight begun t names contents range (line.PassHead n) at h other
            (record { from = record { marking = refl; no_hand = refl }; to = record { marking = refl; no_hand = refl }; cycle = refl; scan = refl; entries = refl })
            (scan_works g w z sh flight other names range o.all_black)
        by_test false moved = refuted (is_old g t old) moved grey

    -- its place is in the current space, and there is one more
    pub pass_finds_moved : (old : ℕ) → t.line ≡ line.PassHead n → layout.header_place old ≡ w.place n → is_old g t old ≡ false → n + 1 < numbers g
        → FactsOf g w flight begun (spot_took g t old) names contents range
    unfolding took_at_line pass_head_took
    pass_finds_moved old at place moved more = rw (took_at g t (line.PassHead n) old at) (by_test (is_old g t old) refl (nat_lt (n + 1) (numbers g)) refl)
      where
        by_test : (stays : Bool) → is_old g t old ≡ stays → (next : Bool) → nat_lt (n + 1) (numbers g) ≡ next
            → FactsOf g w flight begun (record t { line = if stays then line.Scan else if next then line.Pass (n + 1) else line.Sweep 0 stage.Read }) names contents range
        by_test true stays next e = refuted (is_old g t old) moved stays
        by_test false new true e = to_next (inr at) (moved_not_grey n old h place moved) more
        by_test false new false e = refuted (nat_lt (n + 1) (numbers g)) e (lt-ltb (n + 1) (numbers g) more)
