-- The collector loads W1, and the link word at the scan offset. Where more is reserved than the scan offset a range begins
-- there; else the pass begins, with a grey number ahead or in a settled state.
use Rattle.std.proofs.Common.{◌≡◌, ℕ, ◌+◌, ◌<◌, ◌≤◌, Bool, true, false, inl, inr, refl, sym, ap, arith, Option}
use Rattle.std.proofs.lemmas.Bool.{eqb-false, ltb-true, ltb-false}
use Rattle.std.specs.Prelude.{nat_eq, nat_lt, if◌then◌else◌}
use Rattle.hk_words.specs.declared.geometry.Geometry.{Geometry}
use Rattle.hk_words.specs.Geometry.{numbers}
use Rattle.hk_core.specs.declared.flight.Flight.{Flight}
use Rattle.hk_core.specs.declared.spot.Spot.{Spot}
use Rattle.hk_core.specs.declared.spot.Line.TheVariants as line
use Rattle.hk_core.specs.Collect.{spot_took, took_at_line, scan_took, link_took, moved_to}
use Rattle.hk_core.specs.View.{Words, Names, Contents}
use Rattle.hk_core.specs.Lines as l
use Rattle.hk_core.specs.Colours.{spaces_of, shades_of}
use Rattle.hk_core.specs.Lawful.{FactsOf, hands_of}
use Rattle.hk_core.proofs.kinds.LoadRead.{colours_mean}
use Rattle.hk_core.proofs.kinds.WriteCell.{shades_mean}
use Rattle.hk_collect.proofs.spots.SpotLines.{AllBlack, AtRange, AtPass, at_scan, at_link, link_works, look_works, scan_works, pass_works}
use Rattle.hk_collect.proofs.spots.SpotRanges.{RangeAt, reaches}
use Rattle.hk_collect.proofs.spots.SpotSettled.{some_or_none, settled_when_none_grey}
use Rattle.hk_collect.proofs.spots.SpotLoads.{work_at, goes_on, took_at}

module _ (g : Geometry) (w : Words) (flight : ℕ → Flight) (begun : ℕ → ℕ) (t : Spot) (names : Names) (contents : Contents) (range : ℕ → Option ℕ)
    (at : t.line ≡ line.Scan) (h : FactsOf g w flight begun t names contents range) where
  scanned_black : AllBlack g (shades_of g w flight t.line names)
  scanned_black = at_scan g w (spaces_of g w.cycle) (shades_of g w flight t.line names) flight t names range (work_at g w flight begun t names contents range line.Scan at h)

  -- the pass begins with a grey number ahead, or in a settled state
  meets_grey : AtPass g w (shades_of g w flight t.line names) flight 0
  meets_grey =
      let z = spaces_of g w.cycle in
      let sh = shades_of g w flight t.line names in
      record {
        all_black = scanned_black;
        number = let some = g.alloc_enough in omega arith;
        meets = elim (some_or_none sh.grey (numbers g)) [
          | inl found ↦ inl (found.0, (omega arith), found.1, found.2)
          | inr none ↦ inr (settled_when_none_grey g w z sh flight begun (hands_of g flight t) t names contents range h
              (shades_mean g w flight t.line names) (colours_mean g w flight t.line names) scanned_black none)
        ];
      }

  -- the range at the scan offset, where all that is reserved fits
  scan_finds : w.reserved ≤ g.live → t.scan < w.reserved → AtRange g (spaces_of g w.cycle) (shades_of g w flight t.line names) t range
  scan_finds fits below =
      let sh = shades_of g w flight t.line names in
      let found : RangeAt range t.scan = (reaches g w (spaces_of g w.cycle) sh flight begun (hands_of g flight t) t names contents range h
      (shades_mean g w flight t.line names)).at_range below in
      let within : t.scan + sh.size found.0 ≤ w.reserved = h.ranges_within t.scan found.0 found.1 in
      record { all_black = scanned_black; found = (found.0, found.1, (omega arith)) }

  scan_goes_on : w.reserved ≤ g.live → (ahead : Bool) → nat_lt t.scan w.reserved ≡ ahead
      → FactsOf g w flight begun (record t { line = if ahead then line.Link else line.Pass 0 }) names contents range
  unfolding l.is_marking l.hand_at_line
  scan_goes_on fits true ahead =
      let z = spaces_of g w.cycle in
      let sh = shades_of g w flight t.line names in
      let other : Spot = record t { line = line.Link } in
      let o : AtRange g z sh t range = scan_finds fits (ltb-true t.scan w.reserved ahead) in
      goes_on g w flight begun t names contents range line.Scan at h other
      (record { from = record { marking = refl; no_hand = refl }; to = record { marking = refl; no_hand = refl }; cycle = refl; scan = refl; entries = refl })
      (link_works g w z sh flight other names range (record { all_black = o.all_black; found = o.found }))
  scan_goes_on fits false ends =
      let z = spaces_of g w.cycle in
      let sh = shades_of g w flight t.line names in
      let other : Spot = record t { line = line.Pass 0 } in
      goes_on g w flight begun t names contents range line.Scan at h other
      (record { from = record { marking = refl; no_hand = refl }; to = record { marking = refl; no_hand = refl }; cycle = refl; scan = refl; entries = refl })
      (pass_works g w z sh flight other names range 0 meets_grey)

  -- W1 is loaded
  pub scan_loads : FactsOf g w flight begun (spot_took g t w.reserved) names contents range
  unfolding took_at_line scan_took
  scan_loads = rw (took_at g t line.Scan w.reserved at) (by_test (nat_lt g.live w.reserved) refl)
    where
      by_test : (over : Bool) → nat_lt g.live w.reserved ≡ over
          → FactsOf g w flight begun (if over then t else record t { line = if nat_lt t.scan w.reserved then line.Link else line.Pass 0 }) names contents range
      by_test true over = h
      by_test false fits = scan_goes_on (ltb-false g.live w.reserved fits) (nat_lt t.scan w.reserved) refl

module _ (g : Geometry) (w : Words) (flight : ℕ → Flight) (begun : ℕ → ℕ) (t : Spot) (names : Names) (contents : Contents) (range : ℕ → Option ℕ)
    (at : t.line ≡ line.Link) (h : FactsOf g w flight begun t names contents range) where
  -- the place at the scan offset is that of the current space
  scan_place : moved_to g t ≡ (spaces_of g w.cycle).current + t.scan
  scan_place = let same : t.cycle ≡ w.cycle = h.spot_knows_cycle in rw same (omega arith)

  -- the link word at the scan offset is loaded: the object that it names is looked at, where it was linked
  pub link_loads : FactsOf g w flight begun (spot_took g t (w.cell (moved_to g t))) names contents range
  unfolding took_at_line link_took l.is_marking l.hand_at_line
  link_loads = rw (took_at g t line.Link (w.cell (moved_to g t)) at) (by_test (nat_eq (w.cell (moved_to g t)) 0) refl)
    where
      found : AtRange g (spaces_of g w.cycle) (shades_of g w flight t.line names) t range
      found = at_link g w (spaces_of g w.cycle) (shades_of g w flight t.line names) flight t names range (work_at g w flight begun t names contents range line.Link at h)

      by_test : (unlinked : Bool) → nat_eq (w.cell (moved_to g t)) 0 ≡ unlinked
          → FactsOf g w flight begun (if unlinked then record t { line = line.Scan } else record t { line = line.Look; item = w.cell (moved_to g t) }) names contents range
      by_test true unlinked =
          let z = spaces_of g w.cycle in
          let sh = shades_of g w flight t.line names in
          let other : Spot = record t { line = line.Scan } in
          goes_on g w flight begun t names contents range line.Link at h other
          (record { from = record { marking = refl; no_hand = refl }; to = record { marking = refl; no_hand = refl }; cycle = refl; scan = refl; entries = refl })
          (scan_works g w z sh flight other names range found.all_black)
      by_test false linked =
          let z = spaces_of g w.cycle in
          let sh = shades_of g w flight t.line names in
          let other : Spot = record t { line = line.Look; item = w.cell (moved_to g t) } in
          let o : AtRange g z sh t range = found in
          goes_on g w flight begun t names contents range line.Link at h other
          (record { from = record { marking = refl; no_hand = refl }; to = record { marking = refl; no_hand = refl }; cycle = refl; scan = refl; entries = refl })
          (look_works g w z sh flight other names range (record {
            at_range = record { all_black = o.all_black; found = o.found };
            some = eqb-false (w.cell (moved_to g t)) 0 linked;
            linked = ap w.cell (sym scan_place);
          }))
