-- The word at the place that a claim in hand has still to link lies in no kept object.
use Rattle.std.proofs.Common.{◌≡◌, ℕ, ◌+◌, ◌-◌, ◌<◌, ◌≤◌, true, false, inl, inr, sym, ◌∙◌, ap, arith, Some}
use Rattle.std.proofs.lemmas.Bool.{cases_Bool, cases_eq}
use Rattle.hk_words.specs.Geometry.{tasks}
use Rattle.hk_words.specs.Layout as layout
use Rattle.hk_model.specs.History.{History}
use Rattle.hk_core.specs.State.{State}
use Rattle.hk_core.specs.View.{words_of, names_of, flight_at}
use Rattle.hk_core.specs.Flights.{to_link}
use Rattle.hk_core.specs.Inside.{kept_in, size_in}
use Rattle.hk_core.specs.Colours.{spaces_of, shades_of, Covers}
use Rattle.hk_core.specs.Lines.{is_resting}
use Rattle.hk_core.specs.Lawful.{Lawful, hands_of}
use Rattle.hk_core.proofs.kinds.WriteCell.{shades_mean}
use Rattle.hk_core.proofs.Shared.{never_both, one_value, size_some}

pub link_in_no_object : (c : State) (history : History) → Lawful c history → (k item cycle offset : ℕ) → k ≤ tasks c.geometry
    → hands_of c.geometry (flight_at c) c.spot k ≡ to_link item cycle offset → (n : ℕ) → kept_in c history n ≡ true
    → ¬ Covers ((words_of c.geometry c.row).place n) (size_in c history n) ((spaces_of c.geometry (words_of c.geometry c.row).cycle).current + offset)
unfolding shades_of
link_in_no_object c history h k item cycle offset few hand n kept covered =
    let g = c.geometry in
    let w = words_of g c.row in
    let z = spaces_of g w.cycle in
    let names = names_of g history in
    let sh = shades_of g w (flight_at c) c.spot.line names in
    let m = layout.reference_number item in
    let means = shades_mean g w (flight_at c) c.spot.line names in
    let o = h.facts.claims_unlinked k item cycle offset few hand in
    let some : 0 < sh.size m = size_some names m in
    let within : offset + sh.size m ≤ w.reserved = h.facts.ranges_within offset m o.has_range in
    let fits : offset + sh.size m ≤ z.live = o.fits in
    let busy : is_resting c.spot.line ≡ false = elim (cases_Bool (is_resting c.spot.line)) [
      | inl rest ↦ let none : w.reserved ≡ 0 = h.facts.nothing_reserved_at_rest rest in absurd (omega arith)
      | inr busy ↦ busy
    ] in
    let after : w.place n ≤ z.current + offset = covered.after in
    let before : z.current + offset < w.place n + sh.size n = covered.before in
    let grey = means.grey m o.is_grey in
    let grey_after : z.old ≤ w.place m = grey.after in
    let grey_before : w.place m < z.old + (z.live + z.alloc) = grey.before in
    elim (h.facts.objects_in_one_space n kept) [
      | inl old ↦
          let from : z.old ≤ w.place n = old.after in
          let to : w.place n + sh.size n ≤ z.old + (z.live + z.alloc) = old.before in
          elim means.spaces [ inl a ↦ absurd (omega arith) | inr a ↦ absurd (omega arith) ]
      | inr current ↦
          let from : z.current ≤ w.place n = current.after in
          let to : w.place n + sh.size n ≤ z.current + (z.live + z.alloc) = current.before in
          let x = w.place n - z.current in
          let stands : w.place n ≡ z.current + x = omega arith in
          let moved : h.range x ≡ Some n = h.facts.moved_stands_in_range busy n x kept stands (omega arith) in
          elim (cases_eq x offset) [
            | inl same ↦
                let one : w.place m ≡ w.place n = ap w.place (one_value (h.range offset) m n o.has_range (ap h.range (sym same) ∙ moved)) in
                elim means.spaces [ inl a ↦ absurd (omega arith) | inr a ↦ absurd (omega arith) ]
            | inr differ ↦ never_both (h.range offset) m (h.facts.ranges_apart x n offset moved (omega arith) (omega arith)) o.has_range
          ]
    ]
