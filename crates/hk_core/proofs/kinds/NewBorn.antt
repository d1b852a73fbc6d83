-- The plain heap has one more birth, and its number is kept: what holds of the new birth, and that the facts hold then.
use Rattle.std.proofs.Common.{◌≡◌, ◌≢◌, ◌⊎◌, ℕ, ◌+◌, ◌<◌, ◌≤◌, true, false, inl, inr, refl, sym, ◌∙◌, ap, arith, subst, Option, Some, None}
use Rattle.std.proofs.lemmas.Bool.{both_ways, cases_lt}
use Rattle.std.specs.Prelude.{option_map, unwrap_or}
use Rattle.hk_words.specs.declared.geometry.Geometry.{Geometry}
use Rattle.hk_words.specs.declared.shape.Shape.{Shape}
use Rattle.hk_words.specs.Geometry.{tasks}
use Rattle.hk_words.specs.Layout as layout
use Rattle.hk_words.specs.Shape.{size}
use Rattle.hk_model.specs.View.{upd}
use Rattle.hk_model.proofs.Updates.{upd_same, upd_other}
use Rattle.hk_core.specs.declared.flight.Flight.{Flight}
use Rattle.hk_core.specs.declared.spot.Spot.{Spot}
use Rattle.hk_core.specs.Step.{new_place}
use Rattle.hk_core.specs.View.{Words, Names, Contents, shown, refs_at, nums_at, size_at, reference_at}
use Rattle.hk_core.specs.Flights as f
use Rattle.hk_core.specs.Flights.{Hand}
use Rattle.hk_core.specs.Lines as l
use Rattle.hk_core.specs.Colours.{Spaces, Shades, InOld, InCurrent, Apart, IsGood, IsNullOrGood, IsKeptBirth, IsNullOrKept}
use Rattle.hk_core.specs.Facts as fact
use Rattle.hk_core.specs.Facts.{HoldsRange}
use Rattle.hk_core.specs.Lawful.{Facts}
use Rattle.hk_core.proofs.Update.{upd_cases}

-- the names after a birth of a shape was given a number
abbrev pub born_names : Names → (number birth : ℕ) → Shape → Names
born_names names number birth shape = record {
  bearer = upd names.bearer number (Some birth);
  number = upd names.number birth number;
  refs = upd names.refs birth shape.refs;
  nums = upd names.nums birth shape.nums;
}

-- the shades after that: the number is kept, and has the words of the shape
abbrev pub born_shades : Shades → ℕ → Shape → Shades
born_shades sh number shape = record sh { kept = upd sh.kept number true; size = upd sh.size number (size shape) }

-- a birth that is still to come: no number has it, and its cells would be null and 0
pub record IsNextBirth (names : Names) (contents : Contents) (birth : ℕ) : Type 0 where
  pub unborn : (n : ℕ) → names.bearer n ≢ Some birth
  pub no_links : (i : ℕ) → contents.link birth i ≡ None
  pub no_values : (i : ℕ) → contents.value birth i ≡ 0

-- what a number shows that is to bear an object of a shape: its words are 0, lie in one space and overlap no others
pub record IsReady (g : Geometry) (w : Words) (z : Spaces) (sh : Shades) (flight : ℕ → Flight) (shape : Shape) (n : ℕ) : Type 0 where
  pub not_kept : sh.kept n ≡ false
  pub clean : (i : ℕ) → i < size shape → w.cell (w.place n + i) ≡ 0
  pub one_space : InOld z (w.place n) (size shape) ⊎ InCurrent z (w.place n) (size shape)
  pub apart : (m : ℕ) → sh.kept m ≡ true → Apart (w.place m) (sh.size m) (w.place n) (size shape)
  pub apart_from_new : (s : ℕ) → s < tasks g → f.is_making (flight s) ≡ true → Apart (w.place n) (size shape) (new_place g (flight s)) (f.new_size (flight s))
  pub unclaimed : w.mark n < w.cycle → InOld z (w.place n) (size shape)
  pub below_used : InCurrent z (w.place n) (size shape) → w.place n + size shape ≤ z.current + (z.live + w.used)
  pub not_moved : (x : ℕ) → w.place n ≡ z.current + x → z.live ≤ x

-- what is read of a birth by way of a number, where another birth is added
read_same : (h : ℕ → ℕ) (b v : ℕ) (o : Option ℕ) → o ≢ Some b → unwrap_or (option_map (upd h b v) o) 0 ≡ unwrap_or (option_map h o) 0
read_same h b v None d = refl
read_same h b v (Some k) d = upd_other h b v k (λ e. d (ap Some e))

some_same : (a b : ℕ) → ◌≡◌ {A = Option ℕ} (Some a) (Some b) → a ≡ b
some_same a b e = cc

no_some : {A : Type 0} (b : ℕ) → ◌≡◌ {A = Option ℕ} None (Some b) → A
no_some b e = absurd (cc)

turned_apart : (a b c d : ℕ) → Apart a b c d → Apart c d a b
turned_apart a b c d (inl e) = inr e
turned_apart a b c d (inr e) = inl e

module _ (names : Names) (n b : ℕ) (shape : Shape) (unborn : (m : ℕ) → names.bearer m ≢ Some b) where
  bearer_else : (m : ℕ) → m ≢ n → (born_names names n b shape).bearer m ≡ names.bearer m
  bearer_else m differ = upd_other names.bearer n (Some b) m differ

  bears_here : (born_names names n b shape).bearer n ≡ Some b
  bears_here = upd_same names.bearer n (Some b)

  refs_same : (m : ℕ) → m ≢ n → refs_at (born_names names n b shape) m ≡ refs_at names m
  unfolding refs_at
  refs_same m differ = rw (bearer_else m differ) (read_same names.refs b shape.refs (names.bearer m) (unborn m))

  nums_same : (m : ℕ) → m ≢ n → nums_at (born_names names n b shape) m ≡ nums_at names m
  unfolding nums_at
  nums_same m differ = rw (bearer_else m differ) (read_same names.nums b shape.nums (names.bearer m) (unborn m))

  refs_here : refs_at (born_names names n b shape) n ≡ shape.refs
  unfolding refs_at
  refs_here = rw bears_here (upd_same names.refs b shape.refs)

  nums_here : nums_at (born_names names n b shape) n ≡ shape.nums
  unfolding nums_at
  nums_here = rw bears_here (upd_same names.nums b shape.nums)

  pub reference_same : (m : ℕ) → m ≢ n → reference_at (born_names names n b shape) m ≡ reference_at names m
  unfolding reference_at
  reference_same m differ = rw (refs_same m differ, nums_same m differ) refl

  pub reference_here : reference_at (born_names names n b shape) n ≡ layout.pack_reference n shape.refs shape.nums
  unfolding reference_at
  reference_here = rw (refs_here, nums_here) refl

  pub size_same : (m : ℕ) → m ≢ n → size_at (born_names names n b shape) m ≡ size_at names m
  unfolding size_at
  size_same m differ = rw (refs_same m differ, nums_same m differ) refl

  pub size_here : size_at (born_names names n b shape) n ≡ size shape
  unfolding size_at
  size_here = rw (refs_here, nums_here) refl

  pub shown_here : shown (born_names names n b shape) (Some b) ≡ layout.pack_reference n shape.refs shape.nums
  unfolding shown
  shown_here = rw (upd_same names.number b n, upd_same names.refs b shape.refs, upd_same names.nums b shape.nums) refl

  shown_other : (o : Option ℕ) → o ≢ Some b → shown (born_names names n b shape) o ≡ shown names o
  unfolding shown
  shown_other None d = refl
  shown_other (Some k) d =
      let differ : k ≢ b = λ e. d (ap Some e) in
      rw (upd_other names.number b n k differ, upd_other names.refs b shape.refs k differ, upd_other names.nums b shape.nums k differ) refl

module _ (g : Geometry) (w : Words) (z : Spaces) (sh : Shades) (flight : ℕ → Flight) (begun : ℕ → ℕ) (hand : ℕ → Hand) (t : Spot)
    (names : Names) (contents : Contents) (range : ℕ → Option ℕ) (n b : ℕ) (shape : Shape)
    (next : IsNextBirth names contents b) (ready : IsReady g w z sh flight shape n) (h : Facts g w z sh flight begun hand t names contents range) where
  -- the names and the shades after the birth
  abbrev names' : Names
  names' = born_names names n b shape

  abbrev sh' : Shades
  sh' = born_shades sh n shape

  -- THE KEPT NUMBERS

  kept_else : (m : ℕ) → sh.kept m ≡ true → m ≢ n
  kept_else m kept same = both_ways _ ready.not_kept (ap sh.kept (sym same) ∙ kept)

  kept_still : (m : ℕ) → sh.kept m ≡ true → sh'.kept m ≡ true
  kept_still m kept = upd_other sh.kept n true m (kept_else m kept) ∙ kept

  -- a kept number is the new one, or was kept before
  kept_cases : (m : ℕ) → sh'.kept m ≡ true → (m ≡ n) ⊎ ((m ≢ n) × (sh.kept m ≡ true))
  kept_cases m kept = elim (upd_cases sh.kept n true m) [ inl (e, u) ↦ inl e | inr (d, u) ↦ inr (d, sym u ∙ kept) ]

  size_of_kept : (m : ℕ) → sh.kept m ≡ true → sh'.size m ≡ sh.size m
  size_of_kept m kept = upd_other sh.size n (size shape) m (kept_else m kept)

  size_of_new : sh'.size n ≡ size shape
  size_of_new = upd_same sh.size n (size shape)

  -- REFERENCES

  good_still : (word : ℕ) → IsGood sh.kept names word → IsGood sh'.kept names' word
  good_still word o = record {
    some = o.some;
    is_kept = kept_still _ o.is_kept;
    shows = o.shows ∙ sym (reference_same names n b shape next.unborn _ (kept_else _ o.is_kept));
  }

  null_or_good : (word : ℕ) → IsNullOrGood sh.kept names word → IsNullOrGood sh'.kept names' word
  null_or_good word (inl null) = inl null
  null_or_good word (inr o) = inr (good_still word o)

  -- a kept birth isn't the new one
  born_before : (k : ℕ) → IsKeptBirth sh.kept names k → k ≢ b
  born_before k o same = next.unborn (names.number k) (o.bears ∙ ap Some same)

  number_of_kept : (k : ℕ) → IsKeptBirth sh.kept names k → names'.number k ≡ names.number k
  number_of_kept k o = upd_other names.number b n k (born_before k o)

  birth_still : (k : ℕ) → IsKeptBirth sh.kept names k → IsKeptBirth sh'.kept names' k
  birth_still k o = record {
    is_kept = rw (number_of_kept k o) (kept_still _ o.is_kept);
    bears = rw (number_of_kept k o) (bearer_else names n b shape next.unborn _ (kept_else _ o.is_kept) ∙ o.bears);
  }

  null_or_kept : (link : Option ℕ) → IsNullOrKept sh.kept names link → IsNullOrKept sh'.kept names' link
  null_or_kept link (inl null) = inl null
  null_or_kept link (inr o) = inr (o.0, o.1, birth_still o.0 o.2)

  shows_still : (link : Option ℕ) → IsNullOrKept sh.kept names link → shown names' link ≡ shown names link
  shows_still link (inl null) = shown_other names n b shape next.unborn link (λ e. no_some b (sym null ∙ e))
  shows_still link (inr o) = shown_other names n b shape next.unborn link (λ e. born_before o.0 o.2 (some_same o.0 b (sym o.1 ∙ e)))

  -- WHAT BEARS A NUMBER

  -- the bearer of a number that was kept is the one that it was
  pub record BoreBefore (m k : ℕ) : Type 0 where
    pub bears : names.bearer m ≡ Some k
    pub refs : names'.refs k ≡ names.refs k
    pub nums : names'.nums k ≡ names.nums k

  bore_before : (m k : ℕ) → m ≢ n → names'.bearer m ≡ Some k → BoreBefore m k
  bore_before m k differ borne =
      let bears : names.bearer m ≡ Some k = sym (bearer_else names n b shape next.unborn m differ) ∙ borne in
      let other : k ≢ b = λ e. next.unborn m (bears ∙ ap Some e) in
      record { bears = bears; refs = upd_other names.refs b shape.refs k other; nums = upd_other names.nums b shape.nums k other }

  -- the bearer of the new one is the new birth
  bears_new : (m k : ℕ) → m ≡ n → names'.bearer m ≡ Some k → k ≡ b
  bears_new m k same borne = some_same k b (sym borne ∙ ap names'.bearer same ∙ bears_here names n b shape next.unborn)

  refs_of_new : (k : ℕ) → k ≡ b → names'.refs k ≡ shape.refs
  refs_of_new k same = ap names'.refs same ∙ upd_same names.refs b shape.refs

  nums_of_new : (k : ℕ) → k ≡ b → names'.nums k ≡ shape.nums
  nums_of_new k same = ap names'.nums same ∙ upd_same names.nums b shape.nums

  -- THE FACTS OF KEPT BIRTHS

  links_kept : fact.LinksKept sh'.kept names' contents.link
  links_kept m k kept borne i within = elim (kept_cases m kept) [
    | inl e ↦ inl (ap (λ (j : ℕ). contents.link j i) (bears_new m k e borne) ∙ next.no_links i)
    | inr (d, was) ↦ let o = bore_before m k d borne in null_or_kept (contents.link k i) (h.links_kept m k was o.bears i (rw o.refs at within))
  ]

  links_shown : fact.LinksShown sh'.kept names' w.place w.cell contents.link
  unfolding shown
  links_shown m k kept borne i within = elim (kept_cases m kept) [
    | inl e ↦
        let same : k ≡ b = bears_new m k e borne in
        let refs : names'.refs k ≡ shape.refs = refs_of_new k same in
        let few : i < names'.refs k = within in
        let stands : w.place m ≡ w.place n = ap w.place e in
        let here : w.place m + 1 + i ≡ w.place n + (1 + i) = omega arith in
        let none : contents.link k i ≡ None = ap (λ (j : ℕ). contents.link j i) same ∙ next.no_links i in
        ap w.cell here ∙ ready.clean (1 + i) (omega arith) ∙ sym (ap (shown names') none)
    | inr (d, was) ↦
        let o = bore_before m k d borne in
        let few : i < names.refs k = rw o.refs at within in
        h.links_shown m k was o.bears i few ∙ sym (shows_still (contents.link k i) (h.links_kept m k was o.bears i few))
  ]

  values_shown : fact.ValuesShown sh'.kept names' w.place w.cell contents.value
  values_shown m k kept borne i within = elim (kept_cases m kept) [
    | inl e ↦
        let same : k ≡ b = bears_new m k e borne in
        let refs : names'.refs k ≡ shape.refs = refs_of_new k same in
        let nums : names'.nums k ≡ shape.nums = nums_of_new k same in
        let few : i < names'.nums k = within in
        let stands : w.place m ≡ w.place n = ap w.place e in
        let here : w.place m + 1 + names'.refs k + i ≡ w.place n + (1 + shape.refs + i) = omega arith in
        ap w.cell here ∙ ready.clean (1 + shape.refs + i) (omega arith) ∙ sym (ap (λ (j : ℕ). contents.value j i) same ∙ next.no_values i)
    | inr (d, was) ↦ let o = bore_before m k d borne in rw o.refs (h.values_shown m k was o.bears i (rw o.nums at within))
  ]

  black_leads : fact.BlackLeadsToNoWhite sh.white sh.black sh'.kept names' contents.link
  black_leads m k kept black borne i child within holds = elim (kept_cases m kept) [
    | inl e ↦ no_some child (sym (ap (λ (j : ℕ). contents.link j i) (bears_new m k e borne) ∙ next.no_links i) ∙ holds)
    | inr (d, was) ↦
        let o = bore_before m k d borne in
        let few : i < names.refs k = rw o.refs at within in
        dark (contents.link k i) child (h.links_kept m k was o.bears i few) holds (h.black_leads_to_no_white m k was black o.bears i child few holds)
  ]
    where
      dark : (link : Option ℕ) (child : ℕ) → IsNullOrKept sh.kept names link → link ≡ Some child → sh.white (names.number child) ≡ false → sh.white (names'.number child) ≡ false
      dark link child (inl null) e white = no_some child (sym null ∙ e)
      dark link child (inr o) e white =
          let same : o.0 ≡ child = some_same o.0 child (sym o.1 ∙ e) in
          let birth : IsKeptBirth sh.kept names child = subst (λ k. IsKeptBirth sh.kept names k) same o.2 in
          rw (number_of_kept child birth) white

  -- WHERE THE OBJECTS ARE

  one_space : fact.ObjectsInOneSpace z sh'.kept w.place sh'.size
  one_space m kept = elim (kept_cases m kept) [
    | inl e ↦ rw (e, size_of_new) ready.one_space
    | inr (d, was) ↦ rw (size_of_kept m was) (h.objects_in_one_space m was)
  ]

  objects_apart : fact.ObjectsApart sh'.kept w.place sh'.size
  objects_apart m k kept kept' differ = elim (kept_cases m kept) [
    | inl e ↦ elim (kept_cases k kept') [
      | inl i ↦ absurd (differ (e ∙ sym i))
      | inr (d, was) ↦ rw (e, size_of_new, size_of_kept k was) (turned_apart _ _ _ _ (ready.apart k was))
    ]
    | inr (d, was) ↦ elim (kept_cases k kept') [
      | inl i ↦ rw (i, size_of_new, size_of_kept m was) (ready.apart m was)
      | inr (c, is) ↦ rw (size_of_kept m was, size_of_kept k is) (h.objects_apart m k was is differ)
    ]
  ]

  apart_from_new : fact.ObjectsApartFromNew g sh'.kept w.place sh'.size flight
  apart_from_new s m below making kept = elim (kept_cases m kept) [
    | inl e ↦ rw (e, size_of_new) (ready.apart_from_new s below making)
    | inr (d, was) ↦ rw (size_of_kept m was) (h.objects_apart_from_new s m below making was)
  ]

  unclaimed : fact.UnclaimedIsOld z w.cycle sh'.kept w.place w.mark sh'.size
  unclaimed m kept = elim (kept_cases m kept) [
    | inl e ↦ rw (e, size_of_new) ready.unclaimed
    | inr (d, was) ↦ rw (size_of_kept m was) (h.unclaimed_is_old m was)
  ]

  below_used : fact.ObjectsBelowUsed z w.used sh'.kept w.place sh'.size
  below_used m kept = elim (kept_cases m kept) [
    | inl e ↦ rw (e, size_of_new) ready.below_used
    | inr (d, was) ↦ rw (size_of_kept m was) (h.objects_below_used m was)
  ]

  moved : fact.MovedStandsInRange z (l.is_resting t.line) sh'.kept w.place range
  moved busy m x kept stands few = elim (kept_cases m kept) [
    | inl e ↦ let far = ready.not_moved x (ap w.place (sym e) ∙ stands) in absurd (omega arith)
    | inr (d, was) ↦ h.moved_stands_in_range busy m x was stands few
  ]

  -- RANGES

  -- the number of a range was kept before
  range_kept : (x k : ℕ) → range x ≡ Some k → sh.kept k ≡ true
  range_kept x k there = elim (cases_lt x t.scan) [
    | inl low ↦ (h.ranges_below_moved x k there low).is_kept
    | inr high ↦ (h.ranges_above_grey x k there high).0
  ]

  size_in_range : (x k : ℕ) → range x ≡ Some k → sh'.size k ≡ sh.size k
  size_in_range x k there = size_of_kept k (range_kept x k there)

  -- ALL FACTS

  pub born_facts : Facts g w z sh' flight begun hand t names' contents range
  born_facts =
      let shows : fact.RegistersShown g names' w.register contents.register flight = λ s r a c. h.registers_shown s r a c ∙ sym (shows_still (contents.register s r) (h.registers_kept s r a c)) in
      let good : fact.RegistersGood g sh'.kept names' w.register = λ s r a c. null_or_good (w.register s r) (h.registers_good s r a c) in
      let kept : fact.RegistersKept g sh'.kept names' contents.register = λ s r a c. null_or_kept (contents.register s r) (h.registers_kept s r a c) in
      let entered : fact.EnteredGood g sh'.kept names' flight = λ s a through flying. good_still (flight s).entered (h.entered_good s a through flying) in
      let loaded : fact.LoadedGood g sh'.kept names' flight = λ s a e. null_or_good (flight s).item (h.loaded_good s a e) in
      let cell : fact.CellGood sh'.kept names' t.line t.cell = λ e. good_still t.cell (h.cell_good e) in
      let l1 : fact.LinksKept sh'.kept names' contents.link = links_kept in
      let l2 : fact.LinksShown sh'.kept names' w.place w.cell contents.link = links_shown in
      let l3 : fact.ValuesShown sh'.kept names' w.place w.cell contents.value = values_shown in
      let l4 : fact.BlackLeadsToNoWhite sh.white sh.black sh'.kept names' contents.link = black_leads in
      let o1 : fact.ObjectsInOneSpace z sh'.kept w.place sh'.size = one_space in
      let o2 : fact.ObjectsApart sh'.kept w.place sh'.size = objects_apart in
      let o3 : fact.ObjectsApartFromNew g sh'.kept w.place sh'.size flight = apart_from_new in
      let o4 : fact.UnclaimedIsOld z w.cycle sh'.kept w.place w.mark sh'.size = unclaimed in
      let o5 : fact.ObjectsBelowUsed z w.used sh'.kept w.place sh'.size = below_used in
      let o6 : fact.MovedStandsInRange z (l.is_resting t.line) sh'.kept w.place range = moved in
      let free : fact.FreeIsZero z sh'.kept w.place sh'.size w.cell = λ i within none. h.free_is_zero i within (λ k was. rw (size_of_kept k was) at (none k (kept_still k was))) in
      let unused : fact.UnusedIsZero z (l.is_resting t.line) sh'.kept w.place sh'.size w.cell = λ rests i within none.
      h.unused_is_zero rests i within (λ k was. rw (size_of_kept k was) at (none k (kept_still k was))) in
      let unreserved : fact.UnreservedIsZero z (l.is_resting t.line) sh'.size w.cell range = λ busy x within none.
      h.unreserved_is_zero busy x within (λ y k there. rw (size_in_range y k there) at (none y k there)) in
      let within : fact.RangesWithin w.reserved sh'.size range = λ x k there. rw (size_in_range x k there) (h.ranges_within x k there) in
      let join : fact.RangesJoin w.reserved sh'.size range = λ x k there. rw (size_in_range x k there) (h.ranges_join x k there) in
      let apart : fact.RangesApart sh'.size range = λ x k y there. rw (size_in_range x k there) (h.ranges_apart x k y there) in
      let below_moved : fact.RangesBelowMoved z w.cycle t.scan sh'.kept w.place w.mark sh'.size range = λ x k there low.
      let o = h.ranges_below_moved x k there low in
      record { is_kept = kept_still k o.is_kept; is_claimed = o.is_claimed; stands = o.stands; ends = rw (size_of_kept k o.is_kept) o.ends } in
      let above_grey : fact.RangesAboveGrey t.scan sh'.kept sh.grey range = λ x k there high. let o = h.ranges_above_grey x k there high in (kept_still k o.0, o.1) in
      let linked : fact.RangesLinked z sh'.size w.cell (reference_at names') range = λ x k there.
      rw (size_in_range x k there, reference_same names n b shape next.unborn k (kept_else k (range_kept x k there))) (h.ranges_linked x k there) in
      let unlinked : fact.ClaimsUnlinked g z w.cycle sh.grey sh'.size w.cell range hand = λ k item cycle offset a e.
      let o : HoldsRange z w.cycle sh.grey sh.size w.cell range item cycle offset = h.claims_unlinked k item cycle offset a e in
      record { some = o.some; of_cycle = o.of_cycle; is_grey = o.is_grey; has_range = o.has_range; fits = rw (size_in_range offset (layout.reference_number item) o.has_range) o.fits; unlinked = o.unlinked } in
      let waits : fact.UnlinkedWaits g z sh'.size w.cell range hand = λ x k there fits e. h.unlinked_waits x k there (rw (size_in_range x k there) at fits) e in
      let scans : fact.ScanAtRange z t.line t.scan sh'.size range = λ e. let o = h.scan_at_range e in (o.0, o.1, rw (size_in_range t.scan o.0 o.1) o.2) in
      assumption
