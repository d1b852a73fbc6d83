-- Lawful states: a state of the machine that is as the calls of a history, done one after another on the plain heap, say.
use Rattle.std.specs.Prelude.{ℕ, nat_lt, Option, if◌then◌else◌}
use Rattle.hk_words.specs.declared.geometry.Geometry.{Geometry}
use Rattle.hk_words.specs.Geometry.{tasks}
use Rattle.hk_model.specs.Heap.{opening_of}
use Rattle.hk_model.specs.History.{History, Legal}
use Rattle.hk_core.specs.declared.flight.Flight.{Flight}
use Rattle.hk_core.specs.declared.spot.Spot.{Spot}
use Rattle.hk_core.specs.State.{State, IsSized}
use Rattle.hk_core.specs.Collect.{current_space, next_list}
use Rattle.hk_core.specs.View.{Words, Names, Contents, words_of, names_of, contents_of, flight_at, begun_at, reference_at}
use Rattle.hk_core.specs.Flights.{Hand, hand_of_flight}
use Rattle.hk_core.specs.Lines.{is_resting, written, marked, emptied, cleared, hand_of_spot}
use Rattle.hk_core.specs.Colours.{Spaces, spaces_of, Shades, shades_of}
use Rattle.hk_core.specs.Facts as fact

-- the claims in hand: those of the seats, and that of the collector after them
unfoldable pub hands_of : Geometry → (ℕ → Flight) → Spot → ℕ → Hand
hands_of g flight t k = if nat_lt k (tasks g) then hand_of_flight g (flight k) else hand_of_spot t

-- All facts, of the words `w`, the flights, the begun calls, the spot `t`, and the names and the contents of the plain
-- heap. The spaces `z`, the shades `sh` and the claims in hand follow from these. The ranges are a ghost: no word holds
-- them, and Lawful says that there are some.
pub record Facts (g : Geometry) (w : Words) (z : Spaces) (sh : Shades) (flight : ℕ → Flight) (begun : ℕ → ℕ) (hand : ℕ → Hand) (t : Spot)
    (names : Names) (contents : Contents) (range : ℕ → Option ℕ) : Type 0 where
  -- single words
  pub spot_knows_cycle : fact.SpotKnowsCycle w.cycle t.cycle
  pub cycle_fits : fact.CycleFits w.cycle
  pub marks_above_are_written : fact.MarksAboveAreWritten g w.cycle w.mark (w.entry (next_list w.cycle)) (marked g t t.line)
  pub frames_not_ahead : fact.FramesNotAhead g w.cycle w.frame_cycle
  pub objects_have_two_words : fact.ObjectsHaveTwoWords w.objects w.used
  pub used_stays_bounded : fact.UsedStaysBounded g w.used flight
  pub objects_stay_bounded : fact.ObjectsStayBounded g w.objects flight
  pub begun_bounded : fact.BegunBounded g begun
  pub versions_bounded : fact.VersionsBounded g w.version flight begun
  pub frame_versions_bounded : fact.FrameVersionsBounded g w.frame_version flight begun
  pub accessors_counted : fact.AccessorsCounted g w.accessors flight
  pub frame_accessors_counted : fact.FrameAccessorsCounted g w.frame_accessors flight
  -- kept births
  pub registers_shown : fact.RegistersShown g names w.register contents.register flight
  pub registers_good : fact.RegistersGood g sh.kept names w.register
  pub registers_kept : fact.RegistersKept g sh.kept names contents.register
  pub entered_good : fact.EnteredGood g sh.kept names flight
  pub loaded_good : fact.LoadedGood g sh.kept names flight
  pub cell_good : fact.CellGood sh.kept names t.line t.cell
  pub links_kept : fact.LinksKept sh.kept names contents.link
  pub links_shown : fact.LinksShown sh.kept names w.place w.cell contents.link
  pub values_shown : fact.ValuesShown sh.kept names w.place w.cell contents.value
  pub objects_in_one_space : fact.ObjectsInOneSpace z sh.kept w.place sh.size
  pub objects_apart : fact.ObjectsApart sh.kept w.place sh.size
  pub objects_apart_from_new : fact.ObjectsApartFromNew g sh.kept w.place sh.size flight
  pub news_apart : fact.NewsApart g flight
  pub unclaimed_is_old : fact.UnclaimedIsOld z w.cycle sh.kept w.place w.mark sh.size
  -- the two spaces
  pub objects_below_used : fact.ObjectsBelowUsed z w.used sh.kept w.place sh.size
  pub moved_stands_in_range : fact.MovedStandsInRange z (is_resting t.line) sh.kept w.place range
  pub free_is_zero : fact.FreeIsZero z sh.kept w.place sh.size w.cell
  pub unreserved_is_zero : fact.UnreservedIsZero z (is_resting t.line) sh.size w.cell range
  pub unused_is_zero : fact.UnusedIsZero z (is_resting t.line) sh.kept w.place sh.size w.cell
  pub cleared_is_zero : fact.ClearedIsZero z (cleared g t.line) w.cell
  -- ranges
  pub ranges_within : fact.RangesWithin w.reserved sh.size range
  pub ranges_join : fact.RangesJoin w.reserved sh.size range
  pub first_range : fact.FirstRange w.reserved range
  pub ranges_apart : fact.RangesApart sh.size range
  pub nothing_reserved_at_rest : fact.NothingReservedAtRest (is_resting t.line) w.reserved
  pub one_range_each : fact.OneRangeEach range
  pub ranges_below_moved : fact.RangesBelowMoved z w.cycle t.scan sh.kept w.place w.mark sh.size range
  pub ranges_above_grey : fact.RangesAboveGrey t.scan sh.kept sh.grey range
  pub ranges_linked : fact.RangesLinked z sh.size w.cell (reference_at names) range
  pub scan_bounded : fact.ScanBounded z (is_resting t.line) t.scan w.reserved
  pub marks_few : fact.MarksFew g t.line w.cycle w.reserved w.mark hand
  -- claims in hand
  pub claims_unreserved : fact.ClaimsUnreserved g w.cycle sh.grey range hand
  pub claims_unlinked : fact.ClaimsUnlinked g z w.cycle sh.grey sh.size w.cell range hand
  pub claims_apart : fact.ClaimsApart g hand
  pub grey_waits : fact.GreyWaits g sh.grey range hand
  pub unlinked_waits : fact.UnlinkedWaits g z sh.size w.cell range hand
  -- lists
  pub unread_free : fact.UnreadFree g w.cycle w.objects w.accessors w.place w.version w.mark (w.entry (current_space w.cycle))
  pub unread_distinct : fact.UnreadDistinct g w.objects (w.entry (current_space w.cycle))
  pub own_entries : fact.OwnEntries g w.accessors w.place w.version w.mark w.entry flight
  pub own_entries_distinct : fact.OwnEntriesDistinct g w.entry flight
  pub own_entries_read : fact.OwnEntriesRead g w.objects (w.entry (current_space w.cycle)) w.entry flight
  pub number_is_own : fact.NumberIsOwn g w.entry flight
  pub written_numbers : fact.WrittenNumbers g (written g t t.line) (w.entry (next_list w.cycle))
  pub written_distinct : fact.WrittenDistinct (written g t t.line) (w.entry (next_list w.cycle))
  pub written_marked : fact.WrittenMarked w.cycle (marked g t t.line) w.mark (w.entry (next_list w.cycle))
  pub written_empty : fact.WrittenEmpty (emptied g t t.line) w.accessors w.place w.version (w.entry (next_list w.cycle))
  pub sweep_in_step : fact.SweepInStep g w.cycle t.entries w.mark (w.entry (next_list w.cycle)) t.line
  pub swept_marked : fact.SweptMarked w.cycle w.mark t.line
  -- News that have raised W0
  pub news_found_room : fact.NewsFoundRoom g w.cycle w.used flight
  pub news_clean : fact.NewsClean g w.cell flight
  pub news_recent : fact.NewsRecent g w.cycle flight
  -- calls in flight
  pub flights_formed : fact.FlightsFormed g flight
  pub news_in_step : fact.NewsInStep g flight
  pub fields_there : fact.FieldsThere g flight
  pub entered_stays : fact.EnteredStays g w.register flight
  pub place_known : fact.PlaceKnown g w.place flight
  pub loaded_recent : fact.LoadedRecent g w.cycle flight
  pub loaded_stays : fact.LoadedStays g w.register flight
  pub copied_stays : fact.CopiedStays g w.register flight
  pub claims_last : fact.ClaimsLast g w.mark flight
  -- colours
  pub black_leads_to_no_white : fact.BlackLeadsToNoWhite sh.white sh.black sh.kept names contents.link
  pub black_frame_has_no_white : fact.BlackFrameHasNoWhite g sh.white sh.black_frame w.register
  pub late_in_no_black_object : fact.LateInNoBlackObject g w.cycle sh.black flight
  pub late_in_no_black_frame : fact.LateInNoBlackFrame g w.cycle sh.black_frame flight
  pub loaded_white_from_no_black : fact.LoadedWhiteFromNoBlack g sh.white sh.black flight
  pub entered_white_in_no_black_frame : fact.EnteredWhiteInNoBlackFrame g sh.white sh.black_frame flight
  -- the collector
  pub spot_formed : fact.SpotFormed g t
  pub frames_blackened : fact.FramesBlackened g sh.black_frame t.line
  pub frame_attempt_behind : fact.FrameAttemptBehind g t.line t.first w.frame_accessors w.frame_cycle w.frame_version
  pub registers_passed : fact.RegistersPassed g t.line w.cycle t.first w.frame_version w.register w.mark
  pub register_in_work : fact.RegisterInWork t.line t.first t.cell w.frame_version w.register
  pub cell_claimed : fact.CellClaimed t.line w.cycle t.item t.cell w.mark
  pub scan_at_range : fact.ScanAtRange z t.line t.scan sh.size range
  pub item_is_linked : fact.ItemIsLinked z t.line t.scan t.item w.cell
  pub object_attempt_behind : fact.ObjectAttemptBehind t t.line t.first t.item w.accessors w.place w.version
  pub cells_passed : fact.CellsPassed t t.line w.cycle t.first t.item w.version w.mark w.cell
  pub cells_copied : fact.CellsCopied z t t.line t.scan t.first t.item w.version w.cell
  pub cell_loaded : fact.CellLoaded t.line t.first t.item t.cell w.version w.cell
  pub pass_meets_grey : fact.PassMeetsGrey g t.line sh.grey (fact.IsSettled g w.cycle sh.white sh.grey w.register flight)
  pub settled_from_sweep : fact.SettledFromSweep t.line (fact.IsSettled g w.cycle sh.white sh.grey w.register flight)
  pub spent_bounded : fact.SpentBounded g t

-- all facts, of what a state and a history are seen as
abbrev pub FactsOf : Geometry → Words → (flight : ℕ → Flight) → (begun : ℕ → ℕ) → Spot → Names → Contents → (range : ℕ → Option ℕ) → Type 0
FactsOf g w flight begun t names contents range =
    Facts g w (spaces_of g w.cycle) (shades_of g w flight t.line names) flight begun (hands_of g flight t) t names contents range

-- A state is lawful for a history where the history is legal, and for some ranges all facts hold of what the row, the
-- flights, the begun calls and the spot say, and of the plain heap after the history.
pub record Lawful (c : State) (history : History) : Type 0 where
  pub sized : IsSized c
  pub legal : Legal (opening_of c.geometry) history
  pub range : ℕ → Option ℕ
  pub facts : FactsOf c.geometry (words_of c.geometry c.row) (flight_at c) (begun_at c) c.spot
      (names_of c.geometry history) (contents_of c.geometry history) range

-- a state is lawful where it is so for some history
abbrev pub IsLawful : State → Type 0
IsLawful c = (history : History) × Lawful c history
