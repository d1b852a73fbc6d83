-- The rectangles of a picture are the whole runs of its ticks.
use Rattle.std.proofs.Common.{◌≡◌, ℕ, zero, suc, ◌+◌, ◌<◌, ◌≤◌, ◌⊎◌, inl, inr, Bool, true, false, ◌&&◌, List, [], ◌∷◌, ◌++◌, length, Option, Some, None, Result, Ok, Err, refl, sym, ap, ◌∙◌, subst, arith, append_assoc, append-nil, true≢false}
use Rattle.std.specs.Prelude.{slice_get, nat_lt, nat_le, ◌==◌, if◌then◌else◌}
use Rattle.std.proofs.lemmas.Bool.{both_ways, cases_lt, and_parts, leb-true, le-leb, eqb-true, and_from}
use Rattle.std.proofs.lemmas.List.{length-append}
use Rattle.std.proofs.lemmas.List.Concat.{flat_map-append}
use Rattle.std.proofs.lemmas.Option.{none-some, same_Some, slice_get_within}
use Rattle.hk_io.specs.declared.line.TheConstants.{LINE_ROOM}
use Rattle.hk_chart.specs.declared.chart.Chart.{Chart}
use Rattle.hk_chart.specs.declared.progress.Progress.{Progress}
use Rattle.hk_chart.specs.declared.progress.TheConstants.{MAX_TICKS}
use Rattle.hk_chart.specs.declared.reader.Reader.{Reader}
use Rattle.hk_chart.specs.declared.reader.Stop.{Stop}
use Rattle.hk_chart.specs.declared.reader.Stop.TheVariants as stop
use Rattle.hk_chart.specs.declared.reader.TheConstants.{MAX_BYTES}
use Rattle.hk_chart.specs.declared.shape.TheConstants.{MAX_SHAPES}
use Rattle.hk_chart.specs.declared.shape.Bar.{Bar}
use Rattle.hk_chart.specs.declared.shape.Lane.{Lane}
use Rattle.hk_chart.specs.declared.shape.Lane.TheVariants as lane
use Rattle.hk_chart.specs.declared.shape.Shape.{Shape}
use Rattle.hk_chart.specs.declared.shape.Shape.TheVariants as shape
use Rattle.hk_chart.specs.declared.task.Task.{Task}
use Rattle.hk_chart.specs.declared.trace_line.Who.{Who}
use Rattle.hk_chart.specs.declared.trace_line.Who.TheVariants as who
use Rattle.hk_chart.specs.declared.trace_line.TraceLine.{TraceLine}
use Rattle.hk_chart.specs.declared.trace_line.TraceLine.TheVariants as line
use Rattle.hk_chart.specs.declared.window.Window.{Window}
use Rattle.hk_chart.specs.Words.{words_of}
use Rattle.hk_chart.specs.Trace.{◌>>=◌, line_of}
use Rattle.hk_chart.specs.Progress.{after_line, after_tick, after_high, after_low, after_out, after_fault, after_ended, after_done, after_cycles, after_live, begins_ticks, fits, stage_after_tick, turn_of}
use Rattle.hk_chart.specs.Shapes.{is_same, lane_of, is_within, bar_of, open_after, closed_by, is_moment, mark_of_tick, mark_of, arrival, arrival_of, task_at, deadline_by, deadline_of, with_shape, with_bar, with_task}
use Rattle.hk_chart.specs.Chart.{second_of, opening_chart, with_line, chart_after}
use Rattle.hk_chart.specs.Reading.{opening_reader, no_line, with_chart, after_end_of_line, after_byte, finished, at_end, and_on, read_on}
use Rattle.hk_chart.specs.Runs.{lines_from, given_by, named_by, lanes_given, bar_in, bars_of, HasTick, IsBehind, IsDrawn, AreWholeRuns, RunsAreWhole}

-- A LIST WITH MORE

get_more : {X : Type 0} (xs ys : List X) (i : ℕ) (x : X) → slice_get xs i ≡ Some x → slice_get (xs ++ ys) i ≡ Some x
get_more [] ys i x is = absurd (none-some x is)
get_more (y ∷ xs) ys zero x is = is
get_more (y ∷ xs) ys (suc i) x is = get_more xs ys i x is

get_last : {X : Type 0} (xs : List X) (x : X) → slice_get (xs ++ x ∷ []) (length xs) ≡ Some x
get_last [] x = refl
get_last (y ∷ xs) x = get_last xs x

from_more : {X : Type 0} (xs : List X) (y : X) (i : ℕ) (x : X) → slice_get (xs ++ y ∷ []) i ≡ Some x → (slice_get xs i ≡ Some x) ⊎ ((i ≡ length xs) × (y ≡ x))
from_more [] y zero x is = inr (refl, same_Some y x is)
from_more [] y (suc i) x is = absurd (none-some x is)
from_more (z ∷ xs) y zero x is = inl is
from_more (z ∷ xs) y (suc i) x is = elim (from_more xs y i x is) [ inl h ↦ inl h | inr h ↦ inr (ap suc h.0, h.1) ]

one_longer : {X : Type 0} (xs : List X) (x : X) → length (xs ++ x ∷ []) ≡ length xs + 1
one_longer xs x = length-append xs (x ∷ [])

same_lane : (a b : Lane) → is_same a b ≡ true → a ≡ b
same_lane (lane.Task a) (lane.Task b) is = ap lane.Task (eqb-true a b is)
same_lane lane.Collector lane.Collector is = refl
same_lane lane.Lost lane.Lost is = refl
same_lane lane.Nobody lane.Nobody is = refl
same_lane a b is = absurd (true≢false (sym is))

-- the rectangles with one more, if there is one
abbrev and_bar : List Bar → Option Bar → List Bar
and_bar bars None = bars
and_bar bars (Some bar) = bars ++ bar ∷ []

module _ (w : Window) where
  within_parts : (t : ℕ) → is_within w t ≡ true → (w.first ≤ t) × (t ≤ w.last)
  within_parts t is = let p = and_parts (nat_le w.first t) (nat_le t w.last) is in (leb-true w.first t p.0, leb-true t w.last p.1)

  within_from : (t : ℕ) → w.first ≤ t → t ≤ w.last → is_within w t ≡ true
  within_from t a b = and_from (nat_le w.first t) (nat_le t w.last) (le-leb w.first t a) (le-leb t w.last b)

  -- how far the open rectangle reaches: to the last tick that was given and is drawn
  abbrev Reaches : (lanes : List Lane) → List Bar → Option Bar → Type 0
  Reaches lanes bars None = bars ≡ []
  Reaches lanes bars (Some current) = (w.first ≤ current.last) × (current.last < length lanes) × (length lanes ≤ w.last → current.last + 1 ≡ length lanes)

  -- the rectangles so far, the last of which may still get longer
  record Drawn (lanes : List Lane) (bars : List Bar) (current : Option Bar) : Type 0 where
    whole : AreWholeRuns w lanes (and_bar bars current)
    reaches : Reaches lanes bars current

  module _ (lanes : List Lane) (given : Lane) where
    abbrev longer_lanes : List Lane
    longer_lanes = lanes ++ given ∷ []

    abbrev own_bar : Bar
    own_bar = record { lane = given; first = length lanes; last = length lanes }

    last_given : slice_get longer_lanes (length lanes) ≡ Some given
    last_given = get_last lanes given

    -- a tick that isn't drawn
    same_bars : (bars : List Bar) → is_within w (length lanes) ≡ false → AreWholeRuns w lanes bars → AreWholeRuns w longer_lanes bars
    same_bars bars out h = record {
      some = h.some;
      own = λ place tick bar stands has. let o = h.own place tick bar stands has in (o.0, get_more lanes (given ∷ []) tick bar.lane o.1);
      all = λ tick one at drawn. elim (from_more lanes given tick one at) [
        | inl before ↦ h.all tick one before drawn
        | inr new ↦ absurd (both_ways (is_within w tick) (ap (is_within w) new.0 ∙ out) drawn)
      ];
      apart = h.apart;
    }

    -- a tick with which a rectangle begins
    one_more : (bars : List Bar) → is_within w (length lanes) ≡ true → ((i : ℕ) (before : Bar) → slice_get bars i ≡ Some before → IsBehind before own_bar)
        → AreWholeRuns w lanes bars → AreWholeRuns w longer_lanes (bars ++ own_bar ∷ [])
    one_more bars drawn_now behind h = record {
      some = λ place bar stands. elim (from_more bars own_bar place bar stands) [
        | inl before ↦ h.some place bar before
        | inr new ↦ subst (λ (b : Bar). b.first ≤ b.last) new.1 (omega arith)
      ];
      own = λ place tick bar stands has. elim (from_more bars own_bar place bar stands) [
        | inl before ↦ (let o = h.own place tick bar before has in (o.0, get_more lanes (given ∷ []) tick bar.lane o.1))
        | inr new ↦ subst (λ (b : Bar). HasTick b tick → (is_within w tick ≡ true) × (slice_get longer_lanes tick ≡ Some b.lane)) new.1 (own_tick tick) has
      ];
      all = λ tick one at drawn. elim (from_more lanes given tick one at) [
        | inl before ↦ (let d = h.all tick one before drawn in record { place = d.place; bar = d.bar; stands = get_more bars (own_bar ∷ []) d.place d.bar d.stands; has = d.has })
        | inr new ↦ record { place = length bars; bar = own_bar; stands = get_last bars own_bar; has = (omega (arith, new.0), omega (arith, new.0)) }
      ];
      apart = λ i j before bar less at_i at_j. elim (from_more bars own_bar j bar at_j) [
        | inl old_j ↦ elim (from_more bars own_bar i before at_i) [
          | inl old_i ↦ h.apart i j before bar less old_i old_j
          | inr new_i ↦ absurd (omega (arith, slice_get_within bars j bar old_j, new_i.0, less))
        ]
        | inr new_j ↦ elim (from_more bars own_bar i before at_i) [
          | inl old_i ↦ subst (IsBehind before) new_j.1 (behind i before old_i)
          | inr new_i ↦ absurd (omega (arith, new_i.0, new_j.0, less))
        ]
      ];
    }
      where
        own_tick : (tick : ℕ) → HasTick own_bar tick → (is_within w tick ≡ true) × (slice_get longer_lanes tick ≡ Some given)
        own_tick tick has =
            let e : length lanes ≡ tick = omega (arith, has.0, has.1) in
            (subst (λ (t : ℕ). is_within w t ≡ true) e drawn_now, subst (λ (t : ℕ). slice_get longer_lanes t ≡ Some given) e last_given)

    -- the first rectangle
    first_one : is_within w (length lanes) ≡ true → (bars : List Bar) → bars ≡ [] → AreWholeRuns w lanes bars → AreWholeRuns w longer_lanes (bars ++ own_bar ∷ [])
    first_one drawn_now bars none h = one_more bars drawn_now nothing h
      where
        nothing : (i : ℕ) (before : Bar) → slice_get bars i ≡ Some before → IsBehind before own_bar
        nothing i before at = absurd (none-some before (ap (λ (b : List Bar). slice_get b i) (sym none) ∙ at))

    module _ (bars : List Bar) (current : Bar) (reaches : current.last + 1 ≡ length lanes) (drawn_now : is_within w (length lanes) ≡ true) (h : AreWholeRuns w lanes (bars ++ current ∷ [])) where
      -- the open one isn't empty
      open_some : current.first ≤ current.last
      open_some = h.some (length bars) current (get_last bars current)

      -- a rectangle of another lane
      another : is_same current.lane given ≡ false → AreWholeRuns w longer_lanes (bars ++ current ∷ [] ++ own_bar ∷ [])
      another differs = one_more (bars ++ current ∷ []) drawn_now behind h
        where
          behind : (i : ℕ) (before : Bar) → slice_get (bars ++ current ∷ []) i ≡ Some before → IsBehind before own_bar
          behind i before at = elim (from_more bars current i before at) [
            | inl old ↦ (let b = h.apart i (length bars) before current (slice_get_within bars i before old) at (get_last bars current) in
                (omega (arith, b.0, open_some, reaches), λ touches. absurd (omega (arith, b.0, open_some, reaches, touches))))
            | inr new ↦ subst (λ (b : Bar). IsBehind b own_bar) new.1 (omega (arith, reaches), λ touches. differs)
          ]

      abbrev longer : Bar
      longer = record current { last = length lanes }

      -- the open one gets longer
      stretched : current.lane ≡ given → AreWholeRuns w longer_lanes (bars ++ longer ∷ [])
      stretched same = record {
        some = λ place bar stands. elim (from_more bars longer place bar stands) [
          | inl before ↦ h.some place bar (get_more bars (current ∷ []) place bar before)
          | inr new ↦ subst (λ (b : Bar). b.first ≤ b.last) new.1 (omega (arith, open_some, reaches))
        ];
        own = λ place tick bar stands has. elim (from_more bars longer place bar stands) [
          | inl before ↦ (let o = h.own place tick bar (get_more bars (current ∷ []) place bar before) has in (o.0, get_more lanes (given ∷ []) tick bar.lane o.1))
          | inr new ↦ subst (λ (b : Bar). HasTick b tick → (is_within w tick ≡ true) × (slice_get longer_lanes tick ≡ Some b.lane)) new.1 (long_tick tick) has
        ];
        all = λ tick one at drawn. elim (from_more lanes given tick one at) [
          | inl before ↦ still tick (h.all tick one before drawn)
          | inr new ↦ record { place = length bars; bar = longer; stands = get_last bars longer; has = (omega (arith, new.0, open_some, reaches), omega (arith, new.0)) }
        ];
        apart = λ i j before bar less at_i at_j. elim (from_more bars longer j bar at_j) [
          | inl old_j ↦ elim (from_more bars longer i before at_i) [
            | inl old_i ↦ h.apart i j before bar less (get_more bars (current ∷ []) i before old_i) (get_more bars (current ∷ []) j bar old_j)
            | inr new_i ↦ absurd (omega (arith, slice_get_within bars j bar old_j, new_i.0, less))
          ]
          | inr new_j ↦ elim (from_more bars longer i before at_i) [
            | inl old_i ↦ subst (IsBehind before) new_j.1 (behind_open i before old_i)
            | inr new_i ↦ absurd (omega (arith, new_i.0, new_j.0, less))
          ]
        ];
      }
        where
          long_tick : (tick : ℕ) → HasTick longer tick → (is_within w tick ≡ true) × (slice_get longer_lanes tick ≡ Some current.lane)
          long_tick tick has = elim (cases_lt tick (length lanes)) [
            | inl before ↦ (let o = h.own (length bars) tick current (get_last bars current) (has.0, omega (arith, before, reaches)) in (o.0, get_more lanes (given ∷ []) tick current.lane o.1))
            | inr after ↦ (let e : length lanes ≡ tick = omega (arith, after, has.1) in
                (subst (λ (t : ℕ). is_within w t ≡ true) e drawn_now, subst (λ (t : ℕ). slice_get longer_lanes t ≡ Some current.lane) e (last_given ∙ ap Some (sym same))))
          ]

          still : (tick : ℕ) → IsDrawn (bars ++ current ∷ []) tick → IsDrawn (bars ++ longer ∷ []) tick
          still tick d = elim (from_more bars current d.place d.bar d.stands) [
            | inl old ↦ record { place = d.place; bar = d.bar; stands = get_more bars (longer ∷ []) d.place d.bar old; has = d.has }
            | inr new ↦ (let has = subst (λ (b : Bar). HasTick b tick) (sym new.1) d.has in
                record { place = length bars; bar = longer; stands = get_last bars longer; has = (has.0, omega (arith, has.1, reaches)) })
          ]

          behind_open : (i : ℕ) (before : Bar) → slice_get bars i ≡ Some before → IsBehind before longer
          behind_open i before at =
              let b = h.apart i (length bars) before current (slice_get_within bars i before at) (get_more bars (current ∷ []) i before at) (get_last bars current) in
              (b.0, b.1)

    -- A TICK: the rectangles with it
    abbrev now_bar : Bool → Option Bar
    now_bar b = if b then Some own_bar else None

    longer_by : length longer_lanes ≡ length lanes + 1
    longer_by = one_longer lanes given

    reaches_now : (bars : List Bar) (bar : Bar) → is_within w (length lanes) ≡ true → bar.last ≡ length lanes → Reaches longer_lanes bars (Some bar)
    reaches_now bars bar drawn_now is =
        let p = within_parts (length lanes) drawn_now in (omega (arith, p.0, is), omega (arith, is, longer_by), λ more. omega (arith, is, longer_by))

    out_reaches : (bars : List Bar) (current : Option Bar) → is_within w (length lanes) ≡ false → Reaches lanes bars current → Reaches longer_lanes bars current
    out_reaches bars None out h = h
    out_reaches bars (Some current) out h =
        (h.0, omega (arith, h.1, longer_by), λ more. absurd (both_ways (is_within w (length lanes)) out (within_from (length lanes) (omega (arith, h.0, h.1)) (omega (arith, more, longer_by)))))

    tick_open : (bars : List Bar) (current : Bar) (same : Bool) → is_same current.lane given ≡ same → is_within w (length lanes) ≡ true → Drawn lanes bars (Some current)
        → Drawn longer_lanes (and_bar bars (if same then None else Some current)) (if same then Some (record current { last = length lanes }) else Some own_bar)
    tick_open bars current true is drawn_now d = record {
      whole = stretched bars current (d.reaches.2 (within_parts (length lanes) drawn_now).1) drawn_now d.whole (same_lane current.lane given is);
      reaches = reaches_now bars (record current { last = length lanes }) drawn_now refl;
    }
    tick_open bars current false is drawn_now d = record {
      whole = another bars current (d.reaches.2 (within_parts (length lanes) drawn_now).1) drawn_now d.whole is;
      reaches = reaches_now (bars ++ current ∷ []) own_bar drawn_now refl;
    }

    tick_if : (bars : List Bar) (current : Option Bar) (b : Bool) → is_within w (length lanes) ≡ b → Drawn lanes bars current
        → Drawn longer_lanes (and_bar bars (closed_by current (now_bar b))) (open_after current (now_bar b))
    tick_if bars None true is d = record { whole = first_one is bars d.reaches d.whole; reaches = reaches_now bars own_bar is refl }
    tick_if bars (Some current) true is d = tick_open bars current (is_same current.lane given) refl is d
    tick_if bars None false is d = record { whole = same_bars bars is d.whole; reaches = out_reaches bars None is d.reaches }
    tick_if bars (Some current) false is d = record { whole = same_bars (bars ++ current ∷ []) is d.whole; reaches = out_reaches bars (Some current) is d.reaches }

    a_tick : (bars : List Bar) (current : Option Bar) → Drawn lanes bars current
        → Drawn longer_lanes (and_bar bars (closed_by current (now_bar (is_within w (length lanes))))) (open_after current (now_bar (is_within w (length lanes))))
    a_tick bars current d = tick_if bars current (is_within w (length lanes)) refl d

-- SHAPES THAT ARE NO RECTANGLES

abbrev NoBar : Option Shape → Type 0
NoBar None = Unit {0}
NoBar (Some one) = bar_in one ≡ []

bars_same : (shapes : List Shape) (o : Option Shape) → NoBar o → bars_of (with_shape shapes o) ≡ bars_of shapes
bars_same shapes None none = refl
bars_same shapes (Some one) none = flat_map-append bar_in shapes (one ∷ []) ∙ ap (λ (l : List Bar). bars_of shapes ++ (l ++ [])) none ∙ append-nil (bars_of shapes)

bars_more : (shapes : List Shape) (o : Option Bar) → bars_of (with_bar shapes o) ≡ and_bar (bars_of shapes) o
bars_more shapes None = refl
bars_more shapes (Some bar) = flat_map-append bar_in shapes (shape.Bar bar ∷ [])

if_no_bar : (b : Bool) (one : Shape) → bar_in one ≡ [] → NoBar (if b then Some one else None)
if_no_bar true one none = none
if_no_bar false one none = tt

module _ (w : Window) where
  no_arrival_bar : (said : TraceLine) → NoBar (arrival_of w said)
  no_arrival_bar (line.Ended tick place job ticks) = if_no_bar (is_moment w (arrival tick ticks)) (shape.Arrival (arrival tick ticks) place job) refl
  no_arrival_bar other = tt

  no_deadline_bar : (tasks : List Task) (said : TraceLine) → NoBar (deadline_of w tasks said)
  no_deadline_bar tasks (line.Ended tick place job ticks) = by (task_at tasks place).deadline
    where
      by : (o : Option ℕ) → NoBar (deadline_by w o tick place job ticks)
      by None = tt
      by (Some deadline) = if_no_bar (is_moment w (arrival tick ticks + deadline)) (shape.Deadline (arrival tick ticks + deadline) place job) refl
  no_deadline_bar tasks other = tt

  no_tick_bar : (b : Bool) (tick : ℕ) (got : Who) → NoBar (if b then mark_of_tick tick got else None)
  no_tick_bar true tick (who.Lost events) = refl
  no_tick_bar true tick other = tt
  no_tick_bar false tick got = tt

  no_mark_bar : (said : TraceLine) → NoBar (mark_of w said)
  no_mark_bar (line.Tick tick got) = no_tick_bar (is_within w tick) tick got
  no_mark_bar (line.Out tick place value) = if_no_bar (is_within w tick) (shape.Out tick place value) refl
  no_mark_bar (line.Fault tick place job statement why) = if_no_bar (is_within w tick) (shape.Fault tick place job statement why) refl
  no_mark_bar (line.Ended tick place job ticks) = if_no_bar (is_moment w (tick + 1)) (shape.End tick place job ticks) refl
  no_mark_bar other = tt

  -- the rectangles of a picture with what a line draws
  bars_with : (chart : Chart) (name : List ℕ) (said : TraceLine) (progress : Progress)
      → bars_of (with_line w chart name said progress).shapes ≡ and_bar (bars_of chart.shapes) (closed_by chart.current (bar_of w said))
  unfolding with_line
  bars_with chart name said progress =
      let shapes = with_bar chart.shapes (closed_by chart.current (bar_of w said)) in
      bars_same (with_shape (with_shape shapes (arrival_of w said)) (deadline_of w chart.tasks said)) (mark_of w said) (no_mark_bar said)
      ∙ bars_same (with_shape shapes (arrival_of w said)) (deadline_of w chart.tasks said) (no_deadline_bar chart.tasks said)
      ∙ bars_same shapes (arrival_of w said) (no_arrival_bar said)
      ∙ bars_more chart.shapes (closed_by chart.current (bar_of w said))

-- HOW FAR A TRACE HAS COME

if_some : {X : Type 0} (b : Bool) (x y : X) → (if b then Some x else None) ≡ Some y → (b ≡ true) × (x ≡ y)
if_some true x y is = (refl, same_Some x y is)
if_some false x y is = absurd (none-some y is)

-- a line that tells no tick
abbrev NoTick : TraceLine → Type 0
NoTick (line.Tick tick got) = ⊥
NoTick other = Unit {0}

module _ (p next : Progress) where
  ticks_if : (b : Bool) (more : Progress) → more.ticks ≡ p.ticks → (if b then Some more else None) ≡ Some next → next.ticks ≡ p.ticks
  ticks_if b more same is = ap (λ (x : Progress). x.ticks) (sym (if_some b more next is).1) ∙ same

  ticks_stay : (said : TraceLine) → NoTick said → after_line p said ≡ Some next → next.ticks ≡ p.ticks
  unfolding after_line after_high after_low after_out after_fault after_ended after_done after_cycles after_live
  ticks_stay (line.Heap debt) untold is = ticks_if _ _ refl is
  ticks_stay (line.High deadline) untold is = ticks_if _ _ refl is
  ticks_stay line.Low untold is = ticks_if _ _ refl is
  ticks_stay (line.Tick tick got) untold is = absurd untold
  ticks_stay (line.Out tick place value) untold is = ticks_if _ _ refl is
  ticks_stay (line.Fault tick place job statement why) untold is = ticks_if _ _ refl is
  ticks_stay (line.Ended tick place job ticks) untold is = ticks_if _ _ refl is
  ticks_stay (line.Done place) untold is = ticks_if _ _ refl is
  ticks_stay (line.Cycles collector idle) untold is = ticks_if _ _ refl is
  ticks_stay (line.End ticks) untold is = ticks_if _ _ refl is
  ticks_stay (line.Live tick) untold is = ticks_if _ _ refl is

  -- a tick is the next one
  ticks_go : (tick : ℕ) (got : Who) → after_line p (line.Tick tick got) ≡ Some next → (tick ≡ p.ticks) × (next.ticks ≡ p.ticks + 1)
  unfolding after_line after_tick
  ticks_go tick got is =
      let begins = begins_ticks p.stage in
      let next_one = tick == p.ticks in
      let few = nat_lt tick MAX_TICKS in
      let q = if_some (begins && next_one && few && fits p.high got) (record p { stage = stage_after_tick got; ticks = tick + 1; turn = turn_of got }) next is in
      let e : tick ≡ p.ticks = eqb-true tick p.ticks (and_parts begins next_one (and_parts (begins && next_one) few (and_parts (begins && next_one && few) (fits p.high got) q.0).0).0).1 in
      (e, ap (λ (x : Progress). x.ticks) (sym q.1) ∙ ap (λ (t : ℕ). t + 1) e)

-- THE LINES

-- a picture so far, and the lanes that were given
record Told (w : Window) (lanes : List Lane) (chart : Chart) : Type 0 where
  counted : length lanes ≡ chart.progress.ticks
  drawn : Drawn w lanes (bars_of chart.shapes) chart.current

module _ (w : Window) (lanes : List Lane) (chart : Chart) (told : Told w lanes chart) (name : List ℕ) (progress : Progress) where
  -- the line of a tick
  told_tick : (tick : ℕ) (got : Who) → after_line chart.progress (line.Tick tick got) ≡ Some progress → Told w (lanes ++ lane_of got ∷ []) (with_line w chart name (line.Tick tick got) progress)
  unfolding with_line
  told_tick tick got is =
      let q = ticks_go chart.progress progress tick got is in
      let e : length lanes ≡ tick = told.counted ∙ sym q.0 in
      record {
        counted = one_longer lanes (lane_of got) ∙ ap (λ (n : ℕ). n + 1) told.counted ∙ sym q.1;
        drawn = subst (λ (bars : List Bar). Drawn w (lanes ++ lane_of got ∷ []) bars (open_after chart.current (bar_of w (line.Tick tick got)))) (sym (bars_with w chart name (line.Tick tick got) progress))
            (subst (λ (t : ℕ). Drawn w (lanes ++ lane_of got ∷ []) (and_bar (bars_of chart.shapes) (closed_by chart.current (bar_of w (line.Tick t got)))) (open_after chart.current (bar_of w (line.Tick t got)))) e
            (a_tick w lanes (lane_of got) (bars_of chart.shapes) chart.current told.drawn));
      }

  none_closed : (o : Option Bar) → closed_by o None ≡ None
  none_closed None = refl
  none_closed (Some bar) = refl

  -- any other line
  told_other : (said : TraceLine) → NoTick said → bar_of w said ≡ None → given_by (Some said) ≡ [] → after_line chart.progress said ≡ Some progress → Told w (lanes ++ given_by (Some said)) (with_line w chart name said progress)
  unfolding with_line
  told_other said untold none nothing is =
      subst (λ (l : List Lane). Told w l (with_line w chart name said progress)) (sym (append-nil lanes) ∙ ap (λ (l : List Lane). lanes ++ l) (sym nothing))
      (record {
        counted = told.counted ∙ sym (ticks_stay chart.progress progress said untold is);
        drawn = subst (λ (bars : List Bar). Drawn w lanes bars (open_after chart.current (bar_of w said))) (sym (bars_with w chart name said progress))
            (subst (λ (o : Option Bar). Drawn w lanes (and_bar (bars_of chart.shapes) (closed_by chart.current o)) (open_after chart.current o)) (sym none)
            (subst (λ (o : Option Bar). Drawn w lanes (and_bar (bars_of chart.shapes) o) chart.current) (sym (none_closed chart.current)) told.drawn));
      })

  told_line : (said : TraceLine) → after_line chart.progress said ≡ Some progress → Told w (lanes ++ given_by (Some said)) (with_line w chart name said progress)
  told_line (line.Tick tick got) is = told_tick tick got is
  told_line (line.Heap debt) is = told_other (line.Heap debt) tt refl refl is
  told_line (line.High deadline) is = told_other (line.High deadline) tt refl refl is
  told_line line.Low is = told_other line.Low tt refl refl is
  told_line (line.Out tick place value) is = told_other (line.Out tick place value) tt refl refl is
  told_line (line.Fault tick place job statement why) is = told_other (line.Fault tick place job statement why) tt refl refl is
  told_line (line.Ended tick place job ticks) is = told_other (line.Ended tick place job ticks) tt refl refl is
  told_line (line.Done place) is = told_other (line.Done place) tt refl refl is
  told_line (line.Cycles collector idle) is = told_other (line.Cycles collector idle) tt refl refl is
  told_line (line.End ticks) is = told_other (line.End ticks) tt refl refl is
  told_line (line.Live tick) is = told_other (line.Live tick) tt refl refl is

-- the words of a line that a trace has there: what it gives, and the tasks with the one that it names
record Taken (w : Window) (lanes : List Lane) (chart : Chart) (words : List (List ℕ)) (next : Chart) : Type 0 where
  told : Told w (lanes ++ given_by (line_of chart.tasks words)) next
  named : next.tasks ≡ named_by chart.tasks (second_of words) (line_of chart.tasks words)

module _ (w : Window) (lanes : List Lane) (chart : Chart) (told : Told w lanes chart) (words : List (List ℕ)) (next : Chart) where
  by_progress : (said : TraceLine) (o : Option Progress) → after_line chart.progress said ≡ o → (o >>= λ progress. Some (with_line w chart (second_of words) said progress)) ≡ Some next
      → Told w (lanes ++ given_by (Some said)) next × (next.tasks ≡ with_task chart.tasks (second_of words) said)
  unfolding with_line
  by_progress said None is taken = absurd (none-some next taken)
  by_progress said (Some progress) is taken =
      let e = same_Some (with_line w chart (second_of words) said progress) next taken in
      (subst (Told w (lanes ++ given_by (Some said))) e (told_line w lanes chart told (second_of words) progress said is), ap (λ (c : Chart). c.tasks) (sym e))

  by_line : (o : Option TraceLine) → (o >>= λ said. after_line chart.progress said >>= λ progress. Some (with_line w chart (second_of words) said progress)) ≡ Some next
      → Told w (lanes ++ given_by o) next × (next.tasks ≡ named_by chart.tasks (second_of words) o)
  by_line None taken = absurd (none-some next taken)
  by_line (Some said) taken = by_progress said (after_line chart.progress said) refl taken

  line_taken : chart_after w chart words ≡ Some next → Taken w lanes chart words next
  unfolding chart_after
  line_taken taken = let t = by_line (line_of chart.tasks words) taken in record { told = t.0; named = t.1 }

-- THE BYTES

not_ok : {A B : Type 0} (b : B) (a : A) → ◌≡◌ {A = Result A B} (Err b) (Ok a) → ⊥
not_ok {A = A} {B = B} b a is = true≢false (sym (ap is_fine is))
  where
    is_fine : Result A B → Bool
    is_fine (Ok x) = true
    is_fine (Err y) = false

same_Ok : {A B : Type 0} (a b : A) → ◌≡◌ {A = Result A B} (Ok a) (Ok b) → a ≡ b
same_Ok {A = A} {B = B} a b is = ap what is
  where
    what : Result A B → A
    what (Ok x) = x
    what (Err y) = a

then_ok : {A B : Type 0} (b : Bool) (a next : A) (why : B) → ◌≡◌ {A = Result A B} (if b then Ok a else Err why) (Ok next) → a ≡ next
then_ok true a next why is = same_Ok a next is
then_ok false a next why is = absurd (not_ok why next is)

else_is : {A B : Type 0} (b : Bool) (why : B) (rest : Result A B) (next : A) → ◌≡◌ {A = Result A B} (if b then Err why else rest) (Ok next) → rest ≡ Ok next
else_is true why rest next is = absurd (not_ok why next is)
else_is false why rest next is = is

-- a newline ended a line that a trace has there
ended : (r : Reader) (o : Option Chart) (next : Reader) → with_chart r o ≡ Ok next → (o ≡ Some next.chart) × (next.line ≡ [])
ended r None next is = absurd (not_ok (no_line r) next is)
ended r (Some chart) next is =
    let e = same_Ok _ next (else_is (nat_lt MAX_SHAPES (length chart.shapes)) stop.Long _ next is) in
    (ap (λ (x : Reader). Some x.chart) e, sym (ap (λ (x : Reader). x.line) e))

lines_newline : (begun : List ℕ) (byte : ℕ) (bytes : List ℕ) → (byte == 10) ≡ true → lines_from begun (byte ∷ bytes) ≡ begun ∷ lines_from [] bytes
unfolding lines_from
lines_newline begun byte bytes is = rw is refl

lines_other : (begun : List ℕ) (byte : ℕ) (bytes : List ℕ) → (byte == 10) ≡ false → lines_from begun (byte ∷ bytes) ≡ lines_from (begun ++ byte ∷ []) bytes
unfolding lines_from
lines_other begun byte bytes is = rw is refl

lines_none : (begun : List ℕ) → lines_from begun [] ≡ []
unfolding lines_from
lines_none begun = refl

given_none : (tasks : List Task) → lanes_given tasks [] ≡ []
unfolding lanes_given
given_none tasks = refl

given_step : (tasks : List Task) (text : List ℕ) (texts : List (List ℕ))
    → lanes_given tasks (text ∷ texts) ≡ given_by (line_of tasks (words_of text)) ++ lanes_given (named_by tasks (second_of (words_of text)) (line_of tasks (words_of text))) texts
unfolding lanes_given
given_step tasks text texts = refl

module _ (w : Window) where
  abbrev Goes : Reader → ℕ → Reader → Type 0
  Goes r byte next = ((byte == 10) ≡ false) × (next.chart ≡ r.chart) × (next.line ≡ r.line ++ byte ∷ [])

  abbrev Ends : Reader → ℕ → Reader → Type 0
  Ends r byte next = ((byte == 10) ≡ true) × (chart_after w r.chart (words_of r.line) ≡ Some next.chart) × (next.line ≡ [])

  by_newline : (r next : Reader) (byte : ℕ) (newline : Bool) → (byte == 10) ≡ newline
      → (if newline then after_end_of_line w (record r { bytes = r.bytes + 1 }) else if nat_le LINE_ROOM (length r.line + 1) then Err (no_line r) else Ok (record r { line = r.line ++ byte ∷ []; bytes = r.bytes + 1 })) ≡ Ok next
      → Goes r byte next ⊎ Ends r byte next
  unfolding after_end_of_line
  by_newline r next byte true e is = let t = ended (record r { bytes = r.bytes + 1 }) (chart_after w r.chart (words_of r.line)) next is in inr (e, t.0, t.1)
  by_newline r next byte false e is =
      let same = same_Ok (record r { line = r.line ++ byte ∷ []; bytes = r.bytes + 1 }) next (else_is (nat_le LINE_ROOM (length r.line + 1)) (no_line r) _ next is) in
      inl (e, sym (ap (λ (x : Reader). x.chart) same), sym (ap (λ (x : Reader). x.line) same))

  byte_taken : (r next : Reader) (byte : ℕ) → after_byte w r byte ≡ Ok next → Goes r byte next ⊎ Ends r byte next
  unfolding after_byte
  byte_taken r next byte is = by_newline r next byte (byte == 10) refl (else_is (nat_le MAX_BYTES r.bytes) stop.Long _ next is)

  -- what some bytes come to from here on
  abbrev Reads : List ℕ → Type 0
  Reads bytes = (r : Reader) (lanes : List Lane) (chart : Chart) → Told w lanes r.chart → read_on w r bytes ≡ Ok chart
      → AreWholeRuns w (lanes ++ lanes_given r.chart.tasks (lines_from r.line bytes)) (bars_of chart.shapes)

  over : (r : Reader) (lanes : List Lane) (chart : Chart) → Told w lanes r.chart → at_end r ≡ Ok chart → AreWholeRuns w lanes (bars_of chart.shapes)
  unfolding at_end
  over r lanes chart told is =
      let e = then_ok _ (finished r.chart) chart (no_line r) is in
      subst (AreWholeRuns w lanes) (sym (bars_more r.chart.shapes r.chart.current) ∙ ap (λ (c : Chart). bars_of c.shapes) e) told.drawn.whole

  reads_none : Reads []
  unfolding read_on
  reads_none r lanes chart told is =
      subst (λ (l : List Lane). AreWholeRuns w l (bars_of chart.shapes))
      (sym (append-nil lanes) ∙ ap (λ (l : List Lane). lanes ++ l) (sym (given_none r.chart.tasks) ∙ ap (lanes_given r.chart.tasks) (sym (lines_none r.line))))
      (over r lanes chart told is)

  module _ (byte : ℕ) (bytes : List ℕ) (rest : Reads bytes) (r : Reader) (lanes : List Lane) (chart : Chart) (told : Told w lanes r.chart) where
    goes_on : (next : Reader) → Goes r byte next → read_on w next bytes ≡ Ok chart → AreWholeRuns w (lanes ++ lanes_given r.chart.tasks (lines_from r.line (byte ∷ bytes))) (bars_of chart.shapes)
    goes_on next goes is =
        let same =
        ap (λ (c : Chart). lanes_given c.tasks (lines_from next.line bytes)) goes.1
        ∙ ap (λ (l : List ℕ). lanes_given r.chart.tasks (lines_from l bytes)) goes.2
        ∙ ap (lanes_given r.chart.tasks) (sym (lines_other r.line byte bytes goes.0)) in
        subst (λ (l : List Lane). AreWholeRuns w (lanes ++ l) (bars_of chart.shapes)) same (rest next lanes chart (subst (Told w lanes) (sym goes.1) told) is)

    line_ends : (next : Reader) → Ends r byte next → read_on w next bytes ≡ Ok chart → AreWholeRuns w (lanes ++ lanes_given r.chart.tasks (lines_from r.line (byte ∷ bytes))) (bars_of chart.shapes)
    line_ends next ends is =
        let words = words_of r.line in
        let given = given_by (line_of r.chart.tasks words) in
        let t = line_taken w lanes r.chart told words next.chart ends.1 in
        let same =
        ap (λ (k : List Task). given ++ lanes_given k (lines_from next.line bytes)) t.named
        ∙ ap (λ (l : List ℕ). given ++ lanes_given (named_by r.chart.tasks (second_of words) (line_of r.chart.tasks words)) (lines_from l bytes)) ends.2
        ∙ sym (given_step r.chart.tasks r.line (lines_from [] bytes))
        ∙ ap (lanes_given r.chart.tasks) (sym (lines_newline r.line byte bytes ends.0)) in
        subst (λ (l : List Lane). AreWholeRuns w l (bars_of chart.shapes)) (append_assoc lanes given (lanes_given next.chart.tasks (lines_from next.line bytes)) ∙ ap (λ (l : List Lane). lanes ++ l) same)
        (rest next (lanes ++ given) chart t.told is)

    by_answer : (a : Result Reader Stop) → after_byte w r byte ≡ a → and_on a (λ next. read_on w next bytes) ≡ Ok chart
        → AreWholeRuns w (lanes ++ lanes_given r.chart.tasks (lines_from r.line (byte ∷ bytes))) (bars_of chart.shapes)
    by_answer (Err why) is comes = absurd (not_ok why chart comes)
    by_answer (Ok next) is comes = elim (byte_taken r next byte is) [ inl goes ↦ goes_on next goes comes | inr ends ↦ line_ends next ends comes ]

    reads_one : read_on w r (byte ∷ bytes) ≡ Ok chart → AreWholeRuns w (lanes ++ lanes_given r.chart.tasks (lines_from r.line (byte ∷ bytes))) (bars_of chart.shapes)
    unfolding read_on
    reads_one comes = by_answer (after_byte w r byte) refl comes

  reads : (bytes : List ℕ) → Reads bytes
  reads [] = reads_none
  reads (byte ∷ bytes) = λ r lanes chart told comes. reads_one byte bytes (reads bytes) r lanes chart told comes

  -- nothing was read
  nothing_told : Told w [] opening_chart
  nothing_told = record {
    counted = refl;
    drawn = record {
      whole = record {
        some = λ place bar stands. absurd (none-some bar stands);
        own = λ place tick bar stands has. absurd (none-some bar stands);
        all = λ tick one at drawn. absurd (none-some one at);
        apart = λ i j before bar less at_i at_j. absurd (none-some before at_i);
      };
      reaches = refl;
    };
  }

pub runs_are_whole : RunsAreWhole
runs_are_whole w bytes chart comes = reads w bytes opening_reader [] chart (nothing_told w) comes
