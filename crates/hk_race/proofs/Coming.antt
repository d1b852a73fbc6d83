-- The workers' jobs, and what comes back of them.
use Rattle.std.proofs.Common.{◌≡◌, ℕ, ◌<◌, ◌≤◌, ◌+◌, List, [], ◌∷◌, ◌++◌, length, refl, sym, ◌∙◌, ap, subst, arith, inl, inr, Option, Some, None, is_some, suc, append-nil, append_assoc}
use Rattle.std.proofs.lemmas.Bool.{cases_lt}
use Rattle.std.proofs.lemmas.List.Elements.{filter-append}
use Rattle.std.specs.Prelude.{slice_index_or, IfSome, All, codes, nat_lt, nat_eq, min, not, ◌&&◌, ◌||◌, ◌==◌, ◌%◌, if◌then◌else◌, Bool, true, false}
use Rattle.hk_words.specs.declared.geometry.Geometry.{Geometry}
use Rattle.std.proofs.lemmas.Bool.Decides.{nat_tests}
use Rattle.hk_words.specs.Geometry.{tasks, HasSizes, Sizes, first_error}
use Rattle.hk_words.specs.Row.{W1, word_of}
use Rattle.std.specs.List.{list_any}
use Rattle.hk_words.specs.declared.geometry.GeoError.{GeoError}
use Rattle.hk_words.specs.declared.geometry.GeoError.TheVariants as geometry
use Rattle.hk_sheet.specs.Valid.{IsSheet}
use Rattle.hk_sheet.specs.Faults.{sizes_of}
use Rattle.hk_race.proofs.Sheets.{tasks_count}
use Rattle.hk_model.specs.Heap.{Heap, opening_of}
use Rattle.hk_model.specs.History.{History, after, of_seat, is_full}
use Rattle.hk_sheet.specs.declared.sheet.Sheet.{Sheet}
use Rattle.hk_core.specs.Run.{Action, begin, step, collect, run, run_from_opening}
use Rattle.hk_keeper.specs.Collected.{answers}
use Rattle.hk_keeper.proofs.Answering.{answers_more, answers_none}
use Rattle.hk_table.specs.Actions.{Begins, SeatsBelow, collects, is_collect}
use Rattle.hk_table.specs.declared.heap.Heap.{Heap as Table}
use Rattle.hk_table.specs.declared.pass.Pass.{Pass}
use Rattle.hk_table.specs.declared.closed.Closed.{Closed}
use Rattle.hk_table.specs.declared.keeper.Keeper.{Keeper}
use Rattle.hk_table.specs.Knows.{KeeperView}
use Rattle.hk_table.specs.Ends.{ClosedBy, HasAllSeats, log_of, run_of}
use Rattle.hk_table.specs.Passes.{IsPassOf, IsKeeperOf, known, kept}
use Rattle.hk_table.specs.Rule.{fresh, StandsIn}
use Rattle.hk_table.proofs.Keeps.{run_more, acts_alone}
use Rattle.hk_race.specs.declared.competing.Job.{Job}
use Rattle.hk_race.specs.declared.competing.Ended.{Ended}
use Rattle.hk_race.specs.declared.progress.Progress.{Progress}
use Rattle.hk_race.specs.declared.tasks.Held.{Held}
use Rattle.hk_race.specs.Course.{Course, course}
use Rattle.hk_race.specs.Goes.{course_of}
use Rattle.hk_race.specs.Jobs.{IsJobOf, TellsTask, DidAll, ComesBack, IsBack, Parts, Agree}
use Rattle.hk_race.specs.Lives.{last_live, live_of, reserved_by}
use Rattle.hk_race.specs.Raced.{has_full, CameToEnd}
use Rattle.hk_race.specs.Shown.{shown, IsHeld}
use Rattle.hk_race.specs.Tasks.{Task, task_at, tasks_of}
use Rattle.hk_front.specs.Text.{line}
use Rattle.hk_race.specs.Text.{told, task_course, tasks_text, race_text, live_text}
use Rattle.hk_race.proofs.Lists.{at_before, at_last, length_more, item}
use Rattle.hk_race.proofs.Turning.{none_later}
use Rattle.hk_race.proofs.Rising.{reserved_later}
use Rattle.hk_race.proofs.Stopping.{seats_few, course_stopped, stopped_any}

-- A JOB
pub job_of : (h : Table) (sheet : Sheet) (seat : ℕ) (pass : Pass) (task : Held) → IsPassOf h pass × (known pass ≡ fresh h.geometry seat) → shown task ≡ task_at sheet seat
    → IsHeld sheet.heap.registers task → h.geometry.registers ≡ sheet.heap.registers → IsJobOf h sheet seat (record { pass = pass; task = task })
job_of h sheet seat pass task opened is held registers = record {
  may = record {
    pass = opened.0;
    fresh = ap (λ v. v.seen) opened.1;
    unused = ap (λ v. v.begun) opened.1;
    held = subst (λ (n : ℕ). IsHeld n task) (sym registers) held;
  };
  seat_is = ap (λ v. v.seat) opened.1;
  task = is;
}

pub jobs_more : (h : Table) (sheet : Sheet) (jobs : List Job) (job : Job) → ((seat : ℕ) (d : Job) → seat < length jobs → IsJobOf h sheet seat (slice_index_or jobs seat d)) → IsJobOf h sheet (length jobs) job
    → (seat : ℕ) (d : Job) → seat < length (jobs ++ job ∷ []) → IsJobOf h sheet seat (slice_index_or (jobs ++ job ∷ []) seat d)
jobs_more h sheet jobs job each is seat d below = elim (cases_lt seat (length jobs)) [
  | inl before ↦ subst (IsJobOf h sheet seat) (sym (at_before jobs job seat d before)) (each seat d before)
  | inr past ↦
      let more = length_more jobs job in
      let last : seat ≡ length jobs = omega (arith, past, below, more) in
      subst (IsJobOf h sheet seat) (sym (at_last jobs job seat d last)) (subst (λ (n : ℕ). IsJobOf h sheet n job) (sym last) is)
]

pub parts_more : (ended : List Ended) (passes : List Pass) (all : List Progress) (one : Ended) (own : Progress) → Parts ended passes all → one.told ≡ Some own
    → Parts (ended ++ one ∷ []) (passes ++ one.pass ∷ []) (all ++ own ∷ [])
parts_more ended passes all one own parts is =
    let e = length_more ended one in
    let p = length_more passes one.pass in
    let a = length_more all own in
    record {
      passes_are = omega (arith, parts.passes_are, e, p);
      told_are = omega (arith, parts.told_are, e, a);
      each = λ seat d pass told' below. elim (cases_lt seat (length ended)) [
        | inl before ↦
            let was = parts.each seat d pass told' before in (
              ap (λ (x : Ended). x.pass) (at_before ended one seat d before) ∙ was.0 ∙ sym (at_before passes one.pass seat pass (omega (arith, before, parts.passes_are))),
              ap (λ (x : Ended). x.told) (at_before ended one seat d before) ∙ was.1 ∙ ap Some (sym (at_before all own seat told' (omega (arith, before, parts.told_are)))),
            )
        | inr past ↦
            let last : seat ≡ length ended = omega (arith, past, below, e) in (
              ap (λ (x : Ended). x.pass) (at_last ended one seat d last) ∙ sym (at_last passes one.pass seat pass (omega (arith, last, parts.passes_are))),
              ap (λ (x : Ended). x.told) (at_last ended one seat d last) ∙ is ∙ ap Some (sym (at_last all own seat told' (omega (arith, last, parts.told_are)))),
            )
      ];
    }

module _ (h : Table) (sheet : Sheet) (jobs : List Job) (ended : List Ended) (passes : List Pass) (all : List Progress)
    (ours : (seat : ℕ) (d : Job) → seat < length jobs → IsJobOf h sheet seat (slice_index_or jobs seat d))
    (count : length ended ≡ length jobs)
    (back : (i : ℕ) (d : Ended) (j : Job) → i < length jobs → ComesBack h (slice_index_or jobs i j) (slice_index_or ended i d))
    (parts : Parts ended passes all) where
  pub back_at : (seat : ℕ) (p : Pass) (own : Progress) → seat < length jobs → IsBack h sheet seat (slice_index_or passes seat p) (slice_index_or all seat own)
  back_at seat p own below =
      let j = item jobs seat below in
      let d : Ended = record { pass = p; told = Some own } in
      let job = slice_index_or jobs seat j in
      let came = back seat d j below in
      let is = ours seat j below in
      let part = parts.each seat d p own (omega (arith, below, count)) in
      let pass' = slice_index_or passes seat p in
      let own' = slice_index_or all seat own in
      let came_pass : IsPassOf h pass' = subst (IsPassOf h) part.0 came.pass in
      let seat_of : (known pass').seat ≡ seat = ap (λ (x : Pass). (known x).seat) (sym part.0) ∙ came.seat ∙ is.seat_is in
      let tells : TellsTask h.geometry (shown job.task) (known job.pass).seat (known (slice_index_or ended seat d).pass).seen own' =
      subst (λ (o : Option Progress). IfSome o (TellsTask h.geometry (shown job.task) (known job.pass).seat (known (slice_index_or ended seat d).pass).seen)) part.1 came.told in
      record {
        is = came_pass;
        seat_is = seat_of;
        told = subst (λ (x : Pass). TellsTask h.geometry (task_at sheet seat) seat (known x).seen own') part.0
            (subst (λ (n : ℕ). TellsTask h.geometry (task_at sheet seat) n (known (slice_index_or ended seat d).pass).seen own') is.seat_is
            (subst (λ (t : Task). TellsTask h.geometry t (known job.pass).seat (known (slice_index_or ended seat d).pass).seen own') is.task tells));
        all = subst (λ (t : Task). DidAll t.jobs own') is.task (subst (λ (o : Option Progress). IfSome o (DidAll (shown job.task).jobs)) part.1 came.all);
      }

  pub all_of_heap : All (IsPassOf h) passes
  all_of_heap k d below =
      let within : k < length jobs = omega (arith, below, parts.passes_are, count) in
      (back_at k d (item all k (omega (arith, within, parts.told_are, count))) within).is

  pub all_seats : (n : ℕ) → n ≡ length jobs → HasAllSeats n passes
  all_seats n is number below = (
    number,
    omega (arith, below, is, parts.passes_are, count),
    λ d.
        let within : number < length jobs = omega (arith, below, is) in
        let one = back_at number d (item all number (omega (arith, within, parts.told_are, count))) within in
        sym one.is.number ∙ one.seat_is,
  )

  -- what is told is the course over the closing history
  pub agree : (g : Geometry) (k : KeeperView) (c : Closed) → g ≡ h.geometry → ClosedBy g passes k c → Agree sheet g (run_of c).history all
  unfolding of_seat
  agree g k c is closed seat d below =
      let within : seat < length jobs = omega (arith, below, parts.told_are, count) in
      let there : seat < length passes = omega (arith, within, parts.passes_are, count) in
      let p = item passes seat there in
      let pass' = slice_index_or passes seat p in
      let one = back_at seat p d within in
      let stands : StandsIn (log_of c) (run_of c) (known pass').seat (known pass').log (known pass').seen (known pass').mine = closed.each seat p there in
      let later = stands.saw.0 in
      let same : of_seat ((known pass').seen ++ later) seat ≡ of_seat (known pass').seen seat =
      ap (λ (x : History). of_seat x seat) (sym stands.saw.1) ∙ ap (of_seat (run_of c).history) (sym one.seat_is) ∙ stands.all_mine ∙ sym stands.seen_mine ∙ ap (of_seat (known pass').seen) one.seat_is in
      let none : of_seat later seat ≡ [] = none_later (known pass').seen later seat same in (
        after (opening_of h.geometry) (known pass').seen,
        ap (λ (x : Geometry). course (task_at sheet seat).script (task_at sheet seat).jobs (opening_of x) seat (run_of c).history) is
            ∙ ap (course (task_at sheet seat).script (task_at sheet seat).jobs (opening_of h.geometry) seat) stands.saw.1 ∙ one.told later none,
      )

  module _ (g : Geometry) (k : KeeperView) (c : Closed) (is : g ≡ h.geometry) (closed : ClosedBy g passes k c) where
    -- each task came to its end
    pub came_to_end : (seat : ℕ) → seat < length jobs → CameToEnd (task_at sheet seat).jobs (task_course sheet g (run_of c).history seat)
    came_to_end seat below =
        let p = item passes seat (omega (arith, below, parts.passes_are, count)) in
        let own = item all seat (omega (arith, below, parts.told_are, count)) in
        let one = back_at seat p own below in
        let a = agree g k c is closed seat own (omega (arith, below, parts.told_are, count)) in
        subst (CameToEnd (task_at sheet seat).jobs) (sym a.1) (refl, one.all)

    -- some task stopped exactly where the history has a New without room
    pub full_of : tasks g ≡ length jobs → list_any (λ (own : Progress). is_some own.full) all ≡ has_full (run_of c).history
    full_of few = stopped_any (opening_of g) (run_of c).history all closed.legal none each
      where
        none : (t : ℕ) → length all ≤ t → of_seat (run_of c).history t ≡ []
        none t far =
            subst (λ (x : Geometry). of_seat (run_from_opening x (log_of c)).history t ≡ []) (sym closed.geometry) (seats_few g (log_of c) closed.seats t (omega (arith, far, few, parts.told_are, count)))

        each : (seat : ℕ) (d : Progress) → seat < length all → is_some (slice_index_or all seat d).full ≡ list_any (λ e. nat_eq e.seat seat && is_full e.reply) (run_of c).history
        each seat d below =
            let a = agree g k c is closed seat d below in
            sym (ap (λ (x : Course). is_some x.full) a.1)
            ∙ course_stopped (task_at sheet seat).script (task_at sheet seat).jobs (opening_of g) seat (run_of c).history (ap (λ (x : Course). x.rest) a.1)

-- THE TEXT
pub text_more : (sheet : Sheet) (g : Geometry) (history : History) (all : List Progress) (seat : ℕ) (before now name : List ℕ) (own : Progress)
    → Agree sheet g history all → seat < length all → own ≡ slice_index_or all seat own → name ≡ (task_at sheet seat).name → before ≡ tasks_text sheet g history seat
    → ((heap : Heap) → now ≡ before ++ told name (course_of own heap [])) → now ≡ tasks_text sheet g history (seat + 1)
text_more sheet g history all seat before now name own agree below is named was adds =
    let a = agree seat own below in
    let next : suc seat ≡ seat + 1 = omega arith in
    let mine : course_of own a.0 [] ≡ course (task_at sheet seat).script (task_at sheet seat).jobs (opening_of g) seat history = ap (λ (x : Progress). course_of x a.0 []) is ∙ sym a.1 in
    adds a.0
    ∙ (λ i. was i ++ told (named i) (mine i))
    ∙ ap (tasks_text sheet g history) next

-- THE CLOSING LOG: after the keeper's last event the seats alone act
nothing_left : (xs ys : List Action) → xs ≡ xs ++ ys → ys ≡ []
nothing_left [] ys e = sym e
nothing_left (x ∷ xs) ys e = nothing_left xs ys (cc)

pub no_events : (log all : List Action) (b : Begins all log) → collects log ≡ collects all → collects b.0 ≡ []
no_events log all b same = nothing_left (collects log) (collects b.0) (same ∙ ap collects b.1 ∙ filter-append is_collect log b.0)

pub live_last : (g : Geometry) (log all : List Action) → Begins all log → collects log ≡ collects all → live_of g all ≡ live_of g log
unfolding live_of
live_last g log all b same =
    ap last_live (ap (answers g []) b.1 ∙ answers_more g [] log b.0 ∙ ap (λ l. answers g [] log ++ l) (answers_none g log b.0 (no_events log all b same)) ∙ append-nil (answers g [] log))

below_later : (n : ℕ) (a b : List Action) → SeatsBelow n (a ++ b) → SeatsBelow n b
below_later n [] b h = h
below_later n (begin seat call ∷ a) b h = below_later n a b h.1
below_later n (step seat ∷ a) b h = below_later n a b h.1
below_later n (collect ∷ a) b h = below_later n a b h

spot_on : (g : Geometry) (log later : List Action) → SeatsBelow (tasks g) later → collects later ≡ [] → (run_from_opening g (log ++ later)).core.spot ≡ (run_from_opening g log).core.spot
unfolding run
spot_on g log [] below none = ap (λ l. (run_from_opening g l).core.spot) (append-nil log)
spot_on g log (begin seat call ∷ later) below none =
    ap (λ l. (run_from_opening g l).core.spot) (sym (append_assoc log (begin seat call ∷ []) later))
    ∙ spot_on g (log ++ begin seat call ∷ []) later below.1 none
    ∙ ap (λ r. r.core.spot) (run_more g log (begin seat call ∷ [])) ∙ (acts_alone g seat below.0 (begin seat call ∷ []) log (refl, tt)).spot
spot_on g log (step seat ∷ later) below none =
    ap (λ l. (run_from_opening g l).core.spot) (sym (append_assoc log (step seat ∷ []) later))
    ∙ spot_on g (log ++ step seat ∷ []) later below.1 none
    ∙ ap (λ r. r.core.spot) (run_more g log (step seat ∷ [])) ∙ (acts_alone g seat below.0 (step seat ∷ []) log (refl, tt)).spot
spot_on g log (collect ∷ later) below none = absurd (cc)

pub spot_last : (h : Table) (keeper : Keeper) (passes : List Pass) (c : Closed) → IsKeeperOf h keeper → ClosedBy h.geometry passes (kept keeper) c → (run_of c).core.spot ≡ (kept keeper).spot
spot_last h keeper passes c is closed =
    let b = closed.keeper_begins in
    let none = no_events (kept keeper).log (log_of c) b closed.keeper_acts in
    ap (λ (g : Geometry). (run_from_opening g (log_of c)).core.spot) closed.geometry
    ∙ ap (λ l. (run_from_opening h.geometry l).core.spot) b.1
    ∙ spot_on h.geometry (kept keeper).log b.0 (below_later (tasks h.geometry) (kept keeper).log b.0 (subst (SeatsBelow (tasks h.geometry)) b.1 closed.seats)) none
    ∙ is.stands

-- the words that were reserved at the keeper's last event still are
reserved_last : (h : Table) (keeper : Keeper) (passes : List Pass) (c : Closed) → ClosedBy h.geometry passes (kept keeper) c
    → reserved_by h.geometry (kept keeper).log ≤ word_of h.geometry (run_of c).core.row W1
reserved_last h keeper passes c closed =
    let b = closed.keeper_begins in
    let none = no_events (kept keeper).log (log_of c) b closed.keeper_acts in
    subst (λ (g : Geometry). reserved_by h.geometry (kept keeper).log ≤ word_of h.geometry (run_from_opening g (log_of c)).core.row W1) (sym closed.geometry)
    (subst (λ (l : List Action). reserved_by h.geometry (kept keeper).log ≤ word_of h.geometry (run_from_opening h.geometry l).core.row W1) (sym b.1)
    (reserved_later h.geometry (kept keeper).log b.0 none))

within_more : (o : Option ℕ) (few more : ℕ) → few ≤ more → IfSome o (λ words. words ≤ few) → IfSome o (λ words. words ≤ more)
within_more None few more up h = tt
within_more (Some words) few more up h = omega (arith, up, h)

pub within_last : (h : Table) (keeper : Keeper) (passes : List Pass) (c : Closed) (live : Option ℕ) → ClosedBy h.geometry passes (kept keeper) c
    → IfSome live (λ words. words ≤ reserved_by h.geometry (kept keeper).log) → IfSome live (λ words. words ≤ word_of h.geometry (run_of c).core.row W1)
within_last h keeper passes c live closed few = within_more live _ _ (reserved_last h keeper passes c closed) few

pub text_whole : (sheet : Sheet) (g : Geometry) (history : History) (live : Option ℕ) (declared seat : ℕ) (before now : List ℕ) → seat ≡ length (tasks_of sheet) → declared ≡ sheet.heap.live
    → before ≡ tasks_text sheet g history seat → now ≡ before ++ (live_text declared live ++ line (codes "end" ∷ [])) → now ≡ race_text sheet g history live
unfolding race_text
text_whole sheet g history live declared seat before now last is was adds =
    adds ∙ (λ i. (was ∙ ap (tasks_text sheet g history) last) i ++ (live_text (is i) live ++ line (codes "end" ∷ [])))

-- as many seats as tasks: a sheet that can be read has few
few_in : (fields : ℕ) (s : Sizes) → first_error fields s ≡ None → s.high + s.low ≤ 31
few_in fields s is =
    by_tests (not (s.live % 2 == 0) || not (s.alloc % 2 == 0)) (nat_lt s.live (1 + s.refs + s.nums) || nat_lt s.alloc 16) (nat_lt 65536 s.live || nat_lt 65536 s.alloc) (nat_lt s.alloc s.reserve)
    (s.high + s.low == 0) (nat_lt 31 (s.high + s.low)) refl _ is
  where
    by_tests : (a b d e f x : Bool) → nat_lt 31 (s.high + s.low) ≡ x → (rest : Option GeoError)
        → (if a then Some geometry.Odd else if b then Some geometry.Small else if d then Some geometry.Large else if e then Some geometry.Reserve else if f || x then Some geometry.Tasks else rest) ≡ None → s.high + s.low ≤ 31
    by_tests true b d e f x test rest is = absurd (cc)
    by_tests false true d e f x test rest is = absurd (cc)
    by_tests false false true e f x test rest is = absurd (cc)
    by_tests false false false true f x test rest is = absurd (cc)
    by_tests false false false false true x test rest is = absurd (cc)
    by_tests false false false false false true test rest is = absurd (cc)
    by_tests false false false false false false test rest is = grind (arith, nat_tests)

pub seats_count : (g : Geometry) (sheet : Sheet) → IsSheet sheet → HasSizes g (sizes_of sheet) → tasks g ≡ length (tasks_of sheet)
seats_count g sheet valid sizes =
    let count = tasks_count sheet in
    let few = few_in sheet.heap.fields (sizes_of sheet) valid.geometry in
    let high = uncapped (length sheet.high) (omega (arith, few)) in
    let low = uncapped (length sheet.low) (omega (arith, few)) in
    omega (arith, count, sizes.high, sizes.low, high, low)
  where
    uncapped : (n : ℕ) → min n 255 ≤ 31 → min n 255 ≡ n
    uncapped n few = grind arith
