-- Room: the words used leave room for an object of any low task, each high New finds room, and so does each low one, which begins
-- with nothing owed.
use Rattle.std.proofs.Common.{◌≡◌, ℕ, ◌+◌, ◌*◌, ◌<◌, ◌≤◌, true, false, List, length, sym, ◌∙◌, ap, arith}
use Rattle.std.proofs.lemmas.Bool.{and_parts, lt-ltb, ltb-true}
use Rattle.std.specs.Prelude.{nat_lt}
use Rattle.hk_words.specs.declared.geometry.Geometry.{Geometry}
use Rattle.hk_words.specs.Shape.{size}
use Rattle.hk_plan.specs.declared.Ready.{Ready}
use Rattle.hk_sheet.specs.declared.sheet.Sheet.{Sheet}
use Rattle.hk_admit.specs.Analysis.{largest_low}
use Rattle.hk_dispatch.specs.Tasks.{is_high}
use Rattle.hk_dispatch.specs.Moment.{Moment, used_at, course_at, need_at}
use Rattle.hk_dispatch.specs.Turns.{Turn, to_task, is_operation, in_mid_course, turn}
use Rattle.hk_dispatch.specs.Session.{state, IsSession, IsTick, IsMoment}
use Rattle.hk_dispatch.specs.Rules.{TurnIs, by_high, by_operation, by_collector, by_low, by_nobody}
use Rattle.hk_dispatch.specs.Laws.{DebtWithin, UsedWithin, HighNewsFindRoom, LowNewsBeginQuiet, LowNewsFindRoom}
use Rattle.hk_dispatch.proofs.Owed.{OwedForNews}
use Rattle.hk_dispatch.proofs.Promises.{useful_is_within, used_is_covered}
use Rattle.hk_dispatch.proofs.RoomWords.{words_left, low_new_within}
use Rattle.hk_dispatch.proofs.TurnFacts.{turn_is}

-- a tick of the run begins at a moment of it
pub moment_of : (g : Geometry) (choice : List Ready → ℕ) (sheet : Sheet) (t : ℕ) → IsTick g choice sheet t → IsMoment g choice sheet t
moment_of g choice sheet t tick = record { within = let lt = tick.within in omega (arith, lt); before_over = tick.before_over }

module _ (g : Geometry) (choice : List Ready → ℕ) (sheet : Sheet) (work attempt busy debt : ℕ) (s : IsSession g choice sheet work attempt busy debt) where
  some_work : 1 ≤ work
  some_work = let is = s.checked.work_is in omega (arith, is)

  -- where so many words more keep what is owed within the reserve, they are free beside the words used and the largest low object
  free_beside : (t : ℕ) → IsMoment g choice sheet t → (words : ℕ) → (state g choice sheet t).debt + sheet.heap.rate * words ≤ sheet.heap.rate * sheet.heap.reserve
      → used_at (state g choice sheet t) + words + largest_low sheet ≤ sheet.heap.alloc
  free_beside t moment words fits =
      let m = state g choice sheet t in
      words_left sheet.heap.rate sheet.heap.alloc sheet.heap.reserve (largest_low sheet) work s.checked.readable.heap.rate.at_least some_work
      (used_at m) m.useful m.debt words s.checked.rate
      (used_is_covered g choice sheet work attempt busy debt s t moment) (useful_is_within g choice sheet work attempt busy debt s t moment) fits

  -- the largest low object has room where no more is owed than the reserve stands for
  low_has_room : (t : ℕ) → IsMoment g choice sheet t → (state g choice sheet t).debt ≤ debt → used_at (state g choice sheet t) + largest_low sheet ≤ sheet.heap.alloc
  low_has_room t moment few =
      let enough = s.checked.reserve in
      let free = free_beside t moment 0 (omega (arith, few, enough)) in
      omega (arith, free)

-- THE WORDS USED

pub used_within : DebtWithin → UsedWithin
used_within within g choice sheet work attempt busy debt s t moment =
    let room = low_has_room g choice sheet work attempt busy debt s t moment (within g choice sheet work attempt busy debt s t moment) in
    omega (arith, room)

-- HIGH NEWS

pub high_news_find_room : DebtWithin → OwedForNews → HighNewsFindRoom
high_news_find_room within owed g choice sheet work attempt busy debt s t tick seat spent shape high at new =
    let enough = s.checked.reserve in
    let more = owed g choice sheet work attempt busy debt s t tick seat spent shape high at new in
    let free = free_beside g choice sheet work attempt busy debt s t (moment_of g choice sheet t tick) (size shape) (omega (arith, more, enough)) in
    omega (arith, free)

-- LOW NEWS

-- a low task begins an operation only where nothing is owed
module _ (choice : List Ready → ℕ) (sheet : Sheet) (m : Moment) (t seat : ℕ) (low : is_high sheet seat ≡ false) (first : (course_at m seat).spent ≡ 0) where
  begins_quiet : (o : Turn) → TurnIs choice sheet m t o → o ≡ to_task seat → m.debt ≡ 0
  unfolding in_mid_course
  begins_quiet o (by_high other f) e = absurd (
      let same : other ≡ seat = cc in
      let high : is_high sheet seat ≡ true = lt-ltb seat (length sheet.high) (let lt = f.high in omega (arith, lt, same)) in
      let no' : true ≡ false = sym high ∙ low in cc
      )
  begins_quiet o (by_operation other f) e = absurd (
      let same : other ≡ seat = cc in
      let some : 0 < (course_at m other).spent = ltb-true 0 (course_at m other).spent (and_parts (is_operation (need_at sheet m other)) (nat_lt 0 (course_at m other).spent) f.first.passes).1 in
      let none : (course_at m other).spent ≡ 0 = ap (λ k. (course_at m k).spent) same ∙ first in omega (arith, some, none)
      )
  begins_quiet o (by_collector f) e = absurd (cc)
  begins_quiet o (by_low other f) e = f.nothing_owed
  begins_quiet o (by_nobody f) e = absurd (cc)

pub low_news_begin_quiet : LowNewsBeginQuiet
low_news_begin_quiet g choice sheet work attempt busy debt s t tick seat shape low new =
    let m = state g choice sheet t in
    let none : m.debt ≡ 0 = begins_quiet choice sheet m t seat low new.spent_is (turn choice sheet m t) (turn_is choice sheet m t s.choice_is) new.gets in
    let free = free_beside g choice sheet work attempt busy debt s t (moment_of g choice sheet t tick) sheet.heap.reserve (omega (arith, none)) in
    let few = low_new_within sheet m seat new.dest shape low new.wants in
    (none, omega (arith, free, few))

pub low_news_find_room : DebtWithin → LowNewsFindRoom
low_news_find_room within g choice sheet work attempt busy debt s t tick seat shape low new =
    let m = state g choice sheet t in
    let moment = moment_of g choice sheet t tick in
    let room = low_has_room g choice sheet work attempt busy debt s t moment (within g choice sheet work attempt busy debt s t moment) in
    let few = low_new_within sheet m seat new.dest shape low new.wants in
    omega (arith, room, few)
