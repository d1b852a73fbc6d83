-- Which tasks have stopped: those that have a New without room in the history.
use Rattle.std.proofs.Common.{◌≡◌, ◌≢◌, ◌⊎◌, ℕ, zero, suc, ◌+◌, ◌<◌, ◌≤◌, Bool, true, false, List, [], ◌∷◌, ◌++◌, length, refl, sym, ◌∙◌, ap, arith, inl, inr, Option, Some, None, is_some, is_none, append-nil, append_assoc, eq-eqb}
use Rattle.std.proofs.lemmas.Bool.{cases_lt, or_cases, or_left, or_right, and_parts, and_from}
use Rattle.std.proofs.lemmas.List.Folds.{list_any-append}
use Rattle.std.specs.List.{list_any}
use Rattle.std.specs.Prelude.{nat_eq, ◌&&◌, ◌||◌, slice_index_or, if◌then◌else◌}
use Rattle.hk_words.specs.declared.geometry.Geometry.{Geometry}
use Rattle.hk_words.specs.Geometry.{tasks}
use Rattle.hk_words.specs.declared.call.Call.{Call}
use Rattle.hk_words.specs.declared.call.Call.TheVariants as call
use Rattle.hk_words.specs.declared.call.Reply.{Reply}
use Rattle.hk_words.specs.declared.call.Reply.TheVariants as reply
use Rattle.hk_model.specs.Heap.{Heap, register, value}
use Rattle.hk_model.specs.History.{Entry, History, after_entry, is_new, is_full, is_refused, EntryLegal, Legal, of_seat}
use Rattle.hk_model.specs.Replies.{reply_of, entering, said, is_same, has_number, has_reference}
use Rattle.hk_core.specs.Run.{Action, begin, step, collect, act, run, run_from_opening}
use Rattle.hk_script.specs.declared.statement.Statement.{Statement}
use Rattle.hk_script.specs.declared.walk.Need.{Need}
use Rattle.hk_script.specs.declared.walk.Need.TheVariants as need
use Rattle.hk_script.specs.Cost.{greatest_ticks}
use Rattle.hk_script.specs.Walks.{need_of}
use Rattle.hk_table.specs.Actions.{SeatsBelow}
use Rattle.hk_table.proofs.Keeps.{run_more, acts_alone}
use Rattle.hk_race.specs.declared.progress.Progress.{Progress}
use Rattle.hk_race.specs.Turns.{Turn, turn, turns}
use Rattle.hk_race.specs.Course.{Course, stepped, did, called, took, took_next, times, begun, ended, job_done, opened, course}
use Rattle.hk_race.proofs.Lists.{item}

-- A COURSE HAS STOPPED EXACTLY WHERE A TURN THAT IT TOOK FOUND NO ROOM
abbrev found_none : Turn → Bool
found_none t = is_full t.entry.reply

record Took (all : List Turn) (c : Course) : Type 0 where
  pub taken : List Turn
  pub are : all ≡ taken ++ c.rest
  pub full : is_some c.full ≡ list_any found_none taken

module _ (all : List Turn) (script : List Statement) (seat : ℕ) where
  same_turns : (c d : Course) → Took all c → d.rest ≡ c.rest → d.full ≡ c.full → Took all d
  same_turns c d k rest full = record { taken = k.taken; are = k.are ∙ ap (λ (ts : List Turn). k.taken ++ ts) (sym rest); full = ap is_some full ∙ k.full }

  took_turn : (c : Course) (t : Turn) (rest : List Turn) → is_some c.full ≡ false → c.rest ≡ t ∷ rest → Took all c → Took all (took script t rest c)
  took_turn c t rest going is k = choose (found_none t) refl
    where
      parts : all ≡ (k.taken ++ t ∷ []) ++ rest
      parts = k.are ∙ ap (λ (ts : List Turn). k.taken ++ ts) is ∙ sym (append_assoc k.taken (t ∷ []) rest)

      before : list_any found_none k.taken ≡ false
      before = sym k.full ∙ going

      last : (b : Bool) → found_none t ≡ b → list_any found_none (k.taken ++ t ∷ []) ≡ b
      last b e = list_any-append found_none k.taken (t ∷ []) ∙ (λ i. before i || (e i || false)) ∙ right b
        where
          right : (x : Bool) → (false || (x || false)) ≡ x
          right true = refl
          right false = refl

      choose : (b : Bool) → found_none t ≡ b → Took all (took script t rest c)
      choose true e = rw e (record { taken = k.taken ++ t ∷ []; are = parts; full = sym (last true e) })
      choose false e = rw e (record { taken = k.taken ++ t ∷ []; are = parts; full = going ∙ sym (last false e) })

  took_call : (c : Course) (r : Reply) → is_some c.full ≡ false → Took all c → Took all (called script r c)
  took_call c r going k = each r
    where
      next : (rest : List Turn) → c.rest ≡ rest → Took all (took_next script rest c)
      next [] is = k
      next (t ∷ rest) is = took_turn c t rest going is k

      each : (r : Reply) → Took all (called script r c)
      each reply.Nil = same_turns c _ k refl refl
      each reply.Field = same_turns c _ k refl refl
      each reply.Full = next c.rest refl
      each reply.Unit = next c.rest refl
      each (reply.Num n) = next c.rest refl
      each reply.Yes = next c.rest refl
      each reply.No = next c.rest refl

  took_need : (c : Course) (n : Option Need) → is_some c.full ≡ false → Took all c → Took all (did script seat n c)
  took_need c None going k = k
  took_need c (Some (need.Work w)) going k = same_turns c _ k refl refl
  took_need c (Some need.Local) going k = same_turns c _ k refl refl
  took_need c (Some (need.Out v)) going k = same_turns c _ k refl refl
  took_need c (Some (need.Ask question)) going k = same_turns c _ k refl refl
  took_need c (Some (need.Heap call')) going k = took_call c (reply_of c.heap seat call') going k

  by_stop : (c d : Course) (stopped : Bool) → is_some c.full ≡ stopped → (stopped ≡ true → Took all c) → (stopped ≡ false → Took all d) → Took all (if stopped then c else d)
  by_stop c d true is first second = first refl
  by_stop c d false is first second = second refl

  took_step : (c : Course) → Took all c → Took all (stepped script seat c)
  unfolding stepped
  took_step c k = by_stop c _ (is_some c.full) refl (λ _. k) (λ going. took_need c (need_of script c.walk) going k)

  took_times : (n : ℕ) (f : Course → Course) → ((c : Course) → Took all c → Took all (f c)) → (c : Course) → Took all c → Took all (times n f c)
  took_times zero f keeps c k = k
  took_times (suc n) f keeps c k = keeps (times n f c) (took_times n f keeps c k)

  took_begun : (c : Course) → Took all c → Took all (begun c)
  took_begun c k = by_stop c _ (is_some c.full) refl (λ _. k) (λ _. same_turns c _ k refl refl)

  took_ended : (c : Course) → Took all c → Took all (ended script c)
  took_ended c k = by_stop c _ (is_some c.full) refl (λ _. k) (λ _. at_end (nat_eq c.walk.place (length script)))
    where
      at_end : (b : Bool) → Took all (if b then record c { jobs = c.jobs + 1 } else c)
      at_end true = same_turns c _ k refl refl
      at_end false = k

  took_job : (c : Course) → Took all c → Took all (job_done script seat c)
  unfolding job_done
  took_job c k = took_ended _ (took_times (greatest_ticks script) (stepped script seat) took_step _ (took_begun c k))

full_turns : (script : List Statement) (jobs : ℕ) (start : Heap) (seat : ℕ) (history : History) → (course script jobs start seat history).rest ≡ []
    → is_some (course script jobs start seat history).full ≡ list_any found_none (turns start seat history)
unfolding course
full_turns script jobs start seat history none =
    let all = turns start seat history in
    let k : Took all (times jobs (job_done script seat) (opened start all)) =
    took_times all script seat jobs (job_done script seat) (took_job all script seat) (opened start all) (record { taken = []; are = refl; full = refl }) in
    k.full ∙ ap (list_any found_none) (sym (k.are ∙ ap (λ (ts : List Turn). k.taken ++ ts) none ∙ append-nil k.taken))

-- THE ENTRIES OF A SEAT
abbrev is_full_of : ℕ → Entry → Bool
is_full_of seat e = nat_eq e.seat seat && is_full e.reply

turns_of : (h : Heap) (seat : ℕ) (history : History) → list_any found_none (turns h seat history) ≡ list_any (is_full_of seat) history
turns_of h seat [] = refl
turns_of h seat (e ∷ later) = choose (nat_eq e.seat seat) (turns_of (after_entry h e) seat later)
  where
    choose : (b : Bool) → list_any found_none (turns (after_entry h e) seat later) ≡ list_any (is_full_of seat) later
        → list_any found_none (if b then turn h e ∷ turns (after_entry h e) seat later else turns (after_entry h e) seat later) ≡ ((b && is_full e.reply) || list_any (is_full_of seat) later)
    choose true rest = ap (λ (x : Bool). is_full e.reply || x) rest
    choose false rest = rest

-- NO REPLY OF THE PLAIN HEAP IS THAT THERE IS NO ROOM
never_by : (register : Option ℕ) (has : ℕ → Bool) (done : ℕ → Reply) → ((birth : ℕ) → is_full (done birth) ≡ false) → is_full (entering register has reply.Nil reply.Field done) ≡ false
never_by None has done not = refl
never_by (Some birth) has done not = choose (has birth)
  where
    choose : (b : Bool) → is_full (if b then done birth else reply.Field) ≡ false
    choose true = not birth
    choose false = refl

never_said : (b : Bool) → is_full (said b) ≡ false
never_said true = refl
never_said false = refl

never_full : (h : Heap) (seat : ℕ) (c : Call) → is_full (reply_of h seat c) ≡ false
unfolding reply_of
never_full h seat (call.Get reg field) = never_by (register h seat reg) (has_number h field) (λ birth. reply.Num (value h birth field)) (λ birth. refl)
never_full h seat (call.Put reg field number) = never_by (register h seat reg) (has_number h field) (λ birth. reply.Unit) (λ birth. refl)
never_full h seat (call.Load dest reg field) = never_by (register h seat reg) (has_reference h field) (λ birth. reply.Unit) (λ birth. refl)
never_full h seat (call.Store reg field from) = never_by (register h seat reg) (has_reference h field) (λ birth. reply.Unit) (λ birth. refl)
never_full h seat (call.Move dest from) = refl
never_full h seat (call.Clear dest) = refl
never_full h seat (call.New dest shape) = refl
never_full h seat (call.Same a b) = never_said (is_same (register h seat a) (register h seat b))
never_full h seat (call.IsNull reg) = never_said (is_none (register h seat reg))

refused_or_full : (h : Heap) (e : Entry) → EntryLegal h e → is_refused e ≡ is_full e.reply
refused_or_full h e legal = either legal.1
  where
    apart : (a b : Bool) → b ≡ false → (a && b) ≡ b
    apart true b is = refl
    apart false b is = sym is

    either : ((e.reply ≡ reply_of h e.seat e.call) × (e.reply ≢ reply.Nil) × (e.reply ≢ reply.Field)) ⊎ (is_refused e ≡ true) → is_refused e ≡ is_full e.reply
    either (inl told) = apart (is_new e.call) (is_full e.reply) (ap is_full told.0 ∙ never_full h e.seat e.call)
    either (inr refused) = refused ∙ sym (and_parts (is_new e.call) (is_full e.reply) refused).1

refused_as_full : (start : Heap) (history : History) → Legal start history → list_any is_refused history ≡ list_any (λ (e : Entry). is_full e.reply) history
unfolding Legal
refused_as_full start [] legal = refl
refused_as_full start (e ∷ later) legal = λ i. refused_or_full start e legal.0 i || refused_as_full (after_entry start e) later legal.1 i

-- EACH ENTRY IS OF ONE OF THE SEATS
none_on : (g : Geometry) (t : ℕ) → tasks g ≤ t → (log later : List Action) → SeatsBelow (tasks g) later → of_seat (run_from_opening g log).history t ≡ []
    → of_seat (run_from_opening g (log ++ later)).history t ≡ []
unfolding run act
none_on g t far log [] below none = ap (λ (l : List Action). of_seat (run_from_opening g l).history t) (append-nil log) ∙ none
none_on g t far log (begin seat c ∷ later) below none =
    ap (λ (l : List Action). of_seat (run_from_opening g l).history t) (sym (append_assoc log (begin seat c ∷ []) later))
    ∙ none_on g t far (log ++ begin seat c ∷ []) later below.1
    (ap (λ r. of_seat r.history t) (run_more g log (begin seat c ∷ [])) ∙ (acts_alone g seat below.0 (begin seat c ∷ []) log (refl, tt)).history t (λ same. omega (arith, same, below.0, far)) ∙ none)
none_on g t far log (step seat ∷ later) below none =
    ap (λ (l : List Action). of_seat (run_from_opening g l).history t) (sym (append_assoc log (step seat ∷ []) later))
    ∙ none_on g t far (log ++ step seat ∷ []) later below.1
    (ap (λ r. of_seat r.history t) (run_more g log (step seat ∷ [])) ∙ (acts_alone g seat below.0 (step seat ∷ []) log (refl, tt)).history t (λ same. omega (arith, same, below.0, far)) ∙ none)
none_on g t far log (collect ∷ later) below none =
    ap (λ (l : List Action). of_seat (run_from_opening g l).history t) (sym (append_assoc log (collect ∷ []) later))
    ∙ none_on g t far (log ++ collect ∷ []) later below (ap (λ r. of_seat r.history t) (run_more g log (collect ∷ [])) ∙ none)

pub seats_few : (g : Geometry) (log : List Action) → SeatsBelow (tasks g) log → (t : ℕ) → tasks g ≤ t → of_seat (run_from_opening g log).history t ≡ []
unfolding run_from_opening run of_seat
seats_few g log below t far = none_on g t far [] log below refl

-- WHO FOUND NO ROOM
not_there : (history : History) (e : Entry) (later : History) → of_seat (e ∷ later) e.seat ≡ [] → ⊥
unfolding of_seat
not_there history e later none = let here : e ∷ of_seat later e.seat ≡ [] = sym (rw (eq-eqb e.seat e.seat refl) refl) ∙ none in cc

later_none : (e : Entry) (later : History) (t : ℕ) → of_seat (e ∷ later) t ≡ [] → of_seat later t ≡ []
unfolding of_seat
later_none e later t none = choose (nat_eq e.seat t) none
  where
    choose : (b : Bool) → (if b then e ∷ of_seat later t else of_seat later t) ≡ [] → of_seat later t ≡ []
    choose true is = absurd (cc)
    choose false is = is

record FoundBy (few : ℕ) (history : History) : Type 0 where
  pub seat : ℕ
  pub below : seat < few
  pub found : list_any (is_full_of seat) history ≡ true

found_by : (few : ℕ) (history : History) → ((t : ℕ) → few ≤ t → of_seat history t ≡ []) → list_any (λ (e : Entry). is_full e.reply) history ≡ true → FoundBy few history
found_by few [] seats any = absurd (cc)
found_by few (e ∷ later) seats any = elim (or_cases (is_full e.reply) (list_any (λ (x : Entry). is_full x.reply) later) any) [
  | inl here ↦ record {
    seat = e.seat;
    below = elim (cases_lt e.seat few) [
      | inl below ↦ below
      | inr far ↦ absurd (not_there later e later (seats e.seat far))
    ];
    found = or_left (is_full_of e.seat e) (list_any (is_full_of e.seat) later) (and_from (nat_eq e.seat e.seat) (is_full e.reply) (eq-eqb e.seat e.seat refl) here);
  }
  | inr there ↦ let f = found_by few later (λ t far. later_none e later t (seats t far)) there in record { seat = f.seat; below = f.below; found = or_right (is_full_of f.seat e) (list_any (is_full_of f.seat) later) f.found }
]

found_any : (seat : ℕ) (history : History) → list_any (is_full_of seat) history ≡ true → list_any (λ (e : Entry). is_full e.reply) history ≡ true
found_any seat [] found = found
found_any seat (e ∷ later) found = elim (or_cases (is_full_of seat e) (list_any (is_full_of seat) later) found) [
  | inl here ↦ or_left (is_full e.reply) (list_any (λ (x : Entry). is_full x.reply) later) (and_parts (nat_eq e.seat seat) (is_full e.reply) here).1
  | inr there ↦ or_right (is_full e.reply) (list_any (λ (x : Entry). is_full x.reply) later) (found_any seat later there)
]

-- a test holds of an element of a list exactly where it does at a place
record HoldsSomewhere {A : Type 0} (p : A → Bool) (xs : List A) : Type 0 where
  pub place : ℕ
  pub below : place < length xs
  pub holds : (d : A) → p (slice_index_or xs place d) ≡ true

somewhere : {A : Type 0} (p : A → Bool) (xs : List A) → list_any p xs ≡ true → HoldsSomewhere p xs
somewhere p [] any = absurd (cc)
somewhere p (x ∷ xs) any = elim (or_cases (p x) (list_any p xs) any) [
  | inl here ↦ record { place = zero; below = omega arith; holds = λ d. here }
  | inr there ↦ let s = somewhere p xs there in let within = s.below in record { place = suc s.place; below = omega (arith, within); holds = s.holds }
]

at_some : {A : Type 0} (p : A → Bool) (xs : List A) (i : ℕ) (d : A) → i < length xs → p (slice_index_or xs i d) ≡ true → list_any p xs ≡ true
at_some p [] i d below holds = absurd (omega (arith, below))
at_some p (x ∷ xs) zero d below holds = or_left (p x) (list_any p xs) holds
at_some p (x ∷ xs) (suc i) d below holds = or_right (p x) (list_any p xs) (at_some p xs i d (omega (arith, below)) holds)

same_bool : (a b : Bool) → (a ≡ true → b ≡ true) → (b ≡ true → a ≡ true) → a ≡ b
same_bool true b to from = sym (to refl)
same_bool false true to from = from refl
same_bool false false to from = refl

abbrev has_stopped : Progress → Bool
has_stopped own = is_some own.full

-- some worker stopped exactly where the history has a New without room
pub stopped_any : (start : Heap) (history : History) (all : List Progress) → Legal start history → ((t : ℕ) → length all ≤ t → of_seat history t ≡ [])
    → ((seat : ℕ) (d : Progress) → seat < length all → is_some (slice_index_or all seat d).full ≡ list_any (is_full_of seat) history)
    → list_any has_stopped all ≡ list_any is_refused history
stopped_any start history all legal seats each = same_bool (list_any has_stopped all) (list_any is_refused history) to from
  where
    full_is : list_any is_refused history ≡ list_any (λ (e : Entry). is_full e.reply) history
    full_is = refused_as_full start history legal

    to : list_any has_stopped all ≡ true → list_any is_refused history ≡ true
    to any =
        let s = somewhere has_stopped all any in
        let d = item all s.place s.below in
        full_is ∙ found_any s.place history (sym (each s.place d s.below) ∙ s.holds d)

    from : list_any is_refused history ≡ true → list_any has_stopped all ≡ true
    from any =
        let f = found_by (length all) history seats (sym full_is ∙ any) in
        let d = item all f.seat f.below in
        at_some has_stopped all f.seat d f.below (each f.seat d f.below ∙ f.found)

-- a course that has taken every turn has stopped exactly where the history has a New without room of its seat
pub course_stopped : (script : List Statement) (jobs : ℕ) (start : Heap) (seat : ℕ) (history : History) → (course script jobs start seat history).rest ≡ []
    → is_some (course script jobs start seat history).full ≡ list_any (is_full_of seat) history
course_stopped script jobs start seat history none = full_turns script jobs start seat history none ∙ turns_of start seat history
