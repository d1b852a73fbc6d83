-- One statement of a worker is one statement of the course.
use Rattle.std.proofs.Common.{◌≡◌, ◌⊎◌, ℕ, ◌≤◌, ◌+◌, Bool, true, false, List, [], ◌∷◌, ◌++◌, length, refl, sym, ◌∙◌, ap, subst, arith, inl, inr, Option, Some, None, append-nil, is_some, is_none, zero, suc, IsSomeAnd, append_assoc, ◌-◌, ◌*◌, eq-eqb, filter}
use Rattle.std.specs.Prelude.{if◌then◌else◌}
use Rattle.hk_words.specs.declared.call.Call.{Call}
use Rattle.hk_words.specs.declared.call.Call.TheVariants as call
use Rattle.hk_words.specs.declared.call.Reply.{Reply}
use Rattle.hk_words.specs.declared.call.Reply.TheVariants as reply
use Rattle.hk_model.specs.Heap.{Heap, register}
use Rattle.hk_model.specs.History.{History, after, is_question, is_full, of_seat}
use Rattle.hk_model.specs.Replies.{reply_of, said, is_same}
use Rattle.hk_core.specs.Faults.{FindsField}
use Rattle.hk_script.specs.declared.statement.Statement.{Statement}
use Rattle.hk_script.specs.declared.walk.Need.{Need}
use Rattle.hk_script.specs.declared.walk.Need.TheVariants as need
use Rattle.hk_script.specs.declared.walk.Walk.{Walk}
use Rattle.hk_script.specs.Cost.{greatest_ticks}
use Rattle.hk_script.specs.Walks.{started, need_of, walk_after, IsAnswer, AnswersCall, Answers}
use Rattle.hk_race.specs.declared.progress.Progress.{Progress}
use Rattle.hk_race.specs.Turns.{Turn, turns}
use Rattle.hk_race.specs.Course.{Course, stepped, did, called, took, took_next, times, begun, ended, job_done, opened, course}
use Rattle.hk_race.specs.Goes.{Goes, Ends, course_of}
use Rattle.hk_race.specs.declared.note.Note.TheVariants as note
use Rattle.hk_race.specs.Says.{Saw, Replied, FoundFull}
use Rattle.hk_race.proofs.Turning.{turns-saw, turns-later}

-- a question is answered by yes or no
pub ask_answers : (h : Heap) (seat : ℕ) (q : Call) → is_question q ≡ true → IsAnswer (reply_of h seat q)
unfolding reply_of
ask_answers h seat (call.Get r field) is = absurd cc
ask_answers h seat (call.Put r field number) is = absurd cc
ask_answers h seat (call.Load dest r field) is = absurd cc
ask_answers h seat (call.Store r field from) is = absurd cc
ask_answers h seat (call.Move dest from) is = absurd cc
ask_answers h seat (call.Clear dest) is = absurd cc
ask_answers h seat (call.New dest shape) is = absurd cc
ask_answers h seat (call.Same a b) is = choose (is_same (register h seat a) (register h seat b))
  where
    choose : (x : Bool) → IsAnswer (said x)
    choose true = tt
    choose false = tt
ask_answers h seat (call.IsNull r) is = choose (is_none (register h seat r))
  where
    choose : (x : Bool) → IsAnswer (said x)
    choose true = tt
    choose false = tt

-- STEPS OF A COURSE
pub stepped_by : (script : List Statement) (seat : ℕ) (c : Course) (n : Option Need) → c.full ≡ None → need_of script c.walk ≡ n → stepped script seat c ≡ did script seat n c
unfolding stepped
stepped_by script seat c n going is = rw (going, is) refl

module _ (start : Heap) (seat : ℕ) (script : List Statement) (seen : History) (own own_now : Progress) (going : own.full ≡ None) where
  -- a statement that takes no turn
  pub goes_quiet : (n : Option Need) → need_of script own.walk ≡ n
      → ((later : List Turn) → did script seat n (course_of own (after start seen) later) ≡ course_of own_now (after start seen) later)
      → Goes start seat (stepped script seat) seen seen own own_now
  goes_quiet n is each = record {
    fresh = [];
    more = sym (append-nil (turns start seat seen));
    goes = λ later. stepped_by script seat (course_of own (after start seen) later) n going is ∙ each later;
  }

  -- a call that is refused
  pub goes_refused : (c : Call) (r : Reply) → need_of script own.walk ≡ Some (need.Heap c) → reply_of (after start seen) seat c ≡ r
      → ((later : List Turn) → called script r (course_of own (after start seen) later) ≡ course_of own_now (after start seen) later)
      → Goes start seat (stepped script seat) seen seen own own_now
  goes_refused c r is replies each = goes_quiet (Some (need.Heap c)) is (λ later. ap (λ (r : Reply). called script r (course_of own (after start seen) later)) replies ∙ each later)

  -- a reply that is no refusal takes the next turn
  not_refused : (r : Reply) (c : Course) → FindsField r → called script r c ≡ took_next script c.rest c
  not_refused reply.Nil c finds = absurd (finds.0 refl)
  not_refused reply.Field c finds = absurd (finds.1 refl)
  not_refused reply.Full c finds = refl
  not_refused reply.Unit c finds = refl
  not_refused (reply.Num n) c finds = refl
  not_refused reply.Yes c finds = refl
  not_refused reply.No c finds = refl

  -- a call that isn't refused takes the turn of its entry
  pub goes_called : (c : Call) (now : History) (saw : Saw start seat c seen now) → need_of script own.walk ≡ Some (need.Heap c)
      → ((later : List Turn) → took script (record { entry = saw.entry; heap = after start now }) later (course_of own (after start seen) (record { entry = saw.entry; heap = after start now } ∷ later))
      ≡ course_of own_now (after start now) later)
      → Goes start seat (stepped script seat) seen now own own_now
  goes_called c now saw is each = record {
    fresh = record { entry = saw.entry; heap = after start now } ∷ [];
    more = turns-saw start seat c seen now saw;
    goes = λ later.
        let next : Turn = record { entry = saw.entry; heap = after start now } in
        let at : Course = course_of own (after start seen) (next ∷ later) in
        stepped_by script seat at (Some (need.Heap c)) going is
        ∙ not_refused (reply_of (after start seen) seat c) at saw.finds
        ∙ each later;
  }

-- THE ANSWERS OF A CALL
fits_full : (c : Call) (r : Reply) → AnswersCall c r → is_full r ≡ false
fits_full (call.Get r field) x (n, below, is) = rw is refl
fits_full (call.Put r field number) x is = rw is refl
fits_full (call.Load dest r field) x is = rw is refl
fits_full (call.Store r field from) x is = rw is refl
fits_full (call.Move dest from) x is = rw is refl
fits_full (call.Clear dest) x is = rw is refl
fits_full (call.New dest shape) x is = rw is refl
fits_full (call.Same a b) x is = rw is refl
fits_full (call.IsNull r) x is = rw is refl

pub goes_done : (start : Heap) (seat : ℕ) (script : List Statement) (seen now : History) (own : Progress) (c : Call) (r : Reply) (w : Walk) → own.full ≡ None
    → need_of script own.walk ≡ Some (need.Heap c) → Replied start seat c seen now r → w ≡ walk_after script own.walk r
    → Goes start seat (stepped script seat) seen now own (record own { walk = w })
goes_done start seat script seen now own c r w going is replied after_is =
    goes_called start seat script seen own (record own { walk = w }) going c now replied.saw is (λ later.
    rw (replied.reply_is, fits_full c r replied.fits, after_is) refl)

pub goes_full : (start : Heap) (seat : ℕ) (script : List Statement) (seen now : History) (own : Progress) (c : Call) (words : ℕ) → own.full ≡ None
    → need_of script own.walk ≡ Some (need.Heap c) → FoundFull start seat c seen now words
    → Goes start seat (stepped script seat) seen now own (record own { full = Some words })
goes_full start seat script seen now own c words going is refused =
    goes_called start seat script seen own (record own { full = Some words }) going c now refused.saw is (λ later.
    rw (refused.full, refused.words_are) refl)

-- a call that is refused ends the job
pub goes_nil : (start : Heap) (seat : ℕ) (script : List Statement) (seen now : History) (own own_now : Progress) (c : Call) (statement : ℕ) → own.full ≡ None
    → need_of script own.walk ≡ Some (need.Heap c) → (now ≡ seen) × (reply_of (after start seen) seat c ≡ reply.Nil) → statement ≡ own.walk.place + 1
    → Ends script (note.Nil own.jobs statement) own own_now
    → Goes start seat (stepped script seat) seen now own own_now
goes_nil start seat script seen now own own_now c statement going is refused at ends =
    subst (λ (h : History). Goes start seat (stepped script seat) seen h own own_now) (sym refused.0)
    (goes_refused start seat script seen own own_now going c reply.Nil is refused.1 (λ later. rw (ends.walk, ends.notes, ends.jobs, ends.full, at) refl))

pub goes_field : (start : Heap) (seat : ℕ) (script : List Statement) (seen now : History) (own own_now : Progress) (c : Call) (statement : ℕ) → own.full ≡ None
    → need_of script own.walk ≡ Some (need.Heap c) → (now ≡ seen) × (reply_of (after start seen) seat c ≡ reply.Field) → statement ≡ own.walk.place + 1
    → Ends script (note.Field own.jobs statement) own own_now
    → Goes start seat (stepped script seat) seen now own own_now
goes_field start seat script seen now own own_now c statement going is refused at ends =
    subst (λ (h : History). Goes start seat (stepped script seat) seen h own own_now) (sym refused.0)
    (goes_refused start seat script seen own own_now going c reply.Field is refused.1 (λ later. rw (ends.walk, ends.notes, ends.jobs, ends.full, at) refl))

-- STATEMENTS THAT TAKE NO TURN
pub goes_end : (start : Heap) (seat : ℕ) (script : List Statement) (seen : History) (own : Progress) → own.full ≡ None → need_of script own.walk ≡ None
    → Goes start seat (stepped script seat) seen seen own own
goes_end start seat script seen own going is = goes_quiet start seat script seen own own going None is (λ later. refl)

pub goes_work : (start : Heap) (seat : ℕ) (script : List Statement) (seen : History) (own : Progress) (n : ℕ) (w : Walk) → own.full ≡ None
    → need_of script own.walk ≡ Some (need.Work n) → w ≡ walk_after script own.walk reply.Unit
    → Goes start seat (stepped script seat) seen seen own (record own { walk = w })
goes_work start seat script seen own n w going is after_is = goes_quiet start seat script seen own (record own { walk = w }) going (Some (need.Work n)) is (λ later. rw after_is refl)

pub goes_local : (start : Heap) (seat : ℕ) (script : List Statement) (seen : History) (own : Progress) (w : Walk) → own.full ≡ None
    → need_of script own.walk ≡ Some need.Local → w ≡ walk_after script own.walk reply.Unit
    → Goes start seat (stepped script seat) seen seen own (record own { walk = w })
goes_local start seat script seen own w going is after_is = goes_quiet start seat script seen own (record own { walk = w }) going (Some need.Local) is (λ later. rw after_is refl)

pub goes_ask : (start : Heap) (seat : ℕ) (script : List Statement) (seen : History) (own : Progress) (q : Call) (r : Reply) (w : Walk) → own.full ≡ None
    → need_of script own.walk ≡ Some (need.Ask q) → r ≡ reply_of (after start seen) seat q → w ≡ walk_after script own.walk r
    → Goes start seat (stepped script seat) seen seen own (record own { walk = w })
goes_ask start seat script seen own q r w going is answers after_is =
    goes_quiet start seat script seen own (record own { walk = w }) going (Some (need.Ask q)) is (λ later. rw (after_is, answers) refl)

pub goes_out : (start : Heap) (seat : ℕ) (script : List Statement) (seen : History) (own own_now : Progress) (v : ℕ) → own.full ≡ None
    → need_of script own.walk ≡ Some (need.Out v) → own_now.notes.items ≡ own.notes.items ++ note.Out v ∷ [] → own_now.walk ≡ walk_after script own.walk reply.Unit
    → own_now.jobs ≡ own.jobs → own_now.full ≡ own.full
    → Goes start seat (stepped script seat) seen seen own own_now
goes_out start seat script seen own own_now v going is notes after_is jobs full =
    goes_quiet start seat script seen own own_now going (Some (need.Out v)) is (λ later. rw (after_is, notes, jobs, full) refl)

-- the reply to a question fits its need
pub ask_fits : (start : Heap) (seat : ℕ) (script : List Statement) (w : Walk) (seen : History) (q : Call) (r : Reply) → is_question q ≡ true
    → need_of script w ≡ Some (need.Ask q) → r ≡ reply_of (after start seen) seat q → IsSomeAnd (need_of script w) (λ n. Answers n r)
ask_fits start seat script w seen q r question is answers = rw (is, answers) (ask_answers (after start seen) seat q question)

-- ONE AFTER ANOTHER
pub goes_then : (start : Heap) (seat : ℕ) (f g : Course → Course) (s0 s1 s2 : History) (o0 o1 o2 : Progress) → Goes start seat f s0 s1 o0 o1 → Goes start seat g s1 s2 o1 o2
    → Goes start seat (λ c. g (f c)) s0 s2 o0 o2
goes_then start seat f g s0 s1 s2 o0 o1 o2 p q = record {
  fresh = p.fresh ++ q.fresh;
  more = q.more ∙ ap (λ (ts : List Turn). ts ++ q.fresh) p.more ∙ append_assoc (turns start seat s0) p.fresh q.fresh;
  goes = λ later.
      ap (λ (ts : List Turn). g (f (course_of o0 (after start s0) ts))) (append_assoc p.fresh q.fresh later)
      ∙ ap g (p.goes (q.fresh ++ later))
      ∙ q.goes later;
}

-- a worker that has stopped, or is at the end of its script, stays as it is
pub stays : (script : List Statement) (seat : ℕ) (c : Course) (n : ℕ) → stepped script seat c ≡ c → times n (stepped script seat) c ≡ c
stays script seat c zero is = refl
stays script seat c (suc n) is = ap (stepped script seat) (stays script seat c n is) ∙ is

pub times_more : {A : Type 0} (m n : ℕ) (f : A → A) (x : A) → times n f (times m f x) ≡ times (n + m) f x
times_more m zero f x = let e : m ≡ 0 + m = omega arith in ap (λ (n : ℕ). times n f x) e
times_more m (suc n) f x = let e : suc (n + m) ≡ suc n + m = omega arith in ap f (times_more m n f x) ∙ ap (λ (n : ℕ). times n f x) e

pub goes_stays : (start : Heap) (seat : ℕ) (script : List Statement) (done cost : ℕ) (s0 s1 : History) (o0 o1 : Progress) → done ≤ cost
    → ((rest : List Turn) → stepped script seat (course_of o1 (after start s1) rest) ≡ course_of o1 (after start s1) rest)
    → Goes start seat (times done (stepped script seat)) s0 s1 o0 o1 → Goes start seat (times cost (stepped script seat)) s0 s1 o0 o1
goes_stays start seat script done cost s0 s1 o0 o1 within still p = record {
  fresh = p.fresh;
  more = p.more;
  goes = λ later.
      let f = stepped script seat in
      let x = course_of o0 (after start s0) (p.fresh ++ later) in
      let all : cost - done + done ≡ cost = omega (arith, within) in
      sym (ap (λ (n : ℕ). times n f x) all) ∙ sym (times_more done (cost - done) f x) ∙ ap (times (cost - done) f) (p.goes later) ∙ stays script seat (course_of o1 (after start s1) later) (cost - done) (still later);
}

pub stopped_still : (script : List Statement) (seat : ℕ) (c : Course) → is_some c.full ≡ true → stepped script seat c ≡ c
unfolding stepped
stopped_still script seat c is = rw is refl

pub ended_still : (script : List Statement) (seat : ℕ) (c : Course) → need_of script c.walk ≡ None → stepped script seat c ≡ c
unfolding stepped
ended_still script seat c is = choose (is_some c.full)
  where
    choose : (x : Bool) → (if x then c else did script seat (need_of script c.walk) c) ≡ c
    choose true = refl
    choose false = rw is refl

pub goes_once : (start : Heap) (seat : ℕ) (script : List Statement) (i : ℕ) (s0 s1 s2 : History) (o0 o1 o2 : Progress) → Goes start seat (times i (stepped script seat)) s0 s1 o0 o1
    → Goes start seat (stepped script seat) s1 s2 o1 o2 → Goes start seat (times (i + 1) (stepped script seat)) s0 s2 o0 o2
goes_once start seat script i s0 s1 s2 o0 o1 o2 p q =
    let next : suc i ≡ i + 1 = omega arith in
    subst (λ (n : ℕ). Goes start seat (times n (stepped script seat)) s0 s2 o0 o2) next (goes_then start seat (times i (stepped script seat)) (stepped script seat) s0 s1 s2 o0 o1 o2 p q)

pub no_some : {A : Type 0} (o : Option A) → is_some o ≡ false → o ≡ None
no_some None e = refl
no_some (Some x) e = absurd cc

-- along equal starts and seats
pub goes_moved : (start start' : Heap) (seat seat' : ℕ) (f : ℕ → Course → Course) (s0 s1 : History) (o0 o1 : Progress) → start' ≡ start → seat' ≡ seat
    → Goes start' seat' (f seat') s0 s1 o0 o1 → Goes start seat (f seat) s0 s1 o0 o1
goes_moved start start' seat seat' f s0 s1 o0 o1 e d p =
    subst (λ (h : Heap). Goes h seat (f seat) s0 s1 o0 o1) e (subst (λ (k : ℕ). Goes start' k (f k) s0 s1 o0 o1) d p)

-- A JOB
pub goes_begun : (start : Heap) (seat : ℕ) (s : History) (own : Progress) (w : Walk) → own.full ≡ None → w ≡ started own.jobs → Goes start seat begun s s own (record own { walk = w })
goes_begun start seat s own w going is = record { fresh = []; more = sym (append-nil (turns start seat s)); goes = λ later. rw (going, is) refl }

pub goes_ended : (start : Heap) (seat : ℕ) (script : List Statement) (s : History) (own own_now : Progress) → own.full ≡ None → own.walk.place ≡ length script
    → own_now ≡ record own { jobs = own.jobs + 1 } → Goes start seat (ended script) s s own own_now
goes_ended start seat script s own own_now going at is =
    record { fresh = []; more = sym (append-nil (turns start seat s)); goes = λ later. rw (is, going, at, eq-eqb (length script) (length script) refl) refl }

pub goes_ended_full : (start : Heap) (seat : ℕ) (script : List Statement) (s : History) (own : Progress) → is_some own.full ≡ true → Goes start seat (ended script) s s own own
goes_ended_full start seat script s own is = record { fresh = []; more = sym (append-nil (turns start seat s)); goes = λ later. rw is refl }

pub goes_job : (start : Heap) (seat : ℕ) (script : List Statement) (cost : ℕ) (s0 s1 : History) (o0 o1 o2 : Progress) (w : Walk) → o0.full ≡ None → w ≡ started o0.jobs → cost ≡ greatest_ticks script
    → Goes start seat (times cost (stepped script seat)) s0 s1 (record o0 { walk = w }) o1
    → Goes start seat (ended script) s1 s1 o1 o2
    → Goes start seat (job_done script seat) s0 s1 o0 o2
unfolding job_done
goes_job start seat script cost s0 s1 o0 o1 o2 w going is cost_is p q =
    subst (λ (n : ℕ). Goes start seat (λ c. ended script (times n (stepped script seat) (begun c))) s0 s1 o0 o2) cost_is
    (goes_then start seat (λ c. times cost (stepped script seat) (begun c)) (ended script) s0 s1 s1 o0 o1 o2
    (goes_then start seat begun (times cost (stepped script seat)) s0 s0 s1 o0 (record o0 { walk = w }) o1 (goes_begun start seat s0 o0 w going is) p) q)

-- a task that has stopped stays so over further jobs
pub job_still : (script : List Statement) (seat : ℕ) (c : Course) → is_some c.full ≡ true → job_done script seat c ≡ c
unfolding job_done
job_still script seat c is =
    ap (λ (d : Course). ended script (times (greatest_ticks script) (stepped script seat) d)) (once c is)
    ∙ ap (ended script) (stays script seat c (greatest_ticks script) (stopped_still script seat c is)) ∙ last c is
  where
    once : (c : Course) → is_some c.full ≡ true → begun c ≡ c
    once c is = rw is refl

    last : (c : Course) → is_some c.full ≡ true → ended script c ≡ c
    last c is = rw is refl

pub jobs_stay : (script : List Statement) (seat : ℕ) (c : Course) (n : ℕ) → is_some c.full ≡ true → times n (job_done script seat) c ≡ c
jobs_stay script seat c zero is = refl
jobs_stay script seat c (suc n) is = ap (job_done script seat) (jobs_stay script seat c n is) ∙ job_still script seat c is

-- THE TASK: what its worker tells is its course over the closing history
pub record Fresh (own : Progress) : Type 0 where
  pub walk : own.walk ≡ started 0
  pub notes : own.notes.items ≡ []
  pub jobs : own.jobs ≡ 0
  pub full : own.full ≡ None

pub task_told : (start : Heap) (seat : ℕ) (script : List Statement) (jobs done : ℕ) (seen : History) (o0 o1 : Progress) → Fresh o0 → done ≤ jobs
    → (done ≡ jobs) ⊎ (is_some o1.full ≡ true)
    → Goes start seat (times done (job_done script seat)) [] seen o0 o1
    → (later : History) → of_seat later seat ≡ [] → course script jobs start seat (seen ++ later) ≡ course_of o1 (after start seen) []
unfolding course after
task_told start seat script jobs done seen o0 o1 is within whole p later none =
    let f = job_done script seat in
    let ts : turns start seat (seen ++ later) ≡ p.fresh ++ [] = turns-later start seat seen later none ∙ p.more ∙ sym (append-nil p.fresh) in
    let first : opened start (turns start seat (seen ++ later)) ≡ course_of o0 start (p.fresh ++ []) = rw (is.walk, is.notes, is.jobs, is.full) (ap (opened start) ts) in
    ap (times jobs f) first ∙ go whole
  where
    go : (done ≡ jobs) ⊎ (is_some o1.full ≡ true) → times jobs (job_done script seat) (course_of o0 start (p.fresh ++ [])) ≡ course_of o1 (after start seen) []
    go (inl e) = subst (λ (n : ℕ). times n (job_done script seat) (course_of o0 start (p.fresh ++ [])) ≡ course_of o1 (after start seen) []) e (p.goes [])
    go (inr full) =
        let f = job_done script seat in
        let x = course_of o0 start (p.fresh ++ []) in
        let all : jobs - done + done ≡ jobs = omega (arith, within) in
        sym (ap (λ (n : ℕ). times n f x) all) ∙ sym (times_more done (jobs - done) f x) ∙ ap (times (jobs - done) f) (p.goes []) ∙ jobs_stay script seat (course_of o1 (after start seen) []) (jobs - done) full

pub goes_next_job : (start : Heap) (seat : ℕ) (script : List Statement) (i : ℕ) (s0 s1 s2 : History) (o0 o1 o2 : Progress) → Goes start seat (times i (job_done script seat)) s0 s1 o0 o1
    → Goes start seat (job_done script seat) s1 s2 o1 o2 → Goes start seat (times (i + 1) (job_done script seat)) s0 s2 o0 o2
goes_next_job start seat script i s0 s1 s2 o0 o1 o2 p q =
    let next : suc i ≡ i + 1 = omega arith in
    subst (λ (n : ℕ). Goes start seat (times n (job_done script seat)) s0 s2 o0 o2) next (goes_then start seat (times i (job_done script seat)) (job_done script seat) s0 s1 s2 o0 o1 o2 p q)

pub one_more_cost : (i cost : ℕ) → (i + 1) * cost ≡ i * cost + cost
one_more_cost i cost = omega arith

pub task_told_from : (start : Heap) (seat : ℕ) (script : List Statement) (jobs done : ℕ) (s0 seen : History) (o0 o1 : Progress) → Fresh o0 → done ≤ jobs
    → (done ≡ jobs) ⊎ (is_some o1.full ≡ true)
    → Goes start seat (times done (job_done script seat)) s0 seen o0 o1
    → s0 ≡ [] → (later : History) → of_seat later seat ≡ [] → course script jobs start seat (seen ++ later) ≡ course_of o1 (after start seen) []
task_told_from start seat script jobs done s0 seen o0 o1 is within whole p empty =
    task_told start seat script jobs done seen o0 o1 is within whole (subst (λ (s : History). Goes start seat (times done (job_done script seat)) s seen o0 o1) empty p)

pub length_filter : {A : Type 0} (p : A → Bool) (xs : List A) → length (filter p xs) ≤ length xs
length_filter p [] = omega arith
length_filter p (x ∷ xs) = choose (p x) (length_filter p xs)
  where
    choose : (b : Bool) → length (filter p xs) ≤ length xs → length (if b then x ∷ filter p xs else filter p xs) ≤ length (x ∷ xs)
    choose true l = omega (arith, l)
    choose false l = omega (arith, l)
