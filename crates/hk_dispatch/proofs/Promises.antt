-- The promises of sessions that are proved.
use Rattle.std.proofs.Common.{◌≡◌, ℕ, ◌<◌, List, Option, None, refl, sym, ◌∙◌, ap, subst, arith}
use Rattle.std.proofs.lemmas.Bool.{eqb-true, eq-eqb}
use Rattle.std.specs.Prelude.{◌==◌, ◌↔◌, IfSome, IsTrue}
use Rattle.hk_words.specs.declared.geometry.Geometry.{Geometry}
use Rattle.hk_words.specs.declared.call.Call.{Call}
use Rattle.hk_words.specs.declared.call.Call.TheVariants as call
use Rattle.hk_words.specs.Bounds.{places_of}
use Rattle.hk_words.specs.Calls.{RegistersFit}
use Rattle.hk_words.specs.Geometry.{tasks}
use Rattle.hk_model.specs.Heap.{opening_of}
use Rattle.hk_model.specs.History.{History, Legal, after}
use Rattle.hk_model.specs.Replies.{reply_of, said}
use Rattle.hk_core.specs.declared.spot.Work.{Work}
use Rattle.hk_core.specs.declared.spot.Work.TheVariants.{Flipped}
use Rattle.hk_core.specs.State.{State, flight_of}
use Rattle.hk_core.specs.Collect.{work_by_collector}
use Rattle.hk_core.specs.Run.{Running}
use Rattle.hk_core.specs.View.{flight_at}
use Rattle.hk_core.specs.Lawful.{Lawful}
use Rattle.hk_collect.specs.Measure.{useful_after}
use Rattle.hk_collect.proofs.Running.{legal_from_opening}
use Rattle.hk_collect.proofs.UsedLaws.{traced_is_run}
use Rattle.hk_core.proofs.Shown.{is_null_answers, same_answers}
use Rattle.hk_script.specs.declared.walk.Need.{Need}
use Rattle.hk_script.specs.declared.walk.Need.TheVariants as need
use Rattle.hk_script.specs.Limits.{limits_of}
use Rattle.hk_script.specs.Needs.{NeedFits}
use Rattle.hk_script.proofs.Needs.{need_fits}
use Rattle.hk_plan.specs.declared.Ready.{Ready}
use Rattle.hk_sheet.specs.declared.sheet.Sheet.{Sheet}
use Rattle.hk_dispatch.specs.Tasks.{task_at}
use Rattle.hk_dispatch.specs.Moment.{Moment, core_of, history_of, course_at, need_at}
use Rattle.hk_dispatch.specs.Turns.{Turn, to_collector, turn}
use Rattle.hk_dispatch.specs.Ticks.{asked, after_event, after_turn}
use Rattle.hk_dispatch.specs.Session.{state, after_tick}
use Rattle.hk_dispatch.specs.Laws.{RunIsInterleaving, LegalInAnyOrder, HistoryIsLegal, QuestionsAreAnswered, IdleExactly, DebtIsAccounted, UsefulWithin, FlipIsUseful, CollectorNeverWaits, LiveOverHasCause, NoTaskIsSpent, UsedIsPaid, JobsAreKept, OneLowOperation}
use Rattle.hk_dispatch.proofs.TurnFacts.{turn_is}
use Rattle.hk_dispatch.proofs.Sheets.{scripts, seats}
use Rattle.hk_dispatch.proofs.SeatsInStep.{none_flying}
use Rattle.hk_dispatch.proofs.Waiting.{idle_exactly, seat_below}
use Rattle.hk_dispatch.proofs.Runs.{state_run, geometry_at, lawful_at, legal_at}
use Rattle.hk_dispatch.proofs.SessionJobs.{accounted, one_low, jobs_kept}
use Rattle.hk_dispatch.proofs.SessionHeap.{collector_never_waits, useful_within}
use Rattle.hk_dispatch.proofs.SessionLive.{live_over_cause}
use Rattle.hk_dispatch.proofs.SessionBegun.{begun_few, not_spent}
use Rattle.hk_dispatch.proofs.SessionPaid.{used_is_paid}

pub run_is_interleaving : RunIsInterleaving
run_is_interleaving g choice sheet work attempt busy debt s t moment = state_run g choice sheet t

pub legal_in_any_order : (g : Geometry) → LegalInAnyOrder g
legal_in_any_order g actions =
    subst (λ (r : Running). Legal (opening_of g) r.history) (sym (traced_is_run g actions)) (legal_from_opening g actions)

pub history_is_legal : HistoryIsLegal
history_is_legal g choice sheet work attempt busy debt s t moment = legal_at g choice sheet t

pub debt_is_accounted : DebtIsAccounted
debt_is_accounted g choice sheet work attempt busy debt s t moment = accounted g choice s.choice_is sheet t

pub jobs_are_kept : JobsAreKept
jobs_are_kept g choice sheet work attempt busy debt s t moment = jobs_kept g choice s.choice_is sheet s.checked.readable s.checked.declared s.sizes t

pub one_low_operation : OneLowOperation
one_low_operation g choice sheet work attempt busy debt s t moment = one_low g choice s.choice_is sheet t

pub idle_is_exact : IdleExactly
idle_is_exact g choice sheet work attempt busy debt s t tick =
    idle_exactly sheet (state g choice sheet t) t (jobs_kept g choice s.choice_is sheet s.checked.readable s.checked.declared s.sizes t) choice s.choice_is

pub useful_is_within : UsefulWithin
useful_is_within g choice sheet work attempt busy debt s t moment =
    let few = useful_within g choice s.choice_is sheet s.checked.readable s.checked.declared s.sizes t in
    omega (arith, few, s.checked.work_is)

flip_after : (choice : List Ready → ℕ) (sheet : Sheet) (m : Moment) (t : ℕ) (over : Option ℕ) → over ≡ None → turn choice sheet m t ≡ to_collector
    → work_by_collector (core_of m) ≡ Flipped → (after_tick choice sheet m t over).useful ≡ 1
unfolding after_event
flip_after choice sheet m t over none goes flips =
    ap (λ (o : Option ℕ). (after_tick choice sheet m t o).useful) none
    ∙ ap (λ (o : Turn). (after_turn sheet m t o).useful) goes
    ∙ ap (λ (w : Work). useful_after w m.useful) flips

pub flip_is_useful : FlipIsUseful
unfolding state
flip_is_useful g choice sheet work attempt busy debt s t tick goes flips =
    flip_after choice sheet (state g choice sheet t) t (state g choice sheet t).over tick.before_over goes flips

pub never_waits : CollectorNeverWaits
never_waits g choice sheet work attempt busy debt s t tick e = collector_never_waits g choice s.choice_is sheet s.checked.readable s.checked.declared s.sizes t tick.within e

pub live_over_has_cause : LiveOverHasCause
live_over_has_cause g choice sheet work attempt busy debt s t words le e = live_over_cause g choice s.choice_is sheet s.checked.readable s.checked.declared s.sizes t words e

pub no_task_is_spent : NoTaskIsSpent
no_task_is_spent g choice sheet work attempt busy debt s t tick seat c goes =
    not_spent (core_of (state g choice sheet t)) seat c t (begun_few g choice sheet t) (let lt = tick.within in let most = s.checked.readable.ticks.at_most in omega (arith, lt, most))

pub used_is_covered : UsedIsPaid
used_is_covered g choice sheet work attempt busy debt s t moment = used_is_paid g choice s.choice_is sheet s.checked.readable s.checked.declared s.sizes t moment.within moment.before_over

-- QUESTIONS

-- the answer to a question of an idle seat is the plain heap's
module _ (c : State) (history : History) (h : Lawful c history) (seat : ℕ) (below : seat < tasks c.geometry) (idle : (flight_of c.flights seat).place ≡ 0) where
  test_is : (x y : ℕ) → IsTrue (x == y) ↔ (x ≡ y)
  test_is x y = ((λ e. eqb-true x y e), (λ e. eq-eqb x y e))

  asks : (call : Call) → RegistersFit c.geometry.registers call → places_of call ≡ 0 → said (asked c seat call) ≡ reply_of (after (opening_of c.geometry) history) seat call
  unfolding flight_at
  asks (call.Get reg field) fits e = absurd (omega (arith, e))
  asks (call.Put reg field value) fits e = absurd (omega (arith, e))
  asks (call.Load dest reg field) fits e = absurd (omega (arith, e))
  asks (call.Store reg field from) fits e = absurd (omega (arith, e))
  asks (call.Move dest from) fits e = absurd (omega (arith, e))
  asks (call.Clear dest) fits e = absurd (omega (arith, e))
  asks (call.New dest shape) fits e = absurd (omega (arith, e))
  asks (call.Same a b) fits e = sym (same_answers c history seat below h idle a b fits.0 fits.1 _ (test_is _ _))
  asks (call.IsNull reg) fits e = sym (is_null_answers c history seat below h idle reg fits _ (test_is _ _))

pub questions_are_answered : QuestionsAreAnswered
questions_are_answered g choice sheet work attempt busy debt s t tick seat c goes wants =
    let m = state g choice sheet t in
    let jobs = jobs_kept g choice s.choice_is sheet s.checked.readable s.checked.declared s.sizes t in
    let below = seat_below choice sheet m t (turn choice sheet m t) seat (turn_is choice sheet m t s.choice_is) goes in
    let geometry = geometry_at g choice sheet t in
    let flying = jobs.in_step seat below in
    let idle = none_flying (flight_of (core_of m).flights seat) (need_at sheet m seat) (course_at m seat).spent flying (rw wants refl) in
    let script = scripts sheet s.checked.readable seat below in
    let fits : NeedFits (limits_of sheet.heap.fields sheet.heap.registers) (need.Ask c) =
    subst (λ (o : Option Need). IfSome o (NeedFits (limits_of sheet.heap.fields sheet.heap.registers))) wants (need_fits (limits_of sheet.heap.fields sheet.heap.registers) (task_at sheet seat).script (course_at m seat).walk script) in
    let registers : RegistersFit (core_of m).geometry.registers c = subst (λ r. RegistersFit r c) (sym (s.sizes.registers) ∙ sym (ap (λ (k : Geometry). k.registers) geometry)) fits.0 in
    subst (λ (k : Geometry). said (asked (core_of m) seat c) ≡ reply_of (after (opening_of k) (history_of m)) seat c) geometry
    (asks (core_of m) (history_of m) (lawful_at g choice sheet t) seat (subst (λ k. seat < k) (sym (ap tasks geometry ∙ seats g sheet s.sizes)) below) idle c registers fits.1)
