-- The debt of a session is within the number of the analysis, also with what a New of a high job still takes; and from each quiet
-- moment another follows within a busy period. What low operations and attempts do is a premise.
use Rattle.std.proofs.Common.{◌≡◌, ℕ, ◌+◌, ◌-◌, ◌*◌, ◌<◌, ◌≤◌, true, List, length, sym, ap, subst, arith, inl, inr}
use Rattle.std.proofs.lemmas.Bool.{ltb-true}
use Rattle.std.proofs.Math.Nat.{mul-le-mul_left, mul-le-mul_right}
use Rattle.hk_words.specs.declared.geometry.Geometry.{Geometry}
use Rattle.hk_words.specs.Shape.{size}
use Rattle.hk_plan.specs.declared.Ready.{Ready}
use Rattle.hk_plan.proofs.Sums.{total, total-add}
use Rattle.hk_script.specs.Runs.{need_words, taken_by}
use Rattle.hk_sheet.specs.declared.sheet.Sheet.{Sheet}
use Rattle.hk_admit.specs.Analysis.{base}
use Rattle.hk_admit.specs.Analysis as analysis
use Rattle.hk_dispatch.specs.Tasks.{high_at}
use Rattle.hk_dispatch.specs.Moment.{Moment, course_at, need_at}
use Rattle.hk_dispatch.specs.Turns.{Turn, to_task, turn}
use Rattle.hk_dispatch.specs.Session.{state, IsMoment, IsTick, IsSession}
use Rattle.hk_dispatch.specs.Laws.{DebtWithin, QuietAgain}
use Rattle.hk_dispatch.specs.Rules.{ready_now, TurnIs, by_high, by_operation, by_collector, by_low, by_nobody}
use Rattle.hk_dispatch.proofs.BusyPremises.{most, premises, debt_sum}
use Rattle.hk_dispatch.proofs.BusyRun.{bring, owe, news, liable_now, low_events_at, events_at, left_now, owed_now, quiet_at}
use Rattle.hk_dispatch.proofs.BusyWindow.{owed_within, owed_soon, next_quiet}
use Rattle.hk_dispatch.proofs.Counters.{ready_before, fresh, backlog, high_events}
use Rattle.hk_dispatch.proofs.HighLeft.{none_to_owe, waits_owing, took_before}
use Rattle.hk_dispatch.proofs.LowFacts.{LowTicksFall, LowWaits}
use Rattle.hk_dispatch.proofs.Owed.{OwedForNews}
use Rattle.hk_dispatch.proofs.QuietTest.{quiet_is, term_few}
use Rattle.hk_dispatch.proofs.ReadyCounts.{ready_next, no_backlog, ready_counts}
use Rattle.hk_dispatch.proofs.SessionJobs.{jobs_kept}
use Rattle.hk_dispatch.proofs.SessionReady.{jobs_ready}
use Rattle.hk_dispatch.proofs.TurnFacts.{turn_is}

-- a tick that goes to the task of a high seat goes to its ready job
to_high : (choice : List Ready → ℕ) (sheet : Sheet) (m : Moment) (t seat : ℕ) (o : Turn) → TurnIs choice sheet m t o → o ≡ to_task seat → seat < length sheet.high → ready_now sheet m t seat ≡ true
to_high choice sheet m t seat o (by_high other f) e high = let same : other ≡ seat = cc in subst (λ s. ready_now sheet m t s ≡ true) same f.ready
to_high choice sheet m t seat o (by_operation other f) e high = absurd (let same : other ≡ seat = cc in let from = f.first.low.from in omega (arith, from, same, high))
to_high choice sheet m t seat o (by_collector f) e high = absurd (cc)
to_high choice sheet m t seat o (by_low other f) e high = absurd (let same : other ≡ seat = cc in let from = f.first.low.from in omega (arith, from, same, high))
to_high choice sheet m t seat o (by_nobody f) e high = absurd (cc)

-- what a job may still take is part of what its task may make the collector owe
takes_part : (k b f w took x : ℕ) → 1 ≤ b + f → took + x ≤ w → k * x ≤ k * (b * w - took) + f * (k * w)
takes_part k b f w took x some few =
    let all : x ≤ (b + f) * w - took = (let m = mul-le-mul_right w some in omega (arith, m, few)) in
    let m = mul-le-mul_left k all in
    let o = waits_owing k b f w took in
    omega (arith, m, o)

module _ (falls : LowTicksFall) (waits : LowWaits) where
  pub debt_within : DebtWithin
  debt_within g choice sheet work attempt busy debt s t moment =
      let few = owed_within (length sheet.high) (most sheet) (bring g choice sheet attempt) (owe g choice sheet attempt) (base sheet) (analysis.low_events sheet) busy t
      (λ t i. ready_before (high_at sheet i) t) (news g choice sheet attempt) (quiet_at g choice sheet attempt) (left_now g choice sheet attempt) (owed_now g choice sheet attempt)
      (premises g choice sheet work attempt busy debt s falls waits t moment) t (state g choice sheet t).debt (omega arith) (omega arith)
      (λ e. (quiet_is sheet s.checked.readable (state g choice sheet t) t e).nothing_owed) in
      subst (λ d. (state g choice sheet t).debt ≤ d) (sym (debt_sum g choice sheet work attempt busy debt s)) few

  pub quiet_again : QuietAgain
  quiet_again g choice sheet work attempt busy debt s t moment is_quiet until =
      let next = next_quiet (length sheet.high) (most sheet) (bring g choice sheet attempt) (owe g choice sheet attempt) (base sheet) (analysis.low_events sheet) busy (t + busy)
      (λ t i. ready_before (high_at sheet i) t) (news g choice sheet attempt) (quiet_at g choice sheet attempt) (left_now g choice sheet attempt) (owed_now g choice sheet attempt)
      (premises g choice sheet work attempt busy debt s falls waits (t + busy) until) t (omega arith) in
      record { next = next.0; later = next.1; soon = next.2; quiet = quiet_is sheet s.checked.readable (state g choice sheet next.0) next.0 next.3 }

  -- A NEW of a high job, before it takes its words
  module _ (g : Geometry) (choice : List Ready → ℕ) (sheet : Sheet) (work attempt busy debt : ℕ) (s : IsSession g choice sheet work attempt busy debt) (t seat : ℕ)
      (high : seat < length sheet.high) (ready : ready_now sheet (state g choice sheet t) t seat ≡ true) (words : ℕ)
      (few : (course_at (state g choice sheet t) seat).took + words ≤ (high_at sheet seat).words) where
    abbrev m : Moment
    m = state g choice sheet t

    own_part : sheet.heap.rate * words ≤ high_events sheet m t seat + fresh sheet t seat * (sheet.heap.rate * (high_at sheet seat).words)
    own_part =
        let counts = ready_counts sheet s.checked.readable m t seat high ready in
        let le = jobs_ready g choice sheet s.choice_is s.checked.readable s.checked.declared s.sizes t seat high in
        takes_part sheet.heap.rate (backlog sheet m t seat) (fresh sheet t seat) (high_at sheet seat).words (course_at m seat).took words
        (omega (arith, counts, le, ready_next (high_at sheet seat) t)) few

    abbrev brings : ℕ
    brings = total (λ i. fresh sheet t i * owe g choice sheet attempt i) (length sheet.high)

    more_part : (f a b : ℕ) → f * a ≤ f * (a + b)
    more_part f a b = omega arith

    part : m.debt + sheet.heap.rate * words ≤ owed_now g choice sheet attempt t + brings
    part =
        let one = term_few (λ i. events_at g choice sheet attempt t i + fresh sheet t i * owe g choice sheet attempt i) (length sheet.high) seat high in
        let all = total-add (events_at g choice sheet attempt t) (λ i. fresh sheet t i * owe g choice sheet attempt i) (length sheet.high) in
        let more = more_part (fresh sheet t seat) (sheet.heap.rate * (high_at sheet seat).words) attempt in
        together m.debt (liable_now g choice sheet attempt t) (low_events_at g choice sheet attempt t) (total (events_at g choice sheet attempt t) (length sheet.high)) brings
        (sheet.heap.rate * words) (high_events sheet m t seat) (fresh sheet t seat * (sheet.heap.rate * (high_at sheet seat).words)) (fresh sheet t seat * owe g choice sheet attempt seat) _ own_part more one all
      where
        together : (d l e h b x y f o u : ℕ) → x ≤ y + f → f ≤ o → y + o ≤ u → u ≡ h + b → d + x ≤ d + l + e + h + b
        together d l e h b x y f o u own more one all = omega (arith, own, more, one, all)

    first_part : quiet_at g choice sheet attempt t ≡ true → m.debt + sheet.heap.rate * words ≤ brings
    first_part e =
        let q = quiet_is sheet s.checked.readable m t e in
        let none = q.nothing_owed in
        let empty = no_backlog sheet s.checked.readable m t q.no_high_waits seat high in
        let no_events = none_to_owe sheet.heap.rate (backlog sheet m t seat) (high_at sheet seat).words (course_at m seat).took empty in
        let one = term_few (λ i. fresh sheet t i * owe g choice sheet attempt i) (length sheet.high) seat high in
        let more = more_part (fresh sheet t seat) (sheet.heap.rate * (high_at sheet seat).words) attempt in
        together m.debt brings (sheet.heap.rate * words) (high_events sheet m t seat) (fresh sheet t seat * (sheet.heap.rate * (high_at sheet seat).words)) (fresh sheet t seat * owe g choice sheet attempt seat)
        own_part more one none no_events
      where
        together : (d b x y f o : ℕ) → x ≤ y + f → f ≤ o → o ≤ b → d ≡ 0 → y ≡ 0 → d + x ≤ b
        together d b x y f o own more one none no_events = omega (arith, own, more, one, none, no_events)

    soon : IsTick g choice sheet t → m.debt + sheet.heap.rate * words ≤ debt
    soon tick =
        let moment : IsMoment g choice sheet t = record { within = let w = tick.within in omega (arith, w); before_over = tick.before_over } in
        subst (λ d. m.debt + sheet.heap.rate * words ≤ d) (sym (debt_sum g choice sheet work attempt busy debt s))
        (owed_soon (length sheet.high) (most sheet) (bring g choice sheet attempt) (owe g choice sheet attempt) (base sheet) (analysis.low_events sheet) busy t
        (λ t i. ready_before (high_at sheet i) t) (news g choice sheet attempt) (quiet_at g choice sheet attempt) (left_now g choice sheet attempt) (owed_now g choice sheet attempt)
        (premises g choice sheet work attempt busy debt s falls waits t moment) t (m.debt + sheet.heap.rate * words) (omega arith) part first_part)

  pub owed_for_news : OwedForNews
  owed_for_news g choice sheet work attempt busy debt s t tick seat spent shape is_high' place new =
      let high : seat < length sheet.high = ltb-true seat (length sheet.high) is_high' in
      let m = state g choice sheet t in
      let ready = to_high choice sheet m t seat (turn choice sheet m t) (turn_is choice sheet m t s.choice_is) new.gets high in
      let jobs = jobs_kept g choice s.choice_is sheet s.checked.readable s.checked.declared s.sizes t in
      let at = new.spent_is in
      let early : (course_at m seat).spent ≤ 2 = elim place [ inl none ↦ omega (arith, at, none) | inr two ↦ omega (arith, at, two) ] in
      let words : taken_by need_words (need_at sheet m seat) ≡ size shape = ap (taken_by need_words) new.wants in
      let few = took_before sheet s.checked.readable m t seat high jobs early in
      soon g choice sheet work attempt busy debt s t seat high ready (size shape) (subst (λ w. (course_at m seat).took + w ≤ (high_at sheet seat).words) words few) tick
