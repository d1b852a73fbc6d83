-- That a schedule by earliest deadlines meets each of them.
use Rattle.std.proofs.Common.{◌≡◌, ℕ, zero, suc, ◌+◌, ◌-◌, ◌<◌, ◌≤◌, Bool, true, false, ◌&&◌, Option, Some, None, arith, inl, inr, refl, sym, ◌∙◌, ap, subst}
use Rattle.std.specs.Prelude.{if◌then◌else◌}
use Rattle.std.proofs.lemmas.Bool.{cases_lt, cases_eq, and_parts, eq-eqb, ne_eqb}
use Rattle.hk_plan.specs.AloneBy.{Jobs, earliest, alone_turn, is_some_at, alone_had, AloneGives, AloneEnds}
use Rattle.hk_edf.specs.Earliest.{earliest_row}
use Rattle.hk_edf.specs.Due.{due}
use Rattle.hk_edf.specs.ByDeadlines.{due_at, ByDeadlines}
use Rattle.hk_edf.specs.InTime.{WholeWhenDue, DeadlinesAreMet}
use Rattle.hk_edf.proofs.Busy.{counts, work_of, had-le-had, had-le-ticks, Since, last_quiet, too_few}
use Rattle.hk_edf.proofs.Work.{ready_is, all_come-le, all_due-le}
use Rattle.hk_edf.proofs.Chosen.{had_more, goes_by_deadlines}

-- a job has had all its ticks at its deadline
pub whole_when_due : WholeWhenDue
whole_when_due jobs timings x had keep length by i j is =
    let d : ℕ = due_at jobs i j in
    elim (cases_lt (had d i j) (jobs.ticks i j)) [
      | inr full ↦ omega (arith, full, had-le-ticks jobs had by d i j)
      | inl unended ↦
          let since : Since jobs had by d d = last_quiet jobs had by d d in
          let s : ℕ = since.start in
          let positive : 0 < jobs.deadline i = omega (arith, keep.deadline_some i is.known, keep.deadline_is i is.known) in
          let at_once = ready_is jobs timings keep i j is.known is.listed in
          elim (cases_lt s d) [
            | inr none ↦
                let same : s ≡ d = omega (arith, none, since.before) in
                let by_then : jobs.ready i j < s = omega (arith, same, positive, at_once) in
                absurd (omega (arith, unended, subst (λ u. jobs.ticks i j ≤ had u i j) same (since.quiet i is.known j is.listed (omega arith) by_then)))
            | inl before ↦ elim (cases_lt x (d - s)) [
              | inl long ↦
                  let more = too_few jobs had by d d x since length.some (omega (arith, long)) in
                  let covers = length.covers in
                  absurd (omega (arith, more, all_come-le jobs timings keep d s x, covers))
              | inr short ↦
                  let w : ℕ = d - s in
                  let all : s + w ≡ d = omega (arith, before) in
                  let more = too_few jobs had by d d w since (omega (arith, before)) (omega (arith, all)) in
                  let few = subst (λ e. work_of jobs (counts jobs e s w) ≤ due timings w) all (all_due-le jobs timings keep s w) in
                  absurd (omega (arith, more, few, length.fits w (omega (arith, before)) (omega (arith, short))))
            ]
          ]
    ]

-- ---- ends

at_some : (o : Option ℕ) (k : ℕ) → is_some_at o k ≡ true → o ≡ Some k
at_some None k e = absurd (cc)
at_some (Some m) k e = elim (cases_eq m k) [ inl same ↦ ap (λ x. Some x) same | inr other ↦ absurd (let x : true ≡ false = sym e ∙ ne_eqb m k other in cc) ]

one_if : (b : Bool) (x y : ℕ) → y ≡ x + (if b then 1 else 0) → x < y → b ≡ true
one_if true x y e more = refl
one_if false x y e more = absurd (omega (arith, e, more))

module _ (jobs : Jobs) where
  abbrev had : ℕ → ℕ → ℕ → ℕ
  had = alone_had earliest_row jobs

  -- the job that has had a tick more was given it
  gives : (t i j : ℕ) → had t i j < had (suc t) i j → AloneGives earliest_row jobs t i j
  gives t i j more =
      let turn : Option ℕ = alone_turn earliest_row jobs (had t) t in
      let first : Option ℕ = earliest jobs (had t) t i in
      let both = and_parts (is_some_at turn i) (is_some_at first j) (one_if (is_some_at turn i && is_some_at first j) (had t i j) (had (suc t) i j) (had_more earliest_row jobs t i j) more) in
      record { task = at_some turn i both.0; job = at_some first j both.1 }

  -- and the job that was given a tick has had one more
  given_more : (t i j : ℕ) → AloneGives earliest_row jobs t i j → had (suc t) i j ≡ had t i j + 1
  given_more t i j g = had_more earliest_row jobs t i j ∙ rw (g.task, g.job, eq-eqb i i refl, eq-eqb j j refl) refl

  module _ (by : ByDeadlines jobs had) (i j : ℕ) where
    -- a job that has had all its ticks has an end
    has_end : (t : ℕ) → 1 ≤ jobs.ticks i j → had t i j ≡ jobs.ticks i j → (e : ℕ) × AloneEnds earliest_row jobs i j e
    has_end zero some whole = absurd (omega (arith, some, whole, by.at_start i j))
    has_end (suc t) some whole = elim (cases_lt (had t i j) (jobs.ticks i j)) [
      | inl before ↦
          let back : t ≡ suc t - 1 = omega arith in (
            suc t,
            record {
              later = omega arith;
              last = subst (λ u. AloneGives earliest_row jobs u i j) back (gives t i j (omega (arith, before, whole)));
              whole = whole;
            },
          )
      | inr full ↦ has_end t some (omega (arith, full, had-le-ticks jobs had by t i j))
    ]

    end-le : (t e : ℕ) → had t i j ≡ jobs.ticks i j → AloneEnds earliest_row jobs i j e → e ≤ t
    end-le t zero whole ends = omega arith
    end-le t (suc e) whole ends = elim (cases_lt t (suc e)) [
      | inr fine ↦ fine
      | inl later ↦
          let back : suc e - 1 ≡ e = omega arith in
          let one = given_more e i j (subst (λ u. AloneGives earliest_row jobs u i j) back ends.last) in
          let all = ends.whole in
          absurd (omega (arith, whole, one, all, had-le-had jobs had by t e i j (omega (arith, later))))
    ]

    stays_whole : (t u : ℕ) → had t i j ≡ jobs.ticks i j → t ≤ u → had u i j ≡ jobs.ticks i j
    stays_whole t u whole le = omega (arith, whole, had-le-had jobs had by t u i j le, had-le-ticks jobs had by u i j)

pub deadlines_are_met : DeadlinesAreMet
deadlines_are_met jobs timings x keep length i j is =
    let by : ByDeadlines jobs (alone_had earliest_row jobs) = goes_by_deadlines jobs timings keep in
    let d : ℕ = due_at jobs i j in
    let whole : alone_had earliest_row jobs d i j ≡ jobs.ticks i j = whole_when_due jobs timings x (alone_had earliest_row jobs) keep length by i j is in
    record {
      whole = λ t le. stays_whole jobs by i j d t whole le;
      ends = has_end jobs by i j d ((keep.each i is.known).ticks_some j is.listed) whole;
      in_time = λ e ends. end-le jobs by i j d e whole ends;
    }
