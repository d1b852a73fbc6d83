-- Of two jobs inside sections, the one that went in later is of a task below the other's level.
use Rattle.std.proofs.Common.{◌≡◌, ℕ, zero, suc, ◌+◌, ◌-◌, ◌<◌, ◌≤◌, ◌⊎◌, List, Option, Some, length, sym, ◌∙◌, subst, arith, inl, inr, add-zero}
use Rattle.std.proofs.lemmas.Bool.{cases_lt, cases_eq}
use Rattle.hk_plan.specs.declared.Row.{Row}
use Rattle.hk_plan.specs.Alone.{task_of, arrival_of, ticks_of, tick_for}
use Rattle.hk_plan.proofs.Had.{tick_for_same, tick_for_other, tick_for_cases}
use Rattle.hk_ceiling.specs.declared.ceilings.TaskSection.{TaskSection}
use Rattle.hk_ceiling.specs.Ceilings.{section_at, ceiling, level, AreApart, Inside}
use Rattle.hk_ceiling.proofs.Scheduled.{IsReady, IsEarliest, ByCeilings, AreOrdered, Holds, IsExclusive}
use Rattle.hk_ceiling.proofs.Levels.{ceiling-le_task, one_section, level_inside, level_outside}

module _ (rows : List Row) (sections : List TaskSection) (stop : ℕ) (got : ℕ → Option ℕ) (had : ℕ → ℕ → ℕ)
    (run : ByCeilings rows sections stop got had) (apart : AreApart sections) (ordered : AreOrdered rows) where
  -- ---- what a row has had

  pub had_more : (t k : ℕ) → t < stop → had t k ≤ had (suc t) k
  had_more t k lt = omega (arith, run.more t k lt)

  pub had_grows : (t x k : ℕ) → t + x ≤ stop → had t k ≤ had (t + x) k
  had_grows t zero k fits = rw add-zero (omega arith)
  had_grows t (suc x) k fits =
      let e : t + suc x ≡ suc (t + x) = omega arith in
      let P : ℕ → Type 0 = λ v. had t k ≤ had v k in
      subst P (sym e) (omega (arith, had_grows t x k (omega arith), had_more (t + x) k (omega arith)))

  pub had-le-had : (t u k : ℕ) → t ≤ u → u ≤ stop → had t k ≤ had u k
  had-le-had t u k le fits =
      let e : t + (u - t) ≡ u = omega arith in
      let P : ℕ → Type 0 = λ v. had t k ≤ had v k in
      subst P e (had_grows t (u - t) k (omega (arith, le)))

  -- who has had a tick has arrived
  pub record Came (t k : ℕ) : Type 0 where
    pub within : k < length rows
    pub arrived : arrival_of rows k < t

  pub came : (t k : ℕ) → t ≤ stop → 0 < had t k → Came t k
  came zero k le some = absurd (omega (arith, run.none_first k))
  came (suc t) k le some = elim (tick_for_cases (got t) k) [
    | inl mine ↦
        let e = run.its_first t k (omega arith) mine in
        record { within = e.ready.within; arrived = omega (arith, e.ready.arrived) }
    | inr other ↦
        let c = came t k (omega arith) (omega (arith, run.more t k (omega arith), other)) in
        record { within = c.within; arrived = omega (arith, c.arrived) }
  ]

  pub had-le-ticks : (t k : ℕ) → t ≤ stop → had t k ≤ ticks_of rows k
  had-le-ticks zero k le = omega (arith, run.none_first k)
  had-le-ticks (suc t) k le = elim (tick_for_cases (got t) k) [
    | inl mine ↦ omega (arith, run.more t k (omega arith), tick_for_same (got t) k mine, (run.its_first t k (omega arith) mine).ready.unended)
    | inr other ↦ omega (arith, run.more t k (omega arith), other, had-le-ticks t k (omega arith))
  ]

  -- a row that has had a tick comes after all earlier rows of its task
  in_turn : (t j k : ℕ) → t ≤ stop → 0 < had t k → j < k → task_of rows j ≡ task_of rows k → ticks_of rows j ≤ had t j
  in_turn zero j k le some before same = absurd (omega (arith, run.none_first k))
  in_turn (suc t) j k le some before same = elim (tick_for_cases (got t) k) [
    | inl mine ↦
        let e = run.its_first t k (omega arith) mine in
        elim (cases_lt (had t j) (ticks_of rows j)) [
          | inl unended ↦
              let o = ordered.order j k before e.ready.within same in
              let ready : IsReady rows (had t) t j = record { within = omega (arith, before, e.ready.within); arrived = omega (arith, o, e.ready.arrived); unended = unended } in
              absurd (omega (arith, e.first j ready same, before))
          | inr ended ↦ omega (arith, ended, had_more t j (omega arith))
        ]
    | inr other ↦ omega (arith, had_more t j (omega arith), in_turn t j k (omega arith) (omega (arith, run.more t k (omega arith), other)) before same)
  ]

  -- so an unended row that has had a tick is the earliest of its task
  pub begun_is_earliest : (t k : ℕ) → t ≤ stop → 0 < had t k → had t k < ticks_of rows k → IsEarliest rows (had t) t k
  begun_is_earliest t k le some unended =
      let c = came t k le some in
      record {
        ready = record { within = c.within; arrived = omega (arith, c.arrived); unended = unended };
        first = λ j ready same. elim (cases_lt j k) [
          | inl before ↦ absurd (omega (arith, in_turn t j k le some before same, ready.unended))
          | inr fine ↦ fine
        ];
      }

  -- ---- one job inside

  -- a row that gets the first tick of a section is of a task below the level of each other one that is inside a section
  pub goes_in_below : (t j k p q : ℕ) → t < stop → got t ≡ Some k → q < length sections → (section_at sections q).task ≡ task_of rows k
      → (section_at sections q).start ≡ had t k → 0 < (section_at sections q).len
      → Inside sections (task_of rows j) (had t j) p → had t j < ticks_of rows j → task_of rows k < ceiling sections p
  goes_in_below t j k p q lt mine listed its at_start some i unended =
      let out : (x : ℕ) → ¬ (Inside sections (task_of rows k) (had t k) x) =
      λ x inside. (
      let same : x ≡ q = one_section sections apart (task_of rows k) (had t k) x q inside.listed listed inside.its its (omega (arith, inside.begun)) inside.more (omega (arith, at_start)) (omega (arith, at_start, some)) in
      let P : ℕ → Type 0 = λ y. (section_at sections y).start < had t k in
      omega (arith, subst P same inside.begun, at_start)) in
      let own : level sections (task_of rows k) (had t k) ≡ task_of rows k = level_outside sections (task_of rows k) (had t k) out in
      let its_level : level sections (task_of rows j) (had t j) ≡ ceiling sections p = level_inside sections apart (task_of rows j) (had t j) p i in
      let y = run.yields t k j lt mine (begun_is_earliest t j (omega (arith, lt)) (omega (arith, i.begun)) unended) in
      elim (cases_lt (task_of rows k) (ceiling sections p)) [
        | inl less ↦ less
        | inr above ↦
            let tie = y.tie (omega (arith, y.level, own, its_level, above)) p i in
            absurd (out tie.0 tie.1)
      ]

  -- ---- the jobs that are inside

  -- of two rows inside sections one is of a task below the other's level
  abbrev pub OneBelow : ℕ → ℕ → ℕ → ℕ → Type 0
  OneBelow j k p q = (task_of rows j < ceiling sections q) ⊎ (task_of rows k < ceiling sections p)

  swapped : (j k p q : ℕ) → OneBelow j k p q → OneBelow k j q p
  swapped j k p q (inl a) = inr a
  swapped j k p q (inr a) = inl a

  abbrev pub Nested : ℕ → Type 0
  Nested t = (j k p q : ℕ) → (j ≡ k → ⊥) → Inside sections (task_of rows j) (had t j) p → had t j < ticks_of rows j
      → Inside sections (task_of rows k) (had t k) q → had t k < ticks_of rows k → OneBelow j k p q

  -- what was inside before a tick that another row got
  kept : (t j p : ℕ) → t < stop → tick_for (got t) j ≡ 0 → Inside sections (task_of rows j) (had (suc t) j) p → Inside sections (task_of rows j) (had t j) p
  kept t j p lt other i = record {
    listed = i.listed;
    its = i.its;
    begun = omega (arith, run.more t j lt, other, i.begun);
    more = omega (arith, run.more t j lt, other, i.more);
  }

  -- a tick that goes to k, where j is another
  one_goes : (t : ℕ) → t < stop → Nested t → (j k p q : ℕ) → (j ≡ k → ⊥) → got t ≡ Some k
      → Inside sections (task_of rows j) (had (suc t) j) p → had (suc t) j < ticks_of rows j
      → Inside sections (task_of rows k) (had (suc t) k) q → OneBelow j k p q
  one_goes t lt nested j k p q ne mine ij uj ik =
      let none : tick_for (got t) j ≡ 0 = tick_for_other (got t) k j mine (λ e. ne (sym e)) in
      let ij_before = kept t j p lt none ij in
      let uj_before : had t j < ticks_of rows j = omega (arith, run.more t j lt, none, uj) in
      let grown : had (suc t) k ≡ had t k + 1 = omega (arith, run.more t k lt, tick_for_same (got t) k mine) in
      elim (cases_eq (section_at sections q).start (had t k)) [
        | inl at_start ↦ inr (goes_in_below t j k p q lt mine ik.listed ik.its at_start (omega (arith, at_start, grown, ik.more)) ij_before uj_before)
        | inr further ↦
            let ik_before : Inside sections (task_of rows k) (had t k) q = record {
              listed = ik.listed;
              its = ik.its;
              begun = omega (arith, grown, ik.begun, further);
              more = omega (arith, grown, ik.more);
            } in
            nested j k p q ne ij_before uj_before ik_before (run.its_first t k lt mine).ready.unended
      ]

  pub nested : (t : ℕ) → t ≤ stop → Nested t
  nested zero le = λ j k p q ne ij uj ik uk. absurd (omega (arith, run.none_first j, ij.begun))
  nested (suc t) le = λ j k p q ne ij uj ik uk.
      elim (tick_for_cases (got t) k) [
        | inl mine ↦ one_goes t (omega arith) (nested t (omega arith)) j k p q ne mine ij uj ik
        | inr other_k ↦ elim (tick_for_cases (got t) j) [
          | inl mine ↦ swapped k j q p (one_goes t (omega arith) (nested t (omega arith)) k j q p (λ e. ne (sym e)) mine ik uk ij)
          | inr other_j ↦
              nested t (omega arith) j k p q ne
              (kept t j p (omega arith) other_j ij) (omega (arith, run.more t j (omega arith), other_j, uj))
              (kept t k q (omega arith) other_k ik) (omega (arith, run.more t k (omega arith), other_k, uk))
        ]
      ]

  -- ---- no resource has two holders

  inside_of : (t k q : ℕ) → (h : Holds rows sections got had t k q) → (section_at sections q).start < had t k → Inside sections (task_of rows k) (had t k) q
  inside_of t k q h begun = record { listed = h.listed; its = h.its; begun = begun; more = h.more }

  -- one is inside a section of the resource, and another gets the first tick of one
  not_both : (t j k p q : ℕ) → t < stop → (section_at sections p).res ≡ (section_at sections q).res → Holds rows sections got had t j p → Holds rows sections got had t k q
      → (section_at sections p).start < had t j → (section_at sections q).start ≡ had t k → got t ≡ Some k → ⊥
  not_both t j k p q lt same hj hk begun at_start mine =
      let below = goes_in_below t j k p q lt mine hk.listed hk.its at_start (omega (arith, at_start, hk.more)) (inside_of t j p hj begun) hj.ready.unended in
      omega (arith, below, ceiling-le_task sections q p hk.listed (sym same), hk.its)

  pub is_exclusive : IsExclusive rows sections stop got had
  is_exclusive t j k p q lt hj hk same = elim (cases_eq j k) [
    | inl one ↦ one
    | inr ne ↦ elim (hj.held) [
      | inl begun_j ↦ elim (hk.held) [
        | inl begun_k ↦ elim (nested t (omega (arith, lt)) j k p q ne (inside_of t j p hj begun_j) hj.ready.unended (inside_of t k q hk begun_k) hk.ready.unended) [
          | inl a ↦ absurd (omega (arith, a, ceiling-le_task sections p q hj.listed same, hj.its))
          | inr b ↦ absurd (omega (arith, b, ceiling-le_task sections q p hk.listed (sym same), hk.its))
        ]
        | inr goes_k ↦ absurd (not_both t j k p q lt same hj hk begun_j goes_k.0 goes_k.1)
      ]
      | inr goes_j ↦ elim (hk.held) [
        | inl begun_k ↦ absurd (not_both t k j q p lt (sym same) hk hj begun_k goes_j.0 goes_j.1)
        | inr goes_k ↦ let e : Some j ≡ Some k = sym goes_j.1 ∙ goes_k.1 in cc
      ]
    ]
  ]
