-- A job is held up by at most one section of one later task.
use Rattle.std.proofs.Common.{◌≡◌, ℕ, zero, suc, ◌+◌, ◌-◌, ◌<◌, ◌≤◌, ◌⊎◌, List, Option, Some, length, refl, sym, ◌∙◌, subst, arith, inl, inr}
use Rattle.std.proofs.lemmas.Bool.{cases_lt, cases_eq}
use Rattle.hk_plan.specs.declared.Row.{Row}
use Rattle.hk_plan.specs.Alone.{task_of, arrival_of, ticks_of}
use Rattle.hk_plan.proofs.Had.{tick_for_same, tick_for_cases}
use Rattle.hk_ceiling.specs.declared.ceilings.TaskSection.{TaskSection}
use Rattle.hk_ceiling.specs.Ceilings.{section_at, AreApart, Inside}
use Rattle.hk_ceiling.proofs.Scheduled.{IsReady, IsEarliest, ByCeilings, AreOrdered, HoldsUp, Blocks, IsHeldByOne}
use Rattle.hk_ceiling.proofs.Levels.{one_section, one_inside, at_or_out, level-le}
use Rattle.hk_ceiling.proofs.Nested.{had-le-had, nested}

module _ (rows : List Row) (sections : List TaskSection) (stop : ℕ) (got : ℕ → Option ℕ) (had : ℕ → ℕ → ℕ)
    (run : ByCeilings rows sections stop got had) (apart : AreApart sections) (ordered : AreOrdered rows) where
  -- had-le-had with the run
  grows : (t u k : ℕ) → t ≤ u → u ≤ stop → had t k ≤ had u k
  grows t u k le fits = had-le-had rows sections stop got had run apart ordered t u k le fits

  -- the earliest ready row of a task
  pub record FirstOf (t i : ℕ) : Type 0 where
    pub place : ℕ
    pub earliest : IsEarliest rows (had t) t place
    pub its : task_of rows place ≡ i

  abbrev pub NoneBelow : ℕ → ℕ → ℕ → Type 0
  NoneBelow t i n = (j : ℕ) → j < n → IsReady rows (had t) t j → task_of rows j ≡ i → ⊥

  first_below : (t i n : ℕ) → n ≤ length rows → FirstOf t i ⊎ NoneBelow t i n
  first_below t i zero fits = inr (λ j lt r same. omega arith)
  first_below t i (suc n) fits = elim (first_below t i n (omega arith)) [
    | inl f ↦ inl f
    | inr none ↦
        let keep : (IsReady rows (had t) t n → task_of rows n ≡ i → ⊥) → NoneBelow t i (suc n) =
        λ here j lt r same. elim (cases_eq n j) [
          | inl e ↦
              let P : ℕ → Type 0 = λ x. IsReady rows (had t) t x → task_of rows x ≡ i → ⊥ in
              let there : P j = subst P e here in
              there r same
          | inr other ↦ none j (omega (arith, lt, other)) r same
        ] in
        elim (cases_eq (task_of rows n) i) [
          | inr other ↦ inr (keep (λ r same. other same))
          | inl same ↦ elim (cases_lt t (arrival_of rows n)) [
            | inl later ↦ inr (keep (λ r e. omega (arith, r.arrived, later)))
            | inr arrived ↦ elim (cases_lt (had t n) (ticks_of rows n)) [
              | inr ended ↦ inr (keep (λ r e. omega (arith, r.unended, ended)))
              | inl unended ↦ inl (record {
                place = n;
                earliest = record {
                  ready = record { within = omega arith; arrived = arrived; unended = unended };
                  first = λ j r e. elim (cases_lt j n) [
                    | inl less ↦ absurd (none j less r (e ∙ same))
                    | inr fine ↦ fine
                  ];
                };
                its = same;
              })
            ]
          ]
        ]
  ]

  pub first_of_task : (t k : ℕ) → IsReady rows (had t) t k → FirstOf t (task_of rows k)
  first_of_task t k ready = elim (first_below t (task_of rows k) (length rows) (omega arith)) [
    | inl f ↦ f
    | inr none ↦ absurd (none k ready.within ready refl)
  ]

  -- a row of a task up to i is ready
  pub record SomeWaits (i t : ℕ) : Type 0 where
    pub place : ℕ
    pub its : task_of rows place ≤ i
    pub ready : IsReady rows (had t) t place

  -- and so at each of w moments from s
  abbrev pub Waits : ℕ → ℕ → ℕ → Type 0
  Waits i s w = (v : ℕ) → s ≤ v → v < s + w → SomeWaits i v

  -- then a later row that gets the tick is inside a section of a resource whose ceiling is at most i
  pub record Blocker (i t b : ℕ) : Type 0 where
    pub place : ℕ
    pub blocks : Blocks rows sections had i t b place

  pub later_inside : (i t b : ℕ) → t < stop → SomeWaits i t → got t ≡ Some b → i < task_of rows b → Blocker i t b
  later_inside i t b lt waits gets later =
      let f = first_of_task t waits.place waits.ready in
      let y = run.yields t b f.place lt gets f.earliest in
      let low = level-le sections apart (task_of rows f.place) (had t f.place) in
      elim (at_or_out sections apart (task_of rows b) (had t b)) [
        | inr out ↦ absurd (omega (arith, y.level, out.level_is, low, f.its, waits.its, later))
        | inl at ↦ record {
          place = at.place;
          blocks = record { inside = at.inside; later = later; high = omega (arith, y.level, at.level_is, low, f.its, waits.its) };
        }
      ]

  -- it went in before the first of these moments
  begun_before : (i s b q x : ℕ) → s + x ≤ stop → Waits i s x → i < task_of rows b → q < length sections → (section_at sections q).task ≡ task_of rows b → 0 < (section_at sections q).len
      → (section_at sections q).start < had (s + x) b → (section_at sections q).start < had s b
  begun_before i s b q zero fits waits later listed its some begun =
      let P : ℕ → Type 0 = λ v. (section_at sections q).start < had v b in
      let e : s + 0 ≡ s = omega arith in
      subst P e begun
  begun_before i s b q (suc x) fits waits later listed its some begun =
      let e : s + suc x ≡ suc (s + x) = omega arith in
      let P : ℕ → Type 0 = λ v. (section_at sections q).start < had v b in
      let begun_next : (section_at sections q).start < had (suc (s + x)) b = subst P e begun in
      let more = run.more (s + x) b (omega arith) in
      let before = begun_before i s b q x (omega arith) (λ v from below. waits v from (omega arith)) later listed its some in
      elim (tick_for_cases (got (s + x)) b) [
        | inr other ↦ before (omega (arith, more, other, begun_next))
        | inl mine ↦ elim (cases_lt (section_at sections q).start (had (s + x) b)) [
          | inl further ↦ before further
          | inr above ↦
              let at_start : (section_at sections q).start ≡ had (s + x) b = omega (arith, more, tick_for_same (got (s + x)) b mine, begun_next, above) in
              let bl = later_inside i (s + x) b (omega arith) (waits (s + x) (omega arith) (omega arith)) mine later in
              let same : bl.place ≡ q = one_section sections apart (task_of rows b) (had (s + x) b) bl.place q bl.blocks.inside.listed listed bl.blocks.inside.its its
              (omega (arith, bl.blocks.inside.begun)) bl.blocks.inside.more (omega (arith, at_start)) (omega (arith, at_start, some)) in
              let Q : ℕ → Type 0 = λ y. (section_at sections y).start < had (s + x) b in
              absurd (omega (arith, subst Q same bl.blocks.inside.begun, at_start))
        ]
      ]

  -- a later row that gets one of these ticks
  pub record InWindow (i s u b : ℕ) : Type 0 where
    pub place : ℕ
    pub blocks : Blocks rows sections had i u b place
    pub inside : Inside sections (task_of rows b) (had s b) place
    pub unended : had s b < ticks_of rows b

  pub in_window : (i s w u b : ℕ) → s + w ≤ stop → Waits i s w → s ≤ u → u < s + w → got u ≡ Some b → i < task_of rows b → InWindow i s u b
  in_window i s w u b fits waits from below gets later =
      let bl = later_inside i u b (omega arith) (waits u from below) gets later in
      let q : ℕ = bl.place in
      let e : s + (u - s) ≡ u = omega arith in
      let P : ℕ → Type 0 = λ v. (section_at sections q).start < had v b in
      let begun : (section_at sections q).start < had s b = begun_before i s b q (u - s) (omega arith) (λ v at_least under. waits v at_least (omega arith)) later bl.blocks.inside.listed bl.blocks.inside.its
      (omega (arith, bl.blocks.inside.begun, bl.blocks.inside.more)) (subst P (sym e) bl.blocks.inside.begun) in
      let grown = grows s u b from (omega arith) in
      record {
        place = q;
        blocks = bl.blocks;
        inside = record { listed = bl.blocks.inside.listed; its = bl.blocks.inside.its; begun = begun; more = omega (arith, grown, bl.blocks.inside.more) };
        unended = omega (arith, grown, (run.its_first u b (omega arith) gets).ready.unended);
      }

  -- there is one such row
  pub one_blocker : (i s u v b c : ℕ) → s ≤ stop → InWindow i s u b → InWindow i s v c → b ≡ c
  one_blocker i s u v b c fits x y = elim (cases_eq b c) [
    | inl same ↦ same
    | inr ne ↦ elim (nested rows sections stop got had run apart ordered s fits b c x.place y.place ne x.inside x.unended y.inside y.unended) [
      | inl a ↦ absurd (omega (arith, a, y.blocks.high, x.blocks.later))
      | inr a ↦ absurd (omega (arith, a, x.blocks.high, y.blocks.later))
    ]
  ]

  -- and one section
  pub one_place : (i s u v b : ℕ) → (x : InWindow i s u b) → (y : InWindow i s v b) → x.place ≡ y.place
  one_place i s u v b x y = one_inside sections apart (task_of rows b) (had s b) x.place y.place x.inside y.inside

  -- a ready row waits from its arrival on
  waits_from : (k u : ℕ) → u < stop → IsReady rows (had u) u k → Waits (task_of rows k) (arrival_of rows k) (suc u - arrival_of rows k)
  waits_from k u lt ready v from below = record {
    place = k;
    its = omega arith;
    ready = record { within = ready.within; arrived = from; unended = omega (arith, ready.unended, grows v u k (omega (arith, below, ready.arrived)) (omega (arith, lt))) };
  }

  abbrev pub HeldByOne : (k t u b c : ℕ) → Type 0
  HeldByOne k t u b c = (b ≡ c) × ((q : ℕ) × ((Blocks rows sections had (task_of rows k) t b q) × (Blocks rows sections had (task_of rows k) u c q)))

  in_order : (k t u b c : ℕ) → t ≤ u → u < stop → HoldsUp rows got had k t b → HoldsUp rows got had k u c → HeldByOne k t u b c
  in_order k t u b c le lt x y =
      let i : ℕ = task_of rows k in
      let s : ℕ = arrival_of rows k in
      let waits = waits_from k u lt y.ready in
      let xw : InWindow i s t b = in_window i s (suc u - s) t b (omega (arith, y.ready.arrived, lt)) waits x.ready.arrived (omega (arith, le, y.ready.arrived)) x.gets x.later in
      let yw : InWindow i s u c = in_window i s (suc u - s) u c (omega (arith, y.ready.arrived, lt)) waits y.ready.arrived (omega (arith, y.ready.arrived)) y.gets y.later in
      let same : b ≡ c = one_blocker i s t u b c (omega (arith, y.ready.arrived, lt)) xw yw in
      let P : ℕ → Type 0 = λ x'. (z : InWindow i s t x') → HeldByOne k t u x' c in
      let here : P c = λ z. (
        refl,
        (
          z.place,
          (
            z.blocks,
            (
                let Q : ℕ → Type 0 = λ q. Blocks rows sections had i u c q in
                subst Q (sym (one_place i s t u c z yw)) yw.blocks),
          ),
        ),
      ) in
      (subst P (sym same) here) xw

  pub is_held_by_one : IsHeldByOne rows sections stop got had
  is_held_by_one k t u b c lt ltu x y = elim (cases_lt u t) [
    | inr le ↦ in_order k t u b c le ltu x y
    | inl less ↦
        let turned : HeldByOne k u t c b = in_order k u t c b (omega arith) lt y x in
        (sym turned.0, (turned.1.0, (turned.1.1.1, turned.1.1.0)))
  ]
