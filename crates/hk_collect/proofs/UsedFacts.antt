-- The facts of a traced run after each kind of change of the columns.
use Rattle.std.proofs.Common.{◌≡◌, ◌≢◌, ℕ, ◌+◌, ◌<◌, ◌≤◌, Bool, true, false, inl, inr, sym, ◌∙◌, ap, arith, List, [], ◌∷◌, ◌++◌, Option, Some}
use Rattle.std.proofs.lemmas.Bool.{cases_eq, and_parts, and_from, or_left, eq-eqb}
use Rattle.std.proofs.lemmas.List.Elements.{Contains-push_cases}
use Rattle.std.specs.Prelude.{nat_eq, nat_le, nat_lt, ◌&&◌, max, Contains}
use Rattle.hk_words.specs.declared.geometry.Geometry.{Geometry}
use Rattle.hk_words.specs.Geometry.{tasks, numbers}
use Rattle.hk_words.specs.Layout as layout
use Rattle.hk_model.specs.View.{upd, upd2}
use Rattle.hk_model.proofs.Updates.{upd_same, upd_other}
use Rattle.hk_core.specs.declared.spot.Line.{Line}
use Rattle.hk_core.specs.View.{Words}
use Rattle.hk_core.specs.Lines as l
use Rattle.hk_core.specs.Colours.{Spaces, spaces_of, is_within}
use Rattle.hk_core.proofs.Update.{upd_cases, upd2_cases}
use Rattle.hk_collect.specs.Used.{IsUsedWord, AttemptUsed, CellUsed, GreyUsed, YoungMarked, stands_claimed, claimed_by}
use Rattle.hk_collect.specs.Runs.{is_grey_by}
use Rattle.hk_collect.proofs.UsedRows.{Agrees}

-- and what was claimed
abbrev pub claimed_of : Geometry → Words → ℕ → Bool
claimed_of g w = claimed_by (spaces_of g w.cycle) w.cycle w.place w.mark

-- what is grey was claimed
pub grey_claimed : (g : Geometry) (w : Words) (n : ℕ) → is_grey_by g w n ≡ true → claimed_of g w n ≡ true
grey_claimed g w n grey =
    let z = spaces_of g w.cycle in
    let p = and_parts (nat_eq (w.mark n) w.cycle) (is_within z z.old (w.place n)) grey in
    and_from (nat_eq (w.mark n) w.cycle) (stands_claimed z (w.place n)) p.0
    (or_left (is_within z z.old (w.place n)) (nat_le z.current (w.place n) && nat_lt (w.place n) (z.current + z.live)) p.1)

-- the facts that read marks and places, and those that read the spot
pub record MarksUsed (g : Geometry) (w : Words) (bearer : ℕ → Option ℕ) (used : ℕ → Type 0) (young : List ℕ) : Type 0 where
  pub grey : GreyUsed g bearer used young (claimed_of g w)
  pub young_marked : YoungMarked bearer young w.cycle w.mark

pub record SpotUsed (g : Geometry) (w : Words) (line : Line) (cell : ℕ) (bearer : ℕ → Option ℕ) (used : ℕ → Type 0) : Type 0 where
  pub attempt : AttemptUsed g bearer used w.register line
  pub in_work : CellUsed bearer used line cell

module _ (g : Geometry) (w v : Words) (bearer : ℕ → Option ℕ) (used : ℕ → Type 0) (young : List ℕ) where
  -- NO CHANGE

  pub marks_same : v.mark ≡ w.mark → v.place ≡ w.place → v.cycle ≡ w.cycle → MarksUsed g w bearer used young → MarksUsed g v bearer used young
  marks_same marks places cycle h = record { grey = rw (cycle, places, marks) h.grey; young_marked = rw (cycle, marks) h.young_marked }

  pub marks_agree : Agrees w v → v.cycle ≡ w.cycle → MarksUsed g w bearer used young → MarksUsed g v bearer used young
  marks_agree a cycle h = marks_same a.mark a.place cycle h

  pub spot_same : (ln : Line) (cell : ℕ) → v.register ≡ w.register → SpotUsed g w ln cell bearer used → SpotUsed g v ln cell bearer used
  spot_same ln cell same h = record { attempt = rw same h.attempt; in_work = h.in_work }

  pub spot_agree : (ln : Line) (cell : ℕ) → Agrees w v → SpotUsed g w ln cell bearer used → SpotUsed g v ln cell bearer used
  spot_agree ln cell a h = spot_same ln cell a.register h

  -- FEWER GREY NUMBERS

  pub marks_fewer : v.cycle ≡ w.cycle → ((n : ℕ) → n < numbers g → claimed_of g v n ≡ true → claimed_of g w n ≡ true) → ((n : ℕ) → w.mark n ≡ w.cycle → v.mark n ≡ v.cycle)
      → MarksUsed g w bearer used young → MarksUsed g v bearer used young
  marks_fewer cycle fewer still h = record {
    grey = λ n within e. h.grey n within (fewer n within e);
    young_marked = λ n b bears young'. still n (h.young_marked n b bears young');
  }

  -- A CLAIM

  -- a number that a birth in use bears is claimed for no later cycle
  pub marks_claim : (n k b : ℕ) → v.cycle ≡ w.cycle → v.place ≡ w.place → v.mark ≡ upd w.mark n (max (w.mark n) k) → k ≤ w.cycle → bearer n ≡ Some b → used b
      → MarksUsed g w bearer used young → MarksUsed g v bearer used young
  marks_claim n k b cycle places marks few bears is h = rw (cycle, places, marks) (record {
    grey = λ m within grey. elim (cases_eq m n) [
      | inr d ↦ h.grey m within (ap (λ j. nat_eq j w.cycle && stands_claimed z (w.place m)) (sym (upd_other w.mark n _ m d)) ∙ grey)
      | inl e ↦ elim (cases_eq (w.mark n) w.cycle) [
        | inl was ↦
            let p = and_parts _ _ grey in
            let was' : w.mark m ≡ w.cycle = ap w.mark e ∙ was in
            h.grey m within (and_from _ _ (eq-eqb (w.mark m) w.cycle was') p.1)
        | inr new ↦ (b, ap bearer e ∙ bears, is, λ young'. new (h.young_marked n b bears young'))
      ]
    ];
    young_marked = λ m c bears' young'. let was = h.young_marked m c bears' young' in elim (upd_cases w.mark n (max (w.mark n) k) m) [
      | inr (d, q) ↦ q ∙ was
      | inl (e, q) ↦ let was' : w.mark n ≡ w.cycle = ap w.mark (sym e) ∙ was in let top : max (w.mark n) k ≡ w.cycle = grind arith in q ∙ top
    ];
  })
    where
      z : Spaces
      z = spaces_of g w.cycle

  -- A PLACE

  -- a number gets another place, where it isn't grey
  pub marks_place : (n p : ℕ) → v.cycle ≡ w.cycle → v.mark ≡ w.mark → v.place ≡ upd w.place n p → (n < numbers g → claimed_of g v n ≡ true → claimed_of g w n ≡ true)
      → MarksUsed g w bearer used young → MarksUsed g v bearer used young
  marks_place n p cycle marks places before h =
      marks_fewer cycle
      (λ m within grey. elim (cases_eq m n) [
        | inl e ↦ ap (claimed_of g w) e ∙ before (rw (← e) within) (ap (claimed_of g v) (sym e) ∙ grey)
        | inr d ↦
            let same : v.place m ≡ w.place m = ap (λ f. f m) places ∙ upd_other w.place n p m d in
            rw (cycle, marks, same) at grey
      ])
      (λ m e. ap (λ f. f m) marks ∙ e ∙ sym cycle) h

  -- A REGISTER

  pub spot_register : (ln : Line) (cell s r word : ℕ) → v.register ≡ upd2 w.register s r word → IsUsedWord bearer used word
      → SpotUsed g w ln cell bearer used → SpotUsed g v ln cell bearer used
  spot_register ln cell s r word registers is h = rw registers (record {
    attempt = λ u passed k at seat reg. elim (upd2_cases w.register s r word u k) [ inl (i, j, q) ↦ rw q is | inr (d, q) ↦ rw q (h.attempt u passed k at seat reg) ];
    in_work = h.in_work;
  })

-- A BIRTH

module _ (g : Geometry) (bearer : ℕ → Option ℕ) (used : ℕ → Type 0) (n b : ℕ) where
  -- a word that doesn't name the number of the new birth
  pub word_born : (word : ℕ) → (word ≢ 0 → layout.reference_number word ≢ n) → IsUsedWord bearer used word → IsUsedWord (upd bearer n (Some b)) used word
  word_born word other (inl null) = inl null
  word_born word other (inr (c, bears, is)) = elim (cases_eq word 0) [
    | inl null ↦ inl null
    | inr some ↦ inr (c, upd_other bearer n (Some b) (layout.reference_number word) (other some) ∙ bears, is)
  ]

  -- and one that does
  pub word_new : (word : ℕ) → layout.reference_number word ≡ n → used b → IsUsedWord (upd bearer n (Some b)) used word
  word_new word e is = inr (b, ap (upd bearer n (Some b)) e ∙ upd_same bearer n (Some b), is)

  pub spot_born : (w : Words) (ln : Line) (cell : ℕ) → ((s r : ℕ) → s < tasks g → r < g.registers → w.register s r ≢ 0 → layout.reference_number (w.register s r) ≢ n)
      → (l.has_reference ln ≡ true → cell ≢ 0 → layout.reference_number cell ≢ n) → SpotUsed g w ln cell bearer used → SpotUsed g w ln cell (upd bearer n (Some b)) used
  spot_born w ln cell registers other h = record {
    attempt = λ s passed r at seat reg. word_born (w.register s r) (registers s r seat reg) (h.attempt s passed r at seat reg);
    in_work = λ deals. word_born cell (other deals) (h.in_work deals);
  }

  -- a number that isn't grey gets a new birth: one that isn't young, and one that is
  pub marks_born : (w : Words) (young : List ℕ) → claimed_of g w n ≡ false → ((m : ℕ) → bearer m ≢ Some b) → ¬ Contains young b
      → MarksUsed g w bearer used young → MarksUsed g w (upd bearer n (Some b)) used young
  marks_born w young dark unborn old h = record {
    grey = λ m within grey. let found = h.grey m within grey in elim (cases_eq m n) [
      | inl e ↦ never (sym dark ∙ ap (claimed_of g w) (sym e) ∙ grey)
      | inr d ↦ (found.0, upd_other bearer n (Some b) m d ∙ found.1, found.2, found.3)
    ];
    young_marked = λ m c bears young'. elim (upd_cases bearer n (Some b) m) [
      | inl (e, q) ↦ let same : Some b ≡ Some c = sym q ∙ bears in let is : b ≡ c = cc in absurd (old (rw is young'))
      | inr (d, q) ↦ h.young_marked m c (sym q ∙ bears) young'
    ];
  }
    where
      never : {A : Type 0} → false ≡ true → A
      never e = absurd (cc)

  pub marks_born_young : (w : Words) (young : List ℕ) → claimed_of g w n ≡ false → ((m : ℕ) → bearer m ≢ Some b) → w.mark n ≡ w.cycle
      → MarksUsed g w bearer used young → MarksUsed g w (upd bearer n (Some b)) used (young ++ b ∷ [])
  marks_born_young w young dark unborn marked h = record {
    grey = λ m within grey. let found = h.grey m within grey in elim (cases_eq m n) [
      | inl e ↦ never (sym dark ∙ ap (claimed_of g w) (sym e) ∙ grey)
      | inr d ↦ (
        found.0,
        upd_other bearer n (Some b) m d ∙ found.1,
        found.2,
        λ here. elim (Contains-push_cases young b found.0 here) [
          | inl there ↦ found.3 there
          | inr same ↦ unborn m (found.1 ∙ ap (λ k. Some k) (sym same))
        ],
      )
    ];
    young_marked = λ m c bears here. elim (upd_cases bearer n (Some b) m) [
      | inl (e, q) ↦ ap w.mark e ∙ marked
      | inr (d, q) ↦ elim (Contains-push_cases young b c here) [
        | inl there ↦ h.young_marked m c (sym q ∙ bears) there
        | inr same ↦ absurd (unborn m (sym q ∙ bears ∙ ap (λ k. Some k) (sym same)))
      ]
    ];
  }
    where
      never : {A : Type 0} → false ≡ true → A
      never e = absurd (cc)
