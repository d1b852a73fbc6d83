-- What the answer of a turn tells of its events.
use Rattle.std.proofs.Common.{◌≡◌, ◌≢◌, ◌↔◌, ℕ, zero, suc, ◌≤◌, [], ◌∷◌, ◌++◌, length, replicate, sym, ◌∙◌, ap, arith}
use Rattle.std.proofs.lemmas.List.{length-replicate}
use Rattle.hk_words.specs.declared.geometry.Geometry.{Geometry}
use Rattle.hk_core.specs.declared.spot.Work.{Work}
use Rattle.hk_core.specs.declared.spot.Work.TheVariants.{Useful, Worn}
use Rattle.hk_table.specs.Knows.{KeeperView}
use Rattle.hk_keeper.specs.Collected.{answers, Answers, useful, stopped, worn, Collected}

-- the last of equal things
last_same : {A : Type 0} (x y : A) (few many : ℕ) → replicate few x ++ y ∷ [] ≡ replicate many x → y ≡ x
last_same {A} x y few zero e = absurd (no_more few e)
  where
    no_more : (n : ℕ) → replicate n x ++ y ∷ [] ≡ [] → ⊥
    no_more zero e = cc
    no_more (suc n) e = cc
last_same x y zero (suc many) e = cc
last_same x y (suc few) (suc many) e = last_same x y few many (cc)

pub useful_exactly : (g : Geometry) (k : KeeperView) (budget : ℕ) (answer : Work) (events : ℕ) (k' : KeeperView) (c : Collected g k budget answer events k')
    → (answer ≡ Useful) ↔ (answers g k.log c.later ≡ replicate budget Useful)
useful_exactly g k budget answer events k' c = (all c.answered, only c.answered)
  where
    all : Answers g k.log c.later budget events answer → answer ≡ Useful → answers g k.log c.later ≡ replicate budget Useful
    all (useful is count says) is' = says
    all (stopped other not-worn few count says last) is' = absurd (other is')
    all (worn is some says causes) is' = let apart : Worn ≡ Useful = sym is ∙ is' in absurd (cc)

    only : Answers g k.log c.later budget events answer → answers g k.log c.later ≡ replicate budget Useful → answer ≡ Useful
    only (useful is count says) e = is
    only (stopped other not-worn few count says last) e = last_same Useful answer few budget (sym says ∙ e)
    only (worn is some says causes) e =
        let long : length (replicate events Useful) ≡ length (replicate budget Useful) = ap length (sym says ∙ e) in
        let a = length-replicate events Useful in
        let b = length-replicate budget Useful in
        absurd (omega arith)

pub some_event : (g : Geometry) (k : KeeperView) (budget : ℕ) (answer : Work) (events : ℕ) (k' : KeeperView) → Collected g k budget answer events k'
    → 1 ≤ budget → answer ≢ Worn → 1 ≤ events
some_event g k budget answer events k' c some' not-worn = by c.answered
  where
    by : Answers g k.log c.later budget events answer → 1 ≤ events
    by (useful is count says) = omega arith
    by (stopped other not few count says last) = omega arith
    by (worn is few says causes) = absurd (not-worn is)
