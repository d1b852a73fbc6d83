-- The scripts of the tasks are scripts, and cost what the tasks declare.
use Rattle.std.proofs.Common.{◌≡◌, refl, sym, subst, inl, ℕ, ◌+◌, ◌≤◌, List, [], ◌∷◌, ◌++◌, codes, decimal, append_assoc, append-nil, arith}
use Rattle.std.specs.List.{AllByRecursion}
use Rattle.std.proofs.lemmas.Fmt.{decimal_digit}
use Rattle.hk_script.specs.Blocks.{nest, IsScript}
use Rattle.hk_script.specs.Cost.{greatest_ticks, greatest_words}
use Rattle.hk_script.specs.Limits.{usual}
use Rattle.hk_script.specs.Printing.{line_of, text_of}
use Rattle.hk_script.specs.Spelling.{IsStatement}
use Rattle.hk_script.specs.Texts.{Spells}
use Rattle.hk_script.proofs.Printed.{script_spelled}
use Rattle.hk_gen.specs.Made.{high_script, low_script}

-- THE TEXTS

-- two digits and what stands around them, in the order of the code and in that of the lines
laid : (a b c field work : List ℕ) → a ++ (field ++ (10 ∷ (b ++ (field ++ (32 ∷ 114 ∷ 49 ∷ 10 ∷ (c ++ (work ++ 10 ∷ []))))))) ≡ a ++ (((field ++ []) ++ 10 ∷ []) ++ (b ++ (((field ++ 32 ∷ 114 ∷ 49 ∷ []) ++ 10 ∷ []) ++ (c ++ (((work ++ []) ++ 10 ∷ []) ++ [])))))
laid a b c field work = simp (append_assoc, append-nil) refl

laid_short : (a b c field : List ℕ) → a ++ (field ++ (10 ∷ (b ++ (field ++ (32 ∷ 114 ∷ 49 ∷ 10 ∷ c))))) ≡ a ++ (((field ++ []) ++ 10 ∷ []) ++ (b ++ (((field ++ 32 ∷ 114 ∷ 49 ∷ []) ++ 10 ∷ []) ++ c)))
laid_short a b c field = simp (append_assoc, append-nil) refl

-- the text of the code is the canonical one of the script
pub high_text : (i work : ℕ) → codes "job v0\nnew r1 1 2\nput r1 0 v0\nload r2 r0 " ++ (decimal i ++ (codes "\nif null r2\nelse\nstore r2 0 r3\nget v1 r2 0\nend\nstore r1 0 r2\nstore r0 " ++ (decimal i ++ (codes " r1\nadd v0 v1\nout v0\nclear r1\nclear r2\nwork " ++ (decimal work ++ codes "\n"))))) ≡ text_of (high_script i work)
unfolding line_of
high_text i work =
    rw (decimal_digit 0 (omega arith), decimal_digit 1 (omega arith), decimal_digit 2 (omega arith), decimal_digit 3 (omega arith))
    (laid
    (codes "job v0\nnew r1 1 2\nput r1 0 v0\nload r2 r0 ")
    (codes "if null r2\nelse\nstore r2 0 r3\nget v1 r2 0\nend\nstore r1 0 r2\nstore r0 ")
    (codes "add v0 v1\nout v0\nclear r1\nclear r2\nwork ")
    (decimal i) (decimal work))

pub low_text : (i : ℕ) → codes "job v0\nnew r1 1 3\nput r1 0 v0\nload r2 r0 " ++ (decimal i ++ (codes "\nif null r2\nelse\nstore r2 0 r3\nend\nstore r1 0 r2\nstore r0 " ++ (decimal i ++ codes " r1\nclear r1\nclear r2\n"))) ≡ text_of (low_script i)
unfolding line_of
low_text i =
    rw (decimal_digit 0 (omega arith), decimal_digit 1 (omega arith), decimal_digit 2 (omega arith), decimal_digit 3 (omega arith))
    (laid_short
    (codes "job v0\nnew r1 1 3\nput r1 0 v0\nload r2 r0 ")
    (codes "if null r2\nelse\nstore r2 0 r3\nend\nstore r1 0 r2\nstore r0 ")
    (codes "clear r1\nclear r2\n")
    (decimal i))

-- THE GRAMMAR

high_each : (i work : ℕ) → i ≤ 4 → 1 ≤ work → work ≤ 20 → AllByRecursion (IsStatement usual) (high_script i work)
high_each i work field some few = search arith

pub high_is_script : (i work : ℕ) → i ≤ 4 → 1 ≤ work → work ≤ 20 → IsScript usual (high_script i work)
unfolding nest
high_is_script i work field some few = record {
  each = high_each i work field some few;
  blocks = refl;
  some = omega arith;
  few = omega arith;
}

low_each : (i : ℕ) → i ≤ 4 → AllByRecursion (IsStatement usual) (low_script i)
low_each i field = search arith

pub low_is_script : (i : ℕ) → i ≤ 4 → IsScript usual (low_script i)
unfolding nest
low_is_script i field = record {
  each = low_each i field;
  blocks = refl;
  some = omega arith;
  few = omega arith;
}

-- a text spells the script whose canonical text it is
pub high_spelled : (i work : ℕ) (text : List ℕ) → i ≤ 4 → 1 ≤ work → work ≤ 20 → text ≡ text_of (high_script i work) → Spells usual text (high_script i work)
high_spelled i work text field some few same =
    subst (λ (t : List ℕ). Spells usual t (high_script i work)) (sym same)
    (script_spelled usual (inl (refl, refl)) (high_script i work) (high_is_script i work field some few))

pub low_spelled : (i : ℕ) (text : List ℕ) → i ≤ 4 → text ≡ text_of (low_script i) → Spells usual text (low_script i)
low_spelled i text field same =
    subst (λ (t : List ℕ). Spells usual t (low_script i)) (sym same)
    (script_spelled usual (inl (refl, refl)) (low_script i) (low_is_script i field))

-- THE COSTS

pub high_ticks : (i work : ℕ) → greatest_ticks (high_script i work) ≡ 50 + work
unfolding greatest_ticks
high_ticks i work = omega arith

pub high_words : (i work : ℕ) → greatest_words (high_script i work) ≡ 4
unfolding greatest_words
high_words i work = omega arith
