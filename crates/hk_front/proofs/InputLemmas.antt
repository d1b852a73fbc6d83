-- What was read of an input.
use Rattle.std.proofs.Common.{◌≡◌, ℕ, ◌+◌, ◌<◌, ◌≤◌, List, [], length, Option, None, Some, Ok, refl, sym, ap, ◌∙◌, subst, arith}
use Rattle.std.proofs.lemmas.List.{length-append}
use Rattle.std.specs.Prelude.{IfSome}
use Rattle.hk_io.specs.Bytes.{ConsumesFront}
use Rattle.hk_io.specs.Limits.{longest_input}
use Rattle.hk_sheet.specs.declared.sheet.Sheet.{Sheet}
use Rattle.hk_sheet.specs.Answers.{Answers}
use Rattle.hk_front.specs.Input.{IsSheetOf}

-- what was read of an input that is too long
pub long_input : (before after : Option (List ℕ)) → ConsumesFront before after (λ count. count ≡ longest_input + 1) → (bytes : List ℕ) × IfSome before (λ left. bytes ≡ left) × (longest_input < length bytes)
long_input None after front = let n = front.fits in (front.front, tt, omega (arith, n))
long_input (Some left) None front = absurd front.consumed
long_input (Some left) (Some rest) front =
    let e = ap length front.consumed ∙ length-append front.front rest in
    let n = front.fits in
    (left, refl, omega (arith, e, n))

-- some bytes, where the input isn't told
pub any_input : (input : Option (List ℕ)) → (bytes : List ℕ) × IfSome input (λ left. bytes ≡ left)
any_input None = ([], tt)
any_input (Some left) = (left, refl)

-- the input is what a call that took equal bytes says
pub told_as : (input : Option (List ℕ)) (bytes slice : List ℕ) → slice ≡ bytes → IfSome input (λ left. bytes ≡ left) → IfSome input (λ left. slice ≡ left)
told_as input bytes slice same told = subst (λ b. IfSome input (λ left. b ≡ left)) (sym same) told

-- bytes that were read as a sheet, and aren't too many
pub read_sheet : (bytes : List ℕ) (sheet : Sheet) → length bytes ≤ longest_input → Answers bytes (Ok sheet) → IsSheetOf bytes sheet
read_sheet bytes sheet short answers = record { short = short; read = answers }
