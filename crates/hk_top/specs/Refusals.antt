-- The line for words that the program doesn't take, and for each reason not to admit a sheet.
use Rattle.std.specs.Prelude.{ℕ, List, [], ◌∷◌, codes, decimal, Option, Some, None}
use Rattle.hk_admit.specs.declared.refused.Refused.{Refused}
use Rattle.hk_admit.specs.declared.refused.Refused.TheVariants as refused
use Rattle.hk_front.specs.Text.{line}

-- the words that the program takes
abbrev pub usage_line : List ℕ
usage_line = line (codes "usage: henri check, run [--trace], gen N, sim N" ∷ [])

-- a number that may be too large to be told
abbrev pub need_word : Option ℕ → List ℕ
need_word None = codes "over"
need_word (Some number) = decimal number

-- that a task needs more of something than it declares, and that there is less of something than is needed
abbrev pub need_words : (what task : List ℕ) → (need : Option ℕ) → (declared : ℕ) → List (List ℕ)
need_words what task need declared = what ∷ task ∷ codes "need" ∷ need_word need ∷ codes "declared" ∷ decimal declared ∷ []

abbrev pub have_words : (what : List ℕ) → (have need : ℕ) → List (List ℕ)
have_words what have need = what ∷ decimal have ∷ codes "need" ∷ decimal need ∷ []

abbrev pub need_line : (what task : List ℕ) → (need : Option ℕ) → (declared : ℕ) → List ℕ
need_line what task need declared = line (codes "refused" ∷ need_words what task need declared)

abbrev pub have_line : (what : List ℕ) → (have need : ℕ) → List ℕ
have_line what have need = line (codes "refused" ∷ have_words what have need)

-- why a sheet isn't admitted; want of memory is no reason that is told
abbrev pub refused_words : Refused → List (List ℕ)
refused_words (refused.Cost task need declared) = need_words (codes "cost") task need declared
refused_words (refused.Words task need declared) = need_words (codes "words") task need declared
refused_words (refused.Response task) = codes "response" ∷ task ∷ []
refused_words refused.Busy = codes "busy" ∷ []
refused_words (refused.Rate have need) = have_words (codes "rate have") have need
refused_words (refused.Reserve have need) = have_words (codes "reserve have") have need
refused_words refused.Memory = []

abbrev pub refused_line : Refused → List ℕ
refused_line why = line (codes "refused" ∷ refused_words why)
