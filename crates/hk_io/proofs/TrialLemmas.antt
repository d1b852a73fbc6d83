-- Words that are taken over one by one.
use Rattle.std.proofs.Common.{◌≡◌, ℕ, suc, ◌+◌, ◌<◌, List, [], ◌∷◌, ◌++◌, length, map, take, string_bytes, String, Global, Bor, sym, ◌∙◌, ap, arith}
use Rattle.std.proofs.Math.Seq.{take-suc}
use Rattle.std.proofs.Math.ListN.{get_or}
use Rattle.std.proofs.lemmas.List.{map-append}
use Rattle.hk_io.specs.Bytes.{texts}

-- one more word
pub one_more : (all : List (String Global)) (words : List (Bor (List ℕ))) (i : ℕ) (s : String Global) (d : Bor (List ℕ))
    → i < length words → string_bytes s ≡ (get_or words i d).now → map string_bytes all ≡ texts (take i words)
    → map string_bytes (all ++ s ∷ []) ≡ texts (take (i + 1) words)
one_more all words i s d within same so_far =
    let next : i + 1 ≡ suc i = omega arith in
    map-append string_bytes all (s ∷ [])
    ∙ ap (λ l. l ++ string_bytes s ∷ []) so_far
    ∙ ap (λ b. texts (take i words) ++ b ∷ []) same
    ∙ sym (map-append (λ text. text.now) (take i words) (get_or words i d ∷ []))
    ∙ ap texts (sym (take-suc words i d within))
    ∙ ap (λ k. texts (take k words)) (sym next)
