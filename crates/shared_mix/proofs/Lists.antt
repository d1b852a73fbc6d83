-- Lists that grow at their end.
use Rattle.std.proofs.Common.{◌≡◌, sym, subst, List, [], ◌∷◌, ◌++◌}
use Rattle.std.proofs.lemmas.List.Elements.{All-push}
use Rattle.std.specs.Prelude.{All}

pub one_more : {X : Type 0} (P : X → Type 0) (new old : List X) (x : X) → new ≡ old ++ x ∷ [] → All P old → P x → All P new
one_more {X} P new old x is all one = subst (λ (l : List X). All P l) (sym is) (All-push P old x all one)
