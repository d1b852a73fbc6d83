-- What calls do to the bytes that a source has left and that a sink has taken, where these are told.
use Rattle.std.specs.Prelude.{◌≡◌, ℕ, List, length, map, take, drop, Option}
use Rattle.std.specs.Io.KnownBytes.{Appends, Consumes}
use denote.Ref.{Bor}

-- told bytes grow by a prefix of these bytes
pub record AppendsPrefix (old new : Option (List ℕ)) (bytes : List ℕ) : Type 0 where
  pub count : ℕ
  pub taken : Appends old new (take count bytes)

-- told bytes grow by a prefix of these bytes, and the rest of these bytes waits
pub record AppendsFront (old new : Option (List ℕ)) (bytes waiting : List ℕ) : Type 0 where
  pub count : ℕ
  pub taken : Appends old new (take count bytes)
  pub waits : waiting ≡ drop count bytes

-- told bytes lose a prefix whose length meets a condition
pub record ConsumesFront (old new : Option (List ℕ)) (Fits : ℕ → Type 0) : Type 0 where
  pub front : List ℕ
  pub fits : Fits (length front)
  pub consumed : Consumes old new front

-- the texts behind some references
abbrev pub texts : List (Bor (List ℕ)) → List (List ℕ)
texts = map (λ text. text.now)
