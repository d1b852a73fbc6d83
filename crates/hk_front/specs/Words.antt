-- Words that are handed over by reference.
use Rattle.std.specs.Prelude.{ℕ, Bool, true, false, List, ◌∷◌, Option, Result, OnOk, OnErr}
use Rattle.std.specs.Io.KnownBytes.{Appends}
use Rattle.hk_io.specs.Bytes.{AppendsPrefix}
use Rattle.hk_io.specs.Faults.{HasCause}

-- what a word adds to a line: a space before it where the line has begun
abbrev pub added : (begun : Bool) → List ℕ → List ℕ
added false word = word
added true word = 32 ∷ word

-- a text was written whole; or a first part of it, and the count of faults rose
pub record Puts {T E : Type 0} (before after : Option (List ℕ)) (faults faults_after : ℕ) (text : List ℕ) (result : Result T E) : Type 0 where
  pub ok : OnOk result (Appends before after text)
  pub prefix : OnErr result (AppendsPrefix before after text)
  pub cause : HasCause faults faults_after result
