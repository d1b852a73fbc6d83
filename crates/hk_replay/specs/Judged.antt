-- What a text comes to, as a log.
use Rattle.std.specs.Prelude.{◌≡◌, ℕ, ◌+◌, List, ◌∷◌, length}
use Rattle.hk_words.specs.declared.geometry.Geometry.{Geometry}
use Rattle.hk_model.specs.Heap.{opening_of}
use Rattle.hk_model.specs.History.{Legal}
use Rattle.hk_replay.specs.declared.judge.Verdict.{Verdict}
use Rattle.hk_replay.specs.declared.judge.Verdict.TheVariants as verdict
use Rattle.hk_replay.specs.declared.log_line.LogLine.{LogLine}
use Rattle.hk_replay.specs.Answers.{AreAnswers, DiffersAt, run_of}
use Rattle.hk_replay.specs.PlainReplies.{AreRepliesOfPlain}
use Rattle.hk_replay.specs.Log.{IsLog, IsNoLog}
use Rattle.hk_replay.specs.Spelling.{Opens}
use Rattle.hk_replay.specs.Text.{lines_of}

-- the text is a log of so many lines, each of which is the one for its action. Then the history of the run is legal, and each
-- line that ends a call says what the plain heap replies
pub record IsWhole (text : List ℕ) (count : ℕ) : Type 0 where
  pub g : Geometry
  pub lines : List LogLine
  pub log : IsLog text g lines
  pub answers : AreAnswers g lines
  pub counted : count ≡ length lines + 1
  pub legal : Legal (opening_of g) (run_of g lines).history
  pub replies : AreRepliesOfPlain g lines

-- the text is a log, and the line of this number is the first that isn't the one for its action
pub record IsDifferent (text : List ℕ) (number : ℕ) : Type 0 where
  pub g : Geometry
  pub lines : List LogLine
  pub log : IsLog text g lines
  pub at : DiffersAt g lines number

-- what a text comes to
abbrev pub IsVerdict : List ℕ → Verdict → Type 0
IsVerdict text (verdict.Whole count) = IsWhole text count
IsVerdict text (verdict.Differs number) = IsDifferent text number
IsVerdict text (verdict.Log number) = IsNoLog text number

-- what the lines behind the first one of a log come to
abbrev pub IsVerdictOfLines : Geometry → List (List ℕ) → Verdict → Type 0
IsVerdictOfLines g others said = (text : List ℕ) (first : List ℕ) → lines_of text ≡ first ∷ others → Opens first g → IsVerdict text said
