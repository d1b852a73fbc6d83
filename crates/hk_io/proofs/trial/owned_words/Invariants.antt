-- The words so far.
use Rattle.std.proofs.Common.{◌≡◌, map, take, string_bytes}
use Rattle.hk_io.specs.Bytes.{texts}
use Rattle.hk_io.proofs.trial.owned_words.Given as goal

abbrev pub invariant-loop-word : goal.invariant-loop-word
invariant-loop-word l = map string_bytes l.all.items ≡ texts (take l.word-index l.words)
