-- The words so far were written, and no write failed.
use Rattle.std.proofs.Common.{◌≡◌}
use Rattle.std.specs.Io.KnownBytes.{Appends}
use Rattle.hk_front.proofs.WordLemmas.{first_words, has_begun}
use Rattle.hk_front.proofs.refusals.put_line.Given as goal

abbrev pub invariant-loop-word : goal.invariant-loop-word
invariant-loop-word g l = record {
  written : Appends (g.K.Sink.taken l.initial.sink) (g.K.Sink.taken l.sink) (first_words l.words l.word-index);
  begun : l.begun ≡ has_begun (first_words l.words l.word-index);
  kept : g.K.Sink.faults l.sink ≡ g.K.Sink.faults l.initial.sink;
}
