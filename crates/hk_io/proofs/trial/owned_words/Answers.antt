-- Each word is taken over.
use Rattle.std.proofs.Common.{map, string_bytes, ◌∙◌, ap}
use Rattle.std.proofs.lemmas.List.{take_all}
use Rattle.hk_io.specs.Bytes.{texts}
use Rattle.hk_io.proofs.TrialLemmas.{one_more}
use Rattle.hk_io.proofs.trial.owned_words.Goals as goal

pub loop-word-init : goal.loop-word-init
loop-word-init c = ap (map string_bytes) c.new-all.ensures.items

pub loop-word-preserved : goal.loop-word-preserved
loop-word-preserved c =
    ap (map string_bytes) c.in_ok-push.ensures.items
    ∙ one_more c.loop-word.all.items c.args.words.now c.loop-word.word-index c.in_ok-from_str.field-0 _ c.loop-word-test.true c.in_ok-from_str.ensures.ok c.loop-word.invariant

pub returns : goal.returns
returns c = c.loop-word.invariant ∙ ap texts (take_all c.loop-word.word-index c.args.words.now c.loop-word-test.false)
