-- Where nothing fails, the words and the input decide.
use Rattle.hk_replay.specs.Tool.{bytes_of}
use Rattle.hk_replay.proofs.ToolLemmas.{complete}
use Rattle.hk_replay.proofs.tool.run_replay.Goals as goal

pub returns-in-Text-clause-complete : goal.returns-in-Text-clause-complete
returns-in-Text-clause-complete g c = λ _ kept.
    complete c.args.words.now (g.S.Source.left c.args.source.now) c.in-Text.owed c.put_text.result (bytes_of c.in-Text.text) c.in-Text.ensures.tells.1 c.put_text.ensures.ends (λ w. kept (c.put_text.ensures.cause w))
