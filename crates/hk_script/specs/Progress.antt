-- What was read so far, as the code holds it.
use Rattle.hk_script.specs.declared.progress.Reading.{Reading}
use Rattle.hk_script.specs.Texts.{Progress}

abbrev pub progress_of : Reading → Progress
progress_of r = record { statements = r.statements.items; blocks = r.blocks }
