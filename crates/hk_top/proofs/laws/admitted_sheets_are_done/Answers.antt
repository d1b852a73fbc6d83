-- What is asked for is done.
use Rattle.std.proofs.Common.{ℕ, List, Option, sym, subst}
use Rattle.std.specs.Prelude.{map}
use Rattle.std.specs.String.{string_bytes}
use Rattle.hk_io.specs.declared.Status.TheVariants as status
use Rattle.hk_top.specs.declared.tool.Command.{Command}
use Rattle.hk_top.specs.Tool.{asked, CommandCallsFor}
use Rattle.hk_top.proofs.Done.{done, simulated}
use Rattle.hk_top.proofs.laws.admitted_sheets_are_done.Goals as goal

pub returns-clause-sheets : goal.returns-clause-sheets
returns-clause-sheets c = λ words bytes admitted g reads is sizes few. done (asked (map string_bytes words)) bytes admitted g reads is sizes few

pub returns-clause-sims : goal.returns-clause-sims
returns-clause-sims c = λ words bytes n g asks sizes few.
    subst (λ (o : Option Command). (text : List ℕ) × CommandCallsFor o bytes status.Done text) (sym asks) (simulated bytes n g sizes few)
