use Rattle.hk_dispatch.proofs.WentOn.{pass_went}
use Rattle.hk_dispatch.proofs.stand.Stand.pass.Goals as goal

pub returns : goal.returns
returns c = λ sheet m tick h. pass_went sheet m tick c.args.self.now h
