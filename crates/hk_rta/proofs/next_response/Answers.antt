-- The length of the task before and the own cost are a beginning of the search.
use Rattle.std.proofs.Common.{◌≡◌, ℕ, ◌-◌, ◌<◌, Some, length, slice_get, sym, subst, arith}
use Rattle.std.proofs.lemmas.Option.{slice_get_within, get_or_from_slice_get}
use Rattle.hk_rta.specs.Response.{Response}
use Rattle.hk_rta.proofs.Below.{below_next}
use Rattle.hk_rta.proofs.next_response.Goals.{in-Some, in-None}
use Rattle.hk_rta.proofs.next_response.Goals as goal

pub response_from-requires-clause-least : goal.response_from-requires-clause-least
response_from-requires-clause-least c =
    let i : ℕ = length c.args.earlier.now in
    elim c.match-last.branch [
      | in-Some w ↦
          let is : slice_get c.args.earlier.now (i - 1) ≡ Some w.in-Some.ticks.now = sym w.in-Some.ensures.value in
          let within : i - 1 < i = slice_get_within c.args.earlier.now (i - 1) w.in-Some.ticks.now is in
          let before : Response c.args.tasks.now (i - 1) w.in-Some.ticks.now =
          subst (Response c.args.tasks.now (i - 1)) (get_or_from_slice_get c.args.earlier.now (i - 1) w.in-Some.ticks.now 0 is) (c.requires.each (i - 1) within) in
          λ r s. omega (arith, w.least-is, below_next c.args.tasks.now i w.in-Some.ticks.now (omega arith) c.requires.within c.requires.timed before r s)
      | in-None w ↦ λ r s. omega (arith, w.least-is)
    ]
