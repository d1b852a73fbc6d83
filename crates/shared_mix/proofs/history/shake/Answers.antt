use Rattle.std.proofs.Common.{rules, ◌≡◌, ◌∙◌, ap, sym, subst, ℕ}
use Rattle.std.specs.Prelude.{IsTrue}
use Rattle.hk_words.specs.Geometry.{tasks}
use Rattle.hk_table.specs.Ends.{HasAllSeats}
use Rattle.shared_mix.proofs.history.shake.Goals as goal

pub close-closed-requires-clause-seats : goal.close-closed-requires-clause-seats
close-closed-requires-clause-seats g c =
    let count : tasks c.in_ok-heap.heap.geometry ≡ 8 = ap tasks c.in_ok-heap.ensures.heap ∙ c.requires.tasks in
    let yes = c.if-have_all_seats.true in
    let told : IsTrue c.have_all_seats.result = search rules in
    let all : HasAllSeats 8 c.as_slice-in-Some.result.now = c.have_all_seats.ensures told in
    subst (λ (n : ℕ). HasAllSeats n c.in_ok-passes.field-0.passes.items) (sym count) (subst (HasAllSeats 8) c.as_slice-in-Some.ensures.value all)
