use Rattle.std.proofs.Common.{◌≡◌, ◌∙◌, ap, sym, subst, refl, ℕ, List, [], length}
use Rattle.hk_words.specs.Geometry.{tasks}
use Rattle.atomic_table.specs.Table.{opening}
use Rattle.hk_core.specs.Run.{run_from_opening}
use Rattle.hk_table.specs.Knows.{KeeperView, keeper}
use Rattle.hk_table.specs.Seats.{the_keeper, keeper_from}
use Rattle.hk_table.specs.Rule.{InOneRun, first_view}
use Rattle.hk_table.proofs.Opening.{opens_so, opening_stands, row_length_is}
use Rattle.hk_table.proofs.heap.Heap.open.Goals as goal

pub of_words-requires : goal.of_words-requires
of_words-requires c =
    subst (λ (row : List ℕ). InOneRun c.args.g (opening row [] (first_view c.args.g))) (sym (c.as_slice.ensures.value ∙ c.in_ok-row.ensures)) (opens_so c.args.g)

pub invariant_of-heap : goal.invariant_of-heap
invariant_of-heap c =
    let e = c.in_ok-table.ensures in
    record {
      key = e.5;
      words = e.0 ∙ ap length (c.as_slice.ensures.value ∙ c.in_ok-row.ensures) ∙ row_length_is c.args.g;
      slots = e.1;
    }

pub returns : goal.returns
returns c =
    let e = c.in_ok-passes.ensures in
    let g = c.args.g in
    let knows = e.keeper in
    let kept : the_keeper c.first_passes.new.source.me.0.knows ≡ keeper_from (tasks g) = ap the_keeper knows in
    record {
      geometry = refl;
      count = e.count;
      each = e.passes;
      keeper_is = record {
        table = e.table ∙ c.in_ok-table.ensures.2;
        empty = e.mine ∙ ap (λ m. m.1) c.in_ok-table.ensures.4;
        is = knows ∙ ap (keeper g) (sym kept);
        stands = subst (λ (k : KeeperView). (run_from_opening g k.log).core.spot ≡ k.spot) (sym kept) (opening_stands g);
        spot = ap (λ (k : KeeperView). k.spot) kept ∙ sym c.first_spot.ensures;
        made = ap (λ (k : KeeperView). k.made) kept;
        longest = ap (λ (k : KeeperView). k.longest) kept;
        closed = ap (λ (k : KeeperView). k.closed) kept;
      };
      keeper_knows = kept;
    }
