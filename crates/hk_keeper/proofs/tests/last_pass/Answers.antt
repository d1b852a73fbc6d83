use Rattle.std.proofs.Common.{◌≡◌, ◌∙◌, ap, subst, arith, ◌+◌, List, [], ◌∷◌, ◌++◌, length}
use Rattle.std.proofs.lemmas.List.{length-append}
use Rattle.std.specs.Prelude.{All, slice_index_or}
use Rattle.hk_model.proofs.Lists.{get_or-push_before, get_or-push_last}
use Rattle.hk_table.specs.Passes.{IsPassOf}
use Rattle.hk_table.specs.declared.pass.Pass.{Pass}
use Rattle.hk_keeper.proofs.tests.last_pass.Goals as goal

-- of all, those but the last, and the last
module _ (P : Pass → Type 0) (items rest : List Pass) (last : Pass) (is : items ≡ rest ++ last ∷ []) (all : All P items) where
  long : length items ≡ length rest + 1
  long = let a = length-append rest (last ∷ []) in let b : length items ≡ length (rest ++ last ∷ []) = ap length is in omega arith

  others : All P rest
  others i d below =
      subst P (ap (λ (l : List Pass). slice_index_or l i d) is ∙ get_or-push_before rest last i d (λ e. absurd (omega arith))) (all i d (let l = long in omega arith))

  the_last : P last
  the_last = subst P (ap (λ (l : List Pass). slice_index_or l (length rest) last) is ∙ get_or-push_last rest last last) (all (length rest) last (let l = long in omega arith))

pub returns-clause-left : goal.returns-clause-left
returns-clause-left g c = others (IsPassOf c.args.heap.now) _ _ c.in-Some.pass c.in-Some.ensures.items c.requires

pub returns-clause-pass : goal.returns-clause-pass
returns-clause-pass g c = the_last (IsPassOf c.args.heap.now) _ _ c.in-Some.pass c.in-Some.ensures.items c.requires
