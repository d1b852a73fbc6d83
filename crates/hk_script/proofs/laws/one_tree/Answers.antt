use Rattle.std.proofs.Common.{◌∙◌, sym}
use Rattle.hk_script.proofs.Trees.{trees, tree_of_script, tree_is}
use Rattle.hk_script.proofs.laws.one_tree.Goals as goal

pub returns-clause-some : goal.returns-clause-some
returns-clause-some c = λ limits script h. ((trees script).here, tree_of_script script h)

pub returns-clause-one : goal.returns-clause-one
returns-clause-one c = λ script first second a b. sym (tree_is script first a) ∙ tree_is script second b
