use Rattle.std.proofs.Common.{◌≡◌, ℕ, drop, List, [], Bor}
use Rattle.std.specs.BTreeSet.{contains}
use Rattle.std.specs.Cmp.Lexicographic.{slice_cmp}
use Rattle.std.specs.Ordering.{nat_cmp}
use Rattle.hk_sheet.specs.Faults.{first_of, faults_of_names, is_among}
use Rattle.hk_sheet.specs.Raw.{raw_names}
use Rattle.hk_sheet.proofs.tasks.check_names.Given as goal

-- the first fault is that of the names that are left, and the set has the earlier ones
abbrev pub invariant-loop-index : goal.invariant-loop-index
invariant-loop-index l = (earlier : List (List ℕ))
    × (first_of (faults_of_names earlier l.index (raw_names (drop l.index l.tasks))) ≡ first_of (faults_of_names [] 0 (raw_names l.tasks)))
    × ((q : Bor (List ℕ)) → contains (λ x y. slice_cmp nat_cmp x.now y.now) l.earlier q ≡ is_among earlier q.now)
