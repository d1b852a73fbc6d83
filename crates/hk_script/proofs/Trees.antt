-- Each script is one tree laid out, and its sums are those of the tree.
use Rattle.std.proofs.Common.{◌≡◌, ◌↔◌, ◌⊎◌, ℕ, suc, zero, ◌+◌, ◌*◌, ◌^◌, ◌<◌, ◌≤◌, max, Bool, true, false, cond, List, [], ◌∷◌, ◌++◌, length, map, Result, Ok, Option, Some, None, refl, sym, ap, ◌∙◌, subst, arith, inl, inr}
use Rattle.std.specs.Prelude.{nat_lt, nat_le, Contains, slice_index_or}
use Rattle.std.proofs.lemmas.Bool.{cases_lt}
use Rattle.std.proofs.lemmas.Bool.Decides.{nat_tests}
use Rattle.std.proofs.lemmas.List.{append_assoc, append-nil}
use Rattle.hk_words.specs.Shape.{size}
use Rattle.hk_words.specs.declared.shape.Shape.{Shape}
use Rattle.hk_script.specs.declared.beyond.Beyond.{Beyond}
use Rattle.hk_script.specs.declared.blocks.Open.{Open}
use Rattle.hk_script.specs.declared.blocks.Part.{Part}
use Rattle.hk_script.specs.declared.blocks.Part.TheVariants as part
use Rattle.hk_script.specs.declared.error.Fault.{Fault}
use Rattle.hk_script.specs.declared.error.Fault.TheVariants as fault
use Rattle.hk_script.specs.declared.limits.Limits.{Limits}
use Rattle.hk_script.specs.declared.statement.Statement.{Statement}
use Rattle.hk_script.specs.declared.statement.Statement.TheVariants as statement
use Rattle.hk_script.specs.declared.statement.Test.{Test}
use Rattle.hk_script.specs.Blocks.{open_block, begun, parted_by, parted, ended, nest, nested, IsScript}
use Rattle.hk_script.specs.Cost.{Ahead, beyond, nearest, outer_of, in_front, ahead, told, ticks_of, words_of, greatest_ticks, greatest_words, largest_of}
use Rattle.hk_script.specs.Trees.{Tree, Nothing, Does, When, Chooses, Repeats, IsPlain, IsTree, layout, IsTreeOf, tree_ticks, tree_words, Makes, IsGreatestMade}
use Rattle.hk_script.proofs.Arguments.{bind_ok, ok_is, passed_or}
use Rattle.hk_script.proofs.Totals.{two_same}

-- what is still to come of a block, and what follows its end
pub record Rest : Type 0 where
  pub other : Option Tree
  pub after : Tree

abbrev rest : Option Tree → Tree → Rest
rest o t = record { other = o; after = t }

-- the tree from a place on, up to the end of the part that it stands in, and the rest of each block around it, the
-- innermost first
pub record Grove : Type 0 where
  pub here : Tree
  pub blocks : List Rest

abbrev pub grove : Tree → List Rest → Grove
grove t rs = record { here = t; blocks = rs }

abbrev first_of : List Rest → Rest
first_of [] = rest None Nothing
first_of (r ∷ rs) = r

abbrev others_of : List Rest → List Rest
others_of [] = []
others_of (r ∷ rs) = rs

-- an `if` with its parts
abbrev joined : Test → Tree → Option Tree → Tree → Tree
joined t part None follows = When t part follows
joined t part (Some other) follows = Chooses t part other follows

-- one statement more in front
abbrev pub grown : Statement → Grove → Grove
grown (statement.If t) g = grove (joined t g.here (first_of g.blocks).other (first_of g.blocks).after) (others_of g.blocks)
grown (statement.Repeat n) g = grove (Repeats n g.here (first_of g.blocks).after) (others_of g.blocks)
grown statement.Else g = grove Nothing (rest (Some g.here) (first_of g.blocks).after ∷ others_of g.blocks)
grown statement.End g = grove Nothing (rest None g.here ∷ g.blocks)
grown s g = grove (Does s g.here) g.blocks

abbrev pub trees : List Statement → Grove
trees [] = grove Nothing []
trees (s ∷ more) = grown s (trees more)

-- ---- each statement that stands by itself is plain

abbrev IsOther : Option Tree → Type 0
IsOther None = Unit {0}
IsOther (Some t) = IsTree t

abbrev AreRests : List Rest → Type 0
AreRests [] = Unit {0}
AreRests (r ∷ rs) = (IsOther r.other × IsTree r.after) × AreRests rs

first_good : (rs : List Rest) → AreRests rs → IsOther (first_of rs).other × IsTree (first_of rs).after
first_good [] h = (tt, tt)
first_good (r ∷ rs) h = h.0

others_good : (rs : List Rest) → AreRests rs → AreRests (others_of rs)
others_good [] h = tt
others_good (r ∷ rs) h = h.1

joined_good : (t : Test) (part : Tree) (o : Option Tree) (follows : Tree) → IsTree part → IsOther o → IsTree follows → IsTree (joined t part o follows)
joined_good t part None follows a b c = (a, c)
joined_good t part (Some other) follows a b c = (a, b, c)

grown_good : (x : Statement) (g : Grove) → IsTree g.here → AreRests g.blocks → IsTree (grown x g).here × AreRests (grown x g).blocks
grown_good (statement.If t) g h r = let f = first_good g.blocks r in (joined_good t g.here (first_of g.blocks).other (first_of g.blocks).after h f.0 f.1, others_good g.blocks r)
grown_good (statement.Repeat n) g h r = let f = first_good g.blocks r in ((h, f.1), others_good g.blocks r)
grown_good statement.Else g h r = let f = first_good g.blocks r in (tt, ((h, f.1), others_good g.blocks r))
grown_good statement.End g h r = (tt, ((tt, h), r))
grown_good x g h r = ((tt, h), r)

trees_good : (s : List Statement) → IsTree (trees s).here × AreRests (trees s).blocks
trees_good [] = (tt, tt)
trees_good (x ∷ s) = let r = trees_good s in grown_good x (trees s) r.0 r.1

-- ---- the statements of a tree are the script's

abbrev other_laid : Option Tree → List Statement
other_laid None = []
other_laid (Some t) = statement.Else ∷ layout t

abbrev rests_laid : List Rest → List Statement
rests_laid [] = []
rests_laid (r ∷ rs) = other_laid r.other ++ (statement.End ∷ layout r.after ++ rests_laid rs)

abbrev laid : Grove → List Statement
laid g = layout g.here ++ rests_laid g.blocks

-- an `else` is still to come only of an `if` that has had none
abbrev FitsPart : Part → Option Tree → Type 0
FitsPart part.Then o = Unit {0}
FitsPart part.Otherwise o = o ≡ None
FitsPart part.Turns o = o ≡ None

abbrev FitBlocks : List Open → List Rest → Type 0
FitBlocks [] [] = Unit {0}
FitBlocks [] (r ∷ rs) = ⊥
FitBlocks (b ∷ o) [] = ⊥
FitBlocks (b ∷ o) (r ∷ rs) = FitsPart b.part r.other × FitBlocks o rs

record Laid (o : List Open) (g : Grove) (s : List Statement) : Type 0 where
  fits : FitBlocks o g.blocks
  laid_out : laid g ≡ s

none_fits : (p : Part) → FitsPart p None
none_fits part.Then = tt
none_fits part.Otherwise = refl
none_fits part.Turns = refl

joined_laid : (t : Test) (h : Tree) (o : Option Tree) (a : Tree) (z : List Statement) → layout (joined t h o a) ++ z ≡ statement.If t ∷ layout h ++ (other_laid o ++ (statement.End ∷ layout a ++ z))
joined_laid t h None a z = ap (λ (l : List Statement). statement.If t ∷ l) (append_assoc (layout h) (statement.End ∷ layout a) z)
joined_laid t h (Some e) a z =
    ap (λ (l : List Statement). statement.If t ∷ l) (append_assoc (layout h) (statement.Else ∷ layout e ++ (statement.End ∷ layout a)) z)
    ∙ ap (λ (l : List Statement). statement.If t ∷ layout h ++ (statement.Else ∷ l)) (append_assoc (layout e) (statement.End ∷ layout a) z)

if_laid : (t : Test) (p : ℕ) (o after : List Open) (h : Tree) (rs : List Rest) → begun part.Then p o ≡ Ok after → FitBlocks after rs → Laid o (grown (statement.If t) (grove h rs)) (statement.If t ∷ laid (grove h rs))
if_laid t p o after h rs e f =
    let m = passed_or (nat_lt (length o) 16) fault.Deep (open_block part.Then p ∷ o) after e in
    by_rests rs (subst (λ (b : List Open). FitBlocks b rs) (sym m.1) f) where
      by_rests : (rs : List Rest) → FitBlocks (open_block part.Then p ∷ o) rs → Laid o (grown (statement.If t) (grove h rs)) (statement.If t ∷ laid (grove h rs))
      by_rests [] f = absurd f
      by_rests (r ∷ rs) f = record { fits = f.1; laid_out = joined_laid t h r.other r.after (rests_laid rs) }

repeat_laid : (n p : ℕ) (o after : List Open) (h : Tree) (rs : List Rest) → begun part.Turns p o ≡ Ok after → FitBlocks after rs → Laid o (grown (statement.Repeat n) (grove h rs)) (statement.Repeat n ∷ laid (grove h rs))
repeat_laid n p o after h rs e f =
    let m = passed_or (nat_lt (length o) 16) fault.Deep (open_block part.Turns p ∷ o) after e in
    by_rests rs (subst (λ (b : List Open). FitBlocks b rs) (sym m.1) f) where
      by_rests : (rs : List Rest) → FitBlocks (open_block part.Turns p ∷ o) rs → Laid o (grown (statement.Repeat n) (grove h rs)) (statement.Repeat n ∷ laid (grove h rs))
      by_rests [] f = absurd f
      by_rests (r ∷ rs) f = record {
        fits = f.1;
        laid_out =
            ap (λ (l : List Statement). statement.Repeat n ∷ l) (append_assoc (layout h) (statement.End ∷ layout r.after) (rests_laid rs))
            ∙ ap (λ (k : Option Tree). statement.Repeat n ∷ layout h ++ (other_laid k ++ (statement.End ∷ layout r.after ++ rests_laid rs))) (sym f.0);
      }

else_laid : (o after : List Open) (h : Tree) (rs : List Rest) → parted o ≡ Ok after → FitBlocks after rs → Laid o (grown statement.Else (grove h rs)) (statement.Else ∷ laid (grove h rs))
else_laid [] after h rs e f = absurd cc
else_laid (b ∷ outer) after h rs e f = by_part b.part refl where
  by_rests : (rs : List Rest) → b.part ≡ part.Then → FitBlocks (open_block part.Otherwise b.mark ∷ outer) rs → Laid (b ∷ outer) (grown statement.Else (grove h rs)) (statement.Else ∷ laid (grove h rs))
  by_rests [] i f = absurd f
  by_rests (r ∷ rs) i f = record {
    fits = (subst (λ (p : Part). FitsPart p (Some h)) (sym i) tt, f.1);
    laid_out = ap (λ (k : Option Tree). statement.Else ∷ layout h ++ (other_laid k ++ (statement.End ∷ layout r.after ++ rests_laid rs))) (sym f.0);
  }

  by_part : (q : Part) → b.part ≡ q → Laid (b ∷ outer) (grown statement.Else (grove h rs)) (statement.Else ∷ laid (grove h rs))
  by_part part.Then i =
      let g : parted_by part.Then b.mark outer ≡ Ok after = rw i at e in
      let m = ok_is (open_block part.Otherwise b.mark ∷ outer) after g in
      by_rests rs i (subst (λ (t : List Open). FitBlocks t rs) (sym m) f)
  by_part part.Otherwise i = let g : parted_by part.Otherwise b.mark outer ≡ Ok after = rw i at e in absurd cc
  by_part part.Turns i = let g : parted_by part.Turns b.mark outer ≡ Ok after = rw i at e in absurd cc

end_laid : (o after : List Open) (h : Tree) (rs : List Rest) → ended o ≡ Ok after → FitBlocks after rs → Laid o (grown statement.End (grove h rs)) (statement.End ∷ laid (grove h rs))
end_laid [] after h rs e f = absurd cc
end_laid (b ∷ outer) after h rs e f = record { fits = (none_fits b.part, subst (λ (t : List Open). FitBlocks t rs) (sym (ok_is outer after e)) f); laid_out = refl }

plain_fits : (o after : List Open) (rs : List Rest) → (let r : Result (List Open) Fault = Ok o in r) ≡ Ok after → FitBlocks after rs → FitBlocks o rs
plain_fits o after rs e f = subst (λ (t : List Open). FitBlocks t rs) (sym (ok_is o after e)) f

step_laid : (x : Statement) (p : ℕ) (o after : List Open) (g : Grove) → nest p o x ≡ Ok after → FitBlocks after g.blocks → Laid o (grown x g) (x ∷ laid g)
unfolding nest
step_laid (statement.If t) p o after g e f = if_laid t p o after g.here g.blocks e f
step_laid (statement.Repeat n) p o after g e f = repeat_laid n p o after g.here g.blocks e f
step_laid statement.Else p o after g e f = else_laid o after g.here g.blocks e f
step_laid statement.End p o after g e f = end_laid o after g.here g.blocks e f
step_laid x p o after g e f = record { fits = plain_fits o after g.blocks e f; laid_out = refl }

all_laid : (p : ℕ) (o : List Open) (s : List Statement) → nested p o s ≡ Ok [] → Laid o (trees s) s
all_laid p o [] e = record { fits = subst (λ (t : List Open). FitBlocks t []) (sym (ok_is o [] e)) tt; laid_out = refl }
all_laid p o (x ∷ s) e =
    let step = bind_ok (nest p o x) (λ after. nested (p + 1) after s) [] e in
    let more = all_laid (p + 1) step.0 s step.2 in
    let here = step_laid x p o step.0 (trees s) step.1 more.fits in
    record { fits = here.fits; laid_out = here.laid_out ∙ ap (λ (l : List Statement). x ∷ l) more.laid_out }

none_around : (rs : List Rest) → FitBlocks [] rs → rests_laid rs ≡ []
none_around [] f = refl
none_around (r ∷ rs) f = absurd f

-- each script is a tree laid out
pub tree_of_script : {limits : Limits} (s : List Statement) → IsScript limits s → IsTreeOf s (trees s).here
tree_of_script s h =
    let l = all_laid 0 [] s h.blocks in
    let none = none_around (trees s).blocks l.fits in
    record { plain = (trees_good s).0; laid_out = sym (append-nil (layout (trees s).here)) ∙ ap (λ (z : List Statement). layout (trees s).here ++ z) (sym none) ∙ l.laid_out }

-- ---- a tree is found again from its statements

plain_grown : (x : Statement) (t : Tree) (rs : List Rest) → IsPlain x → grown x (grove t rs) ≡ grove (Does x t) rs
plain_grown (statement.If t) r rs h = absurd h
plain_grown (statement.Repeat n) r rs h = absurd h
plain_grown statement.Else r rs h = absurd h
plain_grown statement.End r rs h = absurd h
plain_grown x r rs h = refl

-- the trees from the first statement of a tree on, where other statements follow that end its part
grows : (t : Tree) → IsTree t → (z : List Statement) → (trees z).here ≡ Nothing → trees (layout t ++ z) ≡ grove t (trees z).blocks
grows Nothing h z e = ap (λ (t : Tree). grove t (trees z).blocks) e
grows (Does x more) h z e = ap (grown x) (grows more h.1 z e) ∙ plain_grown x more (trees z).blocks h.0
grows (When t part more) h z e =
    ap (λ (l : List Statement). grown (statement.If t) (trees l)) (append_assoc (layout part) (statement.End ∷ layout more) z)
    ∙ ap (grown (statement.If t)) (grows part h.0 (statement.End ∷ layout more ++ z) refl)
    ∙ ap (λ (g : Grove). grown (statement.If t) (grove part (rest None g.here ∷ g.blocks))) (grows more h.1 z e)
grows (Chooses t part other more) h z e =
    ap (λ (l : List Statement). grown (statement.If t) (trees l)) (append_assoc (layout part) (statement.Else ∷ layout other ++ (statement.End ∷ layout more)) z)
    ∙ ap (grown (statement.If t)) (grows part h.0 (statement.Else ∷ (layout other ++ (statement.End ∷ layout more)) ++ z) refl)
    ∙ ap (λ (l : List Statement). grown (statement.If t) (grove part (grown statement.Else (trees l)).blocks)) (append_assoc (layout other) (statement.End ∷ layout more) z)
    ∙ ap (λ (g : Grove). grown (statement.If t) (grove part (grown statement.Else g).blocks)) (grows other h.1 (statement.End ∷ layout more ++ z) refl)
    ∙ ap (λ (g : Grove). grown (statement.If t) (grove part (grown statement.Else (grove other (rest None g.here ∷ g.blocks))).blocks)) (grows more h.2 z e)
grows (Repeats n block more) h z e =
    ap (λ (l : List Statement). grown (statement.Repeat n) (trees l)) (append_assoc (layout block) (statement.End ∷ layout more) z)
    ∙ ap (grown (statement.Repeat n)) (grows block h.0 (statement.End ∷ layout more ++ z) refl)
    ∙ ap (λ (g : Grove). grown (statement.Repeat n) (grove block (rest None g.here ∷ g.blocks))) (grows more h.1 z e)

-- what a script is laid out from is this tree
pub tree_is : (s : List Statement) (tree : Tree) → IsTreeOf s tree → (trees s).here ≡ tree
tree_is s tree h =
    ap (λ (l : List Statement). (trees l).here) (sym h.laid_out ∙ sym (append-nil (layout tree)))
    ∙ ap (λ (g : Grove). g.here) (grows tree h.plain [] refl)

-- ---- the sums of a tree

abbrev tree_sum : (Statement → ℕ) → Tree → ℕ
tree_sum weight Nothing = 0
tree_sum weight (Does x more) = weight x + tree_sum weight more
tree_sum weight (When t part more) = weight (statement.If t) + tree_sum weight part + tree_sum weight more
tree_sum weight (Chooses t part other more) = weight (statement.If t) + max (tree_sum weight part) (tree_sum weight other) + tree_sum weight more
tree_sum weight (Repeats n block more) = n * (weight (statement.Repeat n) + tree_sum weight block) + weight (statement.Repeat n) + tree_sum weight more

abbrev other_sum : (Statement → ℕ) → Option Tree → ℕ
other_sum weight None = 0
other_sum weight (Some t) = tree_sum weight t

abbrev rest_sum : (Statement → ℕ) → Rest → Beyond
rest_sum weight r = beyond (other_sum weight r.other) (tree_sum weight r.after)

abbrev summed : (Statement → ℕ) → Grove → Ahead
summed weight g = record { here = tree_sum weight g.here; blocks = map (rest_sum weight) g.blocks }

nearest_summed : (weight : Statement → ℕ) (rs : List Rest) → nearest (map (rest_sum weight) rs) ≡ rest_sum weight (first_of rs)
nearest_summed weight [] = refl
nearest_summed weight (r ∷ rs) = refl

outer_summed : (weight : Statement → ℕ) (rs : List Rest) → outer_of (map (rest_sum weight) rs) ≡ map (rest_sum weight) (others_of rs)
outer_summed weight [] = refl
outer_summed weight (r ∷ rs) = refl

joined_summed : (weight : Statement → ℕ) (t : Test) (h : Tree) (o : Option Tree) (a : Tree) → weight (statement.If t) + max (tree_sum weight h) (other_sum weight o) + tree_sum weight a ≡ tree_sum weight (joined t h o a)
joined_summed weight t h None a = let same : max (tree_sum weight h) 0 ≡ tree_sum weight h = omega arith in ap (λ (n : ℕ). weight (statement.If t) + n + tree_sum weight a) same
joined_summed weight t h (Some o) a = refl

front_summed : (weight : Statement → ℕ) (x : Statement) (g : Grove) → in_front (weight x) x (summed weight g) ≡ summed weight (grown x g)
front_summed weight (statement.If t) g =
    two_same _ _ _ _ (ap (λ (b : Beyond). weight (statement.If t) + max (tree_sum weight g.here) b.other + b.after) (nearest_summed weight g.blocks) ∙ joined_summed weight t g.here (first_of g.blocks).other (first_of g.blocks).after) (outer_summed weight g.blocks)
front_summed weight (statement.Repeat n) g =
    two_same _ _ _ _ (ap (λ (b : Beyond). n * (weight (statement.Repeat n) + tree_sum weight g.here) + weight (statement.Repeat n) + b.after) (nearest_summed weight g.blocks)) (outer_summed weight g.blocks)
front_summed weight statement.Else g =
    two_same _ _ _ _ refl (ap (λ (b : Beyond). beyond (tree_sum weight g.here) b.after ∷ outer_of (map (rest_sum weight) g.blocks)) (nearest_summed weight g.blocks) ∙ ap (λ (bs : List Beyond). beyond (tree_sum weight g.here) (tree_sum weight (first_of g.blocks).after) ∷ bs) (outer_summed weight g.blocks))
front_summed weight statement.End g = refl
front_summed weight x g = refl

ahead_summed : (weight : Statement → ℕ) (s : List Statement) → ahead weight s ≡ summed weight (trees s)
ahead_summed weight [] = refl
ahead_summed weight (x ∷ s) = ap (in_front (weight x) x) (ahead_summed weight s) ∙ front_summed weight x (trees s)

-- the greatest sum of a script is its tree's
script_sum : (weight : Statement → ℕ) (s : List Statement) (tree : Tree) → IsTreeOf s tree → (ahead weight s).here ≡ tree_sum weight tree
script_sum weight s tree h = ap (λ (a : Ahead). a.here) (ahead_summed weight s) ∙ ap (tree_sum weight) (tree_is s tree h)

ticks_turns : (n b f : ℕ) → n * (1 + b) + 1 + f ≡ n * b + (n + 1) + f
ticks_turns n b f = omega arith

words_turns : (n b f : ℕ) → n * (0 + b) + 0 + f ≡ n * b + f
words_turns n b f = omega arith

ticks_summed : (t : Tree) → tree_sum ticks_of t ≡ tree_ticks t
ticks_summed Nothing = refl
ticks_summed (Does x more) = ap (λ (n : ℕ). ticks_of x + n) (ticks_summed more)
ticks_summed (When t part more) = rw (ticks_summed part, ticks_summed more) refl
ticks_summed (Chooses t part other more) = rw (ticks_summed part, ticks_summed other, ticks_summed more) refl
ticks_summed (Repeats n block more) = rw (ticks_summed block, ticks_summed more) (ticks_turns n (tree_ticks block) (tree_ticks more))

words_summed : (t : Tree) → tree_sum words_of t ≡ tree_words t
words_summed Nothing = refl
words_summed (Does x more) = ap (λ (n : ℕ). words_of x + n) (words_summed more)
words_summed (When t part more) = rw (words_summed part, words_summed more) (omega arith)
words_summed (Chooses t part other more) = rw (words_summed part, words_summed other, words_summed more) (omega arith)
words_summed (Repeats n block more) = rw (words_summed block, words_summed more) (words_turns n (tree_words block) (tree_words more))

pub greatest_ticks_is : (s : List Statement) (tree : Tree) → IsTreeOf s tree → greatest_ticks s ≡ tree_ticks tree
unfolding greatest_ticks
greatest_ticks_is s tree h = script_sum ticks_of s tree h ∙ ticks_summed tree

pub greatest_words_is : (s : List Statement) (tree : Tree) → IsTreeOf s tree → greatest_words s ≡ tree_words tree
unfolding greatest_words
greatest_words_is s tree h = script_sum words_of s tree h ∙ words_summed tree

-- ---- the greatest object

largest_bound : (s : List Statement) (dest : ℕ) (shape : Shape) → Contains s (statement.New dest shape) → size shape ≤ largest_of s
largest_bound [] dest shape c = let lt = c.1 in absurd (omega arith)
largest_bound (x ∷ s) dest shape c = by_place c.0 c.1 c.2 (λ more. largest_bound s dest shape more) where
  by_place : (k : ℕ) → k < length (x ∷ s) → slice_index_or (x ∷ s) k (statement.New dest shape) ≡ statement.New dest shape → (Contains s (statement.New dest shape) → size shape ≤ largest_of s) → size shape ≤ largest_of (x ∷ s)
  by_place zero lt e bound = let same : words_of x ≡ size shape = ap words_of e in omega (arith, same)
  by_place (suc k) lt e bound = let more = bound (k, (let l : k < length s = omega arith in l), e) in omega (arith, more)

further : (x : Statement) (s : List Statement) (n m : ℕ) → n ≡ m → Makes s n → Makes (x ∷ s) m
further x s n m e h = record { dest = h.dest; shape = h.shape; there = (suc h.there.0, (let lt : h.there.0 < length s = h.there.1 in omega arith), h.there.2); sized = h.sized ∙ e }

first_made : (x : Statement) (s : List Statement) → 0 < words_of x → Makes (x ∷ s) (words_of x)
first_made (statement.New dest shape) s some = record { dest = dest; shape = shape; there = (0, omega arith, refl); sized = refl }
first_made x s some = absurd (omega arith)

largest_made : (s : List Statement) → (largest_of s ≡ 0) ⊎ Makes s (largest_of s)
largest_made [] = inl refl
largest_made (x ∷ s) =
    elim (cases_lt (largest_of s) (words_of x)) [
      | inl lt ↦ (let same : words_of x ≡ max (words_of x) (largest_of s) = omega arith in inr (subst (Makes (x ∷ s)) same (first_made x s (omega arith))))
      | inr le ↦ (
          let same : largest_of s ≡ max (words_of x) (largest_of s) = omega arith in
          elim (largest_made s) [
            | inl none ↦ inl (sym same ∙ none)
            | inr m ↦ inr (further x s (largest_of s) (largest_of (x ∷ s)) same m)
          ])
    ]

pub largest_is : (s : List Statement) → IsGreatestMade s (largest_of s)
largest_is s = record { bound = λ m h. subst (λ (n : ℕ). n ≤ largest_of s) h.sized (largest_bound s h.dest h.shape h.there); made = largest_made s }

-- ---- what is told

told_by : (n m : ℕ) (b : Bool) → nat_le n (2 ^ 24) ≡ b → ((let o : Option ℕ = cond b (Some n) None in o) ≡ Some m) ↔ ((n ≡ m) × (n ≤ 16777216))
told_by n m true e = (λ s. ((let same : n ≡ m = cc in same), grind (arith, nat_tests, e)), λ h. ap Some h.0)
told_by n m false e = (λ s. absurd cc, λ h. absurd (grind (arith, nat_tests, e)))

pub told_is : (n m : ℕ) → (told n ≡ Some m) ↔ ((n ≡ m) × (n ≤ 16777216))
told_is n m = told_by n m (nat_le n (2 ^ 24)) refl

untold_by : (n : ℕ) (b : Bool) → nat_le n (2 ^ 24) ≡ b → ((let o : Option ℕ = cond b (Some n) None in o) ≡ None) ↔ (16777216 < n)
untold_by n true e = (λ s. absurd cc, λ h. absurd (grind (arith, nat_tests, e)))
untold_by n false e = (λ s. grind (arith, nat_tests, e), λ h. refl)

pub untold_is : (n : ℕ) → (told n ≡ None) ↔ (16777216 < n)
untold_is n = untold_by n (nat_le n (2 ^ 24)) refl
