-- A walk takes no more than its script costs: what is left falls with each step by what the step takes.
use Rattle.std.proofs.Common.{◌≡◌, ℕ, suc, zero, ◌+◌, ◌-◌, ◌*◌, ◌<◌, ◌≤◌, Bool, true, false, cond, List, [], ◌∷◌, length, drop, get_or, Result, Ok, Option, Some, None, refl, sym, ap, ◌∙◌, subst, arith, inl, inr}
use Rattle.std.specs.Prelude.{slice_get, slice_index, slice_set, nat_lt, replicate, unwrap_or}
use Rattle.std.proofs.lemmas.Bool.{cases_lt}
use Rattle.std.proofs.lemmas.Bool.Decides.{nat_tests}
use Rattle.std.proofs.lemmas.Grind.{common_steps}
use Rattle.std.proofs.lemmas.List.{drop_more, drop_all, length-set}
use Rattle.std.proofs.Math.Nat.{mul-le-mul_right}
use Rattle.hk_words.specs.declared.call.Reply.{Reply}
use Rattle.hk_script.specs.declared.beyond.Beyond.{Beyond}
use Rattle.hk_script.specs.declared.blocks.Open.{Open}
use Rattle.hk_script.specs.declared.blocks.Part.{Part}
use Rattle.hk_script.specs.declared.blocks.Part.TheVariants as part
use Rattle.hk_script.specs.declared.error.Fault.{Fault}
use Rattle.hk_script.specs.declared.error.Fault.TheVariants as fault
use Rattle.hk_script.specs.declared.linking.Around.{Around}
use Rattle.hk_script.specs.declared.linking.Link.{Link}
use Rattle.hk_script.specs.declared.limits.Limits.{Limits}
use Rattle.hk_script.specs.declared.statement.Statement.{Statement}
use Rattle.hk_script.specs.declared.statement.Statement.TheVariants as statement
use Rattle.hk_script.specs.declared.statement.Test.{Test}
use Rattle.hk_script.specs.declared.statement.Test.TheVariants as test
use Rattle.hk_script.specs.declared.walk.Need.{Need}
use Rattle.hk_script.specs.declared.walk.Walk.{Walk}
use Rattle.hk_script.specs.Again.{again_by}
use Rattle.hk_script.specs.Blocks.{open_block, begun, parted_by, parted, ended, nest, nested, IsScript}
use Rattle.hk_script.specs.Cost.{Ahead, beyond, nearest, outer_of, in_front, ahead, ticks_of, words_of, greatest_ticks, greatest_words}
use Rattle.hk_script.specs.Links.{around, left_open, arounds, Ways, leads, link}
use Rattle.hk_script.specs.Walks.{IsStop, link_at, at, after_set, holds, turned, stepped, moved, walk_after, started, need_of, need_at, need_in, Fits, Answers}
use Rattle.hk_script.specs.Left.{statement_at, open_at, count_of, following, turns_left, turns_left_by, all_turns_left, part_left_by, part_left, left_at, ticks_left, words_left}
use Rattle.hk_script.specs.Runs.{taken_by, AreReplies, taken, need_ticks, need_words}
use Rattle.hk_script.proofs.Arguments.{ok_is, passed_or}
use Rattle.hk_script.proofs.Totals.{ahead_more, count_ahead, nest_few}
use Rattle.hk_script.proofs.Linked.{nests_first, all_around, length-arounds, ways_at, ways_more, ways_end}
use Rattle.hk_script.proofs.Stops.{get_here, get_past, nothing_around, link_is, wanted_within, keeps_fitting, started_fits, item_past}

same_item : (s : List Statement) (p : ℕ) → p < length s → statement_at s p ≡ get_or s p (statement_at s p)
same_item [] p lt = absurd (omega arith)
same_item (x ∷ s) zero lt = refl
same_item (x ∷ s) (suc p) lt = same_item s p (omega arith)

-- the blocks behind a statement of a script
pub record Opened (s : List Statement) (p : ℕ) : Type 0 where
  pub nests : nest p (open_at s p) (statement_at s p) ≡ Ok (open_at s (p + 1))
  pub follows : nested (p + 1) (open_at s (p + 1)) (drop (p + 1) s) ≡ Ok []

pub opened_by : (s : List Statement) (p : ℕ) → p < length s → nested p (open_at s p) (drop p s) ≡ Ok [] → Opened s p
unfolding open_at
opened_by s p lt n =
    let f = nests_first p (open_at s p) s p (statement_at s p) lt (same_item s p lt) n in
    let next : p + 1 ≡ suc p = omega arith in
    let is : open_at s (p + 1) ≡ f.0 = ap (open_at s) next ∙ ap left_open f.1 in
    record { nests = rw is f.1; follows = rw is f.2 }

pub follows_at : {limits : Limits} (s : List Statement) (p : ℕ) → IsScript limits s → p ≤ length s → nested p (open_at s p) (drop p s) ≡ Ok []
unfolding open_at
follows_at s zero h le = h.blocks
follows_at s (suc p) h le =
    let o = opened_by s p (omega arith) (follows_at s p h (omega arith)) in
    let next : p + 1 ≡ suc p = omega arith in
    subst (λ (n : ℕ). nested n (open_at s n) (drop n s) ≡ Ok []) next o.follows

-- what is around the statements from a place on
around_at : (s : List Statement) (p : ℕ) → p ≤ length s → drop p (all_around s) ≡ arounds (open_at s p) p (drop p s)
unfolding open_at
around_at s zero le = refl
around_at s (suc p) le =
    let lt : p < length s = omega arith in
    let next : p + 1 ≡ suc p = omega arith in
    let first = drop_more (all_around s) p nothing_around (omega (arith, length-arounds [] 0 s)) in
    let cut = drop_more s p statement.End lt in
    let both = sym first ∙ around_at s p (omega arith) ∙ ap (arounds (open_at s p) p) cut in
    let tail : drop (p + 1) (all_around s) ≡ arounds (left_open (nest p (open_at s p) (statement_at s p))) (p + 1) (drop (p + 1) s) = cc in
    subst (λ (n : ℕ). drop n (all_around s) ≡ arounds (left_open (nest p (open_at s p) (statement_at s p))) n (drop n s)) next tail

pub around_is : (s : List Statement) (p : ℕ) → p < length s → get_or (all_around s) p nothing_around ≡ around (open_at s p)
around_is s p lt =
    let first = drop_more (all_around s) p nothing_around (omega (arith, length-arounds [] 0 s)) in
    let cut = drop_more s p statement.End lt in
    let both = sym first ∙ around_at s p (omega arith) ∙ ap (arounds (open_at s p) p) cut in
    cc

-- ---- numbers and counters

pub index_other : (ts : List ℕ) (level k v : ℕ) → k < level → slice_index (slice_set ts level v) k ≡ slice_index ts k
index_other ts level k v lt = grind (arith, common_steps)

pub index_same : (ts : List ℕ) (level v : ℕ) → level < length ts → slice_index (slice_set ts level v) level ≡ v
index_same ts level v lt = grind (arith, common_steps)

one_turn : (n t m : ℕ) → t < n → (n - t) * m ≡ (n - (t + 1)) * m + m
one_turn n t m lt =
    let e : n - t ≡ (n - (t + 1)) + 1 = omega arith in
    ap (λ (j : ℕ). j * m) e ∙ distributes (n - (t + 1)) m where
      distributes : (j m : ℕ) → (j + 1) * m ≡ j * m + m
      distributes j m = omega arith

open_few : {limits : Limits} (s : List Statement) (p : ℕ) → IsScript limits s → p ≤ length s → length (open_at s p) ≤ 16
unfolding open_at
open_few s zero h le = omega arith
open_few s (suc p) h le =
    let o = opened_by s p (omega arith) (follows_at s p h (omega arith)) in
    let next : p + 1 ≡ suc p = omega arith in
    let few = nest_few p (statement_at s p) (open_at s p) (open_at s (p + 1)) o.nests (open_few s p h (omega arith)) in
    subst (λ (n : ℕ). length (open_at s n) ≤ 16) next few

set_length : (w : Walk) (r : Reply) (x : Statement) → (after_set w r x).turns ≡ w.turns
set_length w r (statement.Set v n) = refl
set_length w r (statement.Copy v u) = refl
set_length w r (statement.Add v u) = refl
set_length w r (statement.Sub v u) = refl
set_length w r (statement.Job v) = refl
set_length w r (statement.Get v o f) = refl
set_length w r x = refl

stepped_length : (l : Link) (w : Walk) (r : Reply) (x : Statement) → length (stepped l w r x).turns ≡ length w.turns
stepped_length l w r (statement.If t) = by_test (holds t w r) where
  by_test : (b : Bool) → length (cond b (at l.on w) (at l.past w)).turns ≡ length w.turns
  by_test true = refl
  by_test false = refl
stepped_length l w r (statement.Repeat n) = by_test (nat_lt (slice_index w.turns l.level) n) where
  by_test : (b : Bool) → length (cond b (record w { place = l.on; turns = slice_set w.turns l.level (slice_index w.turns l.level + 1) }) (record w { place = l.past; turns = slice_set w.turns l.level 0 })).turns ≡ length w.turns
  by_test true = length-set w.turns l.level (slice_index w.turns l.level + 1)
  by_test false = length-set w.turns l.level 0
stepped_length l w r statement.Else = refl
stepped_length l w r statement.End = refl
stepped_length l w r x = ap length (set_length w r x)

after_length : (s : List Statement) (w : Walk) (r : Reply) → length (walk_after s w r).turns ≡ length w.turns
unfolding walk_after
after_length s w r = by_get (slice_get s w.place) where
  by_get : (o : Option Statement) → length (moved (link_at s w.place) w r o).turns ≡ length w.turns
  by_get None = refl
  by_get (Some x) = stepped_length (link_at s w.place) w r x

-- ---- what is left

after_split : (bs : List Beyond) → following bs ≡ (nearest bs).after + following (outer_of bs)
unfolding following
after_split [] = refl
after_split (b ∷ bs) = refl

after_cons : (b : Beyond) (bs : List Beyond) → following (b ∷ bs) ≡ b.after + following bs
unfolding following
after_cons b bs = refl

module _ (weight : Statement → ℕ) (s : List Statement) where
  abbrev A : ℕ → Ahead
  A p = ahead weight (drop p s)

  -- the definitions, for this weight and these statements
  abbrev remaining : ℕ → ℕ → ℕ
  remaining p t = turns_left weight s p t

  abbrev loop_of : Part → ℕ → ℕ → ℕ
  loop_of q m t = turns_left_by weight s q m t

  abbrev loops : List Open → List ℕ → ℕ
  loops o ts = all_turns_left weight s o ts

  abbrev current_in : Statement → ℕ → List ℕ → ℕ
  current_in x p ts = part_left_by weight s x p ts

  abbrev current : ℕ → List ℕ → ℕ
  current p ts = part_left weight s p ts

  abbrev left : ℕ → List ℕ → ℕ
  left p ts = left_at weight s p ts

  current_le : (p : ℕ) (ts : List ℕ) → p < length s → current p ts ≤ (A p).here
  unfolding turns_left
  current_le p ts lt = by_item (statement_at s p) refl where
    by_item : (x : Statement) → statement_at s p ≡ x → current_in x p ts ≤ (A p).here
    by_item (statement.Repeat n) e =
        let t = slice_index ts (length (open_at s p)) in
        let w = weight (statement.Repeat n) in
        let body = (A (p + 1)).here in
        let more : (n - t) * (w + body) ≤ n * (w + body) = mul-le-mul_right (w + body) (omega arith) in
        let here : (A p).here ≡ n * (w + body) + w + (nearest (A (p + 1)).blocks).after = ap (λ (a : Ahead). a.here) (ahead_more weight s p statement.End lt) ∙ ap (λ (y : Statement). (in_front (weight y) y (A (p + 1))).here) e in
        let is : remaining p t ≡ (n - t) * (w + body) + w = ap (λ (y : Statement). (count_of y - t) * (weight y + body) + weight y) e in
        omega (arith, more, here, is)
    by_item (statement.Work n) e = omega arith
    by_item (statement.Set v n) e = omega arith
    by_item (statement.Copy v u) e = omega arith
    by_item (statement.Add v u) e = omega arith
    by_item (statement.Sub v u) e = omega arith
    by_item (statement.Job v) e = omega arith
    by_item (statement.Out v) e = omega arith
    by_item (statement.Get v r f) e = omega arith
    by_item (statement.Put r f v) e = omega arith
    by_item (statement.Load d r f) e = omega arith
    by_item (statement.Store r f t) e = omega arith
    by_item (statement.Move d r) e = omega arith
    by_item (statement.Clear d) e = omega arith
    by_item (statement.New d z) e = omega arith
    by_item (statement.If t) e = omega arith
    by_item statement.Else e = omega arith
    by_item statement.End e = omega arith

  left_le : (p : ℕ) (ts : List ℕ) → p ≤ length s → left p ts ≤ (A p).here + following (A p).blocks + loops (open_at s p) ts
  left_le p ts le =
      elim (cases_lt p (length s)) [
        | inl lt ↦ (let c = current_le p ts lt in omega (arith, c))
        | inr past ↦ (
            let item : statement_at s p ≡ statement.End = item_past s p past in
            let c : current p ts ≡ (A p).here = ap (λ (y : Statement). current_in y p ts) item in
            omega (arith, c))
      ]

  -- ---- the blocks that are open and those that lie ahead are the same

  abbrev IsLoop : Part → ℕ → Type 0
  IsLoop part.Turns m = (n : ℕ) × (statement_at s m ≡ statement.Repeat n)
  IsLoop part.Then m = Unit {0}
  IsLoop part.Otherwise m = Unit {0}

  record Tied (b : Open) (outer : List Open) (bs : List Beyond) : Type 0 where
    opened : open_at s b.mark ≡ outer
    after : (nearest (A (b.mark + 1)).blocks).after ≡ (nearest bs).after
    blocks : (A b.mark).blocks ≡ outer_of bs
    loop : IsLoop b.part b.mark

  abbrev Linked : List Open → List Beyond → Type 0
  Linked [] bs = Unit {0}
  Linked (b ∷ outer) bs = Tied b outer bs × Linked outer (outer_of bs)

  linked_begun : (q : Part) (p : ℕ) (after : List Open) (bs : List Beyond) → begun q p (open_at s p) ≡ Ok after → (A p).blocks ≡ outer_of (A (p + 1)).blocks → IsLoop q p → Linked (open_at s p) (A p).blocks → Linked after (A (p + 1)).blocks
  linked_begun q p after bs e a loop h =
      let m = passed_or (nat_lt (length (open_at s p)) 16) fault.Deep (open_block q p ∷ open_at s p) after e in
      subst (λ (o : List Open). Linked o (A (p + 1)).blocks) m.1
      (record { opened = refl; after = refl; blocks = a; loop = loop }, subst (λ (t : List Beyond). Linked (open_at s p) t) a h)

  linked_parted : (o after : List Open) (here : ℕ) (bs as' : List Beyond) → parted o ≡ Ok after → as' ≡ beyond here (nearest bs).after ∷ outer_of bs → Linked o as' → Linked after bs
  linked_parted [] after here bs as' e a h = absurd cc
  linked_parted (b ∷ outer) after here bs as' e a h = by_part b.part refl where
    by_part : (q : Part) → b.part ≡ q → Linked after bs
    by_part part.Then i =
        let f : parted_by part.Then b.mark outer ≡ Ok after = rw i at e in
        let m = ok_is (open_block part.Otherwise b.mark ∷ outer) after f in
        let g = subst (λ (t : List Beyond). Linked (b ∷ outer) t) a h in
        subst (λ (t : List Open). Linked t bs) m (record { opened = g.0.opened; after = g.0.after; blocks = g.0.blocks; loop = tt }, g.1)
    by_part part.Otherwise i = let f : parted_by part.Otherwise b.mark outer ≡ Ok after = rw i at e in absurd cc
    by_part part.Turns i = let f : parted_by part.Turns b.mark outer ≡ Ok after = rw i at e in absurd cc

  linked_ended : (o after : List Open) (here : ℕ) (bs as' : List Beyond) → ended o ≡ Ok after → as' ≡ beyond 0 here ∷ bs → Linked o as' → Linked after bs
  linked_ended [] after here bs as' e a h = absurd cc
  linked_ended (b ∷ outer) after here bs as' e a h =
      let m = ok_is outer after e in
      let g = subst (λ (t : List Beyond). Linked (b ∷ outer) t) a h in
      subst (λ (t : List Open). Linked t bs) m g.1

  linked_kept : (o after : List Open) (bs as' : List Beyond) → (let r : Result (List Open) Fault = Ok o in r) ≡ Ok after → as' ≡ bs → Linked o as' → Linked after bs
  linked_kept o after bs as' e a h = subst (λ (t : List Open). Linked t bs) (ok_is o after e) (subst (λ (t : List Beyond). Linked o t) a h)

  linked_step : (p : ℕ) (x : Statement) (after : List Open) → statement_at s p ≡ x → nest p (open_at s p) x ≡ Ok after → (A p).blocks ≡ (in_front (weight x) x (A (p + 1))).blocks → Linked (open_at s p) (A p).blocks → Linked after (A (p + 1)).blocks
  unfolding nest
  linked_step p (statement.If t) after is e a h = linked_begun part.Then p after (A p).blocks e a tt h
  linked_step p (statement.Repeat n) after is e a h = linked_begun part.Turns p after (A p).blocks e a (n, is) h
  linked_step p statement.Else after is e a h = linked_parted (open_at s p) after (A (p + 1)).here (A (p + 1)).blocks (A p).blocks e a h
  linked_step p statement.End after is e a h = linked_ended (open_at s p) after (A (p + 1)).here (A (p + 1)).blocks (A p).blocks e a h
  linked_step p x after is e a h = linked_kept (open_at s p) after (A (p + 1)).blocks (A p).blocks e a h

  linked_at : {limits : Limits} (p : ℕ) → IsScript limits s → p ≤ length s → Linked (open_at s p) (A p).blocks
  unfolding open_at
  linked_at zero h le = tt
  linked_at (suc p) h le =
      let lt : p < length s = omega arith in
      let o = opened_by s p lt (follows_at s p h (omega arith)) in
      let a = ap (λ (t : Ahead). t.blocks) (ahead_more weight s p statement.End lt) in
      let next : p + 1 ≡ suc p = omega arith in
      let r = linked_step p (statement_at s p) (open_at s (p + 1)) refl o.nests a (linked_at p h (omega arith)) in
      subst (λ (n : ℕ). Linked (open_at s n) (A n).blocks) next r

  -- ---- where the ways lead, no more is left

  abbrev OtherLeft : Part → ℕ → ℕ → ℕ → List Open → List ℕ → Type 0
  OtherLeft part.Then place other rest outer ts = left place ts ≤ other + rest + loops outer ts
  OtherLeft part.Otherwise place other rest outer ts = Unit {0}
  OtherLeft part.Turns place other rest outer ts = Unit {0}

  record Pair (b : Open) (outer : List Open) (ps bs : List Beyond) (ts : List ℕ) : Type 0 where
    after : left (nearest ps).after ts ≤ (nearest bs).after + following (outer_of bs) + loops outer ts
    other : OtherLeft b.part (nearest ps).other (nearest bs).other ((nearest bs).after + following (outer_of bs)) outer ts

  abbrev Paired : List Open → List Beyond → List Beyond → List ℕ → Type 0
  Paired [] ps bs ts = Unit {0}
  Paired (b ∷ outer) ps bs ts = Pair b outer ps bs ts × Paired outer (outer_of ps) (outer_of bs) ts

  -- what holds of the ways from a place on
  record Leads (o : List Open) (w : Ways) (a : Ahead) (p : ℕ) (ts : List ℕ) : Type 0 where
    on : left w.on ts ≤ left p ts
    pairs : Paired o w.blocks a.blocks ts

  loops_cons : (b : Open) (outer : List Open) (ts : List ℕ) → loops (b ∷ outer) ts ≡ loop_of b.part b.mark (slice_index ts (length outer)) + loops outer ts
  unfolding all_turns_left
  loops_cons b outer ts = refl

  loops_by : (b : Open) (outer : List Open) (ts : List ℕ) (q : Part) → b.part ≡ q → loops (b ∷ outer) ts ≡ loop_of q b.mark (slice_index ts (length outer)) + loops outer ts
  loops_by b outer ts q i = loops_cons b outer ts ∙ ap (λ (t : Part). loop_of t b.mark (slice_index ts (length outer)) + loops outer ts) i

  leads_end : {limits : Limits} → IsScript limits s → (p : ℕ) → p ≡ length s → (ts : List ℕ) → Leads (open_at s p) (ways_at s p) (A p) p ts
  leads_end h p e ts =
      let none : drop p s ≡ [] = drop_all p s (omega arith) in
      let f : nested p (open_at s p) [] ≡ Ok [] = subst (λ (t : List Statement). nested p (open_at s p) t ≡ Ok []) none (follows_at s p h (omega arith)) in
      let o : open_at s p ≡ [] = ok_is (open_at s p) [] f in
      let w = ways_end s p e in
      record {
        on = subst (λ (t : Ways). left t.on ts ≤ left p ts) w (omega arith);
        pairs = subst (λ (t : List Open). Paired t (ways_at s p).blocks (A p).blocks ts) (sym o) tt;
      }

  leads_begun : (q : Part) (p : ℕ) (ts : List ℕ) → begun q p (open_at s p) ≡ Ok (open_at s (p + 1)) → (A p).blocks ≡ outer_of (A (p + 1)).blocks → Leads (open_at s (p + 1)) (ways_at s (p + 1)) (A (p + 1)) (p + 1) ts → Paired (open_at s p) (outer_of (ways_at s (p + 1)).blocks) (A p).blocks ts
  leads_begun q p ts e a h =
      let m = passed_or (nat_lt (length (open_at s p)) 16) fault.Deep (open_block q p ∷ open_at s p) (open_at s (p + 1)) e in
      let g = subst (λ (t : List Open). Paired t (ways_at s (p + 1)).blocks (A (p + 1)).blocks ts) (sym m.1) h.pairs in
      subst (λ (t : List Beyond). Paired (open_at s p) (outer_of (ways_at s (p + 1)).blocks) t ts) (sym a) g.1

  leads_parted : (p : ℕ) (ts : List ℕ) (o : List Open) → p < length s → open_at s p ≡ o → statement_at s p ≡ statement.Else → parted o ≡ Ok (open_at s (p + 1)) → A p ≡ in_front (weight statement.Else) statement.Else (A (p + 1)) → Leads (open_at s (p + 1)) (ways_at s (p + 1)) (A (p + 1)) (p + 1) ts → Leads o (leads (around o) p statement.Else (ways_at s (p + 1))) (A p) p ts
  leads_parted p ts [] lt oe is e a h = absurd cc
  leads_parted p ts (b ∷ outer) lt oe is e a h = by_part b.part refl where
    by_part : (q : Part) → b.part ≡ q → Leads (b ∷ outer) (leads (around (b ∷ outer)) p statement.Else (ways_at s (p + 1))) (A p) p ts
    by_part part.Then i =
        let w = ways_at s (p + 1) in
        let next = A (p + 1) in
        let f : parted_by part.Then b.mark outer ≡ Ok (open_at s (p + 1)) = rw i at e in
        let m = ok_is (open_block part.Otherwise b.mark ∷ outer) (open_at s (p + 1)) f in
        let g = subst (λ (t : List Open). Paired t w.blocks next.blocks ts) (sym m) h.pairs in
        let c : current p ts ≡ (A p).here = ap (λ (y : Statement). current_in y p ts) is in
        let here : (A p).here ≡ 0 = ap (λ (t : Ahead). t.here) a in
        let bl : (A p).blocks ≡ beyond next.here (nearest next.blocks).after ∷ outer_of next.blocks = ap (λ (t : Ahead). t.blocks) a in
        let sum = ap following bl ∙ after_cons (beyond next.here (nearest next.blocks).after) (outer_of next.blocks) in
        let lo = ap (λ (t : List Open). loops t ts) oe ∙ loops_by b outer ts part.Then i in
        let first = g.0.after in
        let on : left (nearest w.blocks).after ts ≤ left p ts = omega (arith, first, c, here, sum, lo) in
        let most = left_le (p + 1) ts (omega arith) in
        let lo' = ap (λ (t : List Open). loops t ts) (sym m) ∙ loops_cons (open_block part.Otherwise b.mark) outer ts in
        let split = after_split next.blocks in
        let before = h.on in
        let other : left w.on ts ≤ next.here + ((nearest next.blocks).after + following (outer_of next.blocks)) + loops outer ts = omega (arith, before, most, lo', split) in
        let other' = subst (λ (t : Part). OtherLeft t w.on next.here ((nearest next.blocks).after + following (outer_of next.blocks)) outer ts) (sym i) other in
        record { on = on; pairs = subst (λ (t : List Beyond). Paired (b ∷ outer) (beyond w.on (nearest w.blocks).after ∷ outer_of w.blocks) t ts) (sym bl) (record { after = first; other = other' }, g.1) }
    by_part part.Otherwise i = let f : parted_by part.Otherwise b.mark outer ≡ Ok (open_at s (p + 1)) = rw i at e in absurd cc
    by_part part.Turns i = let f : parted_by part.Turns b.mark outer ≡ Ok (open_at s (p + 1)) = rw i at e in absurd cc

  leads_ended : (p : ℕ) (ts : List ℕ) (o : List Open) → p < length s → open_at s p ≡ o → statement_at s p ≡ statement.End → ended o ≡ Ok (open_at s (p + 1)) → A p ≡ in_front (weight statement.End) statement.End (A (p + 1)) → Linked o (A p).blocks → Leads (open_at s (p + 1)) (ways_at s (p + 1)) (A (p + 1)) (p + 1) ts → Leads o (leads (around o) p statement.End (ways_at s (p + 1))) (A p) p ts
  leads_ended p ts [] lt oe is e a tied h = absurd cc
  leads_ended p ts (b ∷ outer) lt oe is e a tied h =
      let w = ways_at s (p + 1) in
      let next = A (p + 1) in
      let m = ok_is outer (open_at s (p + 1)) e in
      let g = subst (λ (t : List Open). Paired t w.blocks next.blocks ts) (sym m) h.pairs in
      let bl : (A p).blocks ≡ beyond 0 next.here ∷ next.blocks = ap (λ (t : Ahead). t.blocks) a in
      let most = left_le (p + 1) ts (omega arith) in
      let lo' = ap (λ (t : List Open). loops t ts) (sym m) in
      let before = h.on in
      let after : left w.on ts ≤ next.here + following next.blocks + loops outer ts = omega (arith, before, most, lo') in
      let pair : Pair b outer (beyond w.on w.on ∷ w.blocks) (beyond 0 next.here ∷ next.blocks) ts = record { after = after; other = others b.part after } in
      record { on = back b.part refl after; pairs = subst (λ (t : List Beyond). Paired (b ∷ outer) (beyond w.on w.on ∷ w.blocks) t ts) (sym bl) (pair, g) }
    where
      others : (q : Part) → left (ways_at s (p + 1)).on ts ≤ (A (p + 1)).here + following (A (p + 1)).blocks + loops outer ts → OtherLeft q (ways_at s (p + 1)).on 0 ((A (p + 1)).here + following (A (p + 1)).blocks) outer ts
      others part.Then n = omega (arith, n)
      others part.Otherwise n = tt
      others part.Turns n = tt

      here_is : left p ts ≡ (A (p + 1)).here + following (A (p + 1)).blocks + loops (b ∷ outer) ts
      here_is =
          let c : current p ts ≡ (A p).here = ap (λ (y : Statement). current_in y p ts) is in
          let none : (A p).here ≡ 0 = ap (λ (t : Ahead). t.here) a in
          let bl : (A p).blocks ≡ beyond 0 (A (p + 1)).here ∷ (A (p + 1)).blocks = ap (λ (t : Ahead). t.blocks) a in
          let sum = ap following bl ∙ after_cons (beyond 0 (A (p + 1)).here) (A (p + 1)).blocks in
          let lo = ap (λ (t : List Open). loops t ts) oe in
          omega (arith, c, none, sum, lo)

      back : (q : Part) → b.part ≡ q → left (ways_at s (p + 1)).on ts ≤ (A (p + 1)).here + following (A (p + 1)).blocks + loops outer ts → left (unwrap_or (again_by b.part b.mark) (ways_at s (p + 1)).on) ts ≤ left p ts
      back part.Then i n =
          let lo = loops_by b outer ts part.Then i in
          let goes : left (ways_at s (p + 1)).on ts ≤ left p ts = omega (arith, n, here_is, lo) in
          subst (λ (t : Part). left (unwrap_or (again_by t b.mark) (ways_at s (p + 1)).on) ts ≤ left p ts) (sym i) goes
      back part.Otherwise i n =
          let lo = loops_by b outer ts part.Otherwise i in
          let goes : left (ways_at s (p + 1)).on ts ≤ left p ts = omega (arith, n, here_is, lo) in
          subst (λ (t : Part). left (unwrap_or (again_by t b.mark) (ways_at s (p + 1)).on) ts ≤ left p ts) (sym i) goes
      back part.Turns i n =
          let q = b.mark in
          let tie = tied.0 in
          let bl : (A p).blocks ≡ beyond 0 (A (p + 1)).here ∷ (A (p + 1)).blocks = ap (λ (t : Ahead). t.blocks) a in
          let loop : IsLoop part.Turns q = subst (λ (t : Part). IsLoop t q) i tie.loop in
          let c : current q ts ≡ remaining q (slice_index ts (length (open_at s q))) + (nearest (A (q + 1)).blocks).after = ap (λ (y : Statement). current_in y q ts) loop.1 in
          let level : remaining q (slice_index ts (length (open_at s q))) ≡ remaining q (slice_index ts (length outer)) = ap (λ (t : List Open). remaining q (slice_index ts (length t))) tie.opened in
          let follows : (nearest (A (q + 1)).blocks).after ≡ (A (p + 1)).here = tie.after ∙ ap (λ (t : List Beyond). (nearest t).after) bl in
          let sums : following (A q).blocks ≡ following (A (p + 1)).blocks = ap following (tie.blocks ∙ ap outer_of bl) in
          let around_loop : loops (open_at s q) ts ≡ loops outer ts = ap (λ (t : List Open). loops t ts) tie.opened in
          let lo = loops_by b outer ts part.Turns i in
          let goes : left q ts ≤ left p ts = omega (arith, c, level, follows, sums, around_loop, lo, here_is) in
          subst (λ (t : Part). left (unwrap_or (again_by t b.mark) (ways_at s (p + 1)).on) ts ≤ left p ts) (sym i) goes

  leads_kept : (p : ℕ) (ts : List ℕ) → (let r : Result (List Open) Fault = Ok (open_at s p) in r) ≡ Ok (open_at s (p + 1)) → (A p).blocks ≡ (A (p + 1)).blocks → Leads (open_at s (p + 1)) (ways_at s (p + 1)) (A (p + 1)) (p + 1) ts → Paired (open_at s p) (ways_at s (p + 1)).blocks (A p).blocks ts
  leads_kept p ts e a h =
      let m = ok_is (open_at s p) (open_at s (p + 1)) e in
      subst (λ (t : List Beyond). Paired (open_at s p) (ways_at s (p + 1)).blocks t ts) (sym a) (subst (λ (t : List Open). Paired t (ways_at s (p + 1)).blocks (A (p + 1)).blocks ts) (sym m) h.pairs)

  leads_step : (p : ℕ) (ts : List ℕ) (x : Statement) → p < length s → statement_at s p ≡ x → nest p (open_at s p) x ≡ Ok (open_at s (p + 1)) → A p ≡ in_front (weight x) x (A (p + 1)) → Linked (open_at s p) (A p).blocks → Leads (open_at s (p + 1)) (ways_at s (p + 1)) (A (p + 1)) (p + 1) ts → Leads (open_at s p) (leads (around (open_at s p)) p x (ways_at s (p + 1))) (A p) p ts
  unfolding nest
  leads_step p ts (statement.If t) lt is e a tied h = record { on = omega arith; pairs = leads_begun part.Then p ts e (ap (λ (k : Ahead). k.blocks) a) h }
  leads_step p ts (statement.Repeat n) lt is e a tied h = record { on = omega arith; pairs = leads_begun part.Turns p ts e (ap (λ (k : Ahead). k.blocks) a) h }
  leads_step p ts statement.Else lt is e a tied h = leads_parted p ts (open_at s p) lt refl is e a h
  leads_step p ts statement.End lt is e a tied h = leads_ended p ts (open_at s p) lt refl is e a tied h
  leads_step p ts x lt is e a tied h = record { on = omega arith; pairs = leads_kept p ts e (ap (λ (k : Ahead). k.blocks) a) h }

  leads_at : {limits : Limits} → IsScript limits s → (k p : ℕ) → p + k ≡ length s → (ts : List ℕ) → Leads (open_at s p) (ways_at s p) (A p) p ts
  leads_at h zero p e ts = leads_end h p (omega arith) ts
  leads_at h (suc k) p e ts =
      let lt : p < length s = omega arith in
      let o = opened_by s p lt (follows_at s p h (omega arith)) in
      let w = ways_more s p statement.End nothing_around lt ∙ ap (λ (t : Around). leads t p (statement_at s p) (ways_at s (p + 1))) (around_is s p lt) in
      let r = leads_step p ts (statement_at s p) lt refl o.nests (ahead_more weight s p statement.End lt) (linked_at p h (omega arith)) (leads_at h k (p + 1) (omega arith) ts) in
      subst (λ (t : Ways). Leads (open_at s p) t (A p) p ts) (sym w) r

  -- ---- a step takes what it takes off what is left

  -- after a set at a level, the levels below it are as they were
  loops_set : (o : List Open) (ts : List ℕ) (level v : ℕ) → length o ≤ level → loops o (slice_set ts level v) ≡ loops o ts
  unfolding all_turns_left
  loops_set [] ts level v le = refl
  loops_set (b ∷ outer) ts level v le =
      let same : slice_index (slice_set ts level v) (length outer) ≡ slice_index ts (length outer) = index_other ts level (length outer) v (omega arith) in
      let rest = loops_set outer ts level v (omega arith) in
      ap (λ (n : ℕ). loop_of b.part b.mark n + loops outer (slice_set ts level v)) same ∙ ap (λ (n : ℕ). loop_of b.part b.mark (slice_index ts (length outer)) + n) rest

  -- what is left behind a statement
  left_on : {limits : Limits} → IsScript limits s → (p : ℕ) → p < length s → (ts : List ℕ) → left (ways_at s (p + 1)).on ts ≤ (A (p + 1)).here + following (A (p + 1)).blocks + loops (open_at s (p + 1)) ts
  left_on h p lt ts =
      let l = (leads_at h (length s - (p + 1)) (p + 1) (omega arith) ts).on in
      let most = left_le (p + 1) ts (omega arith) in
      omega (arith, l, most)

  -- the innermost block behind a statement that begins one
  left_begun : {limits : Limits} (q : Part) → IsScript limits s → (p : ℕ) → p < length s → begun q p (open_at s p) ≡ Ok (open_at s (p + 1)) → (ts : List ℕ) → (open_block q p ∷ open_at s p ≡ open_at s (p + 1)) × Pair (open_block q p) (open_at s p) (ways_at s (p + 1)).blocks (A (p + 1)).blocks ts
  left_begun q h p lt e ts =
      let m = passed_or (nat_lt (length (open_at s p)) 16) fault.Deep (open_block q p ∷ open_at s p) (open_at s (p + 1)) e in
      let g = subst (λ (t : List Open). Paired t (ways_at s (p + 1)).blocks (A (p + 1)).blocks ts) (sym m.1) (leads_at h (length s - (p + 1)) (p + 1) (omega arith) ts).pairs in
      (m.1, g.0)

  abbrev StepLeft : ℕ → Statement → Walk → Walk → Type 0
  StepLeft p x w new = weight x + left new.place new.turns ≤ left p w.turns

  if_left : {limits : Limits} → IsScript limits s → (p : ℕ) (t : Test) (w : Walk) (r : Reply) (level : ℕ) → p < length s → statement_at s p ≡ statement.If t → nest p (open_at s p) (statement.If t) ≡ Ok (open_at s (p + 1)) → A p ≡ in_front (weight (statement.If t)) (statement.If t) (A (p + 1))
      → StepLeft p (statement.If t) w (stepped (record { on = (ways_at s (p + 1)).on; past = (nearest (ways_at s (p + 1)).blocks).other; level = level }) w r (statement.If t))
  unfolding nest
  if_left h p t w r level lt is e a = by_test (holds t w r) where
    by_test : (b : Bool) → StepLeft p (statement.If t) w (cond b (at (ways_at s (p + 1)).on w) (at (nearest (ways_at s (p + 1)).blocks).other w))
    by_test true =
        let g = left_begun part.Then h p lt e w.turns in
        let on = left_on h p lt w.turns in
        let lo = ap (λ (o : List Open). loops o w.turns) (sym g.0) ∙ loops_cons (open_block part.Then p) (open_at s p) w.turns in
        let split = after_split (A (p + 1)).blocks in
        let c : current p w.turns ≡ (A p).here = ap (λ (y : Statement). current_in y p w.turns) is in
        let here = ap (λ (k : Ahead). k.here) a in
        let sums = ap (λ (k : Ahead). following k.blocks) a in
        omega (arith, on, lo, split, c, here, sums)
    by_test false =
        let g = left_begun part.Then h p lt e w.turns in
        let other = g.1.other in
        let c : current p w.turns ≡ (A p).here = ap (λ (y : Statement). current_in y p w.turns) is in
        let here = ap (λ (k : Ahead). k.here) a in
        let sums = ap (λ (k : Ahead). following k.blocks) a in
        omega (arith, other, c, here, sums)

  repeat_left : {limits : Limits} → IsScript limits s → (p n : ℕ) (w : Walk) → p < length s → statement_at s p ≡ statement.Repeat n → nest p (open_at s p) (statement.Repeat n) ≡ Ok (open_at s (p + 1)) → A p ≡ in_front (weight (statement.Repeat n)) (statement.Repeat n) (A (p + 1)) → length (open_at s p) < length w.turns
      → StepLeft p (statement.Repeat n) w (turned (record { on = (ways_at s (p + 1)).on; past = (nearest (ways_at s (p + 1)).blocks).after; level = length (open_at s p) }) n w)
  unfolding nest turns_left
  repeat_left h p n w lt is e a room = by_test (nat_lt (slice_index w.turns (length (open_at s p))) n) refl where
    by_test : (b : Bool) → nat_lt (slice_index w.turns (length (open_at s p))) n ≡ b → StepLeft p (statement.Repeat n) w (cond b (record w { place = (ways_at s (p + 1)).on; turns = slice_set w.turns (length (open_at s p)) (slice_index w.turns (length (open_at s p)) + 1) }) (record w { place = (nearest (ways_at s (p + 1)).blocks).after; turns = slice_set w.turns (length (open_at s p)) 0 }))
    by_test true test =
        let level = length (open_at s p) in
        let t = slice_index w.turns level in
        let ts = slice_set w.turns level (t + 1) in
        let k = weight (statement.Repeat n) in
        let body = (A (p + 1)).here in
        let below : t < n = grind (arith, nat_tests, test) in
        let g = left_begun part.Turns h p lt e ts in
        let on = left_on h p lt ts in
        let lo = ap (λ (o : List Open). loops o ts) (sym g.0) ∙ loops_cons (open_block part.Turns p) (open_at s p) ts in
        let kept = loops_set (open_at s p) w.turns level (t + 1) (omega arith) in
        let set_here : slice_index ts level ≡ t + 1 = index_same w.turns level (t + 1) room in
        let turns_left : remaining p (slice_index ts level) ≡ (n - (t + 1)) * (k + body) + k = ap (remaining p) set_here ∙ ap (λ (y : Statement). (count_of y - (t + 1)) * (weight y + body) + weight y) is in
        let one_less : (n - t) * (k + body) ≡ (n - (t + 1)) * (k + body) + (k + body) = one_turn n t (k + body) below in
        let split = after_split (A (p + 1)).blocks in
        let c : current p w.turns ≡ remaining p t + (nearest (A (p + 1)).blocks).after = ap (λ (y : Statement). current_in y p w.turns) is in
        let now_left : remaining p t ≡ (n - t) * (k + body) + k = ap (λ (y : Statement). (count_of y - t) * (weight y + body) + weight y) is in
        let sums = ap (λ (q : Ahead). following q.blocks) a in
        omega (arith, on, lo, kept, turns_left, one_less, split, c, now_left, sums)
    by_test false test =
        let level = length (open_at s p) in
        let t = slice_index w.turns level in
        let ts = slice_set w.turns level 0 in
        let k = weight (statement.Repeat n) in
        let body = (A (p + 1)).here in
        let g = left_begun part.Turns h p lt e ts in
        let after = g.1.after in
        let kept = loops_set (open_at s p) w.turns level 0 (omega arith) in
        let c : current p w.turns ≡ remaining p t + (nearest (A (p + 1)).blocks).after = ap (λ (y : Statement). current_in y p w.turns) is in
        let now_left : remaining p t ≡ (n - t) * (k + body) + k = ap (λ (y : Statement). (count_of y - t) * (weight y + body) + weight y) is in
        let sums = ap (λ (q : Ahead). following q.blocks) a in
        omega (arith, after, kept, c, now_left, sums)

  plain_left : {limits : Limits} → IsScript limits s → (p k : ℕ) (ts : List ℕ) → p < length s → (let r : Result (List Open) Fault = Ok (open_at s p) in r) ≡ Ok (open_at s (p + 1)) → (A p).here ≡ k + (A (p + 1)).here → (A p).blocks ≡ (A (p + 1)).blocks → current p ts ≡ (A p).here → k + left (ways_at s (p + 1)).on ts ≤ left p ts
  plain_left h p k ts lt e here sums c =
      let on = left_on h p lt ts in
      let lo = ap (λ (o : List Open). loops o ts) (ok_is (open_at s p) (open_at s (p + 1)) e) in
      let sum = ap following sums in
      omega (arith, on, lo, here, sum, c)

  step_left : {limits : Limits} → IsScript limits s → (p : ℕ) (x : Statement) (w : Walk) (r : Reply) → p < length s → statement_at s p ≡ x → IsStop (Some x) → nest p (open_at s p) x ≡ Ok (open_at s (p + 1)) → A p ≡ in_front (weight x) x (A (p + 1)) → (length (open_at s p) < 16 → length (open_at s p) < length w.turns) → length (open_at s (p + 1)) ≤ 16
      → StepLeft p x w (stepped (link (around (open_at s p)) x (ways_at s (p + 1))) w r x)
  unfolding nest
  step_left h p (statement.If t) w r lt is st e a room few = if_left h p t w r (length (open_at s p)) lt is e a
  step_left h p (statement.Repeat n) w r lt is st e a room few =
      let m = passed_or (nat_lt (length (open_at s p)) 16) fault.Deep (open_block part.Turns p ∷ open_at s p) (open_at s (p + 1)) e in
      let below : length (open_at s p) < 16 = let len = ap length m.1 in omega (arith, len) in
      repeat_left h p n w lt is e a (room below)
  step_left h p statement.Else w r lt is st e a room few = absurd st
  step_left h p statement.End w r lt is st e a room few = absurd st
  step_left h p (statement.Work n) w r lt is st e a room few = plain_left h p (weight (statement.Work n)) w.turns lt e (ap (λ (q : Ahead). q.here) a) (ap (λ (q : Ahead). q.blocks) a) (ap (λ (y : Statement). current_in y p w.turns) is)
  step_left h p (statement.Set v n) w r lt is st e a room few = plain_left h p (weight (statement.Set v n)) w.turns lt e (ap (λ (q : Ahead). q.here) a) (ap (λ (q : Ahead). q.blocks) a) (ap (λ (y : Statement). current_in y p w.turns) is)
  step_left h p (statement.Copy v u) w r lt is st e a room few = plain_left h p (weight (statement.Copy v u)) w.turns lt e (ap (λ (q : Ahead). q.here) a) (ap (λ (q : Ahead). q.blocks) a) (ap (λ (y : Statement). current_in y p w.turns) is)
  step_left h p (statement.Add v u) w r lt is st e a room few = plain_left h p (weight (statement.Add v u)) w.turns lt e (ap (λ (q : Ahead). q.here) a) (ap (λ (q : Ahead). q.blocks) a) (ap (λ (y : Statement). current_in y p w.turns) is)
  step_left h p (statement.Sub v u) w r lt is st e a room few = plain_left h p (weight (statement.Sub v u)) w.turns lt e (ap (λ (q : Ahead). q.here) a) (ap (λ (q : Ahead). q.blocks) a) (ap (λ (y : Statement). current_in y p w.turns) is)
  step_left h p (statement.Job v) w r lt is st e a room few = plain_left h p (weight (statement.Job v)) w.turns lt e (ap (λ (q : Ahead). q.here) a) (ap (λ (q : Ahead). q.blocks) a) (ap (λ (y : Statement). current_in y p w.turns) is)
  step_left h p (statement.Out v) w r lt is st e a room few = plain_left h p (weight (statement.Out v)) w.turns lt e (ap (λ (q : Ahead). q.here) a) (ap (λ (q : Ahead). q.blocks) a) (ap (λ (y : Statement). current_in y p w.turns) is)
  step_left h p (statement.Get v o f) w r lt is st e a room few = plain_left h p (weight (statement.Get v o f)) w.turns lt e (ap (λ (q : Ahead). q.here) a) (ap (λ (q : Ahead). q.blocks) a) (ap (λ (y : Statement). current_in y p w.turns) is)
  step_left h p (statement.Put o f v) w r lt is st e a room few = plain_left h p (weight (statement.Put o f v)) w.turns lt e (ap (λ (q : Ahead). q.here) a) (ap (λ (q : Ahead). q.blocks) a) (ap (λ (y : Statement). current_in y p w.turns) is)
  step_left h p (statement.Load d o f) w r lt is st e a room few = plain_left h p (weight (statement.Load d o f)) w.turns lt e (ap (λ (q : Ahead). q.here) a) (ap (λ (q : Ahead). q.blocks) a) (ap (λ (y : Statement). current_in y p w.turns) is)
  step_left h p (statement.Store o f t) w r lt is st e a room few = plain_left h p (weight (statement.Store o f t)) w.turns lt e (ap (λ (q : Ahead). q.here) a) (ap (λ (q : Ahead). q.blocks) a) (ap (λ (y : Statement). current_in y p w.turns) is)
  step_left h p (statement.Move d o) w r lt is st e a room few = plain_left h p (weight (statement.Move d o)) w.turns lt e (ap (λ (q : Ahead). q.here) a) (ap (λ (q : Ahead). q.blocks) a) (ap (λ (y : Statement). current_in y p w.turns) is)
  step_left h p (statement.Clear d) w r lt is st e a room few = plain_left h p (weight (statement.Clear d)) w.turns lt e (ap (λ (q : Ahead). q.here) a) (ap (λ (q : Ahead). q.blocks) a) (ap (λ (y : Statement). current_in y p w.turns) is)
  step_left h p (statement.New d z) w r lt is st e a room few = plain_left h p (weight (statement.New d z)) w.turns lt e (ap (λ (q : Ahead). q.here) a) (ap (λ (q : Ahead). q.blocks) a) (ap (λ (y : Statement). current_in y p w.turns) is)

  -- the same of a walk of the script
  walk_left : {limits : Limits} → IsScript limits s → (w : Walk) (r : Reply) → Fits s w → w.place < length s → length w.turns ≡ 16 → weight (statement_at s w.place) + left (walk_after s w r).place (walk_after s w r).turns ≤ left w.place w.turns
  unfolding walk_after
  walk_left h w r f lt len =
      let p = w.place in
      let x = statement_at s p in
      let o = opened_by s p lt (follows_at s p h (omega arith)) in
      let get : slice_get s p ≡ Some x = get_here s p statement.End lt in
      let st : IsStop (Some x) = subst IsStop get f.stop in
      let l : link_at s p ≡ link (around (open_at s p)) x (ways_at s (p + 1)) = link_is s p lt ∙ ap (λ (t : Around). link t x (ways_at s (p + 1))) (around_is s p lt) in
      let few = open_few s (p + 1) h (omega arith) in
      let step = step_left h p x w r lt refl st o.nests (ahead_more weight s p statement.End lt) (λ b. omega arith) few in
      let made : walk_after s w r ≡ stepped (link (around (open_at s p)) x (ways_at s (p + 1))) w r x = ap (λ (t : Option Statement). moved (link_at s p) w r t) get ∙ ap (λ (t : Link). stepped t w r x) l in
      subst (λ (t : Walk). weight x + left t.place t.turns ≤ left p w.turns) (sym made) step

-- ---- whole runs

spent : {limits : Limits} (amount : Need → ℕ) (weight : Statement → ℕ) → ((w : Walk) (x : Statement) → taken_by amount (need_in w x) ≡ weight x) → (s : List Statement) → IsScript limits s → (rs : List Reply) (w : Walk) → Fits s w → length w.turns ≡ 16 → AreReplies s w rs → taken amount s w rs ≤ left weight s w.place w.turns
unfolding need_of
spent amount weight same s h [] w f len a = omega arith
spent amount weight same s h (r ∷ rs) w f len a =
    let lt = wanted_within s w (λ n. Answers n r) a.0 in
    let x = statement_at s w.place in
    let get : slice_get s w.place ≡ Some x = get_here s w.place statement.End lt in
    let now : taken_by amount (need_of s w) ≡ weight x = ap (λ (o : Option Statement). taken_by amount (need_at w o)) get ∙ same w x in
    let rest = spent amount weight same s h rs (walk_after s w r) (keeps_fitting s w r h f lt) (after_length s w r ∙ len) a.1 in
    let step = walk_left weight s h w r f lt len in
    omega (arith, now, rest, step)

none_after : (bs : List Beyond) → length bs ≡ 0 → following bs ≡ 0
unfolding following
none_after [] e = refl
none_after (b ∷ bs) e = absurd (omega arith)

-- what is left at the start
started_left : {limits : Limits} (weight : Statement → ℕ) (s : List Statement) (job : ℕ) → IsScript limits s → left_at weight s (started job).place (started job).turns ≤ (ahead weight s).here
unfolding open_at all_turns_left
started_left weight s job h =
    let most = left_le weight s 0 (replicate 16 0) (omega arith) in
    let none = none_after (ahead weight s).blocks (count_ahead weight 0 [] s h.blocks) in
    omega (arith, most, none)

-- a walk of one job takes at most the greatest sum of its script
within : {limits : Limits} (amount : Need → ℕ) (weight : Statement → ℕ) → ((w : Walk) (x : Statement) → taken_by amount (need_in w x) ≡ weight x) → (s : List Statement) (job : ℕ) (rs : List Reply) → IsScript limits s → AreReplies s (started job) rs → taken amount s (started job) rs ≤ (ahead weight s).here
within amount weight same s job rs h a =
    let all = spent amount weight same s h rs (started job) (started_fits s job h) refl a in
    let most = started_left weight s job h in
    omega (arith, all, most)

ticks_same : (w : Walk) (x : Statement) → taken_by need_ticks (need_in w x) ≡ ticks_of x
ticks_same w (statement.If (test.Less l r)) = refl
ticks_same w (statement.If (test.Equal l r)) = refl
ticks_same w (statement.If (test.Null r)) = refl
ticks_same w (statement.If (test.Same l r)) = refl
ticks_same w (statement.Work n) = refl
ticks_same w (statement.Set v n) = refl
ticks_same w (statement.Copy v u) = refl
ticks_same w (statement.Add v u) = refl
ticks_same w (statement.Sub v u) = refl
ticks_same w (statement.Job v) = refl
ticks_same w (statement.Out v) = refl
ticks_same w (statement.Get v r f) = refl
ticks_same w (statement.Put r f v) = refl
ticks_same w (statement.Load d r f) = refl
ticks_same w (statement.Store r f t) = refl
ticks_same w (statement.Move d r) = refl
ticks_same w (statement.Clear d) = refl
ticks_same w (statement.New d z) = refl
ticks_same w statement.Else = refl
ticks_same w (statement.Repeat n) = refl
ticks_same w statement.End = refl

words_same : (w : Walk) (x : Statement) → taken_by need_words (need_in w x) ≡ words_of x
words_same w (statement.If (test.Less l r)) = refl
words_same w (statement.If (test.Equal l r)) = refl
words_same w (statement.If (test.Null r)) = refl
words_same w (statement.If (test.Same l r)) = refl
words_same w (statement.Work n) = refl
words_same w (statement.Set v n) = refl
words_same w (statement.Copy v u) = refl
words_same w (statement.Add v u) = refl
words_same w (statement.Sub v u) = refl
words_same w (statement.Job v) = refl
words_same w (statement.Out v) = refl
words_same w (statement.Get v r f) = refl
words_same w (statement.Put r f v) = refl
words_same w (statement.Load d r f) = refl
words_same w (statement.Store r f t) = refl
words_same w (statement.Move d r) = refl
words_same w (statement.Clear d) = refl
words_same w (statement.New d z) = refl
words_same w statement.Else = refl
words_same w (statement.Repeat n) = refl
words_same w statement.End = refl

-- a walk of one job takes no more ticks and no more words than its script costs
pub ticks_within : {limits : Limits} (s : List Statement) (job : ℕ) (rs : List Reply) → IsScript limits s → AreReplies s (started job) rs → taken need_ticks s (started job) rs ≤ greatest_ticks s
unfolding greatest_ticks
ticks_within s job rs h a = within need_ticks ticks_of ticks_same s job rs h a

pub words_within : {limits : Limits} (s : List Statement) (job : ℕ) (rs : List Reply) → IsScript limits s → AreReplies s (started job) rs → taken need_words s (started job) rs ≤ greatest_words s
unfolding greatest_words
words_within s job rs h a = within need_words words_of words_same s job rs h a

-- ---- what is left falls

-- the same wherever a walk stands, also at the end
falls : {limits : Limits} (amount : Need → ℕ) (weight : Statement → ℕ) → ((w : Walk) (x : Statement) → taken_by amount (need_in w x) ≡ weight x) → (s : List Statement) (w : Walk) (r : Reply) → IsScript limits s → Fits s w → length w.turns ≡ 16 → taken_by amount (need_of s w) + left_at weight s (walk_after s w r).place (walk_after s w r).turns ≤ left_at weight s w.place w.turns
unfolding need_of walk_after
falls amount weight same s w r h f len =
    elim (cases_lt w.place (length s)) [
      | inl lt ↦ (
          let x = statement_at s w.place in
          let get : slice_get s w.place ≡ Some x = get_here s w.place statement.End lt in
          let now : taken_by amount (need_at w (slice_get s w.place)) ≡ weight x = ap (λ (o : Option Statement). taken_by amount (need_at w o)) get ∙ same w x in
          let step = walk_left weight s h w r f lt len in
          omega (arith, now, step))
      | inr le ↦ (
          let get : slice_get s w.place ≡ None = get_past s w.place le in
          rw get (omega arith))
    ]

pub ticks_fall : {limits : Limits} (s : List Statement) (w : Walk) (r : Reply) → IsScript limits s → Fits s w → length w.turns ≡ 16 → taken_by need_ticks (need_of s w) + ticks_left s (walk_after s w r) ≤ ticks_left s w
unfolding ticks_left
ticks_fall s w r h f len = falls need_ticks ticks_of ticks_same s w r h f len

pub words_fall : {limits : Limits} (s : List Statement) (w : Walk) (r : Reply) → IsScript limits s → Fits s w → length w.turns ≡ 16 → taken_by need_words (need_of s w) + words_left s (walk_after s w r) ≤ words_left s w
unfolding words_left
words_fall s w r h f len = falls need_words words_of words_same s w r h f len

pub ticks_started : {limits : Limits} (s : List Statement) (job : ℕ) → IsScript limits s → ticks_left s (started job) ≤ greatest_ticks s
unfolding ticks_left greatest_ticks
ticks_started s job h = started_left ticks_of s job h

pub words_started : {limits : Limits} (s : List Statement) (job : ℕ) → IsScript limits s → words_left s (started job) ≤ greatest_words s
unfolding words_left greatest_words
words_started s job h = started_left words_of s job h

-- nothing moves behind the end
unmoved : (s : List Statement) (w : Walk) (r : Reply) → slice_get s w.place ≡ None → walk_after s w r ≡ w
unfolding walk_after
unmoved s w r e = ap (moved (link_at s w.place) w r) e

-- a walk that fits goes on fitting, whatever the reply, and has as many levels as before
pub goes_on_fitting : {limits : Limits} (s : List Statement) (w : Walk) (r : Reply) → IsScript limits s → Fits s w → Fits s (walk_after s w r) × (length (walk_after s w r).turns ≡ length w.turns)
goes_on_fitting s w r h f =
    let fits : Fits s (walk_after s w r) = elim (cases_lt w.place (length s)) [
      | inl lt ↦ keeps_fitting s w r h f lt
      | inr le ↦ subst (Fits s) (sym (unmoved s w r (get_past s w.place le))) f
    ] in
    (fits, after_length s w r)
