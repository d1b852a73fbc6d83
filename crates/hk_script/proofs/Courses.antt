-- A walk of a script follows what a job does that goes through the script's tree.
use Rattle.std.proofs.Common.{◌≡◌, ℕ, suc, zero, ◌+◌, ◌<◌, ◌≤◌, Bool, true, false, cond, List, [], ◌∷◌, ◌++◌, length, drop, Ok, Option, Some, refl, sym, ap, ◌∙◌, subst, arith, inl, inr}
use Rattle.std.specs.Prelude.{slice_get, slice_index, slice_set, nat_lt, replicate, unwrap_or}
use Rattle.std.proofs.lemmas.Bool.{cases_lt}
use Rattle.std.proofs.lemmas.Bool.Decides.{nat_tests}
use Rattle.std.proofs.lemmas.Grind.{common_steps}
use Rattle.std.proofs.lemmas.List.{append_assoc, append-nil, drop_more, drop_all, length-set}
use Rattle.hk_words.specs.declared.call.Reply.{Reply}
use Rattle.hk_script.specs.declared.beyond.Beyond.{Beyond}
use Rattle.hk_script.specs.declared.blocks.Open.{Open}
use Rattle.hk_script.specs.declared.blocks.Part.{Part}
use Rattle.hk_script.specs.declared.blocks.Part.TheVariants as part
use Rattle.hk_script.specs.declared.error.Fault.TheVariants as fault
use Rattle.hk_script.specs.declared.linking.Around.{Around}
use Rattle.hk_script.specs.declared.linking.Link.{Link}
use Rattle.hk_script.specs.declared.limits.Limits.{Limits}
use Rattle.hk_script.specs.declared.statement.Statement.{Statement}
use Rattle.hk_script.specs.declared.statement.Statement.TheVariants as statement
use Rattle.hk_script.specs.declared.statement.Test.{Test}
use Rattle.hk_script.specs.declared.statement.Test.TheVariants as test
use Rattle.hk_script.specs.declared.walk.Need.{Need}
use Rattle.hk_script.specs.declared.walk.Need.TheVariants as need
use Rattle.hk_script.specs.declared.walk.Walk.{Walk}
use Rattle.hk_script.specs.Blocks.{open_block, begun, parted, ended, nest, IsScript}
use Rattle.hk_script.specs.Cost.{beyond, nearest, outer_of}
use Rattle.hk_script.specs.Links.{around, Ways, leads, link}
use Rattle.hk_script.specs.Left.{statement_at, open_at}
use Rattle.hk_script.specs.Walks.{IsStop, link_at, at, after_set, holds, turned, stepped, moved, walk_after, started, need_of, need_at, need_in, need_of_test}
use Rattle.hk_script.specs.Trees.{Tree, Nothing, Does, When, Chooses, Repeats, IsPlain, IsTree, layout, IsTreeOf}
use Rattle.hk_script.specs.Courses.{Course, Done, Wants, followed_by, turns_of, wanting, with, does, Follows}
use Rattle.hk_script.proofs.Arguments.{ok_is, passed_or}
use Rattle.hk_script.proofs.Linked.{ways_at, ways_more, ways_end}
use Rattle.hk_script.proofs.Stops.{get_here, get_past, nothing_around, link_is, first_stops}
use Rattle.hk_script.proofs.Potential.{opened_by, follows_at, around_is, index_same}

-- ---- courses

-- three courses one after another
grouped : (s : List Statement) (c : Course) (second third : List ℕ → Course) (w : Walk) → Follows s w (followed_by c (λ v. followed_by (second v) third)) → Follows s w (followed_by (followed_by c second) third)
grouped s (Done v) second third w h = h
grouped s (Wants n go_on) second third w h = (h.0, λ r. grouped s (go_on r) second third (walk_after s w r) (h.1 r))

-- nothing after a course
alone : (s : List Statement) (c : Course) (w : Walk) → Follows s w (followed_by c Done) → Follows s w c
alone s (Done v) w h = h
alone s (Wants n go_on) w h = (h.0, λ r. alone s (go_on r) (walk_after s w r) (h.1 r))

-- ---- counters

index_above : (ts : List ℕ) (level k v : ℕ) → level < k → slice_index (slice_set ts level v) k ≡ slice_index ts k
index_above ts level k v lt = grind (arith, common_steps)

set_again : (ts : List ℕ) (level a b : ℕ) → slice_set (slice_set ts level a) level b ≡ slice_set ts level b
set_again [] level a b = refl
set_again (t ∷ ts) zero a b = refl
set_again (t ∷ ts) (suc level) a b = ap (λ (l : List ℕ). t ∷ l) (set_again ts level a b)

set_same : (ts : List ℕ) (level v : ℕ) → slice_index ts level ≡ v → slice_set ts level v ≡ ts
set_same [] level v e = refl
set_same (t ∷ ts) zero v e = ap (λ (n : ℕ). n ∷ ts) (sym e)
set_same (t ∷ ts) (suc level) v e = ap (λ (l : List ℕ). t ∷ l) (set_same ts level v e)

index_zeros : (k n : ℕ) → slice_index (replicate n 0) k ≡ 0
index_zeros k zero = refl
index_zeros zero (suc n) = refl
index_zeros (suc k) (suc n) = index_zeros k n

-- no turn is begun at a level and above it
record Unbegun (level : ℕ) (ts : List ℕ) : Type 0 where
  count : length ts ≡ 16
  none : (k : ℕ) → level ≤ k → slice_index ts k ≡ 0

further_unbegun : (level : ℕ) (ts : List ℕ) → Unbegun level ts → Unbegun (level + 1) ts
further_unbegun level ts u = record { count = u.count; none = λ k le. u.none k (omega arith) }

set_unbegun : (level : ℕ) (ts : List ℕ) (n : ℕ) → Unbegun level ts → Unbegun (level + 1) (slice_set ts level n)
set_unbegun level ts n u = record { count = length-set ts level n ∙ u.count; none = λ k le. index_above ts level k n (omega arith) ∙ u.none k (omega arith) }

-- ---- what a statement does to a walk

-- a walk in mid-course
abbrev stand : (job : ℕ) → (variables : List ℕ) → (place : ℕ) → (ts : List ℕ) → Walk
stand job v p ts = record { job = job; variables = v; place = p; turns = ts }

test_same : (job : ℕ) (v : List ℕ) (p : ℕ) (ts : List ℕ) (t : Test) (r : Reply) → holds t (stand job v p ts) r ≡ holds t (with job v) r
test_same job v p ts (test.Less l k) r = refl
test_same job v p ts (test.Equal l k) r = refl
test_same job v p ts (test.Null k) r = refl
test_same job v p ts (test.Same l k) r = refl

-- a step of a statement that stands by itself
record PlainStep (job : ℕ) (v : List ℕ) (p : ℕ) (ts : List ℕ) (x : Statement) : Type 0 where
  wanted : Need
  wants : need_in (with job v) x ≡ Some wanted
  same : need_in (stand job v p ts) x ≡ need_in (with job v) x
  steps : (l : Link) (r : Reply) → stepped l (stand job v p ts) r x ≡ stand job (after_set (with job v) r x).variables l.on ts

plain_step : (job : ℕ) (v : List ℕ) (p : ℕ) (ts : List ℕ) (x : Statement) → IsPlain x → PlainStep job v p ts x
plain_step job v p ts (statement.If t) h = absurd h
plain_step job v p ts statement.Else h = absurd h
plain_step job v p ts (statement.Repeat n) h = absurd h
plain_step job v p ts statement.End h = absurd h
plain_step job v p ts x h = record { wanted = _; wants = refl; same = refl; steps = λ l r. refl }

record PlainPlace (x : Statement) (p : ℕ) (o : List Open) (a : Around) (w : Ways) : Type 0 where
  nests : nest p o x ≡ Ok o
  here : (leads a p x w).on ≡ p
  blocks : (leads a p x w).blocks ≡ w.blocks

plain_place : (x : Statement) (p : ℕ) (o : List Open) (a : Around) (w : Ways) → IsPlain x → PlainPlace x p o a w
unfolding nest
plain_place (statement.If t) p o a w h = absurd h
plain_place statement.Else p o a w h = absurd h
plain_place (statement.Repeat n) p o a w h = absurd h
plain_place statement.End p o a w h = absurd h
plain_place x p o a w h = record { nests = refl; here = refl; blocks = refl }

-- ---- the statements of a script in their places

-- the statement at a place, and the statements behind it
record Item (s : List Statement) (p : ℕ) (x : Statement) (more : List Statement) : Type 0 where
  within : p < length s
  next : drop (p + 1) s ≡ more
  nests : nest p (open_at s p) x ≡ Ok (open_at s (p + 1))
  leads_on : ways_at s p ≡ leads (around (open_at s p)) p x (ways_at s (p + 1))
  linked : link_at s p ≡ link (around (open_at s p)) x (ways_at s (p + 1))
  got : slice_get s p ≡ Some x

tail_of : (x y : Statement) (xs ys : List Statement) → x ∷ xs ≡ y ∷ ys → (x ≡ y) × (xs ≡ ys)
tail_of x y xs ys e = ((let a : x ≡ y = cc in a), (let b : xs ≡ ys = cc in b))

within_by : (s : List Statement) (p : ℕ) (x : Statement) (more : List Statement) → drop p s ≡ x ∷ more → p < length s
within_by s p x more e =
    elim (cases_lt p (length s)) [
      | inl lt ↦ lt
      | inr le ↦ (let none : drop p s ≡ [] = drop_all p s le in absurd cc)
    ]

item_at : {limits : Limits} (s : List Statement) (p : ℕ) (x : Statement) (more : List Statement) → IsScript limits s → drop p s ≡ x ∷ more → Item s p x more
item_at s p x more h e =
    let lt : p < length s = within_by s p x more e in
    let parts = tail_of (statement_at s p) x (drop (p + 1) s) more (sym (drop_more s p statement.End lt) ∙ e) in
    let is : statement_at s p ≡ x = parts.0 in
    let o = opened_by s p lt (follows_at s p h (omega arith)) in
    record {
      within = lt;
      next = parts.1;
      nests = subst (λ (y : Statement). nest p (open_at s p) y ≡ Ok (open_at s (p + 1))) is o.nests;
      leads_on = subst (λ (y : Statement). ways_at s p ≡ leads (around (open_at s p)) p y (ways_at s (p + 1))) is (ways_more s p statement.End nothing_around lt ∙ ap (λ (t : Around). leads t p (statement_at s p) (ways_at s (p + 1))) (around_is s p lt));
      linked = subst (λ (y : Statement). link_at s p ≡ link (around (open_at s p)) y (ways_at s (p + 1))) is (link_is s p lt ∙ ap (λ (t : Around). link t (statement_at s p) (ways_at s (p + 1))) (around_is s p lt));
      got = get_here s p statement.End lt ∙ ap Some is;
    }

-- a step of a walk that stands at a statement
need_here : (s : List Statement) (w : Walk) (x : Statement) → slice_get s w.place ≡ Some x → need_of s w ≡ need_in w x
unfolding need_of
need_here s w x e = ap (need_at w) e

after_here : (s : List Statement) (w : Walk) (r : Reply) (x : Statement) (l : Link) → slice_get s w.place ≡ Some x → link_at s w.place ≡ l → walk_after s w r ≡ stepped l w r x
unfolding walk_after
after_here s w r x l e f = ap (moved (link_at s w.place) w r) e ∙ ap (λ (k : Link). stepped k w r x) f

-- a block that begins
begun_is : (q : Part) (p : ℕ) (o after : List Open) → begun q p o ≡ Ok after → (length o < 16) × (open_block q p ∷ o ≡ after)
begun_is q p o after e =
    let m = passed_or (nat_lt (length o) 16) fault.Deep (open_block q p ∷ o) after e in
    ((let few : length o < 16 = grind (arith, nat_tests, m.0) in few), m.1)

-- ---- tests

either : (P : Bool → Type 0) → P true → P false → (b : Bool) → P b
either P yes_it_is no_it_is true = yes_it_is
either P yes_it_is no_it_is false = no_it_is

-- an `if` goes on in the part that its test picks
if_follows : (s : List Statement) (job : ℕ) (t : Test) (p : ℕ) (v ts : List ℕ) (more : List Statement) → Item s p (statement.If t) more → (one other : Course) (rest k : List ℕ → Course)
    → Follows s (stand job v (ways_at s (p + 1)).on ts) (followed_by one (λ z. followed_by (rest z) k))
    → Follows s (stand job v (nearest (ways_at s (p + 1)).blocks).other ts) (followed_by other (λ z. followed_by (rest z) k))
    → Follows s (stand job v p ts) (followed_by (Wants (need_of_test t) (λ r. followed_by (cond (holds t (with job v) r) one other) rest)) k)
if_follows s job t p v ts more i one other rest k first second =
    let w = stand job v p ts in
    let l = link (around (open_at s p)) (statement.If t) (ways_at s (p + 1)) in
    let chosen : (b : Bool) → Follows s (cond b (at l.on w) (at l.past w)) (followed_by (cond b one other) (λ z. followed_by (rest z) k)) =
    either (λ b. Follows s (cond b (at l.on w) (at l.past w)) (followed_by (cond b one other) (λ z. followed_by (rest z) k))) first second in
    let on : (y : Reply) → Follows s (walk_after s w y) (followed_by (followed_by (cond (holds t (with job v) y) one other) rest) k) =
    λ y. grouped s (cond (holds t (with job v) y) one other) rest k (walk_after s w y)
    (subst (λ (z : Walk). Follows s z (followed_by (cond (holds t (with job v) y) one other) (λ x. followed_by (rest x) k)))
    (sym (after_here s w y (statement.If t) l i.got i.linked))
    (subst (λ (b : Bool). Follows s (cond b (at l.on w) (at l.past w)) (followed_by (cond (holds t (with job v) y) one other) (λ x. followed_by (rest x) k))) (sym (test_same job v p ts t y)) (chosen (holds t (with job v) y)))) in
    (need_here s w (statement.If t) i.got, on)

-- ---- turns

need_of_repeat : (s : List Statement) (job n p : ℕ) (more : List Statement) → Item s p (statement.Repeat n) more → (v ts : List ℕ) → need_of s (stand job v p ts) ≡ Some need.Local
need_of_repeat s job n p more i v ts = need_here s (stand job v p ts) (statement.Repeat n) i.got

after_repeat : (s : List Statement) (job n p : ℕ) (more : List Statement) → Item s p (statement.Repeat n) more → (v ts : List ℕ) (r : Reply) → walk_after s (stand job v p ts) r ≡ turned (link (around (open_at s p)) (statement.Repeat n) (ways_at s (p + 1))) n (stand job v p ts)
after_repeat s job n p more i v ts r = after_here s (stand job v p ts) r (statement.Repeat n) (link (around (open_at s p)) (statement.Repeat n) (ways_at s (p + 1))) i.got i.linked

turned_on : (l : Link) (job n : ℕ) (v : List ℕ) (p : ℕ) (ts : List ℕ) (i : ℕ) → l.level < length ts → i < n → turned l n (stand job v p (slice_set ts l.level i)) ≡ stand job v l.on (slice_set ts l.level (i + 1))
turned_on l job n v p ts i room lt =
    let begun_so_far : slice_index (slice_set ts l.level i) l.level ≡ i = index_same ts l.level i room in
    let below : nat_lt i n ≡ true = grind (arith, nat_tests) in
    let picks : nat_lt (slice_index (slice_set ts l.level i) l.level) n ≡ true = ap (λ (m : ℕ). nat_lt m n) begun_so_far ∙ below in
    let more : slice_set (slice_set ts l.level i) l.level (slice_index (slice_set ts l.level i) l.level + 1) ≡ slice_set ts l.level (i + 1) = ap (λ (m : ℕ). slice_set (slice_set ts l.level i) l.level (m + 1)) begun_so_far ∙ set_again ts l.level i (i + 1) in
    ap (λ (b : Bool). cond b (stand job v l.on (slice_set (slice_set ts l.level i) l.level (slice_index (slice_set ts l.level i) l.level + 1))) (stand job v l.past (slice_set (slice_set ts l.level i) l.level 0))) picks
    ∙ ap (stand job v l.on) more

turned_past : (l : Link) (job n : ℕ) (v : List ℕ) (p : ℕ) (ts : List ℕ) → l.level < length ts → slice_index ts l.level ≡ 0 → turned l n (stand job v p (slice_set ts l.level n)) ≡ stand job v l.past ts
turned_past l job n v p ts room none =
    let begun_so_far : slice_index (slice_set ts l.level n) l.level ≡ n = index_same ts l.level n room in
    let over : nat_lt n n ≡ false = grind (arith, nat_tests) in
    let picks : nat_lt (slice_index (slice_set ts l.level n) l.level) n ≡ false = ap (λ (m : ℕ). nat_lt m n) begun_so_far ∙ over in
    ap (λ (b : Bool). cond b (stand job v l.on (slice_set (slice_set ts l.level n) l.level (slice_index (slice_set ts l.level n) l.level + 1))) (stand job v l.past (slice_set (slice_set ts l.level n) l.level 0))) picks
    ∙ ap (stand job v l.past) (set_again ts l.level n 0 ∙ set_same ts l.level 0 none)

-- the turns of a `repeat` that are left, where i were begun
repeat_follows : (s : List Statement) (job n p : ℕ) (ts : List ℕ) (l : Link) (block k : List ℕ → Course)
    → ((v ts : List ℕ) → need_of s (stand job v p ts) ≡ Some need.Local)
    → ((v ts : List ℕ) (r : Reply) → walk_after s (stand job v p ts) r ≡ turned l n (stand job v p ts))
    → l.level < length ts → slice_index ts l.level ≡ 0
    → ((z : List ℕ) → Follows s (stand job z l.past ts) (k z))
    → ((i : ℕ) (k : List ℕ → Course) → ((z : List ℕ) → Follows s (stand job z p (slice_set ts l.level i)) (k z)) → (z : List ℕ) → Follows s (stand job z l.on (slice_set ts l.level i)) (followed_by (block z) k))
    → (m i : ℕ) → i + m ≡ n → (v : List ℕ) → Follows s (stand job v p (slice_set ts l.level i)) (followed_by (turns_of m block v) k)
repeat_follows s job n p ts l block k wants steps room none left turn zero i e v = (
  wants v (slice_set ts l.level i),
  λ r.
      let same : i ≡ n = omega arith in
      let moves : walk_after s (stand job v p (slice_set ts l.level i)) r ≡ stand job v l.past ts = steps v (slice_set ts l.level i) r ∙ ap (λ (m : ℕ). turned l n (stand job v p (slice_set ts l.level m))) same ∙ turned_past l job n v p ts room none in
      subst (λ (w : Walk). Follows s w (k v)) (sym moves) (left v),
)
repeat_follows s job n p ts l block k wants steps room none left turn (suc m) i e v = (
  wants v (slice_set ts l.level i),
  λ r.
      let moves : walk_after s (stand job v p (slice_set ts l.level i)) r ≡ stand job v l.on (slice_set ts l.level (i + 1)) = steps v (slice_set ts l.level i) r ∙ turned_on l job n v p ts i room (omega arith) in
      let again : (z : List ℕ) → Follows s (stand job z p (slice_set ts l.level (i + 1))) (followed_by (turns_of m block z) k) = λ z. repeat_follows s job n p ts l block k wants steps room none left turn m (i + 1) (omega arith) z in
      grouped s (block v) (turns_of m block) k (walk_after s (stand job v p (slice_set ts l.level i)) r)
      (subst (λ (w : Walk). Follows s w (followed_by (block v) (λ z. followed_by (turns_of m block z) k))) (sym moves) (turn (i + 1) (λ z. followed_by (turns_of m block z) k) again v)),
)

-- ---- a tree in its place

-- a tree that is laid out from a place on, and the place behind it: the same blocks are open and lie ahead there, and a
-- walk that comes to the tree follows its course, if one that comes behind it follows what comes after
record Spans (s : List Statement) (job : ℕ) (t : Tree) (p : ℕ) (more : List Statement) : Type 0 where
  to : ℕ
  within : to ≤ length s
  next : drop to s ≡ more
  opened : open_at s to ≡ open_at s p
  blocks : (ways_at s to).blocks ≡ (ways_at s p).blocks
  follows : (ts : List ℕ) → Unbegun (length (open_at s p)) ts → (k : List ℕ → Course)
      → ((v : List ℕ) → Follows s (stand job v (ways_at s to).on ts) (k v))
      → (v : List ℕ) → Follows s (stand job v (ways_at s p).on ts) (followed_by (does job t v) k)

nothing_spans : (s : List Statement) (job p : ℕ) (more : List Statement) → drop p s ≡ more → p ≤ length s → Spans s job Nothing p more
nothing_spans s job p more e le = record { to = p; within = le; next = e; opened = refl; blocks = refl; follows = λ ts u k behind v. behind v }

plain_spans : (s : List Statement) (job : ℕ) (x : Statement) (rest : Tree) (p : ℕ) (more : List Statement) → IsPlain x → Item s p x (layout rest ++ more) → Spans s job rest (p + 1) more → Spans s job (Does x rest) p more
plain_spans s job x rest p more plain i r =
    let place = plain_place x p (open_at s p) (around (open_at s p)) (ways_at s (p + 1)) plain in
    let same : open_at s p ≡ open_at s (p + 1) = ok_is (open_at s p) (open_at s (p + 1)) (sym place.nests ∙ i.nests) in
    let here : (ways_at s p).on ≡ p = ap (λ (w : Ways). w.on) i.leads_on ∙ place.here in
    record {
      to = r.to;
      within = r.within;
      next = r.next;
      opened = r.opened ∙ sym same;
      blocks = r.blocks ∙ sym (ap (λ (w : Ways). w.blocks) i.leads_on ∙ place.blocks);
      follows = λ ts u k behind v.
          let w = stand job v p ts in
          let step = plain_step job v p ts x plain in
          let wants : need_of s w ≡ Some step.wanted = need_here s w x i.got ∙ step.same ∙ step.wants in
          let on : (y : Reply) → Follows s (walk_after s w y) (followed_by (does job rest (after_set (with job v) y x).variables) k) =
          λ y. subst (λ (z : Walk). Follows s z (followed_by (does job rest (after_set (with job v) y x).variables) k))
          (sym (after_here s w y x (link (around (open_at s p)) x (ways_at s (p + 1))) i.got i.linked ∙ step.steps (link (around (open_at s p)) x (ways_at s (p + 1))) y))
          (r.follows ts (subst (λ (o : List Open). Unbegun (length o) ts) same u) k behind (after_set (with job v) y x).variables) in
          let course : Follows s w (followed_by (wanting (need_in (with job v) x) (λ y. does job rest (after_set (with job v) y x).variables)) k) =
          subst (λ (o : Option Need). Follows s w (followed_by (wanting o (λ y. does job rest (after_set (with job v) y x).variables)) k)) (sym step.wants) (wants, on) in
          subst (λ (q : ℕ). Follows s (stand job v q ts) (followed_by (does job (Does x rest) v) k)) (sym here) course;
    }

-- behind the end of a block
record Closed (s : List Statement) (e : ℕ) (o : List Open) : Type 0 where
  opened : open_at s (e + 1) ≡ o
  blocks : (ways_at s e).blocks ≡ beyond (ways_at s (e + 1)).on (ways_at s (e + 1)).on ∷ (ways_at s (e + 1)).blocks

closed_by : (s : List Statement) (e : ℕ) (b : Open) (o : List Open) (more : List Statement) → Item s e statement.End more → open_at s e ≡ b ∷ o → Closed s e o
unfolding nest
closed_by s e b o more i is =
    let f : ended (b ∷ o) ≡ Ok (open_at s (e + 1)) = subst (λ (t : List Open). ended t ≡ Ok (open_at s (e + 1))) is i.nests in
    record { opened = sym (ok_is o (open_at s (e + 1)) f); blocks = ap (λ (w : Ways). w.blocks) i.leads_on }

end_on : (s : List Statement) (e : ℕ) (b : Open) (o : List Open) (more : List Statement) → Item s e statement.End more → open_at s e ≡ b ∷ o → (ways_at s e).on ≡ unwrap_or (around (b ∷ o)).again (ways_at s (e + 1)).on
end_on s e b o more i is = ap (λ (w : Ways). w.on) i.leads_on ∙ ap (λ (t : List Open). unwrap_or (around t).again (ways_at s (e + 1)).on) is

when_spans : (s : List Statement) (job : ℕ) (t : Test) (one rest : Tree) (p : ℕ) (more : List Statement)
    → (i : Item s p (statement.If t) (layout one ++ (statement.End ∷ layout rest ++ more)))
    → (a : Spans s job one (p + 1) (statement.End ∷ layout rest ++ more))
    → (i_end : Item s a.to statement.End (layout rest ++ more))
    → Spans s job rest (a.to + 1) more → Spans s job (When t one rest) p more
unfolding nest
when_spans s job t one rest p more i a i_end r =
    let o = open_at s p in
    let begins = begun_is part.Then p o (open_at s (p + 1)) i.nests in
    let inside : open_at s (p + 1) ≡ open_block part.Then p ∷ o = sym begins.1 in
    let inside_end : open_at s a.to ≡ open_block part.Then p ∷ o = a.opened ∙ inside in
    let closes = closed_by s a.to (open_block part.Then p) o (layout rest ++ more) i_end inside_end in
    let out : (ways_at s a.to).on ≡ (ways_at s (a.to + 1)).on = end_on s a.to (open_block part.Then p) o (layout rest ++ more) i_end inside_end in
    let here : (ways_at s p).on ≡ p = ap (λ (w : Ways). w.on) i.leads_on in
    let ahead : (ways_at s (p + 1)).blocks ≡ beyond (ways_at s (a.to + 1)).on (ways_at s (a.to + 1)).on ∷ (ways_at s (a.to + 1)).blocks = sym a.blocks ∙ closes.blocks in
    record {
      to = r.to;
      within = r.within;
      next = r.next;
      opened = r.opened ∙ closes.opened;
      blocks = r.blocks ∙ sym (ap (λ (w : Ways). w.blocks) i.leads_on ∙ ap outer_of ahead);
      follows = λ ts u k behind v.
          let l = link (around o) (statement.If t) (ways_at s (p + 1)) in
          let next : (z : List ℕ) → Follows s (stand job z (ways_at s (a.to + 1)).on ts) (followed_by (does job rest z) k) =
          r.follows ts (subst (λ (b : List Open). Unbegun (length b) ts) (sym closes.opened) u) k behind in
          let first : Follows s (stand job v l.on ts) (followed_by (does job one v) (λ z. followed_by (does job rest z) k)) =
          a.follows ts (subst (λ (b : List Open). Unbegun (length b) ts) (sym inside) (subst (λ (n : ℕ). Unbegun n ts) (let more_by_one : length o + 1 ≡ length (open_block part.Then p ∷ o) = omega arith in more_by_one) (further_unbegun (length o) ts u))) (λ z. followed_by (does job rest z) k)
          (λ z. subst (λ (q : ℕ). Follows s (stand job z q ts) (followed_by (does job rest z) k)) (sym out) (next z)) v in
          let second : Follows s (stand job v l.past ts) (followed_by (does job rest v) k) =
          subst (λ (bs : List Beyond). Follows s (stand job v (nearest bs).other ts) (followed_by (does job rest v) k)) (sym ahead) (next v) in
          subst (λ (q : ℕ). Follows s (stand job v q ts) (followed_by (does job (When t one rest) v) k)) (sym here)
          (if_follows s job t p v ts (layout one ++ (statement.End ∷ layout rest ++ more)) i (does job one v) (Done v) (does job rest) k first second);
    }

chooses_spans : (s : List Statement) (job : ℕ) (t : Test) (one other rest : Tree) (p : ℕ) (more : List Statement)
    → (i : Item s p (statement.If t) (layout one ++ (statement.Else ∷ layout other ++ (statement.End ∷ layout rest ++ more))))
    → (a : Spans s job one (p + 1) (statement.Else ∷ layout other ++ (statement.End ∷ layout rest ++ more)))
    → (i_else : Item s a.to statement.Else (layout other ++ (statement.End ∷ layout rest ++ more)))
    → (b : Spans s job other (a.to + 1) (statement.End ∷ layout rest ++ more))
    → (i_end : Item s b.to statement.End (layout rest ++ more))
    → Spans s job rest (b.to + 1) more → Spans s job (Chooses t one other rest) p more
unfolding nest
chooses_spans s job t one other rest p more i a i_else b i_end r =
    let o = open_at s p in
    let begins = begun_is part.Then p o (open_at s (p + 1)) i.nests in
    let inside : open_at s (p + 1) ≡ open_block part.Then p ∷ o = sym begins.1 in
    let inside_else : open_at s a.to ≡ open_block part.Then p ∷ o = a.opened ∙ inside in
    let parts : parted (open_block part.Then p ∷ o) ≡ Ok (open_at s (a.to + 1)) = subst (λ (q : List Open). parted q ≡ Ok (open_at s (a.to + 1))) inside_else i_else.nests in
    let inside_other : open_at s (a.to + 1) ≡ open_block part.Otherwise p ∷ o = sym (ok_is (open_block part.Otherwise p ∷ o) (open_at s (a.to + 1)) parts) in
    let inside_end : open_at s b.to ≡ open_block part.Otherwise p ∷ o = b.opened ∙ inside_other in
    let closes = closed_by s b.to (open_block part.Otherwise p) o (layout rest ++ more) i_end inside_end in
    let out : (ways_at s b.to).on ≡ (ways_at s (b.to + 1)).on = end_on s b.to (open_block part.Otherwise p) o (layout rest ++ more) i_end inside_end in
    let here : (ways_at s p).on ≡ p = ap (λ (w : Ways). w.on) i.leads_on in
    let ahead_other : (ways_at s (a.to + 1)).blocks ≡ beyond (ways_at s (b.to + 1)).on (ways_at s (b.to + 1)).on ∷ (ways_at s (b.to + 1)).blocks = sym b.blocks ∙ closes.blocks in
    let out_else : (ways_at s a.to).on ≡ (ways_at s (b.to + 1)).on = ap (λ (w : Ways). w.on) i_else.leads_on ∙ ap (λ (bs : List Beyond). (nearest bs).after) ahead_other in
    let ahead : (ways_at s (p + 1)).blocks ≡ beyond (ways_at s (a.to + 1)).on (ways_at s (b.to + 1)).on ∷ (ways_at s (b.to + 1)).blocks =
    sym a.blocks ∙ ap (λ (w : Ways). w.blocks) i_else.leads_on ∙ ap (λ (bs : List Beyond). beyond (ways_at s (a.to + 1)).on (nearest bs).after ∷ outer_of bs) ahead_other in
    let deeper : length o + 1 ≡ length (open_block part.Then p ∷ o) = omega arith in
    let deeper_other : length o + 1 ≡ length (open_block part.Otherwise p ∷ o) = omega arith in
    record {
      to = r.to;
      within = r.within;
      next = r.next;
      opened = r.opened ∙ closes.opened;
      blocks = r.blocks ∙ sym (ap (λ (w : Ways). w.blocks) i.leads_on ∙ ap outer_of ahead);
      follows = λ ts u k behind v.
          let l = link (around o) (statement.If t) (ways_at s (p + 1)) in
          let next : (z : List ℕ) → Follows s (stand job z (ways_at s (b.to + 1)).on ts) (followed_by (does job rest z) k) =
          r.follows ts (subst (λ (q : List Open). Unbegun (length q) ts) (sym closes.opened) u) k behind in
          let further = further_unbegun (length o) ts u in
          let first : Follows s (stand job v l.on ts) (followed_by (does job one v) (λ z. followed_by (does job rest z) k)) =
          a.follows ts (subst (λ (q : List Open). Unbegun (length q) ts) (sym inside) (subst (λ (n : ℕ). Unbegun n ts) deeper further)) (λ z. followed_by (does job rest z) k)
          (λ z. subst (λ (q : ℕ). Follows s (stand job z q ts) (followed_by (does job rest z) k)) (sym out_else) (next z)) v in
          let instead : Follows s (stand job v (ways_at s (a.to + 1)).on ts) (followed_by (does job other v) (λ z. followed_by (does job rest z) k)) =
          b.follows ts (subst (λ (q : List Open). Unbegun (length q) ts) (sym inside_other) (subst (λ (n : ℕ). Unbegun n ts) deeper_other further)) (λ z. followed_by (does job rest z) k)
          (λ z. subst (λ (q : ℕ). Follows s (stand job z q ts) (followed_by (does job rest z) k)) (sym out) (next z)) v in
          let second : Follows s (stand job v l.past ts) (followed_by (does job other v) (λ z. followed_by (does job rest z) k)) =
          subst (λ (bs : List Beyond). Follows s (stand job v (nearest bs).other ts) (followed_by (does job other v) (λ z. followed_by (does job rest z) k))) (sym ahead) instead in
          subst (λ (q : ℕ). Follows s (stand job v q ts) (followed_by (does job (Chooses t one other rest) v) k)) (sym here)
          (if_follows s job t p v ts (layout one ++ (statement.Else ∷ layout other ++ (statement.End ∷ layout rest ++ more))) i (does job one v) (does job other v) (does job rest) k first second);
    }

repeats_spans : (s : List Statement) (job n : ℕ) (block rest : Tree) (p : ℕ) (more : List Statement)
    → (i : Item s p (statement.Repeat n) (layout block ++ (statement.End ∷ layout rest ++ more)))
    → (a : Spans s job block (p + 1) (statement.End ∷ layout rest ++ more))
    → (i_end : Item s a.to statement.End (layout rest ++ more))
    → Spans s job rest (a.to + 1) more → Spans s job (Repeats n block rest) p more
unfolding nest
repeats_spans s job n block rest p more i a i_end r =
    let o = open_at s p in
    let level = length o in
    let begins = begun_is part.Turns p o (open_at s (p + 1)) i.nests in
    let inside : open_at s (p + 1) ≡ open_block part.Turns p ∷ o = sym begins.1 in
    let inside_end : open_at s a.to ≡ open_block part.Turns p ∷ o = a.opened ∙ inside in
    let closes = closed_by s a.to (open_block part.Turns p) o (layout rest ++ more) i_end inside_end in
    let back : (ways_at s a.to).on ≡ p = end_on s a.to (open_block part.Turns p) o (layout rest ++ more) i_end inside_end in
    let here : (ways_at s p).on ≡ p = ap (λ (w : Ways). w.on) i.leads_on in
    let ahead : (ways_at s (p + 1)).blocks ≡ beyond (ways_at s (a.to + 1)).on (ways_at s (a.to + 1)).on ∷ (ways_at s (a.to + 1)).blocks = sym a.blocks ∙ closes.blocks in
    let deeper : length o + 1 ≡ length (open_block part.Turns p ∷ o) = omega arith in
    record {
      to = r.to;
      within = r.within;
      next = r.next;
      opened = r.opened ∙ closes.opened;
      blocks = r.blocks ∙ sym (ap (λ (w : Ways). w.blocks) i.leads_on ∙ ap outer_of ahead);
      follows = λ ts u k behind v.
          let l = link (around o) (statement.Repeat n) (ways_at s (p + 1)) in
          let next : (z : List ℕ) → Follows s (stand job z (ways_at s (a.to + 1)).on ts) (followed_by (does job rest z) k) =
          r.follows ts (subst (λ (q : List Open). Unbegun (length q) ts) (sym closes.opened) u) k behind in
          let left : (z : List ℕ) → Follows s (stand job z l.past ts) (followed_by (does job rest z) k) =
          λ z. subst (λ (bs : List Beyond). Follows s (stand job z (nearest bs).after ts) (followed_by (does job rest z) k)) (sym ahead) (next z) in
          let turn : (i : ℕ) (k : List ℕ → Course) → ((z : List ℕ) → Follows s (stand job z p (slice_set ts level i)) (k z)) → (z : List ℕ) → Follows s (stand job z l.on (slice_set ts level i)) (followed_by (does job block z) k) =
          λ i k again. a.follows (slice_set ts level i) (subst (λ (q : List Open). Unbegun (length q) (slice_set ts level i)) (sym inside) (subst (λ (m : ℕ). Unbegun m (slice_set ts level i)) deeper (set_unbegun level ts i u))) k
          (λ z. subst (λ (q : ℕ). Follows s (stand job z q (slice_set ts level i)) (k z)) (sym back) (again z)) in
          let all = repeat_follows s job n p ts l (λ z. does job block z) (λ z. followed_by (does job rest z) k) (need_of_repeat s job n p (layout block ++ (statement.End ∷ layout rest ++ more)) i) (after_repeat s job n p (layout block ++ (statement.End ∷ layout rest ++ more)) i)
          (let few : level < length ts = (let few : level < 16 = begins.0 in let count = u.count in omega (arith, count)) in few) (u.none level (omega arith)) left turn n 0 (omega arith) v in
          let whole : Follows s (stand job v p ts) (followed_by (turns_of n (does job block) v) (λ z. followed_by (does job rest z) k)) =
          subst (λ (q : List ℕ). Follows s (stand job v p q) (followed_by (turns_of n (does job block) v) (λ z. followed_by (does job rest z) k))) (set_same ts level 0 (u.none level (omega arith))) all in
          subst (λ (q : ℕ). Follows s (stand job v q ts) (followed_by (does job (Repeats n block rest) v) k)) (sym here)
          (grouped s (turns_of n (does job block) v) (does job rest) k (stand job v p ts) whole);
    }

-- a script's trees in their places
spans : {limits : Limits} (s : List Statement) (job : ℕ) → IsScript limits s → (t : Tree) → IsTree t → (p : ℕ) (more : List Statement) → drop p s ≡ layout t ++ more → p ≤ length s → Spans s job t p more
spans s job h Nothing good p more e le = nothing_spans s job p more e le
spans s job h (Does x rest) good p more e le =
    let i = item_at s p x (layout rest ++ more) h e in
    plain_spans s job x rest p more good.0 i (spans s job h rest good.1 (p + 1) more i.next (let lt = i.within in omega arith))
spans s job h (When t one rest) good p more e le =
    let i = item_at s p (statement.If t) (layout one ++ (statement.End ∷ layout rest ++ more)) h (e ∙ ap (λ (l : List Statement). statement.If t ∷ l) (append_assoc (layout one) (statement.End ∷ layout rest) more)) in
    let a = spans s job h one good.0 (p + 1) (statement.End ∷ layout rest ++ more) i.next (let lt = i.within in omega arith) in
    let i_end = item_at s a.to statement.End (layout rest ++ more) h a.next in
    when_spans s job t one rest p more i a i_end (spans s job h rest good.1 (a.to + 1) more i_end.next (let lt = i_end.within in omega arith))
spans s job h (Chooses t one other rest) good p more e le =
    let i = item_at s p (statement.If t) (layout one ++ (statement.Else ∷ layout other ++ (statement.End ∷ layout rest ++ more))) h
    (e ∙ ap (λ (l : List Statement). statement.If t ∷ l) (append_assoc (layout one) (statement.Else ∷ layout other ++ (statement.End ∷ layout rest)) more)
    ∙ ap (λ (l : List Statement). statement.If t ∷ layout one ++ (statement.Else ∷ l)) (append_assoc (layout other) (statement.End ∷ layout rest) more)) in
    let a = spans s job h one good.0 (p + 1) (statement.Else ∷ layout other ++ (statement.End ∷ layout rest ++ more)) i.next (let lt = i.within in omega arith) in
    let i_else = item_at s a.to statement.Else (layout other ++ (statement.End ∷ layout rest ++ more)) h a.next in
    let b = spans s job h other good.1 (a.to + 1) (statement.End ∷ layout rest ++ more) i_else.next (let lt = i_else.within in omega arith) in
    let i_end = item_at s b.to statement.End (layout rest ++ more) h b.next in
    chooses_spans s job t one other rest p more i a i_else b i_end (spans s job h rest good.2 (b.to + 1) more i_end.next (let lt = i_end.within in omega arith))
spans s job h (Repeats n block rest) good p more e le =
    let i = item_at s p (statement.Repeat n) (layout block ++ (statement.End ∷ layout rest ++ more)) h (e ∙ ap (λ (l : List Statement). statement.Repeat n ∷ l) (append_assoc (layout block) (statement.End ∷ layout rest) more)) in
    let a = spans s job h block good.0 (p + 1) (statement.End ∷ layout rest ++ more) i.next (let lt = i.within in omega arith) in
    let i_end = item_at s a.to statement.End (layout rest ++ more) h a.next in
    repeats_spans s job n block rest p more i a i_end (spans s job h rest good.1 (a.to + 1) more i_end.next (let lt = i_end.within in omega arith))

-- ---- a whole script

first_on : (a : Around) (x : Statement) (w : Ways) → IsStop (Some x) → (leads a 0 x w).on ≡ 0
first_on a statement.Else w h = absurd h
first_on a statement.End w h = absurd h
first_on a x w h = refl

begins_at : {limits : Limits} (s : List Statement) → IsScript limits s → (ways_at s 0).on ≡ 0
begins_at [] h = refl
begins_at (x ∷ s) h =
    let i = item_at (x ∷ s) 0 x s h refl in
    ap (λ (w : Ways). w.on) i.leads_on ∙ first_on (around (open_at (x ∷ s) 0)) x (ways_at (x ∷ s) 1) (first_stops (x ∷ s) h).stop

drop_none : (s : List Statement) (q : ℕ) → q ≤ length s → drop q s ≡ [] → q ≡ length s
drop_none [] q le e = omega arith
drop_none (x ∷ s) zero le e = absurd cc
drop_none (x ∷ s) (suc q) le e = let more = drop_none s q (omega arith) e in omega (arith, more)

-- at the end nothing is wanted
ended_follows : (s : List Statement) (job : ℕ) (v : List ℕ) (q : ℕ) (ts : List ℕ) → q ≡ length s → Follows s (stand job v q ts) (Done v)
unfolding need_of
ended_follows s job v q ts e = (ap (need_at (stand job v q ts)) (get_past s q (omega arith)), refl)

pub walk_follows : {limits : Limits} (s : List Statement) (tree : Tree) (job : ℕ) → IsScript limits s → IsTreeOf s tree → Follows s (started job) (does job tree (replicate 8 0))
unfolding open_at
walk_follows s tree job h is =
    let sp = spans s job h tree is.plain 0 [] (sym (append-nil (layout tree) ∙ is.laid_out)) (omega arith) in
    let last : sp.to ≡ length s = drop_none s sp.to sp.within sp.next in
    let behind : (v : List ℕ) → Follows s (stand job v (ways_at s sp.to).on (replicate 16 0)) (Done v) =
    λ v. ended_follows s job v (ways_at s sp.to).on (replicate 16 0) (ap (λ (w : Ways). w.on) (sym (ways_end s sp.to last)) ∙ last) in
    let whole = sp.follows (replicate 16 0) (record { count = refl; none = λ k le. index_zeros k 16 }) Done behind (replicate 8 0) in
    alone s (does job tree (replicate 8 0)) (started job) (subst (λ (q : ℕ). Follows s (stand job (replicate 8 0) q (replicate 16 0)) (followed_by (does job tree (replicate 8 0)) Done)) (begins_at s h) whole)
