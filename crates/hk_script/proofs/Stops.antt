-- A walk of a script stands at a statement that takes a tick, or at the end, wherever a link leads.
use Rattle.std.proofs.Common.{◌≡◌, ℕ, suc, zero, ◌+◌, ◌-◌, ◌<◌, ◌≤◌, Bool, true, false, cond, List, [], ◌∷◌, length, drop, get_or, Ok, Err, Option, Some, None, refl, sym, ap, ◌∙◌, subst, arith, inl, inr}
use Rattle.std.specs.Prelude.{slice_get, slice_index, slice_set, nat_lt, unwrap_or, IsSome, IsSomeAnd}
use Rattle.std.specs.List.{AllByRecursion}
use Rattle.std.proofs.lemmas.List.{drop_more, drop_all, get_or_read}
use Rattle.std.proofs.lemmas.Bool.{cases_lt}
use Rattle.hk_script.specs.declared.walk.Need.{Need}
use Rattle.hk_script.specs.Limits.{widest}
use Rattle.hk_script.specs.Spelling.{IsStatement}
use Rattle.hk_script.specs.Levels.{HasLevel}
use Rattle.hk_script.specs.declared.beyond.Beyond.{Beyond}
use Rattle.hk_script.specs.declared.blocks.Open.{Open}
use Rattle.hk_script.specs.declared.blocks.Part.{Part}
use Rattle.hk_script.specs.declared.blocks.Part.TheVariants as part
use Rattle.hk_script.specs.declared.error.Fault.TheVariants as fault
use Rattle.hk_script.specs.declared.linking.Around.{Around}
use Rattle.hk_script.specs.declared.linking.Link.{Link}
use Rattle.hk_script.specs.declared.limits.Limits.{Limits}
use Rattle.hk_script.specs.declared.statement.Statement.{Statement}
use Rattle.hk_script.specs.declared.statement.Statement.TheVariants as statement
use Rattle.hk_script.specs.Blocks.{open_block, parted_by, parted, ended, nest, nested, IsScript}
use Rattle.hk_script.specs.Cost.{nearest, outer_of}
use Rattle.hk_script.specs.Again.{again_by, again_of}
use Rattle.hk_script.specs.Links.{around, left_open, arounds, Ways, leads, past_of, link, links_of}
use Rattle.hk_words.specs.declared.call.Reply.{Reply}
use Rattle.hk_script.specs.declared.walk.Walk.{Walk}
use Rattle.hk_script.specs.Walks.{IsStop, link_at, at, holds, stepped, moved, walk_after, started, need_in, need_at, need_of, Fits}
use Rattle.hk_script.proofs.Arguments.{bind_ok}
use Rattle.hk_script.proofs.Totals.{at_place, nest_leaves, nest_few, each_at}
use Rattle.hk_script.proofs.Linked.{arounds_drop, length-arounds, all_around, ways_at, ways_more, ways_end, links_at, links_more}

-- a place where a walk can stand
pub record StopAt (s : List Statement) (q : ℕ) : Type 0 where
  pub within : q ≤ length s
  pub stop : IsStop (slice_get s q)

pub get_here : (s : List Statement) (i : ℕ) (d : Statement) → i < length s → slice_get s i ≡ Some (get_or s i d)
get_here [] i d lt = absurd (omega arith)
get_here (x ∷ s) zero d lt = refl
get_here (x ∷ s) (suc i) d lt = get_here s i d (omega arith)

pub get_past : (s : List Statement) (i : ℕ) → length s ≤ i → slice_get s i ≡ None
get_past [] i le = refl
get_past (x ∷ s) zero le = absurd (omega arith)
get_past (x ∷ s) (suc i) le = get_past s i (omega arith)

pub end_stops : (s : List Statement) → StopAt s (length s)
end_stops s = record { within = omega arith; stop = rw (get_past s (length s) (omega arith)) tt }

-- a statement that takes a tick
stop_here : (s : List Statement) (i : ℕ) (x : Statement) → i < length s → slice_get s i ≡ Some x → IsStop (Some x) → StopAt s i
stop_here s i x lt e h = record { within = omega arith; stop = rw e h }

begins : (y : Statement) (s : List Statement) → nested 0 [] (y ∷ s) ≡ Ok [] → IsStop (Some y)
unfolding nest
begins statement.Else s e = absurd cc
begins statement.End s e = absurd cc
begins y s e = tt

-- a script begins with a statement that takes a tick
pub first_stops : {limits : Limits} (s : List Statement) → IsScript limits s → StopAt s 0
first_stops [] h = let some = h.some in absurd (omega arith)
first_stops (x ∷ s) h = record { within = omega arith; stop = begins x s h.blocks }

-- ---- what is around a statement

abbrev Marked : List Statement → List Open → Type 0
Marked s o = AllByRecursion (λ b. StopAt s b.mark) o

begun_marked : (s : List Statement) (p : Part) (m : ℕ) (o : List Open) → StopAt s m → Marked s o → (b : Bool) → Marked s (left_open (cond b (Ok (open_block p m ∷ o)) (Err fault.Deep)))
begun_marked s p m o here h true = (here, h)
begun_marked s p m o here h false = tt

parted_marked : (s : List Statement) (o : List Open) → Marked s o → Marked s (left_open (parted o))
parted_marked s [] h = tt
parted_marked s (b ∷ o) h = by_part b.part where
  by_part : (p : Part) → Marked s (left_open (parted_by p b.mark o))
  by_part part.Then = (h.0, h.1)
  by_part part.Otherwise = tt
  by_part part.Turns = tt

ended_marked : (s : List Statement) (o : List Open) → Marked s o → Marked s (left_open (ended o))
ended_marked s [] h = tt
ended_marked s (b ∷ o) h = h.1

nest_marked : (s : List Statement) (i : ℕ) (o : List Open) (x : Statement) → (IsStop (Some x) → StopAt s i) → Marked s o → Marked s (left_open (nest i o x))
unfolding nest
nest_marked s i o (statement.If t) here h = begun_marked s part.Then i o (here tt) h (nat_lt (length o) 16)
nest_marked s i o (statement.Repeat n) here h = begun_marked s part.Turns i o (here tt) h (nat_lt (length o) 16)
nest_marked s i o statement.Else here h = parted_marked s o h
nest_marked s i o statement.End here h = ended_marked s o h
nest_marked s i o x here h = h

-- the `repeat` that is told is one where a walk can stand
abbrev AroundStops : List Statement → Around → Type 0
AroundStops s a = (q : ℕ) → a.again ≡ Some q → StopAt s q

again_stops : (s : List Statement) (o : List Open) (q : ℕ) → Marked s o → again_of o ≡ Some q → StopAt s q
again_stops s [] q h e = absurd cc
again_stops s (b ∷ o) q h e = by_part b.part e where
  by_part : (p : Part) → again_by p b.mark ≡ Some q → StopAt s q
  by_part part.Turns f = let same : b.mark ≡ q = cc in subst (λ (n : ℕ). StopAt s n) same h.0
  by_part part.Then f = absurd cc
  by_part part.Otherwise f = absurd cc

arounds_stop : (s : List Statement) (k i : ℕ) (o : List Open) → i + k ≡ length s → Marked s o → AllByRecursion (AroundStops s) (arounds o i (drop i s))
arounds_stop s zero i o e h = let none : drop i s ≡ [] = drop_all i s (omega arith) in rw none tt
arounds_stop s (suc k) i o e h =
    let x = get_or s i statement.End in
    let lt : i < length s = omega arith in
    let cut : drop i s ≡ x ∷ drop (i + 1) s = drop_more s i statement.End lt in
    let here : IsStop (Some x) → StopAt s i = λ stop. stop_here s i x lt (get_here s i statement.End lt) stop in
    let rest = arounds_stop s k (i + 1) (left_open (nest i o x)) (omega arith) (nest_marked s i o x here h) in
    subst (λ (t : List Statement). AllByRecursion (AroundStops s) (arounds o i t)) (sym cut) ((λ q f. again_stops s o q h f), rest)

all_at : {X : Type 0} (P : X → Type 0) (xs : List X) (i : ℕ) (d : X) → AllByRecursion P xs → i < length xs → P (get_or xs i d)
all_at P [] i d h lt = absurd (omega arith)
all_at P (x ∷ xs) zero d h lt = h.0
all_at P (x ∷ xs) (suc i) d h lt = all_at P xs i d h.1 (omega arith)

-- ---- the ways

record GoodWays (s : List Statement) (w : Ways) : Type 0 where
  on : StopAt s w.on
  blocks : AllByRecursion (λ b. StopAt s b.other × StopAt s b.after) w.blocks

nearest_good : (s : List Statement) (bs : List Beyond) → StopAt s 0 → AllByRecursion (λ b. StopAt s b.other × StopAt s b.after) bs → StopAt s (nearest bs).other × StopAt s (nearest bs).after
nearest_good s [] z h = (z, z)
nearest_good s (b ∷ bs) z h = (h.0.0, h.0.1)

outer_good : (s : List Statement) (bs : List Beyond) → AllByRecursion (λ b. StopAt s b.other × StopAt s b.after) bs → AllByRecursion (λ b. StopAt s b.other × StopAt s b.after) (outer_of bs)
outer_good s [] h = tt
outer_good s (b ∷ bs) h = h.1

again_good : (s : List Statement) (o : Option ℕ) (n : ℕ) → ((q : ℕ) → o ≡ Some q → StopAt s q) → StopAt s n → StopAt s (unwrap_or o n)
again_good s None n h g = g
again_good s (Some q) n h g = h q refl

leads_good : (s : List Statement) (a : Around) (i : ℕ) (x : Statement) (w : Ways) → (IsStop (Some x) → StopAt s i) → AroundStops s a → StopAt s 0 → GoodWays s w → GoodWays s (leads a i x w)
leads_good s a i (statement.If t) w here near z g = record { on = here tt; blocks = outer_good s w.blocks g.blocks }
leads_good s a i (statement.Repeat n) w here near z g = record { on = here tt; blocks = outer_good s w.blocks g.blocks }
leads_good s a i statement.Else w here near z g = let n = nearest_good s w.blocks z g.blocks in record { on = n.1; blocks = ((g.on, n.1), outer_good s w.blocks g.blocks) }
leads_good s a i statement.End w here near z g = record { on = again_good s a.again w.on near g.on; blocks = ((g.on, g.on), g.blocks) }
leads_good s a i x w here near z g = record { on = here tt; blocks = g.blocks }

abbrev pub nothing_around : Around
nothing_around = record { level = 0; again = None }

ways_good : {limits : Limits} (s : List Statement) (k i : ℕ) → IsScript limits s → i + k ≡ length s → GoodWays s (ways_at s i)
ways_good s zero i h e =
    let same : i ≡ length s = omega arith in
    let g : GoodWays s (record { on = i; blocks = [] }) = record { on = subst (λ (n : ℕ). StopAt s n) (sym same) (end_stops s); blocks = tt } in
    subst (GoodWays s) (ways_end s i same) g
ways_good s (suc k) i h e =
    let x = get_or s i statement.End in
    let lt : i < length s = omega arith in
    let a = get_or (all_around s) i nothing_around in
    let here : IsStop (Some x) → StopAt s i = λ stop. stop_here s i x lt (get_here s i statement.End lt) stop in
    let near : AroundStops s a = all_at (AroundStops s) (all_around s) i nothing_around (arounds_stop s (length s) 0 [] (omega arith) tt) (omega (arith, length-arounds [] 0 s)) in
    subst (GoodWays s) (sym (ways_more s i statement.End nothing_around lt)) (leads_good s a i x (ways_at s (i + 1)) here near (first_stops s h) (ways_good s k (i + 1) h (omega arith)))

-- ---- the links

abbrev nowhere : Link
nowhere = record { on = 0; past = 0; level = 0 }

links_get : (s : List Statement) (i j : ℕ) → j + i < length s → get_or (links_at s j) i nowhere ≡ link (get_or (all_around s) (j + i) nothing_around) (get_or s (j + i) statement.End) (ways_at s ((j + i) + 1))
links_get s zero j lt =
    let same : j + 0 ≡ j = omega arith in
    rw same (ap (λ (t : List Link). get_or t 0 nowhere) (links_more s j statement.End nothing_around (omega arith)))
links_get s (suc i) j lt =
    let same : j + suc i ≡ (j + 1) + i = omega arith in
    let here = ap (λ (t : List Link). get_or t (suc i) nowhere) (links_more s j statement.End nothing_around (omega arith)) in
    rw same (here ∙ links_get s i (j + 1) (omega arith))

pub link_is : (s : List Statement) (i : ℕ) → i < length s → link_at s i ≡ link (get_or (all_around s) i nothing_around) (get_or s i statement.End) (ways_at s (i + 1))
unfolding links_of
link_is s i lt = let same : 0 + i ≡ i = omega arith in subst (λ (n : ℕ). get_or (links_at s 0) i nowhere ≡ link (get_or (all_around s) n nothing_around) (get_or s n statement.End) (ways_at s (n + 1))) same (links_get s i 0 (omega arith))

past_good : (s : List Statement) (x : Statement) (b : Beyond) → StopAt s b.other × StopAt s b.after → StopAt s (past_of x b)
past_good s (statement.Repeat n) b g = g.1
past_good s x b g = g.0

-- wherever a link leads, a walk can stand
pub link_stops : {limits : Limits} (s : List Statement) (i : ℕ) → IsScript limits s → i < length s → StopAt s (link_at s i).on × StopAt s (link_at s i).past
link_stops s i h lt =
    let w = ways_at s (i + 1) in
    let g = ways_good s (length s - (i + 1)) (i + 1) h (omega arith) in
    let l = link (get_or (all_around s) i nothing_around) (get_or s i statement.End) w in
    let both : StopAt s l.on × StopAt s l.past = (g.on, past_good s (get_or s i statement.End) (nearest w.blocks) (nearest_good s w.blocks (first_stops s h) g.blocks)) in
    subst (λ (k : Link). StopAt s k.on × StopAt s k.past) (sym (link_is s i lt)) both

head_of : (a b : Around) (xs ys : List Around) → a ∷ xs ≡ b ∷ ys → a ≡ b
head_of a b xs ys e = cc

-- a `repeat` has a level with a counter
pub level_small : {limits : Limits} (s : List Statement) (i n : ℕ) → IsScript limits s → i < length s → get_or s i statement.End ≡ statement.Repeat n → (link_at s i).level < 16
level_small s i n h lt is =
    let r = at_place 0 [] s i (omega arith) h.blocks (omega arith) in
    let same : 0 + i ≡ i = omega arith in
    let cut : drop i s ≡ statement.Repeat n ∷ drop (i + 1) s = drop_more s i statement.End lt ∙ ap (λ (y : Statement). y ∷ drop (i + 1) s) is in
    let one : drop i (all_around s) ≡ get_or (all_around s) i nothing_around ∷ drop (i + 1) (all_around s) = drop_more (all_around s) i nothing_around (omega (arith, length-arounds [] 0 s)) in
    let two : drop i (all_around s) ≡ arounds r.blocks i (statement.Repeat n ∷ drop (i + 1) s) = subst (λ (m : ℕ). drop i (all_around s) ≡ arounds r.blocks m (drop i s)) same (arounds_drop 0 [] r.blocks s i (omega arith) r.before) ∙ ap (arounds r.blocks i) cut in
    let head : get_or (all_around s) i nothing_around ≡ around r.blocks = head_of (get_or (all_around s) i nothing_around) (around r.blocks) (drop (i + 1) (all_around s)) (arounds (left_open (nest i r.blocks (statement.Repeat n))) (i + 1) (drop (i + 1) s)) (sym one ∙ two) in
    let f : nested i r.blocks (statement.Repeat n ∷ drop (i + 1) s) ≡ Ok [] = subst (λ (t : List Statement). nested i r.blocks t ≡ Ok []) cut (subst (λ (m : ℕ). nested m r.blocks (drop i s) ≡ Ok []) same r.follows) in
    let step = bind_ok (nest i r.blocks (statement.Repeat n)) (λ after. nested (i + 1) after (drop (i + 1) s)) [] f in
    let grown = nest_leaves i (statement.Repeat n) r.blocks step.0 step.1 in
    let few = nest_few i (statement.Repeat n) r.blocks step.0 step.1 r.few in
    let level : (link_at s i).level ≡ length r.blocks = ap (λ (k : Link). k.level) (link_is s i lt) ∙ ap (λ (a : Around). a.level) head in
    omega (arith, level, grown, few)

-- ---- a step of a walk

stepped_fits : (s : List Statement) (l : Link) (w : Walk) (r : Reply) (x : Statement) → IsStop (Some x) → StopAt s l.on → StopAt s l.past → Fits s (stepped l w r x)
stepped_fits s l w r (statement.If t) st on past = by_test (holds t w r) where
  by_test : (b : Bool) → Fits s (cond b (at l.on w) (at l.past w))
  by_test true = record { within = on.within; stop = on.stop }
  by_test false = record { within = past.within; stop = past.stop }
stepped_fits s l w r (statement.Repeat n) st on past = by_turn (nat_lt (slice_index w.turns l.level) n) where
  by_turn : (b : Bool) → Fits s (cond b (record w { place = l.on; turns = slice_set w.turns l.level (slice_index w.turns l.level + 1) }) (record w { place = l.past; turns = slice_set w.turns l.level 0 }))
  by_turn true = record { within = on.within; stop = on.stop }
  by_turn false = record { within = past.within; stop = past.stop }
stepped_fits s l w r statement.Else st on past = absurd st
stepped_fits s l w r statement.End st on past = absurd st
stepped_fits s l w r x st on past = record { within = on.within; stop = on.stop }

-- a walk that fits fits after its next statement
pub keeps_fitting : {limits : Limits} (s : List Statement) (w : Walk) (r : Reply) → IsScript limits s → Fits s w → w.place < length s → Fits s (walk_after s w r)
unfolding walk_after
keeps_fitting s w r h f lt =
    let x = get_or s w.place statement.End in
    let is : slice_get s w.place ≡ Some x = get_here s w.place statement.End lt in
    let st : IsStop (Some x) = subst IsStop is f.stop in
    let l = link_stops s w.place h lt in
    subst (λ (o : Option Statement). Fits s (moved (link_at s w.place) w r o)) (sym is) (stepped_fits s (link_at s w.place) w r x st l.0 l.1)

pub started_fits : {limits : Limits} (s : List Statement) (job : ℕ) → IsScript limits s → Fits s (started job)
started_fits s job h = let z = first_stops s h in record { within = z.within; stop = z.stop }

wants : (w : Walk) (x : Statement) → IsStop (Some x) → IsSome (need_in w x)
wants w statement.Else st = absurd st
wants w statement.End st = absurd st
wants w x st = refl

-- a walk that fits wants nothing exactly at the end
pub wants_until_end : (s : List Statement) (w : Walk) → Fits s w → w.place < length s → IsSome (need_of s w)
unfolding need_of
wants_until_end s w f lt =
    let x = get_or s w.place statement.End in
    let is : slice_get s w.place ≡ Some x = get_here s w.place statement.End lt in
    subst (λ (o : Option Statement). IsSome (need_at w o)) (sym is) (wants w x (subst IsStop is f.stop))

pub nothing_at_end : (s : List Statement) (w : Walk) → length s ≤ w.place → need_of s w ≡ None
unfolding need_of
nothing_at_end s w le = ap (need_at w) (get_past s w.place le)

-- ---- what a step of a walk needs

pub wanted_within : (s : List Statement) (w : Walk) (P : Need → Type 0) → IsSomeAnd (need_of s w) P → w.place < length s
wanted_within s w P h =
    elim (cases_lt w.place (length s)) [
      | inl lt ↦ lt
      | inr le ↦ absurd (subst (λ (o : Option Need). IsSomeAnd o P) (nothing_at_end s w le) h)
    ]

-- the statement at a place, read from the statements that a call gave
pub record Here (s : List Statement) (i : ℕ) (x : Statement) : Type 0 where
  pub within : i < length s
  pub statement : IsStatement widest x
  pub level : HasLevel x (link_at s i)
  pub get : slice_get s i ≡ Some x

has_level : {limits : Limits} (s : List Statement) (i : ℕ) (x : Statement) → IsScript limits s → i < length s → get_or s i statement.End ≡ x → HasLevel x (link_at s i)
has_level s i (statement.Repeat n) h lt e = level_small s i n h lt e
has_level s i x h lt e = tt

pub read_here : (s given : List Statement) (i : ℕ) (x : Statement) → IsScript widest s → given ≡ s → i < length s → x ≡ get_or given i x → Here s i x
read_here s given i x h same lt item =
    let f : x ≡ get_or s i x = subst (λ (t : List Statement). x ≡ get_or t i x) same item in
    let g : x ≡ get_or s i statement.End = get_or_read s i x lt f statement.End in
    record {
      within = lt;
      statement = subst (IsStatement widest) (sym f) (each_at widest s i x h.each lt);
      level = has_level s i x h lt (sym g);
      get = get_here s i statement.End lt ∙ ap (λ (y : Statement). Some y) (sym g);
    }

pub after_is : (s : List Statement) (w new : Walk) (r : Reply) (x : Statement) (l : Link) → Here s w.place x → l ≡ link_at s w.place → new ≡ stepped l w r x → new ≡ walk_after s w r
unfolding walk_after
after_is s w new r x l h e f = f ∙ ap (λ (k : Link). stepped k w r x) e ∙ ap (moved (link_at s w.place) w r) (sym h.get)

pub item_past : (s : List Statement) (p : ℕ) → length s ≤ p → get_or s p statement.End ≡ statement.End
item_past [] p le = refl
item_past (x ∷ s) zero le = absurd (omega arith)
item_past (x ∷ s) (suc p) le = item_past s p (omega arith)
