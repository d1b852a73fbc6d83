-- The sums of a script, up to a limit, and how many blocks are open at a place.
use Rattle.std.proofs.Common.{◌≡◌, ℕ, suc, zero, ◌+◌, ◌-◌, ◌*◌, ◌<◌, ◌≤◌, min, max, List, [], ◌∷◌, ◌++◌, length, map, take, drop, get_or, Result, Ok, refl, sym, ap, ◌∙◌, subst, arith, inl, inr}
use Rattle.std.specs.Prelude.{reverse, nat_lt}
use Rattle.std.specs.List.{AllByRecursion}
use Rattle.std.proofs.lemmas.Bool.{cases_lt}
use Rattle.std.proofs.lemmas.Bool.Decides.{nat_tests}
use Rattle.std.proofs.lemmas.List.{take_more, reverse-append, drop_more, length-map}
use Rattle.std.proofs.Math.Nat.{mul-le-mul_right}
use Rattle.hk_script.specs.declared.beyond.Beyond.{Beyond}
use Rattle.hk_script.specs.declared.blocks.Open.{Open}
use Rattle.hk_script.specs.declared.blocks.Part.{Part}
use Rattle.hk_script.specs.declared.blocks.Part.TheVariants as part
use Rattle.hk_script.specs.declared.costs.TheConstants.{LIMIT}
use Rattle.hk_script.specs.declared.error.Fault.{Fault}
use Rattle.hk_script.specs.declared.error.Fault.TheVariants as fault
use Rattle.hk_script.specs.declared.limits.Limits.{Limits}
use Rattle.hk_script.specs.declared.statement.Statement.{Statement}
use Rattle.hk_script.specs.declared.statement.Statement.TheVariants as statement
use Rattle.hk_script.specs.Reading.{◌>>=◌}
use Rattle.hk_script.specs.Spelling.{IsStatement}
use Rattle.hk_script.specs.Blocks.{open_block, begun, parted_by, parted, ended, nest, nested, IsScript}
use Rattle.hk_script.specs.Cost.{Ahead, beyond, nearest, outer_of, in_front, ahead, words_of, largest_of}
use Rattle.hk_script.specs.Sums.{at_most_limit, room_of}
use Rattle.hk_script.proofs.Arguments.{bind_ok, ok_is, passed_or}

pub popped : (items : List Beyond) (d : ℕ) → 0 < d → d ≤ length items → reverse (take (d - 1) items) ≡ outer_of (reverse (take d items))
popped items d some few =
    let back : d ≡ (d - 1) + 1 = omega arith in
    let cut : take d items ≡ take (d - 1) items ++ get_or items (d - 1) (beyond 0 0) ∷ [] = ap (λ (n : ℕ). take n items) back ∙ take_more items (d - 1) (beyond 0 0) (omega arith) in
    sym (ap (λ (t : List Beyond). outer_of (reverse t)) cut ∙ ap outer_of (reverse-append (take (d - 1) items) (get_or items (d - 1) (beyond 0 0) ∷ [])))

-- ---- sums up to the limit

abbrev pub cap : ℕ → ℕ
cap n = min n LIMIT

abbrev pub cap_beyond : Beyond → Beyond
cap_beyond b = beyond (cap b.other) (cap b.after)

-- every sum up to the limit
abbrev pub capped : Ahead → Ahead
capped a = record { here = cap a.here; blocks = map cap_beyond a.blocks }

cap_turns : (n w h f : ℕ) → 1 ≤ n → cap (n * (w + cap h) + w + cap f) ≡ cap (n * (w + h) + w + f)
cap_turns n w h f some =
    elim (cases_lt h LIMIT) [
      | inl lt ↦ (let same : cap h ≡ h = omega arith in rw same (omega arith))
      | inr le ↦ (
          let top : cap h ≡ LIMIT = omega arith in
          let first : 1 * (w + LIMIT) ≤ n * (w + LIMIT) = mul-le-mul_right (w + LIMIT) some in
          let more : w + LIMIT ≤ w + h = omega arith in
          let second : 1 * (w + h) ≤ n * (w + h) = mul-le-mul_right (w + h) some in
          rw top (omega (arith, first, second, more)))
    ]

nearest_capped : (bs : List Beyond) → nearest (map cap_beyond bs) ≡ cap_beyond (nearest bs)
nearest_capped [] = refl
nearest_capped (b ∷ bs) = refl

outer_capped : (bs : List Beyond) → outer_of (map cap_beyond bs) ≡ map cap_beyond (outer_of bs)
outer_capped [] = refl
outer_capped (b ∷ bs) = refl

cap_sum : (w n : ℕ) → cap (w + cap n) ≡ cap (w + n)
cap_sum w n = omega arith

cap_chosen : (w t o f : ℕ) → cap (w + max (cap t) (cap o) + cap f) ≡ cap (w + max t o + f)
cap_chosen w t o f = omega arith

pub two_same : (h k : ℕ) (bs cs : List Beyond) → h ≡ k → bs ≡ cs → (let a : Ahead = record { here = h; blocks = bs } in a) ≡ record { here = k; blocks = cs }
two_same h k bs cs e f = cc

-- a step on sums up to the limit gives what a step on the sums gives, up to the limit
pub front_capped : (limits : Limits) (w : ℕ) (s : Statement) (a : Ahead) → IsStatement limits s → at_most_limit (in_front w s (capped a)) ≡ capped (in_front w s a)
front_capped limits w (statement.If t) a h = two_same _ _ _ _ (rw (nearest_capped a.blocks) (cap_chosen w a.here (nearest a.blocks).other (nearest a.blocks).after)) (outer_capped a.blocks)
front_capped limits w (statement.Repeat n) a h = two_same _ _ _ _ (rw (nearest_capped a.blocks) (cap_turns n w a.here (nearest a.blocks).after h.0)) (outer_capped a.blocks)
front_capped limits w statement.Else a h = two_same _ _ _ _ refl (rw (nearest_capped a.blocks, outer_capped a.blocks) refl)
front_capped limits w statement.End a h = refl
front_capped limits w (statement.Work n) a h = two_same _ _ _ _ (cap_sum w a.here) refl
front_capped limits w (statement.Set v n) a h = two_same _ _ _ _ (cap_sum w a.here) refl
front_capped limits w (statement.Copy v u) a h = two_same _ _ _ _ (cap_sum w a.here) refl
front_capped limits w (statement.Add v u) a h = two_same _ _ _ _ (cap_sum w a.here) refl
front_capped limits w (statement.Sub v u) a h = two_same _ _ _ _ (cap_sum w a.here) refl
front_capped limits w (statement.Job v) a h = two_same _ _ _ _ (cap_sum w a.here) refl
front_capped limits w (statement.Out v) a h = two_same _ _ _ _ (cap_sum w a.here) refl
front_capped limits w (statement.Get v r f) a h = two_same _ _ _ _ (cap_sum w a.here) refl
front_capped limits w (statement.Put r f v) a h = two_same _ _ _ _ (cap_sum w a.here) refl
front_capped limits w (statement.Load d r f) a h = two_same _ _ _ _ (cap_sum w a.here) refl
front_capped limits w (statement.Store r f t) a h = two_same _ _ _ _ (cap_sum w a.here) refl
front_capped limits w (statement.Move d r) a h = two_same _ _ _ _ (cap_sum w a.here) refl
front_capped limits w (statement.Clear d) a h = two_same _ _ _ _ (cap_sum w a.here) refl
front_capped limits w (statement.New d s) a h = two_same _ _ _ _ (cap_sum w a.here) refl

-- ---- the open blocks at a place

begun_small : (p : Part) (m : ℕ) (o after : List Open) → begun p m o ≡ Ok after → (length after ≡ length o + 1) × (length after ≤ 16)
begun_small p m o after e =
    let q = passed_or (nat_lt (length o) 16) fault.Deep (open_block p m ∷ o) after e in
    let few : length o < 16 = grind (arith, nat_tests, q.0) in
    let len : length (open_block p m ∷ o) ≡ length after = ap length q.1 in
    (omega (arith, len), omega (arith, len))

-- how many blocks a statement leaves open
abbrev pub Leaves : Statement → ℕ → ℕ → Type 0
Leaves (statement.If t) before after = after ≡ before + 1
Leaves (statement.Repeat n) before after = after ≡ before + 1
Leaves statement.Else before after = (0 < before) × (after ≡ before)
Leaves statement.End before after = before ≡ after + 1
Leaves s before after = after ≡ before

parted_leaves : (o after : List Open) → parted o ≡ Ok after → (0 < length o) × (length after ≡ length o)
parted_leaves [] after e = absurd cc
parted_leaves (b ∷ o) after e = by_part b.part refl where
  by_part : (p : Part) → b.part ≡ p → (0 < length (b ∷ o)) × (length after ≡ length (b ∷ o))
  by_part part.Then i =
      let f : parted_by part.Then b.mark o ≡ Ok after = rw i at e in
      let len = ap length (ok_is (open_block part.Otherwise b.mark ∷ o) after f) in
      (omega arith, sym len)
  by_part part.Otherwise i = let f : parted_by part.Otherwise b.mark o ≡ Ok after = rw i at e in absurd cc
  by_part part.Turns i = let f : parted_by part.Turns b.mark o ≡ Ok after = rw i at e in absurd cc

ended_leaves : (o after : List Open) → ended o ≡ Ok after → length o ≡ length after + 1
ended_leaves [] after e = absurd cc
ended_leaves (b ∷ o) after e = let len = ap length (ok_is o after e) in omega (arith, len)

same_leaves : (o after : List Open) → (let r : Result (List Open) Fault = Ok o in r) ≡ Ok after → length after ≡ length o
same_leaves o after e = sym (ap length (ok_is o after e))

pub nest_leaves : (m : ℕ) (s : Statement) (o after : List Open) → nest m o s ≡ Ok after → Leaves s (length o) (length after)
unfolding nest
nest_leaves m (statement.If t) o after e = (begun_small part.Then m o after e).0
nest_leaves m (statement.Repeat n) o after e = (begun_small part.Turns m o after e).0
nest_leaves m statement.Else o after e = parted_leaves o after e
nest_leaves m statement.End o after e = ended_leaves o after e
nest_leaves m s o after e = same_leaves o after e

pub nest_few : (m : ℕ) (s : Statement) (o after : List Open) → nest m o s ≡ Ok after → length o ≤ 16 → length after ≤ 16
unfolding nest
nest_few m (statement.If t) o after e few = (begun_small part.Then m o after e).1
nest_few m (statement.Repeat n) o after e few = (begun_small part.Turns m o after e).1
nest_few m statement.Else o after e few = let p = parted_leaves o after e in omega (arith, p.1)
nest_few m statement.End o after e few = let p = ended_leaves o after e in omega (arith, p)
nest_few m s o after e few = let p = same_leaves o after e in omega (arith, p)

outer_count : (bs : List Beyond) (n : ℕ) → length bs ≡ n + 1 → length (outer_of bs) ≡ n
outer_count [] n e = absurd (omega arith)
outer_count (b ∷ bs) n e = omega arith

other_count : (b : Beyond) (bs : List Beyond) (n : ℕ) → 0 < n → length bs ≡ n → length (b ∷ outer_of bs) ≡ n
other_count b [] n some e = absurd (omega arith)
other_count b (c ∷ bs) n some e = omega arith

front_count : (w : ℕ) (s : Statement) (a : Ahead) (before : ℕ) → Leaves s before (length a.blocks) → length (in_front w s a).blocks ≡ before
front_count w (statement.If t) a before h = outer_count a.blocks before h
front_count w (statement.Repeat n) a before h = outer_count a.blocks before h
front_count w statement.Else a before h = other_count (beyond a.here (nearest a.blocks).after) a.blocks before h.0 h.1
front_count w statement.End a before h = omega arith
front_count w s a before h = h

-- as many blocks lie ahead as are open
pub count_ahead : (weight : Statement → ℕ) (p : ℕ) (o : List Open) (s : List Statement) → nested p o s ≡ Ok [] → length (ahead weight s).blocks ≡ length o
count_ahead weight p o [] e = sym (ap length (ok_is o [] e))
count_ahead weight p o (x ∷ s) e =
    let step = bind_ok (nest p o x) (λ after. nested (p + 1) after s) [] e in
    let rest = count_ahead weight (p + 1) step.0 s step.2 in
    front_count (weight x) x (ahead weight s) (length o) (subst (λ (n : ℕ). Leaves x (length o) n) (sym rest) (nest_leaves p x o step.0 step.1))

-- the blocks that are open at a place, of which what follows ends all
pub record At (p : ℕ) (o : List Open) (s : List Statement) (i : ℕ) : Type 0 where
  pub blocks : List Open
  pub before : nested p o (take i s) ≡ Ok blocks
  pub follows : nested (p + i) blocks (drop i s) ≡ Ok []
  pub few : length blocks ≤ 16

pub at_place : (p : ℕ) (o : List Open) (s : List Statement) (i : ℕ) → i ≤ length s → nested p o s ≡ Ok [] → length o ≤ 16 → At p o s i
at_place p o s zero le e few = record { blocks = o; before = refl; follows = let same : p + 0 ≡ p = omega arith in rw same e; few = few }
at_place p o [] (suc i) le e few = absurd (omega arith)
at_place p o (x ∷ s) (suc i) le e few =
    let step = bind_ok (nest p o x) (λ after. nested (p + 1) after s) [] e in
    let r = at_place (p + 1) step.0 s i (omega arith) step.2 (nest_few p x o step.0 step.1 few) in
    let same : p + suc i ≡ (p + 1) + i = omega arith in
    record { blocks = r.blocks; before = ap (λ (q : Result (List Open) Fault). q >>= λ after. nested (p + 1) after (take i s)) step.1 ∙ r.before; follows = rw same r.follows; few = r.few }

-- at most 16 blocks lie ahead
pub few_ahead : {limits : Limits} (weight : Statement → ℕ) (s : List Statement) (i : ℕ) → IsScript limits s → i ≤ length s → length (ahead weight (drop i s)).blocks ≤ 16
few_ahead weight s i h le =
    let r = at_place 0 [] s i le h.blocks (omega arith) in
    let n = count_ahead weight (0 + i) r.blocks (drop i s) r.follows in
    let few = r.few in
    omega (arith, n)

-- ---- the loop from the end

-- one statement more in front
pub ahead_more : (weight : Statement → ℕ) (s : List Statement) (i : ℕ) (d : Statement) → i < length s → ahead weight (drop i s) ≡ in_front (weight (get_or s i d)) (get_or s i d) (ahead weight (drop (i + 1) s))
ahead_more weight s i d lt = ap (ahead weight) (drop_more s i d lt)

-- a statement at a place is one of the script
pub each_at : (limits : Limits) (s : List Statement) (i : ℕ) (d : Statement) → AllByRecursion (IsStatement limits) s → i < length s → IsStatement limits (get_or s i d)
each_at limits [] i d h lt = absurd (omega arith)
each_at limits (x ∷ s) zero d h lt = h.0
each_at limits (x ∷ s) (suc i) d h lt = each_at limits s i d h.1 (omega arith)

-- the loop's step
pub step_back : {limits : Limits} (weight : Statement → ℕ) (s : List Statement) (i : ℕ) (d : Statement) (old new : Ahead) → IsScript limits s → i < length s → old ≡ capped (ahead weight (drop (i + 1) s)) → new ≡ at_most_limit (in_front (weight (get_or s i d)) (get_or s i d) old) → new ≡ capped (ahead weight (drop i s))
step_back {limits} weight s i d old new h lt e f =
    let x = get_or s i d in
    let a = ahead weight (drop (i + 1) s) in
    f ∙ ap (λ (t : Ahead). at_most_limit (in_front (weight x) x t)) e ∙ front_capped limits (weight x) x a (each_at limits s i d h.each lt) ∙ ap capped (sym (ahead_more weight s i d lt))

room_front : (w : ℕ) (x : Statement) (a : Ahead) → length (in_front w x a).blocks ≤ 16 → length a.blocks ≤ 16 → length a.blocks ≤ room_of x
room_front w statement.End a all few = omega arith
room_front w x a all few = few

-- there is room for the statement at a place
pub room_at : {limits : Limits} (weight : Statement → ℕ) (s : List Statement) (i : ℕ) (d : Statement) (old : Ahead) → IsScript limits s → i < length s → old ≡ capped (ahead weight (drop (i + 1) s)) → length old.blocks ≤ room_of (get_or s i d)
room_at weight s i d old h lt e =
    let x = get_or s i d in
    let a = ahead weight (drop (i + 1) s) in
    let here : length (in_front (weight x) x a).blocks ≤ 16 = subst (λ (t : Ahead). length t.blocks ≤ 16) (ahead_more weight s i d lt) (few_ahead weight s i h (omega arith)) in
    let next : length a.blocks ≤ 16 = few_ahead weight s (i + 1) h (omega arith) in
    let len : length old.blocks ≡ length a.blocks = ap (λ (t : Ahead). length t.blocks) e ∙ length-map a.blocks cap_beyond in
    let room = room_front (weight x) x a here next in
    omega (arith, len, room)

-- one statement more at the end
largest_push : (s : List Statement) (x : Statement) → largest_of (s ++ x ∷ []) ≡ max (words_of x) (largest_of s)
largest_push [] x = omega arith
largest_push (y ∷ s) x = omega (arith, largest_push s x)

pub largest_more : (s : List Statement) (i : ℕ) (d : Statement) → i < length s → largest_of (take (i + 1) s) ≡ max (words_of (get_or s i d)) (largest_of (take i s))
largest_more s i d lt = ap largest_of (take_more s i d lt) ∙ largest_push (take i s) (get_or s i d)

-- the same, of the statement before a place
module _ {limits : Limits} (weight : Statement → ℕ) (s : List Statement) (place : ℕ) (x : Statement) (old : Ahead) (h : IsScript limits s) (some : 0 < place) (within : place ≤ length s) (item : x ≡ get_or s (place - 1) x) (e : old ≡ capped (ahead weight (drop place s))) where
  shifted : old ≡ capped (ahead weight (drop ((place - 1) + 1) s))
  shifted = let same : place ≡ (place - 1) + 1 = omega arith in subst (λ (n : ℕ). old ≡ capped (ahead weight (drop n s))) same e

  pub room_is : length old.blocks ≤ room_of x
  room_is = subst (λ (y : Statement). length old.blocks ≤ room_of y) (sym item) (room_at weight s (place - 1) x old h (omega arith) shifted)

  pub step_is : (w : ℕ) (new : Ahead) → w ≡ weight x → new ≡ at_most_limit (in_front w x old) → new ≡ capped (ahead weight (drop (place - 1) s))
  step_is w new v f =
      let y = get_or s (place - 1) x in
      let g : new ≡ at_most_limit (in_front (weight x) x old) = f ∙ ap (λ (n : ℕ). at_most_limit (in_front n x old)) v in
      step_back weight s (place - 1) x old new h (omega arith) shifted (subst (λ (z : Statement). new ≡ at_most_limit (in_front (weight z) z old)) item g)
