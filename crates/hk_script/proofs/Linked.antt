-- The links of a script, as they are made: what is around each statement from the front, and the ways from the end.
use Rattle.std.proofs.Common.{◌≡◌, ℕ, suc, zero, ◌+◌, ◌-◌, ◌<◌, ◌≤◌, List, [], ◌∷◌, ◌++◌, length, take, drop, get_or, Result, Ok, Err, refl, sym, ap, ◌∙◌, subst, arith, append_assoc}
use Rattle.std.specs.Prelude.{slice_set}
use Rattle.std.proofs.lemmas.Grind.{common_steps}
use Rattle.std.proofs.lemmas.List.{drop_more, drop_all}
use Rattle.hk_script.specs.declared.beyond.Beyond.{Beyond}
use Rattle.hk_script.specs.declared.blocks.Open.{Open}
use Rattle.hk_script.specs.declared.error.Fault.{Fault}
use Rattle.hk_script.specs.declared.error.ScriptError.{ScriptError}
use Rattle.hk_script.specs.declared.error.ScriptError.TheVariants as error
use Rattle.hk_script.specs.declared.linking.Around.{Around}
use Rattle.hk_script.specs.declared.linking.Link.{Link}
use Rattle.hk_script.specs.declared.limits.Limits.{Limits}
use Rattle.hk_script.specs.declared.statement.Statement.{Statement}
use Rattle.hk_script.specs.declared.statement.Statement.TheVariants as statement
use Rattle.hk_script.specs.Blocks.{nest, nested, IsScript}
use Rattle.hk_script.specs.Cost.{beyond, nearest, outer_of}
use Rattle.hk_script.specs.Sums.{room_of}
use Rattle.hk_script.specs.Texts.{then_at, done, Refuses}
use Rattle.hk_script.specs.Links.{around, left_open, arounds, Ways, leads, ways, link, links, links_of}
use Rattle.hk_script.proofs.Arguments.{bind_ok, ok_is}
use Rattle.hk_script.proofs.Totals.{Leaves, nest_leaves, at_place}

pub only_memory : {A : Type 0} (e : ScriptError) (r : Result A ScriptError) (x : A) → r ≡ Ok x → Refuses e r → e ≡ error.Memory
only_memory error.Memory r x i h = refl
only_memory (error.Word l) r x i h = let j = sym i ∙ h in absurd cc
only_memory (error.Number l) r x i h = let j = sym i ∙ h in absurd cc
only_memory (error.Register l) r x i h = let j = sym i ∙ h in absurd cc
only_memory (error.Variable l) r x i h = let j = sym i ∙ h in absurd cc
only_memory (error.Shape l) r x i h = let j = sym i ∙ h in absurd cc
only_memory (error.Block l) r x i h = let j = sym i ∙ h in absurd cc
only_memory (error.Deep l) r x i h = let j = sym i ∙ h in absurd cc
only_memory error.Long r x i h = let j = sym i ∙ h in absurd cc
only_memory error.Empty r x i h = let j = sym i ∙ h in absurd cc

nest_is : (line : ℕ) (r : Result (List Open) Fault) (new : List Open) → then_at line r done ≡ Ok new → r ≡ Ok new
nest_is line (Ok x) new e = let same : x ≡ new = cc in ap (λ (t : List Open). let q : Result (List Open) Fault = Ok t in q) same
nest_is line (Err d) new e = absurd cc

-- ---- from the front

-- a statement that nests, in front of others that do
pub nests_first : (place : ℕ) (blocks : List Open) (s : List Statement) (i : ℕ) (x : Statement) → i < length s → x ≡ get_or s i x → nested place blocks (drop i s) ≡ Ok [] → (after : List Open) × (nest place blocks x ≡ Ok after) × (nested (place + 1) after (drop (i + 1) s) ≡ Ok [])
nests_first place blocks s i x lt item e =
    let cut : drop i s ≡ x ∷ drop (i + 1) s = drop_more s i x lt ∙ ap (λ (y : Statement). y ∷ drop (i + 1) s) (sym item) in
    let f : nested place blocks (x ∷ drop (i + 1) s) ≡ Ok [] = subst (λ (t : List Statement). nested place blocks t ≡ Ok []) cut e in
    bind_ok (nest place blocks x) (λ after. nested (place + 1) after (drop (i + 1) s)) [] f

-- such a statement is refused for want of memory alone
pub nests_or_memory : (place : ℕ) (blocks : List Open) (s : List Statement) (i : ℕ) (x : Statement) (e : ScriptError) → i < length s → x ≡ get_or s i x → nested place blocks (drop i s) ≡ Ok [] → Refuses e (then_at place (nest place blocks x) done) → e ≡ error.Memory
nests_or_memory place blocks s i x e lt item n h =
    let f = nests_first place blocks s i x lt item n in
    only_memory e (then_at place (nest place blocks x) done) f.0 (ap (λ (r : Result (List Open) Fault). then_at place r done) f.1) h

pub record OneMore (place : ℕ) (new : List Open) (s : List Statement) (i : ℕ) (all whole : List Around) : Type 0 where
  pub made : all ++ arounds new (place + 1) (drop (i + 1) s) ≡ whole
  pub nests : nested (place + 1) new (drop (i + 1) s) ≡ Ok []

pub one_more : (place : ℕ) (blocks new : List Open) (s : List Statement) (i : ℕ) (x : Statement) (all whole : List Around) → i < length s → x ≡ get_or s i x → all ++ arounds blocks place (drop i s) ≡ whole → nested place blocks (drop i s) ≡ Ok [] → then_at place (nest place blocks x) done ≡ Ok new → OneMore place new s i (all ++ around blocks ∷ []) whole
one_more place blocks new s i x all whole lt item w n e =
    let f = nests_first place blocks s i x lt item n in
    let is = nest_is place (nest place blocks x) new e in
    let same : f.0 ≡ new = ok_is f.0 new (sym f.1 ∙ is) in
    let cut : drop i s ≡ x ∷ drop (i + 1) s = drop_more s i x lt ∙ ap (λ (y : Statement). y ∷ drop (i + 1) s) (sym item) in
    let first : arounds blocks place (drop i s) ≡ around blocks ∷ arounds new (place + 1) (drop (i + 1) s) = ap (arounds blocks place) cut ∙ ap (λ (r : Result (List Open) Fault). around blocks ∷ arounds (left_open r) (place + 1) (drop (i + 1) s)) is in
    record {
      made = append_assoc all (around blocks ∷ []) (arounds new (place + 1) (drop (i + 1) s)) ∙ ap (λ (t : List Around). all ++ t) (sym first) ∙ w;
      nests = subst (λ (b : List Open). nested (place + 1) b (drop (i + 1) s) ≡ Ok []) same f.2;
    }

pub length-arounds : (blocks : List Open) (place : ℕ) (s : List Statement) → length (arounds blocks place s) ≡ length s
length-arounds blocks place [] = refl
length-arounds blocks place (x ∷ s) = ap suc (length-arounds (left_open (nest place blocks x)) (place + 1) s)

-- ---- from the end

-- what is around the statements from a place on
pub arounds_drop : (p : ℕ) (o r : List Open) (s : List Statement) (i : ℕ) → i ≤ length s → nested p o (take i s) ≡ Ok r → drop i (arounds o p s) ≡ arounds r (p + i) (drop i s)
arounds_drop p o r s zero le e = let same : p + 0 ≡ p = omega arith in let is : o ≡ r = ok_is o r e in rw same (ap (λ (b : List Open). arounds b p s) is)
arounds_drop p o r [] (suc i) le e = absurd (omega arith)
arounds_drop p o r (x ∷ s) (suc i) le e =
    let step = bind_ok (nest p o x) (λ after. nested (p + 1) after (take i s)) r e in
    let same : p + suc i ≡ (p + 1) + i = omega arith in
    let rest = arounds_drop (p + 1) step.0 r s i (omega arith) step.2 in
    ap (λ (q : Result (List Open) Fault). drop i (arounds (left_open q) (p + 1) s)) step.1 ∙ rest ∙ ap (λ (n : ℕ). arounds r n (drop i s)) (sym same)

outer_count : (bs : List Beyond) (n : ℕ) → length bs ≡ n + 1 → length (outer_of bs) ≡ n
outer_count [] n e = absurd (omega arith)
outer_count (b ∷ bs) n e = omega arith

other_count : (b : Beyond) (bs : List Beyond) (n : ℕ) → 0 < n → length bs ≡ n → length (b ∷ outer_of bs) ≡ n
other_count b [] n some e = absurd (omega arith)
other_count b (c ∷ bs) n some e = omega arith

leads_count : (a : Around) (p : ℕ) (s : Statement) (w : Ways) (before : ℕ) → Leaves s before (length w.blocks) → length (leads a p s w).blocks ≡ before
leads_count a p (statement.If t) w before h = outer_count w.blocks before h
leads_count a p (statement.Repeat n) w before h = outer_count w.blocks before h
leads_count a p statement.Else w before h = other_count (beyond w.on (nearest w.blocks).after) w.blocks before h.0 h.1
leads_count a p statement.End w before h = omega arith
leads_count a p s w before h = h

pub count_ways : (p : ℕ) (o : List Open) (s : List Statement) → nested p o s ≡ Ok [] → length (ways (arounds o p s) p s).blocks ≡ length o
count_ways p o [] e = sym (ap length (ok_is o [] e))
count_ways p o (x ∷ s) e =
    let step = bind_ok (nest p o x) (λ after. nested (p + 1) after s) [] e in
    let rest = count_ways (p + 1) step.0 s step.2 in
    let same : ways (arounds (left_open (nest p o x)) (p + 1) s) (p + 1) s ≡ ways (arounds step.0 (p + 1) s) (p + 1) s = ap (λ (q : Result (List Open) Fault). ways (arounds (left_open q) (p + 1) s) (p + 1) s) step.1 in
    let count : length (ways (arounds (left_open (nest p o x)) (p + 1) s) (p + 1) s).blocks ≡ length step.0 = ap (λ (w : Ways). length w.blocks) same ∙ rest in
    leads_count (around o) p x (ways (arounds (left_open (nest p o x)) (p + 1) s) (p + 1) s) (length o) (subst (λ (n : ℕ). Leaves x (length o) n) (sym count) (nest_leaves p x o step.0 step.1))

abbrev pub all_around : List Statement → List Around
all_around s = arounds [] 0 s

-- the ways from a place of a script on
abbrev pub ways_at : List Statement → ℕ → Ways
ways_at s i = ways (drop i (all_around s)) i (drop i s)

pub few_ways : {limits : Limits} (s : List Statement) (i : ℕ) → IsScript limits s → i ≤ length s → length (ways_at s i).blocks ≤ 16
few_ways s i h le =
    let r = at_place 0 [] s i le h.blocks (omega arith) in
    let zero_i : 0 + i ≡ i = omega arith in
    let a : drop i (all_around s) ≡ arounds r.blocks i (drop i s) = subst (λ (n : ℕ). drop i (all_around s) ≡ arounds r.blocks n (drop i s)) zero_i (arounds_drop 0 [] r.blocks s i le r.before) in
    let f : nested i r.blocks (drop i s) ≡ Ok [] = subst (λ (n : ℕ). nested n r.blocks (drop i s) ≡ Ok []) zero_i r.follows in
    let n = ap (λ (t : List Around). length (ways t i (drop i s)).blocks) a ∙ count_ways i r.blocks (drop i s) f in
    let few = r.few in
    omega (arith, n)

-- one statement more in front
pub ways_more : (s : List Statement) (i : ℕ) (x : Statement) (a : Around) → i < length s → ways_at s i ≡ leads (get_or (all_around s) i a) i (get_or s i x) (ways_at s (i + 1))
ways_more s i x a lt =
    let one : drop i s ≡ get_or s i x ∷ drop (i + 1) s = drop_more s i x lt in
    let two : drop i (all_around s) ≡ get_or (all_around s) i a ∷ drop (i + 1) (all_around s) = drop_more (all_around s) i a (omega (arith, length-arounds [] 0 s)) in
    ap (λ (t : List Statement). ways (drop i (all_around s)) i t) one ∙ ap (λ (t : List Around). ways t i (get_or s i x ∷ drop (i + 1) s)) two

-- the links from a place on
abbrev pub links_at : List Statement → ℕ → List Link
links_at s i = links (drop i (all_around s)) i (drop i s)

pub links_more : (s : List Statement) (i : ℕ) (x : Statement) (a : Around) → i < length s → links_at s i ≡ link (get_or (all_around s) i a) (get_or s i x) (ways_at s (i + 1)) ∷ links_at s (i + 1)
links_more s i x a lt =
    let one : drop i s ≡ get_or s i x ∷ drop (i + 1) s = drop_more s i x lt in
    let two : drop i (all_around s) ≡ get_or (all_around s) i a ∷ drop (i + 1) (all_around s) = drop_more (all_around s) i a (omega (arith, length-arounds [] 0 s)) in
    ap (λ (t : List Statement). links (drop i (all_around s)) i t) one ∙ ap (λ (t : List Around). links t i (get_or s i x ∷ drop (i + 1) s)) two

room_front : (a : Around) (p : ℕ) (x : Statement) (w : Ways) → length (leads a p x w).blocks ≤ 16 → length w.blocks ≤ 16 → length w.blocks ≤ room_of x
room_front a p statement.End w all few = omega arith
room_front a p x w all few = few

drop_written : (all : List Link) (i : ℕ) (l : Link) → i < length all → drop i (slice_set all i l) ≡ l ∷ drop (i + 1) all
drop_written all i l lt = grind (arith, common_steps)

-- the loop from the end, at the statement before a place
module _ {limits : Limits} (s : List Statement) (place : ℕ) (x : Statement) (a : Around) (old : Ways) (h : IsScript limits s) (some : 0 < place) (within : place ≤ length s) (item : x ≡ get_or s (place - 1) x) (near : a ≡ get_or (all_around s) (place - 1) a) (e : old ≡ ways_at s place) where
  back : place ≡ (place - 1) + 1
  back = omega arith

  shifted : old ≡ ways_at s ((place - 1) + 1)
  shifted = subst (λ (n : ℕ). old ≡ ways_at s n) back e

  pub ways_step : leads a (place - 1) x old ≡ ways_at s (place - 1)
  ways_step =
      ap (leads a (place - 1) x) shifted
      ∙ ap (λ (y : Statement). leads a (place - 1) y (ways_at s ((place - 1) + 1))) item
      ∙ ap (λ (b : Around). leads b (place - 1) (get_or s (place - 1) x) (ways_at s ((place - 1) + 1))) near
      ∙ sym (ways_more s (place - 1) x a (omega arith))

  pub ways_room : length old.blocks ≤ room_of x
  ways_room =
      let front : length (leads a (place - 1) x old).blocks ≤ 16 = subst (λ (w : Ways). length w.blocks ≤ 16) (sym ways_step) (few_ways s (place - 1) h (omega arith)) in
      let here : length old.blocks ≤ 16 = subst (λ (w : Ways). length w.blocks ≤ 16) (sym e) (few_ways s place h within) in
      room_front a (place - 1) x old front here

  pub links_step : (all : List Link) → length all ≡ length s → drop place all ≡ links_at s place → drop (place - 1) (slice_set all (place - 1) (link a x old)) ≡ links_at s (place - 1)
  links_step all len d =
      let put = drop_written all (place - 1) (link a x old) (omega arith) in
      let rest : drop ((place - 1) + 1) all ≡ links_at s ((place - 1) + 1) = subst (λ (n : ℕ). drop n all ≡ links_at s n) back d in
      put
      ∙ ap (λ (t : List Link). link a x old ∷ t) rest
      ∙ ap (λ (w : Ways). link a x w ∷ links_at s ((place - 1) + 1)) shifted
      ∙ ap (λ (y : Statement). link a y (ways_at s ((place - 1) + 1)) ∷ links_at s ((place - 1) + 1)) item
      ∙ ap (λ (b : Around). link b (get_or s (place - 1) x) (ways_at s ((place - 1) + 1)) ∷ links_at s ((place - 1) + 1)) near
      ∙ sym (links_more s (place - 1) x a (omega arith))

-- where the loop begins
pub ways_end : (s : List Statement) (n : ℕ) → n ≡ length s → (let w : Ways = record { on = n; blocks = [] } in w) ≡ ways_at s n
ways_end s n e = let none : drop n s ≡ [] = drop_all n s (omega arith) in sym (ap (λ (t : List Statement). ways (drop n (all_around s)) n t) none)

pub links_end : (s : List Statement) (n : ℕ) (all : List Link) → n ≡ length s → length all ≡ n → drop n all ≡ links_at s n
links_end s n all e len =
    let none : drop n s ≡ [] = drop_all n s (omega arith) in
    let nothing : drop n all ≡ [] = drop_all n all (omega arith) in
    nothing ∙ sym (ap (λ (t : List Statement). links (drop n (all_around s)) n t) none)

length-links : (all : List Around) (p : ℕ) (s : List Statement) → length all ≡ length s → length (links all p s) ≡ length s
length-links all p [] e = refl
length-links [] p (x ∷ s) e = absurd (omega arith)
length-links (a ∷ all) p (x ∷ s) e = ap suc (length-links all (p + 1) s (omega arith))

pub length-links_of : (s : List Statement) → length (links_of s) ≡ length s
unfolding links_of
length-links_of s = length-links (all_around s) 0 s (length-arounds [] 0 s)
