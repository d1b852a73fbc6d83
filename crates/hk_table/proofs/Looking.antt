-- A look keeps the rule; and so does the keeper, as it takes in a pass.
use Rattle.std.proofs.Common.{◌≡◌, ◌≢◌, ℕ, zero, suc, ◌<◌, ◌≤◌, Bool, true, false, List, [], ◌∷◌, ◌++◌, length, refl, sym, ◌∙◌, ap, subst, arith, append-nil, append_assoc}
use Rattle.std.proofs.lemmas.List.{set-get_or}
use Rattle.std.proofs.lemmas.List.Elements.{filter-append}
use Rattle.std.proofs.lemmas.Bool.Decides.{nat_tests}
use Rattle.std.specs.Prelude.{All, nat_lt, nat_eq, slice_set, slice_index_or, if◌then◌else◌}
use mathlib.Core.Option.{some}
use lib.ListN.{get_elem?}
use Rattle.atomic_table.specs.Table.{State as TableState, Me, keeps, Allows, Joins}
use Rattle.atomic_table.proofs.Lists.{set_else}
use Rattle.hk_words.specs.declared.geometry.Geometry.{Geometry}
use Rattle.hk_words.specs.Geometry.{tasks}
use Rattle.hk_model.specs.History.{History}
use Rattle.hk_core.specs.Run.{Action, begin, step, collect, run, run_from_opening}
use Rattle.hk_collect.proofs.Running.{legal_from_opening}
use Rattle.hk_table.specs.Actions.{Begins, SeatsBelow, is_by, is_collect, acts_of, collects}
use Rattle.hk_table.specs.Knows.{PassView, Closing, KeeperView, Knows, pass, told, note, ended, keeper, spent}
use Rattle.hk_table.specs.Rule.{StandsIn, PassFits, KeeperFits, Fits, HasNot, Apart, InOneRun}
use Rattle.hk_table.specs.Seats.{LooksFrom, longer, closing, closed_by}
use Rattle.hk_table.specs.declared.view.View.{View}
use Rattle.hk_table.proofs.Keeps.{IsPass, seat_acts}
use Rattle.hk_table.proofs.Seats.{tie, view}
use Rattle.hk_table.proofs.Knowing.{nothing_more}

pub look_allows : (g : Geometry) (slots id word : ℕ) (me : Me (Unit {0}) View) (p : PassView) (h' : History) → me.0.knows ≡ told g p h'
    → Allows (InOneRun g) slots id me word (λ n. n) (λ n m. (m.1 ≡ me.1) × LooksFrom me.0.knows m.0.knows)
unfolding run
look_allows g slots id word me p h' is s h homes at small =
    let r = run_from_opening g h.log in
    let all : Fits g h.log r (told g p h') = subst (Fits g h.log r) is (h.views id me.0 at) in
    let fits : PassFits g h.log r p = all.1 in
    let q : PassView = record { seat = p.seat; registers = p.registers; flight = p.flight; begun = p.begun; log = h.log; seen = r.history; mine = p.mine } in
    let q-fits : PassFits g h.log r q = record {
      seat = fits.seat;
      stands = record { begins = ([], sym (append-nil h.log)); acts = refl; saw = ([], sym (append-nil r.history)); seen_mine = fits.stands.all_mine; all_mine = fits.stands.all_mine };
      flight = fits.flight;
      begun = fits.begun;
      registers = fits.registers;
      count = fits.count;
    } in
    let w : View = record { knows = pass g q } in
    let longer' = fits.stands.begins in
    let pass-is : IsPass me.0.knows p = subst (λ (k : Knows). IsPass k p) (sym is) refl in (
      w,
      keeps,
      tt,
      subst (λ (words : List ℕ). InOneRun g (record { words = words; homes = s.homes; views = slice_set s.views id w })) (sym h.words ∙ sym (set-get_or s.words word 0))
          (seat_acts g s h id me.0 p q [] at pass-is fits.seat tt refl (subst (λ (l : List Action). PassFits g l r q) (sym (append-nil h.log)) q-fits)),
      (
        refl,
        subst (λ (k : Knows). LooksFrom k (pass g q)) (sym is) (
          q,
          refl,
          record {
            stands = q-fits;
            seat = refl;
            flight = refl;
            begun = refl;
            registers = refl;
            mine = refl;
            saw = fits.stands.saw;
            learnt = all.2;
            legal = legal_from_opening g h.log;
            between = longer'.0;
            others = nothing_more (acts_of p.seat p.log) (acts_of p.seat longer'.0) (fits.stands.acts ∙ ap (acts_of p.seat) longer'.1 ∙ filter-append (is_by p.seat) p.log longer'.0);
            log = longer'.1;
          },
        ),
      ),
    )

-- THE KEEPER TAKES IN A PASS

-- of two beginnings of one list the shorter begins the longer
nested : {A : Type 0} (a b x y : List A) → a ++ x ≡ b ++ y → length a ≤ length b → Begins b a
nested [] b x y e few = (b, refl)
nested (c ∷ a) [] x y e few = absurd (omega arith)
nested {A} (c ∷ a) (d ∷ b) x y e few =
    let e' : c ∷ (a ++ x) ≡ d ∷ (b ++ y) = e in
    let heads : c ≡ d = cc in
    let tails : a ++ x ≡ b ++ y = cc in
    let more = nested a b x y tails (omega arith) in
    (more.0, λ i. sym heads i ∷ more.1 i)

onward : {A : Type 0} (a b c : List A) → Begins b a → Begins c b → Begins c a
onward a b c p q = (p.0 ++ q.0, q.1 ∙ ap (λ l. l ++ q.0) p.1 ∙ append_assoc a p.0 q.0)

itself : {A : Type 0} (a : List A) → Begins a a
itself a = ([], sym (append-nil a))

module _ (all a b : List Action) (p : Begins all a) (q : Begins all b) where
  longer_begins : Begins all (longer a b)
  longer_begins = choose (nat_lt (length a) (length b))
    where
      choose : (t : Bool) → Begins all (if t then b else a)
      choose true = q
      choose false = p

  longer_first : Begins (longer a b) a
  longer_first = choose (nat_lt (length a) (length b)) refl
    where
      below : (m n : ℕ) → nat_lt m n ≡ true → m ≤ n
      below m n e = grind (arith, nat_tests)

      choose : (t : Bool) → nat_lt (length a) (length b) ≡ t → Begins (if t then b else a) a
      choose true e = nested a b p.0 q.0 (sym p.1 ∙ q.1) (below (length a) (length b) e)
      choose false e = itself a

  longer_second : Begins (longer a b) b
  longer_second = choose (nat_lt (length a) (length b)) refl
    where
      above : (m n : ℕ) → nat_lt m n ≡ false → n ≤ m
      above m n e = grind (arith, nat_tests)

      choose : (t : Bool) → nat_lt (length a) (length b) ≡ t → Begins (if t then b else a) b
      choose true e = itself b
      choose false e = nested b a q.0 p.0 (sym q.1 ∙ p.1) (above (length a) (length b) e)

-- a fact of each element of a list and of one more
all_more : {A : Type 0} (P : A → Type 0) (xs : List A) (x : A) → All P xs → P x → All P (xs ++ x ∷ [])
all_more P [] x all one zero d below = one
all_more P [] x all one (suc k) d below = absurd (omega arith)
all_more P (y ∷ xs) x all one zero d below = all zero d (omega arith)
all_more P (y ∷ xs) x all one (suc k) d below = all_more P xs x (λ i d' b. all (suc i) d' (omega arith)) one k d (omega arith)

pub closes : (g : Geometry) (id other : ℕ) (v w : View) (k : KeeperView) (p : PassView) → v.knows ≡ keeper g k → w.knows ≡ pass g p
    → Joins (InOneRun g) id v other w (view (closed_by v.knows w.knows)) (view spent)
closes g id other v w k p is is' s h at differ at' =
    let r = run_from_opening g h.log in
    let k' : KeeperView = record k { longest = longer (longer k.longest k.log) p.log; closed = k.closed ++ closing p ∷ [] } in
    let both : closed_by v.knows w.knows ≡ keeper g k' = λ i. closed_by (is i) (is' i) in
    let there : get_elem? s.views other ≡ some w = sym (set_else s.views id other _ differ) ∙ at' in
    let keeps' : KeeperFits g h.log r k = (subst (Fits g h.log r) is (h.views id v at)).1 in
    let fits : PassFits g h.log r p = (subst (Fits g h.log r) is' (h.views other w there)).1 in
    let has-not : HasNot p.seat k = subst (λ (x : Knows). Apart x (keeper g k)) is' (subst (λ (x : Knows). Apart w.knows x) is (h.apart other id w v differ there at)) in
    let most = longer k.longest k.log in
    let a : Begins h.log most = longer_begins h.log k.longest k.log keeps'.longest keeps'.begins in
    let a' : Begins most k.longest = longer_first h.log k.longest k.log keeps'.longest keeps'.begins in
    let b = fits.stands.begins in
    subst (λ (x : Knows). InOneRun g (record { words = s.words; homes = s.homes; views = slice_set (slice_set s.views id (view x)) other (view spent) })) (sym both)
    (tie g s h id other (view (keeper g k')) (view spent) refl (
      refl,
      record {
        begins = keeps'.begins;
        acts = keeps'.acts;
        spot = keeps'.spot;
        unmade = keeps'.unmade;
        longest = longer_begins h.log most p.log a b;
        closed = all_more (λ c. StandsIn h.log r c.seat c.log c.seen c.mine × Begins (longer most p.log) c.log × (c.seat < k.made)) k.closed (closing p)
            (λ i d below. let one = keeps'.closed i d below in (one.0, onward (slice_index_or k.closed i d).log k.longest (longer most p.log) one.1 (onward k.longest most (longer most p.log) a' (longer_first h.log most p.log a b)), one.2))
            (fits.stands, longer_second h.log most p.log a b, has-not.0);
      },
    )
    (λ j u d d' t. (
      subst (λ (x : Knows). Apart x u.knows) is (h.apart id j v u (λ e. d (sym e)) at t),
      not_it u.knows (subst (λ (x : Knows). Apart u.knows x) is (h.apart j id u v d t at)) (subst (λ (x : Knows). Apart u.knows x) is' (h.apart j other u w d' t there)),
    )))
  where
    not_it : (x : Knows) → Apart x (keeper g k) → Apart x (pass g p) → Apart x (keeper g (record k { longest = longer (longer k.longest k.log) p.log; closed = k.closed ++ closing p ∷ [] }))
    not_it (pass g' q) a b = (a.0, all_more (λ c. c.seat ≢ q.seat) k.closed (closing p) a.1 b)
    not_it (told g' q h') a b = (a.0, all_more (λ c. c.seat ≢ q.seat) k.closed (closing p) a.1 b)
    not_it (note g' h') a b = tt
    not_it (ended g' h') a b = tt
    not_it (keeper g' q) a b = a
    not_it spent a b = tt

-- THE CLOSING LOG

two_acts : (t : Bool) (a : Action) (l : List Action) → t ≡ true → (if t then a ∷ l else l) ≡ [] → ⊥
two_acts true a l e empty = let here : a ∷ l ≡ [] = empty in cc
two_acts false a l e empty = cc

same : (s : ℕ) → nat_eq s s ≡ true
same s = grind (arith, nat_tests)

nobody : (n : ℕ) (l : List Action) → SeatsBelow n l → ((s : ℕ) → s < n → acts_of s l ≡ []) → collects l ≡ [] → l ≡ []
nobody n [] below none quiet = refl
nobody n (begin seat call ∷ l) below none quiet = absurd (two_acts (nat_eq seat seat) (begin seat call) (acts_of seat l) (same seat) (none seat below.0))
nobody n (step seat ∷ l) below none quiet = absurd (two_acts (nat_eq seat seat) (step seat) (acts_of seat l) (same seat) (none seat below.0))
nobody n (collect ∷ l) below none quiet = let here : collect ∷ collects l ≡ [] = quiet in absurd (cc)

below_later : (n : ℕ) (a b : List Action) → SeatsBelow n (a ++ b) → SeatsBelow n b
below_later n [] b h = h
below_later n (begin seat call ∷ a) b h = below_later n a b h.1
below_later n (step seat ∷ a) b h = below_later n a b h.1
below_later n (collect ∷ a) b h = below_later n a b h

-- what one log has of somebody is all that a longer one has, so the rest has nothing of him
rest_none : (f : List Action → List Action) → ((a b : List Action) → f (a ++ b) ≡ f a ++ f b) → (all most own : List Action) (b : Begins all most) → Begins most own → f own ≡ f all → f b.0 ≡ []
rest_none f both all most own b c same' =
    let whole : f own ≡ f own ++ (f c.0 ++ f b.0) =
    same' ∙ ap f b.1 ∙ both most b.0 ∙ ap (λ (l : List Action). l ++ f b.0) (ap f c.1 ∙ both own c.0) ∙ append_assoc (f own) (f c.0) (f b.0) in
    second (f c.0) (f b.0) (nothing_more (f own) (f c.0 ++ f b.0) whole)
  where
    second : (x y : List Action) → x ++ y ≡ [] → y ≡ []
    second [] y e = e
    second (z ∷ x) y e = let here : z ∷ (x ++ y) ≡ [] = e in absurd (cc)

-- where every pass was taken in, the longest log is the whole one
pub closing_log : (g : Geometry) (s : TableState (Unit {0}) View) (h : InOneRun g s) (id : ℕ) (v : View) (k : KeeperView) → get_elem? s.views id ≡ some v → v.knows ≡ keeper g k
    → length k.log ≤ length k.longest → ((seat : ℕ) → seat < tasks g → (i : ℕ) × (d : Closing) × (i < length k.closed) × ((slice_index_or k.closed i d).seat ≡ seat)) → h.log ≡ k.longest
closing_log g s h id v k at is few each =
    let r = run_from_opening g h.log in
    let fits : KeeperFits g h.log r k = (subst (Fits g h.log r) is (h.views id v at)).1 in
    let b = fits.longest in
    let own : Begins k.longest k.log = nested k.log k.longest fits.begins.0 b.0 (sym fits.begins.1 ∙ b.1) few in
    let quiet = rest_none collects (λ x y. filter-append is_collect x y) h.log k.longest k.log b own fits.acts in
    let none : (seat : ℕ) → seat < tasks g → acts_of seat b.0 ≡ [] = λ seat below.
    let c = each seat below in
    let one = fits.closed c.0 c.1 c.2 in
    let seat-is = c.3 in
    rest_none (acts_of seat) (λ x y. filter-append (is_by seat) x y) h.log k.longest (slice_index_or k.closed c.0 c.1).log b one.1 (subst (λ (n : ℕ). acts_of n (slice_index_or k.closed c.0 c.1).log ≡ acts_of n h.log) seat-is one.0.acts) in
    let empty : b.0 ≡ [] = nobody (tasks g) b.0 (below_later (tasks g) k.longest b.0 (subst (SeatsBelow (tasks g)) b.1 h.seats)) none quiet in
    b.1 ∙ ap (λ (l : List Action). k.longest ++ l) empty ∙ append-nil k.longest
