-- How the keeper takes in the passes, and what it knows once it has taken in all.
use Rattle.std.proofs.Common.{◌≡◌, ℕ, zero, suc, ◌+◌, ◌<◌, ◌≤◌, List, [], ◌∷◌, ◌++◌, length, refl, sym, ◌∙◌, ap, subst, arith, inl, inr}
use Rattle.std.proofs.lemmas.List.{length-append}
use Rattle.std.proofs.lemmas.Bool.{cases_eq}
use Rattle.std.specs.Prelude.{All, slice_index_or}
use Rattle.hk_words.specs.Geometry.{tasks}
use Rattle.hk_model.specs.Heap.{opening_of}
use Rattle.hk_model.specs.History.{Legal}
use Rattle.hk_model.proofs.Lists.{get_or-push_before, get_or-push_last}
use Rattle.hk_core.specs.Run.{run_from_opening}
use Rattle.hk_collect.proofs.Running.{legal_from_opening}
use Rattle.hk_table.specs.Actions.{Begins, SeatsBelow, collects}
use Rattle.hk_table.specs.Knows.{Closing, KeeperView}
use Rattle.hk_table.specs.Rule.{StandsIn}
use Rattle.hk_table.specs.Seats.{closing, the_log}
use Rattle.hk_table.specs.Passes.{IsPassOf, known}
use Rattle.hk_table.specs.Taken.{closings, IsLong, TakenIn, KnowsAll}
use Rattle.hk_table.specs.Ends.{HasAllSeats, ClosedBy, log_of, run_of}
use Rattle.hk_table.specs.declared.heap.Heap.{Heap}
use Rattle.hk_table.specs.declared.pass.Pass.{Pass}
use Rattle.hk_table.specs.declared.closed.Closed.{Closed}

-- LISTS OF PASSES

-- the element after the first ones
pub in_middle : {A : Type 0} (P : A → Type 0) (front : List A) (x : A) (back : List A) → All P ((front ++ x ∷ []) ++ back) → P x
in_middle P [] x back all = all 0 x (omega arith)
in_middle P (y ∷ front) x back all = in_middle P front x back (λ k d below. all (suc k) d (omega arith))

pub length_more : {A : Type 0} (l : List A) (x : A) → length (l ++ x ∷ []) ≡ length l + 1
length_more l x = length-append l (x ∷ [])

-- a fact of each place and its element, of a list and of one with one element more
pub each_more : (P : ℕ → Pass → Type 0) (l : List Pass) (x : Pass) (more : List Pass) (n : ℕ) → more ≡ l ++ x ∷ [] → length l ≡ n
    → ((i : ℕ) (d : Pass) → i < n → P i (slice_index_or l i d)) → P n x → (i : ℕ) (d : Pass) → i < n + 1 → P i (slice_index_or more i d)
each_more P l x more n is count each one i d below = elim (cases_eq i n) [
  | inl last ↦ subst (P i) (sym (ap (λ m. slice_index_or m i d) is ∙ ap (λ (k : ℕ). slice_index_or (l ++ x ∷ []) k d) (last ∙ sym count) ∙ get_or-push_last l x d)) (subst (λ (k : ℕ). P k x) (sym last) one)
  | inr other ↦ subst (P i) (sym (ap (λ m. slice_index_or m i d) is ∙ get_or-push_before l x i d (λ same. other (same ∙ count)))) (each i d (omega arith))
]

-- what is left of each pass is among what is left of all
pub closings_has : (done : List Pass) (i : ℕ) (d : Pass) → i < length done
    → (j : ℕ) × (j < length (closings done)) × ((e : Closing) → slice_index_or (closings done) j e ≡ closing (known (slice_index_or done i d)))
closings_has [] i d below = absurd (omega arith)
closings_has (p ∷ done) zero d below =
    (length (closings done), (let l = length-append (closings done) (closing (known p) ∷ []) in omega arith), λ e. get_or-push_last (closings done) (closing (known p)) e)
closings_has (p ∷ done) (suc i) d below =
    let h = closings_has done i d (omega arith) in
    let there = h.1 in
    (h.0, (let l = length-append (closings done) (closing (known p) ∷ []) in omega arith), λ e. get_or-push_before (closings done) (closing (known p)) h.0 e (λ same. absurd (omega arith)) ∙ h.2 e)

pub all_of_closings : (Q : Closing → Type 0) (done : List Pass) → All Q (closings done) → All (λ p. Q (closing (known p))) done
all_of_closings Q done all i d below =
    let h = closings_has done i d below in
    let e : Closing = closing (known d) in
    subst Q (h.2 e) (all h.0 e h.1)

-- A PASS IS TAKEN IN

-- the pass that is taken in is one of all
pub taken_is : (P : Pass → Type 0) (start : KeeperView) (all left more : List Pass) (p : Pass) (k : KeeperView) → left ≡ more ++ p ∷ [] → TakenIn start all left k → All P all → P p
taken_is P start all left more p k is h each = in_middle P more p h.done (subst (λ l. All P l) (h.parts ∙ ap (λ l. l ++ h.done) is) each)

-- ALL ARE TAKEN IN

pub all_done : (start : KeeperView) (all left : List Pass) (k : KeeperView) → left ≡ [] → (h : TakenIn start all left k) → all ≡ h.done
all_done start all left k empty h = h.parts ∙ ap (λ l. l ++ h.done) empty

long_enough : (done : List Pass) (k : KeeperView) → 0 < length done → IsLong done k → length k.log ≤ length k.longest
long_enough [] k some long = absurd (omega arith)
long_enough (p ∷ done) k some long = long

module _ (h : Heap) (start : KeeperView) (all left : List Pass) (k : KeeperView) (empty : left ≡ []) (taken : TakenIn start all left k) (seats : HasAllSeats (tasks h.geometry) all) where
  pub few_enough : length k.log ≤ length k.longest
  few_enough =
      let some = h.geometry.tasks_some in
      let first = seats 0 (omega arith) in
      let below = first.1 in
      let same = ap length (all_done start all left k empty taken) in
      long_enough taken.done k (omega arith) taken.long

  pub every_seat : All (IsPassOf h) all → (number : ℕ) → number < tasks h.geometry → (i : ℕ) × (d : Closing) × (i < length k.closed) × ((slice_index_or k.closed i d).seat ≡ number)
  every_seat passes number below =
      let one = seats number below in
      let same : all ≡ taken.done = all_done start all left k empty taken in
      let d = first_of all one.0 one.1 in
      let there : one.0 < length taken.done = subst (λ l. one.0 < length l) same one.1 in
      let has = closings_has taken.done one.0 d there in
      let e : Closing = closing (known d) in
      let pass = passes one.0 d one.1 in (
        has.0,
        e,
        subst (λ l. has.0 < length l) (sym taken.closed) has.1,
        ap (λ l. (slice_index_or l has.0 e).seat) taken.closed ∙ ap (λ (c : Closing). c.seat) (has.2 e) ∙ ap (λ l. (known (slice_index_or l one.0 d)).seat) (sym same) ∙ pass.number ∙ one.2 d,
      )
    where
      first_of : (l : List Pass) (i : ℕ) → i < length l → Pass
      first_of [] i below = absurd (omega arith)
      first_of (p ∷ l) i below = p

  pub closed_so : (c : Closed) → c.geometry ≡ h.geometry → the_log c.seat.me.0.knows ≡ k.longest → KnowsAll h.geometry k → ClosedBy h.geometry all start c
  closed_so c same log knows =
      let r = run_from_opening h.geometry k.longest in
      let one : run_of c ≡ r = λ i. run_from_opening (same i) (log i) in
      let each : All (λ p. StandsIn k.longest r (known p).seat (known p).log (known p).seen (known p).mine) taken.done =
      all_of_closings (λ x. StandsIn k.longest r x.seat x.log x.seen x.mine) taken.done
      (subst (λ l. All (λ x. StandsIn k.longest r x.seat x.log x.seen x.mine) l) taken.closed (λ i d below. (knows.fits.closed i d below).0)) in
      record {
        geometry = same;
        seats = subst (SeatsBelow (tasks h.geometry)) (sym log) knows.seats;
        each = subst (λ l. All (λ p. StandsIn (log_of c) (run_of c) (known p).seat (known p).log (known p).seen (known p).mine) l) (sym (all_done start all left k empty taken))
            (λ i d below. let p = slice_index_or taken.done i d in
            subst (λ x. StandsIn (log_of c) x (known p).seat (known p).log (known p).seen (known p).mine) (sym one)
            (subst (λ l. StandsIn l r (known p).seat (known p).log (known p).seen (known p).mine) (sym log) (each i d below)));
        keeper_begins = subst (λ l. Begins (log_of c) l) taken.log (subst (λ l. Begins l k.log) (sym log) knows.fits.begins);
        keeper_acts = ap collects (sym taken.log) ∙ knows.fits.acts ∙ ap collects (sym log);
        legal = subst (λ x. Legal (opening_of h.geometry) x.history) (sym one) (legal_from_opening h.geometry k.longest);
      }

pub nothing_left : (items : List Pass) (len : ℕ) → len ≡ 0 → len ≡ length items → items ≡ []
nothing_left [] len none same = refl
nothing_left (p ∷ items) len none same = absurd (omega arith)
