-- The turns of a seat: entries of other seats add none.
use Rattle.std.proofs.Common.{◌≡◌, eq-eqb, append-nil, ℕ, Bool, true, false, List, [], ◌∷◌, ◌++◌, refl, sym, ◌∙◌, ap}
use Rattle.std.proofs.lemmas.List.Elements.{filter-append}
use Rattle.std.proofs.lemmas.List.Sums.{fold-append}
use Rattle.std.specs.Prelude.{nat_eq, if◌then◌else◌}
use Rattle.hk_words.specs.declared.call.Call.{Call}
use Rattle.hk_model.specs.Heap.{Heap}
use Rattle.hk_model.specs.History.{Entry, History, after, after_entry, of_seat}
use Rattle.hk_race.specs.Turns.{Turn, turn, turns}
use Rattle.hk_race.specs.Says.{Saw}

pub turns-append : (h : Heap) (s : ℕ) (first later : History) → turns h s (first ++ later) ≡ turns h s first ++ turns (after h first) s later
unfolding after
turns-append h s [] later = refl
turns-append h s (e ∷ first) later = choose (nat_eq e.seat s) (turns-append (after_entry h e) s first later)
  where
    choose : (b : Bool) → turns (after_entry h e) s (first ++ later) ≡ turns (after_entry h e) s first ++ turns (after (after_entry h e) first) s later
        → (if b then turn h e ∷ turns (after_entry h e) s (first ++ later) else turns (after_entry h e) s (first ++ later))
        ≡ (if b then turn h e ∷ turns (after_entry h e) s first else turns (after_entry h e) s first) ++ turns (after (after_entry h e) first) s later
    choose true rest = ap (λ (ts : List Turn). turn h e ∷ ts) rest
    choose false rest = rest

-- entries of others are no turns
pub turns-none : (h : Heap) (s : ℕ) (others : History) → of_seat others s ≡ [] → turns h s others ≡ []
unfolding of_seat
turns-none h s [] none = refl
turns-none h s (e ∷ others) none = choose (nat_eq e.seat s) none (λ n. turns-none (after_entry h e) s others n)
  where
    choose : (b : Bool) → (if b then e ∷ of_seat others s else of_seat others s) ≡ [] → (of_seat others s ≡ [] → turns (after_entry h e) s others ≡ [])
        → (if b then turn h e ∷ turns (after_entry h e) s others else turns (after_entry h e) s others) ≡ []
    choose true none rest = let here : e ∷ of_seat others s ≡ [] = none in absurd (cc)
    choose false none rest = rest none

-- an entry of the seat is one turn
pub turns-own : (h : Heap) (s : ℕ) (e : Entry) → nat_eq e.seat s ≡ true → turns h s (e ∷ []) ≡ turn h e ∷ []
turns-own h s e is = rw is refl

-- what is seen later adds no turn, where it has no entry of the seat
pub turns-later : (h : Heap) (s : ℕ) (seen later : History) → of_seat later s ≡ [] → turns h s (seen ++ later) ≡ turns h s seen
turns-later h s seen later none = turns-append h s seen later ∙ ap (λ (ts : List Turn). turns h s seen ++ ts) (turns-none (after h seen) s later none) ∙ append-nil (turns h s seen)

-- a beginning that has all the seat's entries leaves none for later
pub none_later : (seen later : History) (s : ℕ) → of_seat (seen ++ later) s ≡ of_seat seen s → of_seat later s ≡ []
unfolding of_seat
none_later seen later s same = nothing_more (of_seat seen s) (of_seat later s) (sym same ∙ filter-append (λ e. nat_eq e.seat s) seen later)
  where
    nothing_more : (xs ys : History) → xs ≡ xs ++ ys → ys ≡ []
    nothing_more [] ys e = sym e
    nothing_more (x ∷ xs) ys e = nothing_more xs ys (cc)

-- one entry of the seat more, behind entries of others, is one turn more
pub turns-saw : (start : Heap) (s : ℕ) (call : Call) (before now : History) → (saw : Saw start s call before now)
    → turns start s now ≡ turns start s before ++ record { entry = saw.entry; heap = after start now } ∷ []
unfolding after
turns-saw start s call before now saw =
    let is : nat_eq saw.entry.seat s ≡ true = eq-eqb saw.entry.seat s saw.seat_is in
    let h : Heap = after start (before ++ saw.others) in
    let last : after start now ≡ after_entry h saw.entry = ap (after start) saw.seen ∙ fold-append after_entry start (before ++ saw.others) (saw.entry ∷ []) in
    ap (turns start s) saw.seen
    ∙ turns-append start s (before ++ saw.others) (saw.entry ∷ [])
    ∙ ap (λ (ts : List Turn). ts ++ turns h s (saw.entry ∷ [])) (turns-later start s before saw.others saw.none)
    ∙ ap (λ (ts : List Turn). turns start s before ++ ts) (turns-own h s saw.entry is)
    ∙ ap (λ (k : Heap). turns start s before ++ record { entry = saw.entry; heap = k } ∷ []) (sym last)
