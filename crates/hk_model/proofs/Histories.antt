-- Histories with one entry more.
use Rattle.std.proofs.Common.{◌≡◌, ◌≢◌, ◌⊎◌, ◌↔◌, inl, inr, ℕ, zero, suc, ◌+◌, ◌<◌, true, false, nat_eq, refl, sym, ◌∙◌, ap, arith, List, [], ◌∷◌, ◌++◌, length, map, filter, get_or, Option, Some, None, if◌then◌else◌, length-append, append-nil, eq-eqb, ne_eqb, add-zero, subst}
use Rattle.std.proofs.lemmas.Bool.{cases_lt}
use Rattle.std.proofs.lemmas.Bool.Decides.{eqb_tells}
use Rattle.std.proofs.lemmas.List.{map-append}
use Rattle.std.proofs.lemmas.List.Elements.{filter-append}
use Rattle.std.proofs.lemmas.List.Sums.{fold_push}
use Rattle.hk_words.specs.declared.shape.Shape.{Shape}
use Rattle.hk_words.specs.declared.call.Call.{Call}
use Rattle.hk_words.specs.declared.call.Call.TheVariants.{Get, Put, Load, Store, Move, Clear, New, Same, IsNull}
use Rattle.hk_words.specs.declared.call.Reply.{Reply}
use Rattle.hk_words.specs.declared.call.Reply.TheVariants.{Unit as Done, Num, Yes, No, Nil, Field, Full}
use Rattle.hk_model.specs.Heap.{Heap, IsHeap, born, register, link}
use Rattle.hk_model.specs.History.{Entry, History, is_new, is_full, is_birth, is_refused, after_entry, after, EntryLegal, Legal, of_seat, births, numbers, number_of, last_place, bearer}
use Rattle.hk_model.specs.Replies.{has_number, has_reference, reply_of, heap_after, with_register, with_link, with_value, with_object}
use Rattle.hk_model.specs.Laws.{IsLastBirth}
use Rattle.hk_model.specs.View.{upd}
use Rattle.hk_model.proofs.Heaps.{IsHeap-heap_after, entering_all}
use Rattle.hk_model.proofs.Lists.{get_or-push_before, get_or-push_last}
use Rattle.hk_model.proofs.Updates.{is_upd}
use Rattle.hk_model.proofs.Views.{born-with_register, born-with_link, born-with_value, born-with_object}

pub after-push : (start : Heap) (history : History) (e : Entry) → after start (history ++ e ∷ []) ≡ after_entry (after start history) e
unfolding after
after-push start history e = fold_push after_entry start history e

pub after_entry-refused : (h : Heap) (e : Entry) → is_refused e ≡ true → after_entry h e ≡ h
unfolding after_entry
after_entry-refused h e r = rw r refl

-- the first entry is done first
after-first : (start : Heap) (e : Entry) (later : History) → after start (e ∷ later) ≡ after (after_entry start e) later
unfolding after
after-first start e later = refl

after-none : (start : Heap) → after start [] ≡ start
unfolding after
after-none start = refl

pub Legal_from-push : (start : Heap) (history : History) (e : Entry) → Legal start (history ++ e ∷ []) → Legal start history × EntryLegal (after start history) e
unfolding Legal
Legal_from-push start [] e (here, _) = (tt, rw after-none here)
Legal_from-push start (first ∷ later) e (here, rest) =
    let r = Legal_from-push (after_entry start first) later e rest in ((here, r.0), rw (after-first start first later) r.1)

pub Legal-push : (start : Heap) (history : History) (e : Entry) → Legal start history → EntryLegal (after start history) e → Legal start (history ++ e ∷ [])
unfolding Legal
Legal-push start [] e _ last = (rw after-none at last, tt)
Legal-push start (first ∷ later) e (here, rest) last = (here, Legal-push (after_entry start first) later e rest (rw (after-first start first later) at last))

-- every history keeps what a heap is

pub IsHeap-after_entry : (tasks count : ℕ) (h : Heap) (e : Entry) → IsHeap tasks count h → IsHeap tasks count (after_entry h e)
unfolding after_entry
IsHeap-after_entry tasks count h e is =
    elim (is_refused e) as (λ b. IsHeap tasks count (if b then h else heap_after h e.seat e.call)) [ true ↦ is | false ↦ IsHeap-heap_after tasks count h e.seat e.call is ]

pub IsHeap-after : (tasks count : ℕ) (start : Heap) (history : History) → IsHeap tasks count start → IsHeap tasks count (after start history)
unfolding after
IsHeap-after tasks count start [] is = is
IsHeap-after tasks count start (e ∷ later) is = IsHeap-after tasks count (after_entry start e) later (IsHeap-after_entry tasks count start e is)

-- entries by seat

pub of_seat-push_own : (history : History) (e : Entry) (seat : ℕ) → e.seat ≡ seat → of_seat (history ++ e ∷ []) seat ≡ of_seat history seat ++ e ∷ []
unfolding of_seat
of_seat-push_own history e seat s =
    rw (filter-append (λ x. nat_eq x.seat seat) history (e ∷ []), eq-eqb e.seat seat s) refl

pub of_seat-push_other : (history : History) (e : Entry) (seat : ℕ) → e.seat ≢ seat → of_seat (history ++ e ∷ []) seat ≡ of_seat history seat
unfolding of_seat
of_seat-push_other history e seat s =
    rw (filter-append (λ x. nat_eq x.seat seat) history (e ∷ []), ne_eqb e.seat seat s) (append-nil (filter (λ x. nat_eq x.seat seat) history))

-- numbers and births

pub numbers-push_birth : (history : History) (e : Entry) → is_birth e ≡ true → numbers (history ++ e ∷ []) ≡ numbers history ++ e.number ∷ []
unfolding numbers births
numbers-push_birth history e b =
    rw (filter-append is_birth history (e ∷ []), b, map-append (λ x. x.number) (filter is_birth history) (e ∷ [])) refl

pub numbers-push_other : (history : History) (e : Entry) → is_birth e ≡ false → numbers (history ++ e ∷ []) ≡ numbers history
unfolding numbers births
numbers-push_other history e b =
    rw (filter-append is_birth history (e ∷ []), b, append-nil) refl

-- an entry that made an object made one, and no other entry did

pub born-heap_after_other : (h : Heap) (seat : ℕ) (call : Call) → is_new call ≡ false → born (heap_after h seat call) ≡ born h
unfolding heap_after
born-heap_after_other h seat (Get reg field) n = refl
born-heap_after_other h seat (Put reg field number) n =
    entering_all (λ k. born k ≡ born h) (register h seat reg) (has_number h field) h h (λ birth. with_value h birth field number) refl refl (λ b. born-with_value h b field number)
born-heap_after_other h seat (Load dest reg field) n =
    entering_all (λ k. born k ≡ born h) (register h seat reg) (has_reference h field) h h (λ birth. with_register h seat dest (link h birth field)) refl refl (λ b. born-with_register h seat dest (link h b field))
born-heap_after_other h seat (Store reg field from) n =
    entering_all (λ k. born k ≡ born h) (register h seat reg) (has_reference h field) h h (λ birth. with_link h birth field (register h seat from)) refl refl
    (λ b. born-with_link h b field (register h seat from))
born-heap_after_other h seat (Move dest from) n = born-with_register h seat dest (register h seat from)
born-heap_after_other h seat (Clear dest) n = born-with_register h seat dest None
born-heap_after_other h seat (New dest shape) n = absurd (cc n)
born-heap_after_other h seat (Same a b) n = refl
born-heap_after_other h seat (IsNull reg) n = refl

pub born-heap_after_new : (h : Heap) (seat dest : ℕ) (shape : Shape) → born (heap_after h seat (New dest shape)) ≡ born h + 1
unfolding heap_after
born-heap_after_new h seat dest shape = born-with_register (with_object h shape) seat dest (Some (born h)) ∙ born-with_object h shape

full_is : (reply : Reply) → is_full reply ≡ true → reply ≡ Full
full_is Done e = absurd (cc e)
full_is (Num number) e = absurd (cc e)
full_is Yes e = absurd (cc e)
full_is No e = absurd (cc e)
full_is Nil e = absurd (cc e)
full_is Field e = absurd (cc e)
full_is Full e = refl

-- a New that may come next answered that it was done, or that there was no room
new_done_or_full : (h : Heap) (seat dest number : ℕ) (shape : Shape) (reply : Reply) → EntryLegal h (record { seat = seat; call = New dest shape; reply = reply; number = number }) → (reply ≡ Done) ⊎ (reply ≡ Full)
unfolding reply_of
new_done_or_full h seat dest number shape reply (_, inl r) = inl r.0
new_done_or_full h seat dest number shape reply (_, inr r) = inr (full_is reply r)

-- an entry that may come next adds a birth where it is one, and else none
births_of_entry : (h : Heap) (seat number : ℕ) (call : Call) (reply : Reply) → EntryLegal h (record { seat = seat; call = call; reply = reply; number = number })
    → born (after_entry h (record { seat = seat; call = call; reply = reply; number = number })) ≡ born h + length (filter is_birth (record { seat = seat; call = call; reply = reply; number = number } ∷ []))
unfolding after_entry
births_of_entry h seat number (Get reg field) reply legal = born-heap_after_other h seat (Get reg field) refl ∙ sym (add-zero (born h))
births_of_entry h seat number (Put reg field v) reply legal = born-heap_after_other h seat (Put reg field v) refl ∙ sym (add-zero (born h))
births_of_entry h seat number (Load dest reg field) reply legal = born-heap_after_other h seat (Load dest reg field) refl ∙ sym (add-zero (born h))
births_of_entry h seat number (Store reg field from) reply legal = born-heap_after_other h seat (Store reg field from) refl ∙ sym (add-zero (born h))
births_of_entry h seat number (Move dest from) reply legal = born-heap_after_other h seat (Move dest from) refl ∙ sym (add-zero (born h))
births_of_entry h seat number (Clear dest) reply legal = born-heap_after_other h seat (Clear dest) refl ∙ sym (add-zero (born h))
births_of_entry h seat number (New dest shape) reply legal =
    elim (new_done_or_full h seat dest number shape reply legal) [
      | inl e ↦ rw e (born-heap_after_new h seat dest shape)
      | inr e ↦ rw e (sym (add-zero (born h)))
    ]
births_of_entry h seat number (Same a b) reply legal = born-heap_after_other h seat (Same a b) refl ∙ sym (add-zero (born h))
births_of_entry h seat number (IsNull reg) reply legal = born-heap_after_other h seat (IsNull reg) refl ∙ sym (add-zero (born h))

-- the objects after a legal history are those before it and its births
pub born-after : (start : Heap) (history : History) → Legal start history → born (after start history) ≡ born start + length (births history)
unfolding Legal after births
born-after start [] _ = sym (add-zero (born start))
born-after start (e ∷ later) (here, rest) =
    let one : born (after_entry start e) ≡ born start + length (filter is_birth (e ∷ [])) = births_of_entry start e.seat e.number e.call e.reply here in
    let more : born (after (after_entry start e) later) ≡ born (after_entry start e) + length (filter is_birth later) = born-after (after_entry start e) later rest in
    let parts : length (filter is_birth (e ∷ later)) ≡ length (filter is_birth (e ∷ [])) + length (filter is_birth later) =
    ap length (filter-append is_birth (e ∷ []) later) ∙ length-append (filter is_birth (e ∷ [])) (filter is_birth later) in
    omega arith

-- the numbers of the objects, and their last births

map_length : (es : List Entry) → length (map (λ e. e.number) es) ≡ length es
map_length [] = refl
map_length (e ∷ es) = ap suc (map_length es)

length-numbers : (history : History) → length (numbers history) ≡ 1 + length (births history)
unfolding numbers
length-numbers history = let m : length (map (λ e. e.number) (births history)) ≡ length (births history) = map_length (births history) in omega arith

-- there are as many numbers as objects
pub length-numbers_born : (start : Heap) (history : History) → born start ≡ 1 → Legal start history → length (numbers history) ≡ born (after start history)
length-numbers_born start history one legal = let l = length-numbers history in let b = born-after start history legal in omega arith

pub number_of-push_birth : (history : History) (e : Entry) → is_birth e ≡ true → number_of (history ++ e ∷ []) ≡ upd (number_of history) (length (numbers history)) e.number
unfolding number_of
number_of-push_birth history e b =
    let p = numbers-push_birth history e b in
    let more : ℕ → ℕ = λ k. get_or (numbers history ++ e.number ∷ []) k 0 in
    let f : ◌≡◌ {A = ℕ → ℕ} (λ k. get_or (numbers (history ++ e ∷ [])) k 0) more = λ i k. get_or (p i) k 0 in
    f ∙ is_upd more (number_of history) (length (numbers history)) e.number (get_or-push_last (numbers history) e.number 0)
    (λ k d. get_or-push_before (numbers history) e.number k 0 d)

pub number_of-push_other : (history : History) (e : Entry) → is_birth e ≡ false → number_of (history ++ e ∷ []) ≡ number_of history
unfolding number_of
number_of-push_other history e b = λ i k. get_or (numbers-push_other history e b i) k 0

pub last_place-push_same : (ms : List ℕ) (n : ℕ) → last_place n (ms ++ n ∷ []) ≡ Some (length ms)
unfolding last_place
last_place-push_same [] n = rw (eq-eqb n n refl) refl
last_place-push_same (m ∷ ms) n = rw (last_place-push_same ms n) refl

pub last_place-push_other : (ms : List ℕ) (m n : ℕ) → n ≢ m → last_place n (ms ++ m ∷ []) ≡ last_place n ms
unfolding last_place
last_place-push_other [] m n d = rw (ne_eqb m n (λ e. d (sym e))) refl
last_place-push_other (k ∷ ms) m n d = rw (last_place-push_other ms m n d) refl

pub bearer-push_birth : (history : History) (e : Entry) → is_birth e ≡ true → bearer (history ++ e ∷ []) ≡ upd (bearer history) e.number (Some (length (numbers history)))
unfolding bearer
bearer-push_birth history e b =
    let p = numbers-push_birth history e b in
    let more : ℕ → Option ℕ = λ n. last_place n (numbers history ++ e.number ∷ []) in
    let f : ◌≡◌ {A = ℕ → Option ℕ} (λ n. last_place n (numbers (history ++ e ∷ []))) more = λ i n. last_place n (p i) in
    f ∙ is_upd more (bearer history) e.number (Some (length (numbers history))) (last_place-push_same (numbers history) e.number)
    (λ k d. last_place-push_other (numbers history) e.number k d)

pub bearer-push_other : (history : History) (e : Entry) → is_birth e ≡ false → bearer (history ++ e ∷ []) ≡ bearer history
unfolding bearer
bearer-push_other history e b = λ i n. last_place n (numbers-push_other history e b i)

-- the bearer of a number is the last place of it

abbrev IsLastPlace : ℕ → List ℕ → ℕ → Type 0
IsLastPlace n ms place = (place < length ms) × (get_or ms place 0 ≡ n) × ((later : ℕ) → place < later → later < length ms → get_or ms later 0 ≢ n)

abbrev HasNoPlace : ℕ → List ℕ → Type 0
HasNoPlace n ms = (place : ℕ) → place < length ms → get_or ms place 0 ≢ n

later_last : (n m : ℕ) (ms : List ℕ) (place : ℕ) → IsLastPlace n ms place → (later : ℕ) → suc place < later → later < length (m ∷ ms) → get_or (m ∷ ms) later 0 ≢ n
later_last n m ms place is zero l k = absurd (omega arith)
later_last n m ms place is (suc later) l k = is.2 later (omega arith) (omega arith)

first_last : (n m : ℕ) (ms : List ℕ) → HasNoPlace n ms → (later : ℕ) → 0 < later → later < length (m ∷ ms) → get_or (m ∷ ms) later 0 ≢ n
first_last n m ms none zero l k = absurd (omega arith)
first_last n m ms none (suc later) l k = none later (omega arith)

nowhere : (n m : ℕ) (ms : List ℕ) → m ≢ n → HasNoPlace n ms → HasNoPlace n (m ∷ ms)
nowhere n m ms first none zero l = first
nowhere n m ms first none (suc place) l = none place (omega arith)

last_place_cases : (n : ℕ) (ms : List ℕ) → ((place : ℕ) × (last_place n ms ≡ Some place) × IsLastPlace n ms place) ⊎ ((last_place n ms ≡ None) × HasNoPlace n ms)
unfolding last_place
last_place_cases n [] = inr (refl, λ place l. absurd (omega arith))
last_place_cases n (m ∷ ms) =
    elim (last_place_cases n ms) [
      | inl (place, e, is) ↦ inl (suc place, rw e refl, (omega (arith, is.0), is.1, later_last n m ms place is))
      | inr (e, none) ↦ elim (eqb_tells m n) [
        | inl (t, q) ↦ inl (0, rw (e, t) refl, (omega arith, q, first_last n m ms none))
        | inr (t, d) ↦ inr (rw (e, t) refl, nowhere n m ms d none)
      ]
    ]

one_last_place : (n : ℕ) (ms : List ℕ) (p q : ℕ) → IsLastPlace n ms p → IsLastPlace n ms q → p ≡ q
one_last_place n ms p q a b =
    elim (cases_lt p q) [
      | inl l ↦ absurd (a.2 q l b.0 b.1)
      | inr l ↦ elim (cases_lt q p) [ inl m ↦ absurd (b.2 p m a.0 a.1) | inr m ↦ omega arith ]
    ]

last_place_is : (n : ℕ) (ms : List ℕ) (place : ℕ) → last_place n ms ≡ Some place → IsLastPlace n ms place
last_place_is n ms place e =
    elim (last_place_cases n ms) [
      | inl (p, f, is) ↦ let q : p ≡ place = cc (e, f) in subst (λ x. IsLastPlace n ms x) q is
      | inr (f, none) ↦ absurd (cc (e, f))
    ]

last_place_of : (n : ℕ) (ms : List ℕ) (place : ℕ) → IsLastPlace n ms place → last_place n ms ≡ Some place
last_place_of n ms place is =
    elim (last_place_cases n ms) [
      | inl (p, f, at) ↦ rw (one_last_place n ms place p is at) f
      | inr (f, none) ↦ absurd (none place is.0 is.1)
    ]

no_last_place : (n : ℕ) (ms : List ℕ) → last_place n ms ≡ None → HasNoPlace n ms
no_last_place n ms e =
    elim (last_place_cases n ms) [
      | inl (p, f, is) ↦ absurd (cc (e, f))
      | inr (f, none) ↦ none
    ]

no_place_last : (n : ℕ) (ms : List ℕ) → HasNoPlace n ms → last_place n ms ≡ None
no_place_last n ms none =
    elim (last_place_cases n ms) [
      | inl (p, f, is) ↦ absurd (none p is.0 is.1)
      | inr (f, _) ↦ f
    ]

pub bearer_is_last : (history : History) (number birth : ℕ) → (bearer history number ≡ Some birth) ↔ IsLastBirth history number birth
unfolding bearer number_of
bearer_is_last history number birth = (last_place_is number (numbers history) birth, last_place_of number (numbers history) birth)

pub no_bearer : (history : History) (number : ℕ) → (bearer history number ≡ None) ↔ ((birth : ℕ) → birth < length (numbers history) → number_of history birth ≢ number)
unfolding bearer number_of
no_bearer history number = (no_last_place number (numbers history), no_place_last number (numbers history))
