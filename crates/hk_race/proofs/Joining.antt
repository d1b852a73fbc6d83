-- What a call of the shared heap promises is what a worker asks of it.
use Rattle.std.proofs.Common.{◌≡◌, ℕ, ◌<◌, Bool, true, false, [], ◌∷◌, ◌++◌, refl, sym, ◌∙◌, ap, subst, arith, Option, Some, None}
use Rattle.std.proofs.lemmas.Bool.{eq-eqb}
use Rattle.std.proofs.lemmas.Bool.Decides.{nat_tests}
use Rattle.std.proofs.lemmas.List.Elements.{filter-append}
use Rattle.std.specs.Prelude.{nat_eq, nat_le, if◌then◌else◌, is_some, not, ◌&&◌, ◌==◌}
use Rattle.hk_words.specs.declared.geometry.Geometry.{Geometry}
use Rattle.hk_words.specs.declared.call.Call.{Call}
use Rattle.hk_words.specs.declared.call.Reply.{Reply}
use Rattle.hk_words.specs.declared.call.Reply.TheVariants as reply
use Rattle.hk_words.specs.Calls.{RegistersFit, entered}
use Rattle.hk_model.specs.Heap.{opening_of}
use Rattle.hk_model.specs.History.{Entry, History, after, of_seat, is_full, is_question}
use Rattle.hk_model.specs.Replies.{reply_of}
use Rattle.hk_core.specs.declared.outcome.Outcome.{Outcome}
use Rattle.hk_core.specs.declared.outcome.Outcome.TheVariants.{Done, Full}
use Rattle.hk_core.specs.declared.outcome.Fault.{Fault}
use Rattle.hk_core.specs.declared.outcome.Fault.TheVariants as fault
use Rattle.hk_core.specs.Begin.{most_calls, has_field}
use Rattle.hk_core.specs.Faults.{FindsField, TellsPlain}
use Rattle.hk_core.specs.Replied.{outcome_of}
use Rattle.hk_script.specs.Walks.{AnswersCall}
use Rattle.hk_table.specs.Knows.{PassView}
use Rattle.hk_table.specs.Deeds.{Stands, refused_by, refused_with, entered_with}
use Rattle.hk_table.specs.Calls.{Called}
use Rattle.hk_table.specs.Errors.{Refuses, RefusedOrFull, error_of}
use Rattle.hk_table.specs.declared.error.HeapError.{HeapError}
use Rattle.hk_table.specs.declared.error.HeapError.TheVariants as error
use Rattle.hk_table.proofs.Questions.{tells_so}
use Rattle.hk_table.proofs.Knowing.{nothing_more}
use Rattle.hk_race.specs.Says.{Saw, Tells}
use Rattle.hk_race.specs.declared.desk.Said.TheVariants as said

-- an error of a call that isn't begun is no want of room
pub refused_or : (g : Geometry) (p : PassView) (c : Call) (error' : HeapError) (same : Type 0) (full : ℕ → Type 0) → Refuses g p c error' → same
    → RefusedOrFull error' (Refuses g p c error' × same) full
refused_or g p c error' same full refuses is = by_error error' (refuses, is) refuses.why refuses.is
  where
    by_error : (e : HeapError) → Refuses g p c error' × same → (why : Fault) → error' ≡ error_of why → RefusedOrFull error' (Refuses g p c error' × same) full
    by_error e both fault.Spent at = subst (λ (x : HeapError). RefusedOrFull x (Refuses g p c error' × same) full) (sym at) both
    by_error e both fault.Nil at = subst (λ (x : HeapError). RefusedOrFull x (Refuses g p c error' × same) full) (sym at) both
    by_error e both fault.Field at = subst (λ (x : HeapError). RefusedOrFull x (Refuses g p c error' × same) full) (sym at) both

ends : (xs ys : History) (e : Entry) → xs ++ e ∷ [] ≡ ys ++ e ∷ [] → xs ≡ ys
ends [] [] e p = refl
ends [] (y ∷ []) e p = absurd (cc)
ends [] (y ∷ z ∷ ys) e p = absurd (cc)
ends (x ∷ []) [] e p = absurd (cc)
ends (x ∷ z ∷ xs) [] e p = absurd (cc)
ends (x ∷ xs) (y ∷ ys) e p =
    let head : x ≡ y = cc in
    let tail : xs ≡ ys = ends xs ys e (cc) in
    λ i. head i ∷ tail i

-- THE PROMISE OF A CALL
pub called_saw : (g : Geometry) (p q : PassView) (c : Call) (outcome : Outcome) → Stands g p → p.flight.place ≡ 0 → is_question c ≡ false → RegistersFit g.registers c
    → (called : Called g p c outcome q) → (saw : Saw (opening_of g) p.seat c p.seen q.seen) × (saw.entry ≡ called.entry)
unfolding of_seat
called_saw g p q c outcome stands idle question fit called =
    let e = called.entry in
    let others = called.saw.0 in
    let own : of_seat q.seen p.seat ≡ p.mine ++ e ∷ [] = ap (of_seat q.seen) (sym called.seat) ∙ called.stands.stands.seen_mine ∙ called.mine in
    let at : nat_eq e.seat p.seat ≡ true = eq-eqb e.seat p.seat called.entry_seat in
    let last : of_seat (called.before ++ e ∷ []) p.seat ≡ of_seat called.before p.seat ++ e ∷ [] = filter-append (λ x. nat_eq x.seat p.seat) called.before (e ∷ []) ∙ rw at refl in
    let before : of_seat called.before p.seat ≡ p.mine = ends (of_seat called.before p.seat) p.mine e (sym last ∙ ap (λ (h : History). of_seat h p.seat) (sym called.seen) ∙ own) in
    let none : of_seat others p.seat ≡ [] = nothing_more (of_seat p.seen p.seat) (of_seat others p.seat)
    (stands.stands.seen_mine ∙ sym before ∙ ap (λ (h : History). of_seat h p.seat) called.saw.1 ∙ filter-append (λ x. nat_eq x.seat p.seat) p.seen others) in
    let finds : FindsField (reply_of (after (opening_of g) p.seen) p.seat c) =
    subst (λ (o : Option Fault). TellsPlain o (reply_of (after (opening_of g) p.seen) p.seat c)) called.accepted (tells_so g p stands idle c question fit) in (
      record {
        others = others;
        entry = e;
        seat_is = called.entry_seat;
        call_is = called.call_is;
        seen = called.seen ∙ ap (λ (h : History). h ++ e ∷ []) called.saw.1;
        none = none;
        finds = finds;
      },
      refl,
    )

-- what an entry says of a reply, and of a New without room
says_done : (e : Entry) (r : Reply) → outcome_of e ≡ Done r → e.reply ≡ r
says_done e r says = go (is_full e.reply) says
  where
    go : (b : Bool) → (if b then Full e.number else Done e.reply) ≡ Done r → e.reply ≡ r
    go true p = absurd (cc)
    go false p = cc

says_full : (e : Entry) (words : ℕ) → outcome_of e ≡ Full words → (is_full e.reply ≡ true) × (e.number ≡ words)
says_full e words says = go (is_full e.reply) refl says
  where
    go : (b : Bool) → is_full e.reply ≡ b → (if b then Full e.number else Done e.reply) ≡ Full words → (is_full e.reply ≡ true) × (e.number ≡ words)
    go true is p = (is, cc)
    go false is p = absurd (cc)

pub tells_done : (g : Geometry) (p q : PassView) (c : Call) (r : Reply) → Stands g p → p.flight.place ≡ 0 → is_question c ≡ false → RegistersFit g.registers c
    → Called g p c (Done r) q → AnswersCall c r → Tells (opening_of g) p.seat c p.seen q.seen (said.Done r)
tells_done g p q c r stands idle question fit called fits =
    let saw = called_saw g p q c (Done r) stands idle question fit called in
    record { saw = saw.0; reply_is = ap (λ (e : Entry). e.reply) saw.1 ∙ says_done called.entry r called.says; fits = fits }

pub tells_full : (g : Geometry) (p q : PassView) (c : Call) (words : ℕ) → Stands g p → p.flight.place ≡ 0 → is_question c ≡ false → RegistersFit g.registers c
    → Called g p c (Full words) q → Tells (opening_of g) p.seat c p.seen q.seen (said.Full words)
tells_full g p q c words stands idle question fit called =
    let saw = called_saw g p q c (Full words) stands idle question fit called in
    let says = says_full called.entry words called.says in
    record { saw = saw.0; full = ap (λ (e : Entry). is_full e.reply) saw.1 ∙ says.0; words_are = ap (λ (e : Entry). e.number) saw.1 ∙ says.1 }

-- a pass with calls left isn't refused for having begun too many
pub not_spent : (g : Geometry) (p : PassView) (c : Call) → p.begun < most_calls → Refuses g p c error.Spent → ⊥
unfolding refused_with
not_spent g p c few refuses = by_why refuses.why refuses.is refuses.refused
  where
    not_le : (m n : ℕ) → n < m → nat_le m n ≡ false
    not_le m n less = grind (arith, nat_tests)

    go : (a b : Bool) → (if a then Some fault.Nil else if b then Some fault.Field else None) ≡ Some fault.Spent → ⊥
    go true b e = cc
    go false true e = cc
    go false false e = cc

    by_why : (why : Fault) → error.Spent ≡ error_of why → refused_by p c ≡ Some why → ⊥
    by_why fault.Nil at refused = absurd (cc)
    by_why fault.Field at refused = absurd (cc)
    by_why fault.Spent at refused =
        go (is_some (entered c) && (entered_with p.registers c == 0)) (not (has_field c (entered_with p.registers c))) (rw (not_le most_calls p.begun few) at refused)
