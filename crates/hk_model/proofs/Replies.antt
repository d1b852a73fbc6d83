-- Each call's reply and the heap after it, where the registers and the shape are known.
use Rattle.std.proofs.Common.{◌≡◌, ℕ, ◌<◌, ◌≢◌, Bool, true, false, refl, sym, ◌∙◌, ap, arith, Option, Some, None, is_none, Result, Ok, Err, if◌then◌else◌}
use Rattle.std.proofs.lemmas.Bool.Decides.{nat_tests}
use Rattle.hk_words.specs.declared.shape.Shape.{Shape}
use Rattle.hk_words.specs.declared.call.Call.{Call}
use Rattle.hk_words.specs.declared.call.Call.TheVariants.{Get, Put, Load, Store, Move, Clear, New, Same, IsNull}
use Rattle.hk_words.specs.declared.call.Reply.{Reply}
use Rattle.hk_words.specs.declared.call.Reply.TheVariants.{Unit as Done, Num, Nil, Field, Full}
use Rattle.hk_model.specs.Heap.{Heap, born, register, refs, nums, link, value}
use Rattle.hk_model.specs.Replies.{entering, has_number, has_reference, said, is_same, reply_of, heap_after, with_register, with_link, with_value, with_object}

-- where a call that enters an object comes to

pub entering_done : {A : Type 0} (entered : Option ℕ) (has : ℕ → Bool) (nil no_field : A) (done : ℕ → A) (birth : ℕ) → entered ≡ Some birth → has birth ≡ true → entering entered has nil no_field done ≡ done birth
entering_done entered has nil no_field done birth e h = rw (e, h) refl

pub has_number_true : (h : Heap) (field birth : ℕ) → field < nums h birth → has_number h field birth ≡ true
has_number_true h field birth l = grind (arith, nat_tests)

pub has_reference_true : (h : Heap) (field birth : ℕ) → field < refs h birth → has_reference h field birth ≡ true
has_reference_true h field birth l = grind (arith, nat_tests)

-- the calls that enter an object, where its register refers to one and it has the field

pub reply_of-get : (h : Heap) (seat reg field birth : ℕ) → register h seat reg ≡ Some birth → field < nums h birth → reply_of h seat (Get reg field) ≡ Num (value h birth field)
unfolding reply_of
reply_of-get h seat reg field birth e l = entering_done (register h seat reg) (has_number h field) Nil Field (λ b. Num (value h b field)) birth e (has_number_true h field birth l)

pub reply_of-put : (h : Heap) (seat reg field number birth : ℕ) → register h seat reg ≡ Some birth → field < nums h birth → reply_of h seat (Put reg field number) ≡ Done
unfolding reply_of
reply_of-put h seat reg field number birth e l = entering_done (register h seat reg) (has_number h field) Nil Field (λ b. Done) birth e (has_number_true h field birth l)

pub heap_after-put : (h : Heap) (seat reg field number birth : ℕ) → register h seat reg ≡ Some birth → field < nums h birth → heap_after h seat (Put reg field number) ≡ with_value h birth field number
unfolding heap_after
heap_after-put h seat reg field number birth e l = entering_done (register h seat reg) (has_number h field) h h (λ b. with_value h b field number) birth e (has_number_true h field birth l)

pub reply_of-load : (h : Heap) (seat dest reg field birth : ℕ) → register h seat reg ≡ Some birth → field < refs h birth → reply_of h seat (Load dest reg field) ≡ Done
unfolding reply_of
reply_of-load h seat dest reg field birth e l = entering_done (register h seat reg) (has_reference h field) Nil Field (λ b. Done) birth e (has_reference_true h field birth l)

pub heap_after-load : (h : Heap) (seat dest reg field birth : ℕ) → register h seat reg ≡ Some birth → field < refs h birth → heap_after h seat (Load dest reg field) ≡ with_register h seat dest (link h birth field)
unfolding heap_after
heap_after-load h seat dest reg field birth e l =
    entering_done (register h seat reg) (has_reference h field) h h (λ b. with_register h seat dest (link h b field)) birth e (has_reference_true h field birth l)

pub reply_of-store : (h : Heap) (seat reg field from birth : ℕ) → register h seat reg ≡ Some birth → field < refs h birth → reply_of h seat (Store reg field from) ≡ Done
unfolding reply_of
reply_of-store h seat reg field from birth e l = entering_done (register h seat reg) (has_reference h field) Nil Field (λ b. Done) birth e (has_reference_true h field birth l)

pub heap_after-store : (h : Heap) (seat reg field from birth : ℕ) → register h seat reg ≡ Some birth → field < refs h birth → heap_after h seat (Store reg field from) ≡ with_link h birth field (register h seat from)
unfolding heap_after
heap_after-store h seat reg field from birth e l =
    entering_done (register h seat reg) (has_reference h field) h h (λ b. with_link h b field (register h seat from)) birth e (has_reference_true h field birth l)

-- the other calls

pub heap_after-get : (h : Heap) (seat reg field : ℕ) → heap_after h seat (Get reg field) ≡ h
unfolding heap_after
heap_after-get h seat reg field = refl

pub reply_of-move : (h : Heap) (seat dest from : ℕ) → reply_of h seat (Move dest from) ≡ Done
unfolding reply_of
reply_of-move h seat dest from = refl

pub heap_after-move : (h : Heap) (seat dest from : ℕ) → heap_after h seat (Move dest from) ≡ with_register h seat dest (register h seat from)
unfolding heap_after
heap_after-move h seat dest from = refl

pub reply_of-clear : (h : Heap) (seat dest : ℕ) → reply_of h seat (Clear dest) ≡ Done
unfolding reply_of
reply_of-clear h seat dest = refl

pub heap_after-clear : (h : Heap) (seat dest : ℕ) → heap_after h seat (Clear dest) ≡ with_register h seat dest None
unfolding heap_after
heap_after-clear h seat dest = refl

pub reply_of-new : (h : Heap) (seat dest : ℕ) (shape : Shape) → reply_of h seat (New dest shape) ≡ Done
unfolding reply_of
reply_of-new h seat dest shape = refl

pub heap_after-new : (h : Heap) (seat dest : ℕ) (shape : Shape) → heap_after h seat (New dest shape) ≡ with_register (with_object h shape) seat dest (Some (born h))
unfolding heap_after
heap_after-new h seat dest shape = refl

pub reply_of-same : (h : Heap) (seat a b : ℕ) → reply_of h seat (Same a b) ≡ said (is_same (register h seat a) (register h seat b))
unfolding reply_of
reply_of-same h seat a b = refl

pub reply_of-is_null : (h : Heap) (seat reg : ℕ) → reply_of h seat (IsNull reg) ≡ said (is_none (register h seat reg))
unfolding reply_of
reply_of-is_null h seat reg = refl

-- what a look at the register and the shape tells, which answers the birth or the reply that there will be

abbrev pub looked : Option ℕ → (ℕ → Bool) → Result ℕ Reply
looked entered has = entering entered has (Err Nil) (Err Field) (λ birth. Ok birth)

pub looked_ok : (entered : Option ℕ) (has : ℕ → Bool) (birth : ℕ) → Ok birth ≡ looked entered has → (entered ≡ Some birth) × (has birth ≡ true)
looked_ok None has birth e = absurd (cc e)
looked_ok (Some b) has birth e =
    elim (has b) as (λ v. (has b ≡ v) → Ok birth ≡ (if v then Ok b else Err Field) → (Some b ≡ Some birth) × (has birth ≡ true)) [
      | true ↦ λ h q. let m : b ≡ birth = cc q in (cc m, ap has (sym m) ∙ h)
      | false ↦ λ h q. absurd (cc q)
    ] refl e

pub looked_err : (entered : Option ℕ) (has : ℕ → Bool) (reply : Reply) → Err reply ≡ looked entered has → (done : ℕ → Reply) → reply ≡ entering entered has Nil Field done
looked_err None has reply e done = cc e
looked_err (Some b) has reply e done =
    elim (has b) as (λ v. Err reply ≡ (if v then Ok b else Err Field) → reply ≡ (if v then done b else Field)) [ true ↦ λ q. absurd (cc q) | false ↦ λ q. cc q ] e

pub looked_err_same : {A : Type 0} (entered : Option ℕ) (has : ℕ → Bool) (reply : Reply) → Err reply ≡ looked entered has → (h : A) (done : ℕ → A) → h ≡ entering entered has h h done
looked_err_same None has reply e h done = refl
looked_err_same (Some b) has reply e h done =
    elim (has b) as (λ v. Err reply ≡ (if v then Ok b else Err Field) → h ≡ (if v then done b else h)) [ true ↦ λ q. absurd (cc q) | false ↦ λ q. refl ] e

pub looked_number : (h : Heap) (seat reg field birth : ℕ) → Ok birth ≡ looked (register h seat reg) (has_number h field) → (register h seat reg ≡ Some birth) × (field < nums h birth)
looked_number h seat reg field birth e = let p = looked_ok (register h seat reg) (has_number h field) birth e in (p.0, grind (arith, nat_tests, p.1))

pub looked_reference : (h : Heap) (seat reg field birth : ℕ) → Ok birth ≡ looked (register h seat reg) (has_reference h field) → (register h seat reg ≡ Some birth) × (field < refs h birth)
looked_reference h seat reg field birth e = let p = looked_ok (register h seat reg) (has_reference h field) birth e in (p.0, grind (arith, nat_tests, p.1))

-- no call finds the heap full

never_full_entering : (entered : Option ℕ) (has : ℕ → Bool) (done : ℕ → Reply) → ((birth : ℕ) → done birth ≢ Full) → entering entered has Nil Field done ≢ Full
never_full_entering None has done d = λ e. absurd (cc e)
never_full_entering (Some birth) has done d = elim (has birth) as (λ v. (if v then done birth else Field) ≢ Full) [ true ↦ d birth | false ↦ λ e. absurd (cc e) ]

never_full_said : (b : Bool) → said b ≢ Full
never_full_said true = λ e. absurd (cc e)
never_full_said false = λ e. absurd (cc e)

pub never_full : (h : Heap) (seat : ℕ) (call : Call) → reply_of h seat call ≢ Full
unfolding reply_of
never_full h seat (Get reg field) = never_full_entering (register h seat reg) (has_number h field) (λ birth. Num (value h birth field)) (λ b e. absurd (cc e))
never_full h seat (Put reg field number) = never_full_entering (register h seat reg) (has_number h field) (λ birth. Done) (λ b e. absurd (cc e))
never_full h seat (Load dest reg field) = never_full_entering (register h seat reg) (has_reference h field) (λ birth. Done) (λ b e. absurd (cc e))
never_full h seat (Store reg field from) = never_full_entering (register h seat reg) (has_reference h field) (λ birth. Done) (λ b e. absurd (cc e))
never_full h seat (Move dest from) = λ e. absurd (cc e)
never_full h seat (Clear dest) = λ e. absurd (cc e)
never_full h seat (New dest shape) = λ e. absurd (cc e)
never_full h seat (Same a b) = never_full_said (is_same (register h seat a) (register h seat b))
never_full h seat (IsNull reg) = never_full_said (is_none (register h seat reg))
