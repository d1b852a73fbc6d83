-- What every call keeps of a heap.
use Rattle.std.proofs.Common.{◌≡◌, ℕ, zero, suc, ◌+◌, ◌-◌, ◌<◌, ◌≤◌, ◌⊎◌, inl, inr, refl, sym, ◌∙◌, ap, arith, sub-one, Bool, true, false, List, [], ◌∷◌, length, get_or, set, slice_get, replicate, unwrap_or, option_map, Option, Some, None, if◌then◌else◌}
use Rattle.std.proofs.lemmas.Bool.{cases_eq, cases_lt}
use Rattle.std.proofs.lemmas.List.{length-replicate, length-set, get_or-replicate, get_or_past}
use Rattle.hk_words.specs.declared.shape.Shape.{Shape}
use Rattle.hk_words.specs.declared.call.Call.{Call}
use Rattle.hk_words.specs.declared.call.Call.TheVariants.{Get, Put, Load, Store, Move, Clear, New, Same, IsNull}
use Rattle.hk_words.specs.Calls.{RegistersFit}
use Rattle.hk_model.specs.Heap.{Object, Heap, IsHeap, HoldsBoard, KeepsTasks, born, register, register_count, of_object, refs, nums, link, made, first_registers, opening}
use Rattle.hk_model.specs.Replies.{entering, has_number, has_reference, heap_after, with_register, with_link, with_value, with_object}
use Rattle.hk_model.proofs.Lists.{length-changed_at, measure-changed_at, get_or-set_cases, get_or-changed_row_cases, read-changed_at_same, read-changed_at_other}
use Rattle.hk_model.proofs.Views.{get_or-replicate_same, register-with_register_elsewhere, born-with_link, born-with_value, born-with_object, register-with_link, register-with_value, register-with_object, of_object-with_link, of_object-with_value, of_object-with_object, link-with_object, registers-with_link, registers-with_value, registers-with_object}

-- a birth that something may refer to
abbrev Refers : Heap → Option ℕ → Type 0
Refers h v = (birth : ℕ) → v ≡ Some birth → birth < born h

register_born-with_register : (h : Heap) (seat reg : ℕ) (v : Option ℕ) → ((s r b : ℕ) → register h s r ≡ Some b → b < born h) → Refers h v
    → (s r b : ℕ) → register (with_register h seat reg v) s r ≡ Some b → b < born h
unfolding register with_register
register_born-with_register h seat reg v old new s r b e =
    elim (get_or-changed_row_cases h.registers seat reg v s r None) [ inl a ↦ new b (sym a ∙ e) | inr a ↦ old s r b (sym a ∙ e) ]

pub IsHeap-with_register : (tasks count : ℕ) (h : Heap) (seat reg : ℕ) (v : Option ℕ) → IsHeap tasks count h → Refers h v → IsHeap tasks count (with_register h seat reg v)
unfolding with_register register_count born link refs nums of_object
IsHeap-with_register tasks count h seat reg v is new =
    record {
      tasks_are = length-changed_at (λ own. set own reg v) h.registers seat ∙ is.tasks_are;
      registers_are = λ s l. measure-changed_at length (λ own. set own reg v) [] (λ own. length-set own reg v) h.registers seat s ∙ is.registers_are s l;
      has_board = is.has_board;
      register_born = register_born-with_register h seat reg v is.register_born new;
      link_born = is.link_born;
      refs_are = is.refs_are;
      nums_are = is.nums_are;
    }

link_cases : (object : Option Object) (field : ℕ) (v : Option ℕ) (j : ℕ)
    → (unwrap_or (option_map (λ o. get_or (set o.refs field v) j None) object) None ≡ v)
    ⊎ (unwrap_or (option_map (λ o. get_or (set o.refs field v) j None) object) None ≡ unwrap_or (option_map (λ o. get_or o.refs j None) object) None)
link_cases None field v j = inr refl
link_cases (Some o) field v j = get_or-set_cases o.refs field v j None

link-with_link_cases : (h : Heap) (birth field : ℕ) (v : Option ℕ) (k j : ℕ) → (link (with_link h birth field v) k j ≡ v) ⊎ (link (with_link h birth field v) k j ≡ link h k j)
unfolding link with_link of_object
link-with_link_cases h birth field v k j =
    elim (cases_eq k birth) [
      | inl e ↦ rw (e, read-changed_at_same (λ o. get_or o.refs j None) (λ o. record o { refs = set o.refs field v }) None h.objects birth)
          (link_cases (slice_get h.objects birth) field v j)
      | inr d ↦ inr (read-changed_at_other (λ o. get_or o.refs j None) (λ o. record o { refs = set o.refs field v }) None h.objects birth k d)
    ]

-- the facts on registers, where the registers are the same and births were not lost
same_registers : (tasks count : ℕ) (h k : Heap) → IsHeap tasks count h → k.registers ≡ h.registers → born h ≤ born k
    → (length k.registers ≡ tasks) × ((s : ℕ) → s < tasks → register_count k s ≡ count) × ((s r b : ℕ) → register k s r ≡ Some b → b < born k)
unfolding register_count register
same_registers tasks count h k is e l = (
  ap length e ∙ is.tasks_are,
  (λ s m. ap (λ rows. length (get_or rows s [])) e ∙ is.registers_are s m),
  (λ s r b at. let m : b < born h = is.register_born s r b (sym (ap (λ rows. get_or (get_or rows s []) r None) e) ∙ at) in omega arith),
)

pub IsHeap-with_link : (tasks count : ℕ) (h : Heap) (birth field : ℕ) (v : Option ℕ) → IsHeap tasks count h → Refers h v → IsHeap tasks count (with_link h birth field v)
unfolding refs nums
IsHeap-with_link tasks count h birth field v is new =
    let n : born (with_link h birth field v) ≡ born h = born-with_link h birth field v in
    let g = same_registers tasks count h (with_link h birth field v) is (registers-with_link h birth field v) (omega arith) in
    let r : of_object 0 (λ o. length o.refs) (with_link h birth field v) ≡ of_object 0 (λ o. length o.refs) h = of_object-with_link 0 (λ o. length o.refs) h birth field v (λ o. length-set o.refs field v) in
    let q : of_object 0 (λ o. o.shape.refs) (with_link h birth field v) ≡ of_object 0 (λ o. o.shape.refs) h = of_object-with_link 0 (λ o. o.shape.refs) h birth field v (λ o. refl) in
    let m : of_object 0 (λ o. length o.nums) (with_link h birth field v) ≡ of_object 0 (λ o. length o.nums) h = of_object-with_link 0 (λ o. length o.nums) h birth field v (λ o. refl) in
    let p : of_object 0 (λ o. o.shape.nums) (with_link h birth field v) ≡ of_object 0 (λ o. o.shape.nums) h = of_object-with_link 0 (λ o. o.shape.nums) h birth field v (λ o. refl) in
    record {
      tasks_are = g.0;
      registers_are = g.1;
      has_board = rw n is.has_board;
      register_born = g.2;
      link_born = λ k j b e. rw n (elim (link-with_link_cases h birth field v k j) [ inl a ↦ new b (sym a ∙ e) | inr a ↦ is.link_born k j b (sym a ∙ e) ]);
      refs_are = rw (r, q) is.refs_are;
      nums_are = rw (m, p) is.nums_are;
    }

pub IsHeap-with_value : (tasks count : ℕ) (h : Heap) (birth field v : ℕ) → IsHeap tasks count h → IsHeap tasks count (with_value h birth field v)
unfolding refs nums link
IsHeap-with_value tasks count h birth field v is =
    let n : born (with_value h birth field v) ≡ born h = born-with_value h birth field v in
    let g = same_registers tasks count h (with_value h birth field v) is (registers-with_value h birth field v) (omega arith) in
    let r : of_object 0 (λ o. length o.refs) (with_value h birth field v) ≡ of_object 0 (λ o. length o.refs) h = of_object-with_value 0 (λ o. length o.refs) h birth field v (λ o. refl) in
    let q : of_object 0 (λ o. o.shape.refs) (with_value h birth field v) ≡ of_object 0 (λ o. o.shape.refs) h = of_object-with_value 0 (λ o. o.shape.refs) h birth field v (λ o. refl) in
    let m : of_object 0 (λ o. length o.nums) (with_value h birth field v) ≡ of_object 0 (λ o. length o.nums) h = of_object-with_value 0 (λ o. length o.nums) h birth field v (λ o. length-set o.nums field v) in
    let p : of_object 0 (λ o. o.shape.nums) (with_value h birth field v) ≡ of_object 0 (λ o. o.shape.nums) h = of_object-with_value 0 (λ o. o.shape.nums) h birth field v (λ o. refl) in
    let linked : (k j : ℕ) → of_object None (λ o. get_or o.refs j None) (with_value h birth field v) k ≡ of_object None (λ o. get_or o.refs j None) h k =
    λ k j. ap {B = Option ℕ} (λ (f : ℕ → Option ℕ). f k) (of_object-with_value None (λ o. get_or o.refs j None) h birth field v (λ o. refl)) in
    record {
      tasks_are = g.0;
      registers_are = g.1;
      has_board = rw n is.has_board;
      register_born = g.2;
      link_born = λ k j b e. rw n (is.link_born k j b (sym (linked k j) ∙ e));
      refs_are = rw (r, q) is.refs_are;
      nums_are = rw (m, p) is.nums_are;
    }

-- two readings of the objects that agree before and on a new object agree after it
agree-with_object : (read other : Object → ℕ) (h : Heap) (shape : Shape) → ((b : ℕ) → of_object 0 read h b ≡ of_object 0 other h b) → read (made shape) ≡ other (made shape)
    → (b : ℕ) → of_object 0 read (with_object h shape) b ≡ of_object 0 other (with_object h shape) b
agree-with_object read other h shape before new b =
    let f : of_object 0 read h ≡ of_object 0 other h = λ i k. before k i in
    rw (of_object-with_object 0 read h shape, of_object-with_object 0 other h shape, f, new) refl

made_refs : (shape : Shape) → length (made shape).refs ≡ (made shape).shape.refs
unfolding made
made_refs shape = length-replicate shape.refs None

made_nums : (shape : Shape) → length (made shape).nums ≡ (made shape).shape.nums
unfolding made
made_nums shape = length-replicate shape.nums 0

pub IsHeap-with_object : (tasks count : ℕ) (h : Heap) (shape : Shape) → IsHeap tasks count h → IsHeap tasks count (with_object h shape)
unfolding refs nums
IsHeap-with_object tasks count h shape is =
    let n : born (with_object h shape) ≡ born h + 1 = born-with_object h shape in
    let g = same_registers tasks count h (with_object h shape) is (registers-with_object h shape) (omega arith) in
    record {
      tasks_are = g.0;
      registers_are = g.1;
      has_board = omega arith;
      register_born = g.2;
      link_born = λ k j b e. let l : b < born h = is.link_born k j b (rw (link-with_object h shape) at e) in omega arith;
      refs_are = agree-with_object (λ o. length o.refs) (λ o. o.shape.refs) h shape is.refs_are (made_refs shape);
      nums_are = agree-with_object (λ o. length o.nums) (λ o. o.shape.nums) h shape is.nums_are (made_nums shape);
    }

-- what holds of both ends of a call that enters an object, and of what it does there, holds where it comes to
pub entering_all : {A : Type 0} (P : A → Type 0) (entered : Option ℕ) (has : ℕ → Bool) (nil no_field : A) (done : ℕ → A) → P nil → P no_field → ((birth : ℕ) → P (done birth)) → P (entering entered has nil no_field done)
entering_all P None has nil no_field done a b c = a
entering_all P (Some birth) has nil no_field done a b c = elim (has birth) as (λ v. P (if v then done birth else no_field)) [ true ↦ c birth | false ↦ b ]

-- a call keeps what a heap is
pub IsHeap-heap_after : (tasks count : ℕ) (h : Heap) (seat : ℕ) (call : Call) → IsHeap tasks count h → IsHeap tasks count (heap_after h seat call)
unfolding heap_after
IsHeap-heap_after tasks count h seat (Get reg field) is = is
IsHeap-heap_after tasks count h seat (Put reg field number) is =
    entering_all (IsHeap tasks count) (register h seat reg) (has_number h field) h h (λ birth. with_value h birth field number) is is (λ b. IsHeap-with_value tasks count h b field number is)
IsHeap-heap_after tasks count h seat (Load dest reg field) is =
    entering_all (IsHeap tasks count) (register h seat reg) (has_reference h field) h h (λ birth. with_register h seat dest (link h birth field)) is is
    (λ b. IsHeap-with_register tasks count h seat dest (link h b field) is (is.link_born b field))
IsHeap-heap_after tasks count h seat (Store reg field from) is =
    entering_all (IsHeap tasks count) (register h seat reg) (has_reference h field) h h (λ birth. with_link h birth field (register h seat from)) is is
    (λ b. IsHeap-with_link tasks count h b field (register h seat from) is (is.register_born seat from))
IsHeap-heap_after tasks count h seat (Move dest from) is = IsHeap-with_register tasks count h seat dest (register h seat from) is (is.register_born seat from)
IsHeap-heap_after tasks count h seat (Clear dest) is = IsHeap-with_register tasks count h seat dest None is (λ b e. absurd (cc e))
IsHeap-heap_after tasks count h seat (New dest shape) is =
    IsHeap-with_register tasks count (with_object h shape) seat dest (Some (born h)) (IsHeap-with_object tasks count h shape is) (new_birth h shape)
  where
    new_birth : (h : Heap) (shape : Shape) → Refers (with_object h shape) (Some (born h))
    new_birth h shape b e = let n : born (with_object h shape) ≡ born h + 1 = born-with_object h shape in let q : born h ≡ b = cc e in omega arith
IsHeap-heap_after tasks count h seat (Same a b) is = is
IsHeap-heap_after tasks count h seat (IsNull reg) is = is

-- every call keeps the tasks and their registers

pub KeepsTasks-same : (old new : Heap) → new.registers ≡ old.registers → KeepsTasks old new
unfolding register_count
KeepsTasks-same old new e = (ap length e, λ s. ap (λ rows. length (get_or rows s [])) e)

pub KeepsTasks-with_register : (h : Heap) (seat reg : ℕ) (v : Option ℕ) → KeepsTasks h (with_register h seat reg v)
unfolding with_register register_count
KeepsTasks-with_register h seat reg v =
    (length-changed_at (λ own. set own reg v) h.registers seat, λ s. measure-changed_at length (λ own. set own reg v) [] (λ own. length-set own reg v) h.registers seat s)

-- the heap at the start

abbrev null : Option ℕ
null = None

abbrev nulls : ℕ → List (Option ℕ)
nulls n = replicate n None

-- registers that are null and then have the first one set
pub first_registers_is : (count : ℕ) (row : List (Option ℕ)) → 0 < count → row ≡ replicate count None → set row 0 (Some 0) ≡ first_registers count
unfolding first_registers
first_registers_is zero row l e = absurd (omega arith)
first_registers_is (suc count) row l e = rw (e, sub-one) refl

first_registers_length : (count : ℕ) → 0 < count → length (first_registers count) ≡ count
unfolding first_registers
first_registers_length count l = let r : length (nulls (count - 1)) ≡ count - 1 = length-replicate (count - 1) None in omega arith

first_registers_born : (count reg birth : ℕ) → get_or (first_registers count) reg None ≡ Some birth → birth < 1
unfolding first_registers
first_registers_born count zero birth e = let z : 0 ≡ birth = cc e in omega arith
first_registers_born count (suc reg) birth e = absurd (let n : get_or (nulls (count - 1)) reg None ≡ None = get_or-replicate_same (count - 1) reg None in cc (n, e))

opening_register_born : (tasks count : ℕ) (board : Shape) (seat reg birth : ℕ) → register (opening tasks count board) seat reg ≡ Some birth → birth < 1
unfolding register opening
opening_register_born tasks count board seat reg birth e =
    elim (cases_lt seat tasks) [
      | inl l ↦ first_registers_born count reg birth (sym (ap (λ own. get_or own reg None) (get_or-replicate tasks seat (first_registers count) [] l)) ∙ e)
      | inr l ↦ absurd (let n : get_or (replicate tasks (first_registers count)) seat [] ≡ [] = get_or_past (replicate tasks (first_registers count)) seat [] (omega (arith, length-replicate tasks (first_registers count))) in
          let m : get_or (get_or (replicate tasks (first_registers count)) seat []) reg None ≡ null = ap (λ own. get_or own reg null) n in cc (m, e))
    ]

opening_link : (tasks count : ℕ) (board : Shape) (owner field : ℕ) → link (opening tasks count board) owner field ≡ None
unfolding link opening of_object made
opening_link tasks count board zero field = get_or-replicate_same board.refs field None
opening_link tasks count board (suc owner) field = refl

opening_refs : (tasks count : ℕ) (board : Shape) (birth : ℕ) → of_object 0 (λ o. length o.refs) (opening tasks count board) birth ≡ of_object 0 (λ o. o.shape.refs) (opening tasks count board) birth
unfolding opening of_object
opening_refs tasks count board zero = made_refs board
opening_refs tasks count board (suc birth) = refl

opening_nums : (tasks count : ℕ) (board : Shape) (birth : ℕ) → of_object 0 (λ o. length o.nums) (opening tasks count board) birth ≡ of_object 0 (λ o. o.shape.nums) (opening tasks count board) birth
unfolding opening of_object
opening_nums tasks count board zero = made_nums board
opening_nums tasks count board (suc birth) = refl

pub opening_count : (tasks count : ℕ) (board : Shape) (seat : ℕ) → 0 < count → seat < tasks → register_count (opening tasks count board) seat ≡ count
unfolding register_count opening
opening_count tasks count board seat l s = ap length (get_or-replicate tasks seat (first_registers count) [] s) ∙ first_registers_length count l

opening_tasks : (tasks count : ℕ) (board : Shape) → length (opening tasks count board).registers ≡ tasks
unfolding opening
opening_tasks tasks count board = length-replicate tasks (first_registers count)

pub born-opening : (tasks count : ℕ) (board : Shape) → born (opening tasks count board) ≡ 1
unfolding born opening
born-opening tasks count board = refl

pub IsHeap-opening : (tasks count : ℕ) (board : Shape) → 0 < count → IsHeap tasks count (opening tasks count board)
unfolding refs nums
IsHeap-opening tasks count board l =
    let n : born (opening tasks count board) ≡ 1 = born-opening tasks count board in
    record {
      tasks_are = opening_tasks tasks count board;
      registers_are = λ s m. opening_count tasks count board s l m;
      has_board = omega arith;
      register_born = λ s r b e. rw n (opening_register_born tasks count board s r b e);
      link_born = λ k j b e. absurd (let m : link (opening tasks count board) k j ≡ None = opening_link tasks count board k j in cc (m, e));
      refs_are = opening_refs tasks count board;
      nums_are = opening_nums tasks count board;
    }

-- register 0 holds the board for good

pub HoldsBoard-opening : (tasks count : ℕ) (board : Shape) → HoldsBoard tasks (opening tasks count board)
unfolding register opening first_registers
HoldsBoard-opening tasks count board s l = ap (λ own. get_or own 0 None) (get_or-replicate tasks s (Some 0 ∷ replicate (count - 1) None) [] l)

register_0-with_register : (tasks : ℕ) (h : Heap) (seat reg : ℕ) (v : Option ℕ) → 0 < reg → HoldsBoard tasks h → HoldsBoard tasks (with_register h seat reg v)
register_0-with_register tasks h seat reg v l held s m = register-with_register_elsewhere h seat reg v s 0 (inr (omega arith)) ∙ held s m

same_board : (tasks : ℕ) (h k : Heap) → register k ≡ register h → HoldsBoard tasks h → HoldsBoard tasks k
same_board tasks h k e held = rw e held

pub HoldsBoard-heap_after : (tasks count : ℕ) (h : Heap) (seat : ℕ) (call : Call) → RegistersFit count call → HoldsBoard tasks h → HoldsBoard tasks (heap_after h seat call)
unfolding heap_after
HoldsBoard-heap_after tasks count h seat (Get reg field) fit held = held
HoldsBoard-heap_after tasks count h seat (Put reg field number) fit held =
    entering_all (HoldsBoard tasks) (register h seat reg) (has_number h field) h h (λ birth. with_value h birth field number) held held
    (λ b. same_board tasks h (with_value h b field number) (register-with_value h b field number) held)
HoldsBoard-heap_after tasks count h seat (Load dest reg field) fit held =
    entering_all (HoldsBoard tasks) (register h seat reg) (has_reference h field) h h (λ birth. with_register h seat dest (link h birth field)) held held
    (λ b. register_0-with_register tasks h seat dest (link h b field) fit.0.0 held)
HoldsBoard-heap_after tasks count h seat (Store reg field from) fit held =
    entering_all (HoldsBoard tasks) (register h seat reg) (has_reference h field) h h (λ birth. with_link h birth field (register h seat from)) held held
    (λ b. same_board tasks h (with_link h b field (register h seat from)) (register-with_link h b field (register h seat from)) held)
HoldsBoard-heap_after tasks count h seat (Move dest from) fit held = register_0-with_register tasks h seat dest (register h seat from) fit.0.0 held
HoldsBoard-heap_after tasks count h seat (Clear dest) fit held = register_0-with_register tasks h seat dest None fit.0 held
HoldsBoard-heap_after tasks count h seat (New dest shape) fit held =
    register_0-with_register tasks (with_object h shape) seat dest (Some (born h)) fit.0 (same_board tasks h (with_object h shape) (register-with_object h shape) held)
HoldsBoard-heap_after tasks count h seat (Same a b) fit held = held
HoldsBoard-heap_after tasks count h seat (IsNull reg) fit held = held

-- what the heap at the start says
