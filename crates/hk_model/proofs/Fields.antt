-- What the fields of a `Plain` say of the heap that it is. The heap of the fields is k, and h is the heap that the
-- caller has; own are the registers of a task, and o is the object of a birth, as they are read from a list.
use Rattle.std.proofs.Common.{◌≡◌, ℕ, ◌<◌, refl, sym, ◌∙◌, ap, subst, arith, List, [], ◌∷◌, ◌++◌, length, get_or, set, slice_index, replicate, Option, Some, None, IfSome}
use Rattle.hk_words.specs.declared.shape.Shape.{Shape}
use Rattle.hk_model.specs.Heap.{Object, Heap, IsHeap, IsPlain, born, register, register_count, of_object, refs, nums, link, value, made, first_registers, opening}
use Rattle.hk_model.specs.Replies.{changed_at, with_register, with_link, with_value, with_object}
use Rattle.hk_model.proofs.Lists.{get_or_within, changed_at-set, read_within}
use Rattle.hk_model.proofs.Heaps.{IsHeap-with_register, IsHeap-with_link, IsHeap-with_value, IsHeap-with_object}

pub IsPlain-kept : (tasks count : ℕ) (h : Heap) → IsHeap tasks count h → IsPlain h
IsPlain-kept tasks count h is =
    record {
      tasks_are = refl;
      registers_are = λ s l. let t : length h.registers ≡ tasks = is.tasks_are in is.registers_are s (omega arith) ∙ sym (is.registers_are 0 (omega arith));
      has_board = is.has_board;
      register_born = is.register_born;
      link_born = is.link_born;
      refs_are = is.refs_are;
      nums_are = is.nums_are;
    }

-- registers

own_is : (h k : Heap) (seat place : ℕ) (own : List (Option ℕ)) → k ≡ h → place ≡ seat → seat < length h.registers → own ≡ get_or k.registers place own → own ≡ get_or h.registers seat []
own_is h k seat place own e p l o =
    let q : own ≡ get_or h.registers seat own = rw (e, p) at o in q ∙ get_or_within h.registers seat own [] l

pub own_has : (h k : Heap) (seat place reg : ℕ) (own : List (Option ℕ)) → k ≡ h → place ≡ seat → seat < length h.registers → reg < register_count h seat → own ≡ get_or k.registers place own → reg < length own
unfolding register_count
own_has h k seat place reg own e p l r o = rw (own_is h k seat place own e p l o) r

pub own_holds : (h k : Heap) (seat place reg : ℕ) (own : List (Option ℕ)) (found : Option ℕ) → k ≡ h → place ≡ seat → seat < length h.registers → own ≡ get_or k.registers place own
    → found ≡ get_or own reg None → found ≡ register h seat reg
unfolding register
own_holds h k seat place reg own found e p l o f = f ∙ ap (λ x. get_or x reg None) (own_is h k seat place own e p l o)

-- what was found refers to a birth
if_born : (h : Heap) (found : Option ℕ) → ((birth : ℕ) → found ≡ Some birth → birth < born h) → IfSome found (λ birth. birth < born h)
if_born h None all = tt
if_born h (Some birth) all = all birth refl

all_born : (h : Heap) (found : Option ℕ) → IfSome found (λ birth. birth < born h) → (birth : ℕ) → found ≡ Some birth → birth < born h
all_born h None one birth e = absurd (cc e)
all_born h (Some b) one birth e = let q : b ≡ birth = cc e in omega (arith, one)

pub register_if_born : (h k : Heap) (seat reg : ℕ) (found : Option ℕ) → k ≡ h → IsPlain k → found ≡ register h seat reg → IfSome found (λ birth. birth < born h)
register_if_born h k seat reg found e is f = let p = subst IsPlain e is in if_born h found (λ b at. p.register_born seat reg b (sym f ∙ at))

pub register_set : (h k : Heap) (seat place reg : ℕ) (own new : List (Option ℕ)) (v : Option ℕ) → k ≡ h → place ≡ seat → own ≡ get_or k.registers place own → new ≡ set own reg v
    → record k { registers = set k.registers place new } ≡ with_register h seat reg v
unfolding with_register
register_set h k seat place reg own new v e p o n =
    rw (← e, ← p, changed_at-set (λ x. set x reg v) k.registers place own, ← o, n) refl

pub register_set_kept : (h k after : Heap) (seat reg : ℕ) (v : Option ℕ) → k ≡ h → IsPlain k → IfSome v (λ birth. birth < born h) → after ≡ with_register h seat reg v → IsPlain after
register_set_kept h k after seat reg v e is one a =
    rw a (IsPlain-kept _ _ (with_register h seat reg v) (IsHeap-with_register _ _ h seat reg v (subst IsPlain e is) (all_born h v one)))

-- objects

pub birth_within : (h k : Heap) (birth : ℕ) → k ≡ h → birth < born h → birth < length k.objects
unfolding born
birth_within h k birth e l = rw e l

object_says : {A : Type 0} (absent : A) (read : Object → A) (h k : Heap) (birth : ℕ) (o : Object) → k ≡ h → birth < born h → o ≡ get_or k.objects birth o → of_object absent read h birth ≡ read o
unfolding born of_object
object_says absent read h k birth o e l at =
    let q : o ≡ get_or h.objects birth o = rw e at at in read_within read absent h.objects birth o l ∙ ap read (sym q)

pub refs_read : (h k : Heap) (birth found : ℕ) (o : Object) → k ≡ h → birth < born h → o ≡ get_or k.objects birth o → found ≡ o.shape.refs → found ≡ refs h birth
unfolding refs
refs_read h k birth found o e l at f = f ∙ sym (object_says 0 (λ x. x.shape.refs) h k birth o e l at)

pub nums_read : (h k : Heap) (birth found : ℕ) (o : Object) → k ≡ h → birth < born h → o ≡ get_or k.objects birth o → found ≡ o.shape.nums → found ≡ nums h birth
unfolding nums
nums_read h k birth found o e l at f = f ∙ sym (object_says 0 (λ x. x.shape.nums) h k birth o e l at)

pub refs_has : (h k : Heap) (birth field : ℕ) (o : Object) → k ≡ h → IsPlain k → birth < born h → o ≡ get_or k.objects birth o → field < refs h birth → field < length o.refs
refs_has h k birth field o e is l at f =
    let p = subst IsPlain e is in
    let q : of_object 0 (λ x. length x.refs) h birth ≡ refs h birth = p.refs_are birth in
    let r : of_object 0 (λ x. length x.refs) h birth ≡ length o.refs = object_says 0 (λ x. length x.refs) h k birth o e l at in
    omega arith

pub nums_has : (h k : Heap) (birth field : ℕ) (o : Object) → k ≡ h → IsPlain k → birth < born h → o ≡ get_or k.objects birth o → field < nums h birth → field < length o.nums
nums_has h k birth field o e is l at f =
    let p = subst IsPlain e is in
    let q : of_object 0 (λ x. length x.nums) h birth ≡ nums h birth = p.nums_are birth in
    let r : of_object 0 (λ x. length x.nums) h birth ≡ length o.nums = object_says 0 (λ x. length x.nums) h k birth o e l at in
    omega arith

pub link_read : (h k : Heap) (birth field : ℕ) (found : Option ℕ) (o : Object) → k ≡ h → birth < born h → o ≡ get_or k.objects birth o → found ≡ get_or o.refs field None → found ≡ link h birth field
unfolding link
link_read h k birth field found o e l at f = f ∙ sym (object_says None (λ x. get_or x.refs field None) h k birth o e l at)

pub link_if_born : (h k : Heap) (birth field : ℕ) (found : Option ℕ) → k ≡ h → IsPlain k → found ≡ link h birth field → IfSome found (λ target. target < born h)
link_if_born h k birth field found e is f = let p = subst IsPlain e is in if_born h found (λ b at. p.link_born birth field b (sym f ∙ at))

pub value_read : (h k : Heap) (birth field found : ℕ) (o : Object) → k ≡ h → birth < born h → o ≡ get_or k.objects birth o → found ≡ slice_index o.nums field → found ≡ value h birth field
unfolding value
value_read h k birth field found o e l at f = f ∙ sym (object_says 0 (λ x. slice_index x.nums field) h k birth o e l at)

object_set : (h k : Heap) (birth : ℕ) (o new : Object) (change : Object → Object) → k ≡ h → o ≡ get_or k.objects birth o → new ≡ change o
    → record k { objects = set k.objects birth new } ≡ record h { objects = changed_at change h.objects birth }
object_set h k birth o new change e at n =
    rw (← e, changed_at-set change k.objects birth o, ← at, n) refl

pub link_set : (h k : Heap) (birth field : ℕ) (v : Option ℕ) (o new : Object) → k ≡ h → o ≡ get_or k.objects birth o → new ≡ record o { refs = set o.refs field v }
    → record k { objects = set k.objects birth new } ≡ with_link h birth field v
unfolding with_link
link_set h k birth field v o new e at n = object_set h k birth o new (λ x. record x { refs = set x.refs field v }) e at n

pub link_set_kept : (h k after : Heap) (birth field : ℕ) (v : Option ℕ) → k ≡ h → IsPlain k → IfSome v (λ target. target < born h) → after ≡ with_link h birth field v → IsPlain after
link_set_kept h k after birth field v e is one a =
    rw a (IsPlain-kept _ _ (with_link h birth field v) (IsHeap-with_link _ _ h birth field v (subst IsPlain e is) (all_born h v one)))

pub value_set : (h k : Heap) (birth field v : ℕ) (o new : Object) → k ≡ h → o ≡ get_or k.objects birth o → new ≡ record o { nums = set o.nums field v }
    → record k { objects = set k.objects birth new } ≡ with_value h birth field v
unfolding with_value
value_set h k birth field v o new e at n = object_set h k birth o new (λ x. record x { nums = set x.nums field v }) e at n

pub value_set_kept : (h k after : Heap) (birth field v : ℕ) → k ≡ h → IsPlain k → after ≡ with_value h birth field v → IsPlain after
value_set_kept h k after birth field v e is a =
    rw a (IsPlain-kept _ _ (with_value h birth field v) (IsHeap-with_value _ _ h birth field v (subst IsPlain e is)))

pub object_added : (h k : Heap) (shape : Shape) (o : Object) (objects : List Object) → k ≡ h → o ≡ made shape → objects ≡ k.objects ++ o ∷ [] → record k { objects = objects } ≡ with_object h shape
unfolding with_object
object_added h k shape o objects e m a = rw (a, m, e) refl

pub object_added_kept : (h k after : Heap) (shape : Shape) → k ≡ h → IsPlain k → after ≡ with_object h shape → IsPlain after
object_added_kept h k after shape e is a =
    rw a (IsPlain-kept _ _ (with_object h shape) (IsHeap-with_object _ _ h shape (subst IsPlain e is)))

-- the opening

pub opening_is : (tasks count : ℕ) (board : Shape) (o : Object) (none objects : List Object) (registers : List (List (Option ℕ))) → o ≡ made board → none ≡ [] → objects ≡ none ++ o ∷ [] → registers ≡ replicate tasks (first_registers count)
    → ◌≡◌ {A = Heap} (record { objects = objects; registers = registers }) (opening tasks count board)
unfolding opening
opening_is tasks count board o none objects registers m z a r = rw (a, m, z, r) refl
