-- What each change of a heap is on its view: one function changed at one place, and the others as they were.
use Rattle.std.proofs.Common.{◌≡◌, ℕ, ◌≤◌, ◌+◌, ◌<◌, ◌≢◌, ◌⊎◌, inl, inr, refl, sym, ◌∙◌, arith, [], ◌∷◌, length, get_or, set, replicate, Option, Some, None, get_or-set_same, get_or-set_other, length-append, slice_get, unwrap_or, option_map}
use Rattle.std.proofs.lemmas.Bool.{cases_eq, cases_lt}
use Rattle.std.proofs.lemmas.List.{get_or-replicate, length-replicate}
use Rattle.std.proofs.Math.ListN.{get_or-eq_default}
use Rattle.hk_words.specs.declared.shape.Shape.{Shape}
use Rattle.hk_model.specs.Heap.{Object, Heap, born, register, register_count, of_object, link, value, made}
use Rattle.hk_model.specs.Replies.{with_register, with_link, with_value, with_object}
use Rattle.hk_model.specs.View.{upd, upd2}
use Rattle.hk_model.proofs.Lists.{get_or-changed_at_same, get_or-changed_row_other, length-changed_at, read-changed_at_kept, read-changed_at_other, read-changed_at_same, read-push_before, read-push_last, read_past}
use Rattle.hk_model.proofs.Updates.{is_upd, is_upd2}

-- a register set

register-with_register_at : (h : Heap) (seat reg : ℕ) (v : Option ℕ) → seat < length h.registers → reg < register_count h seat → register (with_register h seat reg v) seat reg ≡ v
unfolding register with_register register_count
register-with_register_at h seat reg v s r =
    rw (get_or-changed_at_same (λ own. set own reg v) h.registers seat [] s) (get_or-set_same (get_or h.registers seat []) reg v None r)

pub register-with_register_elsewhere : (h : Heap) (seat reg : ℕ) (v : Option ℕ) (k j : ℕ) → (k ≢ seat) ⊎ (j ≢ reg) → register (with_register h seat reg v) k j ≡ register h k j
unfolding register with_register
register-with_register_elsewhere h seat reg v k j d = get_or-changed_row_other h.registers seat reg v k j None d

pub register-with_register : (h : Heap) (seat reg : ℕ) (v : Option ℕ) → seat < length h.registers → reg < register_count h seat → register (with_register h seat reg v) ≡ upd2 (register h) seat reg v
register-with_register h seat reg v s r =
    is_upd2 (register (with_register h seat reg v)) (register h) seat reg v (register-with_register_at h seat reg v s r) (register-with_register_elsewhere h seat reg v)

-- a reference field set

unset_link : (object : Option Object) (field : ℕ) (v : Option ℕ) → field < unwrap_or (option_map (λ o. length o.refs) object) 0
    → unwrap_or (option_map (λ o. get_or (set o.refs field v) field None) object) None ≡ v
unset_link None field v l = absurd (omega arith)
unset_link (Some o) field v l = get_or-set_same o.refs field v None l

link-with_link_at : (h : Heap) (birth field : ℕ) (v : Option ℕ) → field < of_object 0 (λ object. length object.refs) h birth → link (with_link h birth field v) birth field ≡ v
unfolding link with_link of_object
link-with_link_at h birth field v l =
    rw (read-changed_at_same (λ o. get_or o.refs field None) (λ o. record o { refs = set o.refs field v }) None h.objects birth) (unset_link (slice_get h.objects birth) field v l)

link-with_link_elsewhere : (h : Heap) (birth field : ℕ) (v : Option ℕ) (k j : ℕ) → (k ≢ birth) ⊎ (j ≢ field) → link (with_link h birth field v) k j ≡ link h k j
unfolding link with_link of_object
link-with_link_elsewhere h birth field v k j (inl d) =
    read-changed_at_other (λ o. get_or o.refs j None) (λ o. record o { refs = set o.refs field v }) None h.objects birth k d
link-with_link_elsewhere h birth field v k j (inr d) =
    read-changed_at_kept (λ o. get_or o.refs j None) (λ o. record o { refs = set o.refs field v }) None (λ o. get_or-set_other o.refs field j v None d) h.objects birth k

pub link-with_link : (h : Heap) (birth field : ℕ) (v : Option ℕ) → field < of_object 0 (λ object. length object.refs) h birth → link (with_link h birth field v) ≡ upd2 (link h) birth field v
link-with_link h birth field v l =
    is_upd2 (link (with_link h birth field v)) (link h) birth field v (link-with_link_at h birth field v l) (link-with_link_elsewhere h birth field v)

-- what is read of the objects, but for their reference cells, is as it was
pub of_object-with_link : {A : Type 0} (absent : A) (read : Object → A) (h : Heap) (birth field : ℕ) (v : Option ℕ)
    → ((o : Object) → read (record o { refs = set o.refs field v }) ≡ read o) → of_object absent read (with_link h birth field v) ≡ of_object absent read h
unfolding with_link of_object
of_object-with_link absent read h birth field v same =
    λ i k. read-changed_at_kept read (λ o. record o { refs = set o.refs field v }) absent same h.objects birth k i

-- a number field set

unset_value : (object : Option Object) (field v : ℕ) → field < unwrap_or (option_map (λ o. length o.nums) object) 0
    → unwrap_or (option_map (λ o. get_or (set o.nums field v) field 0) object) 0 ≡ v
unset_value None field v l = absurd (omega arith)
unset_value (Some o) field v l = get_or-set_same o.nums field v 0 l

value-with_value_at : (h : Heap) (birth field v : ℕ) → field < of_object 0 (λ object. length object.nums) h birth → value (with_value h birth field v) birth field ≡ v
unfolding value with_value of_object
value-with_value_at h birth field v l =
    rw (read-changed_at_same (λ o. get_or o.nums field 0) (λ o. record o { nums = set o.nums field v }) 0 h.objects birth) (unset_value (slice_get h.objects birth) field v l)

value-with_value_elsewhere : (h : Heap) (birth field v : ℕ) (k j : ℕ) → (k ≢ birth) ⊎ (j ≢ field) → value (with_value h birth field v) k j ≡ value h k j
unfolding value with_value of_object
value-with_value_elsewhere h birth field v k j (inl d) =
    read-changed_at_other (λ o. get_or o.nums j 0) (λ o. record o { nums = set o.nums field v }) 0 h.objects birth k d
value-with_value_elsewhere h birth field v k j (inr d) =
    read-changed_at_kept (λ o. get_or o.nums j 0) (λ o. record o { nums = set o.nums field v }) 0 (λ o. get_or-set_other o.nums field j v 0 d) h.objects birth k

pub value-with_value : (h : Heap) (birth field v : ℕ) → field < of_object 0 (λ object. length object.nums) h birth → value (with_value h birth field v) ≡ upd2 (value h) birth field v
value-with_value h birth field v l =
    is_upd2 (value (with_value h birth field v)) (value h) birth field v (value-with_value_at h birth field v l) (value-with_value_elsewhere h birth field v)

-- what is read of the objects, but for their number cells, is as it was
pub of_object-with_value : {A : Type 0} (absent : A) (read : Object → A) (h : Heap) (birth field v : ℕ)
    → ((o : Object) → read (record o { nums = set o.nums field v }) ≡ read o) → of_object absent read (with_value h birth field v) ≡ of_object absent read h
unfolding with_value of_object
of_object-with_value absent read h birth field v same =
    λ i k. read-changed_at_kept read (λ o. record o { nums = set o.nums field v }) absent same h.objects birth k i

-- one object more

pub of_object-with_object : {A : Type 0} (absent : A) (read : Object → A) (h : Heap) (shape : Shape) → of_object absent read (with_object h shape) ≡ upd (of_object absent read h) (born h) (read (made shape))
unfolding with_object of_object born
of_object-with_object absent read h shape =
    is_upd (of_object absent read (with_object h shape)) (of_object absent read h) (length h.objects) (read (made shape))
    (read-push_last read absent h.objects (made shape)) (λ k d. read-push_before read absent h.objects (made shape) k d)

-- what is read of a new object as it would be of none is read nowhere else either
pub of_object-with_object_kept : {A : Type 0} (absent : A) (read : Object → A) (h : Heap) (shape : Shape) → read (made shape) ≡ absent
    → (k : ℕ) → of_object absent read (with_object h shape) k ≡ of_object absent read h k
unfolding with_object of_object
of_object-with_object_kept absent read h shape same k =
    elim (cases_eq k (length h.objects)) [
      | inl e ↦ rw e (read-push_last read absent h.objects (made shape) ∙ same ∙ sym (read_past read absent h.objects (length h.objects) (omega arith)))
      | inr d ↦ read-push_before read absent h.objects (made shape) k d
    ]

pub get_or-replicate_same : {A : Type 0} (n i : ℕ) (a : A) → get_or (replicate n a) i a ≡ a
get_or-replicate_same n i a =
    elim (cases_lt i n) [ inl l ↦ get_or-replicate n i a a l | inr l ↦ get_or-eq_default (replicate n a) a (omega (arith, length-replicate n a)) ]

pub link-with_object : (h : Heap) (shape : Shape) → link (with_object h shape) ≡ link h
unfolding link made
link-with_object h shape =
    λ i k j. of_object-with_object_kept None (λ o. get_or o.refs j None) h shape (get_or-replicate_same shape.refs j None) k i

pub value-with_object : (h : Heap) (shape : Shape) → value (with_object h shape) ≡ value h
unfolding value made
value-with_object h shape =
    λ i k j. of_object-with_object_kept 0 (λ o. get_or o.nums j 0) h shape (get_or-replicate_same shape.nums j 0) k i

-- the registers and the number of births where objects change, and the objects where a register does

pub born-with_register : (h : Heap) (seat reg : ℕ) (v : Option ℕ) → born (with_register h seat reg v) ≡ born h
unfolding born with_register
born-with_register h seat reg v = refl

pub born-with_link : (h : Heap) (birth field : ℕ) (v : Option ℕ) → born (with_link h birth field v) ≡ born h
unfolding born with_link
born-with_link h birth field v = length-changed_at (λ o. record o { refs = set o.refs field v }) h.objects birth

pub born-with_value : (h : Heap) (birth field v : ℕ) → born (with_value h birth field v) ≡ born h
unfolding born with_value
born-with_value h birth field v = length-changed_at (λ o. record o { nums = set o.nums field v }) h.objects birth

pub born-with_object : (h : Heap) (shape : Shape) → born (with_object h shape) ≡ born h + 1
unfolding born with_object
born-with_object h shape = length-append h.objects (made shape ∷ [])

pub register-with_link : (h : Heap) (birth field : ℕ) (v : Option ℕ) → register (with_link h birth field v) ≡ register h
unfolding register with_link
register-with_link h birth field v = refl

pub register-with_value : (h : Heap) (birth field v : ℕ) → register (with_value h birth field v) ≡ register h
unfolding register with_value
register-with_value h birth field v = refl

pub register-with_object : (h : Heap) (shape : Shape) → register (with_object h shape) ≡ register h
unfolding register with_object
register-with_object h shape = refl

pub registers-with_link : (h : Heap) (birth field : ℕ) (v : Option ℕ) → (with_link h birth field v).registers ≡ h.registers
unfolding with_link
registers-with_link h birth field v = refl

pub registers-with_value : (h : Heap) (birth field v : ℕ) → (with_value h birth field v).registers ≡ h.registers
unfolding with_value
registers-with_value h birth field v = refl

pub registers-with_object : (h : Heap) (shape : Shape) → (with_object h shape).registers ≡ h.registers
unfolding with_object
registers-with_object h shape = refl

-- what is read of a birth that is still to come

of_object_unborn : {A : Type 0} (absent : A) (read : Object → A) (h : Heap) (birth : ℕ) → born h ≤ birth → of_object absent read h birth ≡ absent
unfolding of_object born
of_object_unborn absent read h birth l = read_past read absent h.objects birth l

pub link_unborn : (h : Heap) (birth field : ℕ) → born h ≤ birth → link h birth field ≡ None
unfolding link
link_unborn h birth field l = of_object_unborn None (λ o. get_or o.refs field None) h birth l

pub value_unborn : (h : Heap) (birth field : ℕ) → born h ≤ birth → value h birth field ≡ 0
unfolding value
value_unborn h birth field l = of_object_unborn 0 (λ o. get_or o.nums field 0) h birth l
