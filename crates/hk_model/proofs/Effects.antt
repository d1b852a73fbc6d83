-- What each call does to the view of a heap.
use Rattle.std.proofs.Common.{◌≡◌, ℕ, ◌+◌, ◌<◌, refl, ◌∙◌, ap, arith, length, get_or, slice_index, Option, Some, None}
use Rattle.hk_words.specs.declared.shape.Shape.{Shape}
use Rattle.hk_words.specs.declared.call.Call.TheVariants.{Put, Load, Store, Move, Clear, New}
use Rattle.hk_model.specs.Heap.{Heap, IsHeap, born, register, register_count, of_object, refs, nums, link, value, made}
use Rattle.hk_model.specs.Replies.{heap_after, with_register, with_link, with_value, with_object}
use Rattle.hk_model.specs.View.{upd, upd2, View, view_of}
use Rattle.hk_model.proofs.Replies.{heap_after-put, heap_after-load, heap_after-store, heap_after-move, heap_after-clear, heap_after-new}
use Rattle.hk_model.proofs.Views.{born-with_link, born-with_value, born-with_object, register-with_link, register-with_value, register-with_object, register-with_register, link-with_link, of_object-with_link, value-with_value, of_object-with_value, of_object-with_object, link-with_object, value-with_object}

shape_refs : (shape : Shape) → (made shape).shape.refs ≡ shape.refs
unfolding made
shape_refs shape = refl

shape_nums : (shape : Shape) → (made shape).shape.nums ≡ shape.nums
unfolding made
shape_nums shape = refl

pub view_of-with_register : (h : Heap) (seat reg : ℕ) (v : Option ℕ) → seat < length h.registers → reg < register_count h seat
    → view_of (with_register h seat reg v) ≡ record (view_of h) { register = upd2 (register h) seat reg v }
unfolding view_of with_register born refs nums link value of_object
view_of-with_register h seat reg v s r =
    let e : register (with_register h seat reg v) ≡ upd2 (register h) seat reg v = register-with_register h seat reg v s r in
    λ i. record (view_of h) { register = e i }

pub view_of-with_link : (h : Heap) (birth field : ℕ) (v : Option ℕ) → field < of_object 0 (λ object. length object.refs) h birth
    → view_of (with_link h birth field v) ≡ record (view_of h) { link = upd2 (link h) birth field v }
unfolding view_of born register refs nums value
view_of-with_link h birth field v l =
    let b : length (with_link h birth field v).objects ≡ length h.objects = born-with_link h birth field v in
    let r : refs (with_link h birth field v) ≡ refs h = of_object-with_link 0 (λ o. o.shape.refs) h birth field v (λ o. refl) in
    let n : nums (with_link h birth field v) ≡ nums h = of_object-with_link 0 (λ o. o.shape.nums) h birth field v (λ o. refl) in
    let e : link (with_link h birth field v) ≡ upd2 (link h) birth field v = link-with_link h birth field v l in
    let w : value (with_link h birth field v) ≡ value h = λ i k j. of_object-with_link 0 (λ o. slice_index o.nums j) h birth field v (λ o. refl) i k in
    let g : register (with_link h birth field v) ≡ register h = register-with_link h birth field v in
    λ i. record { born = b i; refs = r i; nums = n i; register = g i; link = e i; value = w i }

pub view_of-with_value : (h : Heap) (birth field v : ℕ) → field < of_object 0 (λ object. length object.nums) h birth
    → view_of (with_value h birth field v) ≡ record (view_of h) { value = upd2 (value h) birth field v }
unfolding view_of born register refs nums link
view_of-with_value h birth field v l =
    let b : length (with_value h birth field v).objects ≡ length h.objects = born-with_value h birth field v in
    let r : refs (with_value h birth field v) ≡ refs h = of_object-with_value 0 (λ o. o.shape.refs) h birth field v (λ o. refl) in
    let n : nums (with_value h birth field v) ≡ nums h = of_object-with_value 0 (λ o. o.shape.nums) h birth field v (λ o. refl) in
    let e : value (with_value h birth field v) ≡ upd2 (value h) birth field v = value-with_value h birth field v l in
    let w : link (with_value h birth field v) ≡ link h = λ i k j. of_object-with_value None (λ o. get_or o.refs j None) h birth field v (λ o. refl) i k in
    let g : register (with_value h birth field v) ≡ register h = register-with_value h birth field v in
    λ i. record { born = b i; refs = r i; nums = n i; register = g i; link = w i; value = e i }

pub view_of-with_object : (h : Heap) (shape : Shape)
    → view_of (with_object h shape) ≡ record (view_of h) { born = born h + 1; refs = upd (refs h) (born h) shape.refs; nums = upd (nums h) (born h) shape.nums }
unfolding view_of refs nums
view_of-with_object h shape =
    let b : born (with_object h shape) ≡ born h + 1 = born-with_object h shape in
    let r : refs (with_object h shape) ≡ upd (refs h) (born h) shape.refs = rw (shape_refs shape) at (of_object-with_object 0 (λ o. o.shape.refs) h shape) in
    let n : nums (with_object h shape) ≡ upd (nums h) (born h) shape.nums = rw (shape_nums shape) at (of_object-with_object 0 (λ o. o.shape.nums) h shape) in
    let e : link (with_object h shape) ≡ link h = link-with_object h shape in
    let w : value (with_object h shape) ≡ value h = value-with_object h shape in
    let g : register (with_object h shape) ≡ register h = register-with_object h shape in
    λ i. record { born = b i; refs = r i; nums = n i; register = g i; link = e i; value = w i }

-- the calls, on a heap of so many tasks with so many registers each

seat_within : (tasks count : ℕ) (h : Heap) (seat : ℕ) → IsHeap tasks count h → seat < tasks → seat < length h.registers
seat_within tasks count h seat is s = let e : length h.registers ≡ tasks = is.tasks_are in omega arith

register_within : (tasks count : ℕ) (h : Heap) (seat reg : ℕ) → IsHeap tasks count h → seat < tasks → reg < count → reg < register_count h seat
register_within tasks count h seat reg is s r = let e : register_count h seat ≡ count = is.registers_are seat s in omega arith

pub view_of-put : (tasks count : ℕ) (h : Heap) (seat reg field number birth : ℕ) → IsHeap tasks count h → register h seat reg ≡ Some birth → field < nums h birth
    → view_of (heap_after h seat (Put reg field number)) ≡ record (view_of h) { value = upd2 (value h) birth field number }
view_of-put tasks count h seat reg field number birth is e l =
    let n : of_object 0 (λ object. length object.nums) h birth ≡ nums h birth = is.nums_are birth in
    rw (heap_after-put h seat reg field number birth e l) (view_of-with_value h birth field number (omega arith))

pub view_of-store : (tasks count : ℕ) (h : Heap) (seat reg field from birth : ℕ) → IsHeap tasks count h → register h seat reg ≡ Some birth → field < refs h birth
    → view_of (heap_after h seat (Store reg field from)) ≡ record (view_of h) { link = upd2 (link h) birth field (register h seat from) }
view_of-store tasks count h seat reg field from birth is e l =
    let n : of_object 0 (λ object. length object.refs) h birth ≡ refs h birth = is.refs_are birth in
    rw (heap_after-store h seat reg field from birth e l) (view_of-with_link h birth field (register h seat from) (omega arith))

pub view_of-load : (tasks count : ℕ) (h : Heap) (seat dest reg field birth : ℕ) → IsHeap tasks count h → seat < tasks → dest < count → register h seat reg ≡ Some birth → field < refs h birth
    → view_of (heap_after h seat (Load dest reg field)) ≡ record (view_of h) { register = upd2 (register h) seat dest (link h birth field) }
view_of-load tasks count h seat dest reg field birth is s d e l =
    rw (heap_after-load h seat dest reg field birth e l)
    (view_of-with_register h seat dest (link h birth field) (seat_within tasks count h seat is s) (register_within tasks count h seat dest is s d))

pub view_of-move : (tasks count : ℕ) (h : Heap) (seat dest from : ℕ) → IsHeap tasks count h → seat < tasks → dest < count
    → view_of (heap_after h seat (Move dest from)) ≡ record (view_of h) { register = upd2 (register h) seat dest (register h seat from) }
view_of-move tasks count h seat dest from is s d =
    rw (heap_after-move h seat dest from)
    (view_of-with_register h seat dest (register h seat from) (seat_within tasks count h seat is s) (register_within tasks count h seat dest is s d))

pub view_of-clear : (tasks count : ℕ) (h : Heap) (seat dest : ℕ) → IsHeap tasks count h → seat < tasks → dest < count
    → view_of (heap_after h seat (Clear dest)) ≡ record (view_of h) { register = upd2 (register h) seat dest None }
view_of-clear tasks count h seat dest is s d =
    rw (heap_after-clear h seat dest) (view_of-with_register h seat dest None (seat_within tasks count h seat is s) (register_within tasks count h seat dest is s d))

view_of-object_at : (h : Heap) (shape : Shape) (seat dest : ℕ) → seat < length h.registers → dest < register_count h seat
    → view_of (with_register (with_object h shape) seat dest (Some (born h))) ≡ record (view_of (with_object h shape)) { register = upd2 (view_of (with_object h shape)).register seat dest (Some (born h)) }
unfolding view_of with_object register_count
view_of-object_at h shape seat dest s d = view_of-with_register (with_object h shape) seat dest (Some (born h)) s d

with_new_register : ℕ → ℕ → Option ℕ → View → View
with_new_register seat dest v view = record view { register = upd2 view.register seat dest v }

pub view_of-new : (tasks count : ℕ) (h : Heap) (seat dest : ℕ) (shape : Shape) → IsHeap tasks count h → seat < tasks → dest < count
    → view_of (heap_after h seat (New dest shape)) ≡ record (view_of h) {
      born = born h + 1;
      refs = upd (refs h) (born h) shape.refs;
      nums = upd (nums h) (born h) shape.nums;
      register = upd2 (register h) seat dest (Some (born h));
    }
unfolding with_new_register view_of
view_of-new tasks count h seat dest shape is s d =
    rw (heap_after-new h seat dest shape)
    (view_of-object_at h shape seat dest (seat_within tasks count h seat is s) (register_within tasks count h seat dest is s d)
    ∙ ap (with_new_register seat dest (Some (born h))) (view_of-with_object h shape))
