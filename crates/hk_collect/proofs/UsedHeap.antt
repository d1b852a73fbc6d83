-- The plain heap alone: what its registers and the births in use refer to is in use, from the flip on. A birth is in use that
-- could be reached at the flip, or was born since.
use Rattle.std.proofs.Common.{◌≡◌, ◌≢◌, ◌⊎◌, ℕ, ◌<◌, ◌≤◌, Bool, true, false, inl, inr, refl, sym, ◌∙◌, ap, arith, List, [], length, get_or, set, slice_get, unwrap_or, option_map, Option, Some, None}
use Rattle.std.proofs.lemmas.Bool.{cases_eq, cases_lt, ltb-true}
use Rattle.std.proofs.lemmas.List.{get_or_past}
use Rattle.std.specs.Prelude.{if◌then◌else◌}
use Rattle.hk_words.specs.declared.geometry.Geometry.{Geometry}
use Rattle.hk_words.specs.declared.call.Call.{Call}
use Rattle.hk_words.specs.declared.call.Call.TheVariants.{Get, Put, Load, Store, Move, Clear, New, Same, IsNull}
use Rattle.hk_words.specs.declared.shape.Shape.{Shape}
use Rattle.hk_words.specs.Geometry.{tasks}
use Rattle.hk_model.specs.Heap.{Object, Heap, IsHeap, born, register, register_count, of_object, refs, link}
use Rattle.hk_model.specs.Replies.{entering, has_number, has_reference, heap_after, with_register, with_link, with_value, with_object}
use Rattle.hk_model.specs.History.{Entry, is_refused, after_entry}
use Rattle.hk_model.proofs.Lists.{get_or-set_cases, get_or-changed_row_cases, read-changed_at_same, read-changed_at_other}
use Rattle.hk_model.proofs.Updates.{upd_other}
use Rattle.hk_model.proofs.Views.{of_object-with_link, of_object-with_value, of_object-with_object, link-with_object, register-with_link, register-with_value, register-with_object, link_unborn}
use Rattle.hk_core.specs.Reach.{Reached, in_register, in_cell}
use Rattle.hk_collect.specs.Used.{Closed}

-- AT THE FLIP

-- a register that holds something is one of the geometry
row_past : (rows : List (List (Option ℕ))) (s r : ℕ) → length rows ≤ s → get_or (get_or rows s []) r None ≡ None
row_past rows s r far = rw (get_or_past rows s [] far) refl

some_none : {A : Type 0} (o : Option ℕ) (b : ℕ) → o ≡ None → o ≡ Some b → A
some_none o b e i = absurd (cc)

register_there : (count n : ℕ) (h : Heap) (s r b : ℕ) → IsHeap n count h → register h s r ≡ Some b → (s < n) × (r < count)
unfolding register register_count
register_there count n h s r b is holds = elim (cases_lt s n) [
  | inr far ↦ let are : length h.registers ≡ n = is.tasks_are in some_none _ b (row_past h.registers s r (omega arith)) holds
  | inl near ↦ elim (cases_lt r count) [
    | inl fits ↦ (near, fits)
    | inr past ↦
        let are : length (get_or h.registers s []) ≡ count = is.registers_are s near in
        some_none _ b (get_or_past (get_or h.registers s []) r None (omega arith)) holds
  ]
]

-- where what can be reached is in use, and what is still to be born
pub closed_here : (g : Geometry) (h : Heap) → IsHeap (tasks g) g.registers h → Closed h (λ b. Reached g h b ⊎ (born h ≤ b))
closed_here g h is = record {
  registers = λ s r b holds. let there = register_there g.registers (tasks g) h s r b is holds in inl (in_register s r there.0 there.1 holds);
  links = λ b i child used within holds. elim used [
    | inl reached ↦ inl (in_cell b i reached within holds)
    | inr later ↦ some_none (link h b i) child (link_unborn h b i later) holds
  ];
}

-- AFTER A CALL

closed_with_register : (h : Heap) (used : ℕ → Type 0) (seat reg : ℕ) (v : Option ℕ) → ((b : ℕ) → v ≡ Some b → used b) → Closed h used → Closed (with_register h seat reg v) used
unfolding register with_register refs link of_object
closed_with_register h used seat reg v is c = record {
  registers = λ s r b holds. elim (get_or-changed_row_cases h.registers seat reg v s r None) [ inl e ↦ is b (sym e ∙ holds) | inr e ↦ c.registers s r b (sym e ∙ holds) ];
  links = c.links;
}

link_cases : (object : Option Object) (field : ℕ) (v : Option ℕ) (j : ℕ)
    → (unwrap_or (option_map (λ o. get_or (set o.refs field v) j None) object) None ≡ v)
    ⊎ (unwrap_or (option_map (λ o. get_or (set o.refs field v) j None) object) None ≡ unwrap_or (option_map (λ o. get_or o.refs j None) object) None)
link_cases None field v j = inr refl
link_cases (Some o) field v j = get_or-set_cases o.refs field v j None

link-with_link_cases : (h : Heap) (birth field : ℕ) (v : Option ℕ) (k j : ℕ) → (link (with_link h birth field v) k j ≡ v) ⊎ (link (with_link h birth field v) k j ≡ link h k j)
unfolding link with_link of_object
link-with_link_cases h birth field v k j = elim (cases_eq k birth) [
  | inl e ↦ rw (e, read-changed_at_same (λ o. get_or o.refs j None) (λ o. record o { refs = set o.refs field v }) None h.objects birth) (link_cases (slice_get h.objects birth) field v j)
  | inr d ↦ inr (read-changed_at_other (λ o. get_or o.refs j None) (λ o. record o { refs = set o.refs field v }) None h.objects birth k d)
]

refs-with_link : (h : Heap) (birth field : ℕ) (v : Option ℕ) → refs (with_link h birth field v) ≡ refs h
unfolding refs
refs-with_link h birth field v = of_object-with_link 0 (λ o. o.shape.refs) h birth field v (λ o. refl)

closed_with_link : (h : Heap) (used : ℕ → Type 0) (birth field : ℕ) (v : Option ℕ) → ((b : ℕ) → v ≡ Some b → used b) → Closed h used → Closed (with_link h birth field v) used
closed_with_link h used birth field v is c = record {
  registers = λ s r b holds. c.registers s r b (ap (λ f. f s r) (sym (register-with_link h birth field v)) ∙ holds);
  links = λ b i child u within holds. elim (link-with_link_cases h birth field v b i) [
    | inl e ↦ is child (sym e ∙ holds)
    | inr e ↦ c.links b i child u (rw (refs-with_link h birth field v) at within) (sym e ∙ holds)
  ];
}

refs-with_value : (h : Heap) (birth field v : ℕ) → refs (with_value h birth field v) ≡ refs h
unfolding refs
refs-with_value h birth field v = of_object-with_value 0 (λ o. o.shape.refs) h birth field v (λ o. refl)

link-with_value : (h : Heap) (birth field v : ℕ) → link (with_value h birth field v) ≡ link h
unfolding link
link-with_value h birth field v = λ i k j. of_object-with_value None (λ o. get_or o.refs j None) h birth field v (λ o. refl) i k

closed_with_value : (h : Heap) (used : ℕ → Type 0) (birth field v : ℕ) → Closed h used → Closed (with_value h birth field v) used
closed_with_value h used birth field v c = record {
  registers = λ s r b holds. c.registers s r b (ap (λ f. f s r) (sym (register-with_value h birth field v)) ∙ holds);
  links = λ b i child u within holds. c.links b i child u (rw (refs-with_value h birth field v) at within) (ap (λ f. f b i) (sym (link-with_value h birth field v)) ∙ holds);
}

refs-with_object : (h : Heap) (shape : Shape) (b : ℕ) → b ≢ born h → refs (with_object h shape) b ≡ refs h b
unfolding refs
refs-with_object h shape b other =
    ap (λ f. f b) (of_object-with_object 0 (λ o. o.shape.refs) h shape) ∙ upd_other (of_object 0 (λ o. o.shape.refs) h) (born h) _ b other

closed_with_object : (h : Heap) (used : ℕ → Type 0) (shape : Shape) → Closed h used → Closed (with_object h shape) used
closed_with_object h used shape c = record {
  registers = λ s r b holds. c.registers s r b (ap (λ f. f s r) (sym (register-with_object h shape)) ∙ holds);
  links = λ b i child u within holds.
      let held : link h b i ≡ Some child = ap (λ f. f b i) (sym (link-with_object h shape)) ∙ holds in
      elim (cases_eq b (born h)) [
        | inl e ↦ some_none (link h b i) child (link_unborn h b i (omega arith)) held
        | inr d ↦ c.links b i child u (rw (refs-with_object h shape b d) at within) held
      ];
}

-- a call that goes through the object of a register does so with its birth and its field, or changes nothing
entered_by : (P : Heap → Type 0) (h : Heap) (holds : Option ℕ) (test : ℕ → Bool) (done : ℕ → Heap) → P h → ((b : ℕ) → holds ≡ Some b → test b ≡ true → P (done b))
    → P (entering holds test h h done)
entered_by P h None test done same other = same
entered_by P h (Some b) test done same other = by_test (test b) refl
  where
    by_test : (t : Bool) → test b ≡ t → P (if t then done b else h)
    by_test true e = other b refl e
    by_test false e = same

closed_call : (h : Heap) (used : ℕ → Type 0) (seat : ℕ) (call : Call) → used (born h) → Closed h used → Closed (heap_after h seat call) used
unfolding heap_after
closed_call h used seat (Get reg field) next c = c
closed_call h used seat (Put reg field number) next c =
    entered_by (λ k. Closed k used) h (register h seat reg) (has_number h field) (λ b. with_value h b field number) c (λ b e t. closed_with_value h used b field number c)
closed_call h used seat (Load dest reg field) next c =
    entered_by (λ k. Closed k used) h (register h seat reg) (has_reference h field) (λ b. with_register h seat dest (link h b field)) c
    (λ b e t. closed_with_register h used seat dest (link h b field) (λ child holds. c.links b field child (c.registers seat reg b e) (ltb-true field (refs h b) t) holds) c)
closed_call h used seat (Store reg field from) next c =
    entered_by (λ k. Closed k used) h (register h seat reg) (has_reference h field) (λ b. with_link h b field (register h seat from)) c
    (λ b e t. closed_with_link h used b field (register h seat from) (λ child holds. c.registers seat from child holds) c)
closed_call h used seat (Move dest from) next c = closed_with_register h used seat dest (register h seat from) (λ b holds. c.registers seat from b holds) c
closed_call h used seat (Clear dest) next c = closed_with_register h used seat dest None (λ b holds. some_none None b refl holds) c
closed_call h used seat (New dest shape) next c =
    closed_with_register (with_object h shape) used seat dest (Some (born h)) (λ b holds. let same : born h ≡ b = cc in rw (← same) next) (closed_with_object h used shape c)
closed_call h used seat (Same a b) next c = c
closed_call h used seat (IsNull reg) next c = c

-- so it stays after each entry of a history, where the next birth is in use
pub closed_entry : (h : Heap) (used : ℕ → Type 0) (e : Entry) → used (born h) → Closed h used → Closed (after_entry h e) used
unfolding after_entry
closed_entry h used e next c = by_test (is_refused e)
  where
    by_test : (t : Bool) → Closed (if t then h else heap_after h e.seat e.call) used
    by_test true = c
    by_test false = closed_call h used e.seat e.call next c
