-- What lasts as a history grows: births with their shapes, objects that are no larger than those that are made, and the
-- registers of a seat over entries of others.
use Rattle.std.proofs.Common.{◌≡◌, ◌≢◌, ℕ, zero, suc, ◌<◌, ◌≤◌, ◌+◌, Bool, true, false, [], ◌∷◌, ◌++◌, set, refl, sym, ◌∙◌, ap, arith, inl, inr, Option, Some, None, eq-eqb}
use Rattle.std.proofs.lemmas.Bool.{cases_eq}
use Rattle.std.proofs.lemmas.List.{length_push}
use Rattle.std.proofs.lemmas.List.Sums.{fold-append}
use Rattle.std.specs.Prelude.{nat_eq, All, if◌then◌else◌}
use Rattle.hk_words.specs.declared.shape.Shape.{Shape}
use Rattle.hk_words.specs.declared.call.Call.{Call}
use Rattle.hk_words.specs.declared.call.Call.TheVariants as call
use Rattle.hk_words.specs.Shape.{size}
use Rattle.hk_model.specs.Heap.{Heap, Object, made, of_object, register, refs, nums, link, born, opening}
use Rattle.hk_model.specs.History.{Entry, History, after, after_entry, is_refused, of_seat, Legal}
use Rattle.hk_model.specs.Reach.{words_of_birth}
use Rattle.hk_model.specs.Replies.{entering, has_number, has_reference, heap_after, with_register, with_link, with_value, with_object}
use Rattle.hk_model.specs.Lasting.{Lasts, words_made, MakesAtMost}
use Rattle.hk_model.specs.View.{upd}
use Rattle.hk_model.proofs.Lists.{length-changed_at, get_or-changed_row_other, read-changed_at_kept, read-push_before}
use Rattle.hk_model.proofs.Updates.{upd_same, upd_other}
use Rattle.hk_model.proofs.Views.{of_object-with_object}

-- a beginning of a legal history is legal
pub legal_begins : (start : Heap) (first later : History) → Legal start (first ++ later) → Legal start first
unfolding Legal
legal_begins start [] later legal = tt
legal_begins start (e ∷ first) later legal = (legal.0, legal_begins (after_entry start e) first later legal.1)

-- BIRTHS LAST, WITH THEIR SHAPES

pub lasts_refl : (h : Heap) → Lasts h h
lasts_refl h = record { births = omega arith; refs = λ b l. refl; nums = λ b l. refl }

pub lasts_then : (h k m : Heap) → Lasts h k → Lasts k m → Lasts h m
lasts_then h k m p q = record {
  births = omega (arith, p.births, q.births);
  refs = λ b l. q.refs b (omega (arith, p.births, l)) ∙ p.refs b l;
  nums = λ b l. q.nums b (omega (arith, p.births, l)) ∙ p.nums b l;
}

lasts_register : (h : Heap) (s r : ℕ) (v : Option ℕ) → Lasts h (with_register h s r v)
unfolding with_register born refs nums of_object
lasts_register h s r v = record { births = omega arith; refs = λ b l. refl; nums = λ b l. refl }

lasts_link : (h : Heap) (birth field : ℕ) (v : Option ℕ) → Lasts h (with_link h birth field v)
unfolding with_link born refs nums of_object
lasts_link h birth field v = record {
  births = omega (arith, length-changed_at (λ (o : Object). record o { refs = set o.refs field v }) h.objects birth);
  refs = λ b l. read-changed_at_kept (λ (o : Object). o.shape.refs) (λ (o : Object). record o { refs = set o.refs field v }) 0 (λ o. refl) h.objects birth b;
  nums = λ b l. read-changed_at_kept (λ (o : Object). o.shape.nums) (λ (o : Object). record o { refs = set o.refs field v }) 0 (λ o. refl) h.objects birth b;
}

lasts_value : (h : Heap) (birth field v : ℕ) → Lasts h (with_value h birth field v)
unfolding with_value born refs nums of_object
lasts_value h birth field v = record {
  births = omega (arith, length-changed_at (λ (o : Object). record o { nums = set o.nums field v }) h.objects birth);
  refs = λ b l. read-changed_at_kept (λ (o : Object). o.shape.refs) (λ (o : Object). record o { nums = set o.nums field v }) 0 (λ o. refl) h.objects birth b;
  nums = λ b l. read-changed_at_kept (λ (o : Object). o.shape.nums) (λ (o : Object). record o { nums = set o.nums field v }) 0 (λ o. refl) h.objects birth b;
}

lasts_object : (h : Heap) (shape : Shape) → Lasts h (with_object h shape)
unfolding with_object born refs nums of_object
lasts_object h shape = record {
  births = omega (arith, length_push h.objects (made shape));
  refs = λ b l. read-push_before (λ (o : Object). o.shape.refs) 0 h.objects (made shape) b (below l);
  nums = λ b l. read-push_before (λ (o : Object). o.shape.nums) 0 h.objects (made shape) b (below l);
}
  where
    below : {b n : ℕ} → b < n → b ≢ n
    below l e = omega (arith, l, e)

lasts_entering : (h : Heap) (o : Option ℕ) (test : ℕ → Bool) (f : ℕ → Heap) → ((b : ℕ) → Lasts h (f b)) → Lasts h (entering o test h h f)
lasts_entering h None test f each = lasts_refl h
lasts_entering h (Some b) test f each = choose (test b)
  where
    choose : (x : Bool) → Lasts h (if x then f b else h)
    choose true = each b
    choose false = lasts_refl h

lasts_call : (h : Heap) (s : ℕ) (c : Call) → Lasts h (heap_after h s c)
unfolding heap_after
lasts_call h s (call.Get r field) = lasts_refl h
lasts_call h s (call.Put r field number) = lasts_entering h (register h s r) (has_number h field) (λ b. with_value h b field number) (λ b. lasts_value h b field number)
lasts_call h s (call.Load dest r field) = lasts_entering h (register h s r) (has_reference h field) (λ b. with_register h s dest (link h b field)) (λ b. lasts_register h s dest (link h b field))
lasts_call h s (call.Store r field from) = lasts_entering h (register h s r) (has_reference h field) (λ b. with_link h b field (register h s from)) (λ b. lasts_link h b field (register h s from))
lasts_call h s (call.Move dest from) = lasts_register h s dest (register h s from)
lasts_call h s (call.Clear dest) = lasts_register h s dest None
lasts_call h s (call.New dest shape) = lasts_then h (with_object h shape) (with_register (with_object h shape) s dest (Some (born h))) (lasts_object h shape) (lasts_register (with_object h shape) s dest (Some (born h)))
lasts_call h s (call.Same a b) = lasts_refl h
lasts_call h s (call.IsNull r) = lasts_refl h

pub lasts_entry : (h : Heap) (e : Entry) → Lasts h (after_entry h e)
unfolding after_entry
lasts_entry h e = choose (is_refused e)
  where
    choose : (x : Bool) → Lasts h (if x then h else heap_after h e.seat e.call)
    choose true = lasts_refl h
    choose false = lasts_call h e.seat e.call

pub lasts_after : (h : Heap) (later : History) → Lasts h (after h later)
unfolding after
lasts_after h [] = lasts_refl h
lasts_after h (e ∷ later) = lasts_then h (after_entry h e) (after (after_entry h e) later) (lasts_entry h e) (lasts_after (after_entry h e) later)

-- of a history and of a longer one
pub lasts_longer : (start : Heap) (history later : History) → Lasts (after start history) (after start (history ++ later))
unfolding after
lasts_longer start history later = rw (fold-append after_entry start history later) (lasts_after (after start history) later)

-- OBJECTS STAY SMALL

-- each object has at most so many words
abbrev AreSmall : ℕ → Heap → Type 0
AreSmall most h = (birth : ℕ) → words_of_birth h birth ≤ most

small_when_same : (most : ℕ) (h k : Heap) → ((b : ℕ) → refs k b ≡ refs h b) → ((b : ℕ) → nums k b ≡ nums h b) → AreSmall most h → AreSmall most k
small_when_same most h k same_refs same_nums small b = let was = small b in let r = same_refs b in let n = same_nums b in omega arith

small_register : (most : ℕ) (h : Heap) (s r : ℕ) (v : Option ℕ) → AreSmall most h → AreSmall most (with_register h s r v)
unfolding with_register refs nums of_object
small_register most h s r v small = small_when_same most h (with_register h s r v) (λ b. refl) (λ b. refl) small

small_link : (most : ℕ) (h : Heap) (birth field : ℕ) (v : Option ℕ) → AreSmall most h → AreSmall most (with_link h birth field v)
unfolding with_link refs nums of_object
small_link most h birth field v small = small_when_same most h (with_link h birth field v)
    (λ b. read-changed_at_kept (λ (o : Object). o.shape.refs) (λ (o : Object). record o { refs = set o.refs field v }) 0 (λ o. refl) h.objects birth b)
    (λ b. read-changed_at_kept (λ (o : Object). o.shape.nums) (λ (o : Object). record o { refs = set o.refs field v }) 0 (λ o. refl) h.objects birth b) small

small_value : (most : ℕ) (h : Heap) (birth field v : ℕ) → AreSmall most h → AreSmall most (with_value h birth field v)
unfolding with_value refs nums of_object
small_value most h birth field v small = small_when_same most h (with_value h birth field v)
    (λ b. read-changed_at_kept (λ (o : Object). o.shape.refs) (λ (o : Object). record o { nums = set o.nums field v }) 0 (λ o. refl) h.objects birth b)
    (λ b. read-changed_at_kept (λ (o : Object). o.shape.nums) (λ (o : Object). record o { nums = set o.nums field v }) 0 (λ o. refl) h.objects birth b) small

small_object : (most : ℕ) (h : Heap) (shape : Shape) → size shape ≤ most → AreSmall most h → AreSmall most (with_object h shape)
unfolding refs nums made
small_object most h shape few small b =
    let r : refs (with_object h shape) b ≡ upd (refs h) (born h) shape.refs b = λ i. of_object-with_object 0 (λ (o : Object). o.shape.refs) h shape i b in
    let n : nums (with_object h shape) b ≡ upd (nums h) (born h) shape.nums b = λ i. of_object-with_object 0 (λ (o : Object). o.shape.nums) h shape i b in
    elim (cases_eq b (born h)) [
      | inl e ↦
          let r' : upd (refs h) (born h) shape.refs b ≡ shape.refs = ap (upd (refs h) (born h) shape.refs) e ∙ upd_same (refs h) (born h) shape.refs in
          let n' : upd (nums h) (born h) shape.nums b ≡ shape.nums = ap (upd (nums h) (born h) shape.nums) e ∙ upd_same (nums h) (born h) shape.nums in
          omega arith
      | inr d ↦
          let r' : upd (refs h) (born h) shape.refs b ≡ refs h b = upd_other (refs h) (born h) shape.refs b d in
          let n' : upd (nums h) (born h) shape.nums b ≡ nums h b = upd_other (nums h) (born h) shape.nums b d in
          let was = small b in
          omega arith
    ]

small_entering : (most : ℕ) (h : Heap) (o : Option ℕ) (test : ℕ → Bool) (f : ℕ → Heap) → AreSmall most h → ((b : ℕ) → AreSmall most (f b)) → AreSmall most (entering o test h h f)
small_entering most h None test f small each = small
small_entering most h (Some b) test f small each = choose (test b)
  where
    choose : (x : Bool) → AreSmall most (if x then f b else h)
    choose true = each b
    choose false = small

small_call : (most : ℕ) (h : Heap) (s : ℕ) (c : Call) → words_made c ≤ most → AreSmall most h → AreSmall most (heap_after h s c)
unfolding heap_after
small_call most h s (call.Get r field) few small = small
small_call most h s (call.Put r field number) few small = small_entering most h (register h s r) (has_number h field) (λ b. with_value h b field number) small (λ b. small_value most h b field number small)
small_call most h s (call.Load dest r field) few small =
    small_entering most h (register h s r) (has_reference h field) (λ b. with_register h s dest (link h b field)) small (λ b. small_register most h s dest (link h b field) small)
small_call most h s (call.Store r field from) few small =
    small_entering most h (register h s r) (has_reference h field) (λ b. with_link h b field (register h s from)) small (λ b. small_link most h b field (register h s from) small)
small_call most h s (call.Move dest from) few small = small_register most h s dest (register h s from) small
small_call most h s (call.Clear dest) few small = small_register most h s dest None small
small_call most h s (call.New dest shape) few small = small_register most (with_object h shape) s dest (Some (born h)) (small_object most h shape few small)
small_call most h s (call.Same a b) few small = small
small_call most h s (call.IsNull r) few small = small

small_entry : (most : ℕ) (h : Heap) (e : Entry) → MakesAtMost most e → AreSmall most h → AreSmall most (after_entry h e)
unfolding after_entry
small_entry most h e few small = choose (is_refused e)
  where
    choose : (x : Bool) → AreSmall most (if x then h else heap_after h e.seat e.call)
    choose true = small
    choose false = small_call most h e.seat e.call few small

small_after : (most : ℕ) (h : Heap) (history : History) → All (MakesAtMost most) history → AreSmall most h → AreSmall most (after h history)
unfolding after
small_after most h [] few small = small
small_after most h (e ∷ history) few small =
    small_after most (after_entry h e) history (λ k d below. few (suc k) d (omega arith)) (small_entry most h e (few 0 e (omega arith)) small)

small_opening : (most tasks count : ℕ) (board : Shape) → size board ≤ most → AreSmall most (opening tasks count board)
unfolding opening refs nums of_object made
small_opening most tasks count board few zero = few
small_opening most tasks count board few (suc birth) = omega arith

pub objects_small : (tasks count : ℕ) (board : Shape) (history : History) (most : ℕ) → size board ≤ most → All (MakesAtMost most) history
    → (birth : ℕ) → words_of_birth (after (opening tasks count board) history) birth ≤ most
objects_small tasks count board history most few each = small_after most (opening tasks count board) history each (small_opening most tasks count board few)

-- THE REGISTERS OF A SEAT: entries of others leave them
module _ (h : Heap) (t reg : ℕ) where
  abbrev Keeps : Heap → Type 0
  Keeps k = register k t reg ≡ register h t reg

  entering_keeps : (o : Option ℕ) (test : ℕ → Bool) (f : ℕ → Heap) → ((b : ℕ) → Keeps (f b)) → Keeps (entering o test h h f)
  entering_keeps None test f each = refl
  entering_keeps (Some b) test f each = choose (test b)
    where
      choose : (x : Bool) → Keeps (if x then f b else h)
      choose true = each b
      choose false = refl

  other_register : (k : Heap) (s r : ℕ) (v : Option ℕ) → t ≢ s → register (with_register k s r v) t reg ≡ register k t reg
  unfolding register with_register
  other_register k s r v differs = get_or-changed_row_other k.registers s r v t reg None (inl differs)

  call_keeps : (s : ℕ) → t ≢ s → (c : Call) → Keeps (heap_after h s c)
  unfolding heap_after register with_link with_value with_object
  call_keeps s differs (call.Get r field) = refl
  call_keeps s differs (call.Put r field number) = entering_keeps (register h s r) (has_number h field) (λ b. with_value h b field number) (λ b. refl)
  call_keeps s differs (call.Load dest r field) = entering_keeps (register h s r) (has_reference h field) (λ b. with_register h s dest (link h b field)) (λ b. other_register h s dest (link h b field) differs)
  call_keeps s differs (call.Store r field from) = entering_keeps (register h s r) (has_reference h field) (λ b. with_link h b field (register h s from)) (λ b. refl)
  call_keeps s differs (call.Move dest from) = other_register h s dest (register h s from) differs
  call_keeps s differs (call.Clear dest) = other_register h s dest None differs
  call_keeps s differs (call.New dest shape) = other_register (with_object h shape) s dest (Some (born h)) differs
  call_keeps s differs (call.Same a b) = refl
  call_keeps s differs (call.IsNull r) = refl

  pub entry_keeps : (e : Entry) → e.seat ≢ t → Keeps (after_entry h e)
  unfolding after_entry
  entry_keeps e differs = choose (is_refused e)
    where
      choose : (x : Bool) → Keeps (if x then h else heap_after h e.seat e.call)
      choose true = refl
      choose false = call_keeps e.seat (λ same. differs (sym same)) e.call

pub registers_keep : (t reg : ℕ) (others : History) (h : Heap) → of_seat others t ≡ [] → register (after h others) t reg ≡ register h t reg
unfolding after of_seat
registers_keep t reg [] h none = refl
registers_keep t reg (e ∷ others) h none = go (nat_eq e.seat t) refl none (λ n. registers_keep t reg others (after_entry h e) n)
  where
    is_other : nat_eq e.seat t ≡ false → e.seat ≢ t
    is_other no-one same = clash (nat_eq e.seat t) no-one (eq-eqb e.seat t same)
      where
        clash : (b : Bool) → b ≡ false → b ≡ true → ⊥
        clash true p q = cc
        clash false p q = cc

    go : (b : Bool) → nat_eq e.seat t ≡ b → (if b then e ∷ of_seat others t else of_seat others t) ≡ []
        → (of_seat others t ≡ [] → register (after (after_entry h e) others) t reg ≡ register (after_entry h e) t reg)
        → register (after (after_entry h e) others) t reg ≡ register h t reg
    go true is none rest = let here : e ∷ of_seat others t ≡ [] = none in absurd (cc)
    go false is none rest = rest none ∙ entry_keeps h t reg e (is_other is)
