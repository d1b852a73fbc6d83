-- What a pass's own registers say of the heap that never collects: the entries of other seats leave them as they are, so
-- what is so after the whole history is so after what the pass has seen.
use Rattle.std.proofs.Common.{◌≡◌, ◌≢◌, ℕ, ◌<◌, Bool, true, false, [], ◌++◌, refl, sym, ◌∙◌, ap, subst, arith, Option, Some, None, IsTrue, ◌↔◌, eqb-true, eq-eqb}
use Rattle.std.proofs.lemmas.List.Elements.{filter-append}
use Rattle.std.proofs.lemmas.List.Sums.{fold-append}
use Rattle.std.specs.Prelude.{nat_eq, nat_lt, is_none, slice_index, if◌then◌else◌}
use Rattle.hk_words.specs.declared.geometry.Geometry.{Geometry}
use Rattle.hk_words.specs.declared.call.Call.{Call}
use Rattle.hk_words.specs.declared.call.Call.TheVariants as call
use Rattle.hk_words.specs.declared.call.Reply.{Reply}
use Rattle.hk_words.specs.declared.call.Reply.TheVariants as reply
use Rattle.hk_words.specs.Geometry.{tasks}
use Rattle.hk_words.specs.Calls.{RegistersFit}
use Rattle.hk_model.specs.Heap.{Heap, born, register, refs, nums, opening_of}
use Rattle.hk_model.specs.History.{History, after, after_entry, of_seat, is_question}
use Rattle.hk_model.specs.Lasting.{Lasts}
use Rattle.hk_model.specs.Replies.{reply_of, said, is_same, entering}
use Rattle.hk_model.proofs.Heaps.{IsHeap-opening}
use Rattle.hk_model.proofs.Histories.{IsHeap-after}
use Rattle.hk_model.proofs.Lasting.{lasts_longer, registers_keep}
use Rattle.hk_core.specs.declared.outcome.Fault.{Fault}
use Rattle.hk_core.specs.declared.outcome.Fault.TheVariants as fault
use Rattle.hk_core.specs.Faults.{IsPlainFault, TellsPlain}
use Rattle.hk_core.specs.View.{flight_at}
use Rattle.hk_core.specs.Begin.{register_word, refusal}
use Rattle.hk_core.specs.Run.{Running, run_from_opening}
use Rattle.hk_core.proofs.Shown.{is_null_answers, same_answers}
use Rattle.hk_core.proofs.RefusedPlain.{refused_plain}
use Rattle.hk_collect.proofs.Running.{lawful_from_opening, geometry_from_opening}
use Rattle.hk_table.specs.Knows.{PassView}
use Rattle.hk_table.specs.Deeds.{Stands, refused_by}
use Rattle.hk_table.proofs.Beginning.{refusal_same}
use Rattle.hk_table.proofs.Knowing.{nothing_more}

after-more : (start : Heap) (first later : History) → after start (first ++ later) ≡ after (after start first) later
unfolding after
after-more start first later = fold-append after_entry start first later

-- a test of two numbers
pub means_same : (a b x y : ℕ) → x ≡ a → y ≡ b → IsTrue (nat_eq x y) ↔ (a ≡ b)
means_same a b x y first second = ((λ e. sym first ∙ eqb-true x y e ∙ second), (λ e. eq-eqb x y (first ∙ e ∙ sym second)))

-- two heaps that agree on a register, and on whether the object in it has the field, refuse a call alike
same_fault : (o o' : Option ℕ) → o' ≡ o → (has has' : ℕ → Bool) (done done' : ℕ → Reply) (answer : Reply) → ((b : ℕ) → o ≡ Some b → has' b ≡ has b)
    → ((b : ℕ) → done b ≢ answer) → entering o has reply.Nil reply.Field done ≡ answer → entering o' has' reply.Nil reply.Field done' ≡ answer
same_fault o o' same-o has has' done done' answer same not e = subst (λ (x : Option ℕ). entering x has' reply.Nil reply.Field done' ≡ answer) (sym same-o) (by_cases o same e)
  where
    by_cases : (x : Option ℕ) → ((b : ℕ) → x ≡ Some b → has' b ≡ has b) → entering x has reply.Nil reply.Field done ≡ answer → entering x has' reply.Nil reply.Field done' ≡ answer
    by_cases None s e = e
    by_cases (Some b) s e = choose (has b) refl e
      where
        choose : (t : Bool) → has b ≡ t → (if t then done b else reply.Field) ≡ answer → (if has' b then done' b else reply.Field) ≡ answer
        choose true t e = absurd (not b e)
        choose false t e = rw (s b refl ∙ t) e

module _ (g : Geometry) (p : PassView) (stands : Stands g p) (idle : p.flight.place ≡ 0) where
  abbrev r : Running
  r = run_from_opening g p.log

  abbrev seen : Heap
  seen = after (opening_of g) p.seen

  abbrev whole : Heap
  whole = after (opening_of g) r.history

  same_g : r.core.geometry ≡ g
  same_g = geometry_from_opening g p.log

  below : p.seat < tasks r.core.geometry
  below = subst (λ (k : Geometry). p.seat < tasks k) (sym same_g) stands.seat

  flight_idle : (flight_at r.core p.seat).place ≡ 0
  unfolding flight_at
  flight_idle = ap (λ f. f.place) stands.flight ∙ idle

  -- the rest of the history is of other seats
  others : of_seat stands.stands.saw.0 p.seat ≡ []
  unfolding of_seat
  others =
      let b = stands.stands.saw in
      nothing_more (of_seat p.seen p.seat) (of_seat b.0 p.seat)
      (stands.stands.seen_mine ∙ sym stands.stands.all_mine ∙ ap (λ (h : History). of_seat h p.seat) b.1 ∙ filter-append (λ e. nat_eq e.seat p.seat) p.seen b.0)

  pub registers_same : (reg : ℕ) → register seen p.seat reg ≡ register whole p.seat reg
  registers_same reg =
      let b = stands.stands.saw in
      sym (ap (λ (h : History). register (after (opening_of g) h) p.seat reg) b.1
      ∙ ap (λ (h : Heap). register h p.seat reg) (after-more (opening_of g) p.seen b.0)
      ∙ registers_keep p.seat reg b.0 seen others)

  lasts : Lasts seen whole
  lasts = let b = stands.stands.saw in subst (λ (h : History). Lasts seen (after (opening_of g) h)) (sym b.1) (lasts_longer (opening_of g) p.seen b.0)

  was_born : (reg b : ℕ) → register seen p.seat reg ≡ Some b → b < born seen
  unfolding opening_of
  was_born reg b here =
      let some = g.registers_some in
      (IsHeap-after (tasks g) g.registers (opening_of g) p.seen (IsHeap-opening (tasks g) g.registers g.board (omega arith))).register_born p.seat reg b here

  -- a question answers what it answers after what the pass has seen
  pub null_answers : (reg : ℕ) → reg < g.registers → (result : Bool) → (IsTrue result ↔ (slice_index p.registers reg ≡ 0)) → reply_of seen p.seat (call.IsNull reg) ≡ said result
  unfolding reply_of
  null_answers reg there result means =
      let all = is_null_answers r.core r.history p.seat below (lawful_from_opening g p.log) flight_idle reg (subst (λ (k : Geometry). reg < k.registers) (sym same_g) there) result
      (subst (λ (n : ℕ). IsTrue result ↔ (n ≡ 0)) (sym (stands.registers reg there)) means) in
      ap (λ (o : Option ℕ). said (is_none o)) (registers_same reg) ∙ (λ i. reply_of (after (opening_of (sym same_g i)) r.history) p.seat (call.IsNull reg)) ∙ all

  pub same_registers_answer : (a b : ℕ) → a < g.registers → b < g.registers → (result : Bool)
      → (IsTrue result ↔ (slice_index p.registers a ≡ slice_index p.registers b)) → reply_of seen p.seat (call.Same a b) ≡ said result
  unfolding reply_of
  same_registers_answer a b first second result means =
      let all = same_answers r.core r.history p.seat below (lawful_from_opening g p.log) flight_idle a b (subst (λ (k : Geometry). a < k.registers) (sym same_g) first)
      (subst (λ (k : Geometry). b < k.registers) (sym same_g) second) result
      (subst (λ (n : ℕ). IsTrue result ↔ (register_word r.core p.seat a ≡ n)) (sym (stands.registers b second))
      (subst (λ (n : ℕ). IsTrue result ↔ (n ≡ slice_index p.registers b)) (sym (stands.registers a first)) means)) in
      (λ i. said (is_same (registers_same a i) (registers_same b i))) ∙ (λ i. reply_of (after (opening_of (sym same_g i)) r.history) p.seat (call.Same a b)) ∙ all

  -- WHAT A REFUSAL SAYS

  nums_same : (reg field b : ℕ) → register whole p.seat reg ≡ Some b → nat_lt field (nums seen b) ≡ nat_lt field (nums whole b)
  nums_same reg field b here = ap (nat_lt field) (sym (lasts.nums b (was_born reg b (registers_same reg ∙ here))))

  refs_same : (reg field b : ℕ) → register whole p.seat reg ≡ Some b → nat_lt field (refs seen b) ≡ nat_lt field (refs whole b)
  refs_same reg field b here = ap (nat_lt field) (sym (lasts.refs b (was_born reg b (registers_same reg ∙ here))))

  module _ (answer : Reply) (not_num : (n : ℕ) → reply.Num n ≢ answer) (not_done : reply.Unit ≢ answer) where
    answer_same : (call' : Call) → is_question call' ≡ false → reply_of whole p.seat call' ≡ answer → reply_of seen p.seat call' ≡ answer
    unfolding reply_of
    answer_same (call.Get reg field) q e = same_fault _ _ (registers_same reg) _ _ _ _ answer (nums_same reg field) (λ b. not_num _) e
    answer_same (call.Put reg field value) q e = same_fault _ _ (registers_same reg) _ _ _ _ answer (nums_same reg field) (λ b. not_done) e
    answer_same (call.Load dest reg field) q e = same_fault _ _ (registers_same reg) _ _ _ _ answer (refs_same reg field) (λ b. not_done) e
    answer_same (call.Store reg field from) q e = same_fault _ _ (registers_same reg) _ _ _ _ answer (refs_same reg field) (λ b. not_done) e
    answer_same (call.Move dest from) q e = absurd (not_done e)
    answer_same (call.Clear dest) q e = absurd (not_done e)
    answer_same (call.New dest shape) q e = absurd (not_done e)
    answer_same (call.Same a b) q e = absurd (cc)
    answer_same (call.IsNull reg) q e = absurd (cc)

    -- and the other way round
    answer_back : (call' : Call) → is_question call' ≡ false → reply_of seen p.seat call' ≡ answer → reply_of whole p.seat call' ≡ answer
    unfolding reply_of
    answer_back (call.Get reg field) q e = same_fault _ _ (sym (registers_same reg)) _ _ _ _ answer (λ b here. sym (nums_same reg field b (sym (registers_same reg) ∙ here))) (λ b. not_num _) e
    answer_back (call.Put reg field value) q e = same_fault _ _ (sym (registers_same reg)) _ _ _ _ answer (λ b here. sym (nums_same reg field b (sym (registers_same reg) ∙ here))) (λ b. not_done) e
    answer_back (call.Load dest reg field) q e = same_fault _ _ (sym (registers_same reg)) _ _ _ _ answer (λ b here. sym (refs_same reg field b (sym (registers_same reg) ∙ here))) (λ b. not_done) e
    answer_back (call.Store reg field from) q e = same_fault _ _ (sym (registers_same reg)) _ _ _ _ answer (λ b here. sym (refs_same reg field b (sym (registers_same reg) ∙ here))) (λ b. not_done) e
    answer_back (call.Move dest from) q e = absurd (not_done e)
    answer_back (call.Clear dest) q e = absurd (not_done e)
    answer_back (call.New dest shape) q e = absurd (not_done e)
    answer_back (call.Same a b) q e = absurd (cc)
    answer_back (call.IsNull reg) q e = absurd (cc)

  fault_same : (why : Fault) (call' : Call) → is_question call' ≡ false → IsPlainFault why (reply_of whole p.seat call') → IsPlainFault why (reply_of seen p.seat call')
  fault_same fault.Spent call' q e = tt
  fault_same fault.Nil call' q e = answer_same reply.Nil (λ n e'. cc) (λ e'. cc) call' q e
  fault_same fault.Field call' q e = answer_same reply.Field (λ n e'. cc) (λ e'. cc) call' q e

  tells_same : (refused : Option Fault) (call' : Call) → is_question call' ≡ false → TellsPlain refused (reply_of whole p.seat call') → TellsPlain refused (reply_of seen p.seat call')
  tells_same (Some why) call' q e = fault_same why call' q e
  tells_same None call' q e = (
    (λ nil. e.0 (answer_back reply.Nil (λ n e'. cc) (λ e'. cc) call' q nil)),
    (λ field. e.1 (answer_back reply.Field (λ n e'. cc) (λ e'. cc) call' q field)),
  )

  -- a call that is refused is so for what the plain heap answers after what the pass has seen, and one that isn't finds its
  -- object and its field there
  pub tells_so : (call' : Call) → is_question call' ≡ false → RegistersFit g.registers call' → TellsPlain (refused_by p call') (reply_of seen p.seat call')
  tells_so call' question fit =
      let tells = refused_plain r.core r.history p.seat below (lawful_from_opening g p.log) flight_idle call' question (subst (λ (k : Geometry). RegistersFit k.registers call') (sym same_g) fit) in
      tells_same (refused_by p call') call' question
      (subst (λ (o : Option Fault). TellsPlain o (reply_of whole p.seat call')) (refusal_same g r.core p stands.registers stands.begun call' fit)
      (subst (λ (k : Geometry). TellsPlain (refusal r.core p.seat call') (reply_of (after (opening_of k) r.history) p.seat call')) same_g tells))

  pub refused_so : (call' : Call) → is_question call' ≡ false → RegistersFit g.registers call' → (why : Fault) → refused_by p call' ≡ Some why
      → IsPlainFault why (reply_of seen p.seat call')
  refused_so call' question fit why is = subst (λ (o : Option Fault). TellsPlain o (reply_of seen p.seat call')) is (tells_so call' question fit)
