-- A begin of an idle seat of a lawful machine is refused exactly as the plain heap answers: Nil for Nil, Field for Field.
use Rattle.std.proofs.Common.{◌≡◌, ◌≢◌, ℕ, ◌<◌, Bool, true, false, inl, inr, refl, ◌∙◌, ap, arith, subst, Option, Some, None, Result, Ok, Err}
use Rattle.std.proofs.lemmas.Bool.{cases_Bool, eq-eqb, ne_eqb}
use Rattle.std.specs.Prelude.{nat_lt, nat_le, ◌==◌, ◌&&◌, not, is_some, slice_index, MatchResult, if◌then◌else◌}
use Rattle.hk_words.specs.declared.call.Call.{Call}
use Rattle.hk_words.specs.declared.call.Call.TheVariants as call
use Rattle.hk_words.specs.declared.call.Reply.{Reply}
use Rattle.hk_words.specs.declared.call.Reply.TheVariants as reply
use Rattle.hk_words.specs.Calls.{RegistersFit, entered}
use Rattle.hk_words.specs.Geometry.{tasks, numbers}
use Rattle.hk_words.specs.Layout as layout
use Rattle.hk_words.proofs.PackingLaws.{reference_unpacks}
use Rattle.hk_model.specs.Heap as heap
use Rattle.hk_model.specs.Heap.{opening_of}
use Rattle.hk_model.specs.History.{History, after, is_question}
use Rattle.hk_model.specs.Replies.{reply_of, entering, has_number, has_reference}
use Rattle.hk_core.specs.declared.outcome.Fault.{Fault}
use Rattle.hk_core.specs.declared.outcome.Fault.TheVariants as fault
use Rattle.hk_core.specs.Begin.{most_calls, register_word, entered_word, has_field, refusal}
use Rattle.hk_core.specs.Faults.{FindsField, IsPlainFault, TellsPlain}
use Rattle.hk_core.specs.State.{State}
use Rattle.hk_core.specs.View.{words_of, names_of, contents_of, shown, flight_at}
use Rattle.hk_core.specs.Colours.{IsKeptBirth}
use Rattle.hk_core.specs.Inside.{kept_in}
use Rattle.hk_core.specs.Lawful.{Lawful}
use Rattle.hk_core.proofs.Inside.{shapes_fit}
use Rattle.hk_core.proofs.Shared.{some_kept}
use Rattle.hk_core.proofs.Shown.{word_shows}
use Rattle.hk_core.proofs.kinds.Seats.{kept_means}

-- what is entered, by the plain register, and the test on its word
enters : (plain : Option ℕ) (has : ℕ → Bool) (word : ℕ) (test : Bool) (done : ℕ → Reply)
    → (plain ≡ None → word ≡ 0) → ((b : ℕ) → plain ≡ Some b → (word ≢ 0) × (test ≡ has b)) → ((b : ℕ) → (done b ≢ reply.Nil) × (done b ≢ reply.Field))
    → TellsPlain (if word == 0 then Some fault.Nil else if not test then Some fault.Field else None) (entering plain has reply.Nil reply.Field done)
enters None has word test done null some fine = rw (eq-eqb word 0 (null refl)) refl
enters (Some b) has word test done null some fine = by_test (has b) refl
  where
    by_test : (k : Bool) → has b ≡ k → TellsPlain (if word == 0 then Some fault.Nil else if not test then Some fault.Field else None) (entering (Some b) has reply.Nil reply.Field done)
    by_test true e = let s = some b refl in let t : test ≡ true = s.1 ∙ e in rw (ne_eqb word 0 s.0, t, e) (fine b)
    by_test false e = let s = some b refl in let t : test ≡ false = s.1 ∙ e in rw (ne_eqb word 0 s.0, t, e) refl

module _ (c : State) (history : History) (s : ℕ) (below : s < tasks c.geometry) (h : Lawful c history) (idle : (flight_at c s).place ≡ 0) where
  shows : (r : ℕ) → r < c.geometry.registers → register_word c s r ≡ shown (names_of c.geometry history) ((contents_of c.geometry history).register s r)
  shows r fits = word_shows c history s below h idle r fits

  null_word : (r : ℕ) → r < c.geometry.registers → heap.register (after (opening_of c.geometry) history) s r ≡ None → register_word c s r ≡ 0
  unfolding contents_of shown
  null_word r fits none = shows r fits ∙ ap (shown (names_of c.geometry history)) none

  -- the reference of a birth in a register tells its shape
  record TellsShape (word b : ℕ) : Type 0 where
    some : word ≢ 0
    refs : layout.reference_refs word ≡ heap.refs (after (opening_of c.geometry) history) b
    nums : layout.reference_nums word ≡ heap.nums (after (opening_of c.geometry) history) b

  tells : (r b : ℕ) → r < c.geometry.registers → heap.register (after (opening_of c.geometry) history) s r ≡ Some b → TellsShape (register_word c s r) b
  unfolding contents_of shown names_of
  tells r b fits here =
      let g = c.geometry in
      let names = names_of g history in
      let word : register_word c s r ≡ layout.pack_reference (names.number b) (names.refs b) (names.nums b) = shows r fits ∙ ap (shown names) here in
      let kept = some_kept (IsKeptBirth (kept_in c history) names) _ b (h.facts.registers_kept s r below fits) here in
      let within : names.number b < numbers g = (kept_means g (words_of g c.row) (flight_at c) c.spot.line names (names.number b) kept.is_kept).within in
      let shape = shapes_fit g history b in
      let parts = reference_unpacks (names.number b) (names.refs b) (names.nums b) (omega arith) (omega (arith, shape.0)) (omega (arith, shape.1)) in
      record {
        some = λ e. omega (arith, e, word);
        refs = ap layout.reference_refs word ∙ parts.refs;
        nums = ap layout.reference_nums word ∙ parts.nums;
      }

  pub refused_plain : (call' : Call) → is_question call' ≡ false → RegistersFit c.geometry.registers call'
      → TellsPlain (refusal c s call') (reply_of (after (opening_of c.geometry) history) s call')
  unfolding refusal entered_word reply_of
  refused_plain call' question fit = elim (cases_Bool (nat_le most_calls (slice_index c.begun s))) [
    | inl spent ↦ rw spent tt
    | inr room ↦ rw room (each call' question fit)
  ]
    where
      each : (k : Call) → is_question k ≡ false → RegistersFit c.geometry.registers k
          → TellsPlain (if is_some (entered k) && entered_word c s k == 0 then Some fault.Nil else if not (has_field k (entered_word c s k)) then Some fault.Field else None) (reply_of (after (opening_of c.geometry) history) s k)
      each (call.Get reg field) q fits = enters _ (has_number (after (opening_of c.geometry) history) field) (register_word c s reg) (nat_lt field (layout.reference_nums (register_word c s reg))) _
          (null_word reg fits) (λ b here. let t = tells reg b fits here in (t.some, ap (nat_lt field) t.nums)) (λ b. ((λ e. cc), (λ e. cc)))
      each (call.Put reg field value) q fits = enters _ (has_number (after (opening_of c.geometry) history) field) (register_word c s reg) (nat_lt field (layout.reference_nums (register_word c s reg))) _
          (null_word reg fits) (λ b here. let t = tells reg b fits here in (t.some, ap (nat_lt field) t.nums)) (λ b. ((λ e. cc), (λ e. cc)))
      each (call.Load dest reg field) q fits = enters _ (has_reference (after (opening_of c.geometry) history) field) (register_word c s reg) (nat_lt field (layout.reference_refs (register_word c s reg))) _
          (null_word reg fits.1) (λ b here. let t = tells reg b fits.1 here in (t.some, ap (nat_lt field) t.refs)) (λ b. ((λ e. cc), (λ e. cc)))
      each (call.Store reg field from) q fits = enters _ (has_reference (after (opening_of c.geometry) history) field) (register_word c s reg) (nat_lt field (layout.reference_refs (register_word c s reg))) _
          (null_word reg fits.0) (λ b here. let t = tells reg b fits.0 here in (t.some, ap (nat_lt field) t.refs)) (λ b. ((λ e. cc), (λ e. cc)))
      each (call.Move dest from) q fits = ((λ e. cc), (λ e. cc))
      each (call.Clear dest) q fits = ((λ e. cc), (λ e. cc))
      each (call.New dest shape) q fits = ((λ e. cc), (λ e. cc))
      each (call.Same a b) q fits = absurd (cc)
      each (call.IsNull reg) q fits = absurd (cc)

-- so the answer of a begin tells it
pub begin_tells : {A : Type 0} (refused : Option Fault) (answer : Reply) → TellsPlain refused answer → (result : Result A Fault)
    → MatchResult result (λ _. refused ≡ None) (λ why. refused ≡ Some why) → MatchResult result (λ _. FindsField answer) (λ why. IsPlainFault why answer)
begin_tells refused answer tells (Ok u) none = subst (λ o. TellsPlain o answer) none tells
begin_tells refused answer tells (Err why) some = subst (λ o. TellsPlain o answer) some tells
