-- The registers of an idle seat show those of the plain heap, so questions about them have its answers.
use Rattle.std.proofs.Common.{◌≡◌, ◌≢◌, ℕ, ◌+◌, ◌^◌, ◌<◌, Bool, true, false, inl, inr, refl, sym, ◌∙◌, ap, arith, Option, Some, None}
use Rattle.std.proofs.lemmas.Bool.{eqb-true, eq-eqb}
use Rattle.std.specs.Prelude.{◌↔◌, IsTrue, is_none}
use Rattle.hk_words.specs.declared.call.Call.{Call}
use Rattle.hk_words.specs.declared.call.Call.TheVariants as call
use Rattle.hk_words.specs.Geometry.{tasks, numbers}
use Rattle.hk_words.specs.Layout as layout
use Rattle.hk_model.specs.Heap.{opening_of}
use Rattle.hk_model.specs.History.{History, after}
use Rattle.hk_model.specs.Replies.{reply_of, said, is_same}
use Rattle.hk_model.proofs.Replies.{reply_of-same, reply_of-is_null}
use Rattle.hk_core.specs.declared.flight.Flight.{Flight}
use Rattle.hk_core.specs.Begin.{register_word}
use Rattle.hk_core.specs.State.{State}
use Rattle.hk_core.specs.View.{Names, decoded, words_of, names_of, contents_of, shown, flight_at}
use Rattle.hk_core.specs.Flights as f
use Rattle.hk_core.specs.Colours.{shades_of, IsNullOrKept, IsKeptBirth}
use Rattle.hk_core.specs.Lawful.{Lawful}
use Rattle.hk_core.proofs.Columns.{raw_register}
use Rattle.hk_core.proofs.kinds.Seats.{kept_means}

-- an idle flight holds no register back
idle_free : (x : Flight) (r : ℕ) → x.place ≡ 0 → f.holds_back x r ≡ false
unfolding f.holds_back f.holds_back_at
idle_free x r idle = each x.call x.place idle
  where
    each : (call' : Call) (p : ℕ) → p ≡ 0 → f.holds_back_at call' p r ≡ false
    each (call.Get reg field) p e = refl
    each (call.Put reg field value) p e = refl
    each (call.Load dest reg field) p e = rw e refl
    each (call.Store reg field from) p e = refl
    each (call.Move dest from) p e = refl
    each (call.Clear dest) p e = refl
    each (call.New dest shape) p e = refl
    each (call.Same a b) p e = refl
    each (call.IsNull reg) p e = refl

-- a test with the same answer as another
same_answer : (a b : Bool) (P : Type 0) → (IsTrue a ↔ P) → (b ≡ true → P) → (P → b ≡ true) → b ≡ a
same_answer true true P e yes' no' = refl
same_answer false false P e yes' no' = refl
same_answer true false P e yes' no' = no' (e.0 refl)
same_answer false true P e yes' no' = sym (e.1 (yes' refl))

-- the reference of a birth isn't null
packed_some : (n refs nums : ℕ) → layout.pack_reference n refs nums ≢ 0
packed_some n refs nums e = absurd (omega arith)

packed_number : (m n refs nums refs' nums' : ℕ) → m + 1 < 2 ^ 20 → n + 1 < 2 ^ 20 → layout.pack_reference m refs nums ≡ layout.pack_reference n refs' nums' → m ≡ n
packed_number m n refs nums refs' nums' a b e = omega arith

module _ (c : State) (history : History) (s : ℕ) (below : s < tasks c.geometry) (h : Lawful c history) (idle : (flight_at c s).place ≡ 0) where
  -- a register word shows the plain register
  pub word_shows : (r : ℕ) → r < c.geometry.registers → register_word c s r ≡ shown (names_of c.geometry history) ((contents_of c.geometry history).register s r)
  unfolding words_of decoded register_word
  word_shows r fits =
      let g = c.geometry in
      let word : (words_of g c.row).register s r ≡ register_word c s r = raw_register g c.row s r below fits in
      let shows : (words_of g c.row).register s r ≡ shown (names_of g history) ((contents_of g history).register s r) =
      rw (idle_free (flight_at c s) r idle) at (h.facts.registers_shown s r below fits) in
      sym word ∙ shows

  -- so it is null where that is
  null_both : (names : Names) (plain : Option ℕ) → (is_none plain ≡ true → shown names plain ≡ 0) × (shown names plain ≡ 0 → is_none plain ≡ true)
  unfolding shown
  null_both names None = ((λ e. refl), (λ e. refl))
  null_both names (Some b) = ((λ e. absurd (cc)), (λ e. absurd (packed_some (names.number b) (names.refs b) (names.nums b) e)))

  pub is_null_answers : (r : ℕ) → r < c.geometry.registers → (result : Bool) → (IsTrue result ↔ (register_word c s r ≡ 0))
      → reply_of (after (opening_of c.geometry) history) s (call.IsNull r) ≡ said result
  unfolding contents_of
  is_null_answers r fits result e =
      let plain = (contents_of c.geometry history).register s r in
      let both = null_both (names_of c.geometry history) plain in
      let word = word_shows r fits in
      reply_of-is_null (after (opening_of c.geometry) history) s r
      ∙ ap said (same_answer result (is_none plain) (register_word c s r ≡ 0) e (λ none. word ∙ both.0 none) (λ null. both.1 (sym word ∙ null)))

  -- two registers show one word where they hold the same
  same_both : (a b : Option ℕ) → IsNullOrKept (shades_of c.geometry (words_of c.geometry c.row) (flight_at c) c.spot.line (names_of c.geometry history)).kept (names_of c.geometry history) a
      → IsNullOrKept (shades_of c.geometry (words_of c.geometry c.row) (flight_at c) c.spot.line (names_of c.geometry history)).kept (names_of c.geometry history) b
      → (is_same a b ≡ true → shown (names_of c.geometry history) a ≡ shown (names_of c.geometry history) b)
      × (shown (names_of c.geometry history) a ≡ shown (names_of c.geometry history) b → is_same a b ≡ true)
  unfolding shown
  same_both None None k l = ((λ e. refl), (λ e. refl))
  same_both None (Some b) k l = ((λ e. absurd (cc)), (λ e. absurd (packed_some _ _ _ (sym e))))
  same_both (Some a) None k l = ((λ e. absurd (cc)), (λ e. absurd (packed_some _ _ _ e)))
  same_both (Some a) (Some b) k l =
      let g = c.geometry in
      let names = names_of g history in
      let of_a : IsKeptBirth (shades_of g (words_of g c.row) (flight_at c) c.spot.line names).kept names a = birth_kept a k in
      let of_b : IsKeptBirth (shades_of g (words_of g c.row) (flight_at c) c.spot.line names).kept names b = birth_kept b l in
      let fits_a : names.number a < numbers g = (kept_means g (words_of g c.row) (flight_at c) c.spot.line names (names.number a) of_a.is_kept).within in
      let fits_b : names.number b < numbers g = (kept_means g (words_of g c.row) (flight_at c) c.spot.line names (names.number b) of_b.is_kept).within in (
        (λ e. let same : a ≡ b = eqb-true a b e in rw same refl),
        (λ e.
            let number : names.number a ≡ names.number b = packed_number (names.number a) (names.number b) _ _ _ _ (omega arith) (omega arith) e in
            let borne : Some a ≡ Some b = sym of_a.bears ∙ ap names.bearer number ∙ of_b.bears in
            eq-eqb a b (let x : a ≡ b = cc in x)),
      )
    where
      birth_kept : (d : ℕ) → IsNullOrKept (shades_of c.geometry (words_of c.geometry c.row) (flight_at c) c.spot.line (names_of c.geometry history)).kept (names_of c.geometry history) (Some d)
          → IsKeptBirth (shades_of c.geometry (words_of c.geometry c.row) (flight_at c) c.spot.line (names_of c.geometry history)).kept (names_of c.geometry history) d
      birth_kept d (inl none) = absurd (cc)
      birth_kept d (inr found) = let same : found.0 ≡ d = cc in rw (← same) found.2

  pub same_answers : (a b : ℕ) → a < c.geometry.registers → b < c.geometry.registers → (result : Bool) → (IsTrue result ↔ (register_word c s a ≡ register_word c s b))
      → reply_of (after (opening_of c.geometry) history) s (call.Same a b) ≡ said result
  unfolding contents_of
  same_answers a b first second result e =
      let plain = (contents_of c.geometry history).register s in
      let both = same_both (plain a) (plain b) (h.facts.registers_kept s a below first) (h.facts.registers_kept s b below second) in
      reply_of-same (after (opening_of c.geometry) history) s a b
      ∙ ap said (same_answer result (is_same (plain a) (plain b)) (register_word c s a ≡ register_word c s b) e
      (λ same. word_shows a first ∙ both.0 same ∙ sym (word_shows b second)) (λ same. both.1 (sym (word_shows a first) ∙ same ∙ word_shows b second)))
