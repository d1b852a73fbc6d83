-- What the words of a row say after the event of each kind, and that the event fits.
use Rattle.std.proofs.Common.{◌≡◌, ℕ, zero, suc, ◌+◌, ◌-◌, ◌*◌, ◌^◌, ◌<◌, ◌≤◌, true, false, List, length, refl, ◌∙◌, ap, arith}
use Rattle.hk_words.specs.declared.geometry.Geometry.{Geometry}
use Rattle.hk_words.specs.Geometry.{tasks, numbers, space_words, row_length}
use Rattle.hk_words.specs.Layout.{entering, leaving, accessors_bits}
use Rattle.hk_words.specs.Row.{word_of, header_at, frame_at, register_at, space_at}
use Rattle.hk_words.specs.Row.Slot.{Header, Frame, Register, Space}
use Rattle.hk_model.specs.View.{upd, upd2}
use Rattle.hk_core.specs.declared.flight.Flight.{Flight}
use Rattle.hk_core.specs.declared.event.Event.TheVariants as event
use Rattle.hk_core.specs.Event.{fired}
use Rattle.hk_core.specs.Counts.{count_below, sum_below}
use Rattle.hk_core.specs.Flights as f
use Rattle.hk_core.specs.Facts as fact
use Rattle.hk_core.specs.View.{words_of, raw, decoded}
use Rattle.hk_core.proofs.Counts.{count_room, count_some}
use Rattle.hk_core.proofs.Columns.{fired_at, fired_kept, raw-header, raw-frame, raw-register, raw-space, raw_header, raw_frame}
use Rattle.hk_core.proofs.Encode.{decoded-enter_object, decoded-leave_object, decoded-enter_frame, decoded-leave_frame, decoded-register, decoded-cell}
use Rattle.hk_core.proofs.kinds.Enter.{entering_words}
use Rattle.hk_core.proofs.kinds.Leave.{leaving_words}
use Rattle.hk_core.proofs.kinds.Frame.{entering_frame_words, leaving_frame_words}

-- a load changes nothing
pub words-load : (g : Geometry) (row : List ℕ) (word : ℕ) → words_of g (fired row (event.Load word)) ≡ words_of g row
words-load g row word = ap (words_of g) (fired_kept row (event.Load word) refl)

module _ (g : Geometry) (row : List ℕ) (whole : length row ≡ row_length g) where
  pub words-enter_object : (n : ℕ) → n < numbers g → (words_of g row).accessors n + 1 < 2 ^ accessors_bits
      → words_of g (fired row (event.Add (header_at g n) entering)) ≡ entering_words (words_of g row) n
  unfolding words_of decoded
  words-enter_object n fits few =
      ap (λ (r : List ℕ). decoded (raw g r)) (fired_at g row (event.Add (header_at g n) entering) (Header n) refl)
      ∙ ap decoded (raw-header g row n (word_of g row (Header n) + entering) fits whole)
      ∙ rw (← raw_header g row n fits) (decoded-enter_object (raw g row) n few)

  pub words-leave_object : (n : ℕ) → n < numbers g → 0 < (words_of g row).accessors n
      → words_of g (fired row (event.Sub (header_at g n) leaving)) ≡ leaving_words (words_of g row) n
  unfolding words_of decoded
  words-leave_object n fits some =
      ap (λ (r : List ℕ). decoded (raw g r)) (fired_at g row (event.Sub (header_at g n) leaving) (Header n) refl)
      ∙ ap decoded (raw-header g row n (word_of g row (Header n) - leaving) fits whole)
      ∙ rw (← raw_header g row n fits) (decoded-leave_object (raw g row) n some)

  pub words-enter_frame : (s : ℕ) → s < tasks g → (words_of g row).frame_accessors s + 1 < 2 ^ accessors_bits
      → words_of g (fired row (event.Add (frame_at g s) entering)) ≡ entering_frame_words (words_of g row) s
  unfolding words_of decoded
  words-enter_frame s fits few =
      ap (λ (r : List ℕ). decoded (raw g r)) (fired_at g row (event.Add (frame_at g s) entering) (Frame s) refl)
      ∙ ap decoded (raw-frame g row s (word_of g row (Frame s) + entering) fits whole)
      ∙ rw (← raw_frame g row s fits) (decoded-enter_frame (raw g row) s few)

  pub words-leave_frame : (s : ℕ) → s < tasks g → 0 < (words_of g row).frame_accessors s
      → words_of g (fired row (event.Sub (frame_at g s) leaving)) ≡ leaving_frame_words (words_of g row) s
  unfolding words_of decoded
  words-leave_frame s fits some =
      ap (λ (r : List ℕ). decoded (raw g r)) (fired_at g row (event.Sub (frame_at g s) leaving) (Frame s) refl)
      ∙ ap decoded (raw-frame g row s (word_of g row (Frame s) - leaving) fits whole)
      ∙ rw (← raw_frame g row s fits) (decoded-leave_frame (raw g row) s some)

  pub words-write_register : (s r v : ℕ) → s < tasks g → r < g.registers
      → words_of g (fired row (event.Write (register_at g s r) v)) ≡ record (words_of g row) { register = upd2 (words_of g row).register s r v }
  unfolding words_of
  words-write_register s r v seat reg =
      ap (λ (k : List ℕ). decoded (raw g k)) (fired_at g row (event.Write (register_at g s r) v) (Register s r) refl)
      ∙ ap decoded (raw-register g row s r v seat reg whole)
      ∙ decoded-register (raw g row) s r v

  pub words-write_cell : (p v : ℕ) → 0 < p → p ≤ 2 * space_words g
      → words_of g (fired row (event.Write (space_at g p) v)) ≡ record (words_of g row) { cell = upd (words_of g row).cell p v }
  unfolding words_of
  words-write_cell p v some within =
      ap (λ (k : List ℕ). decoded (raw g k)) (fired_at g row (event.Write (space_at g p) v) (Space p) refl)
      ∙ ap decoded (raw-space g row p v some within whole)
      ∙ decoded-cell (raw g row) p v

-- a call that is outside can enter the object: fewer than all seats are inside
pub room_in_object : (g : Geometry) (accessors : ℕ → ℕ) (flight : ℕ → Flight) (s n : ℕ) → s < tasks g → n < numbers g → f.is_inside (flight s) n ≡ false
    → fact.AccessorsCounted g accessors flight → accessors n + 1 < 2 ^ accessors_bits
room_in_object g accessors flight s n below fits out h =
    let counted : accessors n ≡ count_below (tasks g) (λ t. f.is_inside (flight t) n) = h n fits in
    let room : count_below (tasks g) (λ t. f.is_inside (flight t) n) < tasks g = count_room (λ t. f.is_inside (flight t) n) s (tasks g) below out in
    omega arith

-- a call that is inside can leave it
pub some_in_object : (g : Geometry) (accessors : ℕ → ℕ) (flight : ℕ → Flight) (s n : ℕ) → s < tasks g → n < numbers g → f.is_inside (flight s) n ≡ true
    → fact.AccessorsCounted g accessors flight → 0 < accessors n
some_in_object g accessors flight s n below fits inside h =
    let counted : accessors n ≡ count_below (tasks g) (λ t. f.is_inside (flight t) n) = h n fits in
    let some : 0 < count_below (tasks g) (λ t. f.is_inside (flight t) n) = count_some (λ t. f.is_inside (flight t) n) s (tasks g) below inside in
    omega arith

-- the begun calls of all seats are few
sum_small : (h : ℕ → ℕ) (n : ℕ) → ((k : ℕ) → k < n → h k ≤ 2 ^ 30) → sum_below n h ≤ n * 2 ^ 30
unfolding sum_below
sum_small h zero small = omega arith
sum_small h (suc n) small =
    let before : sum_below n h ≤ n * 2 ^ 30 = sum_small h n (λ k b. small k (omega arith)) in
    let last : h n ≤ 2 ^ 30 = small n (omega arith) in
    omega arith

-- so a version that a call has still to raise is far from the end of its field
pub version_room : (g : Geometry) (version : ℕ → ℕ) (flight : ℕ → Flight) (begun : ℕ → ℕ) (s n : ℕ) → s < tasks g → n < numbers g → f.before_object (flight s) ≡ true
    → fact.BegunBounded g begun → fact.VersionsBounded g version flight begun → version n + 1 < 2 ^ 36
version_room g version flight begun s n below fits before few h =
    let some : 0 < count_below (tasks g) (λ t. f.before_object (flight t)) = count_some (λ t. f.before_object (flight t)) s (tasks g) below before in
    let bounded : version n + count_below (tasks g) (λ t. f.before_object (flight t)) ≤ sum_below (tasks g) begun = h n fits in
    let small : sum_below (tasks g) begun ≤ tasks g * 2 ^ 30 = sum_small begun (tasks g) few in
    omega arith

pub frame_version_room : (g : Geometry) (frame_version : ℕ → ℕ) (flight : ℕ → Flight) (begun : ℕ → ℕ) (s : ℕ) → s < tasks g → f.before_frame (flight s) ≡ true
    → fact.BegunBounded g begun → fact.FrameVersionsBounded g frame_version flight begun → frame_version s + 1 < 2 ^ 36
frame_version_room g frame_version flight begun s below before few h =
    let some : 0 < count_below (tasks g) (λ t. f.before_frame (flight t)) = count_some (λ t. f.before_frame (flight t)) s (tasks g) below before in
    let bounded : frame_version s + count_below (tasks g) (λ t. f.before_frame (flight t)) ≤ sum_below (tasks g) begun = h s below in
    let small : sum_below (tasks g) begun ≤ tasks g * 2 ^ 30 = sum_small begun (tasks g) few in
    omega arith
