-- What the words of a row say after each change of a packed word, and what the flights and the begun calls are after a
-- change of a seat.
use Rattle.std.proofs.Common.{◌≡◌, ℕ, ◌+◌, ◌-◌, ◌^◌, ◌<◌, length, refl, arith, get_or-set_same, get_or-set_other}
use Rattle.std.specs.Prelude.{slice_set}
use Rattle.hk_words.specs.Layout.{accessors_bits, place_bits, blackened_bits, words_bits, objects_bits, entering, leaving, raise_by}
use Rattle.hk_words.specs.Layout.{IsHeader, pack_header, header_accessors, header_place, header_version, header_moved}
use Rattle.hk_words.specs.Layout.{frame_accessors, frame_cycle, frame_version, frame_blackened}
use Rattle.hk_words.specs.Layout.{pack_w0, w0_words, w0_objects}
use Rattle.hk_words.proofs.PackingLaws.{header_unpacks, header_enters, header_leaves, header_moves, frame_enters, frame_leaves, frame_blackens, w0_unpacks, w0_raises}
use Rattle.hk_model.specs.View.{upd, upd2}
use Rattle.hk_model.proofs.Updates.{is_upd}
use Rattle.hk_core.specs.declared.flight.Flight.{Flight}
use Rattle.hk_core.specs.State.{State, idle, flight_of}
use Rattle.hk_core.specs.View.{Raw, decoded, flight_at, begun_at}
use Rattle.hk_core.proofs.Update.{map_upd, map_upd_kept}

-- Headers.

-- another header
pub decoded-header : (r : Raw) (n v accessors place version : ℕ) → IsHeader v accessors place version
    → decoded (record r { header = upd r.header n v })
    ≡ record (decoded r) { accessors = upd (decoded r).accessors n accessors; place = upd (decoded r).place n place; version = upd (decoded r).version n version }
unfolding decoded
decoded-header r n v accessors place version h = λ i. record (decoded r) {
  accessors = map_upd {A = ℕ} {B = ℕ} header_accessors r.header n v accessors h.accessors i;
  place = map_upd {A = ℕ} {B = ℕ} header_place r.header n v place h.place i;
  version = map_upd {A = ℕ} {B = ℕ} header_version r.header n v version h.version i;
}

-- a call enters an object, and leaves it
pub decoded-enter_object : (r : Raw) (n : ℕ) → header_accessors (r.header n) + 1 < 2 ^ accessors_bits
    → decoded (record r { header = upd r.header n (r.header n + entering) })
    ≡ record (decoded r) { accessors = upd (decoded r).accessors n ((decoded r).accessors n + 1); version = upd (decoded r).version n ((decoded r).version n + 1) }
unfolding decoded
decoded-enter_object r n few =
    let v = r.header n + entering in
    let h = header_enters (r.header n) few in
    λ i. record (decoded r) {
      accessors = map_upd {A = ℕ} {B = ℕ} header_accessors r.header n v (header_accessors (r.header n) + 1) h.accessors i;
      place = map_upd_kept {A = ℕ} {B = ℕ} header_place r.header n v h.place i;
      version = map_upd {A = ℕ} {B = ℕ} header_version r.header n v (header_version (r.header n) + 1) h.version i;
    }

pub decoded-leave_object : (r : Raw) (n : ℕ) → 0 < header_accessors (r.header n)
    → decoded (record r { header = upd r.header n (r.header n - leaving) })
    ≡ record (decoded r) { accessors = upd (decoded r).accessors n ((decoded r).accessors n - 1) }
unfolding decoded
decoded-leave_object r n some =
    let v = r.header n - leaving in
    let h = header_leaves (r.header n) some in
    λ i. record (decoded r) {
      accessors = map_upd {A = ℕ} {B = ℕ} header_accessors r.header n v (header_accessors (r.header n) - 1) h.accessors i;
      place = map_upd_kept {A = ℕ} {B = ℕ} header_place r.header n v h.place i;
      version = map_upd_kept {A = ℕ} {B = ℕ} header_version r.header n v h.version i;
    }

-- the collector gives an object another place
pub decoded-move_object : (r : Raw) (n place : ℕ) → place < 2 ^ place_bits
    → decoded (record r { header = upd r.header n (header_moved (r.header n) place) })
    ≡ record (decoded r) { place = upd (decoded r).place n place }
unfolding decoded
decoded-move_object r n place fits =
    let v = header_moved (r.header n) place in
    let h = header_moves (r.header n) place fits in
    λ i. record (decoded r) {
      accessors = map_upd_kept {A = ℕ} {B = ℕ} header_accessors r.header n v h.accessors i;
      place = map_upd {A = ℕ} {B = ℕ} header_place r.header n v place h.place i;
      version = map_upd_kept {A = ℕ} {B = ℕ} header_version r.header n v h.version i;
    }

-- a New gives its number a header
pub decoded-new_header : (r : Raw) (n place : ℕ) → place < 2 ^ place_bits
    → decoded (record r { header = upd r.header n (pack_header 0 place 0) })
    ≡ record (decoded r) { accessors = upd (decoded r).accessors n 0; place = upd (decoded r).place n place; version = upd (decoded r).version n 0 }
decoded-new_header r n place fits = decoded-header r n (pack_header 0 place 0) 0 place 0 (header_unpacks 0 place 0 (omega arith) fits)

-- the sweep empties a header
pub decoded-empty_header : (r : Raw) (n : ℕ)
    → decoded (record r { header = upd r.header n 0 })
    ≡ record (decoded r) { accessors = upd (decoded r).accessors n 0; place = upd (decoded r).place n 0; version = upd (decoded r).version n 0 }
decoded-empty_header r n = decoded-header r n 0 0 0 0 (record { accessors = omega arith; place = omega arith; version = omega arith })

-- Frame words.

pub decoded-enter_frame : (r : Raw) (s : ℕ) → frame_accessors (r.frame s) + 1 < 2 ^ accessors_bits
    → decoded (record r { frame = upd r.frame s (r.frame s + entering) })
    ≡ record (decoded r) { frame_accessors = upd (decoded r).frame_accessors s ((decoded r).frame_accessors s + 1); frame_version = upd (decoded r).frame_version s ((decoded r).frame_version s + 1) }
unfolding decoded
decoded-enter_frame r s few =
    let v = r.frame s + entering in
    let h = frame_enters (r.frame s) few in
    λ i. record (decoded r) {
      frame_accessors = map_upd {A = ℕ} {B = ℕ} frame_accessors r.frame s v (frame_accessors (r.frame s) + 1) h.accessors i;
      frame_cycle = map_upd_kept {A = ℕ} {B = ℕ} frame_cycle r.frame s v h.cycle i;
      frame_version = map_upd {A = ℕ} {B = ℕ} frame_version r.frame s v (frame_version (r.frame s) + 1) h.version i;
    }

pub decoded-leave_frame : (r : Raw) (s : ℕ) → 0 < frame_accessors (r.frame s)
    → decoded (record r { frame = upd r.frame s (r.frame s - leaving) })
    ≡ record (decoded r) { frame_accessors = upd (decoded r).frame_accessors s ((decoded r).frame_accessors s - 1) }
unfolding decoded
decoded-leave_frame r s some =
    let v = r.frame s - leaving in
    let h = frame_leaves (r.frame s) some in
    λ i. record (decoded r) {
      frame_accessors = map_upd {A = ℕ} {B = ℕ} frame_accessors r.frame s v (frame_accessors (r.frame s) - 1) h.accessors i;
      frame_cycle = map_upd_kept {A = ℕ} {B = ℕ} frame_cycle r.frame s v h.cycle i;
      frame_version = map_upd_kept {A = ℕ} {B = ℕ} frame_version r.frame s v h.version i;
    }

pub decoded-blacken_frame : (r : Raw) (s cycle : ℕ) → cycle < 2 ^ blackened_bits
    → decoded (record r { frame = upd r.frame s (frame_blackened (r.frame s) cycle) })
    ≡ record (decoded r) { frame_cycle = upd (decoded r).frame_cycle s cycle }
unfolding decoded
decoded-blacken_frame r s cycle fits =
    let v = frame_blackened (r.frame s) cycle in
    let h = frame_blackens (r.frame s) cycle fits in
    λ i. record (decoded r) {
      frame_accessors = map_upd_kept {A = ℕ} {B = ℕ} frame_accessors r.frame s v h.accessors i;
      frame_cycle = map_upd {A = ℕ} {B = ℕ} frame_cycle r.frame s v cycle h.cycle i;
      frame_version = map_upd_kept {A = ℕ} {B = ℕ} frame_version r.frame s v h.version i;
    }

-- W0 and W1.

pub decoded-raise : (r : Raw) (words : ℕ) → w0_words r.w0 + words < 2 ^ words_bits → w0_objects r.w0 + 1 < 2 ^ objects_bits
    → decoded (record r { w0 = r.w0 + raise_by words })
    ≡ record (decoded r) { used = (decoded r).used + words; objects = (decoded r).objects + 1 }
unfolding decoded
decoded-raise r words a b =
    let h = w0_raises r.w0 words a b in
    λ i. record (decoded r) { used = h.words i; objects = h.objects i; cycle = h.cycle i }

pub decoded-flip : (r : Raw) (cycle : ℕ) → decoded (record r { w0 = pack_w0 0 0 cycle }) ≡ record (decoded r) { used = 0; objects = 0; cycle = cycle }
unfolding decoded
decoded-flip r cycle =
    let h = w0_unpacks 0 0 cycle (omega arith) (omega arith) in
    λ i. record (decoded r) { used = h.words i; objects = h.objects i; cycle = h.cycle i }

pub decoded-w1 : (r : Raw) (v : ℕ) → decoded (record r { w1 = v }) ≡ record (decoded r) { reserved = v }
unfolding decoded
decoded-w1 r v = refl

-- The words that aren't packed.

pub decoded-mark : (r : Raw) (n v : ℕ) → decoded (record r { mark = upd r.mark n v }) ≡ record (decoded r) { mark = upd (decoded r).mark n v }
unfolding decoded
decoded-mark r n v = refl

pub decoded-register : (r : Raw) (s reg v : ℕ) → decoded (record r { register = upd2 r.register s reg v }) ≡ record (decoded r) { register = upd2 (decoded r).register s reg v }
unfolding decoded
decoded-register r s reg v = refl

pub decoded-entry : (r : Raw) (l j v : ℕ) → decoded (record r { entry = upd2 r.entry l j v }) ≡ record (decoded r) { entry = upd2 (decoded r).entry l j v }
unfolding decoded
decoded-entry r l j v = refl

pub decoded-cell : (r : Raw) (p v : ℕ) → decoded (record r { cell = upd r.cell p v }) ≡ record (decoded r) { cell = upd (decoded r).cell p v }
unfolding decoded
decoded-cell r p v = refl

-- Flights and begun calls.

pub flight_at-set : (c : State) (s : ℕ) (f : Flight) → s < length c.flights → flight_at (record c { flights = slice_set c.flights s f }) ≡ upd (flight_at c) s f
unfolding flight_at flight_of
flight_at-set c s f below =
    is_upd {A = Flight} (flight_at (record c { flights = slice_set c.flights s f })) (flight_at c) s f
    (get_or-set_same c.flights s f (idle s) below) (λ k d. get_or-set_other c.flights s k f (idle k) d)

pub begun_at-set : (c : State) (s n : ℕ) → s < length c.begun → begun_at (record c { begun = slice_set c.begun s n }) ≡ upd (begun_at c) s n
unfolding begun_at
begun_at-set c s n below =
    is_upd {A = ℕ} (begun_at (record c { begun = slice_set c.begun s n })) (begun_at c) s n
    (get_or-set_same c.begun s n 0 below) (λ k d. get_or-set_other c.begun s k n 0 d)
