-- A geometry is its sizes: what it keeps beside them are facts.
use Rattle.std.proofs.Common.{◌≡◌, ◌+◌, ◌*◌, ◌/◌, ◌%◌, ◌<◌, ◌≤◌, sym, ◌∙◌}
use mathlib.Core.HLevel.{is_prop→PathP}
use native.Mathlib.Nat.{ℕ_set}
use Rattle.std.proofs.Math.Bridge.{le_prop}
use Rattle.hk_words.specs.declared.geometry.Geometry.{Geometry}
use Rattle.hk_words.specs.declared.shape.Shape.{Shape}
use Rattle.hk_words.specs.Geometry.{Sizes, HasSizes}

same_shape : (a b : Shape) → a.refs ≡ b.refs → a.nums ≡ b.nums → a ≡ b
same_shape a b r n = λ i. record {
  refs = r i;
  nums = n i;
  some = is_prop→PathP (λ j. 0 < r j + n j) (λ j. le_prop) a.some b.some i;
  few = is_prop→PathP (λ j. r j + n j ≤ 254) (λ j. le_prop) a.few b.few i;
}

pub one_geometry : (g h : Geometry) (s : Sizes) → HasSizes g s → HasSizes h s → g ≡ h
one_geometry g h s a b =
    let live : g.live ≡ h.live = a.live ∙ sym b.live in
    let alloc : g.alloc ≡ h.alloc = a.alloc ∙ sym b.alloc in
    let reserve : g.reserve ≡ h.reserve = a.reserve ∙ sym b.reserve in
    let high : g.high ≡ h.high = a.high ∙ sym b.high in
    let low : g.low ≡ h.low = a.low ∙ sym b.low in
    let registers : g.registers ≡ h.registers = a.registers ∙ sym b.registers in
    let board : g.board ≡ h.board = same_shape g.board h.board (a.refs ∙ sym b.refs) (a.nums ∙ sym b.nums) in
    let marks : g.first_mark ≡ h.first_mark = g.marks_begin ∙ (λ i. 2 + (live i / 2 + alloc i)) ∙ sym h.marks_begin in
    let frames : g.first_frame ≡ h.first_frame = g.frames_begin ∙ (λ i. marks i + (live i / 2 + alloc i)) ∙ sym h.frames_begin in
    let rows : g.first_register ≡ h.first_register = g.registers_begin ∙ (λ i. frames i + (high i + low i)) ∙ sym h.registers_begin in
    let entries : g.first_entry ≡ h.first_entry = g.entries_begin ∙ (λ i. rows i + registers i * (high i + low i)) ∙ sym h.entries_begin in
    let words : g.first_word ≡ h.first_word = g.words_begin ∙ (λ i. entries i + 2 * (alloc i / 2)) ∙ sym h.words_begin in
    λ i. record {
      live = live i;
      alloc = alloc i;
      reserve = reserve i;
      high = high i;
      low = low i;
      registers = registers i;
      board = board i;
      first_mark = marks i;
      first_frame = frames i;
      first_register = rows i;
      first_entry = entries i;
      first_word = words i;
      live_even = is_prop→PathP (λ j. live j % 2 ≡ 0) (λ j. ℕ_set _ _) g.live_even h.live_even i;
      alloc_even = is_prop→PathP (λ j. alloc j % 2 ≡ 0) (λ j. ℕ_set _ _) g.alloc_even h.alloc_even i;
      board_fits = is_prop→PathP (λ j. 1 + (board j).refs + (board j).nums ≤ live j) (λ j. le_prop) g.board_fits h.board_fits i;
      alloc_enough = is_prop→PathP (λ j. 16 ≤ alloc j) (λ j. le_prop) g.alloc_enough h.alloc_enough i;
      live_few = is_prop→PathP (λ j. live j ≤ 65536) (λ j. le_prop) g.live_few h.live_few i;
      alloc_few = is_prop→PathP (λ j. alloc j ≤ 65536) (λ j. le_prop) g.alloc_few h.alloc_few i;
      reserve_within = is_prop→PathP (λ j. reserve j ≤ alloc j) (λ j. le_prop) g.reserve_within h.reserve_within i;
      tasks_some = is_prop→PathP (λ j. 0 < high j + low j) (λ j. le_prop) g.tasks_some h.tasks_some i;
      tasks_few = is_prop→PathP (λ j. high j + low j ≤ 31) (λ j. le_prop) g.tasks_few h.tasks_few i;
      registers_some = is_prop→PathP (λ j. 2 ≤ registers j) (λ j. le_prop) g.registers_some h.registers_some i;
      registers_few = is_prop→PathP (λ j. registers j ≤ 32) (λ j. le_prop) g.registers_few h.registers_few i;
      marks_begin = is_prop→PathP (λ j. marks j ≡ 2 + (live j / 2 + alloc j)) (λ j. ℕ_set _ _) g.marks_begin h.marks_begin i;
      frames_begin = is_prop→PathP (λ j. frames j ≡ marks j + (live j / 2 + alloc j)) (λ j. ℕ_set _ _) g.frames_begin h.frames_begin i;
      registers_begin = is_prop→PathP (λ j. rows j ≡ frames j + (high j + low j)) (λ j. ℕ_set _ _) g.registers_begin h.registers_begin i;
      entries_begin = is_prop→PathP (λ j. entries j ≡ rows j + registers j * (high j + low j)) (λ j. ℕ_set _ _) g.entries_begin h.entries_begin i;
      words_begin = is_prop→PathP (λ j. words j ≡ entries j + 2 * (alloc j / 2)) (λ j. ℕ_set _ _) g.words_begin h.words_begin i;
    }
