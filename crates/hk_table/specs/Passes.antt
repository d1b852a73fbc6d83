-- The passes, the notes and the keeper of a heap.
use Rattle.std.specs.Prelude.{◌≡◌, nat_lt, []}
use Rattle.hk_words.specs.Geometry.{tasks}
use Rattle.hk_model.specs.History.{History}
use Rattle.hk_core.specs.Run.{run_from_opening}
use Rattle.hk_table.specs.Knows.{PassView, KeeperView, pass, note, keeper}
use Rattle.hk_table.specs.Deeds.{Stands, the_pass}
use Rattle.hk_table.specs.Seats.{the_keeper, the_note}
use Rattle.hk_table.specs.declared.heap.Heap.{Heap}
use Rattle.hk_table.specs.declared.keeper.Keeper.{Keeper}
use Rattle.hk_table.specs.declared.note.Note.{Note}
use Rattle.hk_table.specs.declared.pass.Pass.{Pass}

-- what a pass knows
abbrev pub known : Pass → PassView
known p = the_pass p.seat.me.0.knows

-- the pass is one of the heap's and makes no call now
pub record IsPassOf (h : Heap) (p : Pass) : Type 0 where
  pub table : p.seat.table_id ≡ h.table.shared.table_id
  pub empty : p.seat.me.1 ≡ []
  pub is : p.seat.me.0.knows ≡ pass h.geometry (known p)
  pub stands : Stands h.geometry (known p)
  pub idle : (known p).flight.place ≡ 0
  -- what the pass holds itself is what its seat says
  pub number : (known p).seat ≡ p.number
  pub high : p.high ≡ nat_lt p.number h.geometry.high
  pub registers : p.registers.items ≡ (known p).registers
  pub begun : (known p).begun ≡ p.begun

-- the history that a note holds
abbrev pub noted_in : Note → History
noted_in n = the_note n.seat.me.0.knows

-- the note was taken on the heap
pub record IsNoteOf (h : Heap) (n : Note) : Type 0 where
  pub table : n.seat.table_id ≡ h.table.shared.table_id
  pub empty : n.seat.me.1 ≡ []
  pub is : n.seat.me.0.knows ≡ note h.geometry (noted_in n)

-- what the keeper knows
abbrev pub kept : Keeper → KeeperView
kept k = the_keeper k.seat.me.0.knows

-- the keeper is the heap's
pub record IsKeeperOf (h : Heap) (k : Keeper) : Type 0 where
  pub table : k.seat.table_id ≡ h.table.shared.table_id
  pub empty : k.seat.me.1 ≡ []
  pub is : k.seat.me.0.knows ≡ keeper h.geometry (kept k)
  -- it stands in the run of its own log
  pub stands : (run_from_opening h.geometry (kept k).log).core.spot ≡ (kept k).spot
  pub spot : (kept k).spot ≡ k.spot
  -- every pass is made, and none is taken in
  pub made : (kept k).made ≡ tasks h.geometry
  pub longest : (kept k).longest ≡ []
  pub closed : (kept k).closed ≡ []
