-- Laws of the shared heap, over its definitions alone.
use Rattle.std.specs.Prelude.{◌≡◌, false}
use Rattle.atomic_table.specs.Table.{State as TableState}
use Rattle.hk_words.specs.declared.geometry.Geometry.{Geometry}
use Rattle.hk_words.specs.declared.call.Call.{Call}
use Rattle.hk_words.specs.Calls.{RegistersFit}
use Rattle.hk_model.specs.Heap.{opening_of}
use Rattle.hk_model.specs.History.{Legal, after, is_question}
use Rattle.hk_model.specs.Replies.{reply_of}
use Rattle.hk_core.specs.Faults.{TellsPlain}
use Rattle.hk_core.specs.Lawful.{Lawful}
use Rattle.hk_core.specs.Run.{run_from_opening}
use Rattle.hk_table.specs.Knows.{PassView}
use Rattle.hk_table.specs.Rule.{InOneRun}
use Rattle.hk_table.specs.Deeds.{Stands, refused_by}
use Rattle.hk_table.specs.declared.view.View.{View}

-- where the rule holds, the words are the row of a lawful state, for the history of the one run, which is legal
abbrev pub WordsAreLawful : Type 0
WordsAreLawful = (g : Geometry) (s : TableState (Unit {0}) View) (h : InOneRun g s) → let r = run_from_opening g h.log in
    (s.words ≡ r.core.row) × Lawful r.core r.history × Legal (opening_of g) r.history

-- what a pass has seen is legal
abbrev pub SeenIsLegal : Type 0
SeenIsLegal = (g : Geometry) (p : PassView) → Stands g p → Legal (opening_of g) p.seen

-- a call of an idle pass is refused for what the heap that never collects answers after what the pass has seen, and one that
-- isn't refused finds its object and its field there
abbrev pub SeenTellsPlain : Type 0
SeenTellsPlain = (g : Geometry) (p : PassView) (call : Call) → Stands g p → p.flight.place ≡ 0 → is_question call ≡ false → RegistersFit g.registers call
    → TellsPlain (refused_by p call) (reply_of (after (opening_of g) p.seen) p.seat call)
