use Rattle.hk_model.proofs.Heaps.{IsHeap-opening, IsHeap-heap_after, HoldsBoard-opening, HoldsBoard-heap_after}
use Rattle.hk_model.proofs.Histories.{IsHeap-after}
use Rattle.hk_model.proofs.Replies.{never_full}
use Rattle.hk_model.proofs.laws.what_calls_keep.Goals as goal

pub returns-clause-opening : goal.returns-clause-opening
returns-clause-opening c = IsHeap-opening

pub returns-clause-calls : goal.returns-clause-calls
returns-clause-calls c = IsHeap-heap_after

pub returns-clause-histories : goal.returns-clause-histories
returns-clause-histories c = IsHeap-after

pub returns-clause-opening_board : goal.returns-clause-opening_board
returns-clause-opening_board c = HoldsBoard-opening

pub returns-clause-board : goal.returns-clause-board
returns-clause-board c = HoldsBoard-heap_after

pub returns-clause-never_full : goal.returns-clause-never_full
returns-clause-never_full c = never_full
