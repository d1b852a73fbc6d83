-- The promises of sessions that stand on the busy interval: the debt, the room that each New finds, and the replay on the heap
-- that never collects.
use Rattle.std.proofs.Common.{arith}
use Rattle.hk_plan.specs.AloneBy.{least_task}
use Rattle.hk_dispatch.specs.Rows.{IsChoice}
use Rattle.hk_dispatch.specs.Laws.{DebtWithin, QuietAgain, UsedWithin, HighNewsFindRoom, LowNewsFindRoom, NoNewIsRefused, SessionIsReplay}
use Rattle.hk_dispatch.proofs.DebtLaws as debts
use Rattle.hk_dispatch.proofs.LowTicks.{low_ticks_fall, low_waits}
use Rattle.hk_dispatch.proofs.Owed.{OwedForNews, NoneFull}
use Rattle.hk_dispatch.proofs.RoomNews as room
use Rattle.hk_dispatch.proofs.RoomFull as full
use Rattle.hk_dispatch.proofs.SessionReplay as replay

pub debt_within : DebtWithin
debt_within = debts.debt_within low_ticks_fall low_waits

pub quiet_again : QuietAgain
quiet_again = debts.quiet_again low_ticks_fall low_waits

owed_for_news : OwedForNews
owed_for_news = debts.owed_for_news low_ticks_fall low_waits

pub used_within : UsedWithin
used_within = room.used_within debt_within

pub high_news_find_room : HighNewsFindRoom
high_news_find_room = room.high_news_find_room debt_within owed_for_news

pub low_news_find_room : LowNewsFindRoom
low_news_find_room = room.low_news_find_room debt_within

none_full : NoneFull
none_full = full.none_full debt_within owed_for_news

pub no_new_is_refused : NoNewIsRefused
no_new_is_refused = full.no_new_is_refused debt_within owed_for_news

pub session_is_replay : SessionIsReplay
session_is_replay = replay.session_is_replay none_full

-- the choice of the least task is one
pub least_is_choice : IsChoice least_task
least_is_choice = λ rows some. omega (arith, some)
