-- The room that each New finds.
use Rattle.hk_dispatch.proofs.RoomNews.{low_news_begin_quiet}
use Rattle.hk_dispatch.proofs.Whole.{used_within, high_news_find_room, low_news_find_room}
use Rattle.hk_dispatch.proofs.laws.cycles_end_in_time.Goals as goal

pub returns-clause-used : goal.returns-clause-used
returns-clause-used c = used_within

pub returns-clause-high : goal.returns-clause-high
returns-clause-high c = high_news_find_room

pub returns-clause-low_begin : goal.returns-clause-low_begin
returns-clause-low_begin c = low_news_begin_quiet

pub returns-clause-low : goal.returns-clause-low
returns-clause-low c = low_news_find_room
