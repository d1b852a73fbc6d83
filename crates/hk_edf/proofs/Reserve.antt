-- What the collector owes stays within the analysis, and each New finds room: each sentence is a promise of sessions.
use Rattle.std.proofs.Common.{ℕ}
use Rattle.hk_words.specs.declared.geometry.Geometry.{Geometry}
use Rattle.hk_words.specs.Geometry.{HasSizes}
use Rattle.hk_sheet.specs.declared.sheet.Sheet.{Sheet}
use Rattle.hk_sheet.specs.Faults.{sizes_of}
use Rattle.hk_admit.specs.Facts.{IsChecked}
use Rattle.hk_dispatch.specs.Session.{IsSession}
use Rattle.hk_dispatch.proofs.Promises.{used_is_covered, useful_is_within, no_task_is_spent, never_waits}
use Rattle.hk_dispatch.proofs.RoomNews.{low_news_begin_quiet}
use Rattle.hk_dispatch.proofs.Whole.{debt_within, quiet_again, high_news_find_room, low_news_find_room}
use Rattle.hk_edf.specs.Earliest.{earliest_row}
use Rattle.hk_edf.specs.Reserve.{Reserve, ReserveHolds}
use Rattle.hk_edf.proofs.LeastRow.{earliest_is_choice}

module _ (g : Geometry) (sheet : Sheet) (work attempt busy debt : ℕ) (sizes : HasSizes g (sizes_of sheet)) (checked : IsChecked sheet work attempt busy debt) where
  session : IsSession g earliest_row sheet work attempt busy debt
  session = record { sizes = sizes; checked = checked; choice_is = earliest_is_choice }

  pub reserve : Reserve g sheet work busy debt
  reserve = record {
    used_is_paid = used_is_covered g earliest_row sheet work attempt busy debt session;
    useful_events_stay_within = useful_is_within g earliest_row sheet work attempt busy debt session;
    debt_stays_within = debt_within g earliest_row sheet work attempt busy debt session;
    quiet_again = quiet_again g earliest_row sheet work attempt busy debt session;
    high_news_find_room = high_news_find_room g earliest_row sheet work attempt busy debt session;
    low_news_begin_quiet = low_news_begin_quiet g earliest_row sheet work attempt busy debt session;
    low_news_find_room = low_news_find_room g earliest_row sheet work attempt busy debt session;
    no_task_is_spent = no_task_is_spent g earliest_row sheet work attempt busy debt session;
    collector_never_waits = never_waits g earliest_row sheet work attempt busy debt session;
  }

pub reserve_holds : ReserveHolds
reserve_holds g sheet work attempt busy debt sizes checked meets = reserve g sheet work attempt busy debt sizes checked
