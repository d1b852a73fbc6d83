-- The headline holds of the run of every admitted sheet: each sentence is a promise of sessions.
use Rattle.std.proofs.Common.{ℕ}
use Rattle.hk_words.specs.declared.geometry.Geometry.{Geometry}
use Rattle.hk_words.specs.Geometry.{HasSizes}
use Rattle.hk_sheet.specs.declared.sheet.Sheet.{Sheet}
use Rattle.hk_sheet.specs.Faults.{sizes_of}
use Rattle.hk_admit.specs.Facts.{IsChecked}
use Rattle.hk_dispatch.specs.Session.{IsSession}
use Rattle.hk_dispatch.proofs.AloneEnds.{ends_are_alone}
use Rattle.hk_dispatch.proofs.Promises.{run_is_interleaving, legal_in_any_order, history_is_legal, questions_are_answered, live_over_has_cause}
use Rattle.hk_dispatch.proofs.Whole.{no_new_is_refused, used_within, session_is_replay}
use Rattle.hk_edf.specs.Earliest.{earliest_row}
use Rattle.hk_edf.specs.Refusals.{MeetsDemand}
use Rattle.hk_edf.specs.Headline.{Headline, HeadlineHolds}
use Rattle.hk_edf.proofs.LeastRow.{earliest_is_choice}
use Rattle.hk_edf.proofs.Sessions.{jobs_end_by_deadlines}

module _ (g : Geometry) (sheet : Sheet) (work attempt busy debt : ℕ) (sizes : HasSizes g (sizes_of sheet)) (checked : IsChecked sheet work attempt busy debt) (meets : MeetsDemand sheet busy) where
  session : IsSession g earliest_row sheet work attempt busy debt
  session = record { sizes = sizes; checked = checked; choice_is = earliest_is_choice }

  pub headline : Headline g sheet
  headline = record {
    until_live_passes_its_limit = live_over_has_cause g earliest_row sheet work attempt busy debt session;
    ends_as_if_alone = ends_are_alone g earliest_row sheet work attempt busy debt session;
    by_deadline = jobs_end_by_deadlines g sheet work attempt busy debt session meets;
    no_allocation_refused = no_new_is_refused g earliest_row sheet work attempt busy debt session;
    cycle_ends_before_reserve_is_spent = used_within g earliest_row sheet work attempt busy debt session;
    one_legal_history = history_is_legal g earliest_row sheet work attempt busy debt session;
    questions_answered = questions_are_answered g earliest_row sheet work attempt busy debt session;
    outputs_and_ends = session_is_replay g earliest_row sheet work attempt busy debt session;
    whatever_the_interleaving = legal_in_any_order g;
    run_is_interleaving = run_is_interleaving g earliest_row sheet work attempt busy debt session;
  }

pub headline_holds : HeadlineHolds
headline_holds g sheet work attempt busy debt sizes checked meets = headline g sheet work attempt busy debt sizes checked meets
