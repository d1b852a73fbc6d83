-- The headline holds of every sheet that is admitted with its sections: each sentence is a promise of sessions.
use Rattle.std.proofs.Common.{ℕ, List}
use Rattle.hk_words.specs.declared.geometry.Geometry.{Geometry}
use Rattle.hk_words.specs.Geometry.{HasSizes}
use Rattle.hk_plan.specs.declared.Ready.{Ready}
use Rattle.hk_sheet.specs.declared.sheet.Sheet.{Sheet}
use Rattle.hk_sheet.specs.Faults.{sizes_of}
use Rattle.hk_admit.specs.Facts.{IsChecked}
use Rattle.hk_dispatch.specs.Session.{IsSession}
use Rattle.hk_dispatch.proofs.Promises.{run_is_interleaving, legal_in_any_order, history_is_legal, questions_are_answered, live_over_has_cause}
use Rattle.hk_dispatch.proofs.AloneEnds.{ends_are_alone}
use Rattle.hk_dispatch.proofs.Whole.{no_new_is_refused, used_within, session_is_replay}
use Rattle.hk_ceiling.specs.declared.ceilings.TaskSection.{TaskSection}
use Rattle.hk_ceiling.specs.declared.told.Section.{Section}
use Rattle.hk_ceiling.specs.Admission.{IsHeld}
use Rattle.hk_ceiling.specs.Choice.{by_ceilings}
use Rattle.hk_ceiling.specs.Headline.{Headline, HeadlineHolds}
use Rattle.hk_ceiling.specs.Sessions.{IsCeilingSession}
use Rattle.hk_ceiling.specs.Told.{all_numbered}
use Rattle.hk_ceiling.proofs.Sessions.{ceilings_choose, one_holder_at_a_time, held_up_by_one_section, jobs_end_within}

module _ (g : Geometry) (sheet : Sheet) (sections : List Section) (work attempt busy debt : ℕ) (responses : List ℕ)
    (sizes : HasSizes g (sizes_of sheet)) (checked : IsChecked sheet work attempt busy debt) (held : IsHeld sheet sections responses) where
  abbrev numbered : List TaskSection
  numbered = all_numbered sheet.high sections

  abbrev choice : List Ready → ℕ
  choice rows = by_ceilings numbered rows

  with_sections : IsCeilingSession g numbered sheet work attempt busy debt
  with_sections = record { sizes = sizes; checked = checked; none_wrong = held.none_wrong }

  session : IsSession g choice sheet work attempt busy debt
  session = record { sizes = sizes; checked = checked; choice_is = ceilings_choose numbered }

  headline : Headline g sheet numbered responses
  headline = record {
    until_live_passes_its_limit = live_over_has_cause g choice sheet work attempt busy debt session;
    one_holder = one_holder_at_a_time g numbered sheet work attempt busy debt with_sections;
    held_up_once = held_up_by_one_section g numbered sheet work attempt busy debt with_sections;
    ends_as_if_alone = ends_are_alone g choice sheet work attempt busy debt session;
    within_response_and_deadline = jobs_end_within g numbered sheet work attempt busy debt responses with_sections held.still held.in_time;
    no_allocation_refused = no_new_is_refused g choice sheet work attempt busy debt session;
    cycle_ends_before_reserve_is_spent = used_within g choice sheet work attempt busy debt session;
    one_legal_history = history_is_legal g choice sheet work attempt busy debt session;
    questions_answered = questions_are_answered g choice sheet work attempt busy debt session;
    outputs_and_ends = session_is_replay g choice sheet work attempt busy debt session;
    whatever_the_interleaving = legal_in_any_order g;
    run_is_interleaving = run_is_interleaving g choice sheet work attempt busy debt session;
  }

pub headline_holds : HeadlineHolds
headline_holds g sheet sections work attempt busy debt responses sizes checked held = headline g sheet sections work attempt busy debt responses sizes checked held
