-- The headline holds of the run of every admitted sheet: each sentence is a promise of sessions.
use Rattle.std.proofs.Common.{ℕ}
use Rattle.hk_words.specs.declared.geometry.Geometry.{Geometry}
use Rattle.hk_words.specs.Geometry.{HasSizes}
use Rattle.hk_plan.specs.AloneBy.{least_task}
use Rattle.hk_sheet.specs.declared.sheet.Sheet.{Sheet}
use Rattle.hk_sheet.specs.Faults.{sizes_of}
use Rattle.hk_admit.specs.declared.checked.Admitted.{Admitted}
use Rattle.hk_dispatch.specs.Session.{IsSession}
use Rattle.hk_dispatch.proofs.Promises.{run_is_interleaving, legal_in_any_order, history_is_legal, questions_are_answered, live_over_has_cause}
use Rattle.hk_dispatch.proofs.AloneEnds.{ends_are_alone}
use Rattle.hk_dispatch.proofs.InTime.{jobs_end_in_time}
use Rattle.hk_dispatch.proofs.Whole.{no_new_is_refused, used_within, session_is_replay, least_is_choice}
use Rattle.hk_top.specs.Headline.{Headline}

module _ (a : Admitted) (g : Geometry) (sizes : HasSizes g (sizes_of a.checked.sheet)) where
  abbrev sheet : Sheet
  sheet = a.checked.sheet

  abbrev work : ℕ
  work = a.checked.work

  abbrev attempt : ℕ
  attempt = a.checked.attempt

  abbrev busy : ℕ
  busy = a.checked.busy

  abbrev debt : ℕ
  debt = a.checked.debt

  session : IsSession g least_task sheet work attempt busy debt
  session = record { sizes = sizes; checked = a.checked.sound; choice_is = least_is_choice }

  pub headline : Headline g sheet a.responses
  headline = record {
    until_live_passes_its_limit = live_over_has_cause g least_task sheet work attempt busy debt session;
    ends_as_if_alone = ends_are_alone g least_task sheet work attempt busy debt session;
    within_response_and_deadline = jobs_end_in_time g sheet work attempt busy debt a.responses session a.in_time;
    no_allocation_refused = no_new_is_refused g least_task sheet work attempt busy debt session;
    cycle_ends_before_reserve_is_spent = used_within g least_task sheet work attempt busy debt session;
    one_legal_history = history_is_legal g least_task sheet work attempt busy debt session;
    questions_answered = questions_are_answered g least_task sheet work attempt busy debt session;
    outputs_and_ends = session_is_replay g least_task sheet work attempt busy debt session;
    whatever_the_interleaving = legal_in_any_order g;
    run_is_interleaving = run_is_interleaving g least_task sheet work attempt busy debt session;
  }
