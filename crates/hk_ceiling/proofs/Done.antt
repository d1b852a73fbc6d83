-- A sheet that is admitted with its sections is run to its end, where no more words are live than the sheet declares.
use Rattle.std.proofs.Common.{◌≡◌, ℕ, suc, ◌≤◌, List, ◌++◌, refl, arith}
use Rattle.hk_words.specs.declared.geometry.Geometry.{Geometry}
use Rattle.hk_words.specs.Geometry.{HasSizes}
use Rattle.hk_io.specs.declared.Status.TheVariants as status
use Rattle.hk_plan.specs.declared.Ready.{Ready}
use Rattle.hk_sheet.specs.declared.sheet.Sheet.{Sheet}
use Rattle.hk_sheet.specs.Faults.{sizes_of}
use Rattle.hk_dispatch.specs.declared.tick.Tick.TheVariants as tick
use Rattle.hk_dispatch.specs.Session.{IsTick}
use Rattle.hk_dispatch.specs.Told.{told}
use Rattle.hk_top.specs.declared.report.Form.TheVariants.{Plain}
use Rattle.hk_top.specs.declared.report.Finish.{Finish}
use Rattle.hk_top.specs.declared.report.Finish.TheVariants as finish
use Rattle.hk_top.specs.Report.{ticks_text, last_lines, EndsSo, at_horizon, live_over}
use Rattle.hk_top.proofs.OneRun.{found}
use Rattle.hk_top.proofs.RunEnds.{ends_from, opened}
use Rattle.hk_ceiling.specs.declared.admitted.Held.{Held}
use Rattle.hk_ceiling.specs.Choice.{by_ceilings}
use Rattle.hk_ceiling.specs.Headline.{Headline, LiveIsWithin}
use Rattle.hk_ceiling.specs.Tool.{numbered_of, analysis_of, IsReport, AdmittedIsDone}
use Rattle.hk_ceiling.proofs.Headline.{headline_holds}
use Rattle.hk_ceiling.proofs.Sessions.{ceilings_choose}

module _ (held : Held) (g : Geometry) (sizes : HasSizes g (sizes_of held.checked.sheet)) (few : LiveIsWithin g held.checked.sheet (numbered_of held)) where
  abbrev sheet : Sheet
  sheet = held.checked.sheet

  abbrev choice : List Ready → ℕ
  choice rows = by_ceilings (numbered_of held) rows

  headline : Headline g sheet (numbered_of held) held.responses
  headline = headline_holds g sheet held.sections held.checked.work held.checked.attempt held.checked.busy held.checked.debt held.responses sizes held.checked.sound held.kept

  not_live : (at words : ℕ) → IsTick g choice sheet at → told g choice sheet at ≡ tick.LiveOver words → ⊥
  not_live at words t answer =
      let within = t.within in
      let le : suc at ≤ sheet.ticks = omega (arith, within) in
      few (suc at) le (headline.until_live_passes_its_limit (suc at) words le (found g choice sheet at words t answer)).1

  by_end : (end : Finish) (ticks : ℕ) → EndsSo g choice sheet end ticks → (text : List ℕ) × IsReport held status.Done text
  by_end end ticks (at_horizon none) =
      let run = ticks_text Plain g choice sheet sheet.ticks ++ last_lines g choice sheet finish.AtEnd sheet.ticks in (
        analysis_of held ++ run,
        record {
          geometry = g;
          sizes = sizes;
          session = record { sizes = sizes; checked = held.checked.sound; choice_is = ceilings_choose (numbered_of held) };
          headline = headline;
          finish = finish.AtEnd;
          ended_is = refl;
          run = run;
          run_is = record { ticks = sheet.ticks; ends = at_horizon none; is = refl };
          text_is = refl;
        },
      )
  by_end end ticks (live_over at words t answer) = absurd (not_live at words t answer)

  report_done : (text : List ℕ) × IsReport held status.Done text
  report_done = let e = ends_from g choice sheet 0 (omega arith) (opened g choice sheet) in by_end e.end e.ticks e.so

pub admitted_is_done : AdmittedIsDone
admitted_is_done words bytes held g form same is sizes few =
    let r = report_done held g sizes few in
    (r.0, (form, record { held = held; sections_are = same; is = is; report = r.1 }))
