-- An admitted sheet is run to its end, where no more words are live than the sheet declares.
use Rattle.std.proofs.Common.{◌≡◌, ℕ, suc, ◌≤◌, List, ◌++◌, refl, arith}
use Rattle.hk_words.specs.declared.geometry.Geometry.{Geometry}
use Rattle.hk_words.specs.Geometry.{HasSizes}
use Rattle.hk_io.specs.declared.Status.TheVariants as status
use Rattle.hk_sheet.specs.declared.sheet.Sheet.{Sheet}
use Rattle.hk_sheet.specs.Faults.{sizes_of}
use Rattle.hk_admit.specs.declared.checked.Checked.{Checked}
use Rattle.hk_dispatch.specs.declared.tick.Tick.TheVariants as tick
use Rattle.hk_dispatch.specs.Session.{IsTick}
use Rattle.hk_dispatch.specs.Told.{told}
use Rattle.hk_top.specs.declared.report.Form.TheVariants.{Plain}
use Rattle.hk_top.specs.declared.report.Finish.{Finish}
use Rattle.hk_top.specs.declared.report.Finish.TheVariants as finish
use Rattle.hk_top.specs.Report.{ticks_text, last_lines, EndsSo, at_horizon, live_over}
use Rattle.hk_top.proofs.OneRun.{found}
use Rattle.hk_top.proofs.RunEnds.{ends_from}
use Rattle.hk_edf.specs.Earliest.{earliest_row}
use Rattle.hk_edf.specs.Refusals.{MeetsDemand}
use Rattle.hk_edf.specs.Text.{analysis_of}
use Rattle.hk_edf.specs.Tool.{LiveIsWithin, IsReport, AdmittedIsDone}
use Rattle.hk_edf.proofs.Headline.{headline}
use Rattle.hk_edf.proofs.Reserve.{reserve}
use Rattle.hk_edf.proofs.RunText.{opened}

module _ (c : Checked) (meets : MeetsDemand c.sheet c.busy) (g : Geometry) (sizes : HasSizes g (sizes_of c.sheet)) (few : LiveIsWithin g c.sheet) where
  abbrev sheet : Sheet
  sheet = c.sheet

  not_live : (at words : ℕ) → IsTick g earliest_row sheet at → told g earliest_row sheet at ≡ tick.LiveOver words → ⊥
  not_live at words t answer =
      let within = t.within in
      let le : suc at ≤ sheet.ticks = omega (arith, within) in
      few (suc at) le ((headline g sheet c.work c.attempt c.busy c.debt sizes c.sound meets).until_live_passes_its_limit (suc at) words le (found g earliest_row sheet at words t answer)).1

  by_end : (end : Finish) (ticks : ℕ) → EndsSo g earliest_row sheet end ticks → (text : List ℕ) × IsReport c status.Done text
  by_end end ticks (at_horizon none) =
      let run = ticks_text Plain g earliest_row sheet sheet.ticks ++ last_lines g earliest_row sheet finish.AtEnd sheet.ticks in (
        analysis_of c ++ run,
        record {
          geometry = g;
          sizes = sizes;
          headline = headline g sheet c.work c.attempt c.busy c.debt sizes c.sound meets;
          reserve = reserve g sheet c.work c.attempt c.busy c.debt sizes c.sound;
          finish = finish.AtEnd;
          ended_is = refl;
          run = run;
          run_is = record { ticks = sheet.ticks; ends = at_horizon none; is = refl };
          text_is = refl;
        },
      )
  by_end end ticks (live_over at words t answer) = absurd (not_live at words t answer)

  report_done : (text : List ℕ) × IsReport c status.Done text
  report_done = let e = ends_from g earliest_row sheet 0 (omega arith) (opened g earliest_row sheet) in by_end e.end e.ticks e.so

pub admitted_is_done : AdmittedIsDone
admitted_is_done bytes c g is meets sizes few =
    let r = report_done c meets g sizes few in
    (r.0, record { checked = c; is = is; meets = meets; report = r.1 })
