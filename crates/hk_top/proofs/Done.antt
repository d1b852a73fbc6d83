-- What is asked for of an admitted sheet is done to its end, where no more words are live than the sheet declares.
use Rattle.std.proofs.Common.{◌≡◌, ℕ, suc, ◌≤◌, false, true, List, ◌++◌, Option, Some, None, refl, sym, subst, arith}
use Rattle.hk_words.specs.declared.geometry.Geometry.{Geometry}
use Rattle.hk_words.specs.Geometry.{HasSizes}
use Rattle.hk_io.specs.declared.Status.TheVariants as status
use Rattle.hk_plan.specs.AloneBy.{least_task}
use Rattle.hk_sheet.specs.declared.sheet.Sheet.{Sheet}
use Rattle.hk_sheet.specs.Faults.{sizes_of}
use Rattle.hk_admit.specs.declared.checked.Admitted.{Admitted}
use Rattle.hk_gen.specs.Made.{made}
use Rattle.hk_gen.proofs.Drawn.{made_admitted}
use Rattle.hk_dispatch.specs.Session.{IsTick}
use Rattle.hk_dispatch.specs.Told.{told}
use Rattle.hk_dispatch.specs.declared.tick.Tick.TheVariants as tick
use Rattle.hk_front.specs.Input.{IsSheetOf}
use Rattle.hk_top.specs.declared.report.Form.{Form}
use Rattle.hk_top.specs.declared.report.Form.TheVariants as form
use Rattle.hk_top.specs.declared.report.Finish.{Finish}
use Rattle.hk_top.specs.declared.report.Finish.TheVariants as finish
use Rattle.hk_top.specs.declared.tool.Command.{Command}
use Rattle.hk_top.specs.declared.tool.Command.TheVariants as command
use Rattle.hk_top.specs.Report.{ticks_text, last_lines, EndsSo, at_horizon, live_over}
use Rattle.hk_top.specs.Headline.{LiveIsWithin}
use Rattle.hk_top.specs.Tool.{analysis_of, needs_input, IsReport, CommandCallsFor}
use Rattle.hk_top.proofs.Headline.{headline}
use Rattle.hk_top.proofs.OneRun.{found}
use Rattle.hk_top.proofs.RunEnds.{Ends, ends_from, opened}

module _ (a : Admitted) (g : Geometry) (sizes : HasSizes g (sizes_of a.checked.sheet)) where
  abbrev sheet : Sheet
  sheet = a.checked.sheet

  module _ (f : Form) (few : LiveIsWithin g sheet) where
    not_live : (at words : ℕ) → IsTick g least_task sheet at → told g least_task sheet at ≡ tick.LiveOver words → ⊥
    not_live at words t answer =
        let within = t.within in
        let le : suc at ≤ sheet.ticks = omega (arith, within) in
        few (suc at) le ((headline a g sizes).until_live_passes_its_limit (suc at) words le (found g least_task sheet at words t answer)).1

    reported : Ends g least_task sheet 0 → (text : List ℕ) × IsReport f a status.Done text
    reported e = by_end e.end e.ticks e.so
      where
        by_end : (end : Finish) (ticks : ℕ) → EndsSo g least_task sheet end ticks → (text : List ℕ) × IsReport f a status.Done text
        by_end end ticks (at_horizon none) =
            let run = ticks_text f g least_task sheet sheet.ticks ++ last_lines g least_task sheet finish.AtEnd sheet.ticks in (
              analysis_of a ++ run,
              record {
                geometry = g;
                sizes = sizes;
                headline = headline a g sizes;
                finish = finish.AtEnd;
                ended_is = refl;
                run = run;
                run_is = record { ticks = sheet.ticks; ends = at_horizon none; is = refl };
                text_is = refl;
              },
            )
        by_end end ticks (live_over at words t answer) = absurd (not_live at words t answer)

    -- the report of a run that comes to its horizon
    pub report_done : (text : List ℕ) × IsReport f a status.Done text
    report_done = reported (ends_from g least_task sheet 0 (omega arith) (opened g least_task sheet))

-- what is asked for of an admitted sheet
pub done : (c : Option Command) (bytes : List ℕ) (a : Admitted) (g : Geometry) → needs_input c ≡ true → IsSheetOf bytes a.checked.sheet → HasSizes g (sizes_of a.checked.sheet)
    → LiveIsWithin g a.checked.sheet → (text : List ℕ) × CommandCallsFor c bytes status.Done text
done None bytes a g reads is sizes few = absurd (let e : false ≡ true = reads in cc)
done (Some command.Check) bytes a g reads is sizes few = (analysis_of a, record { admitted = a; is = is; answer = record { ended_is = refl; text_is = refl } })
done (Some (command.Run f)) bytes a g reads is sizes few = let r = report_done a g sizes f few in (r.0, record { admitted = a; is = is; answer = r.1 })
done (Some (command.Make n)) bytes a g reads is sizes few = absurd (let e : false ≡ true = reads in cc)
done (Some (command.Simulate n)) bytes a g reads is sizes few = absurd (let e : false ≡ true = reads in cc)

-- the sheet that is made for a number is one that is admitted
admitted_made : (n : ℕ) → (a : Admitted) × (a.checked.sheet ≡ made n)
admitted_made n =
    let m = made_admitted n in
    (record { checked = record { sheet = made n; work = 16813; attempt = 34; busy = m.busy; debt = m.debt; sound = m.checked }; responses = m.responses; in_time = m.in_time }, refl)

pub simulated : (bytes : List ℕ) (n : ℕ) (g : Geometry) → HasSizes g (sizes_of (made n)) → LiveIsWithin g (made n)
    → (text : List ℕ) × CommandCallsFor (Some (command.Simulate n)) bytes status.Done text
simulated bytes n g sizes few =
    let a = admitted_made n in
    let r = report_done a.0 g (subst (λ (s : Sheet). HasSizes g (sizes_of s)) (sym a.1) sizes) form.Quiet (subst (λ (s : Sheet). LiveIsWithin g s) (sym a.1) few) in
    (r.0, record { admitted = a.0; is = a.1; answer = r.1 })
