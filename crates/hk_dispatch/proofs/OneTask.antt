-- The run of a task shows its course past a statement and past the end of a job.
use Rattle.std.proofs.Common.{◌≡◌, ◌≢◌, ℕ, ◌+◌, true, false, length, refl, sym, ◌∙◌, ap, Option, None}
use Rattle.std.proofs.lemmas.Bool.{eq-eqb, ne_eqb}
use Rattle.hk_words.specs.declared.call.Reply.{Reply}
use Rattle.hk_script.specs.declared.walk.Walk.{Walk}
use Rattle.hk_script.specs.Walks.{walk_after}
use Rattle.hk_dispatch.specs.declared.run.TaskRun.{TaskRun}
use Rattle.hk_dispatch.specs.declared.tick.End.{End}
use Rattle.hk_dispatch.specs.Tasks.{Task}
use Rattle.hk_dispatch.specs.Moment.{Course}
use Rattle.hk_dispatch.specs.Ticks.{is_over, next_job, passed}
use Rattle.hk_dispatch.specs.Told.{ended, end_past}
use Rattle.hk_dispatch.specs.TaskRuns.{ShowsCourse}

-- a run past a statement
abbrev pub past : TaskRun → Walk → TaskRun
past run walk = record { job = run.job; arrival = run.arrival; ready = run.ready; walk = walk; spent = 0; had = run.had + 1; latest = run.latest }

module _ (task : Task) (run : TaskRun) (course : Course) (s : ShowsCourse task course run) (reply : Reply) (tick words : ℕ) (walk : Walk) (is : walk ≡ walk_after task.script run.walk reply) where
  abbrev next_walk : Walk
  next_walk = walk_after task.script course.walk reply

  walk_is : walk ≡ next_walk
  walk_is = is ∙ ap (λ w. walk_after task.script w reply) s.walk

  shows_past : (took : ℕ) → ShowsCourse task (record course { walk = next_walk; spent = 0; had = course.had + 1; took = took }) (past run walk)
  shows_past took = record { job = s.job; arrival = s.arrival; ready = s.ready; walk = walk_is; spent = refl; had = ap (λ k. k + 1) s.had; latest = s.latest }

  -- the job goes on at the next statement
  pub shows_on : walk.place ≢ length task.script → ShowsCourse task (passed task course tick words next_walk) (past run walk)
  shows_on more =
      let going : is_over task next_walk ≡ false = ap (is_over task) (sym walk_is) ∙ ne_eqb walk.place (length task.script) more in
      rw going (shows_past (course.took + words))

  -- or it is over
  pub shows_over : walk.place ≡ length task.script → (after : TaskRun)
      → ((c : Course) → ShowsCourse task c (past run walk) → ShowsCourse task (next_job task c tick) after)
      → ShowsCourse task (passed task course tick words next_walk) after
  shows_over last after next =
      let over : is_over task next_walk ≡ true = ap (is_over task) (sym walk_is) ∙ eq-eqb walk.place (length task.script) last in
      rw over (next (record course { walk = next_walk; spent = 0; had = course.had + 1; took = course.took }) (shows_past course.took))

-- the end that this is
module _ (task : Task) (job tick : ℕ) (walk next_walk : Walk) (is : walk ≡ next_walk) where
  pub end_over : walk.place ≡ length task.script → (o : Option End) → o ≡ ended job (task.arrival job) tick None → o ≡ end_past task job tick next_walk
  end_over last o e =
      let over : is_over task next_walk ≡ true = ap (is_over task) (sym is) ∙ eq-eqb walk.place (length task.script) last in
      rw over e

  pub end_on : walk.place ≢ length task.script → None ≡ end_past task job tick next_walk
  end_on more =
      let going : is_over task next_walk ≡ false = ap (is_over task) (sym is) ∙ ne_eqb walk.place (length task.script) more in
      rw going refl
