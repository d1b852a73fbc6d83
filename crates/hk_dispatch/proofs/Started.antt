-- The tasks of a session before its first tick, one after another.
use Rattle.std.proofs.Common.{◌≡◌, ℕ, ◌+◌, ◌<◌, List, [], ◌∷◌, ◌++◌, length, sym, ◌∙◌, ap, subst, arith, inl, inr, get_or, length-append}
use Rattle.std.proofs.lemmas.Bool.{cases_lt}
use Rattle.std.proofs.lemmas.List.{get_or_append_left, get_or-append-add}
use Rattle.hk_sheet.specs.declared.sheet.Sheet.{Sheet}
use Rattle.hk_dispatch.specs.declared.run.TaskRun.{TaskRun}
use Rattle.hk_dispatch.specs.Tasks.{tasks_of, task_at}
use Rattle.hk_dispatch.specs.Moment.{no_course}
use Rattle.hk_dispatch.specs.TaskRuns.{ShowsCourse}
use Rattle.hk_dispatch.specs.Opened.{ShowsStart}

-- so many tasks have started
abbrev pub Started : Sheet → List TaskRun → ℕ → Type 0
Started sheet runs k = (seat : ℕ) (d : TaskRun) → seat < k → ShowsCourse (task_at sheet seat) no_course (get_or runs seat d)

pub start_more : (sheet : Sheet) (runs : List TaskRun) (k : ℕ) (run : TaskRun) → length runs ≡ k → Started sheet runs k → ShowsCourse (task_at sheet k) no_course run
    → (length (runs ++ run ∷ []) ≡ k + 1) × Started sheet (runs ++ run ∷ []) (k + 1)
start_more sheet runs k run all each own = (
  length-append runs (run ∷ []) ∙ ap (λ n. n + 1) all,
  (λ seat d lt. elim (cases_lt seat k) [
    | inl before ↦ subst (λ (x : TaskRun). ShowsCourse (task_at sheet seat) no_course x) (sym (get_or_append_left runs (run ∷ []) d seat (omega (arith, before, all)))) (each seat d before)
    | inr here ↦
        let at : seat ≡ length runs + 0 = omega (arith, lt, here, all) in
        let same : k ≡ seat = omega (arith, lt, here) in
        subst (λ (x : TaskRun). ShowsCourse (task_at sheet seat) no_course x) (sym (ap (λ i. get_or (runs ++ run ∷ []) i d) at ∙ get_or-append-add runs (run ∷ []) 0 d))
        (subst (λ s. ShowsCourse (task_at sheet s) no_course run) same own)
  ]),
)

pub starts_all : (sheet : Sheet) (runs : List TaskRun) (k : ℕ) → k ≡ length (tasks_of sheet) → length runs ≡ k → Started sheet runs k → ShowsStart sheet runs
starts_all sheet runs k is all each = record { all = all ∙ is; each = λ seat d lt. each seat d (subst (λ n. seat < n) (sym is) lt) }
