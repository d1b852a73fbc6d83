-- The lines of the program, beside those of any report.
use Rattle.std.specs.Prelude.{ℕ, List, [], ◌∷◌, ◌++◌, codes, decimal, flat_map}
use Rattle.hk_sheet.specs.declared.sheet.High.{High}
use Rattle.hk_sheet.specs.declared.sheet.Sheet.{Sheet}
use Rattle.hk_admit.specs.declared.checked.Checked.{Checked}
use Rattle.hk_front.specs.Text.{line}
use Rattle.hk_top.specs.Text.{heap_line}
use Rattle.hk_top.specs.Refusals.{refused_words}
use Rattle.hk_top.specs.Report.{low_lines}
use Rattle.hk_edf.specs.declared.refused.EdfRefused.{EdfRefused}
use Rattle.hk_edf.specs.declared.refused.EdfRefused.TheVariants.{Heap, Jitter, Demand, Memory}

-- the program takes no words
abbrev pub usage_line : List ℕ
usage_line = line (codes "usage: hk_edf" ∷ [])

-- a high task's deadline, in ticks
abbrev pub line_of_deadline : High → List ℕ
line_of_deadline task = line (codes "high" ∷ task.name ∷ codes "deadline" ∷ decimal task.timing.deadline ∷ [])

abbrev pub deadline_lines : List High → List ℕ
deadline_lines tasks = flat_map line_of_deadline tasks

-- the analysis: the heap, the deadline of each high task, and the low tasks
unfoldable pub edf_analysis : Sheet → (work attempt busy debt : ℕ) → List ℕ
edf_analysis sheet work attempt busy debt = heap_line work attempt busy debt ++ deadline_lines sheet.high ++ low_lines sheet.low

abbrev pub analysis_of : Checked → List ℕ
analysis_of c = edf_analysis c.sheet c.work c.attempt c.busy c.debt

-- why a sheet isn't admitted; want of memory is no reason that is told
abbrev pub edf_words : EdfRefused → List (List ℕ)
edf_words (Heap refused) = refused_words refused
edf_words (Jitter task) = codes "jitter" ∷ task ∷ []
edf_words (Demand t) = codes "demand" ∷ decimal t ∷ []
edf_words Memory = []

abbrev pub edf_line : EdfRefused → List ℕ
edf_line why = line (codes "refused" ∷ edf_words why)
