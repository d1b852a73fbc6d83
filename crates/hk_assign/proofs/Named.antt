-- The timings of tasks in a row, and the words of the line for tasks that have no order.
use Rattle.std.proofs.Common.{◌≡◌, ◌∙◌, sym, ap, ℕ, ◌+◌, ◌<◌, ◌≤◌, List, [], ◌∷◌, ◌++◌, set, take, length, get_or, slice_index}
use Rattle.std.specs.Prelude.{codes}
use denote.Ref.{Bor}
use Rattle.std.proofs.lemmas.List.{get_or_default, take_more_set, map_push, map_more, take_all}
use Rattle.hk_rta.specs.declared.Timing.{Timing}
use Rattle.hk_sheet.specs.declared.sheet.High.{High}
use Rattle.hk_admit.specs.Analysis.{timings_of}
use Rattle.hk_front.specs.Text.{line}
use Rattle.hk_io.specs.Bytes.{texts}
use Rattle.hk_assign.specs.Sheets.{no_high, name_at, names_at}
use Rattle.hk_assign.specs.Tool.{order_line}

-- one timing more
pub timing_read : (tasks : List High) (row : List Timing) (k : ℕ) (task : High) → k < length row → k < length tasks → task ≡ get_or tasks k task → take k row ≡ timings_of (take k tasks)
    → take (k + 1) (set row k task.timing) ≡ timings_of (take (k + 1) tasks)
timing_read tasks row k task within short is so_far =
    take_more_set row k task.timing within
    ∙ (λ i. so_far i ++ (is i).timing ∷ [])
    ∙ sym (map_more (λ (t : High). t.timing) tasks k task short)

-- the words of the line for some tasks
abbrev pub words_of : List High → List ℕ → List (List ℕ)
words_of tasks places = codes "refused" ∷ codes "order" ∷ names_at tasks places

-- the name of the task that was read at a place
pub name_read : (tasks : List High) (place other : ℕ) (task : High) → place < length tasks → task ≡ get_or tasks place task → place ≡ other → task.name ≡ name_at tasks other
name_read tasks place other task within is same =
    ap (λ (t : High). t.name) (is ∙ get_or_default tasks place task no_high within) ∙ ap (name_at tasks) same

-- one name more
pub name_more : (tasks : List High) (words : List (Bor (List ℕ))) (places : List ℕ) (place count : ℕ) (name : Bor (List ℕ)) → count < length words → place < length places
    → name.now ≡ name_at tasks (slice_index places place) → texts (take count words) ≡ words_of tasks (take place places)
    → texts (take (count + 1) (set words count name)) ≡ words_of tasks (take (place + 1) places)
name_more tasks words places place count name room within is so_far =
    ap texts (take_more_set words count name room)
    ∙ map_push (λ (w : Bor (List ℕ)). w.now) (take count words) name
    ∙ (λ i. so_far i ++ is i ∷ [])
    ∙ ap (λ (names : List (List ℕ)). codes "refused" ∷ codes "order" ∷ names) (sym (map_more (name_at tasks) places place 0 within))

-- all names
pub all_named : (tasks : List High) (words : List (Bor (List ℕ))) (places : List ℕ) (place : ℕ) → length places ≤ place → texts words ≡ words_of tasks (take place places) → line (texts words) ≡ order_line (names_at tasks places)
all_named tasks words places place all is = ap line is ∙ ap (λ (l : List ℕ). order_line (names_at tasks l)) (take_all place places all)
