-- What the tables of a document say, and what is judged of it, are the document's sheet and its first fault.
use Rattle.std.proofs.Common.{◌≡◌, ℕ, Bool, true, false, List, [], ◌∷◌, ◌++◌, map, codes, refl, ap, sym, ◌∙◌}
use Rattle.std.proofs.lemmas.List.{map-append}
use Rattle.toml.specs.Data.{Members}
use Rattle.hk_sheet.specs.declared.raw.RawSheet.{RawSheet}
use Rattle.hk_sheet.specs.declared.raw.RawTask.{RawTask}
use Rattle.hk_sheet.specs.declared.sheet.HeapKeys.{HeapKeys}
use Rattle.hk_sheet.specs.Rules.{Rule, text, needs, keys_in, has_list, arrival_rules, time_rules, job_rules, task_rules}
use Rattle.hk_sheet.specs.Reading.{text_at, timing_in, script_in, high_in, low_in, highs_of, lows_of, heap_of, sheet_in}
use Rattle.hk_sheet.specs.Faults.{or_else, first_of, unknown_fault, fault_of_key, fault_of_keys, fault_of_table, faults_of_names, fault_of_high_arrivals, fault_of_low_arrivals, fault_of_script, fault_of_geometry, fault_of_contents}
use Rattle.hk_sheet.specs.Raw.{times_in, raw_task, IsRaw, highs_among, lows_among, raw_names, sheet_of_raw, gap_fault, script_fault, judged_fault}
use Rattle.hk_sheet.proofs.FaultOrder.{first_of-append}

-- THE TABLE OF A TASK

module _ (path : List ℕ) (entries : Members) where
  keys_then : (rules more : List Rule) → fault_of_keys path entries (rules ++ more) ≡ or_else (fault_of_keys path entries rules) (fault_of_keys path entries more)
  keys_then rules more = ap first_of (map-append (fault_of_key path entries) rules more) ∙ first_of-append (map (fault_of_key path entries) rules) (map (fault_of_key path entries) more)

  -- its faults part by part, where these are its keys
  pub task_parts : (high : Bool) (ticks : ℕ) (listed : Bool) (own last : List (List ℕ)) → ((es : Members) → own ≡ keys_in (needs (codes "name") text ∷ time_rules high es)) → ((run : ℕ) → last ≡ keys_in (job_rules run listed)) → listed ≡ has_list entries
      → fault_of_table path (task_rules high ticks entries) entries
      ≡ or_else (unknown_fault path (own ++ last) entries)
      (or_else (fault_of_key path entries (needs (codes "name") text))
      (or_else (fault_of_keys path entries (time_rules high entries))
      (or_else (fault_of_keys path entries (arrival_rules ticks (has_list entries)))
      (fault_of_keys path entries (needs (codes "script") text ∷ [])))))
  unfolding fault_of_table task_rules
  task_parts high ticks listed own last own_are last_are is =
      let jobs = job_rules ticks (has_list entries) in
      let keys = sym (map-append (λ (rule : Rule). rule.key) (needs (codes "name") text ∷ time_rules high entries) jobs) in
      let known = (λ i. own_are entries i ++ (last_are ticks ∙ ap (λ some. keys_in (job_rules ticks some)) is) i) ∙ keys in
      let rest = keys_then (time_rules high entries) jobs ∙ ap (or_else (fault_of_keys path entries (time_rules high entries))) (keys_then (arrival_rules ticks (has_list entries)) (needs (codes "script") text ∷ [])) in
      λ i. or_else (unknown_fault path (sym known i) entries) (or_else (fault_of_key path entries (needs (codes "name") text)) (rest i))

-- WHAT IS JUDGED

module _ (heap : HeapKeys) where
  -- what is said of each task
  of_each : {B : Type 0} (say : RawTask → B) (of_high of_low : Members → B) → ((entries : Members) → say (raw_task true heap entries) ≡ of_high entries) → ((entries : Members) → say (raw_task false heap entries) ≡ of_low entries)
      → (highs lows : List Members) → map say (map (raw_task true heap) highs ++ map (raw_task false heap) lows) ≡ map of_high highs ++ map of_low lows
  of_each say of_high of_low high low [] [] = refl
  of_each say of_high of_low high low [] (entries ∷ lows) = λ i. low entries i ∷ of_each say of_high of_low high low [] lows i
  of_each say of_high of_low high low (entries ∷ highs) lows = λ i. high entries i ∷ of_each say of_high of_low high low highs lows i

  all_names : (highs lows : List Members) → raw_names (map (raw_task true heap) highs ++ map (raw_task false heap) lows) ≡ map (text_at (codes "name")) (highs ++ lows)
  unfolding raw_task
  all_names highs lows = of_each (λ (task : RawTask). task.name) (text_at (codes "name")) (text_at (codes "name")) (λ entries. refl) (λ entries. refl) highs lows ∙ sym (map-append (text_at (codes "name")) highs lows)

  all_gaps : (highs lows : List Members) → map gap_fault (map (raw_task true heap) highs ++ map (raw_task false heap) lows) ≡ map fault_of_high_arrivals highs ++ map fault_of_low_arrivals lows
  unfolding raw_task times_in timing_in
  all_gaps highs lows = of_each gap_fault fault_of_high_arrivals fault_of_low_arrivals (λ entries. refl) (λ entries. refl) highs lows

  all_scripts : (highs lows : List Members) → map script_fault (map (raw_task true heap) highs ++ map (raw_task false heap) lows) ≡ map (fault_of_script heap) (highs ++ lows)
  unfolding raw_task fault_of_script
  all_scripts highs lows = of_each script_fault (fault_of_script heap) (fault_of_script heap) (λ entries. refl) (λ entries. refl) highs lows ∙ sym (map-append (fault_of_script heap) highs lows)

  high_tasks : (highs lows : List Members) → highs_among (map (raw_task true heap) highs ++ map (raw_task false heap) lows) ≡ map (high_in heap) highs
  unfolding raw_task times_in high_in script_in
  high_tasks [] [] = refl
  high_tasks [] (entries ∷ lows) = high_tasks [] lows
  high_tasks (entries ∷ highs) lows = ap (λ tasks. high_in heap entries ∷ tasks) (high_tasks highs lows)

  low_tasks : (highs lows : List Members) → lows_among (map (raw_task true heap) highs ++ map (raw_task false heap) lows) ≡ map (low_in heap) lows
  unfolding raw_task times_in low_in script_in
  low_tasks [] [] = refl
  low_tasks [] (entries ∷ lows) = ap (λ tasks. low_in heap entries ∷ tasks) (low_tasks [] lows)
  low_tasks (entries ∷ highs) lows = low_tasks highs lows

module _ (document : Members) (raw : RawSheet) (is : IsRaw document raw) where
  pub sheet-is : sheet_of_raw raw ≡ sheet_in document
  unfolding sheet_in
  sheet-is =
      let high = ap highs_among is.tasks ∙ high_tasks (heap_of document) (highs_of document) (lows_of document) in
      let low = ap lows_among is.tasks ∙ low_tasks (heap_of document) (highs_of document) (lows_of document) in
      λ i. record { ticks = is.ticks i; heap = is.heap i; high = high i; low = low i }

  pub judged-is : judged_fault raw ≡ fault_of_contents document
  unfolding judged_fault fault_of_contents
  judged-is =
      let names = ap raw_names is.tasks ∙ all_names (heap_of document) (highs_of document) (lows_of document) in
      let gaps = ap (map gap_fault) is.tasks ∙ all_gaps (heap_of document) (highs_of document) (lows_of document) in
      let scripts = ap (map script_fault) is.tasks ∙ all_scripts (heap_of document) (highs_of document) (lows_of document) in
      λ i. first_of (first_of (faults_of_names [] 0 (names i)) ∷ first_of (gaps i) ∷ first_of (scripts i) ∷ fault_of_geometry (sheet-is i) ∷ [])
