-- Sections as words tell them, by the names of their tasks.
use Rattle.std.specs.Prelude.{ℕ, List, map, bytes_eq}
use Rattle.std.specs.List.{position_or_len}
use Rattle.hk_sheet.specs.declared.sheet.High.{High}
use Rattle.hk_ceiling.specs.declared.ceilings.TaskSection.{TaskSection}
use Rattle.hk_ceiling.specs.declared.told.Section.{Section}

-- the place of the high task of a name, or how many there are where none has it
abbrev pub place_of : List High → List ℕ → ℕ
place_of tasks name = position_or_len (λ (task : High). bytes_eq task.name name) tasks

-- a section with its task's place for the name
abbrev pub numbered : List High → Section → TaskSection
numbered tasks section = record { task = place_of tasks section.name; res = section.res; start = section.start; len = section.len }

abbrev pub all_numbered : List High → List Section → List TaskSection
all_numbered tasks sections = map (numbered tasks) sections
