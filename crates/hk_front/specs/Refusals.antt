-- The line for each input that is no sheet.
use Rattle.std.specs.Prelude.{ℕ, List, [], ◌∷◌, codes, decimal}
use Rattle.hk_words.specs.declared.geometry.GeoError.{GeoError}
use Rattle.hk_words.specs.declared.geometry.GeoError.TheVariants as geometry
use Rattle.hk_script.specs.declared.error.ScriptError.{ScriptError}
use Rattle.hk_script.specs.declared.error.ScriptError.TheVariants as script
use Rattle.hk_sheet.specs.declared.error.SheetError.{SheetError}
use Rattle.hk_sheet.specs.declared.error.SheetError.TheVariants as sheet
use Rattle.hk_front.specs.Text.{line}

-- an input with too many bytes
abbrev pub long_line : List ℕ
long_line = line (codes "sheet long" ∷ [])

-- what is wrong with the geometry
abbrev pub geometry_word : GeoError → List ℕ
geometry_word geometry.Odd = codes "odd"
geometry_word geometry.Small = codes "small"
geometry_word geometry.Large = codes "large"
geometry_word geometry.Reserve = codes "reserve"
geometry_word geometry.Tasks = codes "tasks"
geometry_word geometry.Board = codes "board"
geometry_word geometry.Registers = codes "registers"

-- what is wrong with a script, and in which line
abbrev pub script_words : ScriptError → List (List ℕ)
script_words (script.Word number) = codes "word" ∷ decimal number ∷ []
script_words (script.Number number) = codes "number" ∷ decimal number ∷ []
script_words (script.Register number) = codes "register" ∷ decimal number ∷ []
script_words (script.Variable number) = codes "variable" ∷ decimal number ∷ []
script_words (script.Shape number) = codes "shape" ∷ decimal number ∷ []
script_words (script.Block number) = codes "block" ∷ decimal number ∷ []
script_words (script.Deep number) = codes "deep" ∷ decimal number ∷ []
script_words script.Long = codes "long" ∷ []
script_words script.Empty = codes "empty" ∷ []
script_words script.Memory = []

abbrev pub fault_line : (task what : List ℕ) → (number : ℕ) → List ℕ
fault_line task what number = line (codes "sheet" ∷ codes "script" ∷ task ∷ what ∷ decimal number ∷ [])

abbrev pub script_line : (task : List ℕ) → ScriptError → List ℕ
script_line task error = line (codes "sheet" ∷ codes "script" ∷ task ∷ script_words error)

-- why bytes are no sheet; want of memory is no reason that is told
abbrev pub sheet_words : SheetError → List (List ℕ)
sheet_words sheet.Text = codes "text" ∷ []
sheet_words (sheet.Missing key) = codes "missing" ∷ key ∷ []
sheet_words (sheet.Unknown key) = codes "unknown" ∷ key ∷ []
sheet_words (sheet.Kind key) = codes "kind" ∷ key ∷ []
sheet_words (sheet.Range key) = codes "range" ∷ key ∷ []
sheet_words (sheet.Name index) = codes "name" ∷ decimal index ∷ []
sheet_words (sheet.Arrivals task place earlier later) = codes "arrivals" ∷ task ∷ decimal place ∷ decimal earlier ∷ decimal later ∷ []
sheet_words (sheet.Script task error) = codes "script" ∷ task ∷ script_words error
sheet_words (sheet.Geometry error) = codes "geometry" ∷ geometry_word error ∷ []
sheet_words sheet.Memory = []

abbrev pub sheet_line : SheetError → List ℕ
sheet_line error = line (codes "sheet" ∷ sheet_words error)
