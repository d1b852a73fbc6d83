-- The arguments that a line is printed with.
use Rattle.std.specs.Prelude.{[], ◌∷◌}
use Rattle.hk_script.specs.declared.printing.Argument.{Argument}
use Rattle.hk_script.specs.declared.printing.Argument.TheVariants as argument
use Rattle.hk_script.specs.Spelling.{Piece, Exactly, Numeral, variable, register}

abbrev pub piece_of : Argument → Piece
piece_of (argument.Variable v) = variable v
piece_of (argument.Register r) = register r
piece_of (argument.Number n) = Numeral n
piece_of (argument.Sign b) = Exactly (b ∷ [])
