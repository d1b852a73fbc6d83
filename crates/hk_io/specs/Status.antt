-- How a program ends.
use Rattle.std.specs.Prelude.{ℕ}
use Rattle.hk_io.specs.declared.Status.{Status}
use Rattle.hk_io.specs.declared.Status.TheVariants.{Done, Memory, Usage, ReadFault, WriteFault, Sheet, NotAdmitted, Live, Full}

-- the exit status of a program that ends so
abbrev pub number_of : Status → ℕ
number_of Done = 0
number_of Memory = 1
number_of Usage = 2
number_of ReadFault = 3
number_of WriteFault = 4
number_of Sheet = 5
number_of NotAdmitted = 6
number_of Live = 7
number_of Full = 8
