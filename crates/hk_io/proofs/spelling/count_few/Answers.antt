-- One to four digits.
use Rattle.std.proofs.Common.{sym}
use Rattle.hk_io.proofs.DecimalDigits.{length_one, length_two, length_three, length_four}
use Rattle.hk_io.proofs.spelling.count_few.Goals as goal

pub returns-then-value-lt10 : goal.returns-then-value-lt10
returns-then-value-lt10 c = sym (length_one c.args.value c.if-value-lt10.true)

pub returns-then-value-lt100 : goal.returns-then-value-lt100
returns-then-value-lt100 c = sym (length_two c.args.value c.if-value-lt10.false c.if-value-lt100.true)

pub returns-then-value-lt1000 : goal.returns-then-value-lt1000
returns-then-value-lt1000 c = sym (length_three c.args.value c.if-value-lt100.false c.if-value-lt1000.true)

pub returns-else-value-lt1000 : goal.returns-else-value-lt1000
returns-else-value-lt1000 c = sym (length_four c.args.value c.if-value-lt1000.false c.requires)
