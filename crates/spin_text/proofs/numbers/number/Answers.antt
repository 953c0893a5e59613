use Rattle.std.proofs.Common.{arith}
use Rattle.spin_text.proofs.Numerals.{number_alone, no_number_alone}
use Rattle.spin_text.proofs.numbers.number.Goals as goal

pub returns-clause-some : goal.returns-clause-some
returns-clause-some c = grind (arith, number_alone)

pub returns-clause-none : goal.returns-clause-none
returns-clause-none c = grind (arith, no_number_alone)
