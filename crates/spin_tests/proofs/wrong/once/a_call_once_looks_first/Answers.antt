use Rattle.std.proofs.Common.{refl}
use Rattle.std.proofs.lemmas.Bool.{false≢true}
use Rattle.spin_tests.proofs.wrong.once.a_call_once_looks_first.Goals as goal

pub returns-clause-first : goal.returns-clause-first
returns-clause-first g c = λ v looks. false≢true (looks 0 refl)

pub returns-clause-again : goal.returns-clause-again
returns-clause-again g c = λ v looks. false≢true (looks 1 refl)
