use Rattle.std.proofs.Common.{refl}
use Rattle.spin_seated.specs.Rw.{rw, Read}
use Rattle.spin_seated.specs.RwLawful.{written}
use Rattle.spin_seated.proofs.Lawful.{read_is}
use Rattle.spin_seated.proofs.RwSteps.{writes_by}
use Rattle.spin_seated.proofs.rwlock.laws.a_read_gives_the_last_write.Goals as goal

pub returns : goal.returns
returns c = λ k before rest p v. read_is rw written writes_by k before rest p v Read (λ s. refl)
