use Rattle.std.proofs.Common.{◌≡◌, ap, arith}
use Rattle.spin_step.specs.Plain.{writing, count_kind}
use Rattle.spin_step.specs.Parties.{Entries}
use Rattle.spin_tests.proofs.wrong.flag.a_place_is_what_the_party_holds.Goals as goal

pub returns : goal.returns
returns g c = λ value all. let is : 1 ≡ 0 = ap (λ (e : Entries). count_kind writing e.holders) (all.each.1.0.places 0) in omega (arith, is)
