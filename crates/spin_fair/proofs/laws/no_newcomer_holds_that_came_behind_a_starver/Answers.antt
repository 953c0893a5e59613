use Rattle.std.proofs.Common.{arith}
use Rattle.spin_step.specs.Plain.{writing}
use Rattle.spin_step.proofs.Holders.{is_holder-from_entries, length-without_holder}
use Rattle.spin_step.proofs.Starvers.{is_starver-from_entries, length-without_starver}
use Rattle.spin_fair.proofs.FairRefines.{entered_free}
use Rattle.spin_fair.proofs.laws.no_newcomer_holds_that_came_behind_a_starver.Goals as goal

pub returns-clause-granted : goal.returns-clause-granted
returns-clause-granted g c = entered_free

pub returns-clause-nobody : goal.returns-clause-nobody
returns-clause-nobody g c opening trace parties p is = let (s, small, order, parts, same, _) = is.1.0 in (
  λ at. grind (arith, at, (parts p).0, same, is_holder-from_entries p writing s.holders, length-without_holder p writing s.holders),
  λ at. grind (arith, at, (parts p).0, same, is_starver-from_entries p s.starvers, length-without_starver p s.starvers),
)
