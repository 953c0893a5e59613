use Rattle.std.proofs.Common.{arith}
use Rattle.spin_step.specs.Plain.{writing}
use Rattle.spin_step.proofs.Holders.{is_holder-from_entries, length-without_holder}
use Rattle.spin_fair.specs.Fair.{views_of}
use Rattle.spin_fair.proofs.FairRefines.{one_holder, set_is}
use Rattle.spin_fair.proofs.laws.an_addition_is_its_step_function.Goals as goal

pub returns-clause-unlock : goal.returns-clause-unlock
returns-clause-unlock g c opening word trace parties p is at =
    let (s, room, order, parts, same, _) = is.1.0 in let one = one_holder (views_of parties) s order parts in
    grind (arith, at, (parts p).0, same, one, room, order.starvers_fit, is_holder-from_entries p writing s.holders, length-without_holder p writing s.holders)

pub returns-clause-lock_starved : goal.returns-clause-lock_starved
returns-clause-lock_starved g c word = grind (arith, set_is word)
