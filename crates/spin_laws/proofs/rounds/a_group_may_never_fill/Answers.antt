use Rattle.spin_laws.proofs.Names.{◌≡◌, ◌∷◌, [], None, true, nat_lt, arith, refl, Begin, Step, Calling, lt-ltb}
use Rattle.spin_world.specs.BarrierTable.{barrier_machine}
use Rattle.spin_world.specs.declared.barrier.BarrierCall.TheVariants.{Wait}
use Rattle.spin_world.specs.declared.barrier.BarrierPoint.TheVariants.{Leave}
use Rattle.spin_laws.proofs.Around.{starves}
use Rattle.spin_laws.proofs.rounds.a_group_may_never_fill.Goals as goal

pub returns : goal.returns
returns g = λ object two.
    -- the other parties of the group never arrive
    let more : nat_lt 1 object.n ≡ true = lt-ltb 1 object.n two in
    starves (barrier_machine object.n) 1 ((0, Begin Wait) ∷ (0, Step) ∷ [])
    (record { words = record { count = 1; generation = 0 }; value = None; seats = Calling Wait (Leave 0) None ∷ [] })
    (grind (arith, more)) (0, Step) [] Wait (Leave 0) None refl (refl, refl, refl)
