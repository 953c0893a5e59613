use Rattle.spin_laws.proofs.Names.{◌≡◌, ◌∷◌, [], None, true, nat_lt, min, arith, refl, Begin, Step, lt-ltb, reader_limit, rw_machine}
use Rattle.spin_step_more.specs.declared.rw_calls.RwCall.TheVariants.{Read, Write, Release}
use Rattle.spin_step_more.specs.declared.rw_calls.RwPoint.TheVariants.{First}
use Rattle.spin_laws.proofs.Around.{starves}
use Rattle.spin_laws.proofs.rounds.a_writer_may_starve.Goals as goal

pub returns : goal.returns
returns g c = λ object some.
    -- party 0 makes its exchange while the other party reads
    let room : nat_lt 0 (min object.cap reader_limit) ≡ true = lt-ltb 0 (min object.cap reader_limit) (omega (arith, some)) in
    starves (rw_machine object.value object.cap) 2 ((0, Begin Write) ∷ []) _ refl (1, Begin Read)
    ((1, Step) ∷ (1, Step) ∷ (0, Step) ∷ (1, Begin Release) ∷ (1, Step) ∷ []) Write First None refl
    (grind (arith, room), grind (arith, room), grind (arith, room))
