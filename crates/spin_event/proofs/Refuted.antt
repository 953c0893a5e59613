-- The wrong events lose a wake-up.
use Rattle.std.proofs.Common.{None, refl, arith}
use Rattle.spin_event.specs.declared.calls.EventCall.TheVariants.{Wait}
use Rattle.spin_event.specs.Sleeping.{NoneIsLostOn}
use Rattle.spin_event.specs.Wrong.{marks, sleeps_blindly, looks_early, wakes_nobody, two_rings, ring_before_the_sleep, look_before_the_count, ring_after_the_sleep}

pub mark_loses : NoneIsLostOn marks 2 two_rings → ⊥
mark_loses law = let found = law refl 0 (Wait 1) 1 0 None refl in grind (arith, found)

pub blind_loses : NoneIsLostOn sleeps_blindly 2 ring_before_the_sleep → ⊥
blind_loses law = let found = law refl 0 (Wait 0) 0 0 None refl in grind (arith, found)

pub early_loses : NoneIsLostOn looks_early 2 look_before_the_count → ⊥
early_loses law = let found = law refl 0 (Wait 0) 0 0 None refl in grind (arith, found)

pub silent_loses : NoneIsLostOn wakes_nobody 2 ring_after_the_sleep → ⊥
silent_loses law = let found = law refl 0 (Wait 0) 0 0 None refl in grind (arith, found)
