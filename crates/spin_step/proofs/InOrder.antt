-- Open steps keep every plain lock in order.
use Rattle.std.proofs.Common.{◌≡◌, ℕ, ◌≤◌, true, length, max, Option, arith, length-append}
use Rattle.spin_step.specs.Plain.{Plain, Change, apply, is_open, ticket_limit, fresh}
use Rattle.spin_step.specs.Parties.{apply_some, IsOpenStep}
use Rattle.spin_step.specs.Orders.{IsInOrder}
use Rattle.spin_step.proofs.Exclusive.{exclusive-free, exclusive-kept, room_to_come}
use Rattle.spin_step.proofs.Sums.{length-with_kind}
use Rattle.spin_step.proofs.Holders.{length-without_holder}
use Rattle.spin_step.proofs.Starvers.{length-without_starver}
use Rattle.spin_step.proofs.Tickets.{near-room, numbers-kept}

-- there are not more holders, or starvers, than the cap allows
abbrev Fits : Plain → Type 0
Fits s = (length s.holders ≤ max 1 s.cap) × (length s.starvers ≤ s.cap)

fits-kept : (s : Plain) (c : Change) → Fits s → is_open s c ≡ true → Fits (apply s c)
fits-kept s c fits may =
    grind (arith, length-append, room_to_come, near-room, length-with_kind, length-without_holder, length-without_starver)

pub cap-kept : (s : Plain) (step : Option Change) → (apply_some s step).cap ≡ s.cap
cap-kept s step = grind arith

pub in_order-kept : (s : Plain) (p : ℕ) (step : Option Change) → IsInOrder s → IsOpenStep s p step → IsInOrder (apply_some s step)
in_order-kept s p step x may =
    grind (arith, x, exclusive-kept s p step x.exclusive may, numbers-kept s, fits-kept s)

pub in_order-fresh : (cap group first : ℕ) → first ≤ ticket_limit → IsInOrder (fresh cap group first)
in_order-fresh cap group first within = grind (arith, exclusive-free (fresh cap group first))
