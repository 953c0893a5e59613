-- What lending a reservation leaves.
use Rattle.std.specs.Prelude.{◌≡◌, []}
use Rattle.std.specs.Borrow.{RattleType, MutBor, Fml}
use Rattle.std.specs.Io.BufRead.{Rests}
use mir.Syntax.{named}
use Rattle.spin_order.specs.declared.reserved.Reserved.{Reserved}
use Rattle.spin_order.specs.contracts.reserved.Reserved.{the_row}

-- once what it lent is gone, the thread has what it had before, and the order knows what it knew
abbrev pub StaysReserved : (G W : RattleType) → MutBor (Reserved G.Denot W.Denot) → Fml
StaysReserved G W r = Rests (the_row (record { mir = named 0; lft = [] }) G W) r (λ after. (after.place ≡ r.now.place) × (after.order.top ≡ r.now.order.top))
