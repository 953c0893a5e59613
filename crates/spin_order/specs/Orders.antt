-- What lending an order leaves.
use Rattle.std.specs.Prelude.{◌≡◌, []}
use Rattle.std.specs.Borrow.{RattleType, MutBor, Fml}
use Rattle.std.specs.Io.BufRead.{Rests}
use mir.Syntax.{named}
use Rattle.spin_order.specs.declared.order.Order.{Order}
use Rattle.spin_order.specs.contracts.order.Order.{the_row}

-- once what it lent is gone, the order knows what it knew before
abbrev pub StaysAsItWas : (W : RattleType) → MutBor (Order W.Denot) → Fml
StaysAsItWas W order = Rests (the_row (record { mir = named 0; lft = [] }) W) order (λ after. after.top ≡ order.now.top)
