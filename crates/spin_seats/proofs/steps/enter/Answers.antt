use Rattle.std.proofs.lemmas.Bool.{lt-ltb}
use Rattle.std.proofs.Common.{arith}
use Rattle.spin_seats.specs.Seats.{seats}
use Rattle.spin_seats.proofs.Taken.{enter-grants}
use Rattle.spin_seats.proofs.steps.enter.Goals as goal

pub returns-then-word-min-clause-plain : goal.returns-then-word-min-clause-plain
returns-then-word-min-clause-plain c s party all room word =
    rw (lt-ltb c.args.word (seats c.args.room) (omega (arith, c.min.ensures, c.if-word-min.true))) at (enter-grants s party c.args.room c.args.word all room word)
