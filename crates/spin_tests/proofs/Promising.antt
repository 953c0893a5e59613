-- What the careless table has to show.
use Rattle.std.proofs.Common.{Option, None, refl, arith}
use Rattle.spin_step_more.proofs.Readers.{each_reads}
use Rattle.spin_seats.proofs.Taken.{open_is}
use Rattle.spin_step.specs.declared.place.Hold.{Hold}
use Rattle.spin_seats.specs.declared.calls.SeatsCall.{SeatsCall}
use Rattle.spin_seats.specs.declared.calls.SeatsCall.TheVariants.{TryEnter, TryEnterWeak}
use Rattle.spin_seats.specs.declared.calls.SeatsPoint.{SeatsPoint}
use Rattle.spin_seats.specs.declared.calls.SeatsPoint.TheVariants.{Exchange}
use Rattle.spin_step.specs.Acts.{begin_of}
use Rattle.spin_world_seats.proofs.Owed.{Seating, sits, enter_means, leave_means}
use Rattle.spin_tests.specs.Careless.{careless_table, careless_machine}
use Rattle.spin_world_core.proofs.Steps.{Plays}
use Rattle.spin_world_core.proofs.Rows.{Point, starts, looked}
use Rattle.spin_world_core.proofs.Shapes.{Notes, Pays}
use Rattle.spin_world_core.proofs.Filled.{plays_of}

-- the row of a point: a call that has looked has made one step, and at any other point the row is that of the beginning
abbrev pub point_of : SeatsCall → SeatsPoint → Option Hold → Point
point_of TryEnter (Exchange k) None = looked 1
point_of TryEnterWeak (Exchange k) None = looked 1
point_of c l h = starts (begin_of (careless_table) c h)

abbrev pub seats_notes : Notes careless_table
seats_notes = record { Shape = λ s. Seating 2 s; point = point_of; Knows = λ c l h p s span. Unit {0} }

pub seats_pays : Pays seats_notes
seats_pays =
    record {
      computes = grind arith;
      calls = λ c h. (0, grind arith);
      promises = record { begins = λ c. grind arith; limited = λ c h words. grind arith; tries = λ c h ask. grind arith; sections = λ d. grind arith };
      others = λ p q c l h s step r span ne shape may belongs knows. tt;
      owes = λ p c l h s w span. grind (arith, enter_means 2 p s w, leave_means 2 p s w, sits 2 p s, each_reads s.holders);
      -- if nobody disturbs the call, its exchange succeeds on a word with a free seat, at once or after a look
      soon = λ p c l h s w span. grind (arith, open_is s 2 w);
    }

pub careless_facts : Plays careless_machine seats_notes
careless_facts = plays_of seats_pays refl
