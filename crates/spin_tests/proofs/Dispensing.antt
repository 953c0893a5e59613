-- What the table of the dispenser has to show, and how the dispenser draws.
use Rattle.std.proofs.Common.{◌≡◌, ℕ, Option, None, [], ◌∷◌, length, nat_lt, refl, arith, length-append}
use Rattle.spin_step.specs.Plain.{Plain, reading, holder, to_read, gets, apply, flag_word, may_come, count_kind}
use Rattle.spin_step.proofs.Sums.{one_of, sum-more}
use Rattle.spin_step_more.proofs.Readers.{nobody_against, each_reads}
use Rattle.spin_step.specs.declared.place.Hold.{Hold}
use Rattle.spin_tests.specs.declared.dispenser.DispenserCall.{DispenserCall}
use Rattle.spin_tests.specs.declared.dispenser.DispenserCall.TheVariants as call
use Rattle.spin_tests.specs.declared.dispenser.DispenserPoint.{DispenserPoint}
use Rattle.spin_tests.specs.declared.dispenser.DispenserPoint.TheVariants.{Exchange}
use Rattle.spin_step.specs.Acts.{begin_of}
use Rattle.spin_tests.specs.Dispenser.{after_draw, dispenser_table, dispenser_machine}
use Rattle.spin_world_core.proofs.Steps.{Plays}
use Rattle.spin_world_core.proofs.Rows.{Point, starts, looked}
use Rattle.spin_world_core.proofs.Shapes.{Notes, Means, OwesAll, Pays}
use Rattle.spin_world_core.proofs.Filled.{plays_of}
use Rattle.spin_world_core.proofs.Lists.{eqb_self}

-- the row of a point: a call that has looked has made one step, and at any other point the row is that of the beginning
abbrev pub point_of : ℕ → DispenserCall → DispenserPoint → Option Hold → Point
point_of cap call.Draw (Exchange k) None = looked 1
point_of cap c l h = starts (begin_of (dispenser_table cap) c h)

-- the number that a call has as its argument
abbrev pub number_of : DispenserCall → ℕ
number_of (call.DrawThis k) = k
number_of c = 0

-- the shape of the lock: nobody queues, and a party that has drawn reads
pub record Drawing (cap : ℕ) (s : Plain) : Type 0 where
  pub no_queue : s.tickets ≡ []
  pub room : s.cap ≡ cap
  pub all_read : count_kind reading s.holders ≡ length s.holders

abbrev pub dispenser_notes : (cap : ℕ) → Notes (dispenser_table cap)
dispenser_notes cap = record { Shape = λ s. Drawing cap s; point = point_of cap; Knows = λ c l h p s span. Unit {0} }

module _ (cap : ℕ) where
  one_more : (s : Plain) (p : ℕ) → Drawing cap s → Drawing cap (apply s (gets p to_read))
  one_more s p shape = grind (arith, shape, sum-more (one_of reading) s.holders p reading, length-append s.holders (holder p reading ∷ []))

  -- a number is left exactly if the word is below the cap
  open_is : (s : Plain) (w : ℕ) → Drawing cap s → flag_word s ≡ w → may_come reading s ≡ nat_lt w cap
  open_is s w shape is = grind (arith, nobody_against s.holders shape.all_read, shape.room)

  draw_means : (p : ℕ) (s : Plain) (w : ℕ) → Drawing cap s → flag_word s ≡ w
      → Means (dispenser_notes cap) p s (gets p to_read) (λ k. k) (after_draw cap w)
  draw_means p s w shape is = grind (arith, open_is s w shape is, length-append s.holders (holder p reading ∷ []), one_more s p shape)

  owes : OwesAll (dispenser_notes cap)
  owes p (call.DrawThis k) l h s w span = grind (arith, draw_means p s w, open_is s w, eqb_self p)
  owes p c l h s w span = grind (arith, draw_means p s w, each_reads s.holders)

  dispenser_pays : Pays (dispenser_notes cap)
  dispenser_pays =
      record {
        computes = grind arith;
        calls = λ c h. (number_of c, grind arith);
        promises = record { begins = λ c. grind arith; limited = λ c h words. grind arith; tries = λ c h ask. grind arith; sections = λ d. grind arith };
        others = λ p q c l h s step r span ne shape may belongs knows. tt;
        owes = owes;
        soon = λ p c l h s w span. grind arith;
      }

pub dispenser_facts : (cap : ℕ) → Plays (dispenser_machine cap) (dispenser_notes cap)
dispenser_facts cap = plays_of (dispenser_pays cap) refl
