-- What the table of the seats has to show.
use Rattle.std.proofs.Common.{◌≡◌, ℕ, ◌-◌, ◌≤◌, ◌⊎◌, true, Option, Some, None, List, [], ◌∷◌, length, nat_lt, refl, ap, arith, length-append}
use Rattle.std.specs.List.{list_any}
use Rattle.spin_step.specs.Plain.{Plain, reading, holder, to_read, gets, releases, apply, may_come, is_holder}
use Rattle.spin_step.specs.Calls.{Mark}
use Rattle.spin_seats.specs.Kind.{hinders}
use Rattle.spin_step.specs.Parties.{Entries, entries}
use Rattle.spin_step.proofs.Sums.{one_of, sum-more, sum-less}
use Rattle.spin_step.proofs.Holders.{is_holder-from_entries, length-without_holder}
use Rattle.spin_step_more.proofs.Readers.{each_reads}
use Rattle.spin_seats.specs.Seats.{AllRead, seats, seats_word, entered}
use Rattle.spin_seats.proofs.Taken.{open_is, enter-grants, leave-gives}
use Rattle.spin_step.specs.declared.place.Hold.{Hold}
use Rattle.spin_seats.specs.declared.calls.SeatsCall.{SeatsCall}
use Rattle.spin_seats.specs.declared.calls.SeatsCall.TheVariants.{TryEnter, TryEnterWeak, Enter}
use Rattle.spin_seats.specs.declared.calls.SeatsPoint.{SeatsPoint}
use Rattle.spin_seats.specs.declared.calls.SeatsPoint.TheVariants.{Exchange}
use Rattle.spin_step.specs.Acts.{begin_of}
use Rattle.spin_seats.specs.Table.{seats_table, seats_machine}
use Rattle.spin_world_core.proofs.Steps.{Plays}
use Rattle.spin_world_core.proofs.Stands.{holds, entries_at}
use Rattle.spin_world_core.proofs.Rows.{Point, starts, looked}
use Rattle.spin_world_core.proofs.Shapes.{Notes, Means, Pays}
use Rattle.spin_world_core.proofs.Filled.{plays_of}

-- the row of a point: a call that has looked has made one step, and at any other point the row is that of the beginning
abbrev pub point_of : ℕ → SeatsCall → SeatsPoint → Option Hold → Point
point_of n TryEnter (Exchange k) None = looked 1
point_of n TryEnterWeak (Exchange k) None = looked 1
point_of n Enter (Exchange k) None = looked 1
point_of n c l h = starts (begin_of (seats_table n) c h)

-- the shape of the lock: nobody queues, the cap is the number of seats, all holders read, and at most so many hold
pub record Seating (n : ℕ) (s : Plain) : Type 0 where
  pub no_queue : s.tickets ≡ []
  pub room : s.cap ≡ seats n
  pub all_read : AllRead s
  pub few : length s.holders ≤ seats n

-- after its first step a try of two steps knows that the word is still the one that it found, or that it is hindered
abbrev pub knows_of : SeatsCall → SeatsPoint → ℕ → Plain → List Mark → Type 0
knows_of TryEnterWeak (Exchange k) p s span = (seats_word s ≡ k) ⊎ (list_any (hinders p) span ≡ true)
knows_of c l p s span = Unit {0}

abbrev pub seats_notes : (n : ℕ) → Notes (seats_table n)
seats_notes n = record { Shape = λ s. Seating n s; point = point_of n; Knows = λ c l h p s span. knows_of c l p s span }

module _ (n : ℕ) where
  pub sits : (p : ℕ) (s : Plain) → entries p s ≡ entries_at p (holds reading) → is_holder p reading s.holders ≡ true
  sits p s mine = is_holder-from_entries p reading s.holders (ap (λ (e : Entries). e.holders) mine)

  one_more : (s : Plain) (p w : ℕ) → Seating n s → seats_word s ≡ w → may_come reading s ≡ true → Seating n (apply s (gets p to_read))
  one_more s p w shape is may =
      let more = length-append s.holders (holder p reading ∷ []) in
      grind (arith, shape, open_is s n w shape.all_read shape.room is, more, sum-more (one_of reading) s.holders p reading)

  one_less : (s : Plain) (p : ℕ) → Seating n s → is_holder p reading s.holders ≡ true → Seating n (apply s (releases p reading))
  one_less s p shape found =
      grind (arith, shape, length-without_holder p reading s.holders found, sum-less (one_of reading) p reading s.holders found)

  -- what the step functions mean for the plain lock in such a state
  module _ (p : ℕ) (s : Plain) (w : ℕ) (shape : Seating n s) (is : seats_word s ≡ w) where
    pub enter_means : Means (seats_notes n) p s (gets p to_read) (λ k. k) (entered n w)
    enter_means = grind (arith, enter-grants s p n w shape.all_read shape.room is, one_more s p w shape is)

    pub leave_means : is_holder p reading s.holders ≡ true
        → (nat_lt 0 w ≡ true) × Means (seats_notes n) p s (releases p reading) (λ k. k) (Some (w - 1))
    leave_means found = grind (arith, length-without_holder p reading s.holders found, leave-gives s p w is found, one_less s p shape found)

  pub seats_pays : Pays (seats_notes n)
  seats_pays =
      record {
        computes = grind arith;
        calls = λ c h. (0, grind arith);
        promises = record { begins = λ c. grind arith; limited = λ c h words. grind arith; tries = λ c h ask. grind arith; sections = λ d. grind arith };
        -- a step of another party leaves the word as it is, or hinders the try
        others = λ p q c l h s step r span ne shape may belongs knows. grind (arith, ne, knows);
        owes = λ p c l h s w span. grind (arith, enter_means p s w, leave_means p s w, sits p s, each_reads s.holders);
        -- if nobody disturbs the call, its exchange succeeds on a word with a free seat, at once or after a look
        soon = λ p c l h s w span. grind (arith, open_is s n w);
      }

pub seats_facts : (n : ℕ) → Plays (seats_machine n) (seats_notes n)
seats_facts n = plays_of (seats_pays n) refl
