use Rattle.std.proofs.Common.{◌≡◌, ℕ, length, refl, arith, not, true}
use Rattle.spin_step.specs.Plain.{Plain, is_open_to, to_read}
use Rattle.spin_seats.specs.Seats.{seats}
use Rattle.spin_seats.proofs.Taken.{open_is}
use Rattle.spin_world_seats.proofs.Owed.{Seating, seats_facts}
use Rattle.spin_laws.proofs.Moments.{found}
use Rattle.spin_laws.proofs.answers.a_refused_try_found_all_seats_taken.Goals as goal

all_taken : (n p : ℕ) (s : Plain) → Seating n s → not (is_open_to s p to_read) ≡ true → length s.holders ≡ seats n
all_taken n p s shape closed = grind (arith, open_is s n (length s.holders) shape.all_read shape.room refl, shape.few, closed)

pub returns : goal.returns
returns g n =
    found (seats_facts n) (λ p s. not (is_open_to s p to_read)) (λ h. refl) (λ p l h seen call closed. all_taken n p seen.plain call.shape closed)
