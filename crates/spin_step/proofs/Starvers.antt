-- Lists of starvers, where a party stops starving.
use Rattle.std.proofs.Common.{◌≡◌, ℕ, ◌+◌, true, List, [], ◌∷◌, length, filter, ◌==◌, arith}
use Rattle.spin_step.specs.Plain.{is_starver, without_starver}

pub length-without_starver : (p : ℕ) (qs : List ℕ) → is_starver p qs ≡ true → length qs ≡ length (without_starver p qs) + 1
length-without_starver p [] found = absurd cc
length-without_starver p (q ∷ qs) found = grind (arith, length-without_starver p qs)

-- a party with one entry among the starvers is a starver
pub is_starver-from_entries : (p : ℕ) (qs : List ℕ) → filter (λ q. q == p) qs ≡ p ∷ [] → is_starver p qs ≡ true
is_starver-from_entries p [] e = absurd (cc (e))
is_starver-from_entries p (q ∷ qs) e = grind (arith, is_starver-from_entries p qs)
