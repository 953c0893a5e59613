-- The shape of a fair lock, how steps keep this shape, and what a party finds in the word.
use Rattle.spin_world.proofs.FairNames.{◌≡◌, ℕ, ◌%◌, ◌==◌, true, false, not, ◌&&◌, ◌||◌, ◌∷◌, ◌++◌, arith, min, eq-eqb, Plain, holder, writing, is_empty, is_starver, is_holder, fair_word, entries, most_starvers, OneHolds, empty_is, is_empty-none, starves, entries_at, is_holder-own, []}

-- the shape of the lock: at most one holder, no queue, and the cap
pub record IsFair (cap : ℕ) (s : Plain) : Type 0 where
  pub one : OneHolds s
  pub queue : s.tickets ≡ []
  pub room : s.cap ≡ min cap most_starvers

-- if nobody holds, a new holder keeps the shape
pub comes : (cap p : ℕ) (s : Plain) → IsFair cap s → is_empty s.holders ≡ true → IsFair cap (record s { holders = s.holders ++ holder p writing ∷ [] })
comes cap p s shape free = grind arith

-- a starver with no other entries does not hold, so what its call asks next is to get the lock
pub not_there : (p : ℕ) (s : Plain) → entries p s ≡ entries_at p starves → ((is_starver p s.starvers && is_empty s.holders) || is_holder p writing s.holders) ≡ true → (is_starver p s.starvers && is_empty s.holders) ≡ true
not_there p s mine free = grind (arith, is_holder-own)

-- if nobody holds, a starver finds the flag clear
pub flag_clear : (w : ℕ) (s : Plain) → fair_word s ≡ w → is_empty s.holders ≡ true → w % 2 ≡ 0
flag_clear w s is free = grind arith

-- if the lock is not open to a newcomer and its word is not 1, somebody starves
pub word_starved : (w : ℕ) (s : Plain) → OneHolds s → fair_word s ≡ w → (w == 1) ≡ false → (is_empty s.holders && is_empty s.starvers) ≡ false → not (is_empty s.starvers) ≡ true
word_starved w s one is other closed = grind (arith, eq-eqb w 1, is_empty-none s.holders, empty_is s.starvers)
