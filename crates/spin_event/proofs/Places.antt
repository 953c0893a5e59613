-- Lists of seats that are read and written by place, and counted.
use Rattle.std.proofs.Common.{◌≡◌, ℕ, zero, suc, ◌+◌, ◌≤◌, ◌⊎◌, Bool, true, Some, List, [], ◌∷◌, slice_get, slice_set, arith}
use Rattle.spin_step.specs.Steps.{bit}
use Rattle.spin_event.specs.Sleeping.{EventSeat, how_many}

-- a place that is read after a write holds what was written, or what it held
pub get_either : (xs : List EventSeat) (p q : ℕ) (x y : EventSeat) → slice_get (slice_set xs p x) q ≡ Some y → (x ≡ y) ⊎ (slice_get xs q ≡ Some y)
get_either [] p q x y e = grind arith
get_either (z ∷ xs) zero zero x y e = grind arith
get_either (z ∷ xs) zero (suc q) x y e = grind arith
get_either (z ∷ xs) (suc p) zero x y e = grind arith
get_either (z ∷ xs) (suc p) (suc q) x y e = get_either xs p q x y (grind (arith, e))

-- the count after a write
pub count_set : (test : EventSeat → Bool) (xs : List EventSeat) (p : ℕ) (x y : EventSeat) → slice_get xs p ≡ Some y
    → how_many test (slice_set xs p x) + bit (test y) ≡ how_many test xs + bit (test x)
count_set test [] p x y e = grind arith
count_set test (z ∷ xs) zero x y e = grind arith
count_set test (z ∷ xs) (suc p) x y e = grind (arith, count_set test xs p x y)

-- who passes the test is counted
pub count_some : (test : EventSeat → Bool) (xs : List EventSeat) (p : ℕ) (y : EventSeat) → slice_get xs p ≡ Some y → test y ≡ true → 1 ≤ how_many test xs
count_some test [] p y e is = grind arith
count_some test (z ∷ xs) zero y e is = grind arith
count_some test (z ∷ xs) (suc p) y e is = grind (arith, count_some test xs p y)
