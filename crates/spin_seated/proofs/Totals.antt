-- Sums over a list, when one element changes.
use Rattle.std.proofs.Common.{◌≡◌, ℕ, zero, suc, ◌+◌, ◌≤◌, List, [], ◌∷◌, ◌++◌, set, sym, ap, arith}
use mathlib.Core.Option.{some, some-injective, some-ne-none}
use lib.ListN.{get_elem?}
use Rattle.spin_seated.specs.Histories.{total}

module _ {X : Type 0} where
  pub total-append : (f : X → ℕ) (xs ys : List X) → total f (xs ++ ys) ≡ total f xs + total f ys
  total-append f [] ys = omega arith
  total-append f (x ∷ xs) ys = omega (arith, total-append f xs ys)

  pub total-set : (f : X → ℕ) (xs : List X) (i : ℕ) (x y : X) → get_elem? xs i ≡ some x → total f (set xs i y) + f x ≡ total f xs + f y
  total-set f [] i x y at = absurd (some-ne-none x (sym at))
  total-set f (z ∷ zs) zero x y at = let e : f z ≡ f x = ap f (some-injective z x at) in omega arith
  total-set f (z ∷ zs) (suc i) x y at = omega (arith, total-set f zs i x y at)

  -- f of one element is at most the sum
  pub at_most : (f : X → ℕ) (xs : List X) (i : ℕ) (x : X) → get_elem? xs i ≡ some x → f x ≤ total f xs
  at_most f [] i x at = absurd (some-ne-none x (sym at))
  at_most f (z ∷ zs) zero x at = let e : f z ≡ f x = ap f (some-injective z x at) in omega arith
  at_most f (z ∷ zs) (suc i) x at = omega (arith, at_most f zs i x at)
