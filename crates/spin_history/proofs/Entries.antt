-- The last entry of a list, and entries in an order.
use Rattle.std.proofs.Common.{◌≡◌, List, [], ◌∷◌, ◌++◌, Some, refl, sym, subst, arith}
use mathlib.Core.List.{IsPrefix}
use Rattle.spin_history.specs.Entries.{last, InOrder, IsAtOrAfter}

module _ {T : Type 0} where
  pub last_of : (l : List T) (x : T) → last (l ++ x ∷ []) ≡ Some x
  last_of [] x = refl
  last_of (y ∷ []) x = refl
  last_of (y ∷ z ∷ l) x = last_of (z ∷ l) x

  -- if m is the list l followed by x, then x is the last entry of m
  pub last_is : (m l : List T) (x : T) → m ≡ l ++ x ∷ [] → last m ≡ Some x
  last_is m l x e = subst (λ (z : List T). last z ≡ Some x) (sym e) (last_of l x)

  -- a relation of two values holds of values equal to them
  pub at_both : (R : T → T → Type 0) {x x' y y' : T} → x ≡ x' → y ≡ y' → R x y → R x' y'
  at_both R {x} {x'} {y} {y'} e d h = subst (λ (z : T). R z y') e (subst (R x) d h)

  module _ (le : T → T → Type 0) (reflexive : (x : T) → le x x) (transitive : (x y z : T) → le x y → le y z → le x z) where
    first : (x : T) (l : List T) (w : T) → InOrder le (x ∷ l) → last (x ∷ l) ≡ Some w → le x w
    first x [] w h e = grind (arith, reflexive x)
    first x (y ∷ l) w h e = transitive x y w h.0 (first y l w h.1 e)

    over : (k t : List T) (w : T) → InOrder le (k ++ t) → last (k ++ t) ≡ Some w → IsAtOrAfter le k w
    over [] t w h e = tt
    over (x ∷ []) t w h e = first x t w h e
    over (x ∷ y ∷ k) t w h e = over (y ∷ k) t w h.1 e

    -- in an ordered list, the last entry is at or after the last entry of each prefix
    pub later : (k l : List T) (w : T) → IsPrefix k l → InOrder le l → last l ≡ Some w → IsAtOrAfter le k w
    later k l w p h e = over k p.0 w (subst (InOrder le) (sym p.1) h) (subst (λ (z : List T). last z ≡ Some w) (sym p.1) e)

    pub goes_on : (l : List T) (v x : T) → InOrder le l → last l ≡ Some v → le v x → InOrder le (l ++ x ∷ [])
    goes_on [] v x h e up = tt
    goes_on (y ∷ []) v x h e up = grind arith
    goes_on (y ∷ z ∷ l) v x h e up = (h.0, goes_on (z ∷ l) v x h.1 e up)

    -- if v may follow the last entry that a caller has seen, and x may follow v, then x may follow that entry
    pub at_or_after : (k : List T) (v x : T) → IsAtOrAfter le k v → le v x → IsAtOrAfter le k x
    at_or_after k v x seen up = grind (arith, transitive)
