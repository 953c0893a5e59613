-- Lists that are read and written by place.
use Rattle.std.proofs.Common.{◌≡◌, ℕ, zero, suc, pred, ◌<◌, ◌==◌, true, Option, Some, None, List, [], ◌∷◌, length, replicate, slice_get, slice_set, refl, arith}
use Rattle.std.proofs.lemmas.Bool.{eq-eqb}
use Rattle.spin_step.proofs.Lists.{get-set_within}

pub eqb_self : (p : ℕ) → (p == p) ≡ true
eqb_self p = eq-eqb p p refl

pub get-set_other : {X : Type 0} (xs : List X) (p q : ℕ) (x : X) → (p ≡ q → ⊥) → slice_get (slice_set xs p x) q ≡ slice_get xs q
get-set_other [] p q x ne = refl
get-set_other (z ∷ xs) p q x ne = grind (arith, get-set_other xs (pred p) (pred q) x)

-- when one element is written, all others are unchanged
pub get-set : {X : Type 0} (P : Option X → Type 0) (xs : List X) (p q : ℕ) (x : X) → p < length xs → (p ≡ q → P (Some x)) → ((p ≡ q → ⊥) → P (slice_get xs q))
    → P (slice_get (slice_set xs p x) q)
get-set P xs p q x lt here away = grind (arith, get-set_within xs p x lt, get-set_other xs p q x, here, away)

pub get-replicate : {X : Type 0} (P : Option X → Type 0) (x : X) (n i : ℕ) → P None → P (Some x) → P (slice_get (replicate n x) i)
get-replicate P x zero i none some = none
get-replicate P x (suc n) i none some = grind (arith, get-replicate P x n (pred i), none, some)
