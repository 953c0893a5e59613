-- Lists that are read and written by place.
use Rattle.std.proofs.Common.{◌≡◌, ℕ, pred, ◌<◌, Some, List, [], ◌∷◌, length, slice_get, slice_set, arith}
use Rattle.std.proofs.lemmas.Option.{slice_get_within}

pub get-set_within : {X : Type 0} (xs : List X) (p : ℕ) (x : X) → p < length xs → slice_get (slice_set xs p x) p ≡ Some x
get-set_within [] p x lt = absurd (omega arith)
get-set_within (z ∷ xs) p x lt = grind (arith, get-set_within xs (pred p) x)

pub get-set_same : {X : Type 0} (xs : List X) (p : ℕ) (x y : X) → slice_get xs p ≡ Some y → slice_get (slice_set xs p x) p ≡ Some x
get-set_same xs p x y e = get-set_within xs p x (slice_get_within xs p y e)
