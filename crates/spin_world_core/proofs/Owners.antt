-- When an owner's move is open: every party leaves the value to the owner.
use Rattle.std.proofs.Common.{pred, arith}
use Rattle.spin_world_core.proofs.Names.{◌≡◌, ℕ, Bool, true, false, Option, Some, None, List, [], ◌∷◌, zero, suc, slice_get, refl, list_all, and_from, true≢false, Plain, Seat, Mark, Machine, is_owners, yields_to_owner, Seen, StandsFor, YieldsToOwner, IsOwners}

pub all-get : {X : Type 0} (test : X → Bool) (xs : List X) (q : ℕ) (x : X) → list_all test xs ≡ true → slice_get xs q ≡ Some x → test x ≡ true
all-get test [] q x all e = absurd (cc (e))
all-get test (y ∷ xs) q x all e = grind (arith, all-get test xs (pred q) x)

all-from : {X : Type 0} (test : X → Bool) (xs : List X) → ((q : ℕ) (x : X) → slice_get xs q ≡ Some x → test x ≡ true) → list_all test xs ≡ true
all-from test [] each = refl
all-from test (x ∷ xs) each = grind (arith, each zero x, all-from test xs (λ q. each (suc q)))

pub yields_at : {C L : Type 0} (s : Plain) (q : ℕ) (span : List Mark) (o : Option (Seat C L)) → StandsFor s q span o
    → ((x : Seat C L) → o ≡ Some x → yields_to_owner x ≡ true) → YieldsToOwner s q o
yields_at s q span None stands away = stands
yields_at s q span (Some x) stands away = grind (arith, away x refl)

module _ {W V C L A : Type 0} (m : Machine W V C L A) where
  -- if there is an owner, and every party leaves the value to it, the owner's move is open
  pub none_owns : (seen : Seen W V C L) → is_owners m seen.state ≡ false → m.owned ≡ true → IsOwners seen → ⊥
  none_owns seen closed owned all = grind (arith, all-from, true≢false)
