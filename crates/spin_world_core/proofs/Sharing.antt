-- How many parties share the value, and how many have leaked, when seats change.
use Rattle.spin_world_core.proofs.Names.{◌≡◌, ◌+◌, Bool, List, [], ◌∷◌, length, map, Vec, refl, ap, sym, subst, arith, count_by, length-map, with_items_is, sum_by-cons, Seat, State, seen_by_owner, let_go}
use mathlib.Core.Bool.{cond}
use Rattle.std.specs.Vec.{with_items}
use Rattle.spin_world_core.specs.Sharing.{has_leaked, shares}

count_by-cons : {X : Type 0} (f : X → Bool) (x : X) (xs : List X) → count_by f (x ∷ xs) ≡ cond (f x) 1 0 + count_by f xs
count_by-cons f x xs = sum_by-cons (λ y. cond (f y) 1 0) x xs

-- the owner's use of the value changes no seat if no party has leaked
pub none_leaked : {C L : Type 0} (seats : List (Seat C L)) → count_by has_leaked seats ≡ 0 → map seen_by_owner seats ≡ seats
none_leaked [] none = refl
none_leaked (s ∷ seats) none = grind (arith, none_leaked seats, count_by-cons has_leaked s seats)

-- after the owner's use as many parties share the value as before
pub shares_seen : {C L : Type 0} (seats : List (Seat C L)) → count_by shares (map seen_by_owner seats) ≡ count_by shares seats
shares_seen [] = refl
shares_seen (s ∷ seats) = grind (arith, count_by-cons shares (seen_by_owner s) (map seen_by_owner seats), shares_seen seats, count_by-cons shares s seats)

-- after the owner's use no party has leaked and is not gone
pub leaked_seen : {C L : Type 0} (seats : List (Seat C L)) → count_by has_leaked (map seen_by_owner seats) ≡ 0
leaked_seen [] = refl
leaked_seen (s ∷ seats) = grind (arith, count_by-cons has_leaked (seen_by_owner s) (map seen_by_owner seats), leaked_seen seats)

pub let_go_none : {W V C L : Type 0} (s t : State W V C L) → s ≡ t → count_by has_leaked s.seats ≡ 0 → t ≡ let_go t
let_go_none s t is none = subst (λ u. u ≡ let_go u) is (ap (λ seats. record s { seats = seats }) (sym (none_leaked s.seats none)))

-- the vector of seats after the loop that makes each leaked party gone
pub let_go_is : {C L Z : Type 0} (seats : Vec (Seat C L) Z) (now new : List (Seat C L)) → now ≡ seats.items → length now ≡ seats.len → new ≡ map seen_by_owner now
    → (with_items seats new).items ≡ map seen_by_owner seats.items
let_go_is seats now new is len made = grind (arith, with_items_is, length-map)
