-- A party that holds still holds while it makes no move.
use Rattle.std.proofs.Common.{◌≡◌, ℕ, ◌==◌, Bool, true, false, if◌then◌else◌, Some, List, [], ◌∷◌, filter, refl, sym, ◌∙◌, arith, eq-eqb}
use Rattle.spin_world_core.proofs.Names.{seat_of, is_owners, Seen, scene, and_parts, false≢true, Machine, Move, Hold, Seat, Holding}
use Rattle.spin_world_core.proofs.Owners.{all-get}
use Rattle.spin_world_core.proofs.Lists.{get-set_other}
use Rattle.spin_world_core.specs.Users.{seen_after}
use Rattle.spin_step.specs.Schedules.{Entry}

module _ {W V C L A : Type 0} (m : Machine W V C L A) (p : ℕ) (h : Hold) where
  -- the owner has no move while a party holds
  no_owner : (seen : Seen W V C L) → seat_of seen p ≡ Some (Holding h) → is_owners m seen.state ≡ true → ⊥
  no_owner seen there may = grind (arith, false≢true, all-get, and_parts)

  -- a move of another party leaves the holder its seat
  beside : (seen : Seen W V C L) (q : ℕ) (move : Move C V) → seat_of seen p ≡ Some (Holding h) → (q ≡ p → ⊥) → seat_of (scene m seen q move).after p ≡ seat_of seen p
  beside seen q move there ne = grind (arith, get-set_other {X = Seat C L}, no_owner seen there)

  none_first : (b : Bool) (e : Entry C V) (xs : List (Entry C V)) → (e.0 == p) ≡ b → (if b then e ∷ xs else xs) ≡ [] → (e.0 ≡ p → ⊥) × (xs ≡ [])
  none_first true e xs is none = absurd (cc none)
  none_first false e xs is none = ((λ same. false≢true (sym is ∙ eq-eqb e.0 p same)), none)

  pub stays : (es : List (Entry C V)) (seen : Seen W V C L) → seat_of seen p ≡ Some (Holding h) → filter (λ e. e.0 == p) es ≡ [] → seat_of (seen_after m seen es) p ≡ Some (Holding h)
  stays [] seen there none = there
  stays (e ∷ es) seen there none =
      let two = none_first (e.0 == p) e (filter (λ e. e.0 == p) es) refl none in
      stays es (scene m seen e.0 e.1).after (beside seen e.0 e.1 there two.0 ∙ there) two.1
