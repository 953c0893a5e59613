-- Where all lines are in order, nobody starves: from the highest rank down, and for one lock from the front back.
use Rattle.std.proofs.Common.{◌≡◌, ℕ, zero, suc, ◌+◌, ◌-◌, ◌<◌, ◌≤◌, ⊎_elim, Some, List, [], ◌∷◌, slice_get, refl, subst, arith}
use Rattle.spin_laws.specs.Served.{RankBelow, IsAt, IsFirst, IsFirstLater, LinesAreInOrder, ServeInOrder, WaitsEnd, SectionsEnd, NobodyStarves}

first_of : (xs : List ℕ) (i p : ℕ) → slice_get xs (suc i) ≡ Some p → (h : ℕ) × (slice_get xs 0 ≡ Some h)
first_of [] i p is = absurd (grind (arith, is))
first_of (h ∷ xs) i p is = (h, refl)

module _ {X : Type 0} (line : ℕ → X → List ℕ) (serve : ServeInOrder line) where
  abbrev MovesUp : ℕ → X → ℕ → ℕ → Type 0
  MovesUp t x i p = (v : ℕ) × (t ≤ v) × IsAt line v x i p

  -- once the first has left, who stood behind has moved up
  moves_up : (d t u : ℕ) (x : X) (i h p : ℕ) → u ≡ t + d → IsFirst line t x h → IsAt line t x (suc i) p → (IsFirst line u x h → ⊥) → MovesUp t x i p
  moves_up zero t u x i h p is first at left = absurd (left (let same : t ≡ u = omega (arith, is) in subst (λ v. IsFirst line v x h) same first))
  moves_up (suc d) t u x i h p is first at left =
      ⊎_elim
      (λ (stay : (i p : ℕ) → IsAt line t x i p → IsAt line (suc t) x i p).
      let far : MovesUp (suc t) x i p = moves_up d (suc t) u x i h p (omega (arith, is)) (stay 0 h first) (stay (suc i) p at) left in
      let up : MovesUp t x i p = (far.0, omega (arith, far.1), far.2) in up)
      (λ (moved : (i p : ℕ) → IsAt line t x (suc i) p → IsAt line (suc t) x i p).
      let up : MovesUp t x i p = (suc t, omega (arith), moved i p at) in up)
      (serve t x)

  module _ (rank : X → ℕ) (ranks : ℕ) (below : RankBelow ranks rank) (orders : LinesAreInOrder line rank) (ends : SectionsEnd line) where
    abbrev Granted : X → Type 0
    Granted x = (t i p : ℕ) → IsAt line t x i p → IsFirstLater line t x p

    -- for one lock, if nobody starves in the lines of higher ranks
    in_line : (x : X) → ((y : X) → rank x < rank y → Granted y) → (i t p : ℕ) → IsAt line t x i p → IsFirstLater line t x p
    in_line x higher zero t p at = (t, omega (arith), at)
    in_line x higher (suc i) t p at =
        let h = first_of (line t x) i p at in
        let waits : WaitsEnd line t x h.0 = λ u y j from first is. higher y (orders u x y h.0 j first is) u (suc j) h.0 is in
        let end = ends t x h.0 h.1 waits in
        let up : MovesUp t x i p = moves_up (end.0 - t) t end.0 x i h.0 p (omega (arith, end.1)) h.1 at end.2 in
        let far : IsFirstLater line up.0 x p = in_line x higher i up.0 p up.2 in
        (far.0, omega (arith, far.1, up.1), far.2)

    from_above : (k : ℕ) (x : X) → ranks ≤ rank x + k → Granted x
    from_above zero x near = absurd (let less = below x in omega (arith, less, near))
    from_above (suc k) x near = λ t i p at. in_line x (λ y more. from_above k y (omega (arith, near, more))) i t p at

    pub nobody_starves : NobodyStarves line
    nobody_starves t x i p at = from_above ranks x (omega (arith)) t i p at
