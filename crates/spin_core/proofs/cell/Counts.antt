-- Sums over the views: when they are zero, and how they change when a party gets a new view or leaves.
use Rattle.std.proofs.Common.{◌≡◌, ℕ, zero, suc, ◌+◌, List, [], ◌∷◌, ◌++◌, length, refl, ap, arith}
use Rattle.std.specs.Prelude.{Option, Some, None, sum_by}
use Rattle.std.proofs.Math.Seq.{set-append_seam}
use Rattle.std.proofs.lemmas.List.Sums.{sum_by-cons, sum_by-append, sum_by_push}
use mathlib.Core.Option.{some, some-injective, some-ne-none}
use mathlib.Core.Path.{sym}
use lib.ListN.{get_elem?}
use Rattle.spin_core.specs.Cell.{HasView, after}

-- the party with the view v is at place id, with others before it and behind it
pub around : {X : Type 0} (vs : List X) (id : ℕ) (v : X) → get_elem? vs id ≡ some v
    → (before : List X) × (behind : List X) × (vs ≡ before ++ v ∷ behind) × (id ≡ length before)
around [] id v at = absurd (some-ne-none v (sym at))
around (x ∷ xs) zero v at = ([], xs, ap (λ y. y ∷ xs) (some-injective x v at), refl)
around (x ∷ xs) (suc id) v at = let r = around xs id v at in (x ∷ r.0, r.1, ap (λ ys. x ∷ ys) r.2, ap suc r.3)

-- what one party adds to a sum
abbrev pub part_of : {V : Type 0} → (V → ℕ) → Option V → ℕ
part_of g view = elim view [ None ↦ 0 | Some v ↦ g v ]

module _ {V : Type 0} (g : V → ℕ) where
  pub none : ((v : V) → g v ≡ 0) → (vs : List V) → sum_by g vs ≡ 0
  none zeros [] = refl
  none zeros (v ∷ vs) = omega (arith, zeros v, sum_by-cons g v vs, none zeros vs)

  pub without : (before behind : List V) (v : V) → sum_by g (before ++ v ∷ behind) ≡ g v + sum_by g (before ++ behind)
  without before behind v = omega (arith, sum_by-append g before (v ∷ behind), sum_by-append g before behind, sum_by-cons g v behind)

  -- the sum is the party's part plus a rest, which does not change when the party gets another view
  pub splits : (id : ℕ) (view : Option V) (vs : List V) → HasView id view vs
      → (k : ℕ) × (sum_by g vs ≡ k + part_of g view) × ((w : V) → sum_by g (after id view vs w) ≡ k + g w)
  splits id None vs h = (sum_by g vs, omega arith, λ w. omega (arith, sum_by_push g vs w))
  splits id (Some v) vs h =
      let (us, ws, is, at) = around vs id v h in let now : (w : V) → after id (Some v) vs w ≡ us ++ w ∷ ws = λ w. cc (set-append_seam us v ws w) in
      (sum_by g (us ++ ws), omega (arith, ap (sum_by g) is, without us ws v), λ w. omega (arith, ap (sum_by g) (now w), without us ws w))

  -- the sum loses the party's old part and gains its new one
  pub moves : (id : ℕ) (view : Option V) (vs : List V) (w : V) → HasView id view vs → sum_by g (after id view vs w) + part_of g view ≡ sum_by g vs + g w
  moves id view vs w h = let s = splits id view vs h in omega (arith, s.1, s.2 w)
