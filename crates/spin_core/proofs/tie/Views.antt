-- A party's open step in the plain lock gives it a new view in the list of views.
use Rattle.std.proofs.Common.{◌≡◌, ℕ, zero, suc, pred, ◌≤◌, List, [], ◌∷◌, ◌++◌, length, set, Option, Some, None, ap, ◌∙◌, arith}
use mathlib.Core.Option.{some}
use mathlib.Core.Logic.{dite}
use native.Mathlib.Decide.{ℕ_discrete}
use lib.ListN.{get_elem?}
use Rattle.std.proofs.lemmas.Option.{slice_get_past}
use Rattle.std.specs.Prelude.{slice_get}
use Rattle.spin_step.specs.Plain.{Plain, Kind, Change, releases, turns}
use Rattle.spin_step.specs.Parties.{entries_after, apply_some, IsOpenStep}
use Rattle.spin_core.specs.Cell.{HasView, after}
use Rattle.spin_core.proofs.cell.Counts.{around}
use Rattle.spin_core.proofs.tie.Runs.{get_seam}
use Rattle.spin_core.specs.Views.{Part, idle, holds, entries_of_part, KnowsServed, HasPart, part_at, IsLockOf}
use Rattle.spin_step.specs.Orders.{IsInOrder}
use Rattle.spin_step.proofs.Entries.{entries-own, entries-other}
use Rattle.spin_step.proofs.Holders.{same_kind-self}
use Rattle.spin_step.proofs.Tickets.{serving-steps}

knows-kept : (s : Plain) (p : ℕ) (step : Option Change) (x : Part) → IsInOrder s → IsOpenStep s p step → KnowsServed s x → KnowsServed (apply_some s step) x
knows-kept s p step x order may known = grind (arith, serving-steps, order.numbered.0)

-- What a party's own steps do to its entries.

pub release-own : (s : Plain) (p : ℕ) (k : Kind) → entries_after s (Some (releases p k)) (entries_of_part p (holds k)) ≡ entries_of_part p idle
release-own s p k = grind (arith, same_kind-self k)

pub turn-own : (s : Plain) (p : ℕ) (k l : Kind) → entries_after s (Some (turns p k l)) (entries_of_part p (holds k)) ≡ entries_of_part p (holds l)
turn-own s p k l = grind (arith, same_kind-self k)

module _ {V : Type 0} (part : V → Part) where
  -- the number of the party whose step it is
  abbrev pub number : ℕ → Option V → List V → ℕ
  number id None vs = length vs
  number id (Some v) vs = id

  -- the part of a party before its step
  abbrev pub part_before : Option V → Part
  part_before None = idle
  part_before (Some v) = part v

  pub part-there : (p : ℕ) (v : V) (vs : List V) → slice_get vs p ≡ Some v → part_at part vs p ≡ part v
  part-there p v vs at = rw at

  pub part-beyond : (p : ℕ) (vs : List V) → length vs ≤ p → part_at part vs p ≡ idle
  part-beyond p vs far = rw (slice_get_past vs p far)

  was : (id : ℕ) (view : Option V) (vs : List V) → HasView id view vs → part_at part vs (number id view vs) ≡ part_before view
  was id None vs at = part-beyond (length vs) vs (omega arith)
  was id (Some v) vs at = let (us, ws, is, here) = around vs id v at in cc (part-there (length us) v (us ++ v ∷ ws) (get_seam us v ws))

  -- party p gets the part of its new view, and the others keep theirs
  abbrev Moves : ℕ → List V → List V → V → ℕ → Type 0
  Moves p vs new w q = (part_at part new p ≡ part w) × ((p ≡ q → ⊥) → part_at part new q ≡ part_at part vs q)

  joins : (vs : List V) (w : V) (q : ℕ) → Moves (length vs) vs (vs ++ w ∷ []) w q
  joins [] w q = grind arith
  joins (v ∷ vs) w q = grind (arith, joins vs w (pred q))

  changes : (id : ℕ) (v : V) (vs : List V) (w : V) (q : ℕ) → get_elem? vs id ≡ some v → Moves id vs (set vs id w) w q
  changes id v [] w q at = absurd (cc (at))
  changes zero v (x ∷ vs) w q at = grind arith
  changes (suc id) v (x ∷ vs) w q at = grind (arith, changes id v vs w (pred q))

  moves : (id : ℕ) (view : Option V) (vs : List V) (w : V) (q : ℕ) → HasView id view vs → Moves (number id view vs) vs (after id view vs w) w q
  moves id None vs w q at = joins vs w q
  moves id (Some v) vs w q at = changes id v vs w q at

  pub own_part : (id : ℕ) (view : Option V) (vs : List V) (s : Plain) → HasView id view vs → IsLockOf part vs s → HasPart s (number id view vs) (part_before view)
  own_part id view vs s at is = rw (was id view vs at) at (is (number id view vs))

  -- a party's open step, or no step, after which the party has the part of its next view
  pub lock_after : (id : ℕ) (view : Option V) (vs : List V) (w : V) (s : Plain) (step : Option Change) → HasView id view vs → IsInOrder s → IsLockOf part vs s
      → IsOpenStep s (number id view vs) step → entries_after s step (entries_of_part (number id view vs) (part_before view)) ≡ entries_of_part (number id view vs) (part w) → KnowsServed (apply_some s step) (part w)
      → IsLockOf part (after id view vs w) (apply_some s step)
  lock_after id view vs w s step at order is may becomes known q =
      let p : ℕ = number id view vs in let m = moves id view vs w q at in let had = own_part id view vs s at is in
      let kept = knows-kept s p step (part_at part vs q) order may (is q).1 in dite (ℕ_discrete p q)
      (λ e. rw (← e, m.0) (entries-own s p step may ∙ (ap (entries_after s step) had.0 ∙ becomes), known))
      (λ ne. rw (m.1 ne) (entries-other s p q step ne may ∙ (is q).0, kept))
