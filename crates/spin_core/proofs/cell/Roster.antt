-- The views in the invariant: how one of them changes, and how the list begins. Assumes `Logic`.
use Rattle.std.proofs.Common.{◌≡◌, ℕ, zero, suc, ◌+◌, List, [], ◌∷◌, ◌++◌, set, sym, refl, ap, subst, arith, Option, Some, None}
use mathlib.Core.Path.{Path}
use mathlib.Core.Option.{some}
use lib.ListN.{get_elem?}
use mathlib.Mathlib.Data.Part.{◌∈◌}
use seplogic.Ra.Pcs.{OpDef, OpDef-comm}
use seplogic.Ra.Ura.{Ura}
use base.Fraction.{full_share}
use base.Share.{quarter, three_quarters}
use base.FractionLaws.{not-OpDef-full_share}
use base.Share
use base.Stored.{Gv, Coded}
use base.Algebras.{pcs, shares}
use base.Logic.{SProp, ex, guard, upd, via, ex_e, guard_e, guard_i, upd_mono}
use base.Fml.{GName, Share, Fml}
use types.Logic.{Logic}
use types.Keyed.{entry, entries_take, entries_beside, entry_cut, entry_glue, entry_set}
use types.Kit.{‵, raw, ◌⊛◌, given, ◌$◌, ◌∵◌, !, qed, by, move, keep, drop, split, fpick, fpack, pick, learn, check, each, suffices, settle, done, use1, use2, rewrite, fsplit}
use types.Kit as Kit
use Rattle.atomic_table.specs.Seated.{halved, seen}
use Rattle.spin_core.specs.Cell.{HasView, after}
use Rattle.spin_core.specs.CellMemory.{unused, roster, stand}
use Rattle.spin_core.proofs.cell.Parts.{sum}
use Rattle.spin_core.proofs.Signs.{signs}
use Rattle.spin_core.proofs.Lemmas.{lemma, update, cite, updates, renew, settled, having}

module _ {M : Type 1} {𝓤 : Ura M} (𝓛 : Logic 𝓤) {V : Type 0} (cv : Coded V) (γ : GName) where
  open (signs 𝓛) use {◌⊩◌, ◌⊫◌, ◌⊢◌, ◌∗◌, ⟦◌⟧}

  abbrev c : V → Gv
  c = cv.code

  abbrev L : ℕ → V → Fml
  L k v = seen c γ k quarter v

  abbrev R : ℕ → V → Fml
  R k v = seen c γ k three_quarters v

  abbrev Whole : ℕ → Gv → Fml
  Whole k g = entry halved γ k (full_share, g)

  -- a whole entry gets a view, and is split in two parts
  resets : (k : ℕ) (g : Gv) (u : V) → ‵ (Whole k g) ⊫ ‵ (L k u) ⊛ ‵ (R k u)
  resets k g u = let B : Share × Gv → Type 0 = λ x. Path (Share × Gv) x (full_share, c u) in let F : Share × Gv → SProp 𝓤 = λ x. guard 𝓤 (B x) ⟦ entry halved γ k x ⟧ in let Z : SProp 𝓤 = ⟦ L k u ⟧ ∗ ⟦ R k u ⟧ in
      update (via 𝓤 (upd 𝓤 (ex 𝓤 F)) (entry_set halved 𝓛 γ k (full_share, g) B ∣ ((full_share, c u), refl) ∣₁
      (λ f d. absurd (not-OpDef-full_share f.0 d.0)))
      (upd_mono 𝓤 {P = ex 𝓤 F} {Q = Z} (ex_e 𝓤 F (λ x. guard_e 𝓤 (B x) ⟦ entry halved γ k x ⟧
      (λ e. subst (λ (y : Share × Gv). ⟦ entry halved γ k y ⟧ ⊢ Z) (sym e)
      (entry_cut halved 𝓛 γ k (quarter, c u) (three_quarters, c u) (full_share, c u)
      (sum (c u) full_share quarter three_quarters Share.quarters)))))))

  joined : (k : ℕ) (w v : V) → ‵ (L k w) ⊛ ‵ (R k v) ⊩ given (w ≡ v) (‵ (Whole k (c w)))
  joined k w v = let F : Share × Gv → SProp 𝓤 = λ x. guard 𝓤 (x ∈ halved.op (quarter, c w) (three_quarters, c v)) ⟦ entry halved γ k x ⟧ in let Z : SProp 𝓤 = guard 𝓤 (w ≡ v) ⟦ Whole k (c w) ⟧ in
      lemma (via 𝓤 (ex 𝓤 F) (entry_glue halved 𝓛 γ k (quarter, c w) (three_quarters, c v))
      (ex_e 𝓤 F (λ x. guard_e 𝓤 (x ∈ halved.op (quarter, c w) (three_quarters, c v)) ⟦ entry halved γ k x ⟧ (λ m.
      subst (λ (y : Share × Gv). ⟦ entry halved γ k y ⟧ ⊢ Z) m.1 (guard_i 𝓤 (w ≡ v) ⟦ Whole k (c w) ⟧ (cv.inj w v m.0.1))))))

  -- the roster and a party's view, if the party is at place i and gets the view `next`
  abbrev Moved : (k : ℕ) (vs : List V) (i j : ℕ) (v : V) → (get_elem? vs i ≡ some v → V) → get_elem? vs i ≡ some v → Kit.Item 𝓤
  Moved k vs i j v next at = ‵ (roster c γ k (set vs i (next at))) ⊛ ‵ (R j (next at))

  -- a party's view is the one in the roster, and both change together
  moves : (vs : List V) (k i j : ℕ) (v : V) (next : get_elem? vs i ≡ some v → V) → j ≡ k + i
      → ‵ (roster c γ k vs) ⊛ ‵ (R j v) ⊫ Kit.some (Moved k vs i j v next)
  moves [] k i j v next e = updates ∵ fpick ! (λ g. move ! (1 ∷ 0 ∷ []) $
      use2 𝓛 (given (OpDef halved.op (three_quarters, c v) (full_share, g)) (‵ (R j v) ⊛ ‵ (unused γ k g)))
      (entries_beside halved 𝓛 γ k j (λ _. (full_share, g)) (three_quarters, c v) (omega arith)) $
      learn ! (λ x. absurd (not-OpDef-full_share three_quarters ((OpDef-comm (pcs shares) {a = three_quarters} {b = full_share}).0 x.0))))
  moves (w ∷ ws) k zero j v next e = let is : j ≡ k = omega arith in updates ∵ fsplit ! $ rewrite ! 2 (λ (m : ℕ). ‵ (R m v)) is refl $
      move ! (0 ∷ 2 ∷ []) $ cite _ (joined k w v) $ learn ! (λ same. let u : V = next (ap some same) in
      renew (Kit.some (Moved k (w ∷ ws) zero j v next)) _ (resets k (c w) u) $ settled ! _ $ rewrite ! 1 (λ (m : ℕ). ‵ (R m u)) (sym is) refl $
      having ! (Moved k (w ∷ ws) zero j v next) (ap some same) $ move ! (0 ∷ 2 ∷ []) $ Kit.join ! $ done !)
  moves (w ∷ ws) k (suc i) j v next e = updates ∵ fsplit ! $ move ! (1 ∷ 2 ∷ []) $
      renew (Kit.some (Moved k (w ∷ ws) (suc i) j v next)) _ (moves ws (suc k) i j v next (omega arith)) $
      pick ! (λ at. split ! $ settled ! _ $ having ! (Moved k (w ∷ ws) (suc i) j v next) at $ move ! (2 ∷ 0 ∷ []) $ Kit.join ! $ done !)

  abbrev Joined : ℕ → List V → V → Kit.Item 𝓤
  Joined k vs u = ‵ (roster c γ k (vs ++ u ∷ [])) ⊛ ‵ (stand c γ (Some u))

  -- a new party takes the first unused entry
  joins : (vs : List V) (k : ℕ) (u : V) → ‵ (roster c γ k vs) ⊫ Joined k vs u
  joins [] k u = updates ∵ fpick ! (λ g.
      use1 𝓛 (‵ (Whole k g) ⊛ ‵ (unused γ (suc k) g)) (entries_take halved 𝓛 γ k (λ _. (full_share, g))) $ split ! $
      renew (Joined k [] u) _ (resets k g u) $ settled ! _ $
      move ! (1 ∷ []) $ fpack ! ℕ (λ i. R i u) k $ move ! (2 ∷ []) $ fpack ! Gv (unused γ (suc k)) g $ move ! (2 ∷ 0 ∷ []) $ Kit.join ! $ done !)
  joins (w ∷ ws) k u = updates ∵ fsplit ! $ move ! (1 ∷ []) $ renew (Joined k (w ∷ ws) u) _ (joins ws (suc k) u) $
      settled ! _ $ move ! (2 ∷ 0 ∷ []) $ Kit.join ! $ done !

  -- the roster and the party's view, after the party got the view `next` at its place z.0
  abbrev pub Placed : (view : Option V) (vs : List V) → ((id : ℕ) → HasView id view vs → V) → (id : ℕ) × HasView id view vs → Kit.Item 𝓤
  Placed view vs next z = ‵ (roster c γ 0 (after z.0 view vs (next z.0 z.1))) ⊛ ‵ (stand c γ (Some (next z.0 z.1)))

  -- a party has a place among the views, or takes the place after the last one; at its place it gets any view
  pub places : (view : Option V) (vs : List V) (next : (id : ℕ) → HasView id view vs → V)
      → ‵ (roster c γ 0 vs) ⊛ ‵ (stand c γ view) ⊫ Kit.some (Placed view vs next)
  places None vs next = updates ∵ renew (Kit.some (Placed None vs next)) _ (joins vs 0 (next 0 tt)) $ settled ! _ $
      having ! (Placed None vs next) (0, tt) $ keep ! (0 ∷ 1 ∷ []) $ done !
  places (Some v) vs next = updates ∵ move ! (1 ∷ []) $ fpick ! (λ id. move ! (1 ∷ 0 ∷ []) $
      renew (Kit.some (Placed (Some v) vs next)) _ (moves vs 0 id id v (next id) (omega arith)) $
      pick ! (λ at. split ! $ settled ! _ $ having ! (Placed (Some v) vs next) (id, at) $
      move ! (1 ∷ []) $ fpack ! ℕ (λ i. R i (next id at)) id $ move ! (1 ∷ 0 ∷ []) $ done !))

  -- unused entries become a roster of these views, whose parties no longer have a permit
  pub enrols : (vs : List V) (k : ℕ) (g : Gv) → ‵ (unused γ k g) ⊫ ‵ (roster c γ k vs)
  enrols [] k g = updates ∵ settled ! _ $ fpack ! Gv (unused γ k) g $ done !
  enrols (w ∷ ws) k g = updates ∵ use1 𝓛 (‵ (Whole k g) ⊛ ‵ (unused γ (suc k) g)) (entries_take halved 𝓛 γ k (λ _. (full_share, g))) $ split ! $
      renew (‵ (roster c γ k (w ∷ ws))) _ (resets k g w) $ move ! (2 ∷ []) $
      renew (‵ (roster c γ k (w ∷ ws))) _ (enrols ws (suc k) g) $ settled ! _ $ keep ! (1 ∷ 0 ∷ []) $ done !
