-- How the borrow of the value is taken out of a write permit, either for the rest of the cell's borrow or for a
-- borrow of the permit. In the second case the permit follows the borrowed value. Assumes `Logic`.
use Rattle.std.proofs.Common.{◌≡◌, ℕ, ◌+◌, List, [], ◌∷◌, ◌++◌, refl, sym, Some}
use seplogic.Ra.Ura.{Ura}
use mir.Syntax.{Lifetime}
use base.Logic.{SProp, all, all_e, apply∗}
use base.Fml.{Lft, GName, Share, Incl, Incl-refl, Fml, fobs, fbor, flft}
use base.Stored.{Gv}
use base.Before.{before, chain}
use types.Logic.{Logic}
use types.SemTy.{Body}
use types.Kit.{‵, raw, ◌⊛◌, some, later, ◌$◌, ◌∵◌, !, by, move, drop, split, split3, fsplit, fsplit3, fjoin, fjoin3, fpick, fpack, pick, frame, each, assume, rewrite, feq_i, use1, use2, use3, await, updating, now, done, Item}
use types.Tokens.{shr_bor_dup}
use types.Na.{before_dup}
use types.Frac.{lent_meet}
use types.Within.{bor-within}
use denote.RattleType.{RattleType}
use denote.Memory.{mem}
use denote.Ref.{MutBor, mut_vals, MutRef}
use denote.RawPtr.{block_ptr}
use denote.Follow.{follows}
use denote.Through.{renamed}
use Rattle.core.proofs.cell.Through.{hands_before}
use Rattle.spin_core.specs.Cell.{Use, Ways, writes}
use Rattle.spin_core.specs.CellMemory.{Id, offset, named, tracked, right, permit_owns, writer_owns}
use Rattle.spin_core.proofs.cell.Walks.{permit_in}
use Rattle.spin_core.proofs.Signs.{signs}
use Rattle.spin_core.proofs.Lemmas.{script, cite, twice, having}

module _ {M : Type 1} {𝓤 : Ura M} (𝓛 : Logic 𝓤) where
  open 𝓛 use {H, A}
  open (signs 𝓛) use {◌⊩◌, ◌⊢◌, ◌∗◌, ◌-∗◌, ⟦◌⟧}

  -- a borrow lasts for any lifetime that ends before its own, as this chain of lifetimes shows
  pub lasts : (νs : List Lft) (κ α : Lft) (q : Share) (P : Fml)
      → ‵ (chain νs κ α) ⊛ ‵ (fbor α P) ⊛ ‵ (flft κ q) ⊩ later (‵ (fbor κ P) ⊛ ‵ (flft κ q))
  lasts [] κ α q P = script ∵ updating ! $ fpick ! (λ h. drop ! $
      use1 𝓛 (‵ (fbor κ P)) (𝓛.bors.bor_shorten α κ P h) $ now ! $ done !)
  lasts (ν ∷ νs) κ α q P = script ∵ updating ! $ fsplit ! $ shr_bor_dup ! $ move ! (0 ∷ 4 ∷ []) $
      use2 𝓛 (later (some (λ (r : Share). ‵ (flft (ν ++ κ) r) ⊛ raw (A.lft (ν ++ κ) r -∗ H.⇛ (A.lft κ q))))) (lent_meet 𝓛 κ ν κ q (Incl-refl κ)) $ await ! tt $ pick ! (λ r. split ! $ move ! (3 ∷ 4 ∷ 0 ∷ []) $
      cite _ (lasts νs (ν ++ κ) α r P) $ await ! tt $ split ! $ move ! (1 ∷ 2 ∷ []) $
      use2 𝓛 (later (‵ (flft κ q))) (apply∗ 𝓤 (A.lft (ν ++ κ) r) (H.⇛ (A.lft κ q))) $ await ! tt $ move ! (2 ∷ 1 ∷ 0 ∷ []) $
      use3 𝓛 (later (‵ (fbor κ P) ⊛ ‵ (flft κ q))) (bor-within 𝓛 κ ν q P) $ await ! tt $ now ! $ done !)

  module _ (R : RattleType) (β : Lft) (b o : ℕ) (P : R.Denot → Fml) where
    abbrev pub Back : Id → R.Denot → SProp 𝓤
    Back t z = ⟦ tracked R b o t z ⟧ -∗ ⟦ P z ⟧

    -- the borrow of the value x, with the way to make P again from the borrow of any value
    abbrev pub Cut : R.Denot → Id → Item 𝓤
    Cut x t = ‵ (before β t.life) ⊛ ‵ (fobs t.value (R.coded.code x)) ⊛ ‵ (fbor t.life (named R b o t))
        ⊛ raw (all 𝓤 (Back t))

    pub again : (t : Id) (z : R.Denot) → raw (all 𝓤 (Back t)) ⊛ ‵ (tracked R b o t z) ⊩ ‵ (P z)
    again t z = script ∵ use1 𝓛 (raw (Back t z)) (all_e 𝓤 (Back t) z) $ move ! (1 ∷ 0 ∷ []) $
        by ! (apply∗ 𝓤 ⟦ tracked R b o t z ⟧ ⟦ P z ⟧)

  module _ (Y R : RattleType) {V : Type 0} (c : V → Gv) (S : RattleType) (holds : ℕ → S.Denot → List V → Type 0)
      (ways : Ways R.Denot V S.Denot) (β : Lft) (b o : ℕ) (view : V) where
    abbrev Pen : R.Denot → Fml
    Pen x = writer_owns Y R c S holds ways β (block_ptr b o) view x

    abbrev Owned : Id → R.Denot → Use → Item 𝓤
    Owned t z u = ‵ (right R b o t ways.0 u (Some z))

    pub cuts : (x : R.Denot) → ‵ (Pen x) ⊩ some (Cut R β b o Pen x)
    cuts x = script ∵ fpick ! (λ so. fpick ! (λ known. fpick ! (λ t. fsplit3 ! $ fsplit ! $
        twice ! (before_dup 𝓛 β t.life) $ move ! (4 ∷ []) $ rewrite ! 0 (Owned t x) so refl $ fsplit ! $
        move ! (2 ∷ []) $ having ! (Cut R β b o Pen x) t $
        -- context: [`before β t.life`; the value's borrow, in two parts; `before β t.life`; the invariant; the view]
        frame ! $ frame ! $ frame ! $ each ! (Back R β b o Pen t) (λ z. assume ! (‵ (tracked R b o t z)) $
        rewrite ! 0 (Owned t z) (sym so) refl $ move ! (1 ∷ 2 ∷ []) $ fjoin ! $ move ! (0 ∷ 2 ∷ 1 ∷ []) $
        cite _ (permit_in 𝓛 Y R c S holds ways β b o (Some view) (ways.1 view) (Some z) known t) $
        fpack ! (ways.1 view ≡ writes) (λ _. permit_owns Y R c S holds ways β (block_ptr b o) (Some view) (Some z)) so $
        done !))))

  -- an object that contains the value, with a reference m to it
  module _ (R G : RattleType) (β : Lft) (b o : ℕ) (F : R.Denot → G.Denot) (inj : (x z : R.Denot) → F x ≡ F z → x ≡ z)
      (ℓ : Lifetime) (κ : Lft) (inc : Incl κ β) (q : Share) (m : MutBor G.Denot) where
    abbrev Whole : R.Denot → Fml
    Whole z = (mem G).own_at (F z) m.ref_ptr.0 m.ref_ptr.1

    abbrev inside : R.Denot → MutBor R.Denot
    inside x = record { ref_ptr = (b, o + offset R); ghost_name = m.ghost_name; now = x }

    whole : (t : Id) (z : R.Denot) → Cut R β b o Whole z t ⊩ ‵ (Whole z)
    whole t z = script ∵ drop ! $ fjoin ! $ move ! (1 ∷ 0 ∷ []) $ by ! (again R β b o Whole t z).prf

    -- A reference to the value. It lasts as long as m. The object follows the value.
    abbrev Lending : R.Denot → GName → Item 𝓤
    Lending x δ = ‵ ((MutRef ℓ κ R).own_val (renamed (inside x) δ) (mut_vals (inside x))) ⊛ ‵ (flft κ q)
        ⊛ ‵ (follows G R m.ghost_name δ F)

    pub through : (x : R.Denot) → ‵ ((mem G).own_at m.now m.ref_ptr.0 m.ref_ptr.1) ⊩ some (Cut R β b o Whole x)
        → ‵ (fobs m.ghost_name (G.coded.code m.now)) ⊛ ‵ (fbor κ (Body (mem G) m.ref_ptr.0 m.ref_ptr.1 m.ghost_name))
        ⊛ ‵ (flft κ q) ⊩ later (some (Lending x))
    through x cut = let place : ℕ = o + offset R in script ∵ updating ! $
        use3 𝓛 (later (some (λ (γ : GName). ‵ (fobs γ (R.coded.code x)) ⊛ ‵ (fbor κ (Body (mem R) b place γ))
        ⊛ ‵ (flft κ q) ⊛ ‵ (follows G R m.ghost_name γ F))))
        (hands_before 𝓛 (mem G) (mem R) F inj m.ref_ptr.0 m.ref_ptr.1 b place m.ghost_name κ β inc Id (λ t. t.life)
        (λ t. t.value) (λ t. all 𝓤 (Back R β b o Whole t)) (λ t z. (whole t z).prf) q m.now x cut.prf) $
        await ! tt $ pick ! (λ γ. split3 ! $ feq_i ! _ (mut_vals (inside x)) _ refl $
        fjoin3 ! $ now ! $ having ! (Lending x) γ $ done !)
