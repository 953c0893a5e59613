-- How a permit is made, and how a permit becomes a write permit or a write permit a permit. Assumes `Logic`.
use Rattle.std.proofs.Common.{◌≡◌, refl, ℕ, List, [], ◌∷◌, Option, Some, None}
use seplogic.Ra.Ura.{Ura}
use base.Stored.{Gv}
use base.Logic.{never_e}
use base.Fml.{Lft, Fml, ffalse, fex}
use types.Logic.{Logic}
use types.Kit.{‵, ◌⊛◌, some, given, ◌$◌, ◌∵◌, !, keep, fsplit3, fjoin3, fpick, fpack, check, by, rewrite, done, Item}
use denote.RattleType.{RattleType}
use denote.RawPtr.{Ptr, block_ptr, null_ptr}
use Rattle.spin_core.specs.Cell.{Use, writes, Ways, use_of}
use Rattle.spin_core.specs.CellMemory.{Known, Id, kept, stand, right, permit_at, permit_owns, writer_owns}
use Rattle.spin_core.proofs.Signs.{signs}
use Rattle.spin_core.proofs.Lemmas.{script, lemma, having}

module _ {M : Type 1} {𝓤 : Ura M} (𝓛 : Logic 𝓤) (Y R : RattleType) {V : Type 0} (c : V → Gv) (S : RattleType)
    (holds : ℕ → S.Denot → List V → Type 0) (ways : Ways R.Denot V S.Denot) (β : Lft) where
  open (signs 𝓛) use {◌⊩◌}

  abbrev Owns : Ptr → Option V → Option R.Denot → Fml
  Owns = permit_owns Y R c S holds ways β

  module _ (b o : ℕ) (view : Option V) where
    pub permit_in : (u : Use) (x : Option R.Denot) → Known ways Y S R → (t : Id)
        → ‵ (kept R b o t c S holds ways β) ⊛ ‵ (stand c t.views view) ⊛ ‵ (right R b o t ways.0 u x)
        ⊩ ‵ (fex (Known ways Y S R) (λ _. fex Id (permit_at Y R c S holds ways β b o view u x)))
    permit_in u x known t = let At : Id → Fml = permit_at Y R c S holds ways β b o view u x in
        script ∵ fjoin3 ! $ fpack ! Id At t $ fpack ! (Known ways Y S R) (λ _. fex Id At) known $ done !

    -- a permit whose view uses the value has a value
    pub has_value : {u : Use} → use_of ways.1 view ≡ u → ((t : Id) → right R b o t ways.0 u None ≡ ffalse)
        → (k : Item 𝓤) → ‵ (Owns (block_ptr b o) view None) ⊩ k
    has_value is never k = script ∵ fpick ! (λ known. fpick ! (λ t. fsplit3 ! $ keep ! (2 ∷ []) $
        rewrite ! 0 (λ (w : Use). ‵ (right R b o t ways.0 w None)) is refl $
        rewrite ! 0 (λ (F : Fml). ‵ F) (never t) refl $ by ! (never_e 𝓤 _)))

  -- the write permit, if the permit has the view and the value s
  abbrev As : Ptr → Option V → Option R.Denot → V × R.Denot → Item 𝓤
  As p view v s = given ((view ≡ Some s.0) × (v ≡ Some s.1)) (‵ (writer_owns Y R c S holds ways β p s.0 s.1))

  -- a permit whose view writes becomes a write permit with its value
  pub to_writer : (p : Ptr) (view : Option V) (v : Option R.Denot) → use_of ways.1 view ≡ writes
      → ‵ (Owns p view v) ⊩ some (As p view v)
  to_writer null_ptr view v e = lemma (never_e 𝓤 _)
  to_writer (block_ptr b o) None v e = absurd cc
  to_writer (block_ptr b o) (Some w) None e = has_value b o (Some w) e (λ t. refl) _
  to_writer (block_ptr b o) (Some w) (Some x) e = let p : Ptr = block_ptr b o in
      script ∵ fpack ! (ways.1 w ≡ writes) (λ _. Owns p (Some w) (Some x)) e $
      having ! (As p (Some w) (Some x)) (w, x) $ check ! (refl, refl) $ done !

  pub from_writer : (p : Ptr) (w : V) (x : R.Denot)
      → ‵ (writer_owns Y R c S holds ways β p w x) ⊩ given (ways.1 w ≡ writes) (‵ (Owns p (Some w) (Some x)))
  from_writer null_ptr w x = lemma (never_e 𝓤 _)
  from_writer (block_ptr b o) w x = script ∵ fpick ! (λ e. check ! e $ done !)
