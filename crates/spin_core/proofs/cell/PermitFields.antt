-- The machine value of a permit or a write permit: a pointer to the cell and an empty marker. Assumes `Logic`.
use Rattle.std.proofs.Common.{arith, ◌&&◌, Bool, ◌≡◌, ℕ, T, List, [], ◌∷◌, ◌++◌, refl, sym, subst, ap, ◌∙◌, Option, Some, None}
use seplogic.Ra.Ura.{Ura}
use mir.Syntax.{ty_ptr, ty_struct, tcons, tnil}
use mir.Val.{Val, vstruct, vcons, vnil, of_list, has_ty, WT}
use base.Logic.{ent, emp, never_e}
use base.Fml.{Lft}
use base.Stored.{Gv}
use contract.Monad.{fact, fact_i}
use types.Logic.{Logic, sem}
use denote.RattleType.{RattleType}
use denote.Laws.{Is}
use denote.Ref.{NamedLft, ShrRef}
use denote.Opens.{Opens}
use denote.Copied.{Struct-Copied}
use denote.RawPtr.{Ptr, InBlock, block_ptr, null_ptr, ptr_val}
use denote.Shadow.{makes_shadow}
use denote.Struct.Laws.{RawPtr-copy, field_copy}
use denote.Struct.Struct.{Struct}
use denote.Struct.Owning.{shape}
use Rattle.core.specs.contracts.marker.PhantomData as marker
use Rattle.spin_core.specs.declared.cell.Rule.{Ghosts}
use Rattle.spin_core.specs.Cell.{Use, reads, Ways, use_of}
use Rattle.spin_core.specs.CellMemory.{reader_shares, permit_shares}
use Rattle.spin_core.specs.contracts.cell.Permit as permit
use Rattle.spin_core.specs.contracts.cell.WritePermit as pen
use Rattle.spin_core.proofs.Walking.{Spelled}

pub both : (a b : Bool) → T a → T b → T (a && b)
both a b h k = grind arith

abbrev pub hand_of : Ptr → Val
hand_of p = vstruct (vcons (ptr_val p) (vcons (vstruct vnil) vnil))

pub typed : (p : Ptr) → InBlock p → T (has_ty (ty_struct [] (tcons ty_ptr (tcons (ty_struct [] tnil) tnil))) (hand_of p)) × WT (hand_of p)
typed p i = grind arith

pub pointer : (p : Ptr) → InBlock p → T (has_ty ty_ptr (ptr_val p)) × WT (ptr_val p)
pointer p i = grind arith

module _ (a : NamedLft) (R V Y K S : RattleType) (g : Ghosts Y.Denot R.Denot V.Denot K.Denot S.Denot) where
  -- the machine words of a permit; a write permit has the same
  abbrev pub Words : RattleType
  Words = Struct (shape (permit.the_type a R V Y K S g))

  pub told : (p : Ptr) (vs : List Val) → Is Words (p, (tt, tt)) vs → vs ≡ hand_of p ∷ []
  told p vs is = is.1.0 ∙ ap (λ (ws : List Val). vstruct (of_list (ws ++ (is.0.1.0 ++ []))) ∷ []) is.1.1.0 ∙ ap (λ (ws : List Val). vstruct (of_list (ptr_val p ∷ (ws ++ []))) ∷ []) is.1.1.1.0.1.0

  abbrev pub as_hand : Spelled (permit.the_row a R V Y K S g)
  as_hand = ((λ x. hand_of x.cell ∷ []), (λ x vs is. told x.cell vs is.0))

  abbrev pub as_pen : Spelled (pen.the_row a R V Y K S g)
  as_pen = ((λ x. hand_of x.cell ∷ []), (λ x vs is. told x.cell vs is.0))

  module _ {M : Type 1} {𝓤 : Ura M} (𝓛 : Logic 𝓤) where
    pub made : (p : Ptr) → ent 𝓤 (emp 𝓤) (sem 𝓛 (Words.own_val (p, (tt, tt)) (hand_of p ∷ [])))
    made p = makes_shadow 𝓛 (Words.own_val (p, (tt, tt)) (hand_of p ∷ [])) (λ vss. (tt, (tt, ((λ uss. (tt, tt)), tt)))) ((ptr_val p ∷ [], (vstruct vnil ∷ [], tt)), (refl, (refl, ((tt, (refl, tt)), tt))))

  pub opened : {M : Type 1} {𝓤 : Ura M} (𝓛 : Logic 𝓤) → Opens 𝓛 Words
  opened {M} {𝓤 = 𝓤} 𝓛 = (Struct-Copied 𝓛 (shape (permit.the_type a R V Y K S g)) (refl, (refl, tt)) (RawPtr-copy.copied M 𝓤 𝓛, ((field_copy (marker.the_type (ShrRef a.mir a.lft R)) tt).copied M 𝓤 𝓛, tt))).opens

module _ {M : Type 1} {𝓤 : Ura M} (𝓛 : Logic 𝓤) (Y R : RattleType) {V : Type 0} (c : V → Gv) (S : RattleType) (holds : ℕ → S.Denot → List V → Type 0) (ways : Ways R.Denot V S.Denot) (β : Lft) where
  seen_at : (b o : ℕ) (v : Option R.Denot) (κ : Lft) → ent 𝓤 (sem 𝓛 (reader_shares Y R c S holds ways β b o reads v κ)) (fact 𝓤 (Unit {0} × ((x : R.Denot) × (v ≡ Some x))))
  seen_at b o (Some x) κ = fact_i 𝓤 (Unit {0} × ((y : R.Denot) × (Some x ≡ Some y))) _ (tt, (x, refl))
  seen_at b o None κ = never_e 𝓤 _

  pub sees : (p : Ptr) (view : Option V) (v : Option R.Denot) (κ : Lft) → use_of ways.1 view ≡ reads → ent 𝓤 (sem 𝓛 (permit_shares Y R c S holds ways β p view v κ)) (fact 𝓤 (InBlock p × ((x : R.Denot) × (v ≡ Some x))))
  sees null_ptr view v κ e = never_e 𝓤 _
  sees (block_ptr b o) view v κ e = let Seen : Option R.Denot → Type 0 = λ z. Unit {0} × ((x : R.Denot) × (z ≡ Some x)) in
      subst (λ (u : Use). ent 𝓤 (sem 𝓛 (reader_shares Y R c S holds ways β b o u v κ)) (fact 𝓤 (Seen v))) (sym e) (seen_at b o v κ)
