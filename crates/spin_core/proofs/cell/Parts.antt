-- The parts of a round (a lifetime and its value, `Round`): how they are split, joined and compared. Assumes `Logic`.
use Rattle.std.proofs.Common.{◌≡◌, Bool, true, ℕ, zero, suc, ◌+◌, ◌-◌, ◌^◌, ◌<◌, ◌≤◌, [], ◌∷◌, refl, arith}
use mathlib.Mathlib.Data.Part.{◌∈◌}
use seplogic.Ra.Ura.{Ura}
use seplogic.Ra.Constructions.Prod
use seplogic.Ra.Instances.Ag
use base.Share
use base.Fraction.{full_share}
use base.FractionLaws.{Counts, counts_some, Counts-op, Counts-all, not-OpDef-full_share}
use base.Stored.{Gv, coded×, coded_ℕ}
use base.SetCodes.{coded, SetCoded-set}
use base.Logic.{SProp, guard, guard_i, id⊢, via, snd∗}
use base.Fml.{Lft, GName, Share, Fml, fex, flft}
use types.Logic.{Logic}
use types.Kit.{‵, ◌⊛◌, given, ◌$◌, ◌∵◌, !, by, move, split, fsplit, fjoin, fpick, fpack, learn, check, use1, use2, done}
use types.Owned.{own_sum, own_join, own_step}
use denote.RattleType.{RattleType}
use Rattle.atomic_table.specs.Seated.{halved, itself}
use Rattle.spin_core.specs.Cell.{Way, fixes}
use Rattle.spin_core.specs.CellMemory.{Round, round_code, tag, share, parts, Part, piece}
use Rattle.spin_core.proofs.Signs.{signs}
use Rattle.spin_core.proofs.Lemmas.{script, lemma, update, cite}

-- what two shares of one value are together
pub sum : (g : Gv) (r e f : Share) → r ∈ Share.op e f → ◌∈◌ {α = Share × Gv} (r, g) (halved.op (e, g) (f, g))
sum g r e f m = let A = SetCoded-set (coded itself) in
    Prod.mk-mem-op Share.op (Ag.op A) {a = e} {a' = f} {x = r} {b = g} {b' = g} {y = g} m (Ag.idem A g)

module _ {M : Type 1} {𝓤 : Ura M} (𝓛 : Logic 𝓤) (R : RattleType) (γ : GName) where
  open (signs 𝓛) use {◌⊩◌, ◌⊫◌, ◌⊢◌, ◌∗◌, ⟦◌⟧}

  -- some share of the round that satisfies P
  abbrev Some : (Share → Type 0) → Round R → Fml
  Some P s = fex Share (λ e. fex (P e) (λ _. share R γ s e))

  some_in : (P : Share → Type 0) (s : Round R) (e : Share) → P e → ‵ (share R γ s e) ⊩ ‵ (Some P s)
  some_in P s e is = script ∵ fpack ! (P e) (λ _. share R γ s e) is $ fpack ! Share (λ r. fex (P r) (λ _. share R γ s r)) e $ done !

  pub parts_in : (s : Round R) (k : ℕ) (e : Share) → Counts 63 e k → ‵ (share R γ s e) ⊩ ‵ (parts R γ s k)
  parts_in s k = some_in (λ r. Counts 63 r k) s

  cut : (s : Round R) (r e f : Share) → r ∈ Share.op e f → ‵ (share R γ s r) ⊩ ‵ (share R γ s e) ⊛ ‵ (share R γ s f)
  cut s r e f m = let g : Gv = round_code R s in let μ : Lft = s.0 ∷ [] in
      script ∵ fsplit ! $ use1 𝓛 (‵ (flft μ e) ⊛ ‵ (flft μ f)) (𝓛.lfts.lft_cut μ r e f m) $ split ! $ move ! (2 ∷ []) $
      use1 𝓛 (‵ (tag γ e g) ⊛ ‵ (tag γ f g)) (𝓛.algebras.own_cut halved γ (e, g) (f, g) (r, g) (sum g r e f m)) $
      split ! $ move ! (3 ∷ 1 ∷ []) $ fjoin ! $ move ! (2 ∷ 1 ∷ []) $ fjoin ! $ done !

  pub parts_cut : (s : Round R) (k i j : ℕ) → 0 < i → 0 < j → i + j ≡ k → k ≤ 2 ^ 63 → ‵ (parts R γ s k) ⊩ ‵ (parts R γ s i) ⊛ ‵ (parts R γ s j)
  parts_cut s k i j pi pj total fits =
      let e = counts_some 63 i pi (omega arith) in let f = counts_some 63 j pj (omega arith) in
      script ∵ fpick ! (λ r. fpick ! (λ c. cite _ (cut s r e.0 f.0 (Counts-op 63 e.0 f.0 r i j k e.1 f.1 c total)) $
      cite _ (parts_in s i e.0 e.1) $ move ! (1 ∷ []) $ cite _ (parts_in s j f.0 f.1) $ move ! (1 ∷ []) $ done !))

  glued : (s : Round R) (i j : ℕ) (r : Share) → Counts 63 r (i + j) → ‵ (parts R γ s i) ⊛ ‵ (parts R γ s j) ⊩ ‵ (share R γ s r)
  glued s i j r c = let g : Gv = round_code R s in
      script ∵ fpick ! (λ e. fpick ! (λ ce. move ! (1 ∷ []) $ fpick ! (λ f. fpick ! (λ cf. let m = Counts-op 63 e f r i j (i + j) ce cf c refl in
      fsplit ! $ move ! (2 ∷ []) $ fsplit ! $ move ! (1 ∷ 3 ∷ []) $ use2 𝓛 (‵ (tag γ r g)) (own_join 𝓛 halved γ (e, g) (f, g) (r, g) (sum g r e f m)) $
      move ! (1 ∷ 2 ∷ []) $ use2 𝓛 (‵ (flft (s.0 ∷ []) r)) (𝓛.lfts.lft_glue (s.0 ∷ []) r e f m) $ done !))))

  pub parts_glue : (s : Round R) (i j : ℕ) → 0 < i + j → i + j ≤ 2 ^ 63 → ‵ (parts R γ s i) ⊛ ‵ (parts R γ s j) ⊩ ‵ (parts R γ s (i + j))
  parts_glue s i j some fits = let r = counts_some 63 (i + j) some fits in
      script ∵ cite _ (glued s i j r.0 r.1) $ by ! (parts_in s (i + j) r.0 r.1).prf

  -- from all parts r parts can be left out
  pub parts_but : (s : Round R) (r : ℕ) → r < 2 ^ 63 → ‵ (parts R γ s (2 ^ 63)) ⊩ ‵ (parts R γ s (2 ^ 63 - r))
  parts_but s zero small = lemma (id⊢ 𝓤 _)
  parts_but s (suc r) small =
      lemma (via 𝓤 _ (parts_cut s (2 ^ 63) (suc r) (2 ^ 63 - suc r) (omega arith) (omega arith) (omega arith) (omega arith)).prf
      (snd∗ 𝓤 ⟦ parts R γ s (suc r) ⟧ ⟦ parts R γ s (2 ^ 63 - suc r) ⟧))

  pub parts_whole : (s : Round R) → ‵ (parts R γ s (2 ^ 63)) ⊩ ‵ (share R γ s full_share)
  parts_whole s = script ∵
      cite _ (parts_cut s (2 ^ 63) 1 (2 ^ 63 - 1) (omega arith) (omega arith) (omega arith) (omega arith)) $
      by ! (glued s 1 (2 ^ 63 - 1) full_share (Counts-all 63)).prf

  -- two shares under one ghost name are of one round, and so of one value
  shares_agree : (s u : Round R) (e f : Share) → ‵ (share R γ s e) ⊛ ‵ (share R γ u f) ⊩ given (s ≡ u) (‵ (share R γ s e) ⊛ ‵ (share R γ u f))
  shares_agree s u e f = let g : Gv = round_code R s in let h : Gv = round_code R u in let Z : SProp 𝓤 = ⟦ tag γ e g ⟧ ∗ ⟦ tag γ f h ⟧ in
      script ∵ fsplit ! $ move ! (2 ∷ []) $ fsplit ! $ move ! (3 ∷ 1 ∷ []) $
      use2 𝓛 (given (s ≡ u) (‵ (tag γ e g) ⊛ ‵ (tag γ f h))) (own_sum 𝓛 halved γ (e, g) (f, h) (guard 𝓤 (s ≡ u) Z) (λ x m. guard_i 𝓤 (s ≡ u) Z ((coded× coded_ℕ R.coded).inj s u m.0.1))) $
      learn ! (λ same. check ! same $ split ! $ move ! (2 ∷ 1 ∷ []) $ fjoin ! $ move ! (2 ∷ 1 ∷ []) $ fjoin ! $ done !)

  pub some_agree : (P Q : Share → Type 0) (s u : Round R)
      → ‵ (Some P s) ⊛ ‵ (Some Q u) ⊩ given (s ≡ u) (‵ (Some P s) ⊛ ‵ (Some Q u))
  some_agree P Q s u = script ∵ fpick ! (λ e. fpick ! (λ is. move ! (1 ∷ []) $ fpick ! (λ f. fpick ! (λ it.
      move ! (1 ∷ []) $ cite _ (shares_agree s u e f) $ learn ! (λ same. check ! same $ split ! $
      cite _ (some_in P s e is) $ move ! (1 ∷ []) $ cite _ (some_in Q u f it) $ move ! (1 ∷ []) $ done !)))))

  -- ---- the part of a round that one reader has
  pub piece_in : (way : Way R.Denot) (s : Round R) (e : Share) → Part way s.1 e → ‵ (share R γ s e) ⊩ ‵ (piece R way γ s)
  piece_in way s = some_in (Part way s.1) s

  pub piece_cut : (fact : Bool → R.Denot → Type 0) (s : Round R)
      → ‵ (piece R (fixes fact) γ s) ⊩ given (fact true s.1) (‵ (piece R (fixes fact) γ s) ⊛ ‵ (piece R (fixes fact) γ s))
  piece_cut fact s = let way : Way R.Denot = fixes fact in script ∵ fpick ! (λ e. fpick ! (λ known. check ! known $
      cite _ (cut s e (Share.left e) (Share.right e) (Share.halves e)) $ cite _ (piece_in way s (Share.left e) known) $
      move ! (1 ∷ []) $ cite _ (piece_in way s (Share.right e) known) $ done !))

  pub renames : (g h : Gv) → ‵ (tag γ full_share g) ⊫ ‵ (tag γ full_share h)
  renames g h = update (own_step 𝓛 halved γ (full_share, g) (full_share, h) (λ f d. absurd (not-OpDef-full_share f.0 d.0)))
