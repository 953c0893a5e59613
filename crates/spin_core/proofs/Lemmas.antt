-- Lemmas of the logic in a form that scripts prove and cite. A script need not write out what a cited lemma asks and
-- gives: both are read from the lemma.
use Rattle.std.proofs.Common.{List, [], ◌∷◌, ◌++◌}
use seplogic.Ra.Ura.{Ura}
use base.Logic.{SProp, ent, sep, via, id⊢, mono_r, ex_i, upd, upd_i}
use base.Fml.{Fml}
use types.Logic.{Logic, sem}
use types.Kit.{Item, ‵, ◌⊛◌, some, raw, mean, ⋆, push, pop, Goal, prop, Seq, Step, step, Go, cut, settle, suffices}

-- the parts of an item, as the entries of a context
abbrev pub flat : {M : Type 1} {𝓤 : Ura M} → Item 𝓤 → List (Item 𝓤)
flat (i ⊛ j) = i ∷ flat j
flat i = i ∷ []

-- what i means entails what k means; written i ⊩ k
pub record Lemma {M : Type 1} {𝓤 : Ura M} (𝓛 : Logic 𝓤) (i k : Item 𝓤) : Type 1 where
  pub prf : ent 𝓤 (mean 𝓛 i) (mean 𝓛 k)

-- what i means can be updated to what k means; written i ⊫ k
pub record Update {M : Type 1} {𝓤 : Ura M} (𝓛 : Logic 𝓤) (i k : Item 𝓤) : Type 1 where
  pub prf : ent 𝓤 (mean 𝓛 i) (upd 𝓤 (mean 𝓛 k))

module _ {M : Type 1} {𝓤 : Ura M} (𝓛 : Logic 𝓤) where
  joined : (i : Item 𝓤) → ent 𝓤 (⋆ 𝓛 (flat i)) (mean 𝓛 i)
  joined (i ⊛ j) = via 𝓤 (sep 𝓤 (mean 𝓛 i) (⋆ 𝓛 (flat j))) (pop 𝓛 i (flat j)) (mono_r 𝓤 (mean 𝓛 i) (joined j))
  joined _ = id⊢ 𝓤 _

  apart : (i : Item 𝓤) → ent 𝓤 (mean 𝓛 i) (⋆ 𝓛 (flat i))
  apart (i ⊛ j) = via 𝓤 (sep 𝓤 (mean 𝓛 i) (⋆ 𝓛 (flat j))) (mono_r 𝓤 (mean 𝓛 i) (apart j)) (push 𝓛 i (flat j))
  apart _ = id⊢ 𝓤 _

module _ {M : Type 1} {𝓤 : Ura M} {𝓛 : Logic 𝓤} where
  -- a script proves a lemma: the context begins with the parts of what the lemma asks
  pub script : {i k : Item 𝓤} → Seq (Go {0}) 𝓛 (flat i) (prop (mean 𝓛 k)) → Lemma 𝓛 i k
  script {i} s = record { prf = via 𝓤 (⋆ 𝓛 (flat i)) (apart 𝓛 i) s.prf }

  -- the same for an update
  pub updates : {i k : Item 𝓤} → Seq (Go {0}) 𝓛 (flat i) (prop (upd 𝓤 (mean 𝓛 k))) → Update 𝓛 i k
  updates {i} s = record { prf = via 𝓤 (⋆ 𝓛 (flat i)) (apart 𝓛 i) s.prf }

  -- a script cites a lemma l: what l asks stands first in the context, and what l gives takes that place
  pub cite : {K : Type 0} {i k : Item 𝓤} {G : Goal 𝓤 𝓛.H} (Γ : List (Item 𝓤)) → Lemma 𝓛 i k → Step K 𝓛 (flat k ++ Γ) G (flat i ++ Γ) G
  cite {i = i} {k = k} Γ l = cut (flat i) (flat k) Γ (via 𝓤 (mean 𝓛 i) (joined 𝓛 i) (via 𝓤 (mean 𝓛 k) l.prf (apart 𝓛 k)))

  -- what may be duplicated is duplicated
  pub twice : {K : Type 0} → K → {Γ : List (Item 𝓤)} {G : Goal 𝓤 𝓛.H} {F : Fml}
      → ent 𝓤 (sem 𝓛 F) (sep 𝓤 (sem 𝓛 F) (sem 𝓛 F)) → Step K 𝓛 (‵ F ∷ ‵ F ∷ Γ) G (‵ F ∷ Γ) G
  twice t {Γ = Γ} {F = F} e = cut (‵ F ∷ []) (‵ F ∷ ‵ F ∷ []) Γ e

  -- the goal `some F` becomes F x, for this x
  pub having : {K : Type 0} → K → {Γ : List (Item 𝓤)} {X : Type 0} (F : X → Item 𝓤) (x : X) → Step K 𝓛 Γ (prop (mean 𝓛 (F x))) Γ (prop (mean 𝓛 (some F)))
  having t F x = step (λ s. record { prf = via 𝓤 (mean 𝓛 (F x)) s.prf (ex_i 𝓤 (λ y. mean 𝓛 (F y)) x) })

  -- while the goal is an update to `to`, a script cites a lemma that updates
  pub renew : {K : Type 0} {i k : Item 𝓤} (to : Item 𝓤) (Γ : List (Item 𝓤)) → Update 𝓛 i k
      → Step K 𝓛 (flat k ++ Γ) (prop (upd 𝓤 (mean 𝓛 to))) (flat i ++ Γ) (prop (upd 𝓤 (mean 𝓛 to)))
  renew {i = i} {k = k} to Γ l = let P : SProp 𝓤 = mean 𝓛 to in
      let asks = cut {𝓛 = 𝓛} {G = prop (upd 𝓤 P)} (flat i) (raw (upd 𝓤 (mean 𝓛 k)) ∷ []) Γ (via 𝓤 (mean 𝓛 i) (joined 𝓛 i) l.prf) in
      let gives = cut {𝓛 = 𝓛} {G = prop (upd 𝓤 P)} (k ∷ []) (flat k) Γ (apart 𝓛 k) in
      step (λ s. asks.go ((settle 𝓛 P k).go (gives.go s)))

  -- nothing is left to update: the goal is now P itself
  pub settled : {K : Type 0} → K → {Γ : List (Item 𝓤)} (P : SProp 𝓤) → Step K 𝓛 Γ (prop P) Γ (prop (upd 𝓤 P))
  settled t P = suffices t P (upd_i 𝓤 P)

  -- an entailment, as a lemma
  pub lemma : {i k : Item 𝓤} → ent 𝓤 (mean 𝓛 i) (mean 𝓛 k) → Lemma 𝓛 i k
  lemma e = record { prf = e }

  pub update : {i k : Item 𝓤} → ent 𝓤 (mean 𝓛 i) (upd 𝓤 (mean 𝓛 k)) → Update 𝓛 i k
  update e = record { prf = e }
