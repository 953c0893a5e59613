-- The signs of the logic, as the statements about the cell's memory use them. These are only names.
use seplogic.Ra.Ura.{Ura}
use base.Fml.{Fml}
use base.Logic.{SProp, ent, sep, wand}
use types.Logic.{Logic, sem}
use types.Kit.{Item}
use Rattle.spin_core.proofs.Lemmas.{Lemma, Update}

pub record Signs {M : Type 1} (𝓤 : Ura M) : Type 2 where
  infix 26 ◌⊢◌
  infix 26 ◌⊩◌
  infix 26 ◌⊫◌
  infixr 35 ◌∗◌
  infixr 30 ◌-∗◌
  pub ◌⊢◌ : SProp 𝓤 → SProp 𝓤 → Type 1
  pub ◌⊩◌ : Item 𝓤 → Item 𝓤 → Type 1
  pub ◌⊫◌ : Item 𝓤 → Item 𝓤 → Type 1
  pub ◌∗◌ : SProp 𝓤 → SProp 𝓤 → SProp 𝓤
  pub ◌-∗◌ : SProp 𝓤 → SProp 𝓤 → SProp 𝓤
  pub ⟦◌⟧ : Fml → SProp 𝓤

abbrev pub signs : {M : Type 1} {𝓤 : Ura M} → Logic 𝓤 → Signs 𝓤
signs {𝓤 = 𝓤} 𝓛 = record { ◌⊢◌ = ent 𝓤; ◌⊩◌ = Lemma 𝓛; ◌⊫◌ = Update 𝓛; ◌∗◌ = sep 𝓤; ◌-∗◌ = wand 𝓤; ⟦◌⟧ = sem 𝓛 }
