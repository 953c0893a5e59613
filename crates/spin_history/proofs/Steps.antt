-- The ghost steps of a log. Assumes `Logic`.
use Rattle.std.proofs.Common.{◌≡◌, ℕ, List, [], ◌∷◌, ◌++◌, subst}
use mathlib.Core.List.{IsPrefix}
use seplogic.Ra.Ura.{Ura}
use base.Fraction.{full_share}
use base.Stored.{Coded, Gv}
use base.Logic.{ex, emp, id⊢, via}
use base.Fml.{Fml, flft}
use base.Growing.{latest}
use base.Shift.{Keyless}
use types.Logic.{Logic}
use types.Owned.{basic}
use types.Growing.{latest_new}
use types.Kit.{‵, ◌⊛◌, given, later, ◌$◌, ◌∵◌, !, move, keep, split, learn, check, updating, now, done, use0}
use types.Tokens.{bor_new, bor_fracture, shr_bor-open}
use Rattle.spin_core.proofs.trace.Steps as trace
pub use Rattle.spin_core.proofs.trace.Steps.{log_keyless, part_keyless, known_keyless, part_halves, log_lends, shows, observes, known_twice, joins}
use Rattle.spin_core.proofs.Signs.{signs}
use Rattle.spin_core.proofs.Lemmas.{lemma, script, cite}
use Rattle.spin_core.specs.Logs.{logs, log_owns, log_part, known_owns}
use Rattle.spin_history.specs.History.{blank_owns, closed_owns}

module _ {T : Type 0} (c : T → Gv) where
  pub closed_keyless : (γ : ℕ) (l : List T) → Keyless (closed_owns c γ l)
  unfolding closed_owns latest
  closed_keyless γ l q = tt

module _ {M : Type 1} {𝓤 : Ura M} (𝓛 : Logic 𝓤) where
  open 𝓛 use {H, A}
  open (signs 𝓛) use {◌⊩◌, ◌⊢◌, ⟦◌⟧}

  pub begins : emp 𝓤 ⊢ H.⇛ (ex 𝓤 (λ (γ : ℕ). ⟦ blank_owns γ ⟧))
  unfolding blank_owns
  begins = via 𝓤 _ (latest_new logs 𝓛 []) (basic 𝓛 _)

  module _ {T : Type 0} (cv : Coded T) (γ : ℕ) where
    -- what the log owns
    abbrev Log : List T → Fml
    Log = log_owns cv.code γ

    -- what a watch of the log knows
    abbrev Known : List T → Fml
    Known = known_owns cv.code γ

    pub opens_as : (δ : ℕ) → δ ≡ γ → ⟦ blank_owns δ ⟧ ⊢ ⟦ Log [] ⟧
    unfolding blank_owns
    opens_as δ e = subst (λ (z : ℕ). ⟦ latest logs full_share δ [] ⟧ ⊢ ⟦ latest logs full_share z [] ⟧) e (id⊢ 𝓤 _)

    pub appends : (l : List T) (x : T) → ‵ (Log l) ⊩ later (‵ (Log (l ++ x ∷ [])))
    appends l x = lemma (via 𝓤 _ (trace.appends 𝓛 cv γ l (x ∷ [])).prf (basic 𝓛 _))

    -- to close a log, the right to append is shared for ever; so nobody has the whole right again
    pub closes_it : (l : List T) → ‵ (Log l) ⊩ later (‵ (closed_owns cv.code γ l))
    unfolding closed_owns
    closes_it l = script ∵ updating ! $ bor_new ! tt [] $ bor_fracture ! tt (log_part cv.code γ l) full_share $ keep ! (0 ∷ []) $ now ! $ done !

    pub closed_twice : (l : List T) → ‵ (closed_owns cv.code γ l) ⊩ ‵ (closed_owns cv.code γ l) ⊛ ‵ (closed_owns cv.code γ l)
    unfolding closed_owns
    closed_twice l = lemma (𝓛.shr_bors.shr_bor_dup [] (log_part cv.code γ l))

    pub closed_observes : (l k : List T) → ‵ (closed_owns cv.code γ l) ⊛ ‵ (Known k) ⊩ later (given (IsPrefix k l) (‵ (Known l)))
    unfolding closed_owns
    closed_observes l k = script ∵ updating ! $ use0 𝓛 (‵ (flft [] full_share)) (𝓛.lfts.lft-nil full_share) $ move ! (1 ∷ 0 ∷ []) $
        shr_bor-open ! tt (part_halves 𝓛 cv γ l) (λ q. move ! (1 ∷ 2 ∷ []) $ cite _ (observes 𝓛 cv γ q l k) $
        learn ! (λ p. split ! $ keep ! (1 ∷ []) $ now ! $ check ! p $ done !))
