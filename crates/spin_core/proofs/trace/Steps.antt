-- The ghost steps of a log. Assumes `Logic`.
use Rattle.std.proofs.Common.{◌≡◌, ◌⊎◌, ℕ, List, [], ◌∷◌, ◌++◌, map, refl, sym, subst}
use mathlib.Core.Logic.{inl, inr, dite}
use native.Mathlib.Decide.{ℕ_discrete}
use mathlib.Core.List.{IsPrefix, append-nil}
use Rattle.std.proofs.lemmas.List.{map-append}
use seplogic.Ra.Ura.{Ura}
use base.Fraction.{full_share}
use base.Stored.{Coded, Gv}
use base.Logic.{emp, via}
use base.Fml.{Lft, Share, Fml, ftrue, fbor}
use base.Growing.{Least, latest, at_least}
use base.Shift.{Keyless}
use ghost.Rules.{Halves}
use contract.Monad.{fact_i}
use types.Logic.{Logic, lfts}
use types.Owned.{basic}
use types.Growing.{latest_new, latest_grows, latest_shows, latest_bounds, latest_cut, latest_glue, at_least_dup, at_least_join}
use types.Kit.{‵, raw, ◌⊛◌, some, given, ◌$◌, ◌∵◌, !, qed, by, keep, move, drop, split, learn, check, pick, updating, now, done, use2, later}
use types.Tokens.{bor_fracture}
use denote.Steps.{nothing}
use denote.Opens.{Cuts-Halves}
use denote.Struct.Lending.{Lends}
use Rattle.spin_core.proofs.trace.Prefixes.{one_in_other, prefix_uncoded}
use Rattle.spin_core.specs.Logs.{logs, log_owns, log_part, log_shares, known_owns, KnowsBoth}
use Rattle.spin_core.proofs.Signs.{signs}
use Rattle.spin_core.proofs.Lemmas.{script, lemma, update, cite, having}

module _ {T : Type 0} (c : T → Gv) where
  pub log_keyless : (γ : ℕ) (l : List T) → Keyless (log_owns c γ l)
  unfolding latest
  log_keyless γ l = tt

  pub part_keyless : (γ : ℕ) (l : List T) (q : Share) → Keyless (log_part c γ l q)
  unfolding latest
  part_keyless γ l q = tt

  pub known_keyless : (γ : ℕ) (l : List T) → Keyless (known_owns c γ l)
  unfolding known_owns at_least
  known_keyless γ [] = tt
  known_keyless γ (x ∷ l) = tt

module _ {M : Type 1} {𝓤 : Ura M} (𝓛 : Logic 𝓤) where
  open 𝓛 use {H, A}
  open (signs 𝓛) use {◌⊩◌, ◌⊫◌, ◌⊢◌, ◌∗◌, ⟦◌⟧}

  module _ {T : Type 0} (cv : Coded T) where
    pub begins : raw (emp 𝓤) ⊩ later (some (λ (γ : ℕ). ‵ (log_owns cv.code γ [])))
    begins = lemma (via 𝓤 _ (latest_new logs 𝓛 []) (basic 𝓛 _))

  module _ {T : Type 0} (cv : Coded T) (γ : ℕ) where
    -- `Right` is a share of the right to append, `Log` is all of that right, and `Known` is what a watch knows.
    abbrev Right : List T → Share → Fml
    Right = log_part cv.code γ

    abbrev Log : List T → Fml
    Log = log_owns cv.code γ

    abbrev Known : List T → Fml
    Known = known_owns cv.code γ

    pub appends : (l es : List T) → ‵ (Log l) ⊫ ‵ (Log (l ++ es))
    appends l es = let more : IsPrefix (map cv.code l) (map cv.code (l ++ es)) = (_, sym (map-append cv.code l es)) in
        update (latest_grows logs 𝓛 γ (map cv.code l) (map cv.code (l ++ es)) more)

    -- a share of the right can be halved, so each `&` to the trace gets some share
    pub part_halves : (l : List T) → Halves 𝓤 H A (Right l)
    part_halves l = let k = map cv.code l in let glue = λ (q r s : Share). latest_glue logs 𝓛 q r s γ k in
        Cuts-Halves 𝓛 (Right l) (record { cut = λ q r s. latest_cut logs 𝓛 q r s γ k; join = glue })

    pub log_lends : (l : List T) (κ₀ : Lft) → Lends 𝓛 (Log l) (log_shares cv.code γ l) κ₀
    log_lends l κ₀ κ ts inc sp = qed 𝓛 (‵ (fbor κ (Right l full_share)) ∷ raw (lfts 𝓛 ts) ∷ []) ∵ updating ! $ bor_fracture ! tt (Right l) full_share $
        now ! $ done !

    pub shows : (q : Share) (l : List T) → ‵ (Right l q) ⊩ ‵ (Right l q) ⊛ ‵ (Known l)
    unfolding known_owns
    shows q [] = script ∵ nothing ! $ move ! (1 ∷ 0 ∷ []) $ done !
    shows q (x ∷ l) = let l' = map cv.code (x ∷ l) in lemma (latest_shows logs 𝓛 q γ l' l' (logs.same l'))

    pub observes : (q : Share) (l k : List T) → ‵ (Right l q) ⊛ ‵ (Known k) ⊩ given (IsPrefix k l) (‵ (Right l q) ⊛ ‵ (Known l))
    unfolding known_owns
    observes q l [] = script ∵ keep ! (0 ∷ []) $ cite _ (shows q l) $ check ! (l, refl) $ done !
    observes q l (x ∷ more) = let k : List T = x ∷ more in let top : Fml = Right l q in let had : Fml = at_least logs γ (map cv.code k) in
        let has : Fml = Known l in
        script ∵ use2 𝓛 (given (IsPrefix (map cv.code k) (map cv.code l)) (‵ top ⊛ ‵ had)) (latest_bounds logs 𝓛 q γ (map cv.code l) (map cv.code k)) $
        learn ! (λ p. check ! (prefix_uncoded cv k l p) $ split ! $ keep ! (0 ∷ []) $ cite _ (shows q l) $ done !)

    pub known_twice : (k : List T) → ‵ (Known k) ⊩ ‵ (Known k) ⊛ ‵ (Known k)
    unfolding known_owns
    known_twice [] = script ∵ nothing ! $ done !
    known_twice (x ∷ k) = lemma (at_least_dup logs 𝓛 γ (map cv.code (x ∷ k)))

    -- what is known under one name is known under the same name, and the empty list under any
    pub renamed : (δ : ℕ) (k : List T) → ‵ (Known k) ⊩ some (λ (m : List T). given (γ ≡ δ → m ≡ k) (‵ (known_owns cv.code δ m)))
    unfolding known_owns
    renamed δ k = let F = λ (z : ℕ) (m : List T). given (γ ≡ z → m ≡ k) (‵ (known_owns cv.code z m)) in
        dite (ℕ_discrete γ δ) (λ e. subst (λ z. ‵ (Known k) ⊩ some (F z)) e (script ∵ having ! (F γ) k $ check ! (λ same. refl) $ done !))
        (λ ne. script ∵ drop ! $ having ! (F δ) [] $ check ! (λ same. absurd (ne same)) $ nothing ! $ done !)

    pub compares : (k l : List T) → ‵ (Known k) ⊛ ‵ (Known l) ⊩ given (IsPrefix k l ⊎ IsPrefix l k) (‵ ftrue)
    unfolding known_owns
    compares [] l = script ∵ drop ! $ drop ! $ by ! (fact_i 𝓤 _ (emp 𝓤) (inl (l, refl)))
    compares (x ∷ k) [] = script ∵ drop ! $ drop ! $ by ! (fact_i 𝓤 _ (emp 𝓤) (inr (x ∷ k, refl)))
    compares (x ∷ k') (y ∷ l') = let k : List T = x ∷ k' in let l : List T = y ∷ l' in let a = map cv.code k in let b = map cv.code l in
        script ∵ use2 𝓛 (some (λ (m : List Gv). given (Least logs.le a b m) (‵ (at_least logs γ m)))) (at_least_join logs 𝓛 γ a b) $
        pick ! (λ m. learn ! (λ s. drop ! $ by ! (fact_i 𝓤 _ (emp 𝓤) (one_in_other cv k l m s.0 s.1))))

    -- two watches of one trace together know the longer of their lists
    pub joins : (k l : List T) → ‵ (Known k) ⊛ ‵ (Known l) ⊩ some (λ (m : List T). given (KnowsBoth k l m) (‵ (Known m)))
    joins k l = let F = λ (m : List T). given (KnowsBoth k l m) (‵ (Known m)) in
        script ∵ cite _ (known_twice k) $ move ! (2 ∷ []) $ cite _ (known_twice l) $ move ! (2 ∷ 0 ∷ []) $ cite _ (compares k l) $
        learn ! (λ so. drop ! $ elim so [
          | inl p ↦ keep ! (0 ∷ []) $ having ! F l $ check ! (p, ([], append-nil l), inr refl) $ done !
          | inr p ↦ keep ! (1 ∷ []) $ having ! F k $ check ! (([], append-nil k), p, inl refl) $ done !
        ])
