-- Rules for walks that the toolchain does not have: how to state a fact, why a pointer points into a block, how to find what the contract
-- asks among the facts that a walk does not use, and how to read several locals. Assumes `Logic`.
use Rattle.std.proofs.Common.{◌≡◌, ℕ, zero, suc, List, [], ◌∷◌, refl, sym, subst}
use seplogic.Ra.Ura.{Ura}
use base.Logic.{SProp, ent, sep, emp, never_e, id⊢, via, fst∗, snd∗}
use base.Fml.{fex, Fml, Share, ffalse, ftrue, fsep, fat}
use contract.Monad.{fact, fact_i, fact_use}
use types.Logic.{Logic}
use types.Run.{Opds, and_then, no_more}
use types.ByLocal.{at, get}
use mir.Syntax.{place, copy}
use mir.Val.{Val}
use prog.Wp.{Env, spot_of}
use types.Kit.{fpack, Goal, Seq, Step, Item, ‵, raw, given, ◌$◌, move, keep, fsplit, learn, rewrite, use0, use1}
use denote.Steps.{nothing, heard}
use denote.RawPtr.{Ptr, InBlock, block_ptr, null_ptr, block_of, count_of, at_block}

module _ {M : Type 1} {𝓤 : Ura M} {𝓛 : Logic 𝓤} {K : Type 0} {Γ : List (Item 𝓤)} {G : Goal 𝓤 𝓛.H} where
  pub says : K → (φ : Type 0) → φ → Step K 𝓛 (raw (fact 𝓤 φ) ∷ Γ) G Γ G
  says t φ holds = use0 𝓛 (raw (fact 𝓤 φ)) (fact_i 𝓤 φ (emp 𝓤) holds)

  -- a fact, as a formula
  pub knows : K → (φ : Type 0) → φ → Step K 𝓛 (‵ (fex φ (λ _. ftrue)) ∷ Γ) G Γ G
  knows t φ holds = record { go = λ s. nothing t $ fpack t φ (λ _. ftrue) holds $ s }

  -- if F is false of the null pointer, each pointer that has F points into a block
  pub lies : K → (F : Ptr → Fml) → F null_ptr ≡ ffalse → (p : Ptr) → (InBlock p → Seq K 𝓛 (‵ (F p) ∷ Γ) G) → Seq K 𝓛 (‵ (F p) ∷ Γ) G
  lies t F never (block_ptr b o) go = go tt
  lies t F never null_ptr go = rewrite t 0 (λ (P : Fml). ‵ P) never refl $ use1 𝓛 (given ⊥ (‵ ftrue)) (never_e 𝓤 _) $ learn t (λ no. absurd no)

  pub lies_at : K → (F : Ptr → Fml) → F null_ptr ≡ ffalse → (p : Ptr) → (InBlock p → Seq K 𝓛 (‵ (F (block_ptr (block_of p) (count_of p))) ∷ Γ) G)
      → Seq K 𝓛 (‵ (F p) ∷ Γ) G
  lies_at t F never p go = lies t F never p (λ so. subst (λ z. Seq K 𝓛 (‵ (F z) ∷ Γ) G) (sym (at_block p so)) (go so))

-- n facts that a walk does not use
abbrev pub Facts : ℕ → Type 1
Facts zero = Unit {1}
Facts (suc n) = Type 0 × Facts n

module _ {M : Type 1} (𝓤 : Ura M) (P : SProp 𝓤) where
  -- these n facts, and then P, which the walk uses
  abbrev pub after_facts : (n : ℕ) → Facts n → SProp 𝓤
  after_facts zero φs = P
  after_facts (suc n) φs = sep 𝓤 (fact 𝓤 φs.0) (after_facts n φs.1)

  pub last_fact : (n : ℕ) (φs : Facts n) → ent 𝓤 (after_facts n φs) P
  last_fact zero φs = id⊢ 𝓤 P
  last_fact (suc n) φs = via 𝓤 (after_facts n φs.1) (snd∗ 𝓤 (fact 𝓤 φs.0) (after_facts n φs.1)) (last_fact n φs.1)

  -- for a walk that uses nothing of the requirement P
  pub unasked : ent 𝓤 P (fact 𝓤 (Unit {0}))
  unasked = fact_i 𝓤 (Unit {0}) P tt

-- the first fact and the last one
pub first_and_last : {M : Type 1} (𝓤 : Ura M) (φ ψ : Type 0) (n : ℕ) (φs : Facts n)
    → ent 𝓤 (sep 𝓤 (fact 𝓤 φ) (after_facts 𝓤 (fact 𝓤 ψ) n φs)) (fact 𝓤 (φ × ψ))
first_and_last 𝓤 φ ψ n φs = let First : SProp 𝓤 = fact 𝓤 φ in let Last : SProp 𝓤 = after_facts 𝓤 (fact 𝓤 ψ) n φs in
    fact_use 𝓤 φ (fst∗ 𝓤 First Last) (λ x. fact_use 𝓤 ψ (via 𝓤 Last (snd∗ 𝓤 First Last) (last_fact 𝓤 (fact 𝓤 ψ) n φs))
    (λ y. fact_i 𝓤 (φ × ψ) (sep 𝓤 First Last) (x, y)))

-- the last two facts
pub last_two : {M : Type 1} (𝓤 : Ura M) (φ ψ : Type 0) (n : ℕ) (φs : Facts n) → ent 𝓤 (after_facts 𝓤 (sep 𝓤 (fact 𝓤 φ) (fact 𝓤 ψ)) n φs) (fact 𝓤 (φ × ψ))
last_two 𝓤 φ ψ n φs = via 𝓤 (sep 𝓤 (fact 𝓤 φ) (fact 𝓤 ψ)) (last_fact 𝓤 (sep 𝓤 (fact 𝓤 φ) (fact 𝓤 ψ)) n φs) (first_and_last 𝓤 φ ψ 0 tt)

-- the first fact and the last two
pub first_and_last_two : {M : Type 1} (𝓤 : Ura M) (φ χ ψ : Type 0) (n : ℕ) (φs : Facts n)
    → ent 𝓤 (sep 𝓤 (fact 𝓤 φ) (after_facts 𝓤 (sep 𝓤 (fact 𝓤 χ) (fact 𝓤 ψ)) n φs)) (fact 𝓤 (φ × (χ × ψ)))
first_and_last_two 𝓤 φ χ ψ n φs = let First : SProp 𝓤 = fact 𝓤 φ in let Last : SProp 𝓤 = after_facts 𝓤 (sep 𝓤 (fact 𝓤 χ) (fact 𝓤 ψ)) n φs in
    fact_use 𝓤 φ (fst∗ 𝓤 First Last) (λ x. fact_use 𝓤 (χ × ψ) (via 𝓤 Last (snd∗ 𝓤 First Last) (last_two 𝓤 χ ψ n φs))
    (λ y. fact_i 𝓤 (φ × (χ × ψ)) (sep 𝓤 First Last) (x, y)))

-- The walk of a function that takes a permit first learns what the contract asks. What a permit owns (F) is false of
-- the null pointer, so the permit's pointer points into a block.
module _ {M : Type 1} {𝓤 : Ura M} {𝓛 : Logic 𝓤} {K : Type 0} {toks words rest : Fml} {Req : SProp 𝓤} {φ : Type 0} {G : Goal 𝓤 𝓛.H} where
  heard_of : K → {F : Fml} → ent 𝓤 Req (fact 𝓤 φ) → (φ → Seq K 𝓛 (‵ F ∷ ‵ toks ∷ ‵ rest ∷ []) G)
      → Seq K 𝓛 (‵ toks ∷ ‵ (fsep (fsep words F) rest) ∷ raw Req ∷ []) G
  heard_of t {F} asks go = move t (2 ∷ []) $ use1 𝓛 (raw (fact 𝓤 φ)) asks $ heard t φ (λ asked. move t (1 ∷ []) $ fsplit t $ fsplit t $ keep t (1 ∷ 3 ∷ 2 ∷ []) $ go asked)

  pub takes : K → (F : Ptr → Fml) → F null_ptr ≡ ffalse → (p : Ptr) → ent 𝓤 Req (fact 𝓤 φ)
      → (φ → InBlock p → Seq K 𝓛 (‵ (F p) ∷ ‵ toks ∷ ‵ rest ∷ []) G) → Seq K 𝓛 (‵ toks ∷ ‵ (fsep (fsep words (F p)) rest) ∷ raw Req ∷ []) G
  takes t F never p asks go = heard_of t asks (λ asked. lies t F never p (go asked))

  pub takes_at : K → (F : Ptr → Fml) → F null_ptr ≡ ffalse → (p : Ptr) → ent 𝓤 Req (fact 𝓤 φ)
      → (φ → InBlock p → Seq K 𝓛 (‵ (F (block_ptr (block_of p) (count_of p))) ∷ ‵ toks ∷ ‵ rest ∷ []) G)
      → Seq K 𝓛 (‵ toks ∷ ‵ (fsep (fsep words (F p)) rest) ∷ raw Req ∷ []) G
  takes_at t F never p asks go = heard_of t asks (λ asked. lies_at t F never p (go asked))

-- local i has this value
abbrev pub Has : {M : Type 1} {𝓤 : Ura M} (𝓛 : Logic 𝓤) → List (Item 𝓤) → Env 𝓤 𝓛.H → ℕ → Share → Val → Type 2
Has {𝓤 = 𝓤} 𝓛 Γ E i q v = at 𝓛 i Γ ≡ ‵ (fat q (spot_of 𝓤 𝓛.H E i).0 (spot_of 𝓤 𝓛.H E i).1 zero v)

-- what is in two or three locals, as a call's arguments or a struct's fields
module _ {M : Type 1} {𝓤 : Ura M} {𝓛 : Logic 𝓤} {K : Type 0} {Γ : List (Item 𝓤)} {E : Env 𝓤 𝓛.H} {i j : ℕ} {q r : Share} {u v : Val} where
  pub two : K → Has 𝓛 Γ E i q u → Has 𝓛 Γ E j r v → Opds K 𝓛 Γ E (copy (place i []) ∷ copy (place j []) ∷ []) (u ∷ v ∷ [])
  two t x y = and_then t (get t x) (and_then t (get t y) (no_more t))

  pub three : K → {k : ℕ} {s : Share} {w : Val} → Has 𝓛 Γ E i q u → Has 𝓛 Γ E j r v → Has 𝓛 Γ E k s w
      → Opds K 𝓛 Γ E (copy (place i []) ∷ copy (place j []) ∷ copy (place k []) ∷ []) (u ∷ v ∷ w ∷ [])
  three t x y z = and_then t (get t x) (and_then t (get t y) (and_then t (get t z) (no_more t)))
