-- A round begins when the value is lent for a new lifetime. It ends when that lifetime has ended and the value is back. Assumes `Logic`.
use Rattle.std.proofs.Common.{ℕ, zero, suc, ◌+◌, ◌-◌, ◌^◌, ◌<◌, Bool, false, [], ◌∷◌, ◌++◌, Option, Some, None}
use seplogic.Ra.Ura.{Ura}
use base.Fraction.{full_share}
use base.FractionLaws.{Counts-all}
use base.Fml.{Lft, Share, Incl, Incl-trans, Fml, ffalse, fsep, fex, fbor, flft, fdead, fobs}
use contract.BorrowLft.{meet_⊑_left, meet_⊑_right, ⊑_meet}
use ghost.Rules.{Toks, span}
use types.Logic.{Logic, lfts}
use types.Kit.{‵, raw, ◌⊛◌, later, ◌$◌, ◌∵◌, !, qed, by, move, keep, split, split3, fsplit, fsplit3, fjoin, fjoin3, fpick, fpack, use1, use2, use3, await, updating, now, settle, suffices, done}
use types.Tokens.{lft_new, lft_end, lent_back}
use denote.RattleType.{RattleType}
use denote.Memory.{part_at, mem}
use denote.Shares.{Shares, settles}
use Rattle.spin_core.specs.Cell.{Use, writes, Way, lends, fixes, Fixed}
use Rattle.spin_core.specs.CellMemory.{Id, idle, round_code, share, parts, remains, resting_value, lying, value_state, offset, shown, named, tracked, waits_for, shared, right}
use Rattle.spin_core.proofs.cell.Parts.{parts_in, parts_but, piece_in, renames}
use Rattle.spin_core.proofs.Signs.{signs}
use Rattle.spin_core.proofs.Lemmas.{script, lemma, cite, updates, renew, settled}

module _ {M : Type 1} {𝓤 : Ura M} (𝓛 : Logic 𝓤) (R : RattleType) (b o : ℕ) (t : Id) where
  open 𝓛 use {H, A}
  open (signs 𝓛) use {◌⊩◌, ◌⊫◌, ◌⊢◌, ◌∗◌, ⟦◌⟧}

  abbrev α : Lft
  α = t.life

  abbrev pub begun : R.Denot → ℕ → Fml
  begun x a = fsep (flft (a ∷ []) full_share) (shared R b o t (a, x))

  abbrev pub next : Option R.Denot → Fml
  next v = elim v [ None ↦ ffalse | Some x ↦ fex ℕ (begun x) ]

  -- What a party has of the value during a step. In the ways `lends` and `fixes` others may read after a writer's step.
  -- So a writer begins the next round before its step, and has begun it during the step.
  abbrev pub held : Use → Way R.Denot → Option R.Denot → Fml
  held writes lends v = next v
  held writes (fixes fact) v = next v
  held u way v = right R b o t way u v

  -- a borrow of the value can be turned into a new lifetime for which the value is shared
  pub begins : (l : Lft) → Shares 𝓛 R l → (x : R.Denot) (μ : Lft) (s : Share) (τ : Lft) (r : Share) → Incl μ α → Incl τ l
      → ‵ (tracked R b o t x) ⊛ ‵ (flft μ s) ⊛ ‵ (flft τ r) ⊩ later (‵ (fex ℕ (begun x)) ⊛ ‵ (flft μ s) ⊛ ‵ (flft τ r))
  begins l shares x μ s τ r i j = let e : ℕ = o + offset R in script ∵ updating ! $ fsplit ! $ lft_new ! tt (λ a.
      let ts : Toks = (a ∷ [], full_share) ∷ (μ, s) ∷ (τ, r) ∷ [] in let more : Lft = μ ++ τ in
      let sp : Incl (span ts) (a ∷ α) = ⊑_meet (a ∷ more) (a ∷ []) α (meet_⊑_left (a ∷ []) more) (Incl-trans (meet_⊑_right (a ∷ []) more) (Incl-trans (meet_⊑_left μ τ) i)) in
      move ! (2 ∷ []) $ use1 𝓛 (later (‵ (fbor (a ∷ α) (named R b o t)) ⊛ ‵ (waits_for R b o t a))) (𝓛.more.bor_reborrow α (a ∷ α) (named R b o t) (meet_⊑_right (a ∷ []) α)) $ await ! tt $ split ! $
      move ! (2 ∷ 4 ∷ 5 ∷ []) $ types.Kit.group ! 3 $ move ! (3 ∷ 1 ∷ 0 ∷ []) $
      use3 𝓛 (later (‵ (fobs t.value (R.coded.code x)) ⊛ ‵ (fbor (a ∷ α) (part_at R full_share x b e))
      ⊛ raw (lfts 𝓛 ts))) (settles 𝓛 (mem R) (a ∷ α) ts sp t.value x b e) $ await ! tt $ split3 ! $
      move ! (1 ∷ 2 ∷ []) $
      use2 𝓛 (later (‵ (shown R b o x (a ∷ α)) ⊛ ‵ (flft (a ∷ []) full_share) ⊛ ‵ (flft μ s) ⊛ ‵ (flft τ r))) (shares x (a ∷ α) ts b e (Incl-trans (meet_⊑_right (a ∷ []) more) (Incl-trans (meet_⊑_right μ τ) j)) sp) $ await ! tt $ split3 ! $
      move ! (3 ∷ 0 ∷ 4 ∷ []) $ fjoin3 ! $ move ! (1 ∷ 0 ∷ []) $ fjoin ! $ fpack ! ℕ (begun x) a $ now ! $ keep ! (0 ∷ 1 ∷ []) $ done !)

  pub ends : (x : R.Denot) (a : ℕ) → ‵ (begun x a) ⊩ later (‵ (tracked R b o t x))
  ends x a = script ∵ updating ! $ fsplit ! $ lft_end ! tt $ use1 𝓛 (‵ (fdead (a ∷ α))) (𝓛.lfts.dead-incl (a ∷ α) (a ∷ []) (meet_⊑_left (a ∷ []) α)) $
      move ! (1 ∷ []) $ fsplit3 ! $ move ! (3 ∷ 2 ∷ []) $ lent_back ! tt $ move ! (1 ∷ 0 ∷ []) $ fjoin ! $ now ! $ keep ! (0 ∷ []) $ done !

  -- the whole of the cell's round, which a writer began
  abbrev pub whole : R.Denot → Fml
  whole x = fex ℕ (λ a. fsep (share R t.round (a, x) full_share) (shared R b o t (a, x)))

  pub renewed : (x : R.Denot) (F : Fml) → ‵ (whole x) ⊩ ‵ F → ‵ (idle t.round) ⊛ ‵ (fex ℕ (begun x)) ⊫ ‵ F
  renewed x F to = let γ : ℕ = t.round in
      updates ∵ fpick ! (λ g. move ! (1 ∷ []) $ fpick ! (λ a. fsplit ! $ move ! (2 ∷ []) $
      renew (‵ F) _ (renames 𝓛 R γ g (round_code R (a, x))) $ settled ! _ $ move ! (1 ∷ 0 ∷ []) $ fjoin ! $ fjoin ! $
      fpack ! ℕ (λ c. fsep (share R γ (c, x) full_share) (shared R b o t (c, x))) a $ cite _ to $ done !))

  pub lies : (way : Way R.Denot) (φ : R.Denot → Type 0) (r : ℕ) (x : R.Denot) → φ x
      → ‵ (resting_value R b o t way r x) ⊩ ‵ (value_state R b o t way φ r 0)
  lies way φ r x known = script ∵ fpack ! (φ x) (λ _. resting_value R b o t way r x) known $
      fpack ! R.Denot (lying R b o t way φ r) x $ done !

  -- a whole round, without one part for each of r readers, is the state of the value while these readers read
  pub rests_lent : (r : ℕ) (x : R.Denot) → r < 2 ^ 63 → ‵ (whole x) ⊩ ‵ (resting_value R b o t lends r x)
  rests_lent r x small = script ∵ fpick ! (λ a. fsplit ! $
      cite _ (parts_in 𝓛 R t.round (a, x) (2 ^ 63) full_share (Counts-all 63)) $
      cite _ (parts_but 𝓛 R t.round (a, x) r small) $
      fjoin ! $ fpack ! ℕ (λ c. fsep (parts R t.round (c, x) (2 ^ 63 - r)) (shared R b o t (c, x))) a $ done !)

  -- a whole round is also the state of the value with r readers in the way `fixes`
  pub rests_fixed : (fact : Bool → R.Denot → Type 0) (r : ℕ) (x : R.Denot) → Fixed (fixes fact) r 0 x → ‵ (whole x) ⊩ ‵ (resting_value R b o t (fixes fact) r x)
  rests_fixed fact zero x known = script ∵ fpick ! (λ a. fsplit ! $ fpack ! (fact false x) (λ _. share R t.round (a, x) full_share) known $
      fjoin ! $ fpack ! ℕ (λ c. fsep (remains R fact t.round (c, x) zero) (shared R b o t (c, x))) a $ done !)
  rests_fixed fact (suc r) x known = script ∵ fpick ! (λ a. fsplit ! $ cite _ (piece_in 𝓛 R t.round (fixes fact) (a, x) full_share known) $
      fjoin ! $ fpack ! ℕ (λ c. fsep (remains R fact t.round (c, x) (suc r)) (shared R b o t (c, x))) a $ done !)

  -- what a party owns of the value (`right`) becomes, before a step, what it has during the step (`held`)
  pub readies : (l : Lft) → Shares 𝓛 R l → (u : Use) (way : Way R.Denot) (v : Option R.Denot) (μ : Lft) (s : Share) (τ : Lft) (r : Share) → Incl μ α → Incl τ l
      → ‵ (right R b o t way u v) ⊛ ‵ (flft μ s) ⊛ ‵ (flft τ r) ⊩ later (‵ (held u way v) ⊛ ‵ (flft μ s) ⊛ ‵ (flft τ r))
  readies l shares writes lends (Some x) = begins l shares x
  readies l shares writes (fixes fact) (Some x) = begins l shares x
  readies l shares _ _ _ = λ μ s τ r i j. lemma (𝓛.laws.⇛_intro _)

  puts_down : (x : R.Denot) → ‵ (fex ℕ (begun x)) ⊩ later (‵ (tracked R b o t x))
  puts_down x = script ∵ updating ! $ fpick ! (λ a. cite _ (ends x a) $ await ! tt $ now ! $ done !)

  pub settles_down : (u : Use) (way : Way R.Denot) (v : Option R.Denot) → ‵ (held u way v) ⊩ later (‵ (right R b o t way u v))
  settles_down writes lends (Some x) = puts_down x
  settles_down writes (fixes fact) (Some x) = puts_down x
  settles_down _ _ v = lemma (𝓛.laws.⇛_intro _)
