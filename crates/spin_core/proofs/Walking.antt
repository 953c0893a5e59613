-- A walk proves a function by hand, statement by statement. Here is how a walk begins and ends, if the contract says
-- nothing of the function's arguments at the exit. Assumes `Logic`.
use Rattle.std.proofs.Common.{◌≡◌, ℕ, zero, suc, List, [], ◌∷◌, refl, sym, ap, subst, w64}
use seplogic.Ra.Ura.{Ura}
use mir.Syntax.{Fn, Callee, Lifetime}
use mir.Val.{Val}
use base.Logic.{SProp, ent, sep, emp, id⊢}
use base.Fml.{Lft, Fml, ftrue, fsep, flft}
use contract.Lifetimes.{Lfts, Shares, AllOutlive, toks}
use contract.Running.{Running, MachineTables, tables}
use prog.Model.{Model}
use prog.Wp.{Closed}
use types.Logic.{Logic, sem}
use types.Kit.{Seq, Go, ‵, raw, ◌⊛◌, split, ◌$◌, ◌∵◌, !, qed, by, move, use0, use1, allocs, params', runs, at_ret}
use types.Run.{enter}
use denote.Exit.{rest}
use denote.RattleType.{RattleType, Denots, Valss, flat, owns}
use denote.Laws.{Spells, Tells, Tellss, Is, Ises, Are, valss}
use denote.Signature.{Signature, Slot, types_at, type_at}
use denote.Builtin.{u64}
use denote.Ref.{ShrRef, MutRef, shr_vals, shr_Tells, mut_vals, mut_Tells}
use denote.Plain.{uint_vals, uint_Tells}
use denote.Steps.{nothing}
use denote.Triple.End.{Kepts, Fins}
use denote.Triple.Clauses.{Ended, Clauses, closing, at_exit}
use denote.Triple.Entry.{Args, Res}
use denote.Triple.Spec.{Meets}
use denote.Triple.Walked.{Stays, Silent, AllGo, stay_dropped, Goes-dropped, fits_of, has_of, walk_of}
use Rattle.atomic_table.proofs.Walks.{proved, leaves}

-- the tokens of lifetimes
abbrev pub others : (n : ℕ) → Lfts n → Shares n → Fml
others zero κs qs = ftrue
others (suc n) κs qs = fsep (flft κs.0 qs.0) (others n κs.1 qs.1)

-- how the machine stores a parameter of this type: as machine values that depend only on the parameter's value
abbrev pub Spelled : RattleType → Type 0
Spelled R = (vals : R.Denot → List Val) × Tells R (Is R) vals

abbrev pub AllSpelled : List RattleType → Type 0
AllSpelled [] = Unit {0}
AllSpelled (R ∷ Rs) = Spelled R × AllSpelled Rs

abbrev pub as_u64 : Spelled u64
as_u64 = (uint_vals w64, uint_Tells w64)

abbrev pub as_shr : (ℓ : Lifetime) (κ : Lft) (R : RattleType) → Spelled (ShrRef ℓ κ R)
as_shr ℓ κ R = (shr_vals, shr_Tells ℓ κ R)

abbrev pub as_mut : (ℓ : Lifetime) (κ : Lft) (R : RattleType) → Spelled (MutRef ℓ κ R)
as_mut ℓ κ R = (mut_vals, mut_Tells ℓ κ R)

abbrev pub spells : (Rs : List RattleType) → AllSpelled Rs → Spells Rs
spells [] s = tt
spells (R ∷ Rs) s = (s.0.0, spells Rs s.1)

abbrev tellss : (Rs : List RattleType) (s : AllSpelled Rs) → Tellss Rs (Ises Rs) (spells Rs s)
tellss [] s = tt
tellss (R ∷ Rs) s = (s.0.1, tellss Rs s.1)

module _ {n : ℕ} where
  abbrev pub all_dropped : (ss : List (Slot n)) (ks : Kepts ss) → Stays ss ks
  all_dropped [] ks = tt
  all_dropped (s ∷ ss) ks = (stay_dropped s ks.0, all_dropped ss ks.1)

  abbrev pub rests : (ss : List (Slot n)) (ks : Kepts ss) (κs : Lfts n) (a : Denots (types_at ss κs)) → Fins κs ss ks a
  rests [] ks κs a = tt
  rests (s ∷ ss) ks κs a = (rest ((s.row κs).exit ks.0) a.0, rests ss ks.1 κs a.1)

  fits : (ss : List (Slot n)) (ks : Kepts ss) (κs : Lfts n) (a : Denots (types_at ss κs)) (ws : Fins κs ss ks a) → fits_of κs ss ks (all_dropped ss ks) a ws
  fits [] ks κs a ws = tt
  fits (s ∷ ss) ks κs a ws = (tt, fits ss ks.1 κs a.1 ws.1)

  module _ {M : Type 1} {𝓤 : Ura M} (𝓛 : Logic 𝓤) where
    -- the contract says nothing of these parameters at the exit
    abbrev pub AllSilent : (ss : List (Slot n)) → Kepts ss → Type 1
    AllSilent [] ks = Unit {1}
    AllSilent (s ∷ ss) ks = Silent 𝓛 n s ks.0 × AllSilent ss ks.1

    pub all_go : (ss : List (Slot n)) (ks : Kepts ss) → AllSilent ss ks → AllGo 𝓛 n ss ks (all_dropped ss ks)
    all_go [] ks silent = tt
    all_go (s ∷ ss) ks silent = (Goes-dropped 𝓛 n s ks.0 silent.0, all_go ss ks.1 silent.1)

    had : (ss : List (Slot n)) (ks : Kepts ss) (κs : Lfts n) (a : Denots (types_at ss κs)) (ws : Fins κs ss ks a) (vss : Valss (types_at ss κs))
        → ent 𝓤 (emp 𝓤) (sem 𝓛 (has_of κs ss ks (all_dropped ss ks) a ws vss))
    had [] ks κs a ws vss = id⊢ 𝓤 (emp 𝓤)
    had (s ∷ ss) ks κs a ws vss = let more : Fml = has_of κs ss ks.1 (all_dropped ss ks.1) a.1 ws.1 vss.1 in
        qed 𝓛 [] ∵ use0 𝓛 (‵ more) (had ss ks.1 κs a.1 ws.1 vss.1) $ nothing ! $ by ! (id⊢ 𝓤 (sem 𝓛 (fsep ftrue more)))

module _ {M : Type 1} {𝓤 : Ura M} (𝓛 : Logic 𝓤) where
  tokens : (n : ℕ) (κs : Lfts n) (qs : Shares n) → sem 𝓛 (others n κs qs) ≡ toks 𝓛 n κs qs
  tokens zero κs qs = refl
  tokens (suc n) κs qs = ap (sep 𝓤 (𝓛.A.lft κs.0 qs.0)) (tokens n κs.1 qs.1)

module _ {M : Type 1} {𝓤 : Ura M} (𝓛 : Logic 𝓤) (T : Ended) (c : Clauses 𝓤 T) (𝓜 : Model 𝓤 𝓛.H) (𝓡 : Running 𝓤 𝓛.H 𝓜) where
  open 𝓛 use {H}

  abbrev S : Signature
  S = T.signature

  abbrev 𝓣 : MachineTables 𝓤 H 𝓜
  𝓣 = tables 𝓤 H 𝓜 𝓡 𝓡.env

  -- The walk is given the function's parameters and the postcondition. It begins with the allocation of the locals.
  -- It ends with the tokens, the result and the `ensures`.
  pub walks : AllSilent 𝓛 S.params T.kept → (k : Callee) (e : Fn) → Closed 𝓤 H 𝓣.C 𝓣.Λ k e → (sp : (κs : Lfts S.lifetimes) → AllSpelled (types_at S.params κs))
      → ((κs : Lfts S.lifetimes) (qs : Shares S.lifetimes) → AllOutlive S.lifetimes S.outlives κs → (a : Args S κs) (g : (c κs a).ghost)
      → let Rs = types_at S.params κs in let vss = valss Rs (spells Rs (sp κs)) a in let toks = others S.lifetimes κs qs in
      Are Rs (Ises Rs) a vss → (Post : Val → SProp 𝓤)
      → ((v : Val) (r : Res S κs) → ent 𝓤 (sep 𝓤 (sem 𝓛 toks) (sep 𝓤 (sem 𝓛 ((type_at S.result κs).own_val r (v ∷ [])))
      ((c κs a).ensures g r (at_exit T κs a (rests S.params T.kept κs a))))) (Post v))
      → Seq (Go {0}) 𝓛 (‵ toks ∷ ‵ (owns Rs a vss) ∷ raw ((c κs a).requires g) ∷ []) (allocs e.locals (λ E. params' E (flat Rs vss) (runs 𝓣.C 𝓣.Λ E e.body (at_ret E Post)))))
      → Meets 𝓛 S (𝓣.C k) (closing 𝓛 T c)
  walks silent k e closed sp walk = let hs = all_dropped S.params T.kept in
      proved 𝓛 T hs c 𝓜 𝓡 (all_go 𝓛 S.params T.kept silent) k e closed (λ κs. spells (types_at S.params κs) (sp κs)) (λ κs. tellss (types_at S.params κs) (sp κs))
      (λ κs qs outlive a g are.
      let Rs = types_at S.params κs in let vss = valss Rs (spells Rs (sp κs)) a in let held = tokens 𝓛 S.lifetimes κs qs in
      let y : (walk_of 𝓛 T hs c).Ghost = ((κs, qs, outlive, a, vss), g) in let Post : Val → SProp 𝓤 = (walk_of 𝓛 T hs c).post y in
      let ws = rests S.params T.kept κs a in let Last : Val → Res S κs → SProp 𝓤 = λ v r. sep 𝓤 (sem 𝓛 ((type_at S.result κs).own_val r (v ∷ []))) ((c κs a).ensures g r (at_exit T κs a ws)) in
      let out : (v : Val) (r : Res S κs) → ent 𝓤 (sep 𝓤 (toks 𝓛 S.lifetimes κs qs) (Last v r)) (Post v) = λ v r.
      qed 𝓛 (raw (toks 𝓛 S.lifetimes κs qs) ∷ ‵ ((type_at S.result κs).own_val r (v ∷ [])) ∷ raw ((c κs a).ensures g r (at_exit T κs a ws)) ∷ []) ∵
      use0 𝓛 (‵ (has_of κs S.params T.kept hs a ws vss)) (had 𝓛 S.params T.kept κs a ws vss) $ move ! (1 ∷ []) $ by ! (leaves 𝓛 T hs c y v r ws (fits S.params T.kept κs a ws)) in
      qed 𝓛 ((raw (toks 𝓛 S.lifetimes κs qs) ⊛ ‵ (owns Rs a vss)) ∷ raw ((c κs a).requires g) ∷ []) ∵ split ! $
      use1 𝓛 (‵ (others S.lifetimes κs qs)) (subst (λ (P : SProp 𝓤). ent 𝓤 P (sem 𝓛 (others S.lifetimes κs qs))) held (id⊢ 𝓤 _)) $
      enter ! 𝓣.C 𝓣.Λ e (flat Rs vss) Post $
      walk κs qs outlive a g are Post (λ v r. subst (λ (P : SProp 𝓤). ent 𝓤 (sep 𝓤 P (Last v r)) (Post v)) (sym held) (out v r)))
