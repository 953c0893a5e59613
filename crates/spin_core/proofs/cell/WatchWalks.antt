-- How the walk of a step begins and ends: a permit is opened for a step on its cell, and closed at its new view, with a
-- watch of the trace. Assumes `Logic`.
use Rattle.std.proofs.Common.{ℕ, ◌+◌, ◌<◌, ◌^◌, List, [], ◌∷◌, ◌++◌, Option, Some, refl, w64}
use seplogic.Ra.Ura.{Ura}
use mir.Val.{Val, vint, vstruct, vcons, vnil, of_list}
use base.Logic.{SProp, sep, apply∗, id⊢}
use types.Na.{before_dup}
use contract.Shared.{Lends-one}
use base.Fml.{Lft, Share, Incl, Incl-refl, fbor, Fml, fex, fsep, feq, finv, flft}
use prog.Model.{Model}
use contract.Running.{Running}
use contract.Monad.{fact}
use contract.BorrowLft.{◌⊑◌}
use types.Logic.{Logic}
use types.Kit.{Goal, !, ◌∵◌, Soaks, Seq, Item, ‵, raw, ◌⊛◌, some, later, ◌$◌, done, join, drop, move, keep, split, split3, fsplit, fjoin, fpick, fpack, pick, await, use0, use1, use2, use3, feq_i, flt_i}
use denote.RattleType.{RattleType, Valss, owns}
use denote.Ref.{NamedLft}
use denote.Steps.{nothing}
use denote.RawPtr.{InBlock, block_ptr, block_of, count_of, Ptr}
use denote.Builtin.{u64}
use denote.Param.{param}
use denote.Param.Laws.{Laws, param_laws}
use Rattle.core.specs.Sync.RawAtomic.{asks, always}
use Rattle.spin_core.specs.contracts.trace.Trace as trace
use Rattle.spin_core.specs.contracts.trace.Watch as watch
use Rattle.spin_core.specs.declared.trace.Watch.{Watch}
use Rattle.spin_core.specs.declared.cell.Permit.{Permit}
use Rattle.spin_core.proofs.trace.Tokens.{token, Token, token_made}
use Rattle.spin_core.specs.Cell.{Ways, use_of}
use Rattle.spin_core.specs.CellMemory.{second_at, Known as Shares, Id, inner, kept, permit_owns}
use Rattle.spin_core.specs.Traced.{MadeStep, MayKnow, Traces, TracesSecond}
use Rattle.spin_core.specs.declared.cell.Rule.{Ghosts}
use Rattle.spin_core.specs.contracts.cell.Permit as permit
use Rattle.spin_core.proofs.cell.PermitFields.{hand_of, Words, made}
use Rattle.spin_core.proofs.cell.Rounds.{readies, settles_down}
use Rattle.spin_core.proofs.cell.Walks.{permit_in}
use Rattle.spin_core.proofs.Signs.{signs}
use Rattle.spin_core.proofs.WalkSteps.{says, Facts, after_facts, first_and_last, first_and_last_two, takes_at}
use Rattle.spin_core.proofs.cell.Shifts as steps
use Rattle.spin_core.proofs.Lemmas.{Lemma, script, cite, twice}

-- the watch with this name and these entries
abbrev pub knowing : {E : Type 0} → ℕ × List E → Watch E
knowing l = record { marker = record {}; name = l.0; entries = l.1 }

-- the permit at its new view
abbrev pub next : {T V P K S : Type 0} → Permit T V P K S → ℕ → ℕ → V × Option T → Permit T V P K S
next h b o s = record { cell = block_ptr b o; marker = record {}; key = h.key; view = Some s.0; value = s.1 }

module _ {M : Type 1} {𝓤 : Ura M} {𝓛 : Logic 𝓤} {F : Fml} where
  -- what a step's walk keeps of the arguments after the permit: what its watch knows
  pub watch_knows : {words rest : Fml} → Lemma 𝓛 (‵ (fsep (fsep words F) rest)) (‵ F)
  watch_knows = script ∵ fsplit ! $ fsplit ! $ keep ! (1 ∷ []) $ done !

  pub past : {first rest : Fml} → Lemma 𝓛 (‵ rest) (‵ F) → Lemma 𝓛 (‵ (fsep first rest)) (‵ F)
  past l = script ∵ fsplit ! $ drop ! $ cite _ l $ done !

module _ {M : Type 1} {𝓤 : Ura M} (𝓛 : Logic 𝓤) (𝓜 : Model 𝓤 𝓛.H) (𝓡 : Running 𝓤 𝓛.H 𝓜) (ℓ : NamedLft) (T W Y Kr Er Ur : RattleType)
    (L : Laws T) (g : Ghosts Y.Denot T.Denot W.Denot Kr.Denot (trace.the_row Er Ur).Denot) where
  open 𝓛 use {H, A}
  open (signs 𝓛) use {◌⊩◌, ◌⊢◌, ◌∗◌, ◌-∗◌, ⟦◌⟧}

  abbrev R : RattleType
  R = param 0 T

  abbrev LR : Laws R
  LR = param_laws 0 T L

  abbrev Sr : RattleType
  Sr = trace.the_row Er Ur

  abbrev Wr : RattleType
  Wr = watch.the_row Er

  abbrev Hr : RattleType
  Hr = permit.the_row ℓ R W Y Kr Sr g

  abbrev β : Lft
  β = ℓ.lft

  abbrev pub Known : Watch Er.Denot → Fml
  Known s = steps.Known 𝓛 Er Ur s.name s.entries

  -- A step of the party with this permit and this watch. The step has two tokens: one of the cell's borrow β, and one
  -- of a lifetime τ of the value's type. `answer` makes the step's answer from the number found.
  module _ (h : Hr.Denot) (q : Share) (τ : Lft) (r : Share) (seen : Watch Er.Denot)
      (tells : Kr.Denot → Option W.Denot → List Er.Denot → List Er.Denot → ℕ → W.Denot → Type 0) (answer : ℕ → ℕ) where
    abbrev told : List Er.Denot → List Er.Denot → ℕ → W.Denot → Type 0
    told = tells h.key h.view

    abbrev ways : Ways R.Denot W.Denot Sr.Denot
    ways = g.ways h.key

    abbrev b : ℕ
    b = block_of h.cell

    abbrev o : ℕ
    o = count_of h.cell

    abbrev here : Ptr
    here = block_ptr b o

    abbrev Owned : Ptr → Fml
    Owned p = permit_owns Y R W.coded.code Sr (g.holds h.key) ways β p h.view h.value

    abbrev Inv : Id → Fml
    Inv t = fbor t.life (inner R b o t W.coded.code Sr (g.holds h.key) ways)

    -- three things: why parties may share the value, the cell's ghost names, and a share of the token of its lifetime
    abbrev Entry : Type 0
    Entry = Shares ways Y Sr R × (Id × Share)

    module _ (k : Entry) where
      abbrev t : Id
      t = k.1.0

      abbrev alive : Fml
      alive = flft t.life k.1.1

      abbrev Mine : Fml
      Mine = steps.Mine 𝓛 Er Ur R LR.shr_laws b o t W.coded (g.holds h.key) ways h.view h.value

      abbrev Remains : Fml
      Remains = kept R b o t W.coded.code Sr (g.holds h.key) ways β

      abbrev Gives : SProp 𝓤
      Gives = A.lft t.life k.1.1 -∗ H.⇛ (A.lft β q)

      -- what the step leaves if this is its answer: the token of the cell's lifetime, and what `watched` says
      abbrev left : ℕ → Fml
      left i = fsep alive (steps.watched 𝓛 Er Ur R LR.shr_laws b o t W.coded (g.holds h.key) ways h.view h.value
          (λ log es _. told log es i) seen.name seen.entries 0)

      abbrev back : SProp 𝓤
      back = ⟦ Remains ⟧ ∗ Gives ∗ A.lft τ r

    abbrev Says : ℕ × List Er.Denot → ℕ → W.Denot × Option R.Denot → Item 𝓤
    Says l n s = raw (fact 𝓤 (MadeStep g.holds g.ways tells h seen n (next h b o s) (knowing l)))

    abbrev Tokens : Fml → Item 𝓤
    Tokens os = ‵ (flft β q) ⊛ ‵ (flft τ r) ⊛ ‵ os

    module _ {K : Type 0} {Γ : List (Item 𝓤)} {G : Goal 𝓤 𝓛.H} where
      -- after the step the walk goes on with the permit at its new view, the watch, and all tokens
      closes : K → Soaks G → (k : Entry) (n : ℕ) (os : Fml) → ((s : W.Denot × Option R.Denot) (l : ℕ × List Er.Denot)
          → Seq K 𝓛 (‵ (owns (Hr ∷ Wr ∷ []) (next h b o s, (knowing l, tt)) (hand_of here ∷ [], (token ∷ [], tt)))
          ∷ Tokens os ∷ Says l n s ∷ Γ) G) → Seq K 𝓛 (‵ (left k n) ∷ raw (back k) ∷ ‵ os ∷ Γ) G
      closes t z k n os go = fsplit t $ move t (1 ∷ []) $ fpick t (λ s. let l : ℕ × List Er.Denot = (s.0, s.1.0 ++ s.1.1) in
          fsplit t $ fpick t (λ p. drop t $ fsplit t $ move t (1 ∷ []) $
          -- context: [what the step leaves; what the watch knows; the lifetime's token; the way back; the other tokens]
          fpick t (λ v. fsplit t $ fpick t (λ so. drop t $ fsplit t $ move t (1 ∷ []) $
          cite _ (settles_down 𝓛 R b o k.1.0 (ways.1 v.0) ways.0 v.1) $ await t z $ move t (4 ∷ []) $
          use1 𝓛 (‵ (Remains k) ⊛ raw (Gives k) ⊛ ‵ (flft τ r)) (id⊢ 𝓤 _) $ split3 t $ move t (0 ∷ 4 ∷ 3 ∷ []) $
          cite _ (permit_in 𝓛 Y R W.coded.code Sr (g.holds h.key) ways β b o (Some v.0) (ways.1 v.0) v.1 k.0 k.1.0) $
          move t (4 ∷ 1 ∷ []) $ use2 𝓛 (later (‵ (flft β q))) (apply∗ 𝓤 (A.lft k.1.0.life k.1.1) (H.⇛ (A.lft β q))) $
          await t z $ move t (1 ∷ []) $
          use0 𝓛 (‵ ((Words ℓ R W Y Kr Sr g).own_val (here, (tt, tt)) (hand_of here ∷ []))) (made ℓ R W Y Kr Sr g 𝓛 here) $ fjoin t $
          says t (MadeStep g.holds g.ways tells h seen n (next h b o v) (knowing l))
          (record { moved = (p.1, (s.1.0, s.1.1, p.0, refl, so.0.0)); kept = so.1; found = so.0.1; key = refl }) $
          -- context: [what the step says; the permit; two tokens; what the watch knows; the other tokens]
          move t (3 ∷ 5 ∷ []) $ join t $ move t (3 ∷ 0 ∷ []) $ join t $ move t (3 ∷ []) $
          use0 𝓛 (‵ ((Token Er).own_val (record {}, tt) (token ∷ []))) (token_made Er 𝓛) $ fjoin t $
          nothing t $ move t (1 ∷ 0 ∷ []) $ fjoin t $ move t (3 ∷ 0 ∷ []) $ fjoin t $ go v l))))

    -- the step's result as a machine value: the number found, the permit and the watch; or without the number
    abbrev triple_of : ℕ → Val
    triple_of n = vstruct (vcons (vint w64 n) (vcons (hand_of here) (vcons token vnil)))

    abbrev all : ℕ → W.Denot × Option R.Denot → ℕ × List Er.Denot → Valss (u64 ∷ Hr ∷ Wr ∷ []) → Fml
    all n s l uss = fsep (feq (List Val) (triple_of n ∷ []) (vstruct (of_list (uss.0 ++ (uss.1.0 ++ (uss.1.1.0 ++ [])))) ∷ []))
        (owns (u64 ∷ Hr ∷ Wr ∷ []) (n, (next h b o s, (knowing l, tt))) uss)

    abbrev pair_of : Val
    pair_of = vstruct (vcons (hand_of here) (vcons token vnil))

    abbrev both : W.Denot × Option R.Denot → ℕ × List Er.Denot → Valss (Hr ∷ Wr ∷ []) → Fml
    both s l uss = fsep (feq (List Val) (pair_of ∷ []) (vstruct (of_list (uss.0 ++ (uss.1.0 ++ []))) ∷ []))
        (owns (Hr ∷ Wr ∷ []) (next h b o s, (knowing l, tt)) uss)

    -- How a walk closes the permit: with the number that the step returns, or without one. `leaves` says what the step
    -- leaves for each answer. `rest` is what the walk put aside when it opened the permit.
    pub record Closes (leaves : ℕ → Fml) (rest : SProp 𝓤) : Type 2 where
      pub found : {K : Type 0} {Γ : List (Item 𝓤)} {G : Goal 𝓤 𝓛.H} → K → Soaks G → (n : ℕ) → n < 2 ^ 64 → (os : Fml)
          → ((s : W.Denot × Option R.Denot) (l : ℕ × List Er.Denot) → Seq K 𝓛 (Tokens os ∷ ‵ (fex (Valss (u64 ∷ Hr ∷ Wr ∷ [])) (all n s l)) ∷ Says l n s ∷ Γ) G)
          → Seq K 𝓛 (‵ (leaves n) ∷ raw rest ∷ ‵ os ∷ Γ) G
      pub stored : {K : Type 0} {Γ : List (Item 𝓤)} {G : Goal 𝓤 𝓛.H} → K → Soaks G → (n : ℕ) → (os : Fml)
          → ((s : W.Denot × Option R.Denot) (l : ℕ × List Er.Denot) → Seq K 𝓛 (Tokens os ∷ ‵ (fex (Valss (Hr ∷ Wr ∷ [])) (both s l)) ∷ Says l n s ∷ Γ) G)
          → Seq K 𝓛 (‵ (leaves n) ∷ raw rest ∷ ‵ os ∷ Γ) G

    closing : (k : Entry) → Closes (left k) (back k)
    closing k = record {
      found = λ t z n fits os go. closes t z k n os (λ v l. flt_i t n (2 ^ 64) fits $
          feq_i t _ (vint w64 n ∷ []) _ refl $ fjoin t $ fjoin t $ feq_i t _ (triple_of n ∷ []) _ refl $ fjoin t $
          fpack t (Valss (u64 ∷ Hr ∷ Wr ∷ [])) (all n v l) (vint w64 n ∷ [], (hand_of here ∷ [], (token ∷ [], tt))) $
          move t (1 ∷ []) $ go v l);
      stored = λ t z n os go. closes t z k n os (λ v l. feq_i t _ (pair_of ∷ []) _ refl $ fjoin t $
          fpack t (Valss (Hr ∷ Wr ∷ [])) (both v l) (hand_of here ∷ [], (token ∷ [], tt)) $ move t (1 ∷ []) $ go v l);
    }

    -- the party has what the machine's step on the word `at` asks
    pub record Asks (at : Ptr) (f : ℕ → ℕ) : Type 1 where
      pub step : (k : Entry) → ‵ (finv (Inv k.1.0)) ⊛ ‵ (alive k) ⊛ ‵ (fsep (Mine k) (Known seen))
          ⊩ raw (asks 𝓛 at f always (λ n. left k (answer n)))

    -- how a walk opens the permit, and goes on with what the machine's step asks
    pub record Opens (at : Ptr) (f : ℕ → ℕ) (os : Fml) : Type 2 where
      pub on : {K : Type 0} {Γ : List (Item 𝓤)} {G : Goal 𝓤 𝓛.H} → K → Soaks G
          → ((leaves : ℕ → Fml) (back : SProp 𝓤) → Closes leaves back
          → Seq K 𝓛 (raw (asks 𝓛 at f always (λ n. leaves (answer n))) ∷ raw back ∷ ‵ os ∷ Γ) G)
          → Seq K 𝓛 (‵ (Owned here) ∷ ‵ (Known seen) ∷ ‵ (fsep (flft β q) (fsep (flft τ r) os)) ∷ Γ) G

    opens : (at : Ptr) (f : ℕ → ℕ) (os : Fml) → Incl τ R.lives → Asks at f → Opens at f os
    opens at f os le can = record {
      on = λ t z go. fpick t (λ known. fpick t (λ i. let α : Lft = i.life in
          -- context: [what the permit owns; what the watch knows; the tokens]
          fsplit t $ fsplit t $ twice t (before_dup 𝓛 β α) $ move t (2 ∷ []) $ twice t (𝓛.invs.inv_dup (Inv i)) $
          move t (2 ∷ 0 ∷ []) $ fjoin t $ move t (5 ∷ []) $ fsplit t $ move t (4 ∷ 0 ∷ []) $
          use2 𝓛 (later (some (λ (s : Share). ‵ (flft α s) ⊛ raw (A.lft α s -∗ H.⇛ (A.lft β q)))))
          (Lends-one 𝓛 𝓜 𝓡 β α q) $ await t z $ pick t (λ s. split t $ move t (2 ∷ []) $ fsplit t $
          move t (6 ∷ []) $ fsplit t $ move t (1 ∷ 4 ∷ 2 ∷ []) $ cite _ (readies 𝓛 R b o i R.lives (LR.shares 𝓛)
          (use_of ways.1 h.view) ways.0 h.value α s τ r (Incl-refl α) le) $ await t z $ split3 t $
          -- context: [the party's part; two tokens; the view; the other tokens; the way back, in two parts; the
          -- invariant; what the watch knows]
          let k : Entry = (known, (i, s)) in move t (3 ∷ 0 ∷ []) $ fjoin t $ move t (0 ∷ 7 ∷ []) $ fjoin t $
          move t (5 ∷ 4 ∷ 2 ∷ []) $ use3 𝓛 (raw (back k)) (id⊢ 𝓤 _) $ move t (4 ∷ 2 ∷ 1 ∷ []) $
          cite _ (can.step k) $ go (left k) (back k) (closing k))));
    }

    -- The walk of a step begins with the tokens, the permit and the other arguments, and with what the contract asks.
    pub begins : {K : Type 0} {G : Goal 𝓤 𝓛.H} {os words rest : Fml} {Asked : Type 0} {at : Ptr} → K
        → ‵ rest ⊩ ‵ (Known seen) → (n : ℕ) (φs : Facts n) (f : ℕ → ℕ) → (Asked → Asks at f)
        → (let toks : Fml = fsep (flft β q) (fsep (flft τ r) os) in
        (InBlock h.cell → Opens at f os → Seq K 𝓛 (‵ (Owned here) ∷ ‵ (Known seen) ∷ ‵ toks ∷ []) G)
        → Seq K 𝓛 (‵ toks ∷ ‵ (fsep (fsep words (Owned h.cell)) rest)
        ∷ raw (sep 𝓤 (fact 𝓤 (τ ⊑ T.lives)) (after_facts 𝓤 (fact 𝓤 Asked) n φs)) ∷ []) G)
    begins {os = os} {Asked = Asked} {at} t knows n φs f can go =
        takes_at t Owned refl h.cell (first_and_last 𝓤 (τ ⊑ T.lives) Asked n φs) (λ asked inb. move t (2 ∷ []) $
        cite _ knows $ move t (1 ∷ []) $ go inb (opens at f os asked.0 (can asked.1)))

    -- the same for a walk that also uses the fact before the last
    pub begins_two : {K : Type 0} {G : Goal 𝓤 𝓛.H} {os words rest : Fml} {More Asked : Type 0} {at : Ptr} → K
        → ‵ rest ⊩ ‵ (Known seen) → (n : ℕ) (φs : Facts n) (f : ℕ → ℕ) → (Asked → Asks at f)
        → (let toks : Fml = fsep (flft β q) (fsep (flft τ r) os) in
        (More → InBlock h.cell → Opens at f os → Seq K 𝓛 (‵ (Owned here) ∷ ‵ (Known seen) ∷ ‵ toks ∷ []) G)
        → Seq K 𝓛 (‵ toks ∷ ‵ (fsep (fsep words (Owned h.cell)) rest)
        ∷ raw (sep 𝓤 (fact 𝓤 (τ ⊑ T.lives)) (after_facts 𝓤 (sep 𝓤 (fact 𝓤 More) (fact 𝓤 Asked)) n φs)) ∷ []) G)
    begins_two {os = os} {More = More} {Asked = Asked} {at} t knows n φs f can go =
        takes_at t Owned refl h.cell (first_and_last_two 𝓤 (τ ⊑ T.lives) More Asked n φs) (λ asked inb. move t (2 ∷ []) $
        cite _ knows $ move t (1 ∷ []) $ go asked.1.0 inb (opens at f os asked.0 (can asked.1.1)))

-- a step on the first word, and one on the second word, if that is a number
module _ {M : Type 1} {𝓤 : Ura M} {𝓛 : Logic 𝓤} {𝓜 : Model 𝓤 𝓛.H} {𝓡 : Running 𝓤 𝓛.H 𝓜} {ℓ : NamedLft}
    {T W Y Kr Er : RattleType} {L : Laws T} {q : Share} {τ : Lft} {r : Share} {seen : Watch Er.Denot}
    {tells : Kr.Denot → Option W.Denot → List Er.Denot → List Er.Denot → ℕ → W.Denot → Type 0} {answer f : ℕ → ℕ} where
  pub asks_first : {Ur : RattleType} {g : Ghosts Y.Denot T.Denot W.Denot Kr.Denot (trace.the_row Er Ur).Denot}
      {h : (permit.the_row ℓ (param 0 T) W Y Kr (trace.the_row Er Ur) g).Denot}
      → MayKnow (g.holds h.key) (g.ways h.key) seen × Traces (g.holds h.key) (g.ways h.key) h.view h.value f
      (λ log es n. tells h.key h.view log es (answer n))
      → Asks 𝓛 𝓜 𝓡 ℓ T W Y Kr Er Ur L g h q τ r seen tells answer (block_ptr (block_of h.cell) (count_of h.cell + 0)) f
  asks_first {Ur = Ur} {g} {h} asked = record {
    step = λ k. steps.first_steps 𝓛 Er Ur (param 0 T) (param_laws 0 T L).shr_laws _ _ k.1.0 W.coded (g.holds h.key)
        (g.ways h.key) h.view h.value (λ log es n. tells h.key h.view log es (answer n)) k.1.1 f _ _ asked.0 asked.1;
  }

  pub asks_second : {g : Ghosts Y.Denot T.Denot W.Denot Kr.Denot (trace.the_row Er u64).Denot}
      {h : (permit.the_row ℓ (param 0 T) W Y Kr (trace.the_row Er u64) g).Denot}
      → MayKnow (g.holds h.key) (g.ways h.key) seen × TracesSecond (g.holds h.key) (g.ways h.key) h.view h.value f
      (λ log es n. tells h.key h.view log es (answer n)) → Asks 𝓛 𝓜 𝓡 ℓ T W Y Kr Er u64 L g h q τ r seen tells answer
      (block_ptr (block_of h.cell) ((count_of h.cell + second_at (trace.the_row Er u64) (param 0 T)) + 0)) f
  asks_second {g = g} {h} asked = record {
    step = λ k. steps.second_steps 𝓛 Er (param 0 T) (param_laws 0 T L).shr_laws _ _ k.1.0 W.coded (g.holds h.key)
        (g.ways h.key) h.view h.value (λ log es n. tells h.key h.view log es (answer n)) k.1.1 f _ _ asked.0 asked.1;
  }
