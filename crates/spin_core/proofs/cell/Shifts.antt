-- One step on the words of a cell. The party gives back what it had of the value, gets a new view, and takes the part of the value that
-- this view uses. The step also appends to the trace and updates a watch. Assumes `Logic`.
--     first_steps, second_steps     a step on the first word, and one on the word next to the trace
use Rattle.std.proofs.Common.{arith, ◌≡◌, ◌⊎◌, ◌∙◌, ◌++◌, ℕ, ◌+◌, T, [], ◌∷◌, List, refl, sym, subst, w64, Option, Some, ◌<◌}
use mathlib.Core.Logic.{inl, inr}
use mathlib.Core.List.{IsPrefix}
use seplogic.Ra.Ura.{Ura}
use mir.Syntax.{ty_int}
use mir.Val.{Val, vint, has_ty, WT}
use base.Fraction.{full_share}
use base.Logic.{ex, all_e, apply∗, upd_i}
use base.Fml.{Share, Fml, fsep, fex, flft, fbor, finv}
use base.Stored.{Coded}
use types.Logic.{Logic}
use types.Kit.{‵, raw, ◌⊛◌, given, ◌$◌, ◌∵◌, !, qed, by, move, drop, split, fsplit, fjoin, fpick, fpack, pick, learn, check, rewrite, suffices, use1, use2, done, show, frame, each, assume, Item}
use denote.RattleType.{RattleType, RowLaws}
use denote.RawPtr.{block_ptr}
use denote.Memory.{part_at, part_of, cell_at}
use denote.Builtin.{u64}
use Rattle.core.specs.Sync.RawAtomic.{asks, always, word}
use Rattle.core.proofs.raw_atomic.Asked.{borrowed, Lies, Again}
use Rattle.atomic_table.specs.Seated.{fact}
use Rattle.spin_core.specs.Logs.{log_owns, known_owns}
use Rattle.spin_core.specs.contracts.trace.Trace as trace
use Rattle.spin_core.specs.declared.trace.Trace.{Trace}
use Rattle.spin_core.specs.Cell.{word_limit, Ways, use_of, readers_of, writers_of, MeetsRule, HasView, after, Going, IsKnown, Carries, Carrying, Keeps, Use, off, Way, reading, writing, Limits}
use Rattle.spin_core.specs.CellMemory.{second_at, roster, Id, value_state, stand, core, core_at, standing, inner}
use Rattle.spin_core.specs.Traced.{grown, grown_at, Learnt, Named, Traces, TracesSecond}
use Rattle.spin_core.proofs.cell.Counts.{part_of as counted, splits}
use Rattle.spin_core.proofs.cell.Roster.{places}
use Rattle.spin_core.proofs.cell.Rounds.{held}
use Rattle.spin_core.proofs.cell.Turns as value
use Rattle.spin_core.proofs.cell.Ways.{going_rest, going_map, carrying_rest, carrying_carries, learnt_of}
use Rattle.spin_core.proofs.Signs.{signs}
use Rattle.spin_core.proofs.WalkSteps.{knows}
use Rattle.spin_core.proofs.trace.Steps.{appends, observes, shows as told_of}
use Rattle.spin_core.proofs.trace.Word.{beside, with, Takes, word_apart}
use Rattle.spin_core.proofs.Lemmas.{script, lemma, cite, updates, renew, settled}

module _ {M : Type 1} {𝓤 : Ura M} (𝓛 : Logic 𝓤) (Er Ur : RattleType) where
  open (signs 𝓛) use {◌⊩◌, ◌⊫◌, ◌⊢◌, ◌∗◌, ⟦◌⟧}

  abbrev pub S : RattleType
  S = trace.the_row Er Ur

  abbrev E : Type 0
  E = Er.Denot

  abbrev U : Type 0
  U = Ur.Denot

  abbrev Log : Trace E U → Fml
  Log m = log_owns Er.coded.code m.name m.entries

  abbrev pub Known : ℕ → List E → Fml
  Known = known_owns Er.coded.code

  -- what a watch of this trace knew is a prefix of the trace; a watch that knew nothing knows the empty prefix
  knew : (γ : ℕ) (k : List E) (m : Trace E U) → (k ≡ []) ⊎ (m.name ≡ γ) → ‵ (Log m) ⊛ ‵ (Known γ k) ⊩ given (IsPrefix k m.entries) (‵ (Log m))
  knew γ k m (inl none) = script ∵ move ! (1 ∷ []) $ drop ! $ check ! (rw none (m.entries, refl)) $ done !
  knew γ k m (inr is) = script ∵ rewrite ! 1 (λ (z : ℕ). ‵ (Known z k)) (sym is) refl $
      cite _ (observes 𝓛 Er.coded m.name full_share m.entries k) $
      learn ! (λ p. check ! p $ split ! $ move ! (1 ∷ []) $ drop ! $ done !)

  -- a trace in memory grows; then the watch knows all of it
  shows : (γ : ℕ) (k : List E) (m : Trace E U) (es : List E) (b e : ℕ) → (k ≡ []) ⊎ (m.name ≡ γ) → ‵ (part_at S full_share m b e) ⊛ ‵ (Known γ k)
      ⊫ given (IsPrefix k m.entries) (‵ (part_at S full_share (grown m es) b e) ⊛ ‵ (Known m.name (m.entries ++ es)))
  unfolding part_of
  shows γ k m es b e may = let m' : Trace E U = grown m es in let Now : Fml = Known m.name (m.entries ++ es) in
      let To : Item 𝓤 = given (IsPrefix k m.entries) (‵ (part_at S full_share m' b e) ⊛ ‵ Now) in updates ∵
      fpick ! (λ vs. fsplit ! $ move ! (1 ∷ []) $ fsplit ! $ move ! (1 ∷ 3 ∷ []) $ cite _ (knew γ k m may) $
      learn ! (λ p. renew To _ (appends 𝓛 Er.coded m.name m.entries es) $ settled ! _ $ check ! p $
      cite _ (told_of 𝓛 Er.coded m.name full_share (m.entries ++ es)) $ move ! (2 ∷ 0 ∷ []) $ fjoin ! $ move ! (2 ∷ 0 ∷ []) $
      fjoin ! $ fpack ! (List Val) (λ us. fsep (cell_at full_share S.mir us b e) (S.own_val m' us)) vs $ done !))

  module _ (R : RattleType) (L : RowLaws R) (b o : ℕ) (t : Id) {V : Type 0} (cv : Coded V) (holds : ℕ → Trace E U → List V → Type 0)
      (ways : Ways R.Denot V (Trace E U)) (view : Option V) (v : Option R.Denot) where
    abbrev way : Way R.Denot
    way = ways.0

    abbrev f : V → Use
    f = ways.1

    abbrev u : Use
    u = use_of f view

    abbrev Held : Use → Option R.Denot → Fml
    Held w = held 𝓛 R b o t w way

    abbrev St : (R.Denot → Type 0) → ℕ → ℕ → Fml
    St = value_state R b o t way

    abbrev Stand : Option V → Fml
    Stand = stand cv.code t.views

    abbrev Core : ℕ × Trace E U → Fml
    Core = core R b o t cv.code S holds ways

    abbrev pub I : Fml
    I = inner R b o t cv.code S holds ways

    abbrev pub Mine : Fml
    Mine = fsep (Stand view) (Held u v)

    -- what is known of a value that nobody writes
    abbrev know : Trace E U → R.Denot → Type 0
    know = IsKnown ways.2

    abbrev states : Trace E U → List V → Fml
    states m vs = St (know m) (readers_of f vs) (writers_of f vs)

    abbrev Got : Trace E U → V → Fml
    Got m w = value.Got 𝓛 R L b o t way (know m) u (f w) v

    -- what a step that found the number n tells, if the trace then has the entries es
    abbrev pub finding : List E → (ℕ → V → Type 0) → ℕ → V → Option R.Denot → Type 0
    finding es then n w x = then n w × Learnt ways.2 u (f w) v x es

    -- what a step leaves to its party, if `tells` is what the step tells of the party's new view and value
    abbrev pub left_to : (V → Option R.Denot → Type 0) → V × Option R.Denot → Fml
    left_to tells s = fsep (fact (tells s.0 s.1 × Keeps ways view (Some s.0) v s.1)) (fsep (Stand (Some s.0)) (Held (f s.0) s.1))

    abbrev pub moved : (V → Option R.Denot → Type 0) → Fml
    moved tells = fex (V × Option R.Denot) (left_to tells)

    -- the place of the trace in memory
    abbrev pub at : ℕ
    at = o + second_at S R

    abbrev pub Traced : Trace E U → Fml
    Traced m = part_at S full_share m b at

    use_part : (g : Use → ℕ) → g off ≡ 0 → (w : Option V) → counted (λ x. g (f x)) w ≡ g (use_of f w)
    use_part g none w = grind arith

    -- what a step must show, if it leads from m to the words s and the views us while r parties read
    abbrev Owed : ℕ → Trace E U → ℕ × Trace E U → List V → V → Type 0
    Owed r m s us w = Going way u (f w) v r (Carrying ways.2 m s.1 u (f w) v (MeetsRule holds ways s.0 s.1 us))

    module _ (id : ℕ) (vs : List V) (m : Trace E U) (s : ℕ × Trace E U) (w : V) (owed : Owed (readers_of f vs) m s (after id view vs w) w) where
      abbrev us : List V
      us = after id view vs w

      carrying : Carrying ways.2 m s.1 u (f w) v (MeetsRule holds ways s.0 s.1 us)
      carrying = going_rest way u (f w) v (readers_of f vs) owed

      -- the state of the value changes with the views
      shifts : HasView id view vs → Limits way (readers_of f vs) (writers_of f vs) → ‵ (states m vs) ⊛ ‵ (Held u v) ⊫ ‵ (states s.1 us) ⊛ ‵ (Got s.1 w)
      shifts h lim =
          let r = splits (λ y. reading (f y)) id view vs h in let q = splits (λ y. writing (f y)) id view vs h in
          let was_r : readers_of f vs ≡ value.with_reader u r.0 = omega (arith, r.1, use_part reading refl view, value.one_reader u r.0) in
          let was_w : writers_of f vs ≡ value.with_writer u q.0 = omega (arith, q.1, use_part writing refl view, value.one_writer u q.0) in
          let now_r : readers_of f us ≡ value.with_reader (f w) r.0 = r.2 w ∙ value.one_reader (f w) r.0 in
          let now_w : writers_of f us ≡ value.with_writer (f w) q.0 = q.2 w ∙ value.one_writer (f w) q.0 in
          let Turns : (ℕ × ℕ) × (ℕ × ℕ) → Type 1 = λ z. Limits way z.0.0 z.0.1 → Going way u (f w) v z.0.0 (Limits way z.1.0 z.1.1)
          → Carries (know m) (know s.1) u (f w) v
          → ‵ (St (know m) z.0.0 z.0.1) ⊛ ‵ (Held u v) ⊫ ‵ (St (know s.1) z.1.0 z.1.1) ⊛ ‵ (Got s.1 w) in
          let limits_of : Carrying ways.2 m s.1 u (f w) v (MeetsRule holds ways s.0 s.1 us) → Limits way (readers_of f us) (writers_of f us) =
          λ rest. (carrying_rest ways.2 m s.1 u (f w) v rest).1 in
          subst Turns (λ i. ((sym was_r i, sym was_w i), (sym now_r i, sym now_w i)))
          (value.turns 𝓛 R L b o t (know m) (know s.1) way r.0 q.0 u (f w) v) lim
          (going_map way u (f w) v (readers_of f vs) limits_of owed)
          (carrying_carries ways.2 m s.1 u (f w) v (MeetsRule holds ways s.0 s.1 us) carrying)

      -- the rule holds again, and the party has its new view and its part of the value
      leads : (then : ℕ → V → Type 0) (k : ℕ) → then k w → ‵ (roster cv.code t.views 0 us) ⊛ ‵ (Stand (Some w))
          ⊛ ‵ (states s.1 us) ⊛ ‵ (Got s.1 w) ⊩ ‵ (Core s) ⊛ ‵ (moved (finding s.1.entries then k))
      leads then k so = let tells : V → Option R.Denot → Type 0 = finding s.1.entries then k in script ∵
          move ! (3 ∷ []) $ fpick ! (λ v'. fsplit ! $ fpick ! (λ kept. drop ! $ move ! (2 ∷ 0 ∷ []) $ fjoin ! $ knows ! (tells w v' × Keeps ways view (Some w) v v') ((so, learnt_of ways.2 s.1 u (f w) v v' kept.1), kept.0) $ fjoin ! $
          fpack ! (V × Option R.Denot) (left_to tells) (w, v') $ move ! (2 ∷ []) $ knows ! (MeetsRule holds ways s.0 s.1 us) (carrying_rest ways.2 m s.1 u (f w) v carrying) $ fjoin ! $ move ! (2 ∷ 0 ∷ []) $ fjoin ! $
          fpack ! (List V) (core_at R b o t cv.code S holds ways s.0 s.1) us $ done !))

    -- the watch is a watch of the cell's trace, or knows nothing
    abbrev pub May : ℕ → List E → Type 0
    May γ k = (k ≡ []) ⊎ Named holds ways γ

    module _ (told : List E → List E → ℕ → V → Type 0) where
      -- what the step leaves to its party and its watch
      abbrev pub seen_by : ℕ → List E → ℕ → ℕ × (List E × List E) → Fml
      seen_by γ k n s = fsep (fact (IsPrefix k s.1.0 × (Named holds ways γ → s.0 ≡ γ)))
          (fsep (Known s.0 (s.1.0 ++ s.1.1)) (moved (finding (s.1.0 ++ s.1.1) (told s.1.0 s.1.1) n)))

      abbrev pub watched : ℕ → List E → ℕ → Fml
      watched γ k n = fex (ℕ × (List E × List E)) (seen_by γ k n)

      -- The ghost part of a step that finds the number `found`, after its new words are in memory. The step changes the
      -- first word from n₀ to n, and m's word to y.
      pub grows : (γ : ℕ) (k : List E) → May γ k → (n₀ n : ℕ) (m : Trace E U) (y : U) (found : ℕ)
          → ((id : ℕ) (vs : List V) → MeetsRule holds ways n₀ m vs → HasView id view vs → (w : V) × (es : List E)
          × Owed (readers_of f vs) m (n, grown_at m y es) (after id view vs w) w × told m.entries es found w)
          → ‵ (word b (o + 0) n) ⊛ ‵ (Traced (beside m y)) ⊛ ‵ (Core (n₀, m)) ⊛ ‵ Mine ⊛ ‵ (Known γ k) ⊫ ‵ I ⊛ ‵ (watched γ k found)
      grows γ k may n₀ n m y found law = let m' : Trace E U = beside m y in let To : Item 𝓤 = ‵ I ⊛ ‵ (watched γ k found) in updates ∵
          move ! (2 ∷ []) $ fpick ! (λ vs. fsplit ! $ move ! (1 ∷ []) $ fsplit ! $ fpick ! (λ meets. drop ! $ move ! (4 ∷ []) $ fsplit ! $ move ! (3 ∷ 0 ∷ []) $
          -- context: [the views; the party's view; its part of the value; the state; the first word; the trace;
          -- the watch]
          renew To _ (places 𝓛 cv t.views view vs (λ id here. (law id vs meets here).0)) $
          pick ! (λ z. let id = z.0 in let here = z.1 in let r = law id vs meets here in let w : V = r.0 in
          let es : List E = r.1 in let s : ℕ × Trace E U = (n, grown_at m y es) in
          split ! $ move ! (3 ∷ 2 ∷ []) $ renew To _ (shifts id vs m s w r.2 here meets.1) $ move ! (5 ∷ 6 ∷ []) $
          renew To _ (shows γ k m' es b at (elim may [ inl none ↦ inl none | inr named ↦ inr (named n₀ m vs meets) ])) $
          learn ! (λ p. split ! $ settled ! _ $ move ! (4 ∷ 5 ∷ 2 ∷ 3 ∷ []) $
          cite _ (leads id vs m s w r.2 (told m.entries es) found r.3) $
          -- context: [the core; what the step leaves; the trace; what the watch knows; the first word]
          move ! (2 ∷ 0 ∷ []) $ fjoin ! $ move ! (3 ∷ 0 ∷ []) $ fjoin ! $ fpack ! (ℕ × Trace E U) (standing R b o t cv.code S holds ways) s $
          move ! (2 ∷ 1 ∷ []) $ fjoin ! $ knows ! (IsPrefix k m.entries × (Named holds ways γ → m.name ≡ γ)) (p, λ named. named n₀ m vs meets) $ fjoin ! $
          fpack ! (ℕ × (List E × List E)) (seen_by γ k found) (m.name, (m.entries, es)) $ move ! (1 ∷ 0 ∷ []) $ done !))))

      -- a step finds the word n, and puts `to n` in its place
      pub answers : (e : ℕ) (to : ℕ → ℕ) (q : Share) (left : ℕ → Fml) (n : ℕ) (k : Item 𝓤)
          → (n < word_limit → ‵ (word b e (to n)) ⊛ k ⊫ ‵ I ⊛ ‵ (left n))
          → ‵ (word b e n) ⊛ k ⊩ raw (ex 𝓤 (Lies 𝓛 t.life q I b e to always left))
      answers e to q left n k go = lemma (qed 𝓛 (‵ (word b e n) ∷ k ∷ []) ∵
          use1 𝓛 (given (T (has_ty (ty_int w64) (vint w64 n)) × WT (vint w64 n)) (‵ (word b e n))) (𝓛.laws.at_wt full_share (ty_int w64) b e (vint w64 n)) $
          learn ! (λ typed. show ! (Lies 𝓛 t.life q I b e to always left) n $ frame ! $
          each ! (λ (_ : Unit {0}). Again 𝓛 t.life q I b e to always left n) (λ _. assume ! (‵ (word b e (to n))) $ by ! (go typed.1.fits).prf)))

      pub first_steps : (q : Share) (to : ℕ → ℕ) (γ : ℕ) (k : List E) → May γ k → Traces holds ways view v to told
          → ‵ (finv (fbor t.life I)) ⊛ ‵ (flft t.life q) ⊛ ‵ (fsep Mine (Known γ k))
          ⊩ raw (asks 𝓛 (block_ptr b (o + 0)) to always (λ n. fsep (flft t.life q) (watched γ k n)))
      first_steps q to γ k may allows =
          let e : ℕ = o + 0 in let Own : Fml = fsep Mine (Known γ k) in let left : ℕ → Fml = watched γ k in
          lemma (borrowed 𝓛 t.life q I b e to always left ⟦ Own ⟧ (qed 𝓛 (‵ I ∷ ‵ Own ∷ []) ∵
          suffices ! _ (upd_i 𝓤 (ex 𝓤 (Lies 𝓛 t.life q I b e to always left))) $
          fpick ! (λ s. let n : ℕ = s.0 in let m : Trace E U = s.1 in let Rest : Fml = fsep (Traced m) (Core s) in fsplit ! $
          by ! (answers e to q left n (‵ Rest ⊛ ‵ Own) (λ small. updates ∵
          move ! (1 ∷ []) $ fsplit ! $ move ! (3 ∷ []) $ fsplit ! $ move ! (4 ∷ 2 ∷ 3 ∷ 0 ∷ 1 ∷ []) $
          by ! (grows γ k may n (to n) m m.word n (λ id vs meets here. allows id n m vs meets here small)).prf)).prf)))

-- the same for a step on the word next to the trace, if this word is a number
module _ {M : Type 1} {𝓤 : Ura M} (𝓛 : Logic 𝓤) (Er R : RattleType) (L : RowLaws R) (b o : ℕ) (t : Id) {V : Type 0} (cv : Coded V)
    (holds : ℕ → Trace Er.Denot ℕ → List V → Type 0) (ways : Ways R.Denot V (Trace Er.Denot ℕ)) (view : Option V) (v : Option R.Denot)
    (told : List Er.Denot → List Er.Denot → ℕ → V → Type 0) where
  open (signs 𝓛) use {◌⊩◌, ◌⊫◌, ◌⊢◌, ◌∗◌, ⟦◌⟧}

  abbrev place : ℕ
  place = at 𝓛 Er u64 R L b o t cv holds ways view v

  abbrev J : Fml
  J = I 𝓛 Er u64 R L b o t cv holds ways view v

  abbrev Hand : ℕ → List Er.Denot → Fml
  Hand γ k = fsep (Mine 𝓛 Er u64 R L b o t cv holds ways view v) (Known 𝓛 Er u64 γ k)

  abbrev left : ℕ → List Er.Denot → ℕ → Fml
  left = watched 𝓛 Er u64 R L b o t cv holds ways view v told

  pub second_steps : (q : Share) (to : ℕ → ℕ) (γ : ℕ) (k : List Er.Denot) → (k ≡ []) ⊎ Named holds ways γ → TracesSecond holds ways view v to told
      → ‵ (finv (fbor t.life J)) ⊛ ‵ (flft t.life q) ⊛ ‵ (Hand γ k) ⊩ raw (asks 𝓛 (block_ptr b (place + 0)) to always (λ n. fsep (flft t.life q) (left γ k n)))
  second_steps q to γ k may allows = let e : ℕ = place + 0 in let Own : Fml = Hand γ k in
      lemma (borrowed 𝓛 t.life q J b e to always (left γ k) ⟦ Own ⟧ (qed 𝓛 (‵ J ∷ ‵ Own ∷ []) ∵
      suffices ! _ (upd_i 𝓤 (ex 𝓤 (Lies 𝓛 t.life q J b e to always (left γ k)))) $
      fpick ! (λ s. let n : ℕ = s.0 in let m : Trace Er.Denot ℕ = s.1 in let y : ℕ = m.word in
      fsplit ! $ move ! (1 ∷ []) $ fsplit ! $ cite _ (word_apart 𝓛 Er b place m) $
      by ! (answers 𝓛 Er u64 R L b o t cv holds ways view v told e to q (left γ k) y
      (raw (Takes 𝓛 Er b place m) ⊛ ‵ (core R b o t cv.code (S 𝓛 Er u64) holds ways s) ⊛ ‵ (word b (o + 0) n) ⊛ ‵ Own)
      (λ small. updates ∵ let Here : Fml = Traced 𝓛 Er u64 R L b o t cv holds ways view v (beside m (to y)) in
      move ! (1 ∷ []) $ use1 𝓛 (raw (with 𝓛 Er b place m (to y))) (all_e 𝓤 (with 𝓛 Er b place m) (to y)) $
      move ! (1 ∷ 0 ∷ []) $ use2 𝓛 (‵ Here) (apply∗ 𝓤 ⟦ word b e (to y) ⟧ ⟦ Here ⟧) $ move ! (3 ∷ []) $ fsplit ! $ move ! (4 ∷ 2 ∷ 3 ∷ 0 ∷ 1 ∷ []) $
      by ! (grows 𝓛 Er u64 R L b o t cv holds ways view v told γ k may n n m (to y) y (λ id vs meets here. allows id n m vs meets here small)).prf)).prf)))
