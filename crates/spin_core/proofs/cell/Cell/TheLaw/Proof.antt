-- A full borrow (`fbor`) of a cell becomes what a `&` to the cell owns, whatever the words are. Assumes `Logic`.
use Rattle.std.proofs.Common.{◌≡◌, ℕ, zero, suc, ◌+◌, ◌<◌, List, [], ◌∷◌, ◌++◌, Option, Some, None, sym, subst, arith}
use seplogic.Ra.Ura.{Ura}
use mir.Syntax.{Ty}
use base.Share
use base.Fraction.{full_share}
use base.Stored.{Gv, gnum}
use base.Logic.{SProp, ex, emp, via, apply∗, id⊢}
use base.Fml.{Lft, GName, Share, Incl, Fml, ftrue, fsep, fseps, fex, fwand, fupd, fdead, fauth, fobs, fbor, flft, finv, Incl-refl, Incl-trans}
use base.Before.{before}
use contract.BorrowLft.{meet_⊑_left}
use ghost.Rules.{Toks, span}
use types.Logic.{Logic, lfts}
use types.SemTy.{Body}
use types.Keyed.{entries_new}
use types.Kit.{‵, raw, ◌⊛◌, some, given, learn, check, later, ◌$◌, ◌∵◌, !, by, move, keep, drop, use0, use1, use2, split, split3, fsplit, fsplit3, fjoin, fjoin3, fpick, fpack, pick, assume, await, group, updating, now, done, Item, mean}
use types.Tokens.{bor_open, obor_alter, name_new, name_agree, one_token}
use types.Na.{before-Incl}
use types.Owned.{basic, own_new}
use denote.RattleType.{RattleType}
use denote.Laws.{Lawful}
use denote.Memory.{part_at, mem}
use denote.RawPtr.{block_ptr}
use denote.Steps.{nothing}
use denote.Shares.{Shares}
use denote.Sharing.{ends, always}
use denote.SharingLaws.{some_shr_laws, beside_shr_laws, ends_shr_laws, always_shr_laws}
use denote.Param.{layout}
use denote.Param.Laws.{Laws}
use denote.Struct.Members.{Member, row_of}
use denote.Struct.Lending.{Law}
use Rattle.core.proofs.cell.Borrows.{by_one}
use Rattle.atomic_table.specs.Seated.{halved}
use Rattle.spin_core.specs.Cell.{Way, alone, lends, fixes, Ways, writes, Limits, Fixed, MeetsRule, Starts, readers_of, writers_of, IsKnown, Knowing}
use Rattle.spin_core.specs.CellMemory.{offset, second_at, Known, Id, unused, roster, tag, idle, resting_value, value_state, core_at, standing, inner, kept, cell_shares}
use Rattle.spin_core.specs.declared.cell.Rule.{Ghosts}
use Rattle.spin_core.specs.contracts.cell.Cell as C
use Rattle.spin_core.proofs.cell.Fields.{Written, written_out, written_in, At, Joins, fields_out, rejoined}
use Rattle.spin_core.proofs.cell.Roster.{enrols}
use Rattle.spin_core.proofs.cell.Ways.{unknown, knowing_at, knowing_known, knowing_rest, knowing_none}
use Rattle.core.specs.Sync.RawAtomic.{word}
use Rattle.atomic_table.specs.Seated.{fact}
use Rattle.spin_core.proofs.cell.Rounds.{begun, held, readies, whole, renewed, lies, rests_lent, rests_fixed}
use Rattle.spin_core.proofs.cell.Cell.TheLaw.Statement.{statement}
use Rattle.spin_core.proofs.Signs.{signs}
use Rattle.spin_core.proofs.WalkSteps.{knows}
use Rattle.spin_core.proofs.Lemmas.{script, lemma, cite, updates, settled}

module _ {M : Type 1} {𝓤 : Ura M} (𝓛 : Logic 𝓤) (m ms : Member) (V Y K : RattleType) (g : Ghosts Y.Denot (row_of m).Denot V.Denot K.Denot (row_of ms).Denot) (key : K.Denot) (L : Lawful 𝓛 (row_of m)) (LS : Lawful 𝓛 (row_of ms)) (b o : ℕ) (κ : Lft) where
  open 𝓛 use {H, A}
  open (signs 𝓛) use {◌⊩◌, ◌⊫◌, ◌⊢◌, ◌∗◌, ◌-∗◌, ⟦◌⟧}

  abbrev R : RattleType
  R = row_of m

  abbrev S : RattleType
  S = row_of ms

  abbrev c : V.Denot → Gv
  c = V.coded.code

  abbrev ways : Ways R.Denot V.Denot S.Denot
  ways = g.ways key

  abbrev way : Way R.Denot
  way = ways.0

  abbrev Sure : Type 0
  Sure = Known ways Y S R

  abbrev P : Fml
  P = Written 𝓛 m ms V Y K g key b o

  abbrev Back : SProp 𝓤
  Back = Joins 𝓛 m ms V Y K g key b o L LS P (written_out 𝓛 m ms V Y K g key b o) (written_in 𝓛 m ms V Y K g key b o)

  abbrev Lies : R.Denot → Fml
  Lies = At 𝓛 m ms V Y K g key b o

  -- What the borrow of the words keeps of the value, whose ghost name is ν: that somebody writes it, or which value
  -- it is, with the known fact.
  abbrev found : S.Denot → Way R.Denot → GName → ℕ → ℕ → Option R.Denot → Fml
  found k way' ν r w None = fact (0 < w)
  found k way' ν r w (Some x) = fsep (fobs ν (R.coded.code x)) (fact (Knowing ways.2 k w x (Fixed way' r w x)))

  abbrev read : List V.Denot → ℕ
  read vs = readers_of ways.1 vs

  abbrev wrote : List V.Denot → ℕ
  wrote vs = writers_of ways.1 vs

  abbrev Met : ℕ × S.Denot → List V.Denot → Type 0
  Met s vs = MeetsRule (g.holds key) ways s.0 s.1 vs

  abbrev views_at : GName → ℕ × S.Denot → List V.Denot → Fml
  views_at ν s vs = fsep (fact (Met s vs)) (fex (Option R.Denot) (found s.1 way ν (read vs) (wrote vs)))

  abbrev standing_at : GName → ℕ × S.Denot → Fml
  standing_at ν s = fsep (word b (o + 0) s.0) (fsep (part_at S full_share s.1 b (o + second_at S R)) (fex (List V.Denot) (views_at ν s)))

  abbrev Words : GName → Fml
  Words ν = fex (ℕ × S.Denot) (standing_at ν)

  abbrev Named : GName → Fml
  Named ν = Body (mem R) b (o + offset R) ν

  abbrev two : GName → Fml
  two ν = fsep (fbor κ (Words ν)) (fbor κ (Named ν))

  abbrev Two : Fml
  Two = fex Sure (λ _. fex GName two)

  -- ---- the borrow of the cell becomes two borrows: one of the words, and one of the value
  starts : (ν : GName) (s : ℕ × S.Denot) (vs : List V.Denot) (x : R.Denot) (v : Option R.Denot) → Met s vs
      → ‵ (found s.1 way ν (read vs) (wrote vs) v) ⊛ ‵ (fauth ν (R.coded.code x))
      ⊩ given (Starts (g.holds key) ways s.0 s.1 x) (‵ ftrue)
  starts ν s vs x None meets = let w = wrote vs in script ∵ fpick ! (λ writes. drop ! $ drop ! $
      let known = knowing_none ways.2 s.1 w x writes (unknown way (read vs) w x meets.1 writes) in
      check ! (vs, meets, known) $ nothing ! $ done !)
  starts ν s vs x (Some y) meets = let r = read vs in let w = wrote vs in
      script ∵ fsplit ! $ move ! (1 ∷ []) $ fpick ! (λ known. drop ! $ name_agree ! R.coded (λ same. drop ! $ drop ! $
      check ! (vs, meets, subst (λ z. Knowing ways.2 s.1 w z (Fixed way r w z)) same known) $ nothing ! $ done !))

  way_back : (ν : GName) → raw Back ⊩ ‵ (fwand (fsep (fdead κ) (fseps (Words ν ∷ Named ν ∷ []))) (fupd P))
  unfolding fseps
  way_back ν = script ∵ assume ! (‵ (fsep (fdead κ) (fseps (Words ν ∷ Named ν ∷ [])))) $ settled ! ⟦ P ⟧ $
      fsplit ! $ drop ! $ fsplit3 ! $ fpick ! (λ s. move ! (1 ∷ []) $ fpick ! (λ x. fsplit ! $ keep ! (2 ∷ 0 ∷ 1 ∷ 4 ∷ []) $ fsplit3 ! $ move ! (2 ∷ []) $ fpick ! (λ vs. fsplit ! $ fpick ! (λ meets. drop ! $ fpick ! (λ v.
      -- context: [what was found; the words; the value, and its name ν; the way back]
      move ! (0 ∷ 4 ∷ []) $ cite _ (starts ν s vs x v meets) $ learn ! (λ rule. drop ! $ fjoin ! $ move ! (1 ∷ 0 ∷ []) $
      by ! (rejoined 𝓛 m ms V Y K g key b o L LS P (written_out 𝓛 m ms V Y K g key b o)
      (written_in 𝓛 m ms V Y K g key b o) (s.0, s.1, x) rule).prf))))))

  cut : (q : Share) → ‵ (fbor κ P) ⊛ ‵ (flft κ q) ⊩ later (‵ Two ⊛ ‵ (flft κ q))
  unfolding fseps
  cut q = script ∵ updating ! $ bor_open ! tt $ move ! (1 ∷ []) $
      cite _ (fields_out 𝓛 m ms V Y K g key b o L LS P (written_out 𝓛 m ms V Y K g key b o) (written_in 𝓛 m ms V Y K g key b o)) $
      pick ! (λ z. let x = z.1.2 in let s : ℕ × S.Denot = (z.1.0, z.1.1) in split ! $ move ! (1 ∷ []) $ split3 ! $ move ! (1 ∷ []) $ fpick ! (λ rule. drop ! $
      let vs = rule.0 in let r = read vs in let w = wrote vs in
      name_new ! tt (R.coded.code x) (λ ν. move ! (2 ∷ 1 ∷ []) $ fjoin ! $ fpack ! R.Denot (λ y. fsep (Lies y) (fauth ν (R.coded.code y))) x $
      knows ! (Knowing ways.2 s.1 w x (Fixed way r w x)) rule.2 $ move ! (2 ∷ 0 ∷ []) $ fjoin ! $ fpack ! (Option R.Denot) (found s.1 way ν r w) (Some x) $
      knows ! (Met s vs) rule.1 $ fjoin ! $ fpack ! (List V.Denot) (views_at ν s) vs $
      -- context: [the views; the value; the way back; the words; the open borrow]
      move ! (3 ∷ []) $ fsplit ! $ move ! (0 ∷ 1 ∷ 2 ∷ []) $ fjoin3 ! $ fpack ! (ℕ × S.Denot) (standing_at ν) s $ nothing ! $ move ! (1 ∷ 2 ∷ 0 ∷ []) $ fjoin3 ! $ move ! (1 ∷ []) $
      cite _ (way_back ν) $
      move ! (2 ∷ 1 ∷ 0 ∷ []) $ obor_alter ! tt (Words ν ∷ Named ν ∷ []) $ use1 𝓛 (‵ (fbor κ (Words ν)) ⊛ ‵ (fbor κ (Named ν)) ⊛ ‵ ftrue) (id⊢ 𝓤 _) $ split3 ! $
      fjoin ! $ fpack ! GName two ν $ fpack ! Sure (λ _. fex GName two) z.0 $ now ! $ keep ! (0 ∷ 2 ∷ []) $ done !)))

  -- ---- the state of the value, with any number of readers and writers
  module _ (γ ρ ν : GName) where
    abbrev t : Id
    t = record { life = κ; round = γ; views = ρ; value = ν }

    abbrev St : Way R.Denot → (R.Denot → Type 0) → ℕ → ℕ → Fml
    St = value_state R b o t

    abbrev φ : S.Denot → R.Denot → Type 0
    φ = IsKnown ways.2

    rests : (k : S.Denot) (w : Way R.Denot) (r : ℕ) (x : R.Denot) → φ k x → ‵ (whole 𝓛 R b o t x) ⊩ ‵ (resting_value R b o t w r x)
        → ‵ (idle γ) ⊛ ‵ (fex ℕ (begun 𝓛 R b o t x)) ⊫ ‵ (St w (φ k) r 0)
    rests k w r x known to = renewed 𝓛 R b o t x _ (script ∵ cite _ to $ by ! (lies 𝓛 R b o t w (φ k) r x known).prf)

    away : (k : S.Denot) (w : Way R.Denot) (r n : ℕ) → 0 < n → ‵ (idle γ) ⊩ ‵ (St w (φ k) r n)
    away k w r zero writer = absurd (omega (arith, writer))
    away k alone r (suc n) writer = script ∵ drop ! $ nothing ! $ done !
    away k _ r (suc n) writer = lemma (id⊢ 𝓤 _)

    begins : (k : S.Denot) (w : Way R.Denot) (r n : ℕ) (x : R.Denot) → Limits w r n
        → Knowing ways.2 k n x (Fixed w r n x) → ‵ (idle γ) ⊛ ‵ (held 𝓛 R b o t writes w (Some x)) ⊫ ‵ (St w (φ k) r n)
    begins k alone r zero x lim known = updates ∵ settled ! _ $ drop ! $
        by ! (lies 𝓛 R b o t alone (φ k) r x (knowing_known ways.2 k x (Fixed alone r 0 x) known)).prf
    begins k lends r zero x lim known = rests k lends r x (knowing_known ways.2 k x (Fixed lends r 0 x) known) (rests_lent 𝓛 R b o t r x (omega arith))
    begins k (fixes fact) r zero x lim known = rests k (fixes fact) r x (knowing_known ways.2 k x (Fixed (fixes fact) r 0 x) known) (rests_fixed 𝓛 R b o t fact r x (knowing_rest ways.2 k 0 x known))
    begins k w r (suc n) x lim known = updates ∵ settled ! _ $ keep ! (0 ∷ []) $ by ! (away k w r (suc n) (omega arith)).prf

    -- ---- what is found of the value in each state
    named_at : (w : Way R.Denot) (r : ℕ) (x : R.Denot) → ‵ (resting_value R b o t w r x) ⊩ given (Fixed w r 0 x) (‵ (fobs ν (R.coded.code x)))
    named_at alone r x = script ∵ check ! tt $ fsplit ! $ keep ! (0 ∷ []) $ done !
    named_at lends r x = script ∵ check ! tt $ fpick ! (λ a. fsplit ! $ drop ! $ fsplit ! $ keep ! (0 ∷ []) $ done !)
    named_at (fixes fact) zero x = script ∵
        fpick ! (λ a. fsplit ! $ fpick ! (λ known. check ! known $ drop ! $ fsplit ! $ keep ! (0 ∷ []) $ done !))
    named_at (fixes fact) (suc r) x = script ∵
        fpick ! (λ a. fsplit ! $ fpick ! (λ e. fpick ! (λ known. check ! known $ drop ! $ fsplit ! $ keep ! (0 ∷ []) $ done !)))

    finds : (k : S.Denot) (w : Way R.Denot) (r n : ℕ) → ‵ (St w (φ k) r n) ⊩ ‵ (fex (Option R.Denot) (found k w ν r n))
    finds k w r zero = script ∵ fpick ! (λ x. fpick ! (λ is. cite _ (named_at w r x) $
        learn ! (λ known. knows ! (Knowing ways.2 k 0 x (Fixed w r 0 x)) (knowing_at ways.2 k x is known) $
        move ! (1 ∷ 0 ∷ []) $ fjoin ! $ fpack ! (Option R.Denot) (found k w ν r 0) (Some x) $ done !)))
    finds k w r (suc n) = script ∵ drop ! $ knows ! (0 < suc n) (omega arith) $ fpack ! (Option R.Denot) (found k w ν r (suc n)) None $ done !

    abbrev I : Fml
    I = inner R b o t c S (g.holds key) ways

    words_back : raw (emp 𝓤) ⊩ ‵ (fwand (fsep (fdead κ) (fseps (I ∷ []))) (fupd (Words ν)))
    unfolding fseps
    words_back = script ∵ assume ! (‵ (fsep (fdead κ) (fsep I ftrue))) $ settled ! ⟦ Words ν ⟧ $ fsplit3 ! $
        keep ! (1 ∷ []) $ fpick ! (λ s. fsplit3 ! $ move ! (2 ∷ []) $
        fpick ! (λ vs. let r = read vs in let w = wrote vs in fsplit3 ! $ move ! (1 ∷ []) $ fpick ! (λ meets. drop ! $ drop ! $
        cite _ (finds s.1 way r w) $ knows ! (Met s vs) meets $ fjoin ! $ fpack ! (List V.Denot) (views_at ν s) vs $ move ! (1 ∷ 2 ∷ 0 ∷ []) $ fjoin3 ! $
        fpack ! (ℕ × S.Denot) (standing_at ν) s $ done !)))

    -- ---- the invariant is made; its roster has the views vs, of which the rule holds
    module _ (l : Lft) (shares : Shares 𝓛 R l) (μ : Lft) (e f : Share) (i : Incl μ κ) (j : Incl μ l) where
      stands : (k : S.Denot) (vs : List V.Denot) (v : Option R.Denot) → Limits way (read vs) (wrote vs)
          → ‵ (found k way ν (read vs) (wrote vs) v) ⊛ ‵ (fbor κ (Named ν)) ⊛ ‵ (idle γ) ⊛ ‵ (flft μ e) ⊛ ‵ (flft μ f)
          ⊩ later (‵ (St way (φ k) (read vs) (wrote vs)) ⊛ ‵ (flft μ e) ⊛ ‵ (flft μ f))
      stands k vs None lim = let r = read vs in let w = wrote vs in
          script ∵ updating ! $ fpick ! (λ writes. drop ! $ drop ! $ cite _ (away k way r w writes) $ now ! $ done !)
      stands k vs (Some x) lim = let r = read vs in let w = wrote vs in
          script ∵ updating ! $ fsplit ! $ move ! (1 ∷ []) $ fpick ! (λ known. drop ! $ fjoin ! $ move ! (0 ∷ 2 ∷ 3 ∷ []) $
          cite _ (readies 𝓛 R b o t l shares writes way (Some x) μ e μ f i j) $ await ! tt $ split3 ! $ move ! (3 ∷ 0 ∷ []) $
          use2 𝓛 (later (‵ (St way (φ k) r w))) (via 𝓤 _ (begins k way r w x lim known).prf (basic 𝓛 ⟦ St way (φ k) r w ⟧)) $ await ! tt $ now ! $ done !)

      abbrev Given : Gv → Item 𝓤
      Given u = ‵ (fbor κ (Words ν)) ⊛ ‵ (fbor κ (Named ν)) ⊛ ‵ (unused ρ 0 u) ⊛ ‵ (idle γ) ⊛ ‵ (flft μ e) ⊛ ‵ (flft μ f)

      guarded : (k : Sure) (u : Gv) (q : Share)
          → Given u ⊛ ‵ (flft κ q) ⊩ later ((‵ (cell_shares Y R c S (g.holds key) ways (block_ptr b o) κ) ⊛ ‵ (flft μ e) ⊛ ‵ (flft μ f)) ⊛ ‵ (flft κ q))
      unfolding fseps
      guarded k u q = script ∵ updating ! $
          split ! $ move ! (1 ∷ []) $ split3 ! $ move ! (2 ∷ []) $ split3 ! $ move ! (5 ∷ 6 ∷ []) $ bor_open ! tt $ move ! (1 ∷ []) $ fpick ! (λ s. fsplit3 ! $ move ! (2 ∷ []) $ fpick ! (λ vs. fsplit ! $ fpick ! (λ meets. drop ! $ fpick ! (λ v.
          -- context: [what was found; the words; the open borrow; the name γ; two tokens; the value's borrow; the
          -- unused entries of ρ]
          move ! (0 ∷ 7 ∷ 4 ∷ 5 ∷ 6 ∷ []) $ cite _ (stands s.1 vs v meets.1) $ await ! tt $ split3 ! $
          move ! (6 ∷ []) $ use1 𝓛 (later (‵ (roster c ρ 0 vs))) (via 𝓤 _ (enrols 𝓛 V.coded ρ vs 0 u).prf (basic 𝓛 ⟦ roster c ρ 0 vs ⟧)) $ await ! tt $
          knows ! (Met s vs) meets $
          move ! (1 ∷ 0 ∷ 2 ∷ []) $ fjoin3 ! $ fpack ! (List V.Denot) (core_at R b o t c S (g.holds key) ways s.0 s.1) vs $ move ! (3 ∷ 4 ∷ 0 ∷ []) $ fjoin3 ! $ fpack ! (ℕ × S.Denot) (standing R b o t c S (g.holds key) ways) s $
          nothing ! $ move ! (1 ∷ 0 ∷ []) $ fjoin ! $
          use0 𝓛 (‵ (fwand (fsep (fdead κ) (fseps (I ∷ []))) (fupd (Words ν)))) words_back.prf $
          move ! (4 ∷ 1 ∷ 0 ∷ []) $ obor_alter ! tt (I ∷ []) $
          use1 𝓛 (‵ (fbor κ I) ⊛ ‵ ftrue) (id⊢ 𝓤 _) $ split ! $ use1 𝓛 (later (‵ (finv (fbor κ I)))) (𝓛.invs.inv_new (fbor κ I)) $ await ! tt $
          use0 𝓛 (‵ (before κ κ)) (before-Incl 𝓛 κ κ (Incl-refl κ)) $ fjoin ! $ fpack ! Id (λ y. kept R b o y c S (g.holds key) ways κ) t $
          fpack ! Sure (λ _. fex Id (λ y. kept R b o y c S (g.holds key) ways κ)) k $ now ! $ move ! (0 ∷ 3 ∷ 4 ∷ []) $ group ! 3 $ keep ! (0 ∷ 2 ∷ []) $ done !))))

  made : (l : Lft) → Shares 𝓛 R l → (ts : Toks) → Incl (span ts) l → Incl (span ts) κ
      → ‵ (fbor κ P) ⊛ raw (lfts 𝓛 ts) ⊩ later (‵ (cell_shares Y R c S (g.holds key) ways (block_ptr b o) κ) ⊛ raw (lfts 𝓛 ts))
  made l shares ts inc sp = let μ = span ts in let none = gnum 0 in let Q = cell_shares Y R c S (g.holds key) ways (block_ptr b o) κ in
      script ∵ updating ! $
      use2 𝓛 (later (‵ Two ⊛ raw (lfts 𝓛 ts))) (by_one 𝓛 κ ts sp (A.bor κ P) ⟦ Two ⟧ (λ q. (cut q).prf)) $ await ! tt $
      split ! $ fpick ! (λ k. fpick ! (λ ν. fsplit ! $
      use0 𝓛 (later (some (λ (γ : GName). ‵ (tag γ full_share none)))) (via 𝓤 _ (own_new 𝓛 halved (full_share, none)) (basic 𝓛 (ex 𝓤 (λ (γ : GName). ⟦ tag γ full_share none ⟧)))) $ await ! tt $ pick ! (λ γ. fpack ! Gv (tag γ full_share) none $
      use0 𝓛 (later (some (λ (ρ : GName). ‵ (unused ρ 0 none)))) (via 𝓤 _ (entries_new halved 𝓛 0 (λ _. (full_share, none))) (basic 𝓛 (ex 𝓤 (λ (ρ : GName). ⟦ unused ρ 0 none ⟧)))) $ await ! tt $ pick ! (λ ρ.
      -- context: [the unused entries of ρ; the name γ; the words' borrow; the value's borrow; the tokens]
      move ! (4 ∷ []) $ use1 𝓛 (some (λ (q : Share). ‵ (flft μ q) ⊛ raw (A.lft μ q -∗ lfts 𝓛 ts))) (one_token 𝓛 ts) $ pick ! (λ q. let a = Share.left q in
      let d = Share.right q in let e = Share.left d in let f = Share.right d in
      split ! $ use1 𝓛 (‵ (flft μ a) ⊛ ‵ (flft μ d)) (𝓛.lfts.lft_split μ q) $ split ! $ move ! (1 ∷ []) $ use1 𝓛 (‵ (flft μ e) ⊛ ‵ (flft μ f)) (𝓛.lfts.lft_split μ d) $ split ! $
      -- context: [two tokens; a third; the way back; the unused entries of ρ; the name γ; the words' borrow; the
      -- value's]
      move ! (6 ∷ 7 ∷ 4 ∷ 5 ∷ 0 ∷ 1 ∷ []) $ group ! 6 $
      use2 𝓛 (later ((‵ Q ⊛ ‵ (flft μ e) ⊛ ‵ (flft μ f)) ⊛ ‵ (flft μ a)))
      (by_one 𝓛 κ ((μ, a) ∷ []) sp (mean 𝓛 (Given γ ρ ν l shares μ e f sp inc none)) (⟦ Q ⟧ ∗ A.lft μ e ∗ A.lft μ f)
      (λ z. (guarded γ ρ ν l shares μ e f sp inc k none z).prf)) $ await ! tt $
      split ! $ split3 ! $ move ! (1 ∷ 2 ∷ []) $ use2 𝓛 (‵ (flft μ d)) (𝓛.lfts.lft_join μ d) $ move ! (2 ∷ 0 ∷ []) $ use2 𝓛 (‵ (flft μ q)) (𝓛.lfts.lft_join μ q) $
      move ! (0 ∷ 2 ∷ []) $ use2 𝓛 (raw (lfts 𝓛 ts)) (apply∗ 𝓤 (A.lft μ q) (lfts 𝓛 ts)) $ now ! $ keep ! (1 ∷ 0 ∷ []) $ done !)))))

-- a type that is stored as one machine value is what `row_of` makes of a member with this type and its layout
alike : (T : RattleType) (L : Laws T) → T ≡ row_of (record { row = T; ty = layout T })
alike T L = λ i. record { Denot = T.Denot; mir = L.one i; written = T.written; reaches = T.reaches; lives = T.lives; own_val = T.own_val; exit = T.exit; coded = T.coded; shr_at = T.shr_at }

pub shares : (T V P K S : RattleType) (g : Ghosts P.Denot T.Denot V.Denot K.Denot S.Denot) (L : Laws T) (W : Laws V) (J : Laws P) (I : Laws K) (N : Laws S) → statement T V P K S g L W J I N
shares T V P K S g L W J I N = let m : Member = record { row = T; ty = layout T } in let ms : Member = record { row = S; ty = layout S } in
    let same = alike T L in let same_second : S ≡ row_of ms = alike S N in
    subst (λ (z : List Ty × List Ty). Law (C.the_written (record T { mir = z.0 }) V P K (record S { mir = z.1 }) g)) (λ i. (sym L.one i, sym N.one i)) (record {
      shr_laws = λ d b o. some_shr_laws (Known (g.ways d) P (row_of ms) (row_of m)) (λ _. denote.Sharing.some Id (λ t. kept (row_of m) b o t V.coded.code (row_of ms) (g.holds d) (g.ways d))) (λ _.
          some_shr_laws Id (λ t. kept (row_of m) b o t V.coded.code (row_of ms) (g.holds d) (g.ways d))
          (λ t. let I = inner (row_of m) b o t V.coded.code (row_of ms) (g.holds d) (g.ways d) in
          beside_shr_laws (ends t.life) (always (fbor t.life I)) (ends_shr_laws t.life) (always_shr_laws (fbor t.life I))));
      shares = λ M 𝓤 𝓛 d κ ts b o inc sp.
          (made 𝓛 m ms V P K g d (subst (Lawful 𝓛) same (L.lawful 𝓛)) (subst (Lawful 𝓛) same_second (N.lawful 𝓛)) b o κ
          T.lives (subst (λ (R : RattleType). Shares 𝓛 R T.lives) same (L.shares 𝓛)) ts
          (Incl-trans inc
          (Incl-trans (meet_⊑_left (T.lives ++ (V.lives ++ (P.lives ++ (K.lives ++ (S.lives ++ []))))) _)
          (meet_⊑_left T.lives (V.lives ++ (P.lives ++ (K.lives ++ (S.lives ++ []))))))) sp).prf;
    })
