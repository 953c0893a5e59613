-- The fields of a cell in memory: the first word, the value, and the second word or nothing. Assumes `Logic`.
--     fields_out     takes the words and the value out of the cell; any that satisfy the rule make the cell again
--     written_out, written_in     from a cell of the type `the_written` to its fields, and back
--     row_out, row_in             the same for the type `the_row`
use Rattle.std.proofs.Common.{ℕ, zero, ◌+◌, List, [], ◌∷◌, refl, sym, ◌∙◌}
use seplogic.Ra.Ura.{Ura}
use mir.Val.{Val}
use base.Fraction.{full_share}
use base.Stored.{coded_unit}
use base.Logic.{SProp, all, all_e, apply∗}
use base.Fml.{Fml, ftrue, fsep, fex}
use types.Logic.{Logic}
use types.Kit.{join, drop, ‵, raw, ◌⊛◌, ◌$◌, ◌∵◌, !, by, move, keep, use1, use2, split, split3, fsplit, fsplit3, fjoin, fjoin3, fpick, fpack, each, assume, done, Item, some}
use denote.RattleType.{RattleType, Denots}
use denote.Laws.{Lawful}
use denote.Memory.{part_of, part_at, cell_at, lone}
use denote.Steps.{nothing}
use denote.Written.{Laid}
use denote.Written.Laws.{Laid-in}
use denote.Struct.Struct.{Struct, Struct-Lawful}
use denote.Struct.Tuple.{Tuple}
use denote.Struct.Laws.{u64-laws}
use denote.Struct.Members.{Member, row_of, rows_of, parts_at}
use denote.Struct.Parts.{PartsBack, Struct-parts, shape_of}
use Rattle.core.specs.Sync.RawAtomic.{word}
use Rattle.core.proofs.cell.Borrows.{flag}
use Rattle.core.proofs.tally.Steps.{word_out, word_in}
use Rattle.core.specs.contracts.marker.PhantomData as marker
use Rattle.atomic_table.specs.Seated.{fact}
use Rattle.spin_core.specs.Cell.{Ways, Starts, MayLend}
use Rattle.spin_core.specs.CellMemory.{offset, second_at, Known}
use Rattle.spin_core.specs.declared.cell.Rule.{Ghosts}
use Rattle.spin_core.specs.contracts.cell.Cell as C
use Rattle.spin_core.proofs.Signs.{signs}
use Rattle.spin_core.proofs.WalkSteps.{knows}
use Rattle.spin_core.proofs.Lemmas.{script, cite, having}

module _ {M : Type 1} {𝓤 : Ura M} (𝓛 : Logic 𝓤) (m ms : Member) (V Y K : RattleType) (g : Ghosts Y.Denot (row_of m).Denot V.Denot K.Denot (row_of ms).Denot) (key : K.Denot) (b o : ℕ) where
  open (signs 𝓛) use {◌⊩◌, ◌⊢◌, ◌∗◌, ◌-∗◌, ⟦◌⟧}

  abbrev R : RattleType
  R = row_of m

  abbrev S : RattleType
  S = row_of ms

  abbrev pub ways : Ways R.Denot V.Denot S.Denot
  ways = g.ways key

  abbrev pub Knows : Type 0
  Knows = Known ways Y S R

  abbrev Both : RattleType
  Both = Tuple (V ∷ Y ∷ [])

  abbrev pm : Member
  pm = record { row = (marker.the_field Both).row; ty = lone (marker.the_field Both).row.mir }

  abbrev ks : List Member
  ks = pm ∷ flag ∷ m ∷ ms ∷ []

  abbrev Data : RattleType
  Data = Struct (shape_of [] ks)

  -- the words, and the value
  abbrev pub All : Type 0
  All = ℕ × S.Denot × R.Denot

  abbrev data_of : All → Data.Denot
  data_of s = (tt, (s.0, (s.2, (s.1, tt))))

  abbrev pub Fields : All → Fml
  Fields s = part_at Data full_share (data_of s) b o

  abbrev pub Rule : All → Type 0
  Rule s = Starts (g.holds key) ways s.0 s.1 s.2

  abbrev opened : All → Fml
  opened s = fsep (Fields s) (fact (Rule s))

  abbrev pub Opened : Fml
  Opened = fex Knows (λ _. fex All opened)

  abbrev owned : List Val → All → Fml
  owned vs s = fsep (Data.own_val (data_of s) vs) (fact (Rule s))

  abbrev pub Written : Fml
  Written = part_at (C.the_written R V Y K S g) full_share key b o

  pub written_out : ‵ Written ⊩ ‵ Opened
  unfolding part_of
  written_out = script ∵ fpick ! (λ vs. fsplit ! $ move ! (1 ∷ []) $ fpick ! (λ k. fpick ! (λ s. fsplit ! $ move ! (2 ∷ 0 ∷ []) $ fjoin ! $
      fpack ! (List Val) (λ us. fsep (cell_at full_share Data.mir us b o) (Data.own_val (data_of s) us)) vs $ fjoin ! $ fpack ! All opened s $ fpack ! Knows (λ _. fex All opened) k $ done !)))

  pub written_in : (k : Knows) (s : All) → ‵ (Fields s) ⊛ ‵ (fact (Rule s)) ⊩ ‵ Written
  unfolding part_of
  written_in k s = script ∵ fpick ! (λ vs. fsplit ! $ move ! (1 ∷ 2 ∷ []) $ fjoin ! $
      fpack ! All (owned vs) s $ fpack ! Knows (λ _. fex All (owned vs)) k $ move ! (1 ∷ 0 ∷ []) $ fjoin ! $
      fpack ! (List Val) (λ us. fsep (cell_at full_share Data.mir us b o) ((C.the_written R V Y K S g).own_val key us)) vs $ done !)

  abbrev pub Row : Fml
  Row = part_at (C.the_row R V Y K S g) full_share key b o

  pub row_out : ‵ Row ⊩ ‵ Opened
  unfolding part_of
  row_out = script ∵ fpick ! (λ vs. fsplit3 ! $ move ! (2 ∷ []) $ fpick ! (λ k. fpick ! (λ s. fsplit ! $ move ! (2 ∷ 0 ∷ []) $ fjoin ! $
      fpack ! (List Val) (λ us. fsep (cell_at full_share Data.mir us b o) (Data.own_val (data_of s) us)) vs $ move ! (0 ∷ 1 ∷ []) $ fjoin ! $ fpack ! All opened s $ fpack ! Knows (λ _. fex All opened) k $ keep ! (0 ∷ []) $ done !)))

  pub row_in : (k : Knows) (s : All) → ‵ (Fields s) ⊛ ‵ (fact (Rule s)) ⊩ ‵ Row
  unfolding part_of
  row_in k s = let D : RattleType = Laid Data (Unit {0}) coded_unit (λ _. Data.own_val (data_of s)) (λ _ _ _ _. ftrue) in
      script ∵ use1 𝓛 (‵ (part_at D full_share tt b o)) (Laid-in Data (Unit {0}) coded_unit (λ _. data_of s) (λ _ _ _ _. ftrue) 𝓛 tt b o refl) $
      fpick ! (λ vs. fsplit3 ! $ move ! (2 ∷ 3 ∷ []) $ fjoin ! $ fpack ! All (owned vs) s $ fpack ! Knows (λ _. fex All (owned vs)) k $ move ! (2 ∷ 0 ∷ []) $ fjoin ! $ move ! (1 ∷ 0 ∷ []) $ fjoin ! $
      fpack ! (List Val) (λ us. fsep (cell_at full_share Data.mir us b o) ((C.the_row R V Y K S g).own_val key us)) vs $ done !)

  -- ---- the cell's words, without the value
  abbrev pub standing_words : ℕ × S.Denot → Fml
  standing_words s = fsep (word b (o + 0) s.0) (part_at S full_share s.1 b (o + second_at S R))

  abbrev pub At : R.Denot → Fml
  At x = part_at R full_share x b (o + offset R)

  module _ (L : Lawful 𝓛 R) (LS : Lawful 𝓛 S) (P : Fml) (to : ‵ P ⊩ ‵ Opened) (from : (k : Knows) (s : All) → ‵ (Fields s) ⊛ ‵ (fact (Rule s)) ⊩ ‵ P) where
    abbrev joined : All → SProp 𝓤
    joined s = (⟦ standing_words (s.0, s.1) ⟧ ∗ ⟦ At s.2 ⟧ ∗ ⟦ fact (Rule s) ⟧) -∗ ⟦ P ⟧

    abbrev pub Joins : SProp 𝓤
    Joins = all 𝓤 joined

    abbrev pub Apart : Knows × All → Item 𝓤
    Apart z = ‵ (standing_words (z.1.0, z.1.1)) ⊛ ‵ (At z.1.2) ⊛ ‵ (fact (Rule z.1)) ⊛ raw Joins

    joins : (k : Knows) → ‵ (part_at (row_of pm) full_share tt b (o + 0)) ⊛ raw (PartsBack 𝓛 full_share [] ks b o)
        ⊩ raw Joins
    joins k = script ∵ each ! joined (λ s. let a : Denots (rows_of ks) = data_of s in
        assume ! (‵ (standing_words (s.0, s.1)) ⊛ ‵ (At s.2) ⊛ ‵ (fact (Rule s))) $ split3 ! $ fsplit ! $
        use1 𝓛 (‵ (part_at (row_of flag) full_share s.0 b (o + 0))) (word_in 𝓛 b (o + 0) s.0) $ nothing ! $
        -- context: [nothing; the first word; the second; the value; the rule; the marker; the way back]
        move ! (2 ∷ 0 ∷ []) $ fjoin ! $ move ! (2 ∷ 0 ∷ []) $ fjoin ! $ move ! (3 ∷ 1 ∷ 0 ∷ []) $ fjoin3 ! $ move ! (2 ∷ []) $
        use1 𝓛 (raw (⟦ parts_at full_share ks zero a b o ⟧ -∗ ⟦ Fields s ⟧)) (all_e 𝓤 (λ (u : Denots (rows_of ks)). ⟦ parts_at full_share ks zero u b o ⟧ -∗ ⟦ part_at Data full_share u b o ⟧) a) $
        move ! (1 ∷ 0 ∷ []) $ use2 𝓛 (‵ (Fields s)) (apply∗ 𝓤 ⟦ parts_at full_share ks zero a b o ⟧ ⟦ Fields s ⟧) $ by ! (from k s).prf)

    pub fields_out : ‵ P ⊩ some Apart
    fields_out = script ∵ cite _ to $ fpick ! (λ k. fpick ! (λ s. fsplit ! $
        use1 𝓛 (‵ (parts_at full_share ks zero (data_of s) b o) ⊛ raw (PartsBack 𝓛 full_share [] ks b o))
        (Struct-parts 𝓛 full_share [] ks
        (Struct-Lawful 𝓛 (denote.Struct.Declared.shape (marker.the_type Both)) tt, (u64-laws.lawful 𝓛, (L, (LS, tt))))
        (data_of s) b o) $ split ! $ fsplit3 ! $ move ! (1 ∷ []) $
        use1 𝓛 (‵ (word b (o + 0) s.0)) (word_out 𝓛 b (o + 0) s.0) $ move ! (2 ∷ []) $ fsplit3 ! $
        -- context: [the value; the second word; nothing; the first word; the marker; the way back; the rule]
        move ! (3 ∷ 1 ∷ []) $ fjoin ! $ move ! (3 ∷ 4 ∷ []) $ cite _ (joins k) $ having ! Apart (k, s) $ keep ! (1 ∷ 2 ∷ 4 ∷ 0 ∷ []) $ done !))

    -- the words and any value that the rule allows make the cell again
    pub rejoined : (s : All) → Rule s → ‵ (At s.2) ⊛ ‵ (standing_words (s.0, s.1)) ⊛ raw Joins ⊩ ‵ P
    rejoined s rule = script ∵ knows ! (Rule s) rule $ move ! (1 ∷ 0 ∷ []) $ join ! $ move ! (1 ∷ 0 ∷ []) $ join ! $ move ! (1 ∷ []) $
        use1 𝓛 (raw (joined s)) (all_e 𝓤 joined s) $ move ! (1 ∷ 0 ∷ []) $ by ! (apply∗ 𝓤 (⟦ standing_words (s.0, s.1) ⟧ ∗ ⟦ At s.2 ⟧ ∗ ⟦ fact (Rule s) ⟧) ⟦ P ⟧)

-- A cell gets another key, if the rule under the old key implies the rule under the new one (`MayLend`).
module _ {M : Type 1} {𝓤 : Ura M} (𝓛 : Logic 𝓤) (m ms : Member) (V Y K : RattleType) (g : Ghosts Y.Denot (row_of m).Denot V.Denot K.Denot (row_of ms).Denot) (old key : K.Denot) (b o : ℕ)
    (lends : MayLend (g.holds old) (g.ways old) (g.holds key) (g.ways key)) where
  open (signs 𝓛) use {◌⊩◌, ◌⊢◌, ◌∗◌, ◌-∗◌, ⟦◌⟧}

  known : Knows 𝓛 m ms V Y K g old b o → Knows 𝓛 m ms V Y K g key b o
  known k = (λ shared. k.0 (lends.0 shared), (λ v e. k.1 v (sym (lends.1 v) ∙ e)), k.2)

  pub rekeyed : ‵ (Row 𝓛 m ms V Y K g old b o) ⊩ ‵ (Row 𝓛 m ms V Y K g key b o)
  rekeyed = script ∵ cite _ (row_out 𝓛 m ms V Y K g old b o) $ fpick ! (λ k. fpick ! (λ s. fsplit ! $ move ! (1 ∷ []) $ fpick ! (λ rule. drop ! $
      knows ! (Rule 𝓛 m ms V Y K g key b o s) (lends.2 s.0 s.1 s.2 rule) $ move ! (1 ∷ []) $ by ! (row_in 𝓛 m ms V Y K g key b o (known k) s).prf)))
