-- The word next to a trace, in memory: it lies at the trace's address, and another word may replace it. Assumes
-- `Logic`.
use Rattle.std.proofs.Common.{ℕ, zero, ◌+◌, List, [], ◌∷◌}
use seplogic.Ra.Ura.{Ura}
use mir.Val.{Val}
use base.Fraction.{full_share}
use base.Logic.{SProp, all, all_e, apply∗}
use base.Fml.{Fml, ftrue, fsep}
use types.Logic.{Logic}
use types.Kit.{‵, raw, ◌⊛◌, ◌$◌, ◌∵◌, !, move, keep, use1, use2, split, split3, fsplit, fjoin, fpick, fpack, each, assume, done}
use denote.RattleType.{RattleType, Denots}
use denote.Memory.{part_of, part_at, cell_at, lone}
use denote.Steps.{nothing}
use denote.Struct.Struct.{Struct, Struct-Lawful}
use denote.Struct.Laws.{u64-laws}
use denote.Struct.Members.{Member, row_of, rows_of, parts_at}
use denote.Struct.Parts.{PartsBack, Struct-parts, shape_of}
use denote.Builtin.{u64}
use Rattle.core.specs.Sync.RawAtomic.{word}
use Rattle.core.proofs.cell.Borrows.{flag}
use Rattle.core.proofs.tally.Steps.{word_out, word_in}
use Rattle.core.specs.contracts.marker.PhantomData as marker
use Rattle.spin_core.specs.Logs.{log_owns}
use Rattle.spin_core.specs.contracts.trace.Trace as trace
use Rattle.spin_core.specs.declared.trace.Trace.{Trace}
use Rattle.spin_core.proofs.Signs.{signs}
use Rattle.spin_core.proofs.Lemmas.{script, cite}

-- the trace with this word
abbrev pub beside : {E S : Type 0} → Trace E S → S → Trace E S
beside m w = record { word = w; marker = m.marker; name = m.name; entries = m.entries }

module _ {M : Type 1} {𝓤 : Ura M} (𝓛 : Logic 𝓤) (Er : RattleType) (b o : ℕ) where
  open (signs 𝓛) use {◌⊩◌, ◌⊢◌, ◌∗◌, ◌-∗◌, ⟦◌⟧}

  abbrev S : RattleType
  S = trace.the_row Er u64

  abbrev pm : Member
  pm = record { row = (marker.the_field Er).row; ty = lone (marker.the_field Er).row.mir }

  abbrev ks : List Member
  ks = flag ∷ pm ∷ []

  abbrev Data : RattleType
  Data = Struct (shape_of [] ks)

  abbrev data_of : ℕ → Data.Denot
  data_of w = (w, (tt, tt))

  abbrev In : Trace Er.Denot ℕ → Fml
  In m = part_at S full_share m b o

  abbrev Word : ℕ → Fml
  Word w = part_at (row_of flag) full_share w b (o + 0)

  abbrev Mark : Fml
  Mark = part_at (row_of pm) full_share tt b (o + 8)

  abbrev Back : SProp 𝓤
  Back = PartsBack 𝓛 full_share [] ks b o

  abbrev pub with : Trace Er.Denot ℕ → ℕ → SProp 𝓤
  with m w = ⟦ word b (o + 0) w ⟧ -∗ ⟦ In (beside m w) ⟧

  abbrev pub Takes : Trace Er.Denot ℕ → SProp 𝓤
  Takes m = all 𝓤 (with m)

  takes : (m : Trace Er.Denot ℕ) → ‵ Mark ⊛ raw Back ⊛ ‵ (log_owns Er.coded.code m.name m.entries) ⊩ raw (Takes m)
  unfolding part_of
  takes m = script ∵ each ! (with m) (λ w. let a : Denots (rows_of ks) = data_of w in
      let m' : Trace Er.Denot ℕ = beside m w in assume {P = ⟦ In m' ⟧} ! (‵ (word b (o + 0) w)) $
      use1 𝓛 (‵ (Word w)) (word_in 𝓛 b (o + 0) w) $ nothing ! $
      -- context: [nothing; the word; the marker; the way back; the log]
      move ! (2 ∷ 0 ∷ []) $ fjoin ! $ move ! (1 ∷ 0 ∷ []) $ fjoin ! $ move ! (1 ∷ []) $
      use1 𝓛 (raw (⟦ parts_at full_share ks zero a b o ⟧ -∗ ⟦ part_at Data full_share a b o ⟧)) (all_e 𝓤 (λ (u : Denots (rows_of ks)). ⟦ parts_at full_share ks zero u b o ⟧ -∗ ⟦ part_at Data full_share u b o ⟧) a) $
      move ! (1 ∷ 0 ∷ []) $ use2 𝓛 (‵ (part_at Data full_share a b o)) (apply∗ 𝓤 ⟦ parts_at full_share ks zero a b o ⟧ ⟦ part_at Data full_share a b o ⟧) $
      fpick ! (λ vs. fsplit ! $ move ! (1 ∷ 2 ∷ []) $ fjoin ! $ move ! (1 ∷ 0 ∷ []) $ fjoin ! $ fpack ! (List Val) (λ us. fsep (cell_at full_share S.mir us b o) (S.own_val m' us)) vs $ done !))

  pub word_apart : (m : Trace Er.Denot ℕ) → ‵ (In m) ⊩ ‵ (word b (o + 0) m.word) ⊛ raw (Takes m)
  unfolding part_of
  word_apart m = script ∵ fpick ! (λ vs. fsplit ! $ move ! (1 ∷ []) $ fsplit ! $
      -- context: [the fields; the log; the place]
      move ! (2 ∷ 0 ∷ []) $ fjoin ! $ fpack ! (List Val) (λ us. fsep (cell_at full_share Data.mir us b o) (Data.own_val (data_of m.word) us)) vs $
      use1 𝓛 ((‵ (Word m.word) ⊛ ‵ Mark ⊛ ‵ ftrue) ⊛ raw Back) (Struct-parts 𝓛 full_share [] ks (u64-laws.lawful 𝓛, (Struct-Lawful 𝓛 (denote.Struct.Declared.shape (marker.the_type Er)) tt, tt)) (data_of m.word) b o) $
      split ! $ split3 ! $ use1 𝓛 (‵ (word b (o + 0) m.word)) (word_out 𝓛 b (o + 0) m.word) $ move ! (1 ∷ 3 ∷ 4 ∷ []) $
      cite _ (takes m) $ keep ! (1 ∷ 0 ∷ []) $ done !)
