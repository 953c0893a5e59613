-- A `&` to a write permit owns a `&` to the value. Assumes `Logic`.
use mathlib.Core.List.{[], ◌++◌}
use base.Fml.{Incl-trans}
use contract.BorrowLft.{meet_⊑_left, meet_⊑_right}
use denote.RattleType.{RattleType}
use denote.Ref.{NamedLft, ShrRef}
use denote.Shares.{Shares-less}
use denote.Param.Laws.{Laws}
use denote.Param.Shared.{copy_shared}
use denote.Struct.Field.{RawPtr-field}
use denote.Struct.Laws.{RawPtr-copy, field_copy}
use denote.Struct.Lending.{of_Lends}
use Rattle.core.specs.contracts.marker.PhantomData as marker
use Rattle.spin_core.specs.declared.cell.Rule.{Ghosts}
use Rattle.spin_core.specs.contracts.cell.WritePermit as C
use Rattle.spin_core.proofs.cell.WritePermit.TheLaw.Statement.{statement}
use Rattle.spin_core.proofs.cell.Lends.{writer_laws, Lends-writer}

pub shares : (a : NamedLft) (T V P K S : RattleType) (g : Ghosts P.Denot T.Denot V.Denot K.Denot S.Denot) (L : Laws T) (W : Laws V) (J : Laws P) (I : Laws K) (N : Laws S) → statement a T V P K S g L W J I N
shares a T V P K S g L W J I N = of_Lends (C.struct a T V P K S g) (C.the_codes T.Denot V.Denot P.Denot K.Denot S.Denot T.coded V.coded P.coded K.coded S.coded (marker.the_row (ShrRef a.mir a.lft T)).coded) (C.the_heap a.lft T V P K S g) (C.the_lent a.lft T V P K S g)
    (λ d p. writer_laws P T V.coded.code S (g.holds d.key) (g.ways d.key) L.shr_laws a.lft d.cell d.view d.value)
    (copy_shared RawPtr-field RawPtr-copy, (copy_shared (marker.the_field (ShrRef a.mir a.lft T)) (field_copy (marker.the_type (ShrRef a.mir a.lft T)) tt), tt)) (λ M 𝓤 𝓛 d p.
    let l = (C.the_row a T V P K S g).lives in let s = (ShrRef a.mir a.lft T).lives in
    Lends-writer 𝓛 P T V.coded.code S (g.holds d.key) (g.ways d.key) a.lft l (Incl-trans (meet_⊑_right (T.lives ++ (V.lives ++ (P.lives ++ (K.lives ++ (S.lives ++ []))))) (((s ++ []) ++ []) ++ [])) (Incl-trans (meet_⊑_left ((s ++ []) ++ []) [])
    (Incl-trans (meet_⊑_left (s ++ []) []) (Incl-trans (meet_⊑_left s []) (meet_⊑_left a.lft T.lives)))))
    (Shares-less 𝓛 T T.lives l (Incl-trans (meet_⊑_left (T.lives ++ (V.lives ++ (P.lives ++ (K.lives ++ (S.lives ++ []))))) _) (meet_⊑_left T.lives (V.lives ++ (P.lives ++ (K.lives ++ (S.lives ++ [])))))) (L.shares 𝓛)) d.cell d.view d.value)
