-- A `&` to a trace owns a share of the right to append. The share says what the entries are. Assumes `Logic`.
use denote.RattleType.{RattleType}
use denote.Param.Laws.{Laws, row_shared}
use denote.Param.Shared.{copy_shared}
use denote.SharingLaws.{one_shr_laws}
use denote.Struct.Laws.{field_copy}
use denote.Struct.Lending.{of_Lends}
use Rattle.core.specs.contracts.marker.PhantomData as marker
use Rattle.spin_core.specs.Logs.{log_part}
use Rattle.spin_core.specs.contracts.trace.Trace as C
use Rattle.spin_core.proofs.trace.Steps.{log_lends}
use Rattle.spin_core.proofs.trace.Trace.TheLaw.Statement.{statement}

pub shares : (T S : RattleType) (L : Laws T) (N : Laws S) → statement T S L N
shares T S L N =
    of_Lends (C.struct T S) (C.the_codes T.Denot S.Denot T.coded S.coded (marker.the_row T).coded) (C.the_heap T S) (C.the_lent T S)
    (λ d p. one_shr_laws (log_part T.coded.code d.name d.entries))
    (row_shared S N, (copy_shared (marker.the_field T) (field_copy (marker.the_type T) tt), tt))
    (λ M 𝓤 𝓛 d p. log_lends 𝓛 T.coded d.name d.entries (C.the_row T S).lives)
