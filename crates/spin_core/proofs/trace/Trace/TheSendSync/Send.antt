use denote.Exit.{Exit, unchanged, leaves, hidden, under}
use denote.RattleType.{RattleType}
use denote.Param.Send.{IsSend, Quiet}
use denote.Struct.Struct.{exits_of}
use denote.Struct.Owning.{fields, to}
use Rattle.spin_core.specs.contracts.trace.Trace.{the_row, the_type}
use Rattle.spin_core.proofs.tie.Sends.{fields_send, sends}

quiet : {D X : Type 0} (f : D → X) (e : Exit X) → Quiet e → Quiet (hidden (under f e))
quiet f unchanged q = λ x w. tt
quiet f (leaves L l S s r₀) q = λ d. q (f d)

pub send : (T S : RattleType) → IsSend S → IsSend (the_row T S)
send T S s = let O = the_type T S in record { owned = sends T S s; leaving = λ k. quiet (to O) (exits_of k (fields O)) ((fields_send T S s).leaving k) }
