use denote.Exit.{Exit, unchanged, leaves, hidden, under}
use denote.RattleType.{RattleType}
use denote.Param.Send.{IsSend, Quiet, owning_send, struct_send}
use denote.Struct.Struct.{exits_of}
use denote.Struct.Owning.{shape, fields, to}
use Rattle.spin_once.specs.contracts.exclusive.Exclusive.{the_row, the_type}

quiet : {D X : Type 0} (f : D → X) (e : Exit X) → Quiet e → Quiet (hidden (under f e))
quiet f unchanged q = λ x w. tt
quiet f (leaves L l S s r₀) q = λ d. q (f d)

pub send : (T : RattleType) → IsSend T → IsSend (the_row T)
send T s = let O = the_type T in owning_send O (s, tt) (λ d. tt) (λ k. quiet (to O) (exits_of k (fields O)) ((struct_send (shape O) (s, tt)).leaving k))
