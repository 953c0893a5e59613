-- No step of a `Once` uses the value unless the word says that there is one.
use Rattle.spin_world.proofs.OnceNames.{Option, arith, once_machine, LooksWhereComplete}

pub looks_where_complete : {V : Type 0} (value : Option V) → LooksWhereComplete (once_machine value)
looks_where_complete value = λ w u v c l h other. grind (arith, other)
