-- The types that a lock on threads uses if its trace is a schedule. The proof of its `Release` cites them.
use Rattle.std.proofs.Common.{[], ◌∷◌, ◌++◌}
use base.Fml.{Lft}
use contract.BorrowLft.{◌⊑◌, ⊑_meet, ⊑_static}
use denote.Builtin.{usize}
use denote.RattleType.{RattleType}
use denote.Struct.Tuple.{Tuple}
use Rattle.spin_core.specs.contracts.trace.Trace as trace
use Rattle.spin_core.proofs.tie.Sends.{entry_over}
use Rattle.spin_core.specs.contracts.tie.Opening as opening

-- a party's view, with its number and its mark
abbrev pub numbered : RattleType → RattleType
numbered V = Tuple (V ∷ usize ∷ usize ∷ [])

-- the type of the opening of a lock whose trace tells values of this row
abbrev pub opened : RattleType → RattleType
opened V = opening.the_row V

-- the trace, with a second word
abbrev pub traced_over : RattleType → RattleType → RattleType → RattleType
traced_over C V S = trace.the_row (entry_over C V) S

-- What a lock must show when it takes a watch of such a trace: the lock's values live as long as the borrow of the
-- lock.
module _ (κ l : Lft) (within : κ ⊑ l) where
  abbrev alone : Lft
  alone = l ++ []

  abbrev entries : Lft
  entries = let thrice : Lft = alone ++ (alone ++ (alone ++ [])) in (thrice ++ []) ++ (thrice ++ [])

  pub entries_within : κ ⊑ entries
  entries_within = search (within, ⊑_meet, ⊑_static) depth 20

  abbrev permit : Lft
  permit = alone ++ ((alone ++ []) ++ [])

  pub permit_within : κ ⊑ permit
  permit_within = search (within, ⊑_meet, ⊑_static) depth 20
