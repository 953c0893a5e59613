-- The usual table of an object.
use Rattle.std.specs.Prelude.{true, Option}
use Rattle.spin_step.specs.declared.place.Hold.{Hold}
use Rattle.spin_step.specs.declared.answer.Answer.{Answer}
use Rattle.spin_step.specs.Calls.{Asked, LockKind, says_of}
use Rattle.spin_step.specs.Acts.{Memory, Act, Table}

-- The table with this value, kind of lock and words. Its object has an owner, no cap and no groups. Its first ticket is 0, and each step is
-- on the first word.
abbrev pub usual_table : {W V C L X : Type 0} → Option V → LockKind → W → Memory W → (C → Option Hold → L) → (C → L → Option Hold → Act W L (Answer X))
    → (C → Option Hold → Asked) → Table W V C L (Answer X)
usual_table value kind words memory start act asks = record {
  words = words;
  value = value;
  owned = true;
  lock_kind = kind;
  cap = 0;
  group = 0;
  first = 0;
  memory = memory;
  start = start;
  word = λ l. 0;
  act = act;
  asks = asks;
  says = says_of;
}
