-- What a party's record of its calls says from one of its steps to a later one: which moves the party has made in between.
use Rattle.std.specs.Prelude.{◌≡◌, Option, None, ◌⊎◌, ℕ, true, false, Some, Result, Ok, Err, List, [], ◌++◌}
use Rattle.std.specs.Borrow.{Bor}
use Rattle.std.specs.Option.{IfSome}
use Rattle.spin_core.specs.Own.{MayBe, what}
use Rattle.spin_core.specs.Passes.{Begins as Starts, IsCall, HasNumber, Waits}
use Rattle.spin_core.specs.Spots as spots
use Rattle.spin_core.specs.Spots.{Spot}
use Rattle.spin_core.specs.Stable.{maybe_stable}
use Rattle.spin_session.specs.Turns.{has_begun}
use Rattle.spin_step.specs.Machines.{Machine}
use Rattle.spin_step.specs.declared.answer.Answer.{Answer}
use Rattle.spin_step.specs.declared.answer.Answer.TheVariants.{Value, NoValue}
use Rattle.spin_step.specs.declared.once_calls.OncePoint.TheVariants.{TryBegin, Run}
use Rattle.spin_step.specs.declared.stepped.Next.TheVariants.{Continue, Answers}
use Rattle.spin_once.specs.Model.{Point, model}
use Rattle.spin_once.specs.OnceValues.{Valued, Made, IsValue, bare_watch, given_of, values_by}
use Rattle.spin_once.specs.Once.{Call, View, Onward, Moving, in_call, view_of}
use Rattle.spin_once.specs.declared.once_core.account.Account.{Account}
use Rattle.spin_once.specs.declared.once_core.account.Found.{Found}
use Rattle.spin_once.specs.declared.once_core.init_permit.InitPermit.{InitPermit}
use Rattle.spin_once.specs.declared.once_core.rule.Key.{Key}
use Rattle.spin_once.specs.declared.once_core.rule.Stage.TheVariants.{Seed, Done}

-- a point of a record: the key of the cell, the party's view, and what the party knows of the trace
abbrev pub Place : Type 0 → Type 0 → Type 0
Place T S = Spot (Key T S) View (Valued T)

-- the same, without the values of the trace
abbrev pub bare_place : {T S : Type 0} → Place T S → Spot (Key T S) View Made
bare_place p = (p.0, p.1, bare_watch p.2)

-- the model that a cell with this key runs
abbrev pub model_of : {T S : Type 0} → Key T S → Machine ℕ (Unit {0}) Call Point (Answer (Unit {0}))
model_of key = model (given_of key.opening.value)

-- the answer to a caller that got the value or none
abbrev pub found_or_none : {X : Type 0} → Option X → Answer (Unit {0})
found_or_none None = NoValue
found_or_none (Some value) = Value tt

module _ {T S : Type 0} where
  -- the party has made exactly the moves of this course
  unfoldable pub Moves : Place T S → Moving → Place T S → Type 0
  Moves p course q = spots.Since model_of course (bare_place p) (bare_place q)

  -- from the point `p` to the point `q` the party has made exactly the moves of this course, in one history of one cell
  abbrev pub MadeSince : Place T S → Moving → Place T S → Type 0
  MadeSince p course q = (q.0 ≡ p.0) × (q.2.name ≡ p.2.name) × Moves p course q

  -- from the point `p` to the point `q` the party has written no value
  unfoldable pub WroteNone : Place T S → Place T S → Type 0
  WroteNone p q = (k : ℕ) × MayBe k p.1 × HasNumber k q.1 × (more : List (Valued T)) × (q.2.entries ≡ p.2.entries ++ more) × (values_by k more ≡ [])

  -- at `q` the party is in this call, which it began at `p`, and in which it has written no value
  abbrev pub Entered : Call → Place T S → Place T S → Type 0
  Entered c = λ p q. MadeSince p (Starts c Waits) q × WroteNone p q

  -- from the point `p` to the point `q` the party has made exactly this call, with this answer, and has written no value
  abbrev pub Answered : Call → Answer (Unit {0}) → Place T S → Place T S → Type 0
  Answered c a = λ p q. MadeSince p (IsCall c a) q × WroteNone p q

  -- from the point `p` to the point `q` the party has begun this call, and made steps of it, after which the call goes on so
  abbrev pub Comes : Call → Onward → Place T S → Place T S → Type 0
  Comes c next p q = elim next [ Continue l ↦ Entered c p q | Answers a h ↦ Answered c a p q ]

  -- at `q` the party is in this call, which it began at `p`, or has not begun it
  abbrev pub Under : Call → Place T S → Place T S → Type 0
  Under c p q = (Entered c p q × (has_begun (what q.1) ≡ true)) ⊎ ((q ≡ p) × (has_begun (what q.1) ≡ false))

  abbrev pub here : Account T S → Place T S
  here it = (it.party.key, it.party.view, it.seen)

  -- a party of this cell that has made no call, and knows nothing of the cell's history
  abbrev pub new_in : Key T S → Place T S
  new_in key = (key, None, record { marker = record {}; name = key.opening.name; entries = [] })

  -- what the value of the account's cell is made from
  abbrev pub seed_of : Account T S → S
  seed_of it = it.party.key.seed.value

  -- the party sees that the seed is still in the cell
  abbrev pub HasSeed : Account T S → Type 0
  HasSeed it = it.party.value ≡ Some (maybe_stable (Seed (seed_of it)))

  -- the party sees this value in the cell
  abbrev pub Shows : Account T S → T → Type 0
  Shows it v = it.party.value ≡ Some (maybe_stable (Done v))

  -- The party has made this call, and has found a value. If it wrote a value in this call, the value that it sees satisfies Q.
  abbrev pub Finds : Call → (T → Type 0) → Place T S → Account T S → Type 0
  Finds c Q p it = MadeSince p (IsCall c (Value tt)) (here it) × ((v : T) → Shows it v → Q v ⊎ WroteNone p (here it))

  -- the value is the only one in the history that the party knows; nothing is said once the lock's owner has borrowed its value
  abbrev pub Has : Place T S → T → Type 0
  Has p v = IsValue p.0.opening p.2.entries v

  -- Either a call with a closure is answered by its first load. Or it may begin its closure.
  abbrev pub ComesIn : Call → Place T S → Result (Found T S) (Account T S) → Type 0
  ComesIn c p (Ok found) = Answered c (Value tt) p (here found.account)
  ComesIn c p (Err it) = Entered c p (here it) × (what it.party.view ≡ Some (in_call c TryBegin))

  -- either a call with a closure is answered, or it still goes on
  abbrev pub Claims : Call → Place T S → Result (Found T S) (InitPermit T S) → Type 0
  Claims c p (Ok found) = Answered c (Value tt) p (here found.account)
  Claims c p (Err permit) = Entered c p (here permit.account)

  -- the party of the account `old` may now run the closure of this call, and the seed is still in the cell
  abbrev pub MayRun : Call → Account T S → Account T S → Type 0
  MayRun c old it = HasSeed it × (what it.party.view ≡ Some (in_call c Run)) × (it.party.key ≡ old.party.key)

  -- The party has made a whole call, and has found this value or none. The value is the only one of the cell.
  abbrev pub GetsOrNone : Call → Place T S → Option (Bor T) × Account T S → Type 0
  GetsOrNone c p (found, it) =
      Answered c (found_or_none found) p (here it) × IfSome found (λ value. Has (here it) value.now) × (has_begun (what it.party.view) ≡ false)

-- From the account `old` to the account `now` the party has made steps of this call, after which the call goes on so. A party that may now
-- run its closure sees the seed.
pub record MadeSteps {T S : Type 0} (c : Call) (next : Onward) (old now : Account T S) : Type 0 where
  pub comes : (p : Place T S) → Under c p (here old) → Comes c next p (here now)
  pub key : now.party.key ≡ old.party.key
  pub view : what now.party.view ≡ Some (view_of c next)
  pub seed : next ≡ Continue Run → HasSeed now
