-- All that an object promises of every schedule, from the opening of every world.
use Rattle.std.specs.Prelude.{◌≡◌, ℕ, Bool, true, false, Option, Some, None, List, [], ◌∷◌}
use Rattle.std.specs.List.{list_any}
use Rattle.spin_step.specs.Asks.{is_arrival}
use Rattle.spin_step.specs.Calls.{Asked, Limit, LockKind, within, within_changes}
use Rattle.spin_step.specs.Plain.{Ask, Change}
use Rattle.spin_step.specs.declared.place.Hold.{Hold}
use Rattle.spin_step.specs.declared.place.Hold.TheVariants.{Read, Upgradable, Write, Ticket, Starver}
use Rattle.spin_step.specs.Machines.{Machine}
use Rattle.spin_step.specs.Operations.{Stepwise}
use Rattle.spin_world_core.specs.Runs.{Always, CanStep, state_at, KeepsAll, MomentsAll, CountsAll}
use Rattle.spin_world_core.specs.Users.{ReadsAgree}
use Rattle.spin_world_core.specs.Values.{ValuesAll}

abbrev pub every_hold : List (Option Hold)
every_hold = None ∷ Some Read ∷ Some Upgradable ∷ Some Write ∷ Some (Ticket 0) ∷ Some Starver ∷ []

-- a number of steps, and perhaps one more for each change by others
abbrev pub is_number : Limit → Bool
is_number limit = elim limit [ within k ↦ true | within_changes k ↦ true | _ ↦ false ]

-- What the calls of a lock promise leaves little open. Each call can begin. If it does not wait, it has a limit. A try does
-- not wait. Only where parties just arrive, as at a barrier, a step may be a section that looks and changes at once.
pub record Promises {C : Type 0} (kind : LockKind) (asks : C → Option Hold → Asked) : Type 0 where
  pub begins : (c : C) → list_any (λ h. (asks c h).begins h) every_hold ≡ true
  pub limited : (c : C) (h : Option Hold) (words : ℕ) → (asks c h).waits ≡ false → is_number ((asks c h).limit words) ≡ true
  pub tries : (c : C) (h : Option Hold) (ask : Ask) → (asks c h).tries ≡ Some ask → (asks c h).waits ≡ false
  pub sections : (d : Change) → kind.steps_in_sections ≡ true → kind.plain_steps d ≡ true → is_arrival d ≡ true

pub record Lawful {W V C L A : Type 0} (m : Machine W V C L A) : Type 0 where
  -- Each call begins only if its party holds what the call needs. Each step is one operation on one word, unless the
  -- steps of this kind of lock are sections.
  pub stepwise : Stepwise m
  pub promises : Promises m.lock_kind m.asks
  -- a party in a call can take its next step
  pub can : Always m (λ n past. CanStep m (state_at m n past))
  -- each event has the properties of `Keeps`
  pub keeps : Always m (KeepsAll m)
  -- each answer but a spurious failure is right at a moment of its call
  pub moments : Always m (MomentsAll m)
  -- each call keeps the limits of its steps
  pub counts : Always m (CountsAll m)
  -- two reads under one guard find the same value, if the party writes nothing between them
  pub agree : Always m (ReadsAgree m)
  -- the value that a closure makes is the one that its call brings, and answers give this value
  pub values : Always m (ValuesAll m)
