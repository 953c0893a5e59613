-- What a party has in the plain lock during a call, and how its own plain steps change this.
use Rattle.std.proofs.Common.{◌≡◌, ℕ, Bool, true, false, Option, Some, None, [], ◌∷◌, if◌then◌else◌, arith}
use Rattle.spin_step.specs.Plain.{Plain, Kind, reading, upgradable, writing, holder, same_kind, ticket as queued, Effect, comes, becomes, enters, sits, runs, effect, Change, gets, releases, serves, stops_starving, turns, completes, fails, arrives}
use Rattle.spin_step.specs.Parties.{apply_some, IsOpenStep, Entries, entries, no_entries}
use Rattle.spin_step.proofs.Entries.{entries-own}
use Rattle.spin_step.specs.declared.place.Hold.{Hold}
use Rattle.spin_step.specs.declared.place.Hold.TheVariants.{Read, Upgradable, Write, Ticket, Starver}
use Rattle.spin_world_core.specs.Runs.{entries_held}
use Rattle.spin_world_core.proofs.Lists.{eqb_self}

-- What a party has in the plain lock

pub data Stand : Type 0 where
  absent : Stand
  holds : Kind → Stand
  starves : Stand
  holds_and_starves : Kind → Stand
  queues : ℕ → Bool → Stand  -- with this ticket; the Bool says whether it has entered

abbrev pub entries_at : ℕ → Stand → Entries
entries_at p absent = no_entries
entries_at p (holds k) = record no_entries { holders = holder p k ∷ [] }
entries_at p starves = record no_entries { starvers = p ∷ [] }
entries_at p (holds_and_starves k) = record no_entries { holders = holder p k ∷ []; starvers = p ∷ [] }
entries_at p (queues n entered) = record no_entries { tickets = queued p n entered ∷ [] }

abbrev pub stand_of : Option Hold → Stand
stand_of None = absent
stand_of (Some Read) = holds reading
stand_of (Some Upgradable) = holds upgradable
stand_of (Some Write) = holds writing
stand_of (Some (Ticket n)) = queues n true
stand_of (Some Starver) = starves

pub held_at : (p : ℕ) (h : Option Hold) → entries_held p h ≡ entries_at p (stand_of h)
held_at p h = grind arith

-- What a party has after it gets this `Effect`, if it had this `Stand` before; n is the next ticket's number. `None`:
-- no call gets this effect there.
abbrev pub after_getting : ℕ → Effect → Stand → Option Stand
after_getting n (comes k) absent = Some (holds k)
after_getting n (comes k) starves = Some (holds_and_starves k)
after_getting n (becomes j k) (holds i) = if same_kind j i then Some (holds k) else None
after_getting n (Effect.queues entered) absent = Some (queues n entered)
after_getting n enters (queues m false) = Some (queues m true)
after_getting n sits (queues m false) = Some (holds reading)
after_getting n Effect.starves absent = Some starves
after_getting n runs stand = Some stand
after_getting n _ _ = None

abbrev pub stand_after : ℕ → Option Change → Stand → Option Stand
stand_after n None stand = Some stand
stand_after n (Some (gets p ask)) stand = after_getting n (effect ask) stand
stand_after n (Some (releases p k)) (holds i) = if same_kind k i then Some absent else None
stand_after n (Some (serves p)) (queues m true) = Some absent
stand_after n (Some (stops_starving p)) starves = Some absent
stand_after n (Some (stops_starving p)) (holds_and_starves k) = Some (holds k)
stand_after n (Some (turns p j k)) (holds i) = if same_kind j i then Some (holds k) else None
stand_after n (Some (completes p)) stand = Some stand
stand_after n (Some (fails p)) stand = Some stand
stand_after n (Some (arrives p)) stand = Some stand
stand_after n _ _ = None

-- what the party has after a plain step of its own
pub stand-mine : (s : Plain) (p : ℕ) (step : Option Change) (stand to : Stand) → IsOpenStep s p step → entries p s ≡ entries_at p stand → stand_after s.next step stand ≡ Some to → entries p (apply_some s step) ≡ entries_at p to
stand-mine s p step stand to may mine is = grind (arith, entries-own s p step may, eqb_self p)
