-- What one party has in a plain lock, and what parties may not have at the same time.
use Rattle.std.specs.Prelude.{◌≡◌, ℕ, ◌<◌, ◌≤◌, Bool, true, not, ◌&&◌, Option, Some, None, List, [], ◌∷◌, length, filter, ◌==◌}
use Rattle.spin_step.specs.Plain.{Plain, writing, upgraders, Holder, Ticket, Change, gets, releases, serves, stops_starving, turns, completes, fails, arrives, apply, is_open, is_empty, count_kind}

-- the party that makes the step
abbrev pub party_of : Change → ℕ
party_of (gets p ask) = p
party_of (releases p k) = p
party_of (serves p) = p
party_of (stops_starving p) = p
party_of (turns p k l) = p
party_of (completes p) = p
party_of (fails p) = p
party_of (arrives p) = p

-- the lock after a step, or after none
abbrev pub apply_some : Plain → Option Change → Plain
apply_some s step = elim step [ None ↦ s | Some c ↦ apply s c ]

-- there is no step, or it is an open step of the party p
abbrev pub IsOpenStep : Plain → ℕ → Option Change → Type 0
IsOpenStep s p None = Unit {0}
IsOpenStep s p (Some c) = (party_of c ≡ p) × (is_open s c ≡ true)

-- all entries of the lock that belong to one party
pub record Entries : Type 0 where
  pub holders : List Holder
  pub tickets : List Ticket
  pub starvers : List ℕ

abbrev pub entries : ℕ → Plain → Entries
entries p s = record {
  holders = filter (λ h. h.party == p) s.holders;
  tickets = filter (λ t. t.party == p) s.tickets;
  starvers = filter (λ q. q == p) s.starvers;
}

abbrev pub no_entries : Entries
no_entries = record { holders = []; tickets = []; starvers = [] }

-- a party's entries after a step of its own, made in the state s, as if the lock had only these entries
abbrev pub entries_after : Plain → Option Change → Entries → Entries
entries_after s step e =
    let t = apply_some (record s { holders = e.holders; tickets = e.tickets; starvers = e.starvers }) step in
    record { holders = t.holders; tickets = t.tickets; starvers = t.starvers }

-- some party holds the lock, or waits in its queue
abbrev pub is_held : Plain → Bool
is_held s = not (is_empty s.holders && is_empty s.tickets)

abbrev pub none_entered : List Ticket → Bool
none_entered [] = true
none_entered (t ∷ ts) = not t.entered && none_entered ts

-- only the first ticket may have entered
abbrev pub first_alone_entered : List Ticket → Bool
first_alone_entered ts = elim ts [ [] ↦ true | t ∷ rest ↦ none_entered rest ]

-- a writer is the only holder, at most one holder may upgrade, and at most one ticket has entered
pub record IsExclusive (s : Plain) : Type 0 where
  pub writer : 0 < count_kind writing s.holders → length s.holders ≡ 1
  pub one_upgradable : upgraders s.holders ≤ 1
  pub one_entered : first_alone_entered s.tickets ≡ true

-- there is at most one holder
abbrev pub OneHolds : Plain → Type 0
OneHolds s = length s.holders ≤ 1
