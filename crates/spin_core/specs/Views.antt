-- The plain lock of a cell's parties. A party's view says what it is in the plain lock.
use Rattle.std.specs.Prelude.{◌≡◌, ℕ, pred, cond, nat_lt, ◌≤◌, Bool, true, List, [], ◌∷◌, map, if◌then◌else◌, slice_get}
use Rattle.std.specs.Option.{unwrap_or, option_map}
use Rattle.spin_step.specs.Plain.{Plain, Kind, writing, is_reader, Holder, holder, Ticket, ticket, serving_word}
use Rattle.spin_step.specs.Parties.{Entries, entries, no_entries}
use Rattle.spin_step.specs.Orders.{IsInOrder}
use Rattle.spin_core.specs.Cell.{Use, off, reads, writes}

-- what one party is in the lock
pub data Part : Type 0 where
  idle : Part
  holds : Kind → Part
  queues : ℕ → Bool → Part  -- its ticket has this number, and has or has not entered
  knows_served : ℕ → Part  -- it has nothing, and has found this number served
  starves : Part
  holds_starving : Part  -- it holds, and is still a starver: it uses the value once it has stopped starving

-- the party's entries in the plain lock
abbrev pub entries_of_part : ℕ → Part → Entries
entries_of_part p (holds k) = record { holders = holder p k ∷ []; tickets = []; starvers = [] }
entries_of_part p (queues n entered) = record { holders = []; tickets = ticket p n entered ∷ []; starvers = [] }
entries_of_part p starves = record { holders = []; tickets = []; starvers = p ∷ [] }
entries_of_part p holds_starving = record { holders = holder p writing ∷ []; tickets = []; starvers = p ∷ [] }
entries_of_part p _ = no_entries

-- what a party with this part knows of the plain lock: after `knows_served n` the served number is at least n
abbrev pub KnowsServed : Plain → Part → Type 0
KnowsServed s x = elim x [ knows_served n ↦ n ≤ serving_word s | _ ↦ Unit {0} ]

-- how a party with this part uses the value
abbrev pub use_of_part : Part → Use
use_of_part (holds k) = if is_reader k then reads else writes
use_of_part (queues n true) = writes
use_of_part _ = off

-- the party with this number has this part in the lock
abbrev pub HasPart : Plain → ℕ → Part → Type 0
HasPart s p x = (entries p s ≡ entries_of_part p x) × KnowsServed s x

module _ {V : Type 0} (part : V → Part) where
  -- the part of party p: the part of the p-th view; numbers past the list belong to nobody
  abbrev pub part_at : List V → ℕ → Part
  part_at vs p = unwrap_or (option_map part (slice_get vs p)) idle

  -- each party has in the plain lock the part that its view says; nobody else has entries there
  abbrev pub IsLockOf : List V → Plain → Type 0
  IsLockOf vs s = (p : ℕ) → HasPart s p (part_at vs p)

  -- a view uses the value as its part does
  abbrev pub used_by : V → Use
  used_by v = use_of_part (part v)

  -- the words are those of a plain lock in order (`IsInOrder`), with these parties and this cap
  abbrev pub Encodes : {S : Type 0} → ℕ → (Plain → ℕ) → (Plain → S) → ℕ → S → List V → Type 0
  Encodes cap first second n m vs = (s : Plain) × (s.cap ≡ cap) × IsInOrder s × IsLockOf vs s × (n ≡ first s) × (m ≡ second s)

-- the new place of a party, once the party at place k has left
abbrev pub up : ℕ → ℕ → ℕ
up k p = cond (nat_lt k p) (pred p) p

abbrev pub holder_up : ℕ → Holder → Holder
holder_up k h = holder (up k h.party) h.kind

abbrev pub ticket_up : ℕ → Ticket → Ticket
ticket_up k t = ticket (up k t.party) t.number t.entered

-- the lock after all behind place k have moved up
abbrev pub moved_up : ℕ → Plain → Plain
moved_up k s = record s { holders = map (holder_up k) s.holders; tickets = map (ticket_up k) s.tickets; starvers = map (up k) s.starvers }

-- a word does not depend on the places of the parties
abbrev pub NamesNobody : {S : Type 0} → (Plain → S) → Type 0
NamesNobody word = (k : ℕ) (s : Plain) → word (moved_up k s) ≡ word s

-- for a lock of one word: it has no second word
abbrev pub no_word : Plain → Unit {0}
no_word s = tt
