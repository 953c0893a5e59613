-- The plain lock: lists of numbered parties and a few numbers, without a word, a bit or a loop. One record serves every lock. Each lock
-- uses the fields that it needs, and never changes the others.
use Rattle.std.specs.Prelude.{ℕ, zero, suc, ◌+◌, ◌-◌, ◌*◌, ◌/◌, ◌%◌, ◌^◌, Bool, true, false, not, ◌&&◌, ◌||◌, if◌then◌else◌, List, [], ◌∷◌, ◌++◌, length, max, nat_lt, ◌==◌, count_by, sum_by}

-- how a holder holds the lock
pub data Kind : Type 0 where
  reading : Kind
  upgradable : Kind  -- it reads, and may upgrade
  asking : Kind  -- it still reads, and has asked to upgrade
  writing : Kind

pub record Holder : Type 0 where
  pub party : ℕ
  pub kind : Kind

-- A place in the queue. If the ticket has entered, its party holds the lock and writes.
pub record Ticket : Type 0 where
  pub party : ℕ
  pub number : ℕ
  pub entered : Bool

-- the phase of a `Once`
pub data Phase : Type 0 where
  nothing : Phase
  running : ℕ → Phase
  complete : Phase

-- The lock itself. The cap limits how many starve in a fair lock, and how many hold in a lock that several may hold.
pub record Plain : Type 0 where
  pub cap : ℕ  -- the most holders, or the most starvers, at a time
  pub group : ℕ  -- how many arrivals make a group at a barrier
  pub holders : List Holder
  pub tickets : List Ticket  -- in the order in which they were taken
  pub next : ℕ  -- the number of the next ticket
  pub starvers : List ℕ
  pub phase : Phase
  pub arrivals : ℕ

-- a lock that no party has used yet
abbrev pub fresh : ℕ → ℕ → ℕ → Plain
fresh cap group first = record { cap = cap; group = group; holders = []; tickets = []; next = first; starvers = []; phase = nothing; arrivals = 0 }

-- every ticket's number is below this limit, u64::MAX
abbrev pub ticket_limit : ℕ
ticket_limit = 18446744073709551615

-- What a party may ask of the lock.
pub data Ask : Type 0 where
  to_read : Ask
  to_read_upgradable : Ask
  to_write : Ask
  to_upgrade : Ask
  to_upgrade_asked : Ask  -- an upgrade by a party that has asked for it before
  to_take_ticket : Ask
  to_enter : Ask
  to_take_and_enter : Ask  -- the `try_lock` of a ticket lock
  to_sit : Ask  -- to read in its turn: in place of its ticket the party becomes a reader
  to_lock_unregistered : Ask  -- the lock, for a party that is no starver
  to_lock_starving : Ask  -- the lock, for a starver
  to_lock_starving_alone : Ask  -- the lock, for a starver, if nobody else starves
  to_starve : Ask
  to_begin : Ask  -- to run a `Once`'s closure

abbrev pub same_kind : Kind → Kind → Bool
same_kind reading reading = true
same_kind upgradable upgradable = true
same_kind asking asking = true
same_kind writing writing = true
same_kind _ _ = false

abbrev pub count_kind : Kind → List Holder → ℕ
count_kind k hs = count_by (λ h. same_kind k h.kind) hs

abbrev pub is_empty : {X : Type 0} → List X → Bool
is_empty xs = elim xs [ [] ↦ true | x ∷ rest ↦ false ]

abbrev pub is_only : ℕ → Kind → List Holder → Bool
is_only p k [] = false
is_only p k (h ∷ []) = (h.party == p) && same_kind k h.kind
is_only p k (h ∷ i ∷ hs) = false

abbrev pub is_holder : ℕ → Kind → List Holder → Bool
is_holder p k [] = false
is_holder p k (h ∷ hs) = ((h.party == p) && same_kind k h.kind) || is_holder p k hs

abbrev pub is_starver : ℕ → List ℕ → Bool
is_starver p [] = false
is_starver p (q ∷ qs) = (q == p) || is_starver p qs

-- the first ticket is the party's own, and has or has not entered
abbrev pub is_first : ℕ → Bool → List Ticket → Bool
is_first p entered [] = false
is_first p entered (t ∷ ts) = (t.party == p) && (if entered then t.entered else not t.entered)

-- a ticket of the party is among the first k
abbrev pub is_near : ℕ → ℕ → List Ticket → Bool
is_near p k [] = false
is_near p zero (t ∷ ts) = false
is_near p (suc k) (t ∷ ts) = (t.party == p) || is_near p k ts

abbrev pub is_nothing : Phase → Bool
is_nothing phase = elim phase [ nothing ↦ true | _ ↦ false ]

abbrev pub is_running : ℕ → Phase → Bool
is_running p phase = elim phase [ running q ↦ q == p | _ ↦ false ]

abbrev pub is_complete : Phase → Bool
is_complete phase = elim phase [ complete ↦ true | _ ↦ false ]

abbrev pub is_reader : Kind → Bool
is_reader kind = elim kind [ writing ↦ false | _ ↦ true ]

abbrev pub reader_count : List Holder → ℕ
reader_count hs = count_by (λ h. is_reader h.kind) hs

-- a holder of this kind may upgrade: become the writer
abbrev pub may_upgrade : Kind → Bool
may_upgrade kind = elim kind [ upgradable ↦ true | asking ↦ true | _ ↦ false ]

abbrev pub upgraders : List Holder → ℕ
upgraders hs = count_by (λ h. may_upgrade h.kind) hs

-- a holder of the first kind lets another party come to hold with the second kind
abbrev pub admits : Kind → Kind → Bool
admits reading reading = true
admits reading upgradable = true
admits upgradable reading = true
admits _ _ = false

-- how many holders do not let another party come to hold with this kind
abbrev pub count_against : Kind → List Holder → ℕ
count_against k hs = count_by (λ h. not (admits h.kind k)) hs

-- every holder lets another party come to hold with this kind, and fewer hold than the cap allows
abbrev pub may_come : Kind → Plain → Bool
may_come k s = (count_against k s.holders == 0) && nat_lt (length s.holders) s.cap

-- the ask is open to the party: the lock allows the step by which the party gets what it asks
abbrev pub is_open_to : Plain → ℕ → Ask → Bool
is_open_to s p to_read = may_come reading s
is_open_to s p to_read_upgradable = may_come upgradable s
is_open_to s p to_write = is_empty s.holders
is_open_to s p to_upgrade = is_only p upgradable s.holders
is_open_to s p to_upgrade_asked = is_only p asking s.holders
is_open_to s p to_take_ticket = nat_lt s.next ticket_limit
is_open_to s p to_enter = is_first p false s.tickets
is_open_to s p to_take_and_enter = is_empty s.tickets && nat_lt s.next ticket_limit
is_open_to s p to_sit = (count_against reading s.holders == 0) && is_near p (s.cap - length s.holders) s.tickets
is_open_to s p to_lock_unregistered = is_empty s.holders && is_empty s.starvers
is_open_to s p to_lock_starving = is_starver p s.starvers && is_empty s.holders
is_open_to s p to_lock_starving_alone = is_starver p s.starvers && (length s.starvers == 1) && is_empty s.holders
is_open_to s p to_starve = nat_lt (length s.starvers) s.cap
is_open_to s p to_begin = is_nothing s.phase

-- the plain steps
pub data Change : Type 0 where
  gets : ℕ → Ask → Change  -- a party gets what it asks
  releases : ℕ → Kind → Change  -- a holder of this kind releases
  serves : ℕ → Change  -- the first ticket is this party's and has entered; it leaves the queue
  stops_starving : ℕ → Change
  turns : ℕ → Kind → Kind → Change  -- a holder of the first kind changes to the second
  completes : ℕ → Change
  fails : ℕ → Change
  arrives : ℕ → Change

-- a holder of the first kind may change to the second, whoever else holds
abbrev pub may_turn : Kind → Kind → Bool
may_turn writing reading = true
may_turn writing upgradable = true
may_turn upgradable reading = true
may_turn upgradable asking = true
may_turn _ _ = false

abbrev pub is_open : Plain → Change → Bool
is_open s (gets p ask) = is_open_to s p ask
is_open s (releases p k) = is_holder p k s.holders
is_open s (serves p) = is_first p true s.tickets
is_open s (stops_starving p) = is_starver p s.starvers
is_open s (turns p k l) = is_holder p k s.holders && may_turn k l
is_open s (completes p) = is_running p s.phase
is_open s (fails p) = is_running p s.phase
is_open s (arrives p) = true

abbrev pub holder : ℕ → Kind → Holder
holder p k = record { party = p; kind = k }

abbrev pub ticket : ℕ → ℕ → Bool → Ticket
ticket p n entered = record { party = p; number = n; entered = entered }

-- the holders without the party's first hold of this kind
abbrev pub without_holder : ℕ → Kind → List Holder → List Holder
without_holder p k [] = []
without_holder p k (h ∷ hs) = if (h.party == p) && same_kind k h.kind then hs else h ∷ without_holder p k hs

-- the holders, where the party's first hold of the kind k has become one of the kind l
abbrev pub with_kind : ℕ → Kind → Kind → List Holder → List Holder
with_kind p k l [] = []
with_kind p k l (h ∷ hs) = if (h.party == p) && same_kind k h.kind then holder p l ∷ hs else h ∷ with_kind p k l hs

abbrev pub without_starver : ℕ → List ℕ → List ℕ
without_starver p [] = []
without_starver p (q ∷ qs) = if q == p then qs else q ∷ without_starver p qs

-- the tickets, where the first one has entered
abbrev pub with_first_entered : List Ticket → List Ticket
with_first_entered ts = elim ts [ [] ↦ [] | t ∷ rest ↦ ticket t.party t.number true ∷ rest ]

abbrev pub without_first : List Ticket → List Ticket
without_first ts = elim ts [ [] ↦ [] | t ∷ rest ↦ rest ]

abbrev pub without_ticket : ℕ → List Ticket → List Ticket
without_ticket p [] = []
without_ticket p (t ∷ ts) = if t.party == p then ts else t ∷ without_ticket p ts

-- what changes for a party when it gets what it asks
pub data Effect : Type 0 where
  comes : Kind → Effect  -- it becomes a holder of this kind
  becomes : Kind → Kind → Effect  -- its hold changes from the first kind to the second
  queues : Bool → Effect  -- it takes the next ticket; if the Bool is true, it also enters with this ticket
  enters : Effect
  sits : Effect  -- it leaves the queue, and is a reader
  starves : Effect
  runs : Effect  -- its closure runs

abbrev pub effect : Ask → Effect
effect to_read = comes reading
effect to_read_upgradable = comes upgradable
effect to_write = comes writing
effect to_upgrade = becomes upgradable writing
effect to_upgrade_asked = becomes asking writing
effect to_take_ticket = queues false
effect to_enter = enters
effect to_take_and_enter = queues true
effect to_sit = sits
effect to_lock_unregistered = comes writing
effect to_lock_starving = comes writing
effect to_lock_starving_alone = comes writing
effect to_starve = starves
effect to_begin = runs

abbrev pub given : Plain → ℕ → Effect → Plain
given s p (comes k) = record s { holders = s.holders ++ holder p k ∷ [] }
given s p (becomes j k) = record s { holders = with_kind p j k s.holders }
given s p (queues entered) = record s { tickets = s.tickets ++ ticket p s.next entered ∷ []; next = s.next + 1 }
given s p enters = record s { tickets = with_first_entered s.tickets }
given s p sits = record s { holders = s.holders ++ holder p reading ∷ []; tickets = without_ticket p s.tickets }
given s p starves = record s { starvers = s.starvers ++ p ∷ [] }
given s p runs = record s { phase = running p }

abbrev pub apply : Plain → Change → Plain
apply s (gets p ask) = given s p (effect ask)
apply s (releases p k) = record s { holders = without_holder p k s.holders }
apply s (serves p) = record s { tickets = without_first s.tickets }
apply s (stops_starving p) = record s { starvers = without_starver p s.starvers }
apply s (turns p k l) = record s { holders = with_kind p k l s.holders }
apply s (completes p) = record s { phase = complete }
apply s (fails p) = record s { phase = nothing }
apply s (arrives p) = record s { arrivals = s.arrivals + 1 }

-- the words of each lock, computed from the plain lock
abbrev pub flag_word : Plain → ℕ
flag_word s = length s.holders

-- what a holder of each kind adds to a read-write lock's word
abbrev pub weight : Kind → ℕ
weight reading = 8
weight upgradable = 2
weight asking = 6
weight writing = 1

abbrev pub rw_word : Plain → ℕ
rw_word s = sum_by (λ h. weight h.kind) s.holders

-- what the holder adds to a fair lock's word
abbrev pub holder_weight : ℕ
holder_weight = 1

-- what each starver adds to a fair lock's word
abbrev pub starver_weight : ℕ
starver_weight = 2

abbrev pub fair_word : Plain → ℕ
fair_word s = holder_weight * length s.holders + starver_weight * length s.starvers

abbrev pub next_word : Plain → ℕ
next_word s = s.next

abbrev pub serving_word : Plain → ℕ
serving_word s = s.next - length s.tickets

abbrev pub once_word : Plain → ℕ
once_word s = elim s.phase [ nothing ↦ 0 | running p ↦ 1 | complete ↦ 2 ]

abbrev pub count_word : Plain → ℕ
count_word s = s.arrivals % max s.group 1

abbrev pub generation_word : Plain → ℕ
generation_word s = (s.arrivals / max s.group 1) % 2 ^ 64
