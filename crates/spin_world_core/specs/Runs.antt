-- The promises of each event of a schedule. A plain lock runs beside the world. An event that makes a plain step
-- changes this lock; other events leave it unchanged.
use Rattle.spin_step.specs.Schedules.{Entry}
use Rattle.std.specs.Prelude.{◌≡◌, ℕ, ◌+◌, ◌<◌, ◌≤◌, ◌↔◌, ◌⊎◌, Bool, true, false, not, ◌||◌, Option, Some, None, List, [], ◌∷◌, ◌++◌, is_some, ◌==◌, if◌then◌else◌, slice_get, take}
use Rattle.std.specs.List.{list_any}
use Rattle.spin_step.specs.Plain.{Plain, reading, upgradable, writing, same_kind, Change, completes, is_open, holder, ticket, is_empty}
use Rattle.spin_step.specs.Parties.{apply_some, IsOpenStep, Entries, entries, no_entries, entries_after, is_held, none_entered, IsExclusive}
use Rattle.spin_step.specs.declared.place.Hold.{Hold}
use Rattle.spin_step.specs.declared.place.Hold.TheVariants as hold
use Rattle.spin_step.specs.declared.place.Seat.{Seat}
use Rattle.spin_step.specs.declared.place.Seat.TheVariants.{Idle, Calling, Holding, Leaked, Gone}
use Rattle.spin_step.specs.declared.schedule.Move.{Move}
use Rattle.spin_step.specs.declared.schedule.Move.TheVariants.{Begin, Step, Weak, Read, Write, Leak, OwnerGet, OwnerSet}
use Rattle.spin_step.specs.declared.schedule.Outcome.{Outcome}
use Rattle.spin_step.specs.declared.schedule.Outcome.TheVariants as outcome
use Rattle.spin_step.specs.StepKinds.{StepKind, is_again, is_look, by_step}
use Rattle.spin_step.specs.StepKinds as step_kind
use Rattle.spin_step.specs.Calls.{AnyOf, Asked, BelongsTo, FindsClosed, Limit, LockKind, Mark, Registers, Said, TriesToStarve, changes_within, encoded, gets_within, HasMoment, HasWeakMoment, limit, own_steps, registers_after, unlimited, within, within_changes}
pub use Rattle.spin_world_core.specs.Spans.{own, own_count, failures, changes, held_looks, keeps_looking, IsBeginning}
use Rattle.spin_world_core.specs.Undisturbed.{AnsweredSoon}
use Rattle.spin_world_core.specs.Order.{GetsWhenDue, TriesOn}
use Rattle.spin_step.specs.Machines.{Machine, opening_plain}
use Rattle.spin_step.specs.Schedules.{State, Happened, moves_at, at_first, after, may_read, may_write, is_owners}

-- A world, its plain lock, and the value last written. Each party also has the span of its call: the steps of all
-- parties since this call began, the latest first. Only steps change the plain lock. So the states before and after
-- these steps are all states that the plain lock had during the call.
pub record Seen (W V C L : Type 0) : Type 0 where
  pub state : State W V C L
  pub plain : Plain
  pub span : ℕ → List Mark
  pub written : Option V

abbrev pub seat_of : {W V C L : Type 0} → Seen W V C L → ℕ → Option (Seat C L)
seat_of seen p = slice_get seen.state.seats p

-- one event of a schedule: its party, this party's seat, its plain step, and the world before and after it
pub record Scene (W V C L A : Type 0) : Type 0 where
  pub before : Seen W V C L
  pub party : ℕ
  pub move : Move C V
  pub seat : Option (Seat C L)
  pub outcome : Outcome A V
  pub change : Option Change
  pub step_kind : StepKind
  pub after : Seen W V C L

-- a schedule: entries of a party and its move
abbrev pub Schedule : Type 0 → Type 0 → Type 0
Schedule C V = List (Entry C V)

-- a world of n parties after a schedule
abbrev pub state_at : {W V C L A : Type 0} → Machine W V C L A → ℕ → Schedule C V → State W V C L
state_at m n past = after m (at_first m n) past

abbrev pub opening : {W V C L A : Type 0} → Machine W V C L A → ℕ → Seen W V C L
opening m n = record { state = at_first m n; plain = opening_plain m; span = λ p. []; written = m.value }

-- only a step of a call makes a plain step
abbrev pub plain_change_at : {W V C L A : Type 0} → Machine W V C L A → State W V C L → ℕ → Move C V → Option (Seat C L) → Option Change
plain_change_at m s p Step (Some (Calling c l h)) = m.change p s.words c l h
plain_change_at m s p _ _ = None

abbrev pub step_kind_at : {W V C L A : Type 0} → Machine W V C L A → Move C V → Option (Seat C L) → StepKind
step_kind_at m Step (Some (Calling c l h)) = by_step (m.step_kind c l h)
step_kind_at m Weak (Some (Calling c l h)) = step_kind.weak
step_kind_at m _ _ = step_kind.plain

abbrev pub placed_at : {W V C L A : Type 0} → Machine W V C L A → State W V C L → Move C V → Option (Seat C L) → Option V
placed_at m s Step (Some (Calling c l h)) = (m.step s.words s.value c l h).placed
placed_at m s _ _ = None

abbrev pub if_completed : {V : Type 0} → Option V → Option V → Option Change → Option V
if_completed old value step = elim step [ Some (completes p) ↦ value | _ ↦ old ]

-- the value last written, by a holder, by the owner, or by a closure that completed
abbrev pub last_written : {V C A : Type 0} → Outcome A V → Move C V → Option V → Option V → Option Change → Option V
last_written outcome.Written (Write v) old value step = Some v
last_written outcome.Written (OwnerSet v) old value step = Some v
last_written _ _ old value step = if_completed old value step

abbrev pub span_after : {V A : Type 0} → Outcome A V → Mark → (ℕ → List Mark) → ℕ → List Mark
span_after outcome.Begun mark span q = if mark.party == q then [] else span q
span_after outcome.GoingOn mark span q = mark ∷ span q
span_after (outcome.Answered a b) mark span q = mark ∷ span q
span_after _ mark span q = span q

abbrev pub mark_of : ℕ → Option Change → StepKind → Plain → Mark
mark_of p step step_kind s = record { party = p; change = step; step_kind = step_kind; before = s; after = apply_some s step }

abbrev pub scene_of : {W V C L A : Type 0} → Seen W V C L → ℕ → Move C V → Option (Seat C L) → Happened W V C L A → Option Change → StepKind → Option V → Scene W V C L A
scene_of seen p move seat h step step_kind value = record {
  before = seen;
  party = p;
  move = move;
  seat = seat;
  outcome = h.outcome;
  change = step;
  step_kind = step_kind;
  after = record {
    state = h.next;
    plain = apply_some seen.plain step;
    span = span_after h.outcome (mark_of p step step_kind seen.plain) seen.span;
    written = last_written h.outcome move seen.written value step;
  };
}

abbrev pub scene_at : {W V C L A : Type 0} → Machine W V C L A → Seen W V C L → ℕ → Move C V → Option (Seat C L) → Scene W V C L A
scene_at m seen p move seat = scene_of seen p move seat (moves_at m seen.state p move seat) (plain_change_at m seen.state p move seat) (step_kind_at m move seat) (placed_at m seen.state move seat)

abbrev pub scene : {W V C L A : Type 0} → Machine W V C L A → Seen W V C L → ℕ → Move C V → Scene W V C L A
scene m seen p move = scene_at m seen p move (seat_of seen p)

-- `R` holds of each event of the schedule
abbrev pub Every : {W V C L A : Type 0} → (Scene W V C L A → Type 0) → Machine W V C L A → Seen W V C L → Schedule C V → Type 0
Every R m seen [] = Unit {0}
Every R m seen (e ∷ es) = R (scene m seen e.0 e.1) × Every R m (scene m seen e.0 e.1).after es

-- Which moves are open

abbrev pub is_open_at : {W V C L A : Type 0} → Machine W V C L A → State W V C L → Move C V → Seat C L → Bool
is_open_at m s (Begin c) Idle = is_some (m.begin c None)
is_open_at m s (Begin c) (Holding h) = is_some (m.begin c (Some h))
is_open_at m s Step (Calling c l h) = true
is_open_at m s Weak (Calling c l h) = is_some (m.refuse c l h)
is_open_at m s Read (Holding h) = may_read h
is_open_at m s Read (Leaked h) = may_read h
is_open_at m s (Write v) (Holding h) = may_write h
is_open_at m s (Write v) (Leaked h) = may_write h
is_open_at m s Leak (Holding h) = true
is_open_at m s OwnerGet seat = is_owners m s
is_open_at m s (OwnerSet v) seat = is_owners m s
is_open_at _ _ _ _ = false

-- no move is open to a party that does not exist
abbrev pub is_open_move : {W V C L A : Type 0} → Machine W V C L A → State W V C L → Move C V → Option (Seat C L) → Bool
is_open_move m s move o = elim o [ None ↦ false | Some seat ↦ is_open_at m s move seat ]

-- A party's entries in the plain lock: its holders, tickets and registrations

abbrev pub entries_of : ℕ → Hold → Entries
entries_of p hold.Read = record no_entries { holders = holder p reading ∷ [] }
entries_of p hold.Upgradable = record no_entries { holders = holder p upgradable ∷ [] }
entries_of p hold.Write = record no_entries { holders = holder p writing ∷ [] }
entries_of p (hold.Ticket t) = record no_entries { tickets = ticket p t true ∷ [] }
entries_of p hold.Starver = record no_entries { starvers = p ∷ [] }

abbrev pub entries_held : ℕ → Option Hold → Entries
entries_held p o = elim o [ None ↦ no_entries | Some h ↦ entries_of p h ]

-- the party's entries after its own steps of the span, where `e` are its entries before them
abbrev pub entries_so_far : ℕ → List Mark → Entries → Entries
entries_so_far p [] e = e
entries_so_far p (m ∷ ms) e =
    if m.party == p then entries_after m.before m.change (entries_so_far p ms e) else entries_so_far p ms e

-- The party's entries in the plain lock are those that its seat implies. In a call they are the entries with which
-- the party began the call, changed by its own steps in the call. An idle party has none.
abbrev pub StandsFor : {C L : Type 0} → Plain → ℕ → List Mark → Option (Seat C L) → Type 0
StandsFor s p span (Some (Calling c l h)) = entries p s ≡ entries_so_far p span (entries_held p h)
StandsFor s p span (Some (Holding h)) = entries p s ≡ entries_of p h
StandsFor s p span (Some (Leaked h)) = entries p s ≡ entries_of p h
StandsFor s p span (Some (Gone h)) = entries p s ≡ entries_of p h
StandsFor s p span _ = entries p s ≡ no_entries

-- Who may use the value

abbrev pub reads_value : Entries → Bool
reads_value e = not (is_empty e.holders) || list_any (λ t. t.entered) e.tickets

abbrev pub writes_value : Entries → Bool
writes_value e = list_any (λ h. same_kind writing h.kind) e.holders || list_any (λ t. t.entered) e.tickets

-- the party leaves the value to the owner: it has leaked, or is gone, or is idle and has no entry in the plain lock
abbrev pub YieldsToOwner : {C L : Type 0} → Plain → ℕ → Option (Seat C L) → Type 0
YieldsToOwner s p (Some (Calling c l h)) = ⊥
YieldsToOwner s p (Some (Holding h)) = ⊥
YieldsToOwner s p (Some (Leaked h)) = Unit {0}
YieldsToOwner s p (Some (Gone h)) = Unit {0}
YieldsToOwner s p _ = entries p s ≡ no_entries

abbrev pub IsOwners : {W V C L : Type 0} → Seen W V C L → Type 0
IsOwners seen = (q : ℕ) → YieldsToOwner seen.plain q (seat_of seen q)

abbrev pub MayTouch : {W V C L A : Type 0} → Seen W V C L → ℕ → Outcome A V → Move C V → Type 0
MayTouch seen p (outcome.Value r) Read = reads_value (entries p seen.plain) ≡ true
MayTouch seen p outcome.Written (Write v) = writes_value (entries p seen.plain) ≡ true
MayTouch seen p (outcome.Value r) OwnerGet = IsOwners seen
MayTouch seen p (outcome.Value r) (OwnerSet v) = IsOwners seen
MayTouch seen p outcome.Written (OwnerSet v) = IsOwners seen
MayTouch seen p _ _ = Unit {0}

-- Which moves may be skipped. A step of a call and a leak by a holder are never skipped. A call by an idle party or a
-- holder is skipped only if it may not begin with what the party holds. A read or write by a holder, or after a leak,
-- is skipped only if the party has no right to it. An owner's move is skipped only if there is no owner or some party
-- shares the value. Other moves may be skipped.

abbrev pub MaySkip : {W V C L A : Type 0} → Machine W V C L A → Seen W V C L → ℕ → Move C V → Option (Seat C L) → Type 0
MaySkip m seen p (Begin c) (Some Idle) = (m.asks c None).begins None ≡ false
MaySkip m seen p (Begin c) (Some (Holding h)) = (m.asks c (Some h)).begins (Some h) ≡ false
MaySkip m seen p Step (Some (Calling c l h)) = ⊥
MaySkip m seen p Read (Some (Holding h)) = reads_value (entries p seen.plain) ≡ false
MaySkip m seen p Read (Some (Leaked h)) = reads_value (entries p seen.plain) ≡ false
MaySkip m seen p (Write v) (Some (Holding h)) = writes_value (entries p seen.plain) ≡ false
MaySkip m seen p (Write v) (Some (Leaked h)) = writes_value (entries p seen.plain) ≡ false
MaySkip m seen p Leak (Some (Holding h)) = ⊥
MaySkip m seen p OwnerGet (Some seat) = m.owned ≡ true → IsOwners seen → ⊥
MaySkip m seen p (OwnerSet v) (Some seat) = m.owned ≡ true → IsOwners seen → ⊥
MaySkip m seen p _ _ = Unit {0}

-- a party with this seat may make this move; an owner's move also needs an owner
abbrev pub is_in_place : {V C L : Type 0} → Bool → Move C V → Option (Seat C L) → Bool
is_in_place owned (Begin c) (Some Idle) = true
is_in_place owned (Begin c) (Some (Holding h)) = true
is_in_place owned Step (Some (Calling c l h)) = true
is_in_place owned Weak (Some (Calling c l h)) = true
is_in_place owned Read (Some (Holding h)) = true
is_in_place owned Read (Some (Leaked h)) = true
is_in_place owned (Write v) (Some (Holding h)) = true
is_in_place owned (Write v) (Some (Leaked h)) = true
is_in_place owned Leak (Some (Holding h)) = true
is_in_place owned OwnerGet (Some seat) = owned
is_in_place owned (OwnerSet v) (Some seat) = owned
is_in_place owned _ _ = false

-- the outcome is that of a step

abbrev pub IsStep : {V A : Type 0} → Outcome A V → Type 0
IsStep o = elim o [ outcome.GoingOn ↦ Unit {0} | outcome.Answered a b ↦ Unit {0} | _ ↦ ⊥ ]

-- a step changes the value only if a closure completes by this step
abbrev pub StepLeaves : {V : Type 0} → Option Change → Option V → Option V → Type 0
StepLeaves step old new = elim step [ Some (completes p) ↦ Unit {0} | _ ↦ new ≡ old ]

abbrev pub ComesTo : {V C A : Type 0} → Move C V → Option Change → Option V → Option V → Outcome A V → Type 0
ComesTo (Begin c) step old new o = (o ≡ outcome.Begun) × (new ≡ old)
ComesTo Step step old new o = IsStep o × StepLeaves step old new
ComesTo Weak step old new o = IsStep o × (new ≡ old)
ComesTo Read step old new o = (o ≡ outcome.Value old) × (new ≡ old)
ComesTo (Write v) step old new o = (o ≡ outcome.Written) × (new ≡ Some v)
ComesTo Leak step old new o = (o ≡ outcome.Leaked) × (new ≡ old)
ComesTo OwnerGet step old new o = (o ≡ outcome.Value old) × (new ≡ old)
ComesTo (OwnerSet v) step None new o = (o ≡ outcome.Value None) × (new ≡ None)
ComesTo (OwnerSet v) step (Some u) new o = (o ≡ outcome.Written) × (new ≡ Some v)

-- Only a call that makes weak exchanges fails spuriously. Before this failure the call has made exactly the plain steps
-- that precede its weak exchange.
abbrev pub IsWeakCall : {V C : Type 0} → Move C V → ℕ → List Mark → Option Asked → Type 0
IsWeakCall Weak p span (Some what) = (what.is_weak ≡ true) × (own p span ≡ what.before_weakly p)
IsWeakCall Weak p span None = ⊥
IsWeakCall _ p span what = Unit {0}

-- A call's own steps

-- what the party's call promises, if the party is in a call
abbrev pub asked : {W V C L A : Type 0} → Machine W V C L A → Option (Seat C L) → Option Asked
asked m seat = elim seat [ Some (Calling c l h) ↦ Some (m.asks c h) | _ ↦ None ]

-- A call that is answered has made the plain steps that its answer implies. The plain steps of a call that continues are
-- the first ones of those that some answer implies.
abbrev pub OwnSteps : {W V C L A : Type 0} → Machine W V C L A → ℕ → List Mark → Outcome A V → Option Asked → Type 0
OwnSteps m p span (outcome.Answered a b) (Some what) = AnyOf (λ steps. own p span ≡ steps) (own_steps (what.answers (m.says a)) p)
OwnSteps m p span (outcome.Answered a b) None = ⊥
OwnSteps m p span outcome.GoingOn (Some what) = (said : Said) × AnyOf (λ steps. IsBeginning (own p span) steps) (own_steps (what.answers said) p)
OwnSteps m p span outcome.GoingOn None = ⊥
OwnSteps m p span _ _ = Unit {0}

-- A party's call

abbrev pub held_at : {C L : Type 0} → Option (Seat C L) → Option Hold
held_at seat = elim seat [ Some (Holding h) ↦ Some h | _ ↦ None ]

-- A party that begins a call is then in that call, and its seat tells what it held. A party whose call continues stays
-- in this call.
abbrev pub InItsCall : {V C L A : Type 0} → Outcome A V → Move C V → Option (Seat C L) → Option (Seat C L) → Type 0
InItsCall {L = L} outcome.Begun (Begin c) before after = (l : L) × (after ≡ Some (Calling c l (held_at before)))
InItsCall {L = L} outcome.GoingOn move (Some (Calling c l h)) after = (next : L) × (after ≡ Some (Calling c next h))
InItsCall _ move before after = Unit {0}

-- What is promised of an event

pub record KeepsPromises {W V C L A : Type 0} (m : Machine W V C L A) (s : Scene W V C L A) : Type 0 where
  -- the event makes no plain step, or one that is open and is a step of the event's party
  pub opens : IsOpenStep s.before.plain s.party s.change
  -- the event makes no plain step, or one that this kind of lock makes
  pub belongs : BelongsTo m.lock_kind s.change
  -- after the event the words are the encoding of the plain lock
  pub encodes : m.numbers s.after.state.words ≡ encoded m.lock_kind s.after.plain
  -- after the event every party holds and waits in the plain lock as its seat says
  pub places : (q : ℕ) → StandsFor s.after.plain q (s.after.span q) (seat_of s.after q)
  -- a writer is the only holder, at most one holder may upgrade, and at most one ticket has entered
  pub exclusive : IsExclusive s.after.plain
  -- the plain lock has no holders, or no ticket has entered
  pub one_list : (is_empty s.after.plain.holders || none_entered s.after.plain.tickets) ≡ true
  -- the value is the one last written
  pub value_is : s.after.state.value ≡ s.after.written
  -- a read finds the value last written
  pub reads : (r : Option V) → s.outcome ≡ outcome.Value r → r ≡ s.before.written
  -- Only a holder reads the value, and only a writer replaces it. The owner reads or replaces the value only while no
  -- party shares it.
  pub touches : MayTouch s.before s.party s.outcome s.move
  -- a move is skipped exactly if it is not open
  pub skips : (s.outcome ≡ outcome.Skipped) ↔ (is_open_move m s.before.state s.move s.seat ≡ false)
  -- where a move is skipped, the plain lock and the party's seat allow it
  pub lets : s.outcome ≡ outcome.Skipped → MaySkip m s.before s.party s.move s.seat
  -- a skipped move changes nothing
  pub unchanged : s.outcome ≡ outcome.Skipped → s.after ≡ s.before
  -- A move that is not skipped has the outcome of its kind. A read finds the present value. A write stores its
  -- argument, but the owner's write stores nothing if there is no value. Any other move changes the value only if a
  -- closure completes by it.
  pub comes : (s.outcome ≡ outcome.Skipped → ⊥) → ComesTo s.move s.change s.before.state.value s.after.state.value s.outcome
  -- only a call that makes a weak exchange fails spuriously
  pub weak : (s.outcome ≡ outcome.Skipped → ⊥) → IsWeakCall s.move s.party (s.before.span s.party) (asked m s.seat)
  -- a call makes exactly the plain steps that its answer implies
  pub own : OwnSteps m s.party (s.after.span s.party) s.outcome (asked m s.seat)
  -- A party's seat decides which moves it makes. A party steps only in a call. It reads and writes only while it holds or
  -- after a leak. A party that is gone makes only an owner's moves.
  pub in_place : (s.outcome ≡ outcome.Skipped → ⊥) → is_in_place m.owned s.move s.seat ≡ true
  -- A party stays in its call until the call is answered. No move of another party changes its point in the call.
  pub in_call : InItsCall s.outcome s.move s.seat (seat_of s.after s.party)
  pub calls : (q : ℕ) (c : C) (l : L) (h : Option Hold) → (s.party ≡ q → ⊥) → seat_of s.before q ≡ Some (Calling c l h)
      → seat_of s.after q ≡ Some (Calling c l h)

-- An answer by a step is right at some moment of its call. An answer by a move `Weak` is right at some moment, or is a
-- spurious failure.
abbrev pub RightBy : {V C : Type 0} → Move C V → Asked → Said → ℕ → List Mark → Type 0
RightBy Step what said p span = HasMoment what said p span
RightBy Weak what said p span = HasWeakMoment what said p span
RightBy move what said p span = Unit {0}

abbrev pub RightAnswer : {W V C L A : Type 0} → Machine W V C L A → ℕ → List Mark → Outcome A V → Option Asked → Move C V → Type 0
RightAnswer m p span (outcome.Answered a b) (Some what) move = RightBy move what (m.says a) p span
RightAnswer m p span _ _ move = Unit {0}

abbrev pub IsRight : {W V C L A : Type 0} → Machine W V C L A → Scene W V C L A → Type 0
IsRight m s = RightAnswer m s.party (s.after.span s.party) s.outcome (asked m s.seat) s.move

-- The step m is a look of the party p and finds the lock held. At least n looks of this party have found the lock held
-- before, and the party has made no plain step.
pub record IsLateLook (p n : ℕ) (m : Mark) (older : List Mark) : Type 0 where
  pub party : m.party ≡ p
  pub looks : is_look m.step_kind ≡ true
  pub held : is_held m.before ≡ true
  pub unregistered : own p older ≡ []
  pub late : n ≤ held_looks p older

-- A call that may starve registers in time. After each late look (`IsLateLook`) the party has registered, or has
-- found the cap reached, or has made few steps. It registers only after more than n looks that found the lock held.
-- Its other steps are as `keeps_looking` says.
pub record RegistersInTime (IsFew : List Mark → Type 0) (p n : ℕ) (span : List Mark) : Type 0 where
  pub looking : keeps_looking p n span ≡ true
  pub soon : (recent : List Mark) (m : Mark) (older : List Mark) → span ≡ recent ++ m ∷ older → IsLateLook p n m older → AnyOf (TriesToStarve p) recent ⊎ IsFew recent
  pub patient : (recent : List Mark) (m : Mark) (older : List Mark) → span ≡ recent ++ m ∷ older → Registers p m → n < held_looks p older

abbrev pub EndsWithin : Limit → LockKind → ℕ → List Mark → Type 0
EndsWithin (within k) kind p span = own_count p span ≤ k
EndsWithin (within_changes k) kind p span = own_count p span ≤ k + changes kind p span
EndsWithin (registers_after n k) kind p span = RegistersInTime (λ recent. ⊥) p n span
EndsWithin _ kind p span = Unit {0}

abbrev pub ContinuesWithin : Limit → LockKind → ℕ → List Mark → Type 0
ContinuesWithin unlimited kind p span = Unit {0}
ContinuesWithin (within k) kind p span = own_count p span < k
ContinuesWithin (within_changes k) kind p span = own_count p span < k + changes kind p span
ContinuesWithin (gets_within ask k) kind p span = own p span ≡ [] → (own_count p span < k + changes kind p span) ⊎ AnyOf (FindsClosed p ask) span
ContinuesWithin (changes_within k) kind p span = own p span ≡ [] → own_count p span < k
ContinuesWithin (registers_after n k) kind p span = RegistersInTime (λ recent. own_count p recent < k + changes kind p recent) p n span

-- a call that is answered has kept its limit of steps, and a call that continues can still keep it
abbrev pub InTime : {V A : Type 0} → LockKind → ℕ → List Mark → Outcome A V → Option Asked → Type 0
InTime kind p span (outcome.Answered a b) (Some what) = EndsWithin (limit kind what) kind p span
InTime kind p span outcome.GoingOn (Some what) = ContinuesWithin (limit kind what) kind p span
InTime kind p span _ _ = Unit {0}

-- Suppose that a step makes no plain step, and its call continues. Suppose also that at some words the same step would
-- make a plain step, and that this plain step is open now. Then the step is an exchange that the call repeats.
abbrev pub IsCounted : {W V C L A : Type 0} → Machine W V C L A → ℕ → Outcome A V → Move C V → Option (Seat C L) → Option Change → StepKind → Plain → Type 0
IsCounted {W} m p outcome.GoingOn Step (Some (Calling c l h)) None step_kind s = (w : W) (d : Change) → m.change p w c l h ≡ Some d → is_open s d ≡ true → is_again step_kind ≡ true
IsCounted m p _ _ _ _ _ _ = Unit {0}

pub record IsInTime {W V C L A : Type 0} (m : Machine W V C L A) (s : Scene W V C L A) : Type 0 where
  pub in_time : InTime m.lock_kind s.party (s.after.span s.party) s.outcome (asked m s.seat)
  pub counted : IsCounted m s.party s.outcome s.move s.seat s.change s.step_kind s.before.plain
  -- The exchanges that a call repeats fail at most once for each change of the first word by another party during the
  -- call.
  pub retries : (q : ℕ) → failures q (s.after.span q) ≤ changes m.lock_kind q (s.after.span q)
  -- Once what a waiting call asks is open, the call is answered within as many own steps as it promises, if nobody
  -- disturbs it.
  pub undisturbed : AnsweredSoon m.lock_kind s.party (s.after.span s.party) s.outcome (asked m s.seat)
  -- A waiting call that begins without a look tries at its first step, after each of its plain steps, and after each look
  -- that found the lock free. `Gets` says what its other steps do.
  pub due : GetsWhenDue m.lock_kind s.party s.outcome s.move (asked m s.seat) (s.before.span s.party) s.before.plain s.change s.step_kind
  -- Before its plain step, a try continues only by a step at which what it asks is open. `MayTryOn` has the exceptions
  -- of a queue.
  pub tries_on : TriesOn s.party s.outcome s.move (asked m s.seat) (s.before.span s.party) s.before.plain s.change

-- Over a whole schedule, from the opening of a world of n parties

pub record KeepsAll {W V C L A : Type 0} (m : Machine W V C L A) (n : ℕ) (entries : Schedule C V) : Type 0 where
  pub first : m.numbers m.words ≡ encoded m.lock_kind (opening_plain m)
  -- the numbers determine the words
  pub numbers_tell : (v w : W) → m.numbers v ≡ m.numbers w → v ≡ w
  pub each : Every (KeepsPromises m) m (opening m n) entries

abbrev pub MomentsAll : {W V C L A : Type 0} → Machine W V C L A → ℕ → Schedule C V → Type 0
MomentsAll m n entries = Every (IsRight m) m (opening m n) entries

abbrev pub CountsAll : {W V C L A : Type 0} → Machine W V C L A → ℕ → Schedule C V → Type 0
CountsAll m n entries = Every (IsInTime m) m (opening m n) entries

-- each party in a call can take its next step
abbrev pub CanStep : {W V C L A : Type 0} → Machine W V C L A → State W V C L → Type 0
CanStep {W} {V} {C} {L} m s =
    (p : ℕ) (c : C) (l : L) (h : Option Hold) → slice_get s.seats p ≡ Some (Calling c l h) → m.can s.words c l h ≡ true

-- after every beginning of the schedule each party in a call can take its next step
abbrev pub CanAlways : {W V C L A : Type 0} → Machine W V C L A → State W V C L → Schedule C V → Type 0
CanAlways m s entries = (k : ℕ) → CanStep m (after m s (take k entries))

-- some schedule leads from the opening of some world to this state
abbrev pub IsReached : {W V C L A : Type 0} → Machine W V C L A → State W V C L → Type 0
IsReached {W} {V} {C} m s = ∥ ((n : ℕ) × (past : Schedule C V) × (state_at m n past ≡ s)) ∥₁

-- `P` holds of every number of parties with every schedule, from the opening of such a world
abbrev pub Always : {W V C L A : Type 0} → Machine W V C L A → (ℕ → Schedule C V → Type 0) → Type 0
Always {V = V} {C = C} m P = (n : ℕ) (entries : Schedule C V) → P n entries

-- for any schedule of any world that led to this state: `P` holds of that schedule followed by the new one
abbrev pub AfterAnyPast : {W V C L A : Type 0} → Machine W V C L A → State W V C L → Schedule C V → (ℕ → Schedule C V → Type 0) → Type 0
AfterAnyPast {V = V} {C = C} m s schedule P = (n : ℕ) (past : Schedule C V) → state_at m n past ≡ s → P n (past ++ schedule)
