-- What a schedule does: which moves are open, and the outcome of each.
use Rattle.std.specs.Prelude.{ℕ, ◌+◌, Bool, true, false, ◌&&◌, Option, Some, None, List, [], ◌∷◌, ◌++◌, map, replicate, ◌==◌, if◌then◌else◌, slice_get, slice_set, unwrap_or}
use Rattle.std.specs.List.{list_all}
use Rattle.spin_step.specs.declared.place.Hold.{Hold}
use Rattle.spin_step.specs.declared.place.Hold.TheVariants as hold
use Rattle.spin_step.specs.declared.place.Place.{Place}
use Rattle.spin_step.specs.declared.place.Place.TheVariants as place
use Rattle.spin_step.specs.declared.place.Seat.{Seat}
use Rattle.spin_step.specs.declared.place.Seat.TheVariants.{Idle, Calling, Holding, Leaked, Gone}
use Rattle.spin_step.specs.declared.stepped.Next.{Next}
use Rattle.spin_step.specs.declared.stepped.Next.TheVariants.{Continue, Answers}
use Rattle.spin_step.specs.declared.stepped.Stepped.{Stepped}
use Rattle.spin_step.specs.declared.schedule.Move.{Move}
use Rattle.spin_step.specs.declared.schedule.Move.TheVariants.{Begin, Step, Weak, Read, Write, Leak, OwnerGet, OwnerSet}
use Rattle.spin_step.specs.declared.schedule.Outcome.{Outcome}
use Rattle.spin_step.specs.declared.schedule.Outcome.TheVariants as outcome
use Rattle.spin_step.specs.declared.schedule.Event.{Event}
use Rattle.spin_step.specs.Machines.{Machine}

-- the words, the value, and the seat of each party
pub record State (W V C L : Type 0) : Type 0 where
  pub words : W
  pub value : Option V
  pub seats : List (Seat C L)

-- a world, as contracts see it
pub record Shown (O W V C L : Type 0) : Type 0 where
  pub object : O
  pub state : State W V C L

-- an entry of a schedule: a party and its move
abbrev pub Entry : Type 0 → Type 0 → Type 0
Entry C V = ℕ × Move C V

-- what one entry leads to: its outcome and the next state
pub record Happened (W V C L A : Type 0) : Type 0 where
  pub outcome : Outcome A V
  pub next : State W V C L

-- a party with this hold may read the value
abbrev pub may_read : Hold → Bool
may_read h = elim h [ hold.Starver ↦ false | _ ↦ true ]

-- a party with this hold may replace the value
abbrev pub may_write : Hold → Bool
may_write h = elim h [ hold.Write ↦ true | hold.Ticket t ↦ true | _ ↦ false ]

-- a party with this seat leaves the value to the owner
abbrev pub yields_to_owner : {C L : Type 0} → Seat C L → Bool
yields_to_owner seat = elim seat [ Calling c l h ↦ false | Holding h ↦ false | _ ↦ true ]

-- the seat after the owner has used the value
abbrev pub seen_by_owner : {C L : Type 0} → Seat C L → Seat C L
seen_by_owner seat = elim seat [ Leaked h ↦ Gone h | other ↦ other ]

-- the seat of a party that is in no call
abbrev pub resting : {C L : Type 0} → Option Hold → Seat C L
resting held = elim held [ None ↦ Idle | Some h ↦ Holding h ]

abbrev pub skipped : {W V C L A : Type 0} → State W V C L → Happened W V C L A
skipped s = record { outcome = outcome.Skipped; next = s }

abbrev pub seated : {W V C L : Type 0} → State W V C L → ℕ → Seat C L → State W V C L
seated s p seat = record s { seats = slice_set s.seats p seat }

abbrev pub begun : {W V C L A : Type 0} → State W V C L → ℕ → C → Option Hold → Option L → Happened W V C L A
begun s p c h None = skipped s
begun s p c h (Some l) = record { outcome = outcome.Begun; next = seated s p (Calling c l h) }

abbrev pub begins : {W V C L A : Type 0} → Machine W V C L A → State W V C L → ℕ → C → Seat C L → Happened W V C L A
begins m s p c Idle = begun s p c None (m.begin c None)
begins m s p c (Holding h) = begun s p c (Some h) (m.begin c (Some h))
begins m s p c _ = skipped s

abbrev pub goes_on : {W V C L A : Type 0} → State W V C L → ℕ → C → Option Hold → Next L A → Happened W V C L A
goes_on s p c h (Continue l) = record { outcome = outcome.GoingOn; next = seated s p (Calling c l h) }
goes_on s p c h (Answers a after) = record { outcome = outcome.Answered a None; next = seated s p (resting after) }

-- the value after a step: the one that the step stores, or the old one
abbrev pub placed : {V : Type 0} → Option V → Option V → Option V
placed put old = elim put [ None ↦ old | Some v ↦ Some v ]

abbrev pub stepped : {W V C L A : Type 0} → State W V C L → ℕ → C → Option Hold → Stepped W V L A → Happened W V C L A
stepped s p c h st = goes_on (record s { words = st.words; value = placed st.placed s.value }) p c h st.next

abbrev pub steps : {W V C L A : Type 0} → Machine W V C L A → State W V C L → ℕ → Seat C L → Happened W V C L A
steps m s p (Calling c l h) = stepped s p c h (m.step s.words s.value c l h)
steps m s p _ = skipped s

abbrev pub refuses : {W V C L A : Type 0} → State W V C L → ℕ → C → Option Hold → Option (Next L A) → Happened W V C L A
refuses s p c h next = elim next [ None ↦ skipped s | Some to ↦ goes_on s p c h to ]

abbrev pub weakly : {W V C L A : Type 0} → Machine W V C L A → State W V C L → ℕ → Seat C L → Happened W V C L A
weakly m s p seat = elim seat [ Calling c l h ↦ refuses s p c h (m.refuse c l h) | _ ↦ skipped s ]

abbrev pub read_by : {W V C L A : Type 0} → State W V C L → Bool → Happened W V C L A
read_by s may = if may then record { outcome = outcome.Value s.value; next = s } else skipped s

abbrev pub reads : {W V C L A : Type 0} → State W V C L → Seat C L → Happened W V C L A
reads s (Holding h) = read_by s (may_read h)
reads s (Leaked h) = read_by s (may_read h)
reads s _ = skipped s

abbrev pub written_by : {W V C L A : Type 0} → State W V C L → V → Bool → Happened W V C L A
written_by s v may = if may then record { outcome = outcome.Written; next = record s { value = Some v } } else skipped s

abbrev pub writes : {W V C L A : Type 0} → State W V C L → V → Seat C L → Happened W V C L A
writes s v (Holding h) = written_by s v (may_write h)
writes s v (Leaked h) = written_by s v (may_write h)
writes s v _ = skipped s

abbrev pub leaks : {W V C L A : Type 0} → State W V C L → ℕ → Seat C L → Happened W V C L A
leaks s p (Holding h) = record { outcome = outcome.Leaked; next = seated s p (Leaked h) }
leaks s p _ = skipped s

-- the owner may use the value: the object is owned, and every party leaves the value to the owner
abbrev pub is_owners : {W V C L A : Type 0} → Machine W V C L A → State W V C L → Bool
is_owners m s = m.owned && list_all yields_to_owner s.seats

-- the state after the owner has used the value: every leaked party is gone
abbrev pub let_go : {W V C L : Type 0} → State W V C L → State W V C L
let_go s = record s { seats = map seen_by_owner s.seats }

abbrev pub owner_gets : {W V C L A : Type 0} → State W V C L → Bool → Happened W V C L A
owner_gets s may = if may then record { outcome = outcome.Value s.value; next = let_go s } else skipped s

-- the owner replaces the value, if there is one
abbrev pub owner_writes : {W V C L A : Type 0} → State W V C L → V → Option V → Happened W V C L A
owner_writes s v None = record { outcome = outcome.Value None; next = let_go s }
owner_writes s v (Some old) = record { outcome = outcome.Written; next = let_go (record s { value = Some v }) }

abbrev pub owner_sets : {W V C L A : Type 0} → State W V C L → V → Bool → Happened W V C L A
owner_sets s v may = if may then owner_writes s v s.value else skipped s

-- a move of a party with this seat
abbrev pub moves : {W V C L A : Type 0} → Machine W V C L A → State W V C L → ℕ → Move C V → Seat C L → Happened W V C L A
moves m s p (Begin c) seat = begins m s p c seat
moves m s p Step seat = steps m s p seat
moves m s p Weak seat = weakly m s p seat
moves m s p Read seat = reads s seat
moves m s p (Write v) seat = writes s v seat
moves m s p Leak seat = leaks s p seat
moves m s p OwnerGet seat = owner_gets s (is_owners m s)
moves m s p (OwnerSet v) seat = owner_sets s v (is_owners m s)

-- a move of a party with this seat; if the party does not exist, the move is skipped
abbrev pub moves_at : {W V C L A : Type 0} → Machine W V C L A → State W V C L → ℕ → Move C V → Option (Seat C L) → Happened W V C L A
moves_at m s p move at = elim at [ None ↦ skipped s | Some seat ↦ moves m s p move seat ]

-- what one entry leads to
abbrev pub happens : {W V C L A : Type 0} → Machine W V C L A → State W V C L → ℕ → Move C V → Happened W V C L A
happens m s p move = moves_at m s p move (slice_get s.seats p)

-- the state before any move: all parties are idle
abbrev pub at_first : {W V C L A : Type 0} → Machine W V C L A → ℕ → State W V C L
at_first m n = record { words = m.words; value = m.value; seats = replicate n Idle }

-- the state after a schedule
abbrev pub after : {W V C L A : Type 0} → Machine W V C L A → State W V C L → List (ℕ × Move C V) → State W V C L
after m s [] = s
after m s (e ∷ es) = after m (happens m s e.0 e.1).next es

-- the events of the schedule; the answers do not yet have the places where their calls began
abbrev pub events_of : {W V C L A : Type 0} → Machine W V C L A → State W V C L → List (ℕ × Move C V) → List (Event W V A)
events_of m s [] = []
events_of m s (e ∷ es) = let h = happens m s e.0 e.1 in
    record { party = e.0; outcome = h.outcome; words = h.next.words } ∷ events_of m h.next es

abbrev pub is_begun : {V A : Type 0} → Outcome A V → Bool
is_begun o = elim o [ outcome.Begun ↦ true | _ ↦ false ]

-- the place of the party's last `Begun` among these events, of which the first has the place k
abbrev pub last_begin : {W V A : Type 0} → ℕ → ℕ → Option ℕ → List (Event W V A) → Option ℕ
last_begin p k found [] = found
last_begin p k found (e ∷ es) = last_begin p (k + 1) (if (e.party == p) && is_begun e.outcome then Some k else found) es

abbrev pub with_begin : {V A : Type 0} → Option ℕ → Outcome A V → Outcome A V
with_begin began o = elim o [ outcome.Answered a b ↦ outcome.Answered a began | other ↦ other ]

-- the events; each answer gets the place where its call began
abbrev pub with_begins : {W V A : Type 0} → List (Event W V A) → List (Event W V A) → List (Event W V A)
with_begins before [] = []
with_begins before (e ∷ es) = record e { outcome = with_begin (last_begin e.party 0 None before) e.outcome } ∷ with_begins (before ++ e ∷ []) es

-- the place where a party's call began, by a table; a party beyond the table has begun none
abbrev pub begin_of : List (Option ℕ) → ℕ → Option ℕ
begin_of begins p = unwrap_or (slice_get begins p) None

abbrev pub begins_after : {V A : Type 0} → List (Option ℕ) → ℕ → ℕ → Outcome A V → List (Option ℕ)
begins_after begins p k o = elim o [ outcome.Begun ↦ slice_set begins p (Some k) | _ ↦ begins ]

-- a party's place as a program sees it
abbrev pub place_of : {C L : Type 0} → Seat C L → Place
place_of Idle = place.Idle
place_of (Calling c l h) = place.InCall
place_of (Holding h) = place.Holding h
place_of (Leaked h) = place.Leaked h
place_of (Gone h) = place.Gone
