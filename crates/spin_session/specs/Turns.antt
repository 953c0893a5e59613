-- What one step of a table tells, and what the steps of a call tell.
use Rattle.std.specs.Prelude.{◌≡◌, ◌≢◌, ◌≤◌, ◌⊎◌, ℕ, zero, suc, ◌==◌, Bool, true, false, Option, Some, None, List, [], length, if◌then◌else◌}
use Rattle.std.specs.Option.{IfSome, MatchOption}
use Rattle.spin_step.specs.Acts.{Table, machine_of, next_of, operation_by, with_value, filled}
use Rattle.spin_step.specs.Operations.{performed}
use Rattle.spin_step.specs.declared.answer.Answer.{Answer}
use Rattle.spin_step.specs.declared.answer.Answer.TheVariants.{Granted, Refused, Done}
use Rattle.spin_step.specs.declared.place.Hold.{Hold}
use Rattle.spin_step.specs.declared.place.Seat.{Seat}
use Rattle.spin_step.specs.declared.place.Seat.TheVariants.{Calling, Holding}
use Rattle.spin_step.specs.declared.schedule.Outcome.TheVariants.{Answered, GoingOn}
use Rattle.spin_step.specs.declared.stepped.Next.{Next}
use Rattle.spin_step.specs.declared.stepped.Next.TheVariants.{Continue, Answers}
use Rattle.spin_step.specs.Schedules.{Entry, resting}
use Rattle.spin_core.specs.Cell.{off, writes, use_of}
use Rattle.spin_core.specs.Own as own
use Rattle.spin_core.specs.Own.{Numbered, what}
use Rattle.spin_core.specs.Passes as passes
use Rattle.spin_core.specs.Passes.{Course, Begins, IsCall, Ending, own_mark, says_step, IsOneStep, WritesSome}
use Rattle.spin_core.specs.Spots as spots
use Rattle.spin_core.specs.Spots.{Stepped, HasCalled, IsIn}
use Rattle.spin_core.specs.Values.{IsLast}
use Rattle.spin_core.specs.declared.tie.Opening.{Opening}
use Rattle.spin_session.specs.Meaning.{Meaning, Beside, Peeks, FindsAt, part_of, use_at, rests_at, seat_now, seat_after, words_of, table_at, model_at}
use Rattle.spin_session.specs.declared.session.Session.{Session}
use Rattle.spin_session.specs.declared.table.Ahead.{Ahead}

abbrev pub outcome_of : {L V : Type 0} → Next L (Answer V) → Ending V
outcome_of next = elim next [ Continue l ↦ GoingOn | Answers a after ↦ Answered a None ]

-- the call is answered, and its party then holds this
abbrev pub AnswersWith : {L A : Type 0} → Option Hold → Next L A → Type 0
AnswersWith h next = elim next [ Continue l ↦ ⊥ | Answers a after ↦ after ≡ h ]

-- a call that went on so made its next step at the point l, and then goes on as `now` says; one that was answered made none
abbrev pub Follows : {L A : Type 0} → Next L A → L → Next L A → Type 0
Follows before l now = elim before [ Continue k ↦ l ≡ k | Answers a h ↦ now ≡ Answers a h ]

abbrev pub is_granted : {V : Type 0} → Answer V → Bool
is_granted answer = elim answer [ Granted ↦ true | _ ↦ false ]

-- An answer either grants, and then Q holds of what its party holds, or it is a refusal, and the party holds this.
abbrev pub Tries : {V : Type 0} → Option Hold → (Option Hold → Type 0) → Answer V → Option Hold → Type 0
Tries h Q b k = (is_granted b ≡ true → (b ≡ Granted) × Q k) × (is_granted b ≡ false → (b ≡ Refused) × (k ≡ h))

-- what the party holds between two calls
abbrev pub held_now : {C L : Type 0} → Seat C L → Option Hold
held_now seat = elim seat [ Holding h ↦ Some h | _ ↦ None ]

abbrev pub has_begun : {C L : Type 0} → Option (Seat C L) → Bool
has_begun (Some (Calling c l h)) = true
has_begun _ = false

-- the moves of a call from its beginning up to a step after which it so goes on or ends
abbrev pub course_of : {L V C : Type 0} → C → Next L (Answer V) → Course V C (Answer V)
course_of c (Continue l) = Begins c passes.Waits
course_of c (Answers a after) = IsCall c a

-- how a call goes on after its first steps, of which the last is at this point and finds this number; `None`: it has only begun
abbrev pub next_after : {W V C L A : Type 0} → Table W V C L A → C → Option Hold → Option (L × ℕ) → Next L A
next_after t c h None = Continue (t.start c h)
next_after t c h (Some z) = next_of t c z.0 h z.1

module _ {W V C L : Type 0} (t : Table W V C L (Answer V)) (s : Meaning C L) where
  abbrev pub Says : Type 1
  Says = passes.Says V C (Answer V) (Seat C L)

  -- the step of the call c at this point; it is the call's first if `goes_on` is false
  abbrev pub turn : Bool → C → L → Option Hold → Says
  turn goes_on c l h mine outs n v = says_step goes_on c (λ k. outcome_of (next_of t c l h k)) (λ k. seat_after c h (next_of t c l h k)) mine outs n v × FindsAt s (t.word l) n

  -- the next step of a party in a call; a party in no call begins the call c
  abbrev pub turn_from : C → Seat C L → Says
  turn_from c (Calling d l h) = turn true d l h
  turn_from c seat = turn false c (t.start c (held_now seat)) (held_now seat)

  -- the first step of the call c by a holder that writes, and then does not; it first writes the value
  abbrev pub gives_up : (V → Type 0) → C → Option (Seat C L) → Says
  gives_up Q c view mine outs n v =
      let h = held_now (seat_now view) in let next = next_of t c (t.start c h) h n in
      (v ≡ seat_after c h next) × WritesSome Q (IsOneStep false c (outcome_of next)) mine outs

  -- the step of the call that is named; `gives` says whether the party first writes its value
  abbrev pub turn_by : Bool → Option C → Option (Seat C L) → Says
  turn_by gives None view = λ mine outs n v. ⊥
  turn_by true (Some c) view = gives_up (λ x. Unit {0}) c view
  turn_by false (Some c) view = turn_from c (seat_now view)

  -- the call rests at this point, or begins there
  abbrev pub Reaches : C → L → Option Hold → Type 0
  Reaches c l h = (rests_at s (Calling c l h) ≡ true) ⊎ (l ≡ t.start c h)

  -- the party comes into this seat by the first steps of the call, of which the last is at this point and finds this number
  abbrev pub Lands : C → Option Hold → Option (L × ℕ) → Seat C L → Type 0
  Lands c h last v = ((v ≡ seat_after c h (next_after t c h last)) × (rests_at s v ≡ true)) × IfSome last (λ z. FindsAt s (t.word z.0) z.1 × Reaches c z.0 h)

  -- the first steps of a call by one operation; the number that it finds says which call, and which step is the last
  abbrev pub leap : (ℕ → Option C) → (ℕ → Option (L × ℕ)) → Option Hold → Says
  leap calls last h own outs n v = MatchOption (calls n) ⊥ (λ c. Lands c h (last n) v × course_of c (next_after t c h (last n)) own outs)

  -- a load at place 1 that is no step
  abbrev pub peeks : {S : Type 0} → Beside S → Seat C L → Says
  peeks k seat own outs n v = ((v ≡ seat) × Peeks k s seat n) × (own ≡ []) × (outs ≡ [])

  abbrev pub Told : Says → Option (Numbered (Seat C L)) → List (Entry C V) → List (Entry C V) → ℕ → Numbered (Seat C L) → Type 0
  Told = own.Tells (machine_of t) (λ x. x) (words_of t)

-- Several steps of a call by one operation on the first word.

-- the last step that such an exchange makes where it finds the number n, if the call begins at this point
abbrev pub last_step : {L : Type 0} → L → Ahead L → ℕ → Option (L × ℕ)
last_step start a n = if n == a.old then Some (a.point, a.number) else (if a.looks then Some (start, n) else None)

-- One exchange that is a whole call `won` if it finds `old`, or else the first step of the call `lost`, which begins at this point:
abbrev pub either_call : {C L : Type 0} → C → C → Ahead L → ℕ → C
either_call won lost a n = if n == a.old then won else lost

abbrev pub either_step : {L : Type 0} → L → Ahead L → ℕ → Option (L × ℕ)
either_step start a n = if n == a.old then Some (a.point, a.number) else Some (start, n)

module _ {W V C L A : Type 0} (t : Table W V C L A) (s : Meaning C L) where
  -- the call goes on by j steps, one after another, from the point l and the number n to the point k and the number m
  abbrev pub GoesTo : C → Option Hold → ℕ → L → ℕ → L → ℕ → Type 0
  GoesTo c h zero l n k m = (k ≡ l) × (m ≡ n)
  GoesTo c h (suc j) l n k m = (i : L) × (next_of t c l h n ≡ Continue i) × GoesTo c h j i (performed (operation_by (t.act c l h)) n) k m

  -- An operation that finds the number n and leaves the number n' is the first steps of the call. The last of them is at this point, and finds
  -- this number. With `None` the operation is no step: it only begins the call.
  abbrev pub IsLed : C → Option Hold → Option (L × ℕ) → ℕ → ℕ → Type 0
  IsLed c h None n n' = (n' ≡ n) × (s.part c (t.start c h) h ≡ Some (part_of s (resting h)))
  IsLed c h (Some z) n n' = (j : ℕ) × GoesTo c h j (t.start c h) n z.0 z.1 × (n' ≡ performed (operation_by (t.act c z.0 h)) z.1)

  -- an exchange of `old` for `new` is the first steps of a call, whatever number it finds
  abbrev pub FusesBy : (ℕ → C) → Option Hold → (ℕ → Option (L × ℕ)) → ℕ → ℕ → Type 0
  FusesBy c h last old new = ((l : L) → t.word l ≡ 0) × ((n : ℕ) → IsLed (c n) h (last n) n (if n == old then new else n))

  -- the call begins by such an exchange
  abbrev pub Fuses : C → Option Hold → Ahead L → Type 0
  Fuses c h a = FusesBy (λ n. c) h (last_step (t.start c h) a) a.old a.new

-- the party is at this point of its call, or may begin the call here
abbrev pub IsAtPoint : {W V C L : Type 0} → Table W V C L (Answer V) → C → L → Option Hold → Option (Seat C L) → Type 0
IsAtPoint t c l h view = (view ≡ Some (Calling c l h)) ⊎ ((l ≡ t.start c h) × (seat_now view ≡ resting h) × ((t.asks c h).begins h ≡ true))

-- For a lock whose key is an opening:

abbrev pub SeatSpot : (V C L : Type 0) → Type 0
SeatSpot V C L = spots.Spot (Opening V) (Seat C L) (Entry C V)

abbrev pub spot_of : {V P C L S : Type 0} → Session V (Numbered (Seat C L)) (Entry C V) P (Opening V) S → SeatSpot V C L
spot_of it = (it.permit.key, it.permit.view, it.seen)

module _ {W V C L : Type 0} (t : ℕ → V → Table W V C L (Answer V)) where
  abbrev pub TurnTold : Meaning C L → Bool → Option C → Opening V → Option (Numbered (Seat C L)) → List (Entry C V) → List (Entry C V) → ℕ → Numbered (Seat C L) → Type 0
  TurnTold s gives c key before = Told (table_at t key) s (turn_by (table_at t key) s gives c (what before)) before

  abbrev pub PeekTold : {S : Type 0} → Beside S → Meaning C L → Opening V → Option (Numbered (Seat C L)) → List (Entry C V) → List (Entry C V) → ℕ → Numbered (Seat C L) → Type 0
  PeekTold k s key before = Told (table_at t key) s (peeks (table_at t key) s k (seat_now (what before))) before

  abbrev pub LeapTold : Meaning C L → (ℕ → Option C) → (ℕ → Option (L × ℕ)) → Opening V → Option (Numbered (Seat C L)) → List (Entry C V) → List (Entry C V) → ℕ → Numbered (Seat C L) → Type 0
  LeapTold s calls last key before = Told (table_at t key) s (leap (table_at t key) s calls last (held_now (seat_now (what before)))) before

  abbrev pub IsAt : C → L → Option Hold → Opening V → Option (Seat C L) → Type 0
  IsAt c l h key = IsAtPoint (table_at t key) c l h

-- the watch is of the party's lock and knows its trace, at least up to the party's last step; the party may rest in its seat
abbrev pub Knows : {V C L : Type 0} → Meaning C L → SeatSpot V C L → Type 0
Knows s p = (p.0.name ≡ p.2.name) × (own_mark p.1 ≤ length p.2.entries) × (rests_at s (seat_now (what p.1)) ≡ true)

-- if the party sees a value, it is the one written last
abbrev pub SeesLast : {V P C L S : Type 0} → Session V (Numbered (Seat C L)) (Entry C V) P (Opening V) S → Type 0
SeesLast it = IfSome it.permit.value (IsLast it.permit.key it.seen.entries)

-- wherever this call rests, its party uses the value
abbrev pub UsesValue : {C L : Type 0} → Meaning C L → C → Option Hold → Type 0
UsesValue {L = L} s c h = (l : L) → rests_at s (Calling c l h) ≡ true → use_at s (Calling c l h) ≢ off

-- A party that uses the value sees it. If it saw one before this call, and uses the value wherever the call rests, it still sees that one.
abbrev pub SeesOn : {V P C L S : Type 0} → Meaning C L → C → Option Hold → Option V → Session V (Numbered (Seat C L)) (Entry C V) P (Opening V) S → Type 0
SeesOn s c h before it = use_at s (seat_now (what it.permit.view)) ≢ off → (it.permit.value ≢ None) × (UsesValue s c h → before ≢ None → it.permit.value ≡ before)

-- the party does not write the value
abbrev pub Quiet : {C L : Type 0} → Meaning C L → Option (Seat C L) → Type 0
Quiet s view = use_of (use_at s) view ≡ writes → ⊥

-- a party with this hold, and one that rests in this call, does not write the value
abbrev pub StaysQuiet : {C L : Type 0} → Meaning C L → C → Option Hold → Type 0
StaysQuiet {L = L} s c h = (use_at s (resting h) ≡ writes → ⊥) × ((l : L) → use_at s (Calling c l h) ≡ writes → ⊥)

-- the name of the lock's trace, and all moves of the lock that the party knows
abbrev pub lock_of : {V C L : Type 0} → SeatSpot V C L → ℕ
lock_of p = p.2.name

abbrev pub history : {V C L : Type 0} → SeatSpot V C L → List (Entry C V)
history p = p.2.entries

-- a party of this lock that has made no call, and knows nothing of the lock's trace
abbrev pub new_in : {V C L : Type 0} → Opening V → SeatSpot V C L
new_in lock = (lock, None, record { marker = record {}; name = lock.name; entries = [] })

-- the party is in no call, holds this, and knows its lock's trace, at least up to its last step
abbrev pub StandsAt : {V C L : Type 0} → Option Hold → SeatSpot V C L → Type 0
StandsAt h p = (p.0.name ≡ p.2.name) × (own_mark p.1 ≤ length p.2.entries) × (seat_now (what p.1) ≡ resting h)

abbrev pub Stands : {V P C L S : Type 0} → Option Hold → Session V (Numbered (Seat C L)) (Entry C V) P (Opening V) S → Type 0
Stands h it = StandsAt h (spot_of it)

-- from `before` to `now` the party has made exactly this call, which had this answer
abbrev pub Calls : {W V C L : Type 0} → (ℕ → V → Table W V C L (Answer V)) → C → Answer (Unit {0}) → SeatSpot V C L → SeatSpot V C L → Type 0
Calls t c a before now = HasCalled (model_at t) c (with_value a None) before now

module _ {W V C L : Type 0} (t : ℕ → V → Table W V C L (Answer V)) (s : Meaning C L) where
  -- the party may begin this call, and writes no value in it
  abbrev pub MayBegin : C → Option Hold → Opening V → Type 0
  MayBegin c h key = (((table_at t key).asks c h).begins h ≡ true) × StaysQuiet s c h

  -- the call rests at this point, or begins there
  abbrev pub RestsAt : C → L → Option Hold → Opening V → Type 0
  RestsAt c l h key = Reaches (table_at t key) s c l h

  -- the call's first steps lead to this point, and to this number there
  abbrev pub IsLedTo : C → Option Hold → L → ℕ → Opening V → Type 0
  IsLedTo c h l m key = (j : ℕ) × (n : ℕ) × GoesTo (table_at t key) s c h j ((table_at t key).start c h) n l m

  -- a step of this call at this point may find this number
  abbrev pub MayFind : C → L → Option Hold → ℕ → Opening V → Type 0
  MayFind c l h n key = FindsAt s ((table_at t key).word l) n × RestsAt c l h key

  -- so the party has been answered, by a step that found this number, and holds `after`
  abbrev pub Ended : C → Option Hold → Answer (Unit {0}) → Option Hold → SeatSpot V C L → SeatSpot V C L → Type 0
  Ended c h a after p q = Calls t c a p q × (seat_now (what q.1) ≡ resting after) × ((l : L) × (n : ℕ) × (next_of (table_at t p.0) c l h n ≡ Answers (with_value a None) after) × MayFind c l h n p.0)

  -- the step of this call at this point found this number, which is in bounds, and so the call goes on so
  abbrev pub GoesBy : C → L → Option Hold → ℕ → Next L (Answer (Unit {0})) → Opening V → Type 0
  GoesBy c l h n next key = (filled None next ≡ next_of (table_at t key) c l h n) × FindsAt s ((table_at t key).word l) n

  -- So far the party's call was made: its last step was at the point `made.1`, and found the number `made.2`; it goes on as `made.0` says.
  pub record IsMade {P S : Type 0} (c : C) (h : Option Hold) (made : Next L (Answer (Unit {0})) × L × ℕ × Session V (Numbered (Seat C L)) (Entry C V) P (Opening V) S) : Type 0 where
    pub knows : Knows s (spot_of made.3)
    pub seat : what made.3.permit.view ≡ Some (seat_after c h made.0)
    pub goes : GoesBy c made.1 h made.2 made.0 made.3.permit.key
    pub last : SeesLast made.3

  -- from p to q the party has begun this call, and made steps of it, after which the call goes on so
  abbrev pub Comes : C → Option Hold → Next L (Answer (Unit {0})) → SeatSpot V C L → SeatSpot V C L → Type 0
  Comes c h next p q = elim next [ Continue l ↦ IsIn (model_at t) c p q × (what q.1 ≡ Some (Calling c l h)) | Answers a after ↦ Ended c h a after p q ]

  -- at q the party is in this call, which it began at p, or has not begun it
  abbrev pub Under : C → SeatSpot V C L → SeatSpot V C L → Type 0
  Under c p q = (IsIn (model_at t) c p q × (has_begun (what q.1) ≡ true)) ⊎ ((q ≡ p) × (has_begun (what q.1) ≡ false))

  -- the first step of this call has this answer, for some word that is in bounds; the party holds the same
  abbrev pub Tells : C → Option Hold → Answer (Unit {0}) → Opening V → Type 0
  Tells c h a key = (n : ℕ) × (next_of (table_at t key) c ((table_at t key).start c h) h n ≡ Answers (with_value a None) h) × FindsAt s ((table_at t key).word ((table_at t key).start c h)) n

  -- so holds of each answer of the call, with what its party then holds
  abbrev pub EachAnswer : C → Option Hold → (Answer V → Option Hold → Type 0) → Opening V → Type 0
  EachAnswer c h Q key = (l : L) (n : ℕ) (b : Answer V) (k : Option Hold) → MayFind c l h n key → next_of (table_at t key) c l h n ≡ Answers b k → Q b k

  -- Each answer of the call is this one, after which its party holds `after`.
  abbrev pub IsAnsweredBy : C → Option Hold → Answer (Unit {0}) → Option Hold → Opening V → Type 0
  IsAnsweredBy c h a after = EachAnswer c h (λ b k. (b ≡ with_value a None) × (k ≡ after))

  -- Each answer of the call either gets this hold, or is a refusal.
  abbrev pub IsTry : C → Option Hold → Option Hold → Opening V → Type 0
  IsTry c h after = EachAnswer c h (Tries h (λ k. k ≡ after))

  -- Each answer of the call grants the lock, and its party then writes the value.
  abbrev pub Acquires : C → Option Hold → Opening V → Type 0
  Acquires c h = EachAnswer c h (λ b k. (b ≡ Granted) × (use_at s (resting k) ≡ writes))

  -- Each answer of the call either grants the lock, and its party then writes the value, or is a refusal.
  abbrev pub TriesToAcquire : C → Option Hold → Opening V → Type 0
  TriesToAcquire c h = EachAnswer c h (Tries h (λ k. use_at s (resting k) ≡ writes))

module _ {W V C L : Type 0} (t : ℕ → V → Table W V C L (Answer V)) where
  -- the party's call goes on, after a step at this point that found this number
  abbrev pub GoesOn : C → L → Option Hold → ℕ → Opening V → Option (Seat C L) → Type 0
  GoesOn c l h n key view = (k : L) × (next_of (table_at t key) c l h n ≡ Continue k) × (view ≡ Some (Calling c k h))

  -- the first step of the call answers it so
  abbrev pub IsAnsweredAtOnce : C → Option Hold → Answer (Unit {0}) → Option Hold → Opening V → Type 0
  IsAnsweredAtOnce c h a after key = (n : ℕ) → next_of (table_at t key) c ((table_at t key).start c h) h n ≡ Answers (with_value a None) after

  -- the third step of the call answers it, or an earlier one
  abbrev pub IsAnswered : C → Option Hold → Opening V → Type 0
  IsAnswered c h key = (n m j : ℕ) (l k i : L) → next_of (table_at t key) c ((table_at t key).start c h) h n ≡ Continue l → next_of (table_at t key) c l h m ≡ Continue k → next_of (table_at t key) c k h j ≡ Continue i → ⊥

  -- the first step of the call answers it, and its party holds the same as before
  abbrev pub IsLook : C → Option Hold → Opening V → Type 0
  IsLook c h key = (n : ℕ) → AnswersWith h (next_of (table_at t key) c ((table_at t key).start c h) h n)

  -- the first step of the call answers it with `Done`, and its party then holds `after`
  abbrev pub EndsWith : C → Hold → Option Hold → Opening V → Type 0
  EndsWith c h after key = (n : ℕ) → next_of (table_at t key) c ((table_at t key).start c (Some h)) (Some h) n ≡ Answers Done after
