-- What a lock's table means in the plain lock, and what has to be shown of a table that a cell runs.
use Rattle.std.specs.Prelude.{◌≡◌, refl, ℕ, zero, suc, ◌+◌, ◌-◌, ◌%◌, ◌^◌, ◌==◌, ◌⊎◌, Bool, true, false, Option, Some, is_some, if◌then◌else◌, bit_or, List}
use Rattle.std.specs.Option.{unwrap_or}
use Rattle.spin_step.specs.Plain.{Plain, fresh}
use Rattle.spin_step.specs.Parties.{IsOpenStep, apply_some, entries_after}
use Rattle.spin_step.specs.Orders.{IsInOrder}
use Rattle.spin_step.specs.Operations.{performed}
use Rattle.spin_step.specs.Acts.{Memory, Table, Act, step_at, step_by, change_at, next_of, operation_by, word_number, place_of, is_section, machine_of}
use Rattle.spin_step.specs.Machines.{Machine}
use Rattle.spin_step.specs.Schedules.{Entry, resting}
use Rattle.spin_step.specs.declared.answer.Answer.{Answer}
use Rattle.spin_step.specs.declared.place.Hold.{Hold}
use Rattle.spin_step.specs.declared.place.Seat.{Seat}
use Rattle.spin_step.specs.declared.place.Seat.TheVariants.{Idle, Calling, Holding}
use Rattle.spin_step.specs.declared.stepped.Next.{Next}
use Rattle.spin_step.specs.declared.stepped.Next.TheVariants.{Continue, Answers}
use Rattle.spin_step.specs.declared.table.Operation.{Operation}
use Rattle.spin_step.specs.declared.table.Operation.TheVariants as op
use Rattle.spin_core.specs.Cell.{Use, Way, Ways, alone, lends, Limits, readers_of, writers_of, OnWord}
use Rattle.spin_core.specs.Own.{Numbered, RunsByRule}
use Rattle.spin_core.specs.Values.{last_value}
use Rattle.spin_core.specs.Views.{Part, idle, entries_of_part, KnowsServed, HasPart, IsLockOf, Encodes, NamesNobody, used_by}
use Rattle.spin_core.specs.declared.tie.Opening.{Opening}
use Rattle.spin_core.specs.declared.trace.Trace.{Trace}

-- the word after an operation of the processor, which counts modulo 2^64
abbrev pub worked : Operation → ℕ → ℕ
worked op.Load n = n
worked (op.Exchange from to) n = if n == from then to else n
worked (op.Store to) n = to % 2 ^ 64
worked (op.Add by) n = (n + by) % 2 ^ 64
worked (op.Subtract by) n = (n + (2 ^ 64 - by)) % 2 ^ 64
worked op.SetLowestBit n = bit_or n 1

-- How a cell keeps a number at place 1, in what stands beside its first word. A cell of one word has its first word at each place.
pub record Beside (S : Type 0) : Type 0 where
  pub of : ℕ → S
  pub number : ℕ × S → ℕ
  pub put : ℕ → ℕ × S → ℕ × S
  pub kept : (s : ℕ × S) → put (number s) s ≡ s

abbrev pub just_one : Beside (Unit {0})
just_one = record { of = λ n. tt; number = λ s. s.0; put = λ n s. (n, s.1); kept = λ s. refl }

abbrev pub with_second : Beside ℕ
with_second = record { of = λ n. n; number = λ s. s.1; put = λ n s. (s.0, n); kept = λ s. refl }

module _ {S : Type 0} (k : Beside S) where
  -- the number at this place of a cell
  abbrev pub number_in : ℕ → ℕ × S → ℕ
  number_in i s = elim i [ zero ↦ s.0 | suc j ↦ k.number s ]

  -- the words of a cell with this number at a place
  abbrev pub put_in : ℕ → ℕ → ℕ × S → ℕ × S
  put_in i n s = elim i [ zero ↦ (n, s.1) | suc j ↦ k.put n s ]

  abbrev pub HasSecond : Type 0
  HasSecond = (a b : ℕ) → k.number (a, k.of b) ≡ b

  -- a step on the word at this place
  abbrev pub on_place : ℕ → (ℕ → ℕ) → OnWord S
  on_place i f = (λ s. put_in i (f (number_in i s)) s, λ s. number_in i s)

-- what a table's words and points are in the plain lock
pub record Meaning (C L : Type 0) : Type 1 where
  pub cap : ℕ
  pub word : Plain → ℕ
  -- the second word; a lock of one word may name any number
  pub second : Plain → ℕ
  -- what else holds of the first word at any time
  pub bounds : ℕ → Type 0
  -- several parties may read the value at once
  pub shares : Bool
  -- what a party is in the plain lock while its call rests at this point; no party rests at a point without a part
  pub part : C → L → Option Hold → Option Part
  -- what a party with this hold is in the plain lock
  pub held : Hold → Part

abbrev pub lends_if : {X : Type 0} → Bool → Way X
lends_if true = lends
lends_if false = alone

-- the seat of a party; a new party is idle
abbrev pub seat_now : {C L : Type 0} → Option (Seat C L) → Seat C L
seat_now view = unwrap_or view Idle

-- the seat of a party whose call so continues or ends
abbrev pub seat_after : {C L A : Type 0} → C → Option Hold → Next L A → Seat C L
seat_after c h next = elim next [ Continue l ↦ Calling c l h | Answers a after ↦ resting after ]

module _ {C L : Type 0} where
  abbrev pub part_of : Meaning C L → Seat C L → Part
  part_of s (Calling c l h) = unwrap_or (s.part c l h) idle
  part_of s (Holding h) = s.held h
  part_of s _ = idle

  -- a party may rest in this seat
  abbrev pub rests_at : Meaning C L → Seat C L → Bool
  rests_at s seat = elim seat [ Calling c l h ↦ is_some (s.part c l h) | _ ↦ true ]

  abbrev pub use_at : Meaning C L → Seat C L → Use
  use_at s = used_by (part_of s)

  abbrev pub use_of_party : Meaning C L → Numbered (Seat C L) → Use
  use_of_party s v = use_at s v.0

  -- what holds of the words and the parties: the words are those of a plain lock in order with these parties
  abbrev pub AreWords : {S : Type 0} → Beside S → Meaning C L → ℕ → S → List (Seat C L) → Type 0
  AreWords k s n m vs = Encodes (part_of s) s.cap s.word (λ plain. k.of (s.second plain)) n m vs × s.bounds n

  -- the word of a plain lock in order
  abbrev pub IsWordOf : Meaning C L → (Plain → ℕ) → ℕ → Type 0
  IsWordOf s word n = (plain : Plain) × (plain.cap ≡ s.cap) × IsInOrder plain × (n ≡ word plain)

  -- what a step on the first word tells of the number that it found
  abbrev pub Finds : Meaning C L → ℕ → Type 0
  Finds s n = s.bounds n × IsWordOf s s.word n

  -- the same for a step on the word at this place
  abbrev pub FindsAt : Meaning C L → ℕ → ℕ → Type 0
  FindsAt s i n = elim i [ zero ↦ Finds s n | suc j ↦ IsWordOf s s.second n ]

-- the number n is at place 1 of a lock in order in which the party has the part of its seat
abbrev pub Peeks : {C L S : Type 0} → Beside S → Meaning C L → Seat C L → ℕ → Type 0
Peeks k s seat n = (plain : Plain) × (p : ℕ) × (plain.cap ≡ s.cap) × IsInOrder plain × HasPart plain p (part_of s seat) × (n ≡ k.number (s.word plain, k.of (s.second plain)))

-- A step of this shape on the first word makes a step of the plain lock, or none, and its party gets the part `to` of how its call goes on. The
-- operation of the processor does what the table's does.
pub record SoundAct {W L A : Type 0} (m : Memory W) (w : W) (word : Plain → ℕ) (bounds : ℕ → Type 0) (act : Act W L A) (to : Next L A → Part) (p : ℕ) (plain : Plain) (from : Part) : Type 0 where
  pub opens : IsOpenStep plain p (change_at (word plain) act p w)
  pub entries : entries_after plain (change_at (word plain) act p w) (entries_of_part p from) ≡ entries_of_part p (to (step_at {V = Unit {0}} m 0 (word plain) act w).next)
  pub knows : KnowsServed (apply_some plain (change_at (word plain) act p w)) (to (step_at {V = Unit {0}} m 0 (word plain) act w).next)
  pub counts : worked (operation_by act) (word plain) ≡ word (apply_some plain (change_at (word plain) act p w))
  pub same : worked (operation_by act) (word plain) ≡ performed (operation_by act) (word plain)
  pub bounded : bounds (worked (operation_by act) (word plain))

-- the same of a step on the word at place i
pub record SoundOn {W L A S : Type 0} (k : Beside S) (m : Memory W) (w : W) (i : ℕ) (words : Plain → ℕ × S) (bounds : ℕ → Type 0) (act : Act W L A) (to : Next L A → Part) (p : ℕ) (plain : Plain) (from : Part) : Type 0 where
  pub opens : IsOpenStep plain p (change_at (number_in k i (words plain)) act p w)
  pub entries : entries_after plain (change_at (number_in k i (words plain)) act p w) (entries_of_part p from) ≡ entries_of_part p (to (step_at {V = Unit {0}} m 0 (number_in k i (words plain)) act w).next)
  pub knows : KnowsServed (apply_some plain (change_at (number_in k i (words plain)) act p w)) (to (step_at {V = Unit {0}} m 0 (number_in k i (words plain)) act w).next)
  pub counts : put_in k i (worked (operation_by act) (number_in k i (words plain))) (words plain) ≡ words (apply_some plain (change_at (number_in k i (words plain)) act p w))
  pub same : worked (operation_by act) (number_in k i (words plain)) ≡ performed (operation_by act) (number_in k i (words plain))
  pub bounded : bounds (put_in k i (worked (operation_by act) (number_in k i (words plain))) (words plain)).0

-- an operation that a cell makes on its word at this place: on its second word it loads, stores and adds
abbrev pub IsAccess : ℕ → Operation → Type 0
IsAccess zero o = Unit {0}
IsAccess (suc j) op.Load = Unit {0}
IsAccess (suc j) (op.Store to) = Unit {0}
IsAccess (suc j) (op.Add by) = Unit {0}
IsAccess (suc j) o = ⊥

module _ {W V C L A : Type 0} (t : Table W V C L A) where
  -- the words of a cell for these words of the model
  abbrev pub words_in : {S : Type 0} → Beside S → W → ℕ × S
  words_in k w = (word_number t.memory 0 w, k.of (word_number t.memory 1 w))

  abbrev pub words_of : W → ℕ × Unit {0}
  words_of = words_in just_one

  -- the step at this point, in a plain lock; the party has the part `from` before the step
  abbrev pub Sound : Meaning C L → C → L → Option Hold → ℕ → Plain → Part → Type 0
  Sound s c l h = SoundAct t.memory t.words s.word s.bounds (t.act c l h) (λ next. part_of s (seat_after c h next))

  -- the call rests at this point, or begins there
  abbrev pub ComesFrom : Meaning C L → C → L → Option Hold → Part → Type 0
  ComesFrom s c l h from = (s.part c l h ≡ Some from) ⊎ (((t.asks c h).begins h ≡ true) × (l ≡ t.start c h) × (from ≡ part_of s (resting h)))

  -- what has to be shown of a table of one word, once: it refines the plain lock, as `s` says
  pub record Refines (s : Meaning C L) : Type 0 where
    pub one_word : (l : L) → t.word l ≡ 0
    pub operates : (c : C) (l : L) (h : Option Hold) → is_section (t.act c l h) ≡ false
    pub writes_word : (c : C) (l : L) (h : Option Hold) (w : W) → word_number t.memory 0 (step_by {V = V} t.memory 0 (t.act c l h) w).words ≡ performed (operation_by (t.act c l h)) (word_number t.memory 0 w)
    pub opens_at : (word_number t.memory 0 t.words ≡ 0) × (s.word (fresh s.cap 0 0) ≡ 0)
    pub bounds_opening : s.bounds 0
    -- the word does not depend on the parties' numbers, and at most one party uses the value, or several read it
    pub nobody : NamesNobody s.word
    pub fits : (vs : List (Seat C L)) (plain : Plain) → plain.cap ≡ s.cap → IsInOrder plain → IsLockOf (part_of s) vs plain → Limits {X = Unit {0}} (lends_if s.shares) (readers_of (use_at s) vs) (writers_of (use_at s) vs)
    -- a party rests at each point to which its call goes on
    pub goes : (c : C) (l : L) (h : Option Hold) (from : Part) (n : ℕ) → ComesFrom s c l h from → rests_at s (seat_after c h (next_of t c l h n)) ≡ true
    pub sound : (c : C) (l : L) (h : Option Hold) (p : ℕ) (plain : Plain) (vs : List (Seat C L)) (from : Part) → ComesFrom s c l h from → plain.cap ≡ s.cap → IsInOrder plain → IsLockOf (part_of s) vs plain → s.bounds (s.word plain)
        → HasPart plain p from → Sound s c l h p plain from

  -- the same of a table whose words the cell keeps as `k` says
  pub record RefinesOn {S : Type 0} (k : Beside S) (s : Meaning C L) : Type 0 where
    pub places : (c : C) (l : L) (h : Option Hold) → place_of (t.word l) (t.act c l h) ≡ t.word l
    -- each point is on the first word, or on the second of a cell that has one
    pub within : (l : L) → (t.word l ≡ 0) ⊎ ((t.word l ≡ 1) × HasSecond k)
    pub accesses : (c : C) (l : L) (h : Option Hold) → IsAccess (t.word l) (operation_by (t.act c l h))
    pub operates : (c : C) (l : L) (h : Option Hold) → is_section (t.act c l h) ≡ false
    pub writes_words : (c : C) (l : L) (h : Option Hold) (w : W)
        → words_in k (step_by {V = V} t.memory (t.word l) (t.act c l h) w).words ≡ put_in k (t.word l) (performed (operation_by (t.act c l h)) (number_in k (t.word l) (words_in k w))) (words_in k w)
    pub first : ℕ
    pub opens_at : (words_in k t.words ≡ (s.word (fresh s.cap 0 first), k.of (s.second (fresh s.cap 0 first)))) × s.bounds (s.word (fresh s.cap 0 first))
    -- a word may be 0: a store tells as if it had found 0
    pub empty : (l : L) → FindsAt s (t.word l) 0
    -- the words do not depend on the parties' numbers, and at most one party uses the value, or several read it
    pub nobody : NamesNobody s.word × NamesNobody (λ plain. k.of (s.second plain))
    pub fits : (vs : List (Seat C L)) (plain : Plain) → plain.cap ≡ s.cap → IsInOrder plain → IsLockOf (part_of s) vs plain → Limits {X = Unit {0}} (lends_if s.shares) (readers_of (use_at s) vs) (writers_of (use_at s) vs)
    -- a party rests at each point to which its call goes on
    pub goes : (c : C) (l : L) (h : Option Hold) (from : Part) (n : ℕ) → ComesFrom s c l h from → rests_at s (seat_after c h (next_of t c l h n)) ≡ true
    pub sound : (c : C) (l : L) (h : Option Hold) (p : ℕ) (plain : Plain) (vs : List (Seat C L)) (from : Part) → ComesFrom s c l h from → plain.cap ≡ s.cap → IsInOrder plain → IsLockOf (part_of s) vs plain → s.bounds (s.word plain)
        → HasPart plain p from → SoundOn k t.memory t.words (t.word l) (λ x. (s.word x, k.of (s.second x))) s.bounds (t.act c l h) (λ next. part_of s (seat_after c h next)) p plain from

-- For the tables of a lock, by the number with which its words open and by its first value:
module _ {W V C L : Type 0} (t : ℕ → V → Table W V C L (Answer V)) where
  -- the table of a lock with this opening, and its model
  abbrev pub table_at : Opening V → Table W V C L (Answer V)
  table_at opening = t opening.start opening.value

  abbrev pub model_at : Opening V → Machine W V C L (Answer V)
  model_at opening = machine_of (table_at opening)

module _ {W V C L : Type 0} (t : ℕ → V → Table W V C L (Answer V)) (s : Meaning C L) where
  -- the rule of a cell that keeps the table's words as `k` says
  abbrev pub RunsOn : {S : Type 0} → Beside S → Opening V → ℕ → Trace (Entry C V) S → List (Numbered (Seat C L)) → Type 0
  RunsOn k opening = RunsByRule (model_at t opening) (λ x. x) (words_in (table_at t opening) k) (AreWords k s) opening.name

  abbrev pub RunsTable : Opening V → ℕ → Trace (Entry C V) (Unit {0}) → List (Numbered (Seat C L)) → Type 0
  RunsTable = RunsOn just_one

abbrev pub ways_of : {V C L S : Type 0} → Meaning C L → Opening V → Ways V (Numbered (Seat C L)) (Trace (Entry C V) S)
ways_of s opening = (lends_if s.shares, use_of_party s, last_value opening)
