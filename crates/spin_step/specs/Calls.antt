-- What an answer says, what a call promises, and what a kind of lock is. `Asks` has the calls of the objects here. Each object brings its
-- kind of lock, and may bring further calls.
use Rattle.std.specs.Prelude.{◌≡◌, ℕ, suc, ◌⊎◌, ◌==◌, ◌&&◌, ◌||◌, Bool, true, false, not, Option, Some, None, List, [], ◌∷◌, length, map}
use Rattle.std.specs.List.{list_any}
use Rattle.std.specs.Option.{option_map_or}
use Rattle.spin_step.specs.Plain.{Plain, upgradable, asking, Ask, to_read, to_read_upgradable, to_write, to_upgrade, to_upgrade_asked, to_take_ticket, to_enter, to_take_and_enter, to_sit, to_lock_unregistered, to_lock_starving, to_lock_starving_alone, to_starve, to_begin, Change, gets, stops_starving, turns, completes, writing, is_open_to, is_empty, count_kind, reader_count}
use Rattle.spin_step.specs.Parties.{party_of}
use Rattle.spin_step.specs.declared.answer.Answer.{Answer}
use Rattle.spin_step.specs.declared.answer.Answer.TheVariants.{Granted, Refused, Locked, Starved, Done, Is, Count, Value, NoValue, Failed, Leader, Follower}
use Rattle.spin_step.specs.declared.place.Hold.{Hold}
use Rattle.spin_step.specs.StepKinds.{StepKind}

-- what an answer says
pub data Said : Type 0 where
  granted : Said
  refused : Said
  locked : Said
  starved : Said
  done : Said
  tells : Bool → Said
  counted : ℕ → Said
  gives_value : Said
  has_no_value : Said
  failed : Said
  leads : Said
  follows : Said

abbrev pub says_of : {V : Type 0} → Answer V → Said
says_of Granted = granted
says_of Refused = refused
says_of Locked = locked
says_of Starved = starved
says_of Done = done
says_of (Is there) = tells there
says_of (Count n) = counted n
says_of (Value v) = gives_value
says_of NoValue = has_no_value
says_of Failed = failed
says_of Leader = leads
says_of Follower = follows

-- a step of a call: its party, its plain step, its kind, and the plain lock before and after it
pub record Mark : Type 0 where
  pub party : ℕ
  pub change : Option Change
  pub step_kind : StepKind
  pub before : Plain
  pub after : Plain

-- P holds of some element of the list
abbrev pub AnyOf : {X : Type 0} → (X → Type 0) → List X → Type 0
AnyOf P [] = ⊥
AnyOf P (x ∷ xs) = P x ⊎ AnyOf P xs

-- What holds at a moment of a call.

abbrev pub is_starved : Plain → Bool
is_starved s = not (is_empty s.starvers)

abbrev pub readers : Plain → ℕ
readers s = reader_count s.holders

abbrev pub writers : Plain → ℕ
writers s = count_kind writing s.holders

-- the party takes a step, and what it asks is closed at that moment
abbrev pub FindsClosed : ℕ → Ask → Mark → Type 0
FindsClosed p ask m = (m.party ≡ p) × (is_open_to m.before p ask ≡ false)

-- the party registers as a starver by this step
abbrev pub Registers : ℕ → Mark → Type 0
Registers p m = (m.party ≡ p) × (m.change ≡ Some (gets p to_starve))

-- the party registers as a starver, or finds that the cap does not allow it
abbrev pub TriesToStarve : ℕ → Mark → Type 0
TriesToStarve p m = Registers p m ⊎ FindsClosed p to_starve m

-- how many steps a call may take, in all or until something happens
pub data Limit : Type 0 where
  unlimited : Limit
  within : ℕ → Limit
  within_changes : ℕ → Limit  -- this many steps, and one more for each change of the first word by another party during the call
  -- `gets_within ask n`: after n steps, and one more for each change by others, a call that waits has got this ask, or
  -- has found the ask closed.
  gets_within : Ask → ℕ → Limit
  changes_within : ℕ → Limit  -- after this many steps a call that waits has made a plain step
  -- `registers_after n m`: suppose that n looks of a waiting call have found the lock held. After one more such look
  -- the call registers as a starver, or finds the cap reached, within m steps and one more for each change by others.
  registers_after : ℕ → ℕ → Limit

-- The plain steps by which a party gets what it asks. A party takes a ticket before it enters. For `to_upgrade_asked`
-- it asks to upgrade before it upgrades. After a starver gets the lock, it stops starving.
abbrev pub grant : ℕ → Ask → List Change
grant p to_upgrade_asked = turns p upgradable asking ∷ gets p to_upgrade_asked ∷ []
grant p to_enter = gets p to_take_ticket ∷ gets p to_enter ∷ []
grant p to_sit = gets p to_take_ticket ∷ gets p to_sit ∷ []
grant p to_lock_starving = gets p to_lock_starving ∷ stops_starving p ∷ []
grant p to_lock_starving_alone = gets p to_lock_starving_alone ∷ stops_starving p ∷ []
grant p ask = gets p ask ∷ []

abbrev pub same_ask : Ask → Ask → Bool
same_ask to_read to_read = true
same_ask to_read_upgradable to_read_upgradable = true
same_ask to_write to_write = true
same_ask to_upgrade to_upgrade = true
same_ask to_upgrade_asked to_upgrade_asked = true
same_ask to_take_ticket to_take_ticket = true
same_ask to_enter to_enter = true
same_ask to_take_and_enter to_take_and_enter = true
same_ask to_sit to_sit = true
same_ask to_lock_unregistered to_lock_unregistered = true
same_ask to_lock_starving to_lock_starving = true
same_ask to_lock_starving_alone to_lock_starving_alone = true
same_ask to_starve to_starve = true
same_ask to_begin to_begin = true
same_ask _ _ = false

abbrev pub is_for : Ask → Change → Bool
is_for ask c = elim c [ gets p a ↦ same_ask a ask | _ ↦ false ]

-- at this mark the party makes a plain step that passes the test
abbrev pub makes : ℕ → (Change → Bool) → Mark → Bool
makes p test m = (m.party == p) && option_map_or (λ c. (party_of c == p) && test c) m.change false

-- at this mark what the party asks is open to it, and its own step gets it
abbrev pub grants : ℕ → Ask → Mark → Bool
grants p ask m = is_open_to m.before p ask && makes p (is_for ask) m

-- What an answer says of its call.
pub data Sense : Type 0 where
  never : Sense  -- the call never has this answer
  got : Ask → Sense  -- the party has got what it asks
  got_or_starved : Ask → Ask → Sense  -- it has got the first, or it has registered as a starver and got the second
  found : (ℕ → Plain → Bool) → Sense  -- the plain lock passes this test at some moment, and the call has made no plain step
  -- the call has made one of these lists of plain steps, and its span passes this test
  means : (ℕ → List (List Change)) → (ℕ → List Mark → Bool) → Sense

abbrev pub own_steps : Sense → ℕ → List (List Change)
own_steps never p = []
own_steps (got ask) p = grant p ask ∷ []
own_steps (got_or_starved a b) p = grant p a ∷ (gets p to_starve ∷ grant p b) ∷ []
own_steps (found test) p = [] ∷ []
own_steps (means steps right) p = steps p

-- The answer is right at a moment of the call: in a state in which some step of its span, perhaps the last, was made.
abbrev pub moment : Sense → ℕ → List Mark → Bool
moment never p span = false
moment (got ask) p span = list_any (grants p ask) span
moment (got_or_starved a b) p span = list_any (grants p a) span || list_any (grants p b) span
moment (found test) p span = list_any (λ m. test p m.before) span
moment (means steps right) p span = right p span

-- What a call promises. An object takes calls from `Asks`, or brings its own.
pub record Asked : Type 0 where
  pub begins : Option Hold → Bool  -- what its party may hold when it begins
  pub waits : Bool  -- it may wait for another party
  pub tries : Option Ask  -- what a try asks; where that is closed the try ends
  pub answers : Said → Sense
  pub most : Said  -- one of the answers that it may give
  pub limit : ℕ → Limit  -- the limit of its steps, on a lock of so many words
  -- Whether the next request of a waiting call is open. The arguments: whether the call has made no plain step yet,
  -- the number of arrivals up to its own, its party, and the plain lock.
  pub is_open_next : Bool → ℕ → ℕ → Plain → Bool
  pub undisturbed_steps : ℕ  -- once its next request is open, it takes at most so many own steps if undisturbed
  -- what a waiting call tries to get without a look first, after these plain steps
  pub goes_for : List Change → Option Ask
  pub may_register : List Change → Bool  -- after these plain steps it may register as a starver in place of a look
  pub is_weak : Bool  -- it makes weak exchanges, which may fail spuriously
  pub before_weakly : ℕ → List Change  -- the plain steps that it makes before its weak exchange
  pub gets_weakly : Change → Bool  -- the plain steps that it makes by a weak exchange, and only so
  pub needs_no_cause : Said → Bool  -- the answers to which a spurious failure may lead; they need no moment

abbrev pub HasMoment : Asked → Said → ℕ → List Mark → Type 0
HasMoment what said p span = moment (what.answers said) p span ≡ true

-- like `HasMoment`, but an answer to which a spurious failure may lead needs no moment
abbrev pub HasWeakMoment : Asked → Said → ℕ → List Mark → Type 0
HasWeakMoment what said p span = (what.needs_no_cause said || moment (what.answers said) p span) ≡ true

-- A kind of lock, which its object provides. The laws speak of the kind that a machine has. So each object says by name which kind that is.
pub record LockKind : Type 0 where
  pub word : Plain → ℕ  -- its first word, computed from the plain lock
  pub further_words : List (Plain → ℕ)  -- its other words, computed from the plain lock
  pub plain_steps : Change → Bool  -- the plain steps that it makes; for `completes`, `makes_value` decides
  -- the calls of a party that holds this; the number is an argument that a call may have
  pub calls : ℕ → Option Hold → List Asked
  pub spins_on_exchange : Bool  -- a waiting call that does not look first repeats its exchange without looks
  pub makes_value : Bool  -- closures make its value
  pub steps_in_sections : Bool  -- a step is a critical section under a lock of its own, not one operation

-- The usual kind, with these words, plain steps and calls. A call looks between its exchanges, no closure makes the value, and each step is
-- one operation.
abbrev pub usual : (Plain → ℕ) → List (Plain → ℕ) → (Change → Bool) → (ℕ → Option Hold → List Asked) → LockKind
usual word further plain_steps calls = record {
  word = word;
  further_words = further;
  plain_steps = plain_steps;
  calls = calls;
  spins_on_exchange = false;
  makes_value = false;
  steps_in_sections = false;
}

abbrev pub encoded : LockKind → Plain → List ℕ
encoded kind s = kind.word s ∷ map (λ sum. sum s) kind.further_words

-- the kind makes this plain step; a closure completes only if closures make the value
abbrev pub is_step_of : LockKind → Change → Bool
is_step_of kind c = elim c [ completes p ↦ kind.makes_value | other ↦ kind.plain_steps other ]

-- there is no step, or this kind of lock makes it
abbrev pub BelongsTo : LockKind → Option Change → Type 0
BelongsTo kind None = Unit {0}
BelongsTo kind (Some c) = is_step_of kind c ≡ true

-- the first word, on which a call repeats its exchange
abbrev pub first_word : LockKind → Plain → ℕ
first_word kind s = kind.word s

-- the limit of a call's steps on this kind of lock
abbrev pub limit : LockKind → Asked → Limit
limit kind what = what.limit (suc (length kind.further_words))
