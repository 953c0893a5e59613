-- An object as a table, which gives the shape of the next step for each point of a call. The shapes determine the machine, and what has to
-- be shown of each step.
use Rattle.std.specs.Prelude.{ℕ, zero, suc, ◌+◌, ◌%◌, Bool, true, false, Option, Some, None, List, [], ◌∷◌, is_some, ◌==◌, if◌then◌else◌, get_or, unwrap_or, option_map}
use Rattle.spin_step.specs.Plain.{Change}
use Rattle.spin_step.specs.declared.place.Hold.{Hold}
use Rattle.spin_step.specs.declared.answer.Answer.{Answer}
use Rattle.spin_step.specs.declared.answer.Answer.TheVariants.{Granted, Refused, Locked, Starved, Done, Is, Count, Value, NoValue, Failed, Leader, Follower}
use Rattle.spin_step.specs.declared.stepped.Next.{Next}
use Rattle.spin_step.specs.declared.stepped.Next.TheVariants.{Continue, Answers}
use Rattle.spin_step.specs.declared.stepped.Stepped.{Stepped}
use Rattle.spin_step.specs.StepKinds.{StepKind, plain, again, look}
use Rattle.spin_step.specs.Calls.{Asked, LockKind, Said, says_of}
use Rattle.spin_step.specs.Asks.{is_completion}
use Rattle.spin_step.specs.Machines.{Machine}
use Rattle.spin_step.specs.Operations.{performed}
use Rattle.spin_step.specs.declared.table.Operation.{Operation}
use Rattle.spin_step.specs.declared.table.Operation.TheVariants as op
use Rattle.spin_step.specs.Schedules.{placed}

-- An object's words as a list of numbers (`numbers`). `put i k` replaces the i-th of these numbers by k.
pub record Memory (W : Type 0) : Type 0 where
  pub numbers : W → List ℕ
  pub put : ℕ → ℕ → W → W

abbrev pub one_number : Memory ℕ
one_number = record { numbers = λ w. w ∷ []; put = λ i k w. elim i [ zero ↦ k | _ ↦ w ] }

-- the memory of an object with two numbers: how each is read and replaced
abbrev pub two_numbers : {W : Type 0} → (W → ℕ) → (W → ℕ) → (ℕ → W → W) → (ℕ → W → W) → Memory W
two_numbers a b f g = record {
  numbers = λ w. a w ∷ b w ∷ [];
  put = λ i k w. elim i [ zero ↦ f k w | suc zero ↦ g k w | _ ↦ w ];
}

abbrev pub word_number : {W : Type 0} → Memory W → ℕ → W → ℕ
word_number m i w = get_or (m.numbers w) i 0

-- The shape of a step that works on one word. `f` is a step function: it gives the next number for the number found, or none. `step` is the
-- plain step that the party makes if its operation succeeds.
pub data Act (W L A : Type 0) : Type 0 where
  load : (ℕ → Next L A) → Act W L A
  -- a load; a test of the number found decides how the call goes on
  load_if : (ℕ → Bool) → (ℕ → Next L A) → (ℕ → Next L A) → Act W L A
  -- a load; whether the step function gives a next number decides how the call goes on
  load_for : (ℕ → Option ℕ) → (ℕ → Change) → (ℕ → Next L A) → Next L A → Act W L A
  -- a load; if the number passes the test, the party makes the plain step; if not, the plain step is not open
  enter : (ℕ → Bool) → (ℕ → Change) → Next L A → Next L A → Act W L A
  -- an operation that may fail; if it fails, the plain step is closed
  exchange : Operation → (ℕ → Change) → Next L A → (ℕ → Next L A) → Act W L A
  -- an exchange that expects this number; the step function gives the new one. It may fail spuriously
  weak_exchange : ℕ → (ℕ → Option ℕ) → (ℕ → Change) → Next L A → Next L A → Act W L A
  -- an exchange that never fails spuriously; its failure says nothing of the plain step
  attempt : ℕ → (ℕ → Option ℕ) → (ℕ → Change) → Next L A → Next L A → Act W L A
  -- an exchange on the first word that expects the number found before; if it fails, the number found now decides how the call goes on
  retry : ℕ → (ℕ → Option ℕ) → (ℕ → Change) → Next L A → (ℕ → Next L A) → Next L A → Act W L A
  -- an operation that always succeeds; it is possible only if the number passes the test
  store : (ℕ → Bool) → Operation → (ℕ → Change) → Next L A → Act W L A
  -- A critical section: a step on all words, which is not one operation. It is possible only if the words pass the
  -- test. If it gives no new words, the plain step is closed.
  section : (W → Bool) → (W → Option W) → (ℕ → Change) → (W → Next L A) → (W → Next L A) → Act W L A

-- The outcome of a step.

-- the exchange of the number k for the one that the step function gives
abbrev pub swap : ℕ → (ℕ → Option ℕ) → Operation
swap k f = op.Exchange k (unwrap_or (f k) k)

-- the number after an operation that succeeds, or none if it fails
abbrev pub tried : Operation → ℕ → Option ℕ
tried (op.Exchange from to) n = if n == from then Some to else None
tried op.SetLowestBit n = if n % 2 == 0 then Some (n + 1) else None
tried operation n = Some (performed operation n)

-- the number that the step function gives for k, if the number found is k; otherwise none
abbrev pub guessed : ℕ → (ℕ → Option ℕ) → ℕ → Option ℕ
guessed k f n = if n == k then f n else None

abbrev pub either : {X : Type 0} → Bool → X → X → X
either test a b = if test then a else b

abbrev pub stays : {W V L A : Type 0} → W → Next L A → Stepped W V L A
stays w next = record { words = w; placed = None; next = next }

-- the outcome of an operation: if the operation gives something new, `put` stores what it gives
abbrev pub becomes : {X W V L A : Type 0} → (X → W) → W → Option X → Next L A → Next L A → Stepped W V L A
becomes put w None won lost = stays w lost
becomes put w (Some x) won lost = stays (put x) won

abbrev pub passing : {X : Type 0} → Bool → X → Option X
passing test x = if test then Some x else None

abbrev pub retried : {W V L A : Type 0} → (ℕ → W) → Bool → W → Option ℕ → Next L A → Next L A → Next L A → Stepped W V L A
retried put true w o won found missed = becomes put w o won missed
retried put false w o won found missed = stays w (either (is_some o) found missed)

-- the word that a step is on; a retry is always on the first word
abbrev pub place_of : {W L A : Type 0} → ℕ → Act W L A → ℕ
place_of i act = elim act [ retry k f step won found missed ↦ 0 | _ ↦ i ]

-- the outcome of a step on the i-th word, in which it finds the number n
abbrev pub step_at : {W V L A : Type 0} → Memory W → ℕ → ℕ → Act W L A → W → Stepped W V L A
step_at m i n (load next) w = stays w (next n)
step_at m i n (load_if test a b) w = stays w (either (test n) (a n) (b n))
step_at m i n (load_for f step found missed) w = stays w (either (is_some (f n)) (found n) missed)
step_at m i n (enter test step won lost) w = becomes (λ k. w) w (passing (test n) n) won lost
step_at m i n (exchange operation step won lost) w = becomes (λ k. m.put i k w) w (tried operation n) won (lost n)
step_at m i n (weak_exchange k f step won lost) w = becomes (λ k. m.put i k w) w (tried (swap k f) n) won lost
step_at m i n (attempt k f step won lost) w = becomes (λ k. m.put i k w) w (guessed k f n) won lost
step_at m i n (retry k f step won found missed) w = retried (λ k. m.put i k w) (n == k) w (f n) won (found n) missed
step_at m i n (store can operation step next) w = stays (m.put i (performed operation n) w) next
step_at m i n (section can f step won lost) w = becomes (λ u. u) w (f w) (won w) (lost w)

abbrev pub step_by : {W V L A : Type 0} → Memory W → ℕ → Act W L A → W → Stepped W V L A
step_by m i act w = step_at m (place_of i act) (word_number m (place_of i act) w) act w

-- the plain step is made if the operation gives something new
abbrev pub change_at : {W L A : Type 0} → ℕ → Act W L A → ℕ → W → Option Change
change_at n (enter test step won lost) p w = option_map (λ k. step p) (passing (test n) n)
change_at n (exchange operation step won lost) p w = option_map (λ k. step p) (tried operation n)
change_at n (weak_exchange k f step won lost) p w = option_map (λ k. step p) (tried (swap k f) n)
change_at n (attempt k f step won lost) p w = option_map (λ k. step p) (guessed k f n)
change_at n (retry k f step won found missed) p w = option_map (λ k. step p) (guessed k f n)
change_at n (store can operation step next) p w = Some (step p)
change_at n (section can f step won lost) p w = option_map (λ u. step p) (f w)
change_at n _ p w = None

abbrev pub change_by : {W L A : Type 0} → Memory W → ℕ → Act W L A → ℕ → W → Option Change
change_by m i act p w = change_at (word_number m (place_of i act) w) act p w

abbrev pub can_by : {W L A : Type 0} → Memory W → ℕ → Act W L A → W → Bool
can_by m i (store can operation step next) w = can (word_number m i w)
can_by m i (section can f step won lost) w = can w
can_by m i _ w = true

abbrev pub refusal_by : {W L A : Type 0} → Act W L A → Option (Next L A)
refusal_by act = elim act [ weak_exchange k f step won lost ↦ Some lost | _ ↦ None ]

-- the plain step that a step of this shape makes if it succeeds
abbrev pub makes_by : {W L A : Type 0} → Act W L A → ℕ → Option Change
makes_by (enter test step won lost) p = Some (step p)
makes_by (exchange operation step won lost) p = Some (step p)
makes_by (weak_exchange k f step won lost) p = Some (step p)
makes_by (attempt k f step won lost) p = Some (step p)
makes_by (retry k f step won found missed) p = Some (step p)
makes_by (store can operation step next) p = Some (step p)
makes_by (section can f step won lost) p = Some (step p)
makes_by _ p = None

-- the operation of a step of this shape
abbrev pub operation_by : {W L A : Type 0} → Act W L A → Operation
operation_by (exchange operation step won lost) = operation
operation_by (weak_exchange k f step won lost) = swap k f
operation_by (attempt k f step won lost) = swap k f
operation_by (retry k f step won found missed) = swap k f
operation_by (store can operation step next) = operation
operation_by _ = op.Load

abbrev pub is_section : {W L A : Type 0} → Act W L A → Bool
is_section act = elim act [ section can f step won lost ↦ true | _ ↦ false ]

-- the kind of a `load_if` or an `enter`: a look if the call may wait for another party
abbrev pub look_kind : Asked → StepKind
look_kind what = either what.waits look plain

abbrev pub step_kind_by : {W L A : Type 0} → Asked → Act W L A → StepKind
step_kind_by what (load_if test a b) = look_kind what
step_kind_by what (enter test step won lost) = look_kind what
step_kind_by what (retry k f step won found missed) = again
step_kind_by what _ = plain

-- An object.

pub record Table (W V C L A : Type 0) : Type 0 where
  pub words : W  -- the words before any step
  pub value : Option V  -- the value before any step
  pub owned : Bool
  pub lock_kind : LockKind
  pub cap : ℕ
  pub group : ℕ
  pub first : ℕ
  pub memory : Memory W
  pub start : C → Option Hold → L  -- the point at which a call begins, if its party holds what the call needs
  pub word : L → ℕ  -- the word on which the step at this point is made
  pub act : C → L → Option Hold → Act W L A
  pub asks : C → Option Hold → Asked
  pub says : A → Said

abbrev pub begin_of : {W V C L A : Type 0} → Table W V C L A → C → Option Hold → Option L
begin_of t c h = passing ((t.asks c h).begins h) (t.start c h)

-- how a call goes on from this point, by the number that its step finds
abbrev pub next_of : {W V C L A : Type 0} → Table W V C L A → C → L → Option Hold → ℕ → Next L A
next_of t c l h n = (step_at {V = Unit {0}} t.memory 0 n (t.act c l h) t.words).next

-- The machine of a table. `refuse` and `step` are its outcomes of a spurious failure and of a step. `says` tells what
-- its answers say. `brings` and `gives` tell the values of calls and of answers. The answers may be of another type
-- than the table's.
abbrev pub machine_by : {W V C L A B : Type 0} → Table W V C L A → (C → L → Option Hold → Option (Next L B)) → (W → Option V → C → L → Option Hold → Stepped W V L B) → (B → Said) → (C → Option V) → (B → Option V) → Machine W V C L B
machine_by t refuse step says brings gives = record {
  words = t.words;
  value = t.value;
  owned = t.owned;
  begin = begin_of t;
  refuse = refuse;
  can = λ w c l h. can_by t.memory (t.word l) (t.act c l h) w;
  step = step;
  lock_kind = t.lock_kind;
  cap = t.cap;
  group = t.group;
  first = t.first;
  numbers = t.memory.numbers;
  asks = t.asks;
  says = says;
  change = λ p w c l h. change_by t.memory (t.word l) (t.act c l h) p w;
  step_kind = λ c l h. step_kind_by (t.asks c h) (t.act c l h);
  brings = brings;
  gives = gives;
}

abbrev pub machine_of : {W V C L A : Type 0} → Table W V C L A → Machine W V C L A
machine_of t = machine_by t (λ c l h. refusal_by (t.act c l h)) (λ w v c l h. step_by t.memory (t.word l) (t.act c l h) w) t.says (λ c. None) (λ a. None)

-- An object whose closures make its value. The answers in its table have no values. A call whose answer is a value
-- gets the value that is there after its last step.

-- only a store completes a closure; it stores the value that the call's closure gave
abbrev pub completes_by : {W L A : Type 0} → Act W L A → Bool
completes_by act = elim act [ store can f step next ↦ is_completion (step 0) | _ ↦ false ]

abbrev pub with_value : {V : Type 0} → Answer (Unit {0}) → Option V → Answer V
with_value (Value u) (Some v) = Value v
with_value (Value u) None = NoValue
with_value Granted value = Granted
with_value Refused value = Refused
with_value Locked value = Locked
with_value Starved value = Starved
with_value Done value = Done
with_value (Is b) value = Is b
with_value (Count n) value = Count n
with_value NoValue value = NoValue
with_value Failed value = Failed
with_value Leader value = Leader
with_value Follower value = Follower

abbrev pub filled : {V L : Type 0} → Option V → Next L (Answer (Unit {0})) → Next L (Answer V)
filled value (Continue l) = Continue l
filled value (Answers a after) = Answers (with_value a value) after

abbrev pub step_with : {W V L : Type 0} → Option V → Option V → Bool → Stepped W V L (Answer (Unit {0})) → Stepped W V L (Answer V)
step_with value brings completing st =
    let put = if completing then brings else None in
    record { words = st.words; placed = put; next = filled (placed put value) st.next }

abbrev pub gives_of : {V : Type 0} → Answer V → Option V
gives_of answer = elim answer [ Value v ↦ Some v | _ ↦ None ]

abbrev pub machine_with : {W V C L : Type 0} → Table W V C L (Answer (Unit {0})) → (C → Option V) → Machine W V C L (Answer V)
machine_with t brings = machine_by t (λ c l h. None) (λ w v c l h. step_with v (brings c) (completes_by (t.act c l h)) (step_by t.memory (t.word l) (t.act c l h) w)) says_of brings gives_of
