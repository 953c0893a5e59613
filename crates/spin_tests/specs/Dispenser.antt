-- A dispenser of numbers: its kind of lock, its calls step by step, its promises by name, and how it draws. A party that
-- has drawn a number holds as a reader for ever. So the word is the number of parties that have drawn. The plain lock's
-- cap is the number of all numbers.
use Rattle.std.specs.Prelude.{◌≡◌, ℕ, ◌+◌, ◌==◌, ◌&&◌, not, length, Bool, true, false, Option, Some, None, List, [], ◌∷◌, ◌++◌, nat_lt, if◌then◌else◌}
use Rattle.std.specs.List.{list_any, range_with_len}
use Rattle.spin_step.specs.Plain.{to_read, Change, gets, is_open_to, fresh, flag_word}
use Rattle.spin_step.specs.declared.place.Hold.{Hold}
use Rattle.spin_step.specs.declared.place.Hold.TheVariants.{Read}
use Rattle.spin_step.specs.declared.stepped.Next.{Next}
use Rattle.spin_step.specs.declared.stepped.Next.TheVariants.{Continue, Answers}
use Rattle.spin_step.specs.declared.schedule.Event.{Event}
use Rattle.spin_step.specs.declared.schedule.Move.{Move}
use Rattle.spin_step.specs.declared.schedule.Outcome.{Outcome}
use Rattle.spin_step.specs.declared.schedule.Outcome.TheVariants.{Answered}
use Rattle.spin_tests.specs.declared.dispenser.DispenserCall.{DispenserCall}
use Rattle.spin_tests.specs.declared.dispenser.DispenserCall.TheVariants as call
use Rattle.spin_tests.specs.declared.dispenser.DispenserPoint.{DispenserPoint}
use Rattle.spin_tests.specs.declared.dispenser.DispenserPoint.TheVariants.{First, Exchange}
use Rattle.spin_tests.specs.declared.dispenser.DispenserAnswer.{DispenserAnswer}
use Rattle.spin_tests.specs.declared.dispenser.DispenserAnswer.TheVariants.{Drawn, SoldOut, NotNext, Count}
use Rattle.spin_step.specs.Calls.{Asked, LockKind, Said, counted, granted, refused, grant, grants, never, found, means, usual}
use Rattle.spin_step.specs.Asks.{counts_readers, looks_and_tries, tries}
use Rattle.spin_step.specs.Machines.{Machine, opening_plain}
use Rattle.spin_step.specs.Acts.{one_number, Act, load, load_for, attempt, retry, Table, machine_of}
use Rattle.spin_step.specs.Schedules.{at_first, after, events_of}

-- The kind of lock: nobody returns a number

abbrev pub dispenser_plain_steps : Change → Bool
dispenser_plain_steps (gets p to_read) = true
dispenser_plain_steps _ = false

-- A call that no crate below knows: a try that draws the number k. It is granted at a moment at which exactly k numbers
-- have been drawn. It is refused at a moment at which all numbers, or more or fewer than k, have been drawn.
abbrev pub tries_this : ℕ → Asked
tries_this k =
    record (tries to_read) {
      answers = λ said. elim said [
        | granted ↦ means (λ p. grant p to_read ∷ []) (λ p span. list_any (λ m. grants p to_read m && (length m.before.holders == k)) span)
        | refused ↦ found (λ p s. not (is_open_to s p to_read && (length s.holders == k)))
        | _ ↦ never
      ];
    }

abbrev pub dispenser_calls : ℕ → Option Hold → List Asked
dispenser_calls n h = looks_and_tries to_read ∷ tries_this n ∷ counts_readers ∷ []

abbrev pub dispenser : LockKind
dispenser = usual flag_word [] dispenser_plain_steps dispenser_calls

-- The table

abbrev pub Continues : Type 0
Continues = Next DispenserPoint DispenserAnswer

-- the word after one more number is drawn, if one is left
abbrev pub after_draw : ℕ → ℕ → Option ℕ
after_draw cap k = if nat_lt k cap then Some (k + 1) else None

abbrev pub drawn : ℕ → Continues
drawn k = Answers (Drawn k) (Some Read)

abbrev pub goes_for : ℕ → Continues
goes_for k = Continue (Exchange k)

abbrev pub sold_out : Option Hold → Continues
sold_out h = Answers SoldOut h

abbrev pub not_next : Option Hold → Continues
not_next h = Answers NotNext h

abbrev pub act_of : ℕ → DispenserCall → DispenserPoint → Option Hold → Act ℕ DispenserPoint DispenserAnswer
act_of cap call.Draw First h = load_for (after_draw cap) (λ p. gets p to_read) goes_for (sold_out h)
act_of cap call.Draw (Exchange k) h = retry k (after_draw cap) (λ p. gets p to_read) (drawn k) goes_for (sold_out h)
act_of cap (call.DrawThis k) l h = attempt k (after_draw cap) (λ p. gets p to_read) (drawn k) (not_next h)
act_of cap call.Count l h = load (λ k. Answers (Count k) h)

abbrev pub asks_of : DispenserCall → Option Hold → Asked
asks_of call.Draw h = looks_and_tries to_read
asks_of (call.DrawThis k) h = tries_this k
asks_of call.Count h = counts_readers

abbrev pub dispenser_says : DispenserAnswer → Said
dispenser_says (Drawn k) = granted
dispenser_says SoldOut = refused
dispenser_says NotNext = refused
dispenser_says (Count k) = counted k

abbrev pub DispenserTable : Type 0
DispenserTable = Table ℕ (Unit {0}) DispenserCall DispenserPoint DispenserAnswer

abbrev pub dispenser_table : ℕ → DispenserTable
dispenser_table cap =
    record {
      words = 0;
      value = Some tt;
      owned = false;
      lock_kind = dispenser;
      cap = cap;
      group = 0;
      first = 0;
      memory = one_number;
      start = λ c h. First;
      word = λ l. 0;
      act = act_of cap;
      asks = asks_of;
      says = dispenser_says;
    }

abbrev pub DispenserMachine : Type 0
DispenserMachine = Machine ℕ (Unit {0}) DispenserCall DispenserPoint DispenserAnswer

abbrev pub dispenser_machine : ℕ → DispenserMachine
dispenser_machine cap = machine_of (dispenser_table cap)

-- What it is by name

pub record IsDispenser (cap : ℕ) (m : DispenserMachine) : Type 0 where
  pub lock_kind : m.lock_kind ≡ dispenser
  pub number : (w : ℕ) → m.numbers w ≡ w ∷ []
  -- it has `cap` numbers, and none is drawn
  pub plain : opening_plain m ≡ fresh cap 0 0
  pub draw : (h : Option Hold) → m.asks call.Draw h ≡ looks_and_tries to_read
  pub draw_this : (k : ℕ) (h : Option Hold) → m.asks (call.DrawThis k) h ≡ tries_this k
  pub count : (h : Option Hold) → m.asks call.Count h ≡ counts_readers
  pub says : (a : DispenserAnswer) → m.says a ≡ dispenser_says a

-- The numbers that it draws

abbrev pub number_in : Outcome DispenserAnswer (Unit {0}) → List ℕ
number_in (Answered (Drawn k) b) = k ∷ []
number_in _ = []

abbrev pub numbers_in : List (Event ℕ (Unit {0}) DispenserAnswer) → List ℕ
numbers_in [] = []
numbers_in (e ∷ es) = number_in e.outcome ++ numbers_in es

-- each number below the word is drawn once, and in order
abbrev pub DrawsInOrder : DispenserMachine → ℕ → List (ℕ × Move DispenserCall (Unit {0})) → Type 0
DrawsInOrder m n past = numbers_in (events_of m (at_first m n) past) ≡ range_with_len 0 (after m (at_first m n) past).words
