-- The table of a lock of seats refines the plain lock, all of whose holders read.
use Rattle.std.proofs.Common.{◌≡◌, ℕ, ◌+◌, ◌-◌, ◌≤◌, ◌%◌, ◌^◌, Option, Some, None, List, [], ◌∷◌, refl, ap, ◌∙◌, arith}
use Rattle.std.proofs.lemmas.List.Sums.{sum_by-cons}
use Rattle.spin_step.specs.Plain.{Plain, reading}
use Rattle.spin_step.specs.Orders.{IsInOrder}
use Rattle.spin_step.specs.declared.place.Hold.{Hold}
use Rattle.spin_step.specs.declared.place.Hold.TheVariants as hold
use Rattle.spin_step.specs.declared.place.Seat.TheVariants.{Holding}
use Rattle.spin_step.specs.declared.answer.Answer.TheVariants.{Granted}
use Rattle.spin_step.proofs.Holders.{is_holder-from_entries, length-held, length-without_holder}
use Rattle.spin_core.specs.Cell.{reading as reads_of, readers_of}
use Rattle.spin_core.specs.Views.{Part, holds, entries_of_part, part_at, HasPart, IsLockOf}
use Rattle.spin_core.specs.declared.tie.Opening.{Opening}
use Rattle.spin_core.proofs.tie.Leaving.{flag_word-up}
use Rattle.spin_core.proofs.tie.Views.{release-own}
use Rattle.spin_session.specs.Meaning.{Sound, ComesFrom, Refines, use_at}
use Rattle.spin_session.specs.Turns.{IsAnswered, IsAnsweredBy, IsTry}
use Rattle.spin_session.proofs.Readers.{OnlyReads, all_read, as_many_hold, readers_fit}
use Rattle.spin_seats.specs.Meaning.{seats_meaning}
use Rattle.spin_seats.specs.Rule.{IsWord, View, part, seats_taken, seats_tables}
use Rattle.spin_seats.specs.Seats.{seats, seats_word}
use Rattle.spin_seats.specs.Table.{seats_table}
use Rattle.spin_seats.specs.declared.calls.SeatsCall.{SeatsCall}
use Rattle.spin_seats.specs.declared.calls.SeatsCall.TheVariants.{TryEnter, TryEnterWeak, Enter, Leave}
use Rattle.spin_seats.specs.declared.calls.SeatsPoint.{SeatsPoint}
use Rattle.spin_seats.proofs.Taken.{enter-grants}

module _ (n : ℕ) where
  kind : (v : View) → OnlyReads (part n v)
  kind (Holding hold.Read) = λ p. (refl, refl, refl)
  kind v = λ p. grind arith

  sound : (c : SeatsCall) (l : SeatsPoint) (h : Option Hold) (p : ℕ) (s : Plain) (vs : List View) (from : Part)
      → ComesFrom (seats_table n) (seats_meaning n) c l h from → s.cap ≡ seats n → IsInOrder s → IsLockOf (part n) vs s
      → seats_word s ≤ seats n → HasPart s p from → Sound (seats_table n) (seats_meaning n) c l h p s from
  sound Leave l (Some hold.Read) p s vs from comes room order is few has =
      let stands = is_holder-from_entries p reading s.holders in let less = length-without_holder p reading s.holders in
      grind (arith, comes, has.0, stands, release-own s p reading, less, few)
  sound c l h p s vs from comes room order is few has =
      grind (arith, comes, enter-grants s p n (seats_word s) (all_read (part n) kind vs s is) room refl, few)

  pub seats_refine : Refines (seats_table n) (seats_meaning n)
  seats_refine = record {
    one_word = λ l. refl;
    operates = grind arith;
    writes_word = grind arith;
    opens_at = (refl, refl);
    bounds_opening = omega arith;
    nobody = flag_word-up;
    fits = readers_fit (part n) kind (seats n) (omega arith);
    goes = grind arith;
    sound = sound;
  }

  -- how the calls that take a seat are answered
  pub enter_answers : (key : Opening (Unit {0})) → IsAnsweredBy (seats_tables n) (seats_meaning n) Enter None Granted (Some hold.Read) key
  enter_answers key l w b k may is = grind (arith, is)

  pub try_answers : (key : Opening (Unit {0})) → IsTry (seats_tables n) (seats_meaning n) TryEnter None (Some hold.Read) key
  try_answers key l w b k may is = grind (arith, is)

  pub weak_answers : (key : Opening (Unit {0})) → IsTry (seats_tables n) (seats_meaning n) TryEnterWeak None (Some hold.Read) key × IsAnswered (seats_tables n) TryEnterWeak None key
  weak_answers key = (grind arith, grind arith)

  -- the word is the number of parties that have a seat
  one_sits : (v : View) → reads_of (use_at (seats_meaning n) v) ≡ seats_taken (v ∷ [])
  one_sits v = grind arith

  readers_sit : (vs : List View) → readers_of (use_at (seats_meaning n)) vs ≡ seats_taken vs
  readers_sit [] = refl
  readers_sit (v ∷ vs) =
      grind (arith, one_sits v, readers_sit vs, sum_by-cons (λ v. reads_of (use_at (seats_meaning n) v)) v vs)

  pub as_many_sit : (word : ℕ) (vs : List View) → IsWord n word tt vs → (word ≡ seats_taken vs) × (word ≤ n)
  as_many_sit word vs (is, few) =
      let counted = as_many_hold (part n) kind vs is.0 is.3 in (omega (arith, is.4, counted, readers_sit vs), omega (arith, few))

  -- the subtraction of a party that sits is the step function of `leave`
  pub gets_up_as_step : (word : ℕ) (vs : List View) (p : ℕ) → IsWord n word tt vs → part_at (part n) vs p ≡ holds reading
      → (1 ≤ word) × ((word + (2 ^ 64 - 1)) % 2 ^ 64 ≡ word - 1)
  gets_up_as_step word vs p (is, few) at =
      let some = length-held p reading is.0.holders (ap (λ e. e.holders) ((is.3 p).0 ∙ ap (entries_of_part p) at)) in
      (omega (arith, is.4, some), omega (arith, is.4, some, few))
