-- The table of fair seats refines the plain lock.
use Rattle.std.proofs.Common.{◌≡◌, ℕ, zero, suc, ◌-◌, ◌≤◌, Option, Some, None, List, [], ◌∷◌, min, refl, ap, sym, arith, subst}
use Rattle.std.proofs.lemmas.List.Sums.{sum_by-cons}
use Rattle.std.proofs.lemmas.Bool.{eqb-true}
use Rattle.spin_step.specs.Plain.{Plain, ticket_limit, fresh, reading}
use Rattle.spin_step.specs.Orders.{IsInOrder}
use Rattle.spin_step.specs.Acts.{next_of, with_value}
use Rattle.spin_step.specs.declared.answer.Answer.{Answer}
use Rattle.spin_step.specs.declared.answer.Answer.TheVariants.{Count as Counted}
use Rattle.spin_step.specs.declared.place.Hold.{Hold}
use Rattle.spin_step.specs.declared.place.Hold.TheVariants as hold
use Rattle.spin_step.specs.declared.place.Seat.TheVariants.{Holding}
use Rattle.spin_step.specs.declared.stepped.Next.TheVariants.{Answers}
use Rattle.spin_step.proofs.Holders.{is_holder-from_entries}
use Rattle.spin_step.proofs.InOrder.{in_order-fresh}
use Rattle.spin_step.proofs.TicketSteps.{ticket_take-grants}
use Rattle.spin_core.specs.Cell.{reading as reads_of, readers_of, MeetsRule}
use Rattle.spin_core.specs.Views.{Part, holds, HasPart, IsLockOf}
use Rattle.spin_core.specs.declared.tie.Opening.{Opening}
use Rattle.spin_core.specs.declared.trace.Trace.{Trace}
use Rattle.spin_core.proofs.tie.Views.{release-own}
use Rattle.spin_session.specs.Meaning.{ComesFrom, FindsAt, RefinesOn, SoundOn, part_of, seat_after, use_at, ways_of, with_second}
use Rattle.spin_session.specs.Operating.{Executes}
use Rattle.spin_session.specs.Turns.{IsTry}
use Rattle.spin_session.proofs.Executing.{executes_on}
use Rattle.spin_session.proofs.Readers.{OnlyReads, as_many_hold, readers_fit}
use Rattle.spin_session.proofs.Refining.{starts_on}
use Rattle.spin_fair_seats.specs.FairSeats.{seats, fair_word, given_word}
use Rattle.spin_fair_seats.specs.Meaning.{fair_seats_meaning}
use Rattle.spin_fair_seats.specs.Rule.{AreFairSeats, IsFairSeats, Made, View, part, sitting, fair_seats_tables}
use Rattle.spin_fair_seats.specs.Table.{fair_seats_memory, fair_seats_table, act_of, word_of}
use Rattle.spin_fair_seats.specs.declared.calls.FairSeatsCall.{FairSeatsCall}
use Rattle.spin_fair_seats.specs.declared.calls.FairSeatsCall.TheVariants.{Enter, TryEnter, Count, Leave}
use Rattle.spin_fair_seats.specs.declared.calls.FairSeatsPoint.{FairSeatsPoint}
use Rattle.spin_fair_seats.specs.declared.calls.FairSeatsPoint.TheVariants.{Take, Await, TryTake, CountGiven, Give}
use Rattle.spin_fair_seats.proofs.Line.{Fair, in_bounds, opens, word_is, sit_is, take_fair, take_given, sit_fair, sit_given, give_fair, give_given, fair_word-up, given_word-up}

module _ (n : ℕ) where
  kind : (v : View) → OnlyReads (part n v)
  kind (Holding hold.Read) = λ p. (refl, refl, refl)
  kind v = λ p. grind arith

  abbrev Step : FairSeatsCall → FairSeatsPoint → Option Hold → ℕ → Plain → Part → Type 0
  Step c l h = SoundOn with_second fair_seats_memory (record { next = 0; given = 0 }) (word_of l) (λ x. (fair_word x, given_word x)) (λ w. w ≤ ticket_limit) (act_of n l h) (λ next. part_of (fair_seats_meaning n) (seat_after {A = Answer (Unit {0})} c h next))

  module _ (p : ℕ) (s : Plain) (room : s.cap ≡ seats n) (order : IsInOrder s) (f : Fair s) where
    gives : (from : Part) → from ≡ holds reading → HasPart s p from → Step Leave Give (Some hold.Read) p s from
    gives from is has =
        let stands = is_holder-from_entries p reading s.holders (ap (λ e. e.holders) ((rw is at has).0)) in
        grind (arith, is, stands, word_is s f, word_is _ (give_fair s p f stands), give_given s p f stands, release-own s p reading, order.within_limit)

  sound : (c : FairSeatsCall) (l : FairSeatsPoint) (h : Option Hold) (p : ℕ) (s : Plain) (vs : List View) (from : Part) → ComesFrom (fair_seats_table n) (fair_seats_meaning n) c l h from → s.cap ≡ seats n → IsInOrder s → IsLockOf (part n) vs s → fair_word s ≤ ticket_limit
      → HasPart s p from → Step c l h p s from
  sound Enter (Take k) None p s vs from comes room order is low has =
      let f = in_bounds s low in grind (arith, comes, ticket_take-grants s p k, word_is s f, word_is _ (take_fair s p f), take_given s p f)
  sound TryEnter (TryTake k) None p s vs from comes room order is low has =
      let f = in_bounds s low in grind (arith, comes, ticket_take-grants s p k, word_is s f, word_is _ (take_fair s p f), take_given s p f)
  sound Enter (Await t) None p s vs from comes room order is low has =
      let f = in_bounds s low in grind (arith, comes, has, room, word_is s f, sit_is s p f t, sit_given s p f, sit_fair s p f, word_is)
  sound TryEnter (Await t) None p s vs from comes room order is low has =
      let f = in_bounds s low in grind (arith, comes, has, room, word_is s f, sit_is s p f t, sit_given s p f, sit_fair s p f, word_is)
  sound Leave Give (Some hold.Read) p s vs from comes room order is low has =
      gives p s room order (in_bounds s low) from (grind (arith, comes)) has
  sound c l h p s vs from comes room order is low has = grind (arith, comes, eqb-true)

  -- each word may be 0
  empty : (i : ℕ) → FindsAt (fair_seats_meaning n) i 0
  empty zero = (omega arith, (fresh (seats n) 0 0, refl, in_order-fresh (seats n) 0 0 (omega arith), sym (opens (seats n))))
  empty (suc i) = (fresh (seats n) 0 0, refl, in_order-fresh (seats n) 0 0 (omega arith), refl)

  pub fair_seats_refine : RefinesOn (fair_seats_table n) with_second (fair_seats_meaning n)
  fair_seats_refine = record {
    places = grind arith;
    within = grind arith;
    accesses = grind arith;
    operates = grind arith;
    writes_words = grind arith;
    first = 0;
    opens_at = (λ i. (sym (opens (seats n)) i, 0), omega (arith, opens (seats n)));
    empty = λ l. empty (word_of l);
    nobody = (fair_word-up, given_word-up);
    fits = readers_fit (part n) kind (seats n) (omega arith);
    goes = grind arith;
    sound = sound;
  }

  pub starts : (key : Opening (Unit {0})) (t : Trace Made ℕ) → t.name ≡ key.name → t.entries ≡ [] → t.word ≡ 0 → MeetsRule (IsFairSeats n key) (ways_of (fair_seats_meaning n) key) 0 t []
  unfolding fair_seats_refine
  starts key t named none word =
      subst (λ w. MeetsRule (IsFairSeats n key) (ways_of (fair_seats_meaning n) key) w t []) (opens (seats n)) (starts_on with_second (fair_seats_table n) (fair_seats_meaning n) fair_seats_refine key (omega arith) t named none word)

  pub fair_seats_execute : Executes with_second (fair_seats_tables n) (fair_seats_meaning n) (IsFairSeats n) (ways_of (fair_seats_meaning n))
  fair_seats_execute = executes_on with_second (fair_seats_tables n) (fair_seats_meaning n) (λ start value. fair_seats_refine)

  -- how the calls are answered
  pub enter_answers : (key : Opening (Unit {0})) → IsTry (fair_seats_tables n) (fair_seats_meaning n) Enter None (Some hold.Read) key
  enter_answers key l w b k may is = grind (arith, is)

  pub try_answers : (key : Opening (Unit {0})) → IsTry (fair_seats_tables n) (fair_seats_meaning n) TryEnter None (Some hold.Read) key
  try_answers key l w b k may is = grind (arith, is)

  -- a count is at most the number of seats
  pub counts_few : (l : FairSeatsPoint) (m k : ℕ) (after : Option Hold) → next_of (fair_seats_table n) Count l None m ≡ Answers (with_value (Counted k) None) after → k ≤ seats n
  counts_few (CountGiven j) m k after is = let same : min (j - m) (seats n) ≡ k = cc (is) in omega (arith, same)
  counts_few l m k after is = grind (arith, is)

  -- as many parties sit as the plain lock has holders
  one_sits : (v : View) → reads_of (use_at (fair_seats_meaning n) v) ≡ sitting (v ∷ [])
  one_sits v = grind arith

  readers_sit : (vs : List View) → readers_of (use_at (fair_seats_meaning n)) vs ≡ sitting vs
  readers_sit [] = refl
  readers_sit (v ∷ vs) =
      grind (arith, one_sits v, readers_sit vs, sum_by-cons (λ v. reads_of (use_at (fair_seats_meaning n) v)) v vs)

  pub few_sit : (next given : ℕ) (vs : List View) → AreFairSeats n next given vs → sitting vs ≤ seats n
  few_sit next given vs (is, low) =
      let f = in_bounds is.0 (rw is.4 at low) in let counted = as_many_hold (part n) kind vs is.0 is.3 in omega (arith, f.room, is.1, counted, readers_sit vs)
