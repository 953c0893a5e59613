-- The queue before the seats, and what each plain step makes of it.
use Rattle.std.proofs.Common.{◌≡◌, ℕ, zero, suc, if◌then◌else◌, ◌+◌, ◌-◌, ◌≤◌, ◌==◌, Bool, true, false, List, [], ◌∷◌, ◌++◌, length, filter, map, nat_lt, refl, ◌∙◌, arith, length-append}
use Rattle.std.proofs.lemmas.List.{length-map}
use Rattle.spin_step.specs.Plain.{Plain, Ticket, ticket, ticket_limit, fresh, reading, count_kind, holder, gets, releases, to_take_ticket, to_sit, apply, is_open, is_holder, is_near, without_ticket, without_holder}
use Rattle.spin_step.specs.Parties.{none_entered}
use Rattle.spin_step.proofs.Holders.{length-without_holder}
use Rattle.spin_step.proofs.Sums.{one_of, sum-more, sum-less}
use Rattle.spin_step.proofs.Tickets.{near-room, length-without_ticket}
use Rattle.spin_step_more.proofs.Readers.{nobody_against}
use Rattle.spin_core.specs.Views.{holder_up, ticket_up, moved_up, NamesNobody}
use Rattle.spin_core.proofs.tie.Leaving.{sum-up}
use Rattle.spin_fair_seats.specs.FairSeats.{seats, given_word, in_turn, is_fair, fair_word}

abbrev own : ℕ → List Ticket → List Ticket
own p ts = filter (λ t. t.party == p) ts

within : (p t n : ℕ) (ts : List Ticket) → in_turn zero n ts ≡ true → own p ts ≡ ticket p t false ∷ [] → n ≤ t
within p t n [] e o = absurd (cc (o))
within p t n (x ∷ xs) e o = grind (arith, within p t (suc n) xs)

-- p's ticket is among the first k exactly if its number is below n
pub near_is : (p t k n : ℕ) (ts : List Ticket) → in_turn k n ts ≡ true → own p ts ≡ ticket p t false ∷ [] → is_near p k ts ≡ nat_lt t n
near_is p t k n [] e o = absurd (cc (o))
near_is p t zero n (x ∷ xs) e o = grind (arith, within p t n (x ∷ xs))
near_is p t (suc k) n (x ∷ xs) e o = grind (arith, near_is p t k n xs)

-- somebody takes the next ticket

more-after : (n : ℕ) (ts : List Ticket) (p m : ℕ) (b : Bool) → in_turn zero n ts ≡ true → m ≡ n + length ts → in_turn zero n (ts ++ ticket p m b ∷ []) ≡ true
more-after n [] p m b e is = grind arith
more-after n (t ∷ ts) p m b e is = grind (arith, more-after (suc n) ts p m b)

more : (k n : ℕ) (ts : List Ticket) (p m : ℕ) (b : Bool) → in_turn k n ts ≡ true → m + k ≡ n + length ts → in_turn k n (ts ++ ticket p m b ∷ []) ≡ true
more zero n ts p m b e is = more-after n ts p m b e (omega (arith, is))
more (suc k) n [] p m b e is = grind arith
more (suc k) n (t ∷ ts) p m b e is = grind (arith, more k n ts p m b)

-- one of the first sits

not_near : (p : ℕ) (ts : List Ticket) → is_near p zero ts ≡ false
not_near p [] = refl
not_near p (t ∷ ts) = refl

less : (p k n : ℕ) (ts : List Ticket) → in_turn (suc k) n ts ≡ true → is_near p (suc k) ts ≡ true → in_turn k n (without_ticket p ts) ≡ true
less p k n [] e near = refl
less p zero n (t ∷ ts) e near = grind (arith, not_near p ts)
less p (suc j) n (t ∷ ts) e near = grind (arith, less p j n ts)

-- a seat is given back

frees : (k n : ℕ) (ts : List Ticket) → in_turn k n ts ≡ true → in_turn (suc k) (suc n) ts ≡ true
frees k n [] e = refl
frees zero n (t ∷ ts) e = grind arith
frees (suc k) n (t ∷ ts) e = grind (arith, frees k n ts)

-- what `is_fair` says
pub record Fair (s : Plain) : Type 0 where
  pub given : length s.tickets + length s.holders ≤ s.next
  pub read : count_kind reading s.holders ≡ length s.holders
  pub room : length s.holders ≤ s.cap
  pub turn : in_turn (s.cap - length s.holders) (given_word s + s.cap) s.tickets ≡ true

pub fair_of : (s : Plain) → is_fair s ≡ true → Fair s
fair_of s e = grind (arith, e)

pub of_fair : (s : Plain) → Fair s → is_fair s ≡ true
of_fair s f = grind (arith, f)

pick : (b : Bool) (n m : ℕ) → b ≡ true → (if b then n else m) ≡ n
pick b n m e = rw e refl

picked : (b : Bool) (n : ℕ) → (if b then n else 18446744073709551616) ≤ ticket_limit → b ≡ true
picked true n low = refl
picked false n low = absurd (omega (arith, low))

pub word_is : (s : Plain) → Fair s → fair_word s ≡ s.next
unfolding fair_word
word_is s f = pick (is_fair s) s.next _ (of_fair s f)

-- a word in bounds is that of a fair lock
pub in_bounds : (s : Plain) → fair_word s ≤ ticket_limit → Fair s
unfolding fair_word
in_bounds s low = fair_of s (picked (is_fair s) s.next low)

pub opens : (cap : ℕ) → fair_word (fresh cap 0 0) ≡ 0
opens cap = word_is (fresh cap 0 0) (record { given = omega arith; read = refl; room = omega arith; turn = refl })

same_turn : (t g c : ℕ) → (c ≡ 0 → g ≤ t) → nat_lt t (g + c) ≡ nat_lt (t - g) c
same_turn t g c least = grind (arith, least)

module _ (s : Plain) (p : ℕ) (f : Fair s) where
  soon_is : (t : ℕ) → own p s.tickets ≡ ticket p t false ∷ [] → is_open s (gets p to_sit) ≡ nat_lt t (given_word s + s.cap)
  soon_is t o = grind (arith, nobody_against s.holders f.read, near_is p t (s.cap - length s.holders) (given_word s + s.cap) s.tickets f.turn o)

  least : (t : ℕ) → own p s.tickets ≡ ticket p t false ∷ [] → s.cap ≡ 0 → given_word s ≤ t
  least t o none = let all : s.cap - length s.holders ≡ zero = omega (arith, none) in
      let low : given_word s + s.cap ≤ t = within p t (given_word s + s.cap) s.tickets (rw all at f.turn) o in omega (arith, low)

  -- the party may sit exactly if the words say so
  pub sit_is : (t : ℕ) → own p s.tickets ≡ ticket p t false ∷ [] → is_open s (gets p to_sit) ≡ nat_lt (t - given_word s) s.cap
  sit_is t o = soon_is t o ∙ same_turn t (given_word s) s.cap (least t o)

  pub take_fair : Fair (apply s (gets p to_take_ticket))
  take_fair = let ts = s.tickets in let long = length-append ts (ticket p s.next false ∷ []) in
      let same : (s.next + 1) - (length (ts ++ ticket p s.next false ∷ []) + length s.holders) ≡ given_word s = omega (arith, long, f.given) in record {
        given = omega (arith, long, f.given);
        read = f.read;
        room = f.room;
        turn = rw same (more (s.cap - length s.holders) (given_word s + s.cap) ts p s.next false f.turn (omega (arith, f.given, f.room)));
      }

  pub take_given : given_word (apply s (gets p to_take_ticket)) ≡ given_word s
  take_given = omega (arith, length-append s.tickets (ticket p s.next false ∷ []), f.given)

  module _ (near : is_near p (s.cap - length s.holders) s.tickets ≡ true) where
    abbrev k : ℕ
    k = (s.cap - length s.holders) - 1

    shorter : suc (length (without_ticket p s.tickets)) ≡ length s.tickets
    shorter = length-without_ticket p (s.cap - length s.holders) s.tickets near

    longer : length (s.holders ++ holder p reading ∷ []) ≡ length s.holders + 1
    longer = length-append s.holders (holder p reading ∷ [])

    pub sit_given : given_word (apply s (gets p to_sit)) ≡ given_word s
    sit_given = omega (arith, shorter, longer, f.given)

    left : s.cap - length s.holders ≡ suc k
    left = omega (arith, near-room p (s.cap - length s.holders) s.tickets near)

    pub sit_fair : Fair (apply s (gets p to_sit))
    sit_fair = record {
      given = omega (arith, shorter, longer, f.given);
      read = omega (arith, longer, f.read, sum-more (one_of reading) s.holders p reading);
      room = omega (arith, longer, left);
      turn = let few : s.cap - length (s.holders ++ holder p reading ∷ []) ≡ k = omega (arith, longer, left) in
          rw (few, sit_given) (less p k (given_word s + s.cap) s.tickets (rw left at f.turn) (rw left at near));
    }

  module _ (found : is_holder p reading s.holders ≡ true) where
    fewer : length s.holders ≡ length (without_holder p reading s.holders) + 1
    fewer = length-without_holder p reading s.holders found

    pub give_given : given_word (apply s (releases p reading)) ≡ given_word s + 1
    give_given = omega (arith, fewer, f.given)

    pub give_fair : Fair (apply s (releases p reading))
    give_fair = record {
      given = omega (arith, fewer, f.given);
      read = omega (arith, fewer, f.read, sum-less (one_of reading) p reading s.holders found);
      room = omega (arith, fewer, f.room);
      turn = let one : s.cap - length (without_holder p reading s.holders) ≡ suc (s.cap - length s.holders) = omega (arith, fewer, f.room) in
          let next : given_word (apply s (releases p reading)) + s.cap ≡ suc (given_word s + s.cap) = omega (arith, give_given) in
          rw (one, next) (frees (s.cap - length s.holders) (given_word s + s.cap) s.tickets f.turn);
    }

pub sit_near : (s : Plain) (p : ℕ) → is_open s (gets p to_sit) ≡ true → is_near p (s.cap - length s.holders) s.tickets ≡ true
sit_near s p may = grind (arith, may)

-- Nobody enters with a ticket.

none-more : (ts : List Ticket) (p n : ℕ) → none_entered ts ≡ true → none_entered (ts ++ ticket p n false ∷ []) ≡ true
none-more [] p n e = refl
none-more (t ∷ ts) p n e = grind (arith, none-more ts p n)

none-less : (p : ℕ) (ts : List Ticket) → none_entered ts ≡ true → none_entered (without_ticket p ts) ≡ true
none-less p [] e = refl
none-less p (t ∷ ts) e = grind (arith, none-less p ts)

-- the shape of the lock in the world
pub record Line (n : ℕ) (s : Plain) : Type 0 where
  pub room : s.cap ≡ seats n
  pub fair : Fair s
  pub waits : none_entered s.tickets ≡ true
  pub low : s.next ≤ ticket_limit

module _ (n : ℕ) (s : Plain) (p : ℕ) (line : Line n s) where
  pub take_line : is_open s (gets p to_take_ticket) ≡ true → Line n (apply s (gets p to_take_ticket))
  take_line may = record { room = line.room; fair = take_fair s p line.fair; waits = none-more s.tickets p s.next line.waits; low = grind (arith, may) }

  pub sit_line : is_open s (gets p to_sit) ≡ true → Line n (apply s (gets p to_sit))
  sit_line may = record { room = line.room; fair = sit_fair s p line.fair (sit_near s p may); waits = none-less p s.tickets line.waits; low = line.low }

  pub give_line : is_holder p reading s.holders ≡ true → Line n (apply s (releases p reading))
  give_line found = record { room = line.room; fair = give_fair s p line.fair found; waits = line.waits; low = line.low }

  -- the number of seats given back can still grow
  pub give_low : is_holder p reading s.holders ≡ true → nat_lt (given_word s) ticket_limit ≡ true
  give_low found = grind (arith, length-without_holder p reading s.holders found, line.fair.given, line.low)

-- Moving up changes only the names.

in_turn-up : (i k n : ℕ) (ts : List Ticket) → in_turn k n (map (ticket_up i) ts) ≡ in_turn k n ts
in_turn-up i k n [] = refl
in_turn-up i zero n (t ∷ ts) = grind (arith, in_turn-up i zero (suc n) ts)
in_turn-up i (suc k) n (t ∷ ts) = grind (arith, in_turn-up i k n ts)

pub given_word-up : NamesNobody given_word
given_word-up k s = omega (arith, length-map s.tickets (ticket_up k), length-map s.holders (holder_up k))

is_fair-up : (k : ℕ) (s : Plain) → is_fair (moved_up k s) ≡ is_fair s
is_fair-up k s = rw (length-map s.tickets (ticket_up k), length-map s.holders (holder_up k), sum-up k (one_of reading) s.holders, in_turn-up k (s.cap - length s.holders) (given_word s + s.cap) s.tickets) refl

pub fair_word-up : NamesNobody fair_word
unfolding fair_word
fair_word-up k s = rw (is_fair-up k s) refl
