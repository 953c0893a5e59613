-- The queue of tickets, whose numbers are consecutive.
use Rattle.std.proofs.Common.{◌≡◌, ℕ, zero, suc, sym, ◌∙◌, ◌+◌, ◌-◌, ◌<◌, ◌≤◌, ◌==◌, Bool, true, false, cond, List, [], ◌∷◌, ◌++◌, length, filter, refl, arith, length-append}
use Rattle.std.specs.Prelude.{◌⊎◌, sum_by}
use Rattle.std.proofs.lemmas.List.Sums.{sum_by-cons}
use Rattle.spin_step.specs.Plain.{Plain, Ticket, ticket, is_first, is_near, is_empty, serving_word, Effect, sits, effect, given, Change, gets, to_sit, serves, apply, is_open, with_first_entered, without_first, without_ticket}
use Rattle.spin_step.specs.Parties.{none_entered, first_alone_entered}
use Rattle.spin_step.specs.Tickets.{numbered_from, HasTicketNumbers, KeepsNumbers, gone}

abbrev own : ℕ → List Ticket → List Ticket
own p ts = filter (λ t. t.party == p) ts

-- if the tickets' numbers begin with k, a party's only ticket has a number of at least k
within : (p n k : ℕ) (ts : List Ticket) → numbered_from k ts → own p ts ≡ ticket p n false ∷ [] → k ≤ n
within p n k [] numbers e = absurd (cc (e))
within p n k (t ∷ ts) numbers e = grind (arith, within p n (suc k) ts)

turn : (p n k : ℕ) (ts : List Ticket) → numbered_from k ts → own p ts ≡ ticket p n false ∷ [] → is_first p false ts ≡ (k == n)
turn p n k ts numbers e = grind (arith, within)

-- a party whose ticket has not entered may enter exactly if its number is served
pub enters_in_turn : (s : Plain) (p k n : ℕ) → HasTicketNumbers s → serving_word s ≡ k → own p s.tickets ≡ ticket p n false ∷ [] → is_first p false s.tickets ≡ (k == n)
enters_in_turn s p k n numbers served e = grind (arith, turn)

-- How many tickets have a given number.
abbrev pub one_if : Bool → ℕ
one_if b = cond b 1 0

abbrev pub has_number : ℕ → Ticket → ℕ
has_number n t = one_if (t.number == n)

pub count-lower : (n k : ℕ) (ts : List Ticket) → numbered_from k ts → n < k → sum_by (has_number n) ts ≡ 0
count-lower n k [] numbers less = refl
count-lower n k (t ∷ ts) numbers less = grind (arith, sum_by-cons (has_number n) t ts, count-lower n (suc k) ts)

pub count-upper : (n k : ℕ) (ts : List Ticket) → numbered_from k ts → k + length ts ≤ n → sum_by (has_number n) ts ≡ 0
count-upper n k [] numbers far = refl
count-upper n k (t ∷ ts) numbers far = grind (arith, sum_by-cons (has_number n) t ts, count-upper n (suc k) ts)

pub count-between : (n k : ℕ) (ts : List Ticket) → numbered_from k ts → k ≤ n → n < k + length ts → sum_by (has_number n) ts ≡ 1
count-between n k [] numbers low high = absurd (omega (arith, low, high))
count-between n k (t ∷ ts) numbers low high =
    grind (arith, sum_by-cons (has_number n) t ts, count-lower n (suc k) ts, count-between n (suc k) ts)

-- The plain steps keep the numbers consecutive.

numbered-more : (k : ℕ) (ts : List Ticket) (p n : ℕ) (b : Bool) → numbered_from k ts → n ≡ k + length ts → numbered_from k (ts ++ ticket p n b ∷ [])
numbered-more k [] p n b numbers e = (omega (arith, e), tt)
numbered-more k (t ∷ ts) p n b numbers e = (numbers.0, numbered-more (suc k) ts p n b numbers.1 (omega (arith, e)))

-- taking a ticket does not change the served number
pub serving-taken : (s : Plain) (p : ℕ) (b : Bool) → HasTicketNumbers s → (s.next + 1) - length (s.tickets ++ ticket p s.next b ∷ []) ≡ serving_word s
serving-taken s p b numbered = omega (arith, length-append s.tickets (ticket p s.next b ∷ []), numbered.0)

pub serving-entered : (s : Plain) → s.next - length (with_first_entered s.tickets) ≡ serving_word s
serving-entered s = grind arith

-- when the first ticket leaves, the served number grows by one
pub serving-gone : (n : ℕ) (ts : List Ticket) → length ts ≤ n → is_empty ts ≡ false → n - length (without_first ts) ≡ (n - length ts) + 1
serving-gone n ts within some = grind arith

-- what holds of the numbers after this effect: where one sits they may have gaps
abbrev pub IsNumberedBy : Plain → ℕ → Effect → Type 0
IsNumberedBy s p sits = Unit {0}
IsNumberedBy s p e = HasTicketNumbers (given s p e)

pub numbered-given : (s : Plain) (p : ℕ) (e : Effect) → HasTicketNumbers s → IsNumberedBy s p e
numbered-given s p e numbered =
    grind (arith, length-append, serving-taken s p, numbered-more (serving_word s) s.tickets p s.next)

pub numbered-serves : (s : Plain) (p : ℕ) → HasTicketNumbers s → HasTicketNumbers (apply s (serves p))
numbered-serves s p numbered = grind arith

-- Where a party sits.

pub near-room : (p k : ℕ) (ts : List Ticket) → is_near p k ts ≡ true → 1 ≤ k
near-room p k [] e = absurd (cc (e))
near-room p zero (t ∷ ts) e = absurd (cc (e))
near-room p (suc k) (t ∷ ts) e = omega arith

pub length-without_ticket : (p k : ℕ) (ts : List Ticket) → is_near p k ts ≡ true → suc (length (without_ticket p ts)) ≡ length ts
length-without_ticket p k [] e = absurd (cc (e))
length-without_ticket p zero (t ∷ ts) e = absurd (cc (e))
length-without_ticket p (suc k) (t ∷ ts) e = grind (arith, length-without_ticket p k ts)

pub serving-sat : (n p k : ℕ) (ts : List Ticket) → length ts ≤ n → is_near p k ts ≡ true → n - length (without_ticket p ts) ≡ (n - length ts) + 1
serving-sat n p k ts within near = omega (arith, within, length-without_ticket p k ts near)

pub serving-grown : (n p : ℕ) (b : Bool) (ts : List Ticket) → length ts ≤ n → (n + 1) - length (ts ++ ticket p n b ∷ []) ≡ n - length ts
serving-grown n p b ts within = omega (arith, length-append ts (ticket p n b ∷ []), within)

-- the served number grows by one with each ticket that leaves; no other step changes it
pub serving-steps : (s : Plain) (c : Change) → length s.tickets ≤ s.next → is_open s c ≡ true → serving_word (apply s c) ≡ serving_word s + gone c
serving-steps s c within may = grind (arith, serving-grown s.next, serving-gone, serving-sat s.next)

nobody_sits : (s : Plain) (p : ℕ) → s.cap ≡ 0 → is_open s (gets p to_sit) ≡ true → ⊥
nobody_sits s p none may = let near : is_near p (s.cap - length s.holders) s.tickets ≡ true = grind (arith, may) in omega (arith, none, near-room p (s.cap - length s.holders) s.tickets near)

consecutive : (s : Plain) (c : Change) → s.cap ≡ 0 → HasTicketNumbers s → is_open s c ≡ true → HasTicketNumbers (apply s c)
consecutive s (gets p to_sit) none h may = absurd (nobody_sits s p none may)
consecutive s (gets p ask) none h may = numbered-given s p (effect ask) h
consecutive s (serves p) none h may = numbered-serves s p h
consecutive s c none h may = h

same_cap : (s : Plain) (c : Change) → (apply s c).cap ≡ s.cap
same_cap s c = grind arith

-- every open step keeps the numbers of a queue; where the cap is 0 nobody sits
pub numbers-kept : (s : Plain) (c : Change) → KeepsNumbers s → is_open s c ≡ true → KeepsNumbers (apply s c)
numbers-kept s c keeps may = (grind (arith, length-append, keeps.0, length-without_ticket), λ none. let here : s.cap ≡ 0 = sym (same_cap s c) ∙ none in (consecutive s c here (keeps.0, keeps.1 here) may).1)

pub serving-moves : (s : Plain) (c : Change) → HasTicketNumbers s → is_open s c ≡ true → serving_word (apply s c) ≡ serving_word s + gone c
serving-moves s c numbered may = serving-steps s c numbered.0 may

near-some : (p k : ℕ) (ts : List Ticket) → is_near p k ts ≡ true → is_empty ts ≡ false
near-some p k ts e = grind arith

-- the served number stays the same; or it grows by one, and somebody has a ticket before the step
abbrev pub Advances : Plain → Change → Type 0
Advances s c = (serving_word (apply s c) ≡ serving_word s) ⊎ ((is_empty s.tickets ≡ false) × (serving_word (apply s c) ≡ serving_word s + 1))

pub serving-advances : (s : Plain) (c : Change) → HasTicketNumbers s → is_open s c ≡ true → Advances s c
serving-advances s c numbered may = grind (arith, serving-taken s, serving-gone, serving-sat s.next, near-some)

-- Whether anybody has a ticket.

-- if the next number is served, nobody has a ticket
pub nobody_stands : (n : ℕ) (ts : List Ticket) → length ts ≤ n → n ≤ n - length ts → is_empty ts ≡ true
nobody_stands n ts within all = grind arith

-- if the next number is not served, somebody has a ticket
pub somebody_stands : (n : ℕ) (ts : List Ticket) → (n - length ts ≡ n → ⊥) → is_empty ts ≡ false
somebody_stands n ts other = grind arith

none_own : (p n : ℕ) (ts : List Ticket) → none_entered ts ≡ true → own p ts ≡ ticket p n true ∷ [] → ⊥
none_own p n [] none e = cc (e)
none_own p n (t ∷ ts) none e = grind (arith, none_own p n ts)

entered : (p n k : ℕ) (ts : List Ticket) → numbered_from k ts → first_alone_entered ts ≡ true → own p ts ≡ ticket p n true ∷ [] → (is_first p true ts ≡ true) × (k ≡ n)
entered p n k ts numbers alone same = grind (arith, none_own)

-- a ticket that has entered is the first one, and its number is served
pub entered_is_served : (s : Plain) (p n : ℕ) → HasTicketNumbers s → first_alone_entered s.tickets ≡ true → own p s.tickets ≡ ticket p n true ∷ [] → (is_first p true s.tickets ≡ true) × (serving_word s ≡ n)
entered_is_served s p n numbered alone same = entered p n (serving_word s) s.tickets numbered.1 alone same

-- if a party has a ticket, the queue is not empty
pub stands : (p n : ℕ) (b : Bool) (ts : List Ticket) → own p ts ≡ ticket p n b ∷ [] → is_empty ts ≡ false
stands p n b ts same = grind arith

pub first-length : (p : ℕ) (b : Bool) (ts : List Ticket) → is_first p b ts ≡ true → 1 ≤ length ts
first-length p b ts e = grind arith
