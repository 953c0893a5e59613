-- Open steps keep a lock exclusive: a writer gets no second holder beside it, and there is no second upgrader and no second entered ticket.
use Rattle.std.proofs.Common.{◌≡◌, ℕ, ◌-◌, ◌<◌, ◌⊎◌, inl, inr, true, false, Option, List, [], ◌∷◌, ◌++◌, length, refl, arith, length-append}
use Rattle.spin_step.specs.Plain.{Plain, Kind, reading, writing, Holder, Ticket, Ask, Effect, comes, becomes, queues, enters, sits, starves, runs, effect, given, Change, gets, releases, turns, apply, is_open, is_open_to, is_holder, is_only, is_first, is_near, is_empty, is_nothing, may_turn, may_come, count_against, holder, ticket, ticket_limit, without_holder, with_kind, without_ticket}
use Rattle.spin_step.specs.Parties.{apply_some, IsOpenStep, IsExclusive, none_entered, first_alone_entered}
use Rattle.spin_step.proofs.Holders.{length-without_holder}
use Rattle.spin_step.proofs.Sums.{sum_kinds, upgrader, against, one_of, by_kinds, all_kinds, length_by, sum-more, sum-less, sum-turned, length-with_kind}

pub empty_is : {X : Type 0} (xs : List X) → is_empty xs ≡ true → xs ≡ []
empty_is [] e = refl
empty_is (x ∷ xs) e = absurd cc

-- What follows if a step is open.

-- what must hold of the lists before a party gets what it asks
abbrev pub Lets : Plain → ℕ → Effect → Type 0
Lets s p (comes k) = (is_empty s.holders ≡ true) ⊎ (may_come k s ≡ true)
Lets s p (becomes j k) = is_only p j s.holders ≡ true
Lets s p (queues entered) = (s.next < ticket_limit) × (entered ≡ true → is_empty s.tickets ≡ true)
Lets s p enters = is_first p false s.tickets ≡ true
Lets s p sits = (count_against reading s.holders ≡ 0) × (is_near p (s.cap - length s.holders) s.tickets ≡ true)
Lets s p starves = length s.starvers < s.cap
Lets s p runs = is_nothing s.phase ≡ true

pub lets : (s : Plain) (p : ℕ) (ask : Ask) → is_open_to s p ask ≡ true → Lets s p (effect ask)
lets s p ask may = grind arith

-- if the lock has room for another holder of this kind, all holders admit it and the cap is not reached
pub room_to_come : (k : Kind) (s : Plain) → may_come k s ≡ true → (count_against k s.holders ≡ 0) × (length s.holders < s.cap)
room_to_come k s may = grind arith

-- Let a lock t have as many holders of each kind as an exclusive lock s. Then t is exclusive too, if no ticket of t but
-- the first has entered.
pub exclusive-like : (s t : Plain) → ((f : Kind → ℕ) → sum_kinds f t.holders ≡ sum_kinds f s.holders) → first_alone_entered t.tickets ≡ true
    → IsExclusive s → IsExclusive t
exclusive-like s t same e x = grind (arith, x, same (λ k. 1), same (one_of writing), same upgrader, length_by)

-- a lock without holders and tickets is exclusive
pub exclusive-free : (s : Plain) → s.holders ≡ [] → s.tickets ≡ [] → IsExclusive s
exclusive-free s none empty = grind arith

-- an exclusive lock stays exclusive if one holder takes the place of its holders
alone : (s : Plain) (hs : List Holder) → IsExclusive s → length hs ≡ 1 → IsExclusive (record s { holders = hs })
alone s hs x one = record { writer = λ some. one; one_upgradable = omega (arith, by_kinds upgrader hs, all_kinds hs, one); one_entered = x.one_entered }

-- a lock stays exclusive if a party comes that every holder admits
come : (s : Plain) (k : Kind) (p : ℕ) → IsExclusive s → count_against k s.holders ≡ 0 → IsExclusive (record s { holders = s.holders ++ holder p k ∷ [] })
come s k p x none =
    let hs = s.holders in let others = by_kinds (against k) hs in let more = λ (f : Kind → ℕ). sum-more f hs p k in
    grind (arith, x, others, all_kinds hs, by_kinds upgrader hs, more (one_of writing), more upgrader, length-append)

released : (s : Plain) (p : ℕ) (k : Kind) → IsExclusive s → is_holder p k s.holders ≡ true → IsExclusive (apply s (releases p k))
released s p k x found =
    let hs = s.holders in let fewer = λ (f : Kind → ℕ). sum-less f p k hs found in
    grind (arith, x, fewer (one_of writing), fewer upgrader, length-without_holder, all_kinds (without_holder p k hs))

turned : (s : Plain) (p : ℕ) (j k : Kind) → IsExclusive s → is_holder p j s.holders ≡ true → may_turn j k ≡ true → IsExclusive (apply s (turns p j k))
turned s p j k x found may =
    let hs = s.holders in let writes = sum-less (one_of writing) p j hs found in
    let after = λ (f : Kind → ℕ). sum-turned f p j k hs found in let all = all_kinds hs in
    grind (arith, x, after (one_of writing), after upgrader, writes, length-with_kind, by_kinds upgrader hs, all)

none_entered-more : (ts : List Ticket) (p n : ℕ) → none_entered ts ≡ true → none_entered (ts ++ ticket p n false ∷ []) ≡ true
none_entered-more [] p n e = refl
none_entered-more (t ∷ ts) p n e = grind (arith, none_entered-more ts p n)

none_entered-less : (p : ℕ) (ts : List Ticket) → none_entered ts ≡ true → none_entered (without_ticket p ts) ≡ true
none_entered-less p [] e = refl
none_entered-less p (t ∷ ts) e = grind (arith, none_entered-less p ts)

none-alone : (ts : List Ticket) → none_entered ts ≡ true → first_alone_entered ts ≡ true
none-alone [] e = refl
none-alone (t ∷ ts) e = grind arith

alone-less : (p : ℕ) (ts : List Ticket) → first_alone_entered ts ≡ true → first_alone_entered (without_ticket p ts) ≡ true
alone-less p [] e = refl
alone-less p (t ∷ ts) e = grind (arith, none_entered-less p ts, none-alone ts)

-- after an open step too, only the first ticket may have entered
tickets-kept : (s : Plain) (c : Change) → IsExclusive s → is_open s c ≡ true
    → first_alone_entered (apply s c).tickets ≡ true
tickets-kept s c x may = grind (arith, x.one_entered, none_entered-more, alone-less)

exclusive-given : (s : Plain) (p : ℕ) (e : Effect) → IsExclusive s → Lets s p e
    → first_alone_entered (given s p e).tickets ≡ true → IsExclusive (given s p e)
exclusive-given s p (comes k) x (inl none) one = alone s (s.holders ++ holder p k ∷ []) x (grind (arith, length-append))
exclusive-given s p (comes k) x (inr may) one = come s k p x (room_to_come k s may).0
exclusive-given s p (becomes j k) x only one = alone s (with_kind p j k s.holders) x (grind (arith, length-with_kind))
exclusive-given s p sits x near one = exclusive-like (record s { holders = s.holders ++ holder p reading ∷ [] }) (given s p sits) (λ f. refl) one (come s reading p x near.0)
exclusive-given s p e x let_in one = exclusive-like s (given s p e) (λ f. refl) one x

exclusive-applied : (s : Plain) (c : Change) → IsExclusive s → is_open s c ≡ true → IsExclusive (apply s c)
exclusive-applied s (gets p ask) x may =
    exclusive-given s p (effect ask) x (lets s p ask may) (tickets-kept s (gets p ask) x may)
exclusive-applied s (releases p k) x may = released s p k x may
exclusive-applied s (turns p j k) x may = grind (arith, turned s p j k x)
exclusive-applied s c x may = exclusive-like s (apply s c) (λ f. refl) (tickets-kept s c x may) x

-- an open step, or none, keeps the lock exclusive
pub exclusive-kept : (s : Plain) (p : ℕ) (step : Option Change) → IsExclusive s → IsOpenStep s p step → IsExclusive (apply_some s step)
exclusive-kept s p step x may = grind (arith, exclusive-applied s)

-- a party that writes is the only holder
pub writes_alone : (s : Plain) (p : ℕ) → IsExclusive s → is_holder p writing s.holders ≡ true → length s.holders ≡ 1
writes_alone s p x found = x.writer (omega (arith, sum-less (one_of writing) p writing s.holders found))
