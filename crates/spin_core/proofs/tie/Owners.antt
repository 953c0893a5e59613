-- The parties own at most what the plain lock has. So it is known how many of them may use the value together.
use Rattle.std.proofs.Common.{◌≡◌, ℕ, suc, ◌+◌, ◌≤◌, ◌==◌, true, cond, List, [], ◌∷◌, length, filter, refl, sym, ap, ◌∙◌, arith, zero-add, eq-eqb, nat_lt}
use Rattle.std.specs.Prelude.{sum_by}
use Rattle.std.proofs.lemmas.List.Sums.{sum_by-cons, sum_by-le-sum_by, count_by-le-length}
use Rattle.spin_step.specs.Plain.{Plain, writing as writer, Holder, Ticket, same_kind, count_kind}
use Rattle.spin_step.specs.Parties.{none_entered, first_alone_entered, IsExclusive, OneHolds}
use Rattle.spin_step.specs.Steps.{bit}
use Rattle.spin_core.specs.Cell.{Way, alone, lends, most_readers, reading, writing, Limits, readers_of, writers_of}
use Rattle.spin_core.specs.Views.{Part, idle, entries_of_part, used_by, part_at, IsLockOf}
use Rattle.spin_step.specs.Orders.{IsInOrder}
use Rattle.spin_core.proofs.cell.Counts.{none}
use Rattle.spin_core.proofs.tie.Views.{part-beyond}

module _ {X : Type 0} (owner : X → ℕ) (weight : X → ℕ) where
  abbrev own : ℕ → List X → ℕ
  own p xs = sum_by weight (filter (λ x. owner x == p) xs)

  -- the total weight of what the parties from k on own
  abbrev above : ℕ → List X → ℕ
  above k [] = 0
  above k (x ∷ xs) = cond (nat_lt (owner x) k) 0 (weight x) + above k xs

  own-cons : (p : ℕ) (x : X) (xs : List X) → own p (x ∷ xs) ≡ cond (owner x == p) (weight x) 0 + own p xs
  own-cons p x xs = grind (arith, sum_by-cons weight x (filter (λ x. owner x == p) xs))

  one_more : (k : ℕ) (xs : List X) → above k xs ≡ own k xs + above (suc k) xs
  one_more k [] = refl
  one_more k (x ∷ xs) = grind (arith, own-cons k x xs, one_more k xs)

  above-all : (xs : List X) → above 0 xs ≡ sum_by weight xs
  above-all [] = refl
  above-all (x ∷ xs) = grind (arith, above-all xs, sum_by-cons weight x xs)

  above-none : (k : ℕ) (xs : List X) → ((p : ℕ) → k ≤ p → own p xs ≡ 0) → above k xs ≡ 0
  above-none k [] none = refl
  above-none k (x ∷ xs) none =
      let rest = above-none k xs (λ p far. omega (arith, own-cons p x xs, none p far)) in
      grind (arith, rest, own-cons (owner x) x xs, none (owner x), eq-eqb (owner x) (owner x) refl)

  module _ {V : Type 0} (part : V → Part) (has : V → ℕ) (gives : ℕ → Part → ℕ) (same : (p : ℕ) (v : V) → has v ≡ gives p (part v)) where
    counted : (k : ℕ) (vs : List V) (xs : List X) → ((p i : ℕ) → p ≡ k + i → own p xs ≡ gives p (part_at part vs i))
        → (j : ℕ) → j ≡ k + length vs → sum_by has vs + above j xs ≡ above k xs
    counted k [] xs owns j end = let e : j ≡ k = omega arith in rw e (omega arith)
    counted k (v ∷ vs) xs owns j end =
        let rest = counted (suc k) vs xs (λ p i e. owns p (suc i) (omega arith)) j (omega arith) in
        omega (arith, one_more k xs, owns k 0 (omega arith), same k v, sum_by-cons has v vs)

    all : (vs : List V) (xs : List X) → ((p : ℕ) → own p xs ≡ gives p (part_at part vs p)) → sum_by has vs + above (length vs) xs ≡ sum_by weight xs
    all vs xs owns =
        counted 0 vs xs (λ p i e. rw (← zero-add i, ← e) (owns p)) (length vs) (omega arith) ∙ above-all xs

    -- the parties in the list own at most the total weight
    pub within : (vs : List V) (xs : List X) → ((p : ℕ) → own p xs ≡ gives p (part_at part vs p)) → sum_by has vs ≤ sum_by weight xs
    within vs xs owns = omega (arith, all vs xs owns)

    -- if a party with nothing gives nothing, the parties in the list own the total weight
    pub exactly : (vs : List V) (xs : List X) → ((p : ℕ) → own p xs ≡ gives p (part_at part vs p))
        → ((p : ℕ) → gives p idle ≡ 0) → sum_by has vs ≡ sum_by weight xs
    exactly vs xs owns none =
        let nobody = λ (p : ℕ) (far : length vs ≤ p). owns p ∙ ap (gives p) (part-beyond part p vs far) ∙ none p in
        omega (arith, all vs xs owns, above-none (length vs) xs nobody)

-- Which parties may use the value together.

abbrev is_entered : Ticket → ℕ
is_entered t = bit t.entered

none_entered-sum : (ts : List Ticket) → none_entered ts ≡ true → sum_by is_entered ts ≡ 0
none_entered-sum [] e = refl
none_entered-sum (t ∷ ts) e = grind (arith, sum_by-cons is_entered t ts, none_entered-sum ts)

one_entered : (ts : List Ticket) → first_alone_entered ts ≡ true → sum_by is_entered ts ≤ 1
one_entered ts e = grind (arith, sum_by-cons is_entered, none_entered-sum)

one_writer : (s : Plain) → IsExclusive s → count_kind writer s.holders ≤ 1
one_writer s x = grind (arith, x.writer, count_by-le-length (λ (h : Holder). same_kind writer h.kind) s.holders)

-- 1 for a holder that writes, else 0
abbrev one_writes : Holder → ℕ
one_writes h = cond (same_kind writer h.kind) 1 0

pub ones : {X : Type 0} (xs : List X) → sum_by (λ x. 1) xs ≡ length xs
ones [] = refl
ones (x ∷ xs) = omega (arith, sum_by-cons (λ x. 1) x xs, ones xs)

module _ {V : Type 0} (part : V → Part) where
  abbrev read : V → ℕ
  read v = reading (used_by part v)

  abbrev written : V → ℕ
  written v = writing (used_by part v)

  abbrev IsWriters : V → Type 0
  IsWriters v = (p : ℕ) → written v ≡ count_kind writer (entries_of_part p (part v)).holders

  -- nobody reads, and each writer is a holder
  abbrev pub OfHolders : V → Type 0
  OfHolders v = (read v ≡ 0) × IsWriters v

  -- nobody reads, and each writer has a ticket with which it entered
  abbrev pub OfTickets : V → Type 0
  OfTickets v = (read v ≡ 0) × ((p : ℕ) → written v ≡ sum_by is_entered (entries_of_part p (part v)).tickets)

  -- every holder uses the value, and writes it exactly if it is a writer; nobody else uses the value
  abbrev pub OfReaders : V → Type 0
  OfReaders v = ((p : ℕ) → read v + written v ≡ length (entries_of_part p (part v)).holders) × IsWriters v

  -- in each plain lock with this cap, its parties keep these limits
  abbrev Within : Way (Unit {0}) → ℕ → Type 0
  Within way cap = (vs : List V) (s : Plain) → s.cap ≡ cap → IsInOrder s → IsLockOf part vs s
      → Limits way (readers_of (used_by part) vs) (writers_of (used_by part) vs)

  -- if each party that writes is a holder of the kind `writing`, there are at most as many such parties as such holders
  pub writers_hold : ((v : V) → IsWriters v) → (vs : List V) (s : Plain) → IsLockOf part vs s → writers_of (used_by part) vs ≤ count_kind writer s.holders
  writers_hold kind vs s is =
      within (λ h. h.party) one_writes part written (λ p x. count_kind writer (entries_of_part p x).holders)
      (λ p v. kind v p) vs s.holders (λ p. ap (λ e. count_kind writer e.holders) (is p).0)

  pub one_holder : ((v : V) → OfHolders v) → (cap : ℕ) → Within alone cap
  one_holder kind cap vs s room order is = omega (arith, none read (λ v. (kind v).0) vs, one_writer s order.exclusive, writers_hold (λ v. (kind v).1) vs s is)

  entered : ((v : V) → OfTickets v) → (vs : List V) (s : Plain) → IsLockOf part vs s → writers_of (used_by part) vs ≤ sum_by is_entered s.tickets
  entered kind vs s is =
      within (λ t. t.party) is_entered part written (λ p x. sum_by is_entered (entries_of_part p x).tickets) (λ p v. (kind v).1 p) vs s.tickets
      (λ p. ap (λ e. sum_by is_entered e.tickets) (is p).0)

  -- at most as many parties write as there are tickets
  pub writers_queue : ((v : V) → OfTickets v) → (vs : List V) (s : Plain) → IsLockOf part vs s → writers_of (used_by part) vs ≤ length s.tickets
  writers_queue kind vs s is = omega (arith, entered kind vs s is, sum_by-le-sum_by is_entered (λ t. 1) s.tickets (λ t. grind arith), ones s.tickets)

  pub one_ticket : ((v : V) → OfTickets v) → (cap : ℕ) → Within alone cap
  one_ticket kind cap vs s room order is = omega (arith, entered kind vs s is, none read (λ v. (kind v).0) vs, one_entered s.tickets order.exclusive.one_entered)

  both : (vs : List V) → sum_by (λ v. read v + written v) vs ≡ readers_of (used_by part) vs + writers_of (used_by part) vs
  both [] = refl
  both (v ∷ vs) = omega (arith, both vs, sum_by-cons (λ v. read v + written v) v vs, sum_by-cons read v vs, sum_by-cons written v vs)

  -- the value has several readers, at most as many as the cap says, or one writer
  pub readers_or_writer : ((v : V) → OfReaders v) → (cap : ℕ) → 1 ≤ cap → cap ≤ most_readers → Within lends cap
  readers_or_writer kind cap least most vs s room order is =
      let all = within (λ h. h.party) (λ h. 1) part (λ v. read v + written v) (λ p x. length (entries_of_part p x).holders) (λ p v. (kind v).0 p) vs s.holders
      (λ p. ones (filter (λ h. h.party == p) s.holders) ∙ ap (λ e. length e.holders) (is p).0) in
      let some = writers_hold (λ v. (kind v).1) vs s is in
      grind (arith, both vs, ones s.holders, one_writer s order.exclusive, order.exclusive.writer, order.holders_fit)

  -- a party with this part does not hold the lock, or holds it to write
  abbrev pub Writes : Part → Type 0
  Writes x = (p : ℕ) → count_kind writer (entries_of_part p x).holders ≡ length (entries_of_part p x).holders

  as_many : (p : ℕ) (x : Part) → length (entries_of_part 0 x).holders ≡ length (entries_of_part p x).holders
  as_many p x = grind arith

  -- how many of the lock's holders a party is
  abbrev has : V → ℕ
  has v = length (entries_of_part 0 (part v)).holders

  holds_all : (vs : List V) (s : Plain) → IsLockOf part vs s → sum_by has vs ≡ length s.holders
  holds_all vs s is = exactly (λ h. h.party) (λ h. 1) part has (λ p x. length (entries_of_part p x).holders) (λ p v. as_many p (part v)) vs s.holders
      (λ p. ones (filter (λ h. h.party == p) s.holders) ∙ ap (λ e. length e.holders) (is p).0) (λ p. refl) ∙ ones s.holders

  -- if each party that writes holds the lock, at most as many write as hold it
  pub writers_among : ((v : V) → written v ≤ has v) → (vs : List V) (s : Plain) → IsLockOf part vs s → writers_of (used_by part) vs ≤ length s.holders
  writers_among each vs s is = omega (arith, sum_by-le-sum_by written has vs each, holds_all vs s is)

  -- if parties hold the lock only to write, and the lock is in order (`IsInOrder`), it has at most one holder
  pub one_holds : ((v : V) → Writes (part v)) → (vs : List V) (s : Plain) → IsInOrder s → IsLockOf part vs s → OneHolds s
  one_holds each vs s order is =
      let write = exactly (λ h. h.party) one_writes part has (λ p x. count_kind writer (entries_of_part p x).holders)
      (λ p v. as_many p (part v) ∙ sym (each v p)) vs s.holders
      (λ p. ap (λ e. count_kind writer e.holders) (is p).0) (λ p. refl) in
      omega (arith, holds_all vs s is, write, one_writer s order.exclusive)

  -- if each party that uses the value holds the lock, to write, then one party at a time uses it
  pub one_user : ((v : V) → Writes (part v) × (read v ≡ 0) × (written v ≤ has v)) → (cap : ℕ) → Within alone cap
  one_user each cap vs s room order is =
      omega (arith, none read (λ v. (each v).1) vs, writers_among (λ v. (each v).2) vs s is, one_holds (λ v. (each v).0) vs s order is)
