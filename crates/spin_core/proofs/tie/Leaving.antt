-- A party with nothing in the plain lock may leave. Those behind it move up by one place, and nothing else changes.
use Rattle.std.proofs.Common.{◌≡◌, ℕ, suc, pred, cond, nat_lt, ◌+◌, ◌-◌, ◌==◌, not, ◌&&◌, List, [], ◌∷◌, ◌++◌, map, length, filter, Some, refl, sym, ap, ◌∙◌, arith}
use Rattle.std.proofs.lemmas.List.{length-map}
use Rattle.std.proofs.lemmas.List.Folds.{fold-map}
use Rattle.spin_step.specs.Plain.{Plain, Kind, Holder, Ticket, flag_word, fair_word, serving_word}
use Rattle.spin_step.specs.Parties.{Entries, entries, no_entries, none_entered}
use Rattle.spin_step.specs.Tickets.{numbered_from}
use Rattle.spin_step.proofs.Exclusive.{exclusive-like}
use Rattle.spin_step.proofs.Sums.{sum_kinds}
use Rattle.spin_core.specs.Cell.{Use, off, Rests}
use Rattle.spin_core.specs.Views.{Part, entries_of_part, KnowsServed, part_at, IsLockOf, Encodes, no_word, up, holder_up, ticket_up, moved_up, NamesNobody}
use Rattle.spin_core.proofs.tie.Runs.{get_seam}
use Rattle.spin_core.proofs.tie.Views.{part-there}
use Rattle.spin_step.specs.Orders.{IsInOrder}

-- the place that a party had which now has this one
abbrev back : ℕ → ℕ → ℕ
back k q = cond (nat_lt q k) q (suc q)

up-back : (k q : ℕ) → up k (back k q) ≡ q
up-back k q = grind arith

same_place : (k p q : ℕ) → (p ≡ k → ⊥) → (up k p == q) ≡ (p == back k q)
same_place k p q ne = grind arith

module _ {X : Type 0} (owner : X → ℕ) (rename : X → X) (k q : ℕ) (same : (x : X) → owner (rename x) ≡ up k (owner x)) where
  abbrev of : ℕ → List X → List X
  of p xs = filter (λ x. owner x == p) xs

  -- if party k has none of these entries, the renamed entries of q are those of the party that moved to q
  renames : (xs : List X) → of k xs ≡ [] → of q (map rename xs) ≡ map rename (of (back k q) xs)
  renames [] none = refl
  renames (x ∷ xs) none = grind (arith, same x, same_place k (owner x) q, renames xs)

abbrev entries_up : ℕ → Entries → Entries
entries_up k e = record { holders = map (holder_up k) e.holders; tickets = map (ticket_up k) e.tickets; starvers = map (up k) e.starvers }

entries-up : (k q : ℕ) (s : Plain) → entries k s ≡ no_entries → entries q (moved_up k s) ≡ entries_up k (entries (back k q) s)
entries-up k q s none =
    let hs = renames (λ h. h.party) (holder_up k) k q (λ h. refl) s.holders (ap (λ e. e.holders) none) in
    let ts = renames (λ t. t.party) (ticket_up k) k q (λ t. refl) s.tickets (ap (λ e. e.tickets) none) in
    let qs = renames (λ p. p) (up k) k q (λ p. refl) s.starvers (ap (λ e. e.starvers) none) in rw (hs, ts, qs)

part-up : (k p : ℕ) (x : Part) → entries_up k (entries_of_part p x) ≡ entries_of_part (up k p) x
part-up k p x = grind arith

-- Moving up changes only the names.

pub sum-up : (k : ℕ) (f : Kind → ℕ) (hs : List Holder) → sum_kinds f (map (holder_up k) hs) ≡ sum_kinds f hs
sum-up k f hs = fold-map (λ s h. s + f h.kind) (holder_up k) 0 hs

none_entered-up : (k : ℕ) (ts : List Ticket) → none_entered (map (ticket_up k) ts) ≡ none_entered ts
none_entered-up k [] = refl
none_entered-up k (t ∷ ts) = ap (λ b. not t.entered && b) (none_entered-up k ts)

numbered-up : (k n : ℕ) (ts : List Ticket) → numbered_from n ts → numbered_from n (map (ticket_up k) ts)
numbered-up k n [] numbers = tt
numbered-up k n (t ∷ ts) numbers = (numbers.0, numbered-up k (suc n) ts numbers.1)

pub flag_word-up : NamesNobody flag_word
flag_word-up k s = length-map s.holders (holder_up k)

pub fair_word-up : NamesNobody fair_word
fair_word-up k s = omega (arith, length-map s.holders (holder_up k), length-map s.starvers (up k))

pub serving_word-up : NamesNobody serving_word
serving_word-up k s = ap (λ n. s.next - n) (length-map s.tickets (ticket_up k))

pub no_word-up : NamesNobody no_word
no_word-up k s = refl

in_order-up : (k : ℕ) (s : Plain) → IsInOrder s → IsInOrder (moved_up k s)
in_order-up k s order = record {
  exclusive = exclusive-like s (moved_up k s) (λ f. sum-up k f s.holders)
      (grind (arith, none_entered-up, order.exclusive.one_entered)) order.exclusive;
  numbered = (omega (arith, length-map s.tickets (ticket_up k), order.numbered.0), λ none. rw (serving_word-up k s) (numbered-up k (serving_word s) s.tickets (order.numbered.1 none)));
  within_limit = order.within_limit;
  holders_fit = omega (arith, length-map s.holders (holder_up k), order.holders_fit);
  starvers_fit = omega (arith, length-map s.starvers (up k), order.starvers_fit);
}

knows-up : (k : ℕ) (s : Plain) (x : Part) → KnowsServed s x → KnowsServed (moved_up k s) x
knows-up k s x known = grind (arith, serving_word-up k s)

module _ {V : Type 0} (part : V → Part) (v : V) where
  others_at : (before behind : List V) (q : ℕ) → part_at part (before ++ v ∷ behind) (back (length before) q) ≡ part_at part (before ++ behind) q
  others_at [] behind q = grind arith
  others_at (x ∷ xs) behind q = grind (arith, others_at xs behind (pred q))

  module _ {S : Type 0} (uses : V → Use) (cap : ℕ) (first : Plain → ℕ) (second : Plain → S) (same_first : NamesNobody first) (same_second : NamesNobody second) where
    -- a party that has nothing, and does not use the value, may leave
    pub leaves : uses v ≡ off → ((p : ℕ) → entries_of_part p (part v) ≡ no_entries) → Rests (Encodes part cap first second) uses (Some v)
    leaves unused nothing = (
      unused,
      λ n m before behind (s, room, order, is, n_is, m_is).
          let k : ℕ = length before in let here = part-there part k v (before ++ v ∷ behind) (get_seam before v behind) in
          let none : entries k s ≡ no_entries = rw ((is k).0, here) (nothing k) in
          let lock : IsLockOf part (before ++ behind) (moved_up k s) = λ q. let p : ℕ = back k q in let x = part_at part (before ++ v ∷ behind) p in
          rw (← others_at before behind q) (cc (entries-up k q s none, (is p).0, part-up k p x, up-back k q), knows-up k s x (is p).1) in
          (moved_up k s, room, in_order-up k s order, lock, n_is ∙ sym (same_first k s), m_is ∙ sym (same_second k s)),
    )
