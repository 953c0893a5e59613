-- If a lock keeps out a party, some party has something in the lock, and nothing in this lock keeps that party out.
use Rattle.std.proofs.Common.{◌≡◌, ℕ, ◌⊎◌, ◌==◌, Bool, true, false, not, cond, List, [], ◌∷◌, length, filter, inl, inr, ⊎_elim, refl, arith}
use Rattle.std.specs.List.{list_any}
use Rattle.std.proofs.lemmas.List.Sums.{sum_by-cons}
use Rattle.spin_step.specs.Plain.{Plain, Holder, Ticket, Phase, nothing, running, complete, Ask, may_upgrade, upgraders, is_open_to}
use Rattle.spin_step.specs.Parties.{IsExclusive}
use Rattle.spin_laws.specs.Several.{has_something, HasItsOwn}

-- q has something in the lock, and is not one of those that this lock keeps out
abbrev pub Blocks : Plain → ℕ → Type 0
Blocks s q = (has_something s q ≡ true) × ((b : Ask) → HasItsOwn s q b → is_open_to s q b ≡ false → ⊥)

abbrev of : ℕ → List Holder → List Holder
of q hs = filter (λ h. h.party == q) hs

abbrev cannot_upgrade : Holder → Bool
cannot_upgrade h = not (may_upgrade h.kind)

self : (n : ℕ) → (n == n) ≡ true
self n = grind arith

-- a holder that cannot upgrade, or each holder can
abbrev Firm : List Holder → Type 0
Firm hs = (q : ℕ) × (list_any cannot_upgrade (of q hs) ≡ true)

counted : (h : Holder) (hs : List Holder) → may_upgrade h.kind ≡ true → upgraders hs ≡ length hs → upgraders (h ∷ hs) ≡ length (h ∷ hs)
counted h hs is all = grind (arith, all, is, sum_by-cons (λ (x : Holder). cond (may_upgrade x.kind) 1 0) h hs)

firm_more : (h : Holder) (hs : List Holder) (b : Bool) → may_upgrade h.kind ≡ b → Firm hs ⊎ (upgraders hs ≡ length hs) → Firm (h ∷ hs) ⊎ (upgraders (h ∷ hs) ≡ length (h ∷ hs))
firm_more h hs false is rest = inl (h.party, grind (arith, is, self h.party))
firm_more h hs true is rest =
    ⊎_elim (λ (f : Firm hs). inl (f.0, grind (arith, f.1))) (λ (all : upgraders hs ≡ length hs). inr (counted h hs is all)) rest

firm_or_none : (hs : List Holder) → Firm hs ⊎ (upgraders hs ≡ length hs)
firm_or_none [] = inr refl
firm_or_none (h ∷ hs) = firm_more h hs (may_upgrade h.kind) refl (firm_or_none hs)

-- What the asks of a party say of its entries.
firm_blocks : (s : Plain) (q : ℕ) → list_any cannot_upgrade (of q s.holders) ≡ true → Blocks s q
firm_blocks s q firm = (some, none)
  where
    some : has_something s q ≡ true
    some = grind (arith, firm)

    none : (b : Ask) → HasItsOwn s q b → is_open_to s q b ≡ false → ⊥
    none b own closed = grind (arith, firm)

one_blocks : (s : Plain) (h : Holder) → s.holders ≡ h ∷ [] → Blocks s h.party
one_blocks s h is = (some, none)
  where
    some : has_something s h.party ≡ true
    some = grind (arith, is, self h.party)

    none : (b : Ask) → HasItsOwn s h.party b → is_open_to s h.party b ≡ false → ⊥
    none b own closed = grind (arith, is, self h.party)

ticket_blocks : (s : Plain) (t : Ticket) (ts : List Ticket) → s.holders ≡ [] → s.tickets ≡ t ∷ ts → Blocks s t.party
ticket_blocks s t ts none is = (some, free)
  where
    some : has_something s t.party ≡ true
    some = grind (arith, is, self t.party)

    free : (b : Ask) → HasItsOwn s t.party b → is_open_to s t.party b ≡ false → ⊥
    free b own closed = grind (arith, none, is, self t.party)

starver_blocks : (s : Plain) (q : ℕ) (qs : List ℕ) → s.holders ≡ [] → s.tickets ≡ [] → s.starvers ≡ q ∷ qs → Blocks s q
starver_blocks s q qs none empty is = (some, free)
  where
    some : has_something s q ≡ true
    some = grind (arith, is, self q)

    free : (b : Ask) → HasItsOwn s q b → is_open_to s q b ≡ false → ⊥
    free b own closed = grind (arith, none, empty, is, self q)

runner_blocks : (s : Plain) (q : ℕ) → s.holders ≡ [] → s.tickets ≡ [] → s.starvers ≡ [] → s.phase ≡ running q → Blocks s q
runner_blocks s q none empty idle is = (some, free)
  where
    some : has_something s q ≡ true
    some = grind (arith, is, self q)

    free : (b : Ask) → HasItsOwn s q b → is_open_to s q b ≡ false → ⊥
    free b own closed = grind (arith, none, empty, idle, is, self q)

abbrev IsFree : Plain → Type 0
IsFree s = (s.holders ≡ []) × (s.tickets ≡ []) × (s.starvers ≡ []) × ((q : ℕ) → s.phase ≡ running q → ⊥)

abbrev Somebody : Plain → Type 0
Somebody s = (q : ℕ) × Blocks s q

blocker : (s : Plain) → IsExclusive s → Somebody s ⊎ IsFree s
blocker s x = by_holders s.holders refl
  where
    by_phase : s.holders ≡ [] → s.tickets ≡ [] → s.starvers ≡ [] → (phase : Phase) → s.phase ≡ phase → Somebody s ⊎ IsFree s
    by_phase none empty idle (running q) is = inl (q, runner_blocks s q none empty idle is)
    by_phase none empty idle nothing is = inr (none, empty, idle, λ q e. absurd (grind (arith, is, e)))
    by_phase none empty idle complete is = inr (none, empty, idle, λ q e. absurd (grind (arith, is, e)))

    by_starvers : s.holders ≡ [] → s.tickets ≡ [] → (qs : List ℕ) → s.starvers ≡ qs → Somebody s ⊎ IsFree s
    by_starvers none empty (q ∷ qs) is = inl (q, starver_blocks s q qs none empty is)
    by_starvers none empty [] is = by_phase none empty is s.phase refl

    by_tickets : s.holders ≡ [] → (ts : List Ticket) → s.tickets ≡ ts → Somebody s ⊎ IsFree s
    by_tickets none (t ∷ ts) is = inl (t.party, ticket_blocks s t ts none is)
    by_tickets none [] is = by_starvers none is s.starvers refl

    alone : (h : Holder) (hs : List Holder) → s.holders ≡ h ∷ hs → upgraders s.holders ≡ length s.holders → (rest : List Holder) → hs ≡ rest → Somebody s
    alone h hs is all [] none = (h.party, one_blocks s h (grind (arith, is, none)))
    alone h hs is all (i ∷ rest) more = absurd (grind (arith, x.one_upgradable, is, all, more))

    by_holders : (hs : List Holder) → s.holders ≡ hs → Somebody s ⊎ IsFree s
    by_holders [] is = by_tickets is s.tickets refl
    by_holders (h ∷ hs) is =
        ⊎_elim (λ (f : Firm s.holders). inl (f.0, firm_blocks s f.0 f.1)) (λ (all : upgraders s.holders ≡ length s.holders). inl (alone h hs is all hs refl)) (firm_or_none s.holders)

-- a free lock keeps nobody out
free_opens : (s : Plain) → IsFree s → (p : ℕ) (a : Ask) → HasItsOwn s p a → is_open_to s p a ≡ true
free_opens s free p a own = grind (arith, free.0, free.1, free.2)

pub somebody_blocks : (s : Plain) → IsExclusive s → (p : ℕ) (a : Ask) → HasItsOwn s p a → is_open_to s p a ≡ false → Somebody s
somebody_blocks s x p a own closed =
    ⊎_elim (λ (q : Somebody s). q) (λ (free : IsFree s). absurd (grind (arith, closed, free_opens s free p a own))) (blocker s x)
