-- A lock whose parties have nothing, or read.
use Rattle.std.proofs.Common.{◌≡◌, ℕ, ◌≤◌, ◌==◌, cond, List, length, filter, refl, sym, ap, ◌∙◌, arith}
use Rattle.spin_step.specs.Plain.{Plain, reading, count_kind, same_kind}
use Rattle.spin_step.specs.Orders.{IsInOrder}
use Rattle.spin_core.specs.Cell.{Limits, lends, most_readers, reading as reads_of, writing as writes_of, readers_of, writers_of}
use Rattle.spin_core.specs.Views.{Part, entries_of_part, IsLockOf, use_of_part, used_by}
use Rattle.spin_core.proofs.cell.Counts.{none}
use Rattle.spin_core.proofs.tie.Owners.{ones, exactly}

-- a party with this part reads if it holds, holds only to read, and never writes
abbrev pub OnlyReads : Part → Type 0
OnlyReads x = (p : ℕ) → (reads_of (use_of_part x) ≡ length (entries_of_part p x).holders) × (reads_of (use_of_part x) ≡ count_kind reading (entries_of_part p x).holders) × (writes_of (use_of_part x) ≡ 0)

module _ {V : Type 0} (part : V → Part) (kind : (v : V) → OnlyReads (part v)) where
  module _ (vs : List V) (s : Plain) (is : IsLockOf part vs s) where
    pub as_many_hold : readers_of (used_by part) vs ≡ length s.holders
    as_many_hold =
        exactly (λ h. h.party) (λ h. 1) part (λ v. reads_of (used_by part v)) (λ p x. length (entries_of_part p x).holders) (λ p v. (kind v p).0) vs s.holders
        (λ p. ones (filter (λ h. h.party == p) s.holders) ∙ ap (λ e. length e.holders) (is p).0) (λ p. refl)
        ∙ ones s.holders

    -- all holders read
    pub all_read : count_kind reading s.holders ≡ length s.holders
    all_read =
        sym (exactly (λ h. h.party) (λ h. cond (same_kind reading h.kind) 1 0) part (λ v. reads_of (used_by part v)) (λ p x. count_kind reading (entries_of_part p x).holders) (λ p v. (kind v p).1) vs s.holders
        (λ p. ap (λ e. count_kind reading e.holders) (is p).0) (λ p. refl))
        ∙ as_many_hold

  -- the readers are no more than may read at once
  pub readers_fit : (cap : ℕ) → cap ≤ most_readers → (vs : List V) (s : Plain) → s.cap ≡ cap → IsInOrder s → IsLockOf part vs s → Limits {X = Unit {0}} lends (readers_of (used_by part) vs) (writers_of (used_by part) vs)
  readers_fit cap few vs s room order is = omega (arith, none (λ v. writes_of (used_by part v)) (λ v. (kind v 0).2) vs, as_many_hold vs s is, order.holders_fit, room, few)
