-- What a transfer does to the balances, and what a journal of transfers does.
use Rattle.std.specs.Prelude.{◌≡◌, ℕ, ◌+◌, ◌-◌, ◌&&◌, ◌==◌, sum_by, Bool, true, false, if◌then◌else◌, List, [], ◌∷◌, Option, Some, None, length, nat_lt, nat_le, slice_index, slice_set}
use Rattle.spin_examples.specs.declared.ledger.Transfer.{Transfer}
use Rattle.spin_examples.specs.declared.ledger.Refused.{Refused}
use Rattle.spin_examples.specs.declared.ledger.Refused.TheVariants.{NoSuchAccount, TooLittle, OutOfMemory}

-- both accounts exist
abbrev pub has_accounts : Transfer → List ℕ → Bool
has_accounts t xs = nat_lt t.from (length xs) && nat_lt t.to (length xs)

-- the account that pays has the amount
abbrev pub has_enough : Transfer → List ℕ → Bool
has_enough t xs = nat_le t.amount (slice_index xs t.from)

abbrev pub can_make : Transfer → List ℕ → Bool
can_make t xs = has_accounts t xs && has_enough t xs

abbrev pub takes : ℕ → ℕ → List ℕ → List ℕ
takes account amount xs = slice_set xs account (slice_index xs account - amount)

abbrev pub gives : ℕ → ℕ → List ℕ → List ℕ
gives account amount xs = slice_set xs account (slice_index xs account + amount)

-- the balances after a transfer: the paying account loses the amount, then the paid one gains it
abbrev pub after : Transfer → List ℕ → List ℕ
after t xs = gives t.to t.amount (takes t.from t.amount xs)

-- the balances after all transfers of a journal, or none if some transfer could not be made in its turn
abbrev pub replayed : List ℕ → List Transfer → Option (List ℕ)
replayed xs [] = Some xs
replayed xs (t ∷ ts) = if can_make t xs then replayed (after t xs) ts else None

-- how much a journal's transfers take from an account
abbrev pub paid_out : ℕ → List Transfer → ℕ
paid_out account ts = sum_by (λ t. if t.from == account then t.amount else 0) ts

-- how much a journal's transfers bring to an account
abbrev pub paid_in : ℕ → List Transfer → ℕ
paid_in account ts = sum_by (λ t. if t.to == account then t.amount else 0) ts

-- why a transfer fails
abbrev pub RefusedFor : Refused → Transfer → List ℕ → Type 0
RefusedFor NoSuchAccount t xs = has_accounts t xs ≡ false
RefusedFor TooLittle t xs = (has_accounts t xs ≡ true) × (has_enough t xs ≡ false)
RefusedFor OutOfMemory t xs = can_make t xs ≡ true
