-- The parts and the amount of a share, and additions that may not fit.
use Rattle.std.specs.Prelude.{◌≡◌, ℕ, ◌+◌, ◌*◌, ◌^◌, ◌<◌, ◌≤◌, Bool, MatchBool, max}
use Rattle.core.specs.declared.ledger.Share.{Share}

module _ {L : Type 0} where
  abbrev pub parts_of : Share L → ℕ
  parts_of share = share.parts

  abbrev pub amount_of : Share L → ℕ
  amount_of share = share.amount

  abbrev pub HasShare : Share L → ℕ → ℕ → Type 0
  HasShare share parts amount = (share.parts ≡ parts) × (share.amount ≡ amount)

  -- the leader of a group of n has a part from each, with what each brought; another party has nothing
  abbrev pub TakesAll : Bool → (n each : ℕ) → Share L → Type 0
  TakesAll leads n each share = MatchBool leads (HasShare share (max n 1) (max n 1 * each)) (HasShare share 0 0)

  -- the sum fits, and else it does not if the share has all of these parts
  abbrev pub FitsWhole : Bool → ℕ → Share L → ℕ → Type 0
  FitsWhole fits parts share more = MatchBool fits (share.amount + more < 2 ^ 64) (share.parts ≡ parts → 2 ^ 64 ≤ share.amount + more)

-- whether the sum of two numbers fits
abbrev pub FitsWord : Bool → ℕ → ℕ → Type 0
FitsWord fits n more = MatchBool fits (n + more < 2 ^ 64) ((n < 2 ^ 64) × (2 ^ 64 ≤ n + more))

-- the number has grown, or is the same
abbrev pub GrewIf : Bool → (more old new : ℕ) → Type 0
GrewIf grew more old new = MatchBool grew (new ≡ old + more) (new ≡ old)
