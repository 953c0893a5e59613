-- The result of a call that retries. An attempt from a state either answers, or fails and gives the state of the next attempt.
use Rattle.std.specs.Prelude.{◌≡◌, ℕ, zero, suc, Result, Ok, Err}

module _ {S A : Type 0} (attempts : S → Result A S → Type 0) where
  -- n attempts in a row fail, from the state `first`; the next attempt begins in `last`
  abbrev pub FailsTimes : ℕ → S → S → Type 0
  FailsTimes zero first last = first ≡ last
  FailsTimes (suc n) first last = (next : S) × attempts first (Err next) × FailsTimes n next last

  -- from this state on n attempts fail, for some n, and the next attempt gives the answer
  abbrev pub Succeeds : S → A → Type 0
  Succeeds first answer = (n : ℕ) × (last : S) × FailsTimes n first last × attempts last (Ok answer)
