-- What a party finds in a queue of tickets, and what answers follow from this.
use Rattle.spin_world.proofs.TicketNames.{any_passes, ◌≡◌, ℕ, ◌==◌, ◌≤◌, ◌⊎◌, Bool, true, false, not, None, List, ◌∷◌, arith, Plain, ticket_limit, to_take_and_enter, is_empty, is_open_to, serving_word, is_held, HasTicketNumbers, nobody_stands, somebody_stands, plain, mark_of, is_left, []}
use Rattle.spin_step.specs.Calls.{AnyOf, Mark}
use Rattle.spin_step.specs.Asks.{same}
use Rattle.std.specs.List.{list_any}

-- the shape of the lock: a queue, and no other holders
pub record Queue (s : Plain) : Type 0 where
  pub no_holders : s.holders ≡ []
  pub numbered : HasTicketNumbers s
  pub in_range : is_empty s.tickets ≡ false → s.next ≤ ticket_limit

-- some party had a ticket before some step of the span, or k is the number served now
abbrev pub Stays : ℕ → Plain → List Mark → Type 0
Stays k s span = AnyOf (λ m. is_empty m.before.tickets ≡ false) span ⊎ (serving_word s ≡ k)

-- `Stays`, and the served number is not below k
abbrev pub Rises : ℕ → Plain → List Mark → Type 0
Rises k s span = (k ≤ serving_word s) × Stays k s span

-- what a try and a look find

-- the refusal of a try has a moment
pub try_refused : (p n : ℕ) (s : Plain) (span : List Mark) → Stays n s span → (serving_word s ≡ n → s.next ≡ n → is_left s.next ≡ false) → list_any (λ m. not (is_open_to m.before p to_take_and_enter)) (mark_of p None plain s ∷ span) ≡ true
try_refused p n s span stays up = grind (arith, any_passes)

-- the answer of a load of the next number has a moment, if the party found k served before
pub look_right : (b : Bool) (p k : ℕ) (s : Plain) (span : List Mark) → Queue s → Rises k s span → (s.next == k) ≡ b
    → list_any (λ m. same (not b) (is_held m.before)) (mark_of p None plain s ∷ span) ≡ true
look_right b p k s span queue found is = grind (arith, any_passes, same, nobody_stands, somebody_stands)
