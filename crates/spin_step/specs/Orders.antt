-- What holds of every plain lock: it holds at first, and open steps keep it.
use Rattle.std.specs.Prelude.{◌≤◌, length, max}
use Rattle.spin_step.specs.Plain.{Plain, ticket_limit}
use Rattle.spin_step.specs.Parties.{IsExclusive}
use Rattle.spin_step.specs.Tickets.{KeepsNumbers}

pub record IsInOrder (s : Plain) : Type 0 where
  pub exclusive : IsExclusive s
  pub numbered : KeepsNumbers s
  pub within_limit : s.next ≤ ticket_limit
  pub holders_fit : length s.holders ≤ max 1 s.cap
  pub starvers_fit : length s.starvers ≤ s.cap
