-- A seat is granted within four rounds. Parties that have a seat leave within two rounds, and a waiting party takes two
-- rounds to look and make its exchange.
use Rattle.spin_laws.proofs.Names.{seat_of, Bool, inr, ⊎_elim, cases_eq, ◌≡◌, ℕ, ◌≤◌, ◌⊎◌, ◌==◌, true, false, Option, Some, List, nat_lt, refl, arith, entries, Hold, Calling, Answer, Move, Step, after, Seen, scene_at, ◌-◌, if◌then◌else◌, empty_is, seats, lt-ltb, Done, SeatsMachine, seats_machine, get-set_same, Invariant, Test, grants_any}
use Rattle.spin_seats.specs.declared.calls.SeatsCall.{SeatsCall}
use Rattle.spin_seats.specs.declared.calls.SeatsCall.TheVariants.{Enter}
use Rattle.spin_seats.specs.declared.calls.SeatsPoint.{SeatsPoint}
use Rattle.spin_seats.specs.declared.calls.SeatsPoint.TheVariants.{First, Exchange}
use Rattle.spin_world_seats.proofs.Owed.{seats_facts}
use Rattle.std.specs.Option.{is_some}
use Rattle.spin_seats.specs.Seats.{entered}
use Rattle.spin_laws.specs.Seats.{SeatsSomebodyInFour}
use Rattle.spin_laws.proofs.Flag.{nobody_holds}
use Rattle.spin_laws.proofs.Waiting.{holds_lock}
use Rattle.spin_laws.proofs.Leaving as leaving

-- how many steps the waiting party makes if nobody has a seat: it looks, and makes its exchange
abbrev rank_by : SeatsPoint → ℕ
rank_by (Exchange k) = if k == 0 then 1 else 2
rank_by l = 2

module _ (n : ℕ) (some : 1 ≤ n) where
  abbrev m : SeatsMachine
  m = seats_machine n

  abbrev World : Type 0
  World = Seen ℕ (Unit {0}) SeatsCall SeatsPoint

  abbrev goal : Test (Unit {0}) SeatsCall SeatsPoint (Answer (Unit {0}))
  goal = grants_any m

  room : nat_lt 0 (seats n) ≡ true
  room = lt-ltb 0 (seats n) (omega (arith, some))

  -- the waiting party's point after a look, by whether there is room
  abbrev onward : World → Bool → SeatsPoint
  onward seen b = if b then Exchange seen.state.words else First

  module _ (p : ℕ) (h : Option Hold) where
    abbrev Nobody : World → Type 0
    Nobody seen = (q : ℕ) → holds_lock (entries q seen.plain) ≡ false

    -- the waiting party's own step reaches the goal, or leads to a point of its call; if nobody holds, the rank falls
    own : (seen : World) (l : SeatsPoint) → Invariant (seats_facts n) seen → seat_of seen p ≡ Some (Calling Enter l h) → let x = scene_at m seen p Step (Some (Calling Enter l h)) in
        (goal p Step x.outcome (seat_of x.after p) ≡ true) ⊎ ((i : SeatsPoint) × (seat_of x.after p ≡ Some (Calling Enter i h)) × Unit {0} × (Nobody seen → rank_by i ≤ rank_by l - 1))
    own seen First good there = inr (
      onward seen (is_some (entered n seen.state.words)),
      grind (arith, there, get-set_same, good.encodes),
      tt,
      λ nobody. grind (arith, nobody, nobody_holds, good.encodes, room, cases_eq seen.state.words 0),
    )
    own seen (Exchange k) good there = ⊎_elim
        (λ (same : seen.state.words ≡ k). grind (arith, there, same, get-set_same, nobody_holds, good.encodes, room))
        (λ (ne : seen.state.words ≡ k → ⊥). inr (
          onward seen (is_some (entered n seen.state.words)),
          grind (arith, there, ne, get-set_same, good.encodes),
          tt,
          λ nobody. grind (arith, nobody, ne, nobody_holds, good.encodes, room, cases_eq seen.state.words 0),
        ))
        (cases_eq seen.state.words k)

    leaves : leaving.Leaves (seats_facts n) goal p Enter h (λ l. Unit {0}) holds_lock rank_by 2
    leaves =
        record {
          none = refl;
          not_its = λ l at so. grind (arith, so);
          reads = λ q h is. grind (arith, is);
          own = λ seen l good there at. own seen l good there;
          weak = λ seen l next at may. absurd (grind (arith, may));
          comes = λ seen l q d i j w there none opens. grind (arith, none, empty_is (entries q seen.plain).holders);
          releases = λ q d i j w u so. (Done, grind (arith, so));
          strong = λ q d i j next so may. grind (arith, may);
          few = λ l. grind arith;
          some = λ l. grind arith;
        }

  pub enters_in_four : (parties : ℕ) (past : List (ℕ × Move SeatsCall (Unit {0}))) (rounds : List (List (ℕ × Move SeatsCall (Unit {0})))) → SeatsSomebodyInFour m parties past rounds
  enters_in_four parties past rounds p Enter l h there asks are few = leaving.two_rounds (seats_facts n) goal p Enter h (λ l. Unit {0}) holds_lock rank_by 2 (leaves p h) parties past rounds l there tt are few
  enters_in_four parties past rounds p c l h there asks are few = absurd (grind (arith, asks))
