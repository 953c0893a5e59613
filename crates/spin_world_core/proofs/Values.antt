-- Every event keeps what is promised of values that closures make.
use Rattle.spin_world_core.specs.Runs.{Schedule}
use Rattle.spin_world_core.proofs.Names.{seat_of, arith, ◌≡◌, ℕ, Option, Some, refl, ◌∙◌, Change, completes, Hold, Seat, Calling, Next, Answers, Move, Step, Weak, Machine, State, goes_on, refuses, placed, Seen, scene_at, scene, opening, Brings, GivesAt, KeepsValue, ValuesAll, Table}
use Rattle.spin_world_core.proofs.Steps.{played, NextGives, Plays}
use Rattle.spin_step.specs.Schedules.{stepped}
use Rattle.spin_step.specs.declared.stepped.Stepped.{Stepped}
use Rattle.spin_world_core.proofs.Paid.{at_step}
use Rattle.spin_world_core.proofs.Shapes.{Notes}
use Rattle.spin_world_core.proofs.Preserved.{Invariant, in_call}
use Rattle.spin_world_core.proofs.Every.{kept, every, good_first}

-- whether a call continues or is answered, the value is as its step left it
step_value : {W V C L A : Type 0} (m : Machine W V C L A) (s : State W V C L) (p : ℕ) (c : C) (l : L) (h : Option Hold) (st : Stepped W V L A) (step : Option Change)
    → ((q : ℕ) → step ≡ Some (completes q) → placed st.placed s.value ≡ m.brings c) → NextGives m (placed st.placed s.value) st.next
    → let is = stepped s p c h st in Brings m step (Some (Calling c l h)) is.next.value × GivesAt m Step is.outcome is.next.value
step_value m s p c l h st step brings gives = grind (arith, brings)

weak_gives : {W V C L A : Type 0} (m : Machine W V C L A) (s : State W V C L) (p : ℕ) (c : C) (h : Option Hold) (o : Option (Next L A))
    → ((next : Next L A) → o ≡ Some next → NextGives m s.value next) → let is = refuses s p c h o in GivesAt m Weak is.outcome is.next.value
weak_gives m s p c h (Some (Answers a after)) gives = gives (Answers a after) refl
weak_gives m s p c h _ gives = tt

module _ {W V C L A B : Type 0} {t : Table W V C L A} {by : Machine W V C L B} {n : Notes t} (f : Plays by n) where
  abbrev m : Machine W V C L B
  m = played t by

  keeps_at : (seen : Seen W V C L) (p : ℕ) (move : Move C V) (o : Option (Seat C L)) → Invariant f seen → seat_of seen p ≡ o
      → Invariant f (scene_at m seen p move o).after → KeepsValue m (scene_at m seen p move o)
  keeps_at seen p Step (Some (Calling c l h)) good there after =
      let st = m.step seen.state.words seen.state.value c l h in
      let is = (at_step f _ (in_call f p good there) good.phase).values in
      let value = step_value m seen.state p c l h st (m.change p seen.state.words c l h) is.brings is.gives in
      record { phase = after.phase; brings = value.0; gives = value.1 }
  keeps_at seen p Weak (Some (Calling c l h)) good there after =
      record { phase = after.phase; brings = tt; gives = weak_gives m seen.state p c h _ (f.refusal_gives c l h seen.state.value) }
  keeps_at seen p _ _ good there after = record { phase = after.phase; brings = tt; gives = tt }

  -- the promises of values hold of each event from a state with the invariant
  pub keeps_value : (seen : Seen W V C L) (p : ℕ) (move : Move C V) → Invariant f seen → KeepsValue m (scene m seen p move)
  keeps_value seen p move good = keeps_at seen p move (seat_of seen p) good refl (kept f seen p move good).good

  pub values_of : (parties : ℕ) (es : Schedule C V) → ValuesAll m parties es
  values_of parties es = let first = good_first f parties in
      record { first = first.phase; each = every f (KeepsValue m) keeps_value (opening m parties) es first }
