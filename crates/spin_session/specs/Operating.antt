-- What a lock has to show of its cell's rule, so that sessions can run its table.
use Rattle.std.specs.Prelude.{◌≡◌, ◌≢◌, true, false, Some, None, ℕ, zero, suc, ◌%◌, ◌+◌, ◌-◌, ◌^◌, ◌==◌, List, Option, bit_or}
use prog.Atomic.{either}
use Rattle.std.specs.Option.{IfSome}
use Rattle.spin_core.specs.Cell.{Ways, off, writes, use_of, Rests, Keeps}
use Rattle.spin_core.specs.Own.{Numbered, what}
use Rattle.spin_core.specs.Passes.{IsOut}
use Rattle.spin_core.specs.Traced.{Traces, TracesTo, Found, Named}
use Rattle.spin_core.specs.Values.{IsLast}
use Rattle.spin_core.specs.declared.tie.Opening.{Opening}
use Rattle.spin_core.specs.declared.trace.Trace.{Trace}
use Rattle.spin_core.specs.declared.trace.Watch.{Watch}
use Rattle.spin_step.specs.Acts.{Table, next_of, operation_by}
use Rattle.spin_step.specs.Operations.{wrapped}
use Rattle.spin_step.specs.Schedules.{Entry, may_write, resting}
use Rattle.spin_step.specs.declared.answer.Answer.{Answer}
use Rattle.spin_step.specs.declared.place.Hold.{Hold}
use Rattle.spin_step.specs.declared.place.Seat.{Seat}
use Rattle.spin_step.specs.declared.place.Seat.TheVariants.{Idle, Holding}
use Rattle.spin_session.specs.Meaning.{Meaning, Beside, HasSecond, table_at, on_place, use_at, rests_at, seat_now, seat_after}
use Rattle.spin_session.specs.Turns.{TurnTold, LeapTold, PeekTold, FusesBy, IsAt, Quiet}
use Rattle.spin_step.specs.declared.table.Operation.{Operation}
use Rattle.spin_step.specs.declared.table.Operation.TheVariants as op

module _ {X V E S : Type 0} (k : Beside S) (holds : ℕ → Trace E S → List V → Type 0) (ways : Ways X V (Trace E S)) (view : Option V) (shown : Option X) where
  -- A store tells as if it had found 0. A cell of one word makes no operation at place 1.
  abbrev pub Operates : ℕ → Operation → (List E → List E → ℕ → V → Type 0) → Type 0
  Operates zero op.Load told = Traces holds ways view shown (λ n. n) told
  Operates zero (op.Exchange old new) told = Traces holds ways view shown (λ n. either (n == old) new n) told
  Operates zero (op.Store to) told = Traces holds ways view shown (λ n. to) (λ log es n. told log es 0)
  Operates zero (op.Add by) told = Traces holds ways view shown (λ n. (n + by) % 2 ^ 64) told
  Operates zero (op.Subtract by) told = Traces holds ways view shown (λ n. (n + (2 ^ 64 - by)) % 2 ^ 64) told
  Operates zero op.SetLowestBit told = Traces holds ways view shown (λ n. bit_or n 1) told
  Operates (suc j) op.Load told = HasSecond k × TracesTo holds ways view shown (on_place k 1 (λ n. n)) told
  Operates (suc j) (op.Store to) told = HasSecond k × TracesTo holds ways view shown (on_place k 1 (λ n. to)) (λ log es n. told log es 0)
  Operates (suc j) (op.Add by) told = HasSecond k × TracesTo holds ways view shown (on_place k 1 (λ n. (n + by) % 2 ^ 64)) told
  Operates (suc j) o told = ⊥

-- what generic code knows of a rule whose cell runs this table; its words open with the number `start` of the cell's opening
pub record Executes {W V C L S : Type 0} (k : Beside S) (t : ℕ → V → Table W V C L (Answer V)) (s : Meaning C L)
    (holds : Opening V → ℕ → Trace (Entry C V) S → List (Numbered (Seat C L)) → Type 0)
    (ways : Opening V → Ways V (Numbered (Seat C L)) (Trace (Entry C V) S)) : Type 0 where
  pub uses : (key : Opening V) (view : Option (Numbered (Seat C L))) → use_of (ways key).1 view ≡ use_of (use_at s) (what view)
  pub named : (key : Opening V) (name : ℕ) → key.name ≡ name → Named (holds key) (ways key) name
  pub turns : (key : Opening V) (view : Option (Numbered (Seat C L))) (shown : Option V) (c : C) (l : L) (h : Option Hold) (o : Operation)
      → o ≡ wrapped (operation_by ((table_at t key).act c l h)) → IsAt t c l h key (what view) → rests_at s (seat_now (what view)) ≡ true → Quiet s (what view)
      → Operates k (holds key) (ways key) view shown ((table_at t key).word l) o (TurnTold t s false (Some c) key view)
  -- the first step of a call by a holder that writes, after which it does not
  pub gives : (key : Opening V) (view : Option (Numbered (Seat C L))) (x : V) (c : C) (h : Hold) (o : Operation)
      → o ≡ wrapped (operation_by ((table_at t key).act c ((table_at t key).start c (Some h)) (Some h))) → what view ≡ Some (Holding h) → ((table_at t key).asks c (Some h)).begins (Some h) ≡ true
      → may_write h ≡ true → use_at s (Holding h) ≡ writes → Operates k (holds key) (ways key) view (Some x) ((table_at t key).word ((table_at t key).start c (Some h))) o (TurnTold t s true (Some c) key view)
  -- the first steps of a call by one exchange; which call it is may depend on the number found
  pub leaps : (key : Opening V) (view : Option (Numbered (Seat C L))) (shown : Option V) (c : ℕ → C) (h : Option Hold) (last : ℕ → Option (L × ℕ)) (old new : ℕ)
      → FusesBy (table_at t key) s c h last old new → seat_now (what view) ≡ resting h → ((n : ℕ) → ((table_at t key).asks (c n) h).begins h ≡ true) → Quiet s (what view)
      → Operates k (holds key) (ways key) view shown 0 (op.Exchange old new) (LeapTold t s (λ n. Some (c n)) last key view)
  -- a load at place 1 of a cell with a second word, which is no step
  pub peeks : HasSecond k → (key : Opening V) (view : Option (Numbered (Seat C L))) (shown : Option V) → TracesTo (holds key) (ways key) view shown (on_place k 1 (λ n. n)) (PeekTold t k s key view)
  -- a party that uses the value after a step sees it, and still sees the one that it saw before
  pub sees : (key : Opening V) (view view' : Option (Numbered (Seat C L))) (before after : Option V) → Keeps (ways key) view view' before after
      → use_of (use_at s) (what view') ≢ off → (after ≢ None) × (before ≢ None → after ≡ before)
  -- a value that a party sees after a step is the one written last; so is one that it used before
  pub lasts : (key : Opening V) (view view' : Option (Numbered (Seat C L))) (before after : Option V) (seen : Watch (Entry C V)) → Keeps (ways key) view view' before after
      → Found (ways key) view view' before after seen → (use_of (use_at s) (what view) ≡ writes → use_of (use_at s) (what view') ≢ writes)
      → IfSome after (IsLast key seen.entries) × (use_of (use_at s) (what view) ≢ off → IfSome before (IsLast key seen.entries))
  pub goes : (key : Opening V) (view : Option (Seat C L)) (c : C) (l : L) (h : Option Hold) (n : ℕ) → IsAt t c l h key view → rests_at s (seat_now view) ≡ true
      → rests_at s (seat_after c h (next_of (table_at t key) c l h n)) ≡ true
  pub rests : (key : Opening V) (view : Option (Numbered (Seat C L))) → IsOut Idle (what view) → Rests (holds key) (ways key).1 view
