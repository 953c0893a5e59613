-- What events keep of a party that waits in a call, of a party that has leaked, and of others.
use Rattle.spin_laws.proofs.Names.{seat_of, not, is_empty, goes_on, ◌⊎◌, ⊎_elim, is_call_step, ◌≡◌, ℕ, ◌==◌, ◌&&◌, ◌||◌, Bool, true, false, Option, Some, None, List, [], ◌∷◌, ◌++◌, refl, arith, eqb-true, false≢true, may_read, and_parts, Machine, State, happens, after, is_owners, Seen, Scene, scene, Hold, Seat, Calling, Holding, Leaked, Gone, Next, Move, Outcome, Test, occurs, is_awaited, MovesOn, get-set_other, slice_get}
use Rattle.spin_world_core.proofs.Names.{true≢false, scene_of, scene_at, skipped, StepKind, Step, Weak}
pub use Rattle.std.proofs.lemmas.Bool.{or_left, or_right}
use Rattle.spin_step.specs.StepKinds as step_kind
use Rattle.spin_world_core.proofs.Owners.{all-get}
use Rattle.spin_step.specs.Parties.{Entries}
use Rattle.spin_laws.specs.Rounds.{begins_release}
use Rattle.spin_step.specs.declared.schedule.Outcome.TheVariants as outcome

pub or_rest : (a b : Bool) → (a || b) ≡ true → a ≡ false → b ≡ true
or_rest a b is none = grind (arith, is, none)

-- others may wait for the party
abbrev pub is_busy : {C L : Type 0} → Option (Seat C L) → Bool
is_busy (Some (Calling c l h)) = true
is_busy (Some (Holding h)) = may_read h
is_busy (Some (Leaked h)) = may_read h
is_busy (Some (Gone h)) = may_read h
is_busy _ = false

-- a party with these entries in the plain lock holds the lock
abbrev pub holds_lock : Entries → Bool
holds_lock e = not (is_empty e.holders)

-- what a party with this seat holds, or held before its call
abbrev pub held_by : {C L : Type 0} → Option (Seat C L) → Option Hold
held_by seat = elim seat [ Some (Calling c l h) ↦ h | Some (Holding h) ↦ Some h | Some (Leaked h) ↦ Some h | _ ↦ None ]

-- an outcome after which no party has moved on
abbrev pub is_idle : {V A : Type 0} → Outcome A V → Bool
is_idle o = elim o [ outcome.Begun ↦ false | outcome.GoingOn ↦ false | outcome.Answered a b ↦ false | _ ↦ true ]

module _ {W V C L A : Type 0} (m : Machine W V C L A) where
  -- the owner has no move while a party is in a call
  pub no_owner : (seen : Seen W V C L) (p : ℕ) (c : C) (l : L) (h : Option Hold) → seat_of seen p ≡ Some (Calling c l h) → is_owners m seen.state ≡ true → ⊥
  no_owner seen p c l h there may = grind (arith, false≢true, all-get, and_parts)

  -- A move of a party in a call is a step of the call, or a spurious failure of its exchange, or is skipped.
  pub of_call : (seen : Seen W V C L) (p : ℕ) (c : C) (l : L) (h : Option Hold) → seat_of seen p ≡ Some (Calling c l h) → (P : Scene W V C L A → Type 0) → let at = Some (Calling c l h) in
      ((move : Move C V) (kind : StepKind) → P (scene_of seen p move at (skipped seen.state) None kind None)) → P (scene_at m seen p Step at)
      → ((next : Next L A) → m.refuse c l h ≡ Some next → P (scene_of seen p Weak at (goes_on seen.state p c h next) None step_kind.weak None)) → (move : Move C V) → P (scene m seen p move)
  of_call seen p c l h at P passes steps refuses move = grind (arith, at, no_owner seen p c l h at, passes, steps, refuses)

  -- while some party is in a call, a move changes no other seat than that of the party that moves
  pub same_beside : (seen : Seen W V C L) (q d p : ℕ) (c : C) (l : L) (h : Option Hold) → seat_of seen p ≡ Some (Calling c l h) → (move : Move C V) → (q ≡ d → ⊥)
      → seat_of (scene m seen q move).after d ≡ seat_of seen d
  same_beside seen q d p c l h calls move ne = grind (arith, get-set_other {X = Seat C L}, no_owner seen p c l h calls)

  -- the event begins a call that releases this hold
  abbrev lets_go : Option Hold → Move C V → Outcome A V → Bool
  lets_go held move what = elim held [ None ↦ false | Some h ↦ begins_release m h move what ]

  -- the event is a step of the party d, or begins the release of what it held
  abbrev pub awaited_of : ℕ → Option Hold → Test V C L A
  awaited_of d held q move what x = (q == d) && (is_call_step what || lets_go held move what)

  -- a move with an idle outcome is not awaited, and neither is a move of another party
  pub unawaited : (d q : ℕ) (held : Option Hold) (move : Move C V) (what : Outcome A V) → (q ≡ d → is_idle what ≡ true)
      → ((q == d) && (is_call_step what || lets_go held move what)) ≡ false
  unawaited d q held move what idle = grind (arith, idle, eqb-true)

  pub occurs-append : (test : Test V C L A) (s : State W V C L) (xs ys : List (ℕ × Move C V)) → occurs m test s (xs ++ ys) ≡ (occurs m test s xs || occurs m test (after m s xs) ys)
  occurs-append test s [] ys = refl
  occurs-append test s (x ∷ xs) ys = grind (arith, occurs-append test (happens m s x.0 x.1).next xs ys)

  occurs_too : (one other : Test V C L A) → ((q : ℕ) (move : Move C V) (o : Outcome A V) (x : Option (Seat C L)) → one q move o x ≡ true → other q move o x ≡ true)
      → (s : State W V C L) (es : List (ℕ × Move C V)) → occurs m one s es ≡ true → occurs m other s es ≡ true
  occurs_too one other too s [] found = found
  occurs_too one other too s (e ∷ es) found = let h = happens m s e.0 e.1 in
      grind (arith, found, too e.0 e.1 h.outcome (slice_get h.next.seats e.0), occurs_too one other too h.next es)

  -- a party that may be waited for makes an awaited move in a round
  pub moves_on : (s : State W V C L) (es : List (ℕ × Move C V)) (d : ℕ) (o : Option (Seat C L)) → is_busy o ≡ true → MovesOn m s es d o
      → occurs m (awaited_of d (held_by o)) s es ≡ true
  moves_on s es d (Some (Calling c l h)) busy moves =
      occurs_too (λ q move o x. (q == d) && is_awaited m (Some (Calling c l h)) move o) (awaited_of d h) (λ q move o x is. grind (arith, is)) s es moves
  moves_on s es d (Some (Holding h)) busy moves =
      occurs_too (λ q move o x. (q == d) && is_awaited m (Some (Holding h)) move o) (awaited_of d (Some h)) (λ q move o x is. grind (arith, is)) s es (moves busy)
  moves_on s es d o busy moves = absurd (grind (arith, busy, moves, true≢false, false≢true))
