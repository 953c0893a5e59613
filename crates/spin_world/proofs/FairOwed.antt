-- What has to be shown of the fair lock's table.
use Rattle.spin_world.proofs.FairNames.{◌≡◌, ℕ, ◌<◌, ◌+◌, ◌-◌, ◌%◌, true, nat_lt, Option, Some, None, List, ◌∷◌, refl, arith, eqb-true, Plain, writing, to_lock_unregistered, to_lock_starving, to_lock_starving_alone, to_starve, Change, gets, releases, stops_starving, is_starver, fair_word, apply_some, entries, is_held, empty_is, is_holder-from_entries, is_starver-from_entries, eq-eqb, length-without_holder, length-without_starver, is_held_word, lock, starve, lock_fair, fair_lock-grants, fair_starve-grants, fair_lock_fair-grants, fair_lock_starved-grants, fair_unstarve-gives, fair_unlock-gives, Hold, Write, Starver, FairCall, Lock, TryLock, TryLockStarver, IsLocked, Starve, StarverTryLockFair, StarverTryLock, StarverLock, StarverDrop, Release, FairPoint, First, Attempt, Look, Load, Register, SetFlag, Await, Unregister, StepKind, plain, again, weak, Mark, granted, fair, mark_of, own_count, changes, RegistersInTime, tried, fair_table, fair_machine, holds, starves, holds_and_starves, entries_at, Row, Point, nowhere, looked, onward, Notes, Means, OwesAll, SoonAll, []}
use Rattle.spin_step.specs.declared.table.Operation.TheVariants as op
use Rattle.spin_world_core.proofs.Lists.{eqb_self}
use Rattle.spin_world_core.proofs.Steps.{Plays}
use Rattle.spin_world_core.proofs.Filled.{plays_of}
use Rattle.spin_world.proofs.Registering.{MayBeBlind, none_left, few_to_load, few_to_register, Looking, Loading, Registering, no_split, starving-other, looking-other, loading-other, registering-other, goes_on, missed, looked_free, looked_held, looked_late, loaded, retried, full, registered, looked_starving}
use Rattle.spin_world.proofs.FairKnowledge.{IsFair, comes, flag_clear, word_starved, not_there}

-- the row of a starver that waits for the lock, after these plain steps
abbrev pub starving_row : (ℕ → List Change) → Row
starving_row made = record { stand = starves; made = made; rest = λ p. gets p to_lock_starving ∷ stops_starving p ∷ []; said = granted; spent = 0 }

-- the row of a starver that holds the lock and is still registered
abbrev pub leaving_row : ℕ → (ℕ → List Change) → Row
leaving_row spent made = record { stand = holds_and_starves writing; made = made; rest = λ p. stops_starving p ∷ []; said = granted; spent = spent }

abbrev pub point_of : FairCall → FairPoint → Option Hold → Point
point_of Lock First h = nowhere
point_of Lock SetFlag None = onward (starving_row (λ p. gets p to_starve ∷ []))
point_of Lock Await None = onward (starving_row (λ p. gets p to_starve ∷ []))
point_of Lock Unregister None = onward (leaving_row 0 (λ p. gets p to_starve ∷ gets p to_lock_starving ∷ []))
point_of Lock l None = looked 0
point_of TryLock First None = looked 0
point_of TryLockStarver First None = looked 0
point_of IsLocked First None = looked 0
point_of Starve Load None = looked 0
point_of Starve (Register n) None = looked 1
point_of StarverTryLockFair First (Some Starver) = looked 0
point_of StarverTryLockFair Unregister (Some Starver) = onward (leaving_row 1 (λ p. gets p to_lock_starving_alone ∷ []))
point_of StarverTryLock SetFlag (Some Starver) = looked 0
point_of StarverTryLock Unregister (Some Starver) = onward (leaving_row 1 (λ p. gets p to_lock_starving ∷ []))
point_of StarverLock SetFlag (Some Starver) = looked 0
point_of StarverLock Await (Some Starver) = looked 0
point_of StarverLock Unregister (Some Starver) = onward (leaving_row 0 (λ p. gets p to_lock_starving ∷ []))
point_of StarverDrop First (Some Starver) = looked 0
point_of Release First (Some Write) = looked 0
point_of _ _ _ = nowhere

-- What else a party knows of its `lock`: it registers in time, and how many looks have found the lock held, compared
-- with its patience. Before a blind step the party also knows that this step may be blind.
abbrev pub KnowsAt : ℕ → FairCall → FairPoint → ℕ → Plain → List Mark → Type 0
KnowsAt patience Lock (Attempt n) p s span = Looking patience n p span × MayBeBlind patience p span
KnowsAt patience Lock (Look n) p s span = Looking patience n p span
KnowsAt patience Lock Load p s span = Loading patience p span × MayBeBlind patience p span
KnowsAt patience Lock (Register n) p s span = Registering patience n p s span
KnowsAt patience Lock SetFlag p s span = RegistersInTime none_left p patience span × MayBeBlind patience p span
KnowsAt patience Lock First p s span = Unit {0}
KnowsAt patience Lock _ p s span = RegistersInTime none_left p patience span
KnowsAt patience _ _ p s span = Unit {0}

abbrev pub fair_notes : {V : Type 0} (v : V) (cap patience : ℕ) → Notes (fair_table v cap patience)
fair_notes v cap patience = record { Shape = λ s. IsFair cap s; point = point_of; Knows = λ c l h p s span. KnowsAt patience c l p s span }

module _ {V : Type 0} (v : V) (cap patience : ℕ) where
  abbrev IsMeant : ℕ → Plain → Change → Option ℕ → Type 0
  IsMeant p s c o = Means (fair_notes v cap patience) p s c (λ k. k) o

  -- what the step functions mean in a state of this shape
  module _ (p : ℕ) (s : Plain) (w : ℕ) (word : fair_word s ≡ w) (shape : IsFair cap s) where
    held : is_held s ≡ is_held_word w
    held = grind arith

    lock_means : IsMeant p s (gets p to_lock_unregistered) (lock w)
    lock_means = grind (arith, fair_lock-grants s p w word, comes cap p s shape)

    starve_means : IsMeant p s (gets p to_starve) (starve cap w)
    starve_means = grind (arith, fair_starve-grants s p w cap shape.one shape.room word, shape)

    lock_fair_means : entries p s ≡ entries_at p starves → IsMeant p s (gets p to_lock_starving_alone) (lock_fair w)
    lock_fair_means mine = grind (arith, fair_lock_fair-grants s p w, is_starver-from_entries p, comes cap p s)

    lock_starved_means : entries p s ≡ entries_at p starves → IsMeant p s (gets p to_lock_starving) (tried op.SetLowestBit w)
    lock_starved_means mine = grind (arith, fair_lock_starved-grants s p w, is_starver-from_entries p, comes cap p s)

    -- a starver stops starving, with the lock or without
    unstarve_means : is_starver p s.starvers ≡ true → (nat_lt 1 w ≡ true) × IsMeant p s (stops_starving p) (Some (w - 2))
    unstarve_means found =
        grind (arith, word, shape, length-without_starver p s.starvers found, fair_unstarve-gives s p w word found)

    unlock_means : entries p s ≡ entries_at p (holds writing) → (is_held_word w ≡ true) × IsMeant p s (releases p writing) (Some (w - 1))
    unlock_means mine =
        let fewer = length-without_holder p writing s.holders in
        grind (arith, is_holder-from_entries p, eq-eqb (w % 2) 1, fair_unlock-gives s p writing w, fewer, shape)

  -- a call that may starve has steps left in which it registers in time
  abbrev InTime : ℕ → List Mark → Type 0
  InTime p span = RegistersInTime (λ recent. own_count p recent < 2 + changes fair p recent) p patience span

  module _ (p : ℕ) (span : List Mark) where
    nothing_left : RegistersInTime none_left p patience span → InTime p span
    nothing_left old = grind arith

    loads_in_time : Loading patience p span → InTime p span
    loads_in_time old = grind arith

    registers_in_time : (w : ℕ) (s : Plain) → Registering patience w p s span → InTime p span
    registers_in_time w s old = grind arith

  owes : OwesAll (fair_notes v cap patience)
  owes p Lock (Attempt n) None s w span = grind (arith, goes_on patience p s span (Some (gets p to_lock_unregistered)) plain refl refl, lock_means p s w, missed patience p s span n plain refl, missed patience p s span n weak refl, nothing_left p)
  owes p Lock (Look n) None s w span = grind (arith, held p s w, looked_held patience p s span n, looked_late patience p s span n, nothing_left p, loads_in_time p, eqb_self p, looked_free patience p s span n)
  owes p Lock Load None s w span = grind (arith, full patience p s span (few_to_load p) plain refl, registers_in_time, starve_means p s w, loaded patience p s span w, nothing_left p)
  owes p Lock (Register n) None s w span = λ at.
      let looks = full patience p s span (few_to_register p s n) again refl refl in (
        starve_means p s w (cc (at.encodes)) at.shape,
        grind (arith, registered patience p s span n, nothing_left p, eqb_self p),
        grind (arith, retried patience p s span n w (cc (at.encodes)), λ (ms : List Mark). registers_in_time p ms w s),
        grind (arith, looks, nothing_left p),
      )
  owes p Lock SetFlag None s w span =
      let won = goes_on patience p s span (Some (gets p to_lock_starving)) plain refl refl in
      grind (arith, lock_starved_means p s w, won, goes_on patience p s span None plain refl, nothing_left p)
  owes p Lock Await None s w span = grind (arith, held p s w, looked_starving patience p s span, nothing_left p, eqb_self p)
  owes p Lock Unregister None s w span = grind (arith, goes_on patience p s span (Some (stops_starving p)) plain refl, unstarve_means p s w, is_starver-from_entries p)
  owes p Lock _ _ s w span = tt
  owes p TryLock l h s w span = grind (arith, lock_means p s w)
  owes p TryLockStarver l h s w span = grind (arith, lock_means p s w, eqb-true w 1, word_starved w s)
  owes p IsLocked l h s w span = grind (arith, held p s w)
  owes p Starve l h s w span = grind (arith, starve_means p s w)
  owes p Release l h s w span = grind (arith, unlock_means p s w)
  owes p _ l h s w span = grind (arith, is_starver-from_entries p, lock_fair_means p s w, lock_starved_means p s w, held p s w, unstarve_means p s w)

  others : (p q : ℕ) (c : FairCall) (l : FairPoint) (s : Plain) (step : Option Change) (r : StepKind) (span : List Mark) → (q ≡ p → ⊥) → KnowsAt patience c l p s span → KnowsAt patience c l p (apply_some s step) (mark_of q step r s ∷ span)
  others p q Lock (Register n) s step r span ne knows = registering-other patience p q s step r span ne n knows
  others p q Lock l s step r span ne knows = let starving = starving-other patience p q s step r span ne in
      let loading = loading-other patience p q s step r span ne in
      grind (arith, knows, looking-other patience p q s step r span ne, loading, starving)
  others p q _ _ s step r span ne knows = tt

  pub fair_facts : Plays (fair_machine v cap patience) (fair_notes v cap patience)
  fair_facts = plays_of (record {
    computes = grind (arith, no_split);
    calls = λ c h. (patience, grind arith);
    promises = record { begins = λ c. grind arith; limited = λ c h words. grind arith; tries = λ c h ask. grind arith; sections = λ d. grind arith };
    others = λ p q c l h s step r span ne shape may belongs knows. others p q c l s step r span ne knows;
    owes = owes;
    -- If nobody disturbs the call, its exchange acquires a free lock, at once or after a look. A party that has begun to
    -- register then registers, gets the lock, and stops starving.
    soon = grind (arith, empty_is, flag_clear, not_there);
  }) refl
