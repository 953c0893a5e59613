-- What has to be shown of the table of a `Once`.
use Rattle.spin_world.proofs.OnceNames.{◌≡◌, ℕ, true, Option, Some, None, List, ◌∷◌, refl, arith, Plain, running, to_begin, Change, gets, completes, fails, runs-others, Hold, OnceCall, CallOnce, TryCallOnceOk, TryCallOnceErr, InitFromRef, Wait, Poll, Get, IsCompleted, OncePoint, Look, TryBegin, Run, Mark, Said, gives_value, failed, once_table, once_machine, has_just_looked, Plays, Point, nowhere, looked, onward, Notes, []}
use Rattle.spin_world_core.proofs.Stands.{absent}
use Rattle.spin_world_core.proofs.Filled.{plays_with}

-- a call with a closure has made no plain step until it runs the closure; then only the end of the closure is left
abbrev pub run_point : (ℕ → Change) → Said → OncePoint → Option Hold → Point
run_point end said l (Some h) = nowhere
run_point end said Run None = onward (record { stand = absent; made = λ p. gets p to_begin ∷ []; rest = λ p. end p ∷ []; said = said; spent = 0 })
run_point end said l None = looked 0

abbrev pub point_of : {V : Type 0} → OnceCall V → OncePoint → Option Hold → Point
point_of (CallOnce v) l h = run_point completes gives_value l h
point_of (TryCallOnceOk v) l h = run_point completes gives_value l h
point_of TryCallOnceErr l h = run_point fails failed l h
point_of (InitFromRef v) l h = run_point completes gives_value l h
point_of Wait Look None = looked 0
point_of Poll Look None = looked 0
point_of Get Look None = looked 0
point_of IsCompleted Look None = looked 0
point_of _ _ _ = nowhere

-- A party that is about to begin its closure has just looked. A party that runs its closure knows that the phase says so.
abbrev pub RunsAt : OncePoint → ℕ → Plain → List Mark → Type 0
RunsAt l p s span = elim l [ TryBegin ↦ has_just_looked p span ≡ true | Run ↦ s.phase ≡ running p | _ ↦ Unit {0} ]

-- nobody holds or queues
abbrev pub IsFree : Plain → Type 0
IsFree s = (s.holders ≡ []) × (s.tickets ≡ [])

abbrev pub once_notes : {V : Type 0} (value : Option V) → Notes (once_table value)
once_notes value = record { Shape = λ s. IsFree s; point = point_of; Knows = λ c l h p s span. RunsAt l p s span }

module _ {V : Type 0} (value : Option V) where
  pub once_facts : Plays (once_machine value) (once_notes value)
  once_facts = plays_with (record {
    pays = record {
      computes = grind arith;
      calls = λ c h. (0, grind arith);
      promises = record { begins = λ c. grind arith; limited = λ c h words. grind arith; tries = λ c h ask. grind arith; sections = λ d. grind arith };
      others = λ p q c l h s step r span ne free may belongs knows. grind (arith, runs-others s p q step ne may);
      owes = grind arith;
      soon = grind arith;
    };
    makes = refl;
    strong = grind arith;
    says = λ a. refl;
    none_writes = grind arith;
    none_holds = grind arith;
    completes_right = grind arith;
    tells = grind arith;
  })
