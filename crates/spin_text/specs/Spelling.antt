-- How the entries of a schedule are written: one line each, in words.
use Rattle.std.specs.Prelude.{◌≡◌, ℕ, Bool, true, ◌^◌, ◌<◌, List, [], ◌∷◌, codes, decimal}
use Rattle.std.specs.List.{AllByRecursion}
use Rattle.spin_step.specs.declared.schedule.Move.{Move}
use Rattle.spin_step.specs.declared.schedule.Move.TheVariants.{Begin, Step, Weak, Read, Write, Leak, OwnerGet, OwnerSet}

-- how the calls of an object are spelled (`words`), and which calls can be spelled: those with numbers below 2^64
-- (`fits`)
pub record Calls (C : Type 0) : Type 0 where
  pub words : C → List (List ℕ)
  pub fits : C → Bool

abbrev pub move_words : {C : Type 0} → Calls C → Move C ℕ → List (List ℕ)
move_words calls (Begin c) = codes "begin" ∷ calls.words c
move_words calls Step = codes "step" ∷ []
move_words calls Weak = codes "weak" ∷ []
move_words calls Read = codes "read" ∷ []
move_words calls (Write v) = codes "write" ∷ decimal v ∷ []
move_words calls Leak = codes "leak" ∷ []
move_words calls OwnerGet = codes "owner" ∷ codes "get" ∷ []
move_words calls (OwnerSet v) = codes "owner" ∷ codes "set" ∷ decimal v ∷ []

abbrev pub MoveFits : {C : Type 0} → Calls C → Move C ℕ → Type 0
MoveFits calls (Begin c) = calls.fits c ≡ true
MoveFits calls (Write v) = v < 2 ^ 64
MoveFits calls (OwnerSet v) = v < 2 ^ 64
MoveFits calls _ = Unit {0}

-- the party's number, and then the words of its move
abbrev pub entry_words : {C : Type 0} → Calls C → ℕ × Move C ℕ → List (List ℕ)
entry_words calls e = decimal e.0 ∷ move_words calls e.1

abbrev pub EntryFits : {C : Type 0} → Calls C → ℕ × Move C ℕ → Type 0
EntryFits calls e = (e.0 < 2 ^ 64) × MoveFits calls e.1

abbrev pub EntriesFit : {C : Type 0} → Calls C → List (ℕ × Move C ℕ) → Type 0
EntriesFit calls es = AllByRecursion (EntryFits calls) es
