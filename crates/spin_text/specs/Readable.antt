-- How reading relates to spelling.
use Rattle.std.specs.Prelude.{◌≡◌, ℕ, true, ◌+◌, Option, Some, None, IsSome, List, ◌∷◌, ◌++◌, map, length}
use Rattle.std.specs.List.{AllByRecursion}
use Rattle.spin_step.specs.declared.schedule.Move.{Move}
use Rattle.spin_text.specs.declared.text.RunError.{RunError}
use Rattle.spin_text.specs.declared.text.RunError.TheVariants as errors
use Rattle.spin_text.specs.Spelling.{Calls, entry_words, EntriesFit}
use Rattle.spin_text.specs.Reading.{read_entry, entries_in}

-- `read` accepts exactly the words that spell a call, and returns that call
pub record ReadsCalls {C : Type 0} (calls : Calls C) (read : List (List ℕ) → Option C) : Type 0 where
  pub takes : (ws : List (List ℕ)) (c : C) → read ws ≡ Some c → (calls.fits c ≡ true) × (ws ≡ calls.words c)
  pub again : (c : C) → calls.fits c ≡ true → read (calls.words c) ≡ Some c

-- each line spells an entry whose numbers fit
abbrev pub AllSpell : {C : Type 0} → Calls C → (List (List ℕ) → Option C) → List (List (List ℕ)) → Type 0
AllSpell calls read lines = EntriesFit calls (entries_in read lines) × (lines ≡ map (entry_words calls) (entries_in read lines))

-- `read_entry` accepts each line
abbrev pub AllLinesRead : {C : Type 0} → (List (List ℕ) → Option C) → List (List (List ℕ)) → Type 0
AllLinesRead read lines = AllByRecursion (λ line. IsSome (read_entry read line)) lines

-- reading the lines after the header stops at a line that spells no entry, or because an allocation failed
abbrev pub StopsEntries : {C : Type 0} → Calls C → (List (List ℕ) → Option C) → List (List (List ℕ)) → RunError → Type 0
StopsEntries {C} calls read lines (errors.BadLine n) =
    (es : List (ℕ × Move C ℕ)) × EntriesFit calls es × ((line : List (List ℕ)) × (more : List (List (List ℕ))) × (lines ≡ map (entry_words calls) es ++ (line ∷ more)) × (read_entry read line ≡ None) × (n ≡ length es + 2))
StopsEntries calls read lines errors.Memory = Unit {0}
StopsEntries calls read lines _ = ⊥
