-- What a log of answers says: each entry is a key and its answer.
use Rattle.std.specs.Prelude.{◌≡◌, Bool, List, Option, Some}
use Rattle.std.specs.Map.{lookup}

module _ {K V : Type 0} (eq : K → K → Bool) where
  -- the first answer for this key among the entries
  abbrev pub answer_in : List (K × V) → K → Option V
  answer_in entries key = lookup (eq key) entries

  -- these entries have an answer for the key, and the value is a clone of it
  abbrev pub IsLogged : (V → V → Type 0) → List (K × V) → K → V → Type 0
  IsLogged is_clone entries key value = (answer : V) × ((answer_in entries key ≡ Some answer) × is_clone answer value)
