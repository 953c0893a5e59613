-- What `{:?}` writes for a lock.
use Rattle.std.specs.Prelude.{ℕ, List, Option, None, Some, codes}
use Rattle.std.specs.Fmt.{◌++?◌}

-- The text of a lock, with the value that a try to acquire the lock found, or without a value if the try failed.
-- `text` gives the text of a value.
abbrev pub named_text : {T : Type 0} → List ℕ → List ℕ → (T → Option (List ℕ)) → Option T → Option (List ℕ)
named_text shown locked text None = Some locked
named_text shown locked text (Some x) = Some shown ++? text x ++? Some (codes " }")

-- the text of a mutex
abbrev pub lock_text : {T : Type 0} → (T → Option (List ℕ)) → Option T → Option (List ℕ)
lock_text = named_text (codes "Mutex { data: ") (codes "Mutex { <locked> }")
