-- What `{:?}` writes for a read-write lock.
use Rattle.std.specs.Prelude.{ℕ, List, Option, None, Some, codes}
use Rattle.spin_core.specs.Texts.{named_text}

-- the text for the value that a try found, or for a failed try; `text` writes the value
abbrev pub rw_text : {T : Type 0} → (T → Option (List ℕ)) → Option T → Option (List ℕ)
rw_text = named_text (codes "RwLock { data: ") (codes "RwLock { <locked> }")

-- the text of the value that a guard shows
abbrev pub lent_text : {T : Type 0} → (T → Option (List ℕ)) → Option T → Option (List ℕ)
lent_text text None = None
lent_text text (Some x) = text x
