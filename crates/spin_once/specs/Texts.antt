-- What `{:?}` writes for a `Once` and a `LazyLock`.
use Rattle.std.specs.Prelude.{ℕ, List, ◌++◌, Option, None, Some, codes}
use Rattle.std.specs.Fmt.{◌++?◌}

module _ {T : Type 0} where
  -- the text for the value that a load found, between `shown` and `)`, or `empty` for none; `text` writes the value
  abbrev pub made_text : List ℕ → List ℕ → (T → Option (List ℕ)) → Option T → Option (List ℕ)
  made_text shown empty text None = Some empty
  made_text shown empty text (Some x) = Some shown ++? text x ++? Some (codes ")")

  -- the text for a type with this name
  abbrev pub once_text : List ℕ → (T → Option (List ℕ)) → Option T → Option (List ℕ)
  once_text name = made_text (name ++ codes "(") (name ++ codes "(<uninit>)")
