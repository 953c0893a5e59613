-- What `{:?}` writes for a fair mutex.
use Rattle.std.specs.Prelude.{ℕ, List, Option, codes}
use Rattle.spin_core.specs.Texts.{named_text}

abbrev pub fair_text : {T : Type 0} → (T → Option (List ℕ)) → Option T → Option (List ℕ)
fair_text = named_text (codes "FairMutex { data: ") (codes "FairMutex { data: <locked> }")
