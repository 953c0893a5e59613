-- What a stream over a reader or writer of std contains.
use Rattle.std.specs.Prelude.{Bool}
use Rattle.spin_text.specs.declared.ends.OfStd.{OfStd}

-- the reader or the writer
abbrev pub of_std_inner : {X : Type 0} → OfStd X → X
of_std_inner s = s.inner

-- the stream has failed
abbrev pub of_std_failed : {X : Type 0} → OfStd X → Bool
of_std_failed s = s.failed
