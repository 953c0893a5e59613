-- What a program writes of its failure.
use Rattle.std.specs.Prelude.{ℕ, Bool, MatchBool, List, ◌++◌, Option, codes}
use Rattle.std.specs.Io.KnownBytes.{Appends}
use Rattle.spin_text.specs.Ends.{AppendsBeginning}
use Rattle.spin_text.specs.Transcripts.{number_text}

-- the words, and the number after them if there is one
abbrev pub failure_line : List ℕ → Option ℕ → List ℕ
failure_line words number = words ++ number_text number ++ codes "\n"

-- the whole line was written; if the sink has failed, some first bytes of it
abbrev pub Told : Bool → Option (List ℕ) → Option (List ℕ) → List ℕ → Type 0
Told failed old new line = MatchBool failed (AppendsBeginning old new line) (Appends old new line)
