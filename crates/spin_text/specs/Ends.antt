-- What writes have appended to a sink, even if one of them failed, and what is left to write.
use Rattle.std.specs.Prelude.{◌≡◌, ℕ, ◌≤◌, List, ◌++◌, length, take, Option}
use Rattle.std.specs.Io.KnownBytes.{Appends}

-- some first bytes of the text were appended to the known bytes
abbrev pub AppendsBeginning : Option (List ℕ) → Option (List ℕ) → List ℕ → Type 0
AppendsBeginning old new text = (n : ℕ) × (n ≤ length text) × Appends old new (take n text)

-- all of the text but its last piece was appended to the known bytes; the piece is left to write
abbrev pub AppendsBut : Option (List ℕ) → Option (List ℕ) → List ℕ → List ℕ → Type 0
AppendsBut old new text piece = (front : List ℕ) × Appends old new front × (text ≡ front ++ piece)

-- some text that satisfies `IsText` was appended to the known bytes
abbrev pub AppendsSome : (List ℕ → Type 0) → Option (List ℕ) → Option (List ℕ) → Type 0
AppendsSome IsText old new = (text : List ℕ) × IsText text × Appends old new text

-- some first bytes of a text that satisfies `IsText` were appended to the known bytes
abbrev pub AppendsSomeBeginning : (List ℕ → Type 0) → Option (List ℕ) → Option (List ℕ) → Type 0
AppendsSomeBeginning IsText old new = (text : List ℕ) × IsText text × AppendsBeginning old new text
