-- The lines of bytes, and the words of a line.
use Rattle.std.specs.Prelude.{ℕ, List, [], ◌∷◌, map, ◌==◌}
use Rattle.std.specs.List.{slice_split}
use Rattle.std.specs.Borrow.{Bor}

-- the lines after the first one, from the parts between line feeds: an empty last part is no line
abbrev pub further_lines : List (List ℕ) → List (List ℕ)
further_lines [] = []
further_lines ([] ∷ []) = []
further_lines ((b ∷ bs) ∷ []) = (b ∷ bs) ∷ []
further_lines (x ∷ y ∷ more) = x ∷ further_lines (y ∷ more)

abbrev pub first_and_further : List (List ℕ) → List (List ℕ)
first_and_further [] = []
first_and_further (x ∷ more) = x ∷ further_lines more

-- Each line ends at a line feed, which may be missing at the end. An empty text has one line, which is empty.
abbrev pub lines_of : List ℕ → List (List ℕ)
lines_of bytes = first_and_further (slice_split (λ b. b == 10) bytes)

-- One space separates two words of a line. So there is an empty word between two spaces in a row, before a space at
-- the beginning, and after a space at the end.
abbrev pub words_of : List ℕ → List (List ℕ)
words_of line = slice_split (λ b. b == 32) line

-- the words of each line
abbrev pub words_by_line : List ℕ → List (List (List ℕ))
words_by_line bytes = map words_of (lines_of bytes)

-- the texts of words
abbrev pub texts_of : List (Bor (List ℕ)) → List (List ℕ)
texts_of words = map (λ word. word.now) words
