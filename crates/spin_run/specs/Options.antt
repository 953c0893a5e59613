-- What the words of the command line ask for.
use Rattle.std.specs.Prelude.{ℕ, Option, Some, None, List, [], ◌∷◌, codes, if◌then◌else◌}
use Rattle.std.specs.Str.{bytes_eq}
use Rattle.spin_text.specs.Lines.{words_of}
use Rattle.spin_text.specs.Reading.{◌>>=◌, last_number}
use Rattle.spin_run.specs.declared.explore.options.Options.{Options}

abbrev pub no_options : Options
no_options = record { schedule = None; limit = None }

-- the options with one more, given by its word and its number; a later option replaces an earlier one of the same name
unfoldable pub with_option : Options → List ℕ → Option ℕ → Option Options
with_option o word number =
    number >>= λ n. (if bytes_eq word (codes "--schedule") then Some (record { schedule = Some n; limit = o.limit })
    else if bytes_eq word (codes "--limit") then Some (record { schedule = o.schedule; limit = Some n }) else None)

abbrev pub options_from : Options → List (List ℕ) → Option Options
options_from o [] = Some o
options_from o (word ∷ []) = None
options_from o (word ∷ number ∷ words) = with_option o word (last_number (words_of number)) >>= λ p. options_from p words
