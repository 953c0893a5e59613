-- What a text of settings says. Each line sets one setting, and a later line replaces an earlier one.
use Rattle.std.specs.Prelude.{◌≡◌, ℕ, ◌+◌, ◌<◌, ◌^◌, ◌++◌, Bool, false, List, [], ◌∷◌, Option, Some, None, Result, MatchResult, unwrap_or, codes, length, if◌then◌else◌}
use Rattle.std.specs.Str.Lines.{lines}
use Rattle.std.specs.Str.Parse.{IsNumeral, digits_value, without_leading_plus}
use Rattle.spin_examples.specs.declared.settings.Setting.{Setting}
use Rattle.spin_examples.specs.declared.settings.Setting.TheVariants.{Port, Workers, Verbose}
use Rattle.spin_examples.specs.declared.settings.Settings.{Settings}
use Rattle.spin_examples.specs.declared.settings.BadLine.{BadLine}

-- the value is decimal digits of a number below 2^bits; a plus sign may come first
abbrev pub SetsNumber : ℕ → List ℕ → ℕ → Type 0
SetsNumber bits value n = let digits = without_leading_plus value in IsNumeral 10 digits × (digits_value 10 digits ≡ n) × (n < 2 ^ bits)

-- the line is the name, an equals sign between spaces, and a value of the name's kind
abbrev pub Sets : List ℕ → Setting → Type 0
Sets line (Port n) = (value : List ℕ) × (line ≡ codes "port = " ++ value) × SetsNumber 16 value n
Sets line (Workers n) = (value : List ℕ) × (line ≡ codes "workers = " ++ value) × SetsNumber 64 value n
Sets line (Verbose b) = line ≡ codes "verbose = " ++ (if b then codes "true" else codes "false")

abbrev pub SetsNothing : List ℕ → Type 0
SetsNothing line = (s : Setting) → ¬ (Sets line s)

-- the settings that the lines set, line by line
abbrev pub SetInOrder : List (List ℕ) → List Setting → Type 0
SetInOrder [] [] = Unit {0}
SetInOrder (line ∷ more) (s ∷ ss) = Sets line s × SetInOrder more ss
SetInOrder [] (s ∷ ss) = ⊥
SetInOrder (line ∷ more) [] = ⊥

abbrev pub port_of : Setting → Option ℕ
port_of (Port n) = Some n
port_of (Workers n) = None
port_of (Verbose b) = None

abbrev pub workers_of : Setting → Option ℕ
workers_of (Port n) = None
workers_of (Workers n) = Some n
workers_of (Verbose b) = None

abbrev pub verbose_of : Setting → Option Bool
verbose_of (Port n) = None
verbose_of (Workers n) = None
verbose_of (Verbose b) = Some b

-- the last value that is set, or the default if there is none
abbrev pub last_set : {V : Type 0} → (Setting → Option V) → V → List Setting → V
last_set value_of default [] = default
last_set value_of default (s ∷ ss) = last_set value_of (unwrap_or (value_of s) default) ss

-- each setting has the value that was set last, or its default
abbrev pub AreAfter : List Setting → Settings → Type 0
AreAfter ss settings = (settings.port ≡ last_set port_of 8080 ss) × (settings.workers ≡ last_set workers_of 1 ss)
    × (settings.verbose ≡ last_set verbose_of false ss)

-- the settings of these lines
abbrev pub AreSettingsOf : List (List ℕ) → Settings → Type 0
AreSettingsOf ls settings = (ss : List Setting) × SetInOrder ls ss × AreAfter ss settings

-- Line n, counted from 1, is the first bad one: each line before it sets something, and line n sets nothing.
abbrev pub IsFirstBadLine : List (List ℕ) → ℕ → Type 0
IsFirstBadLine ls n = (before : List (List ℕ)) × (line : List ℕ) × (after : List (List ℕ)) × (ls ≡ before ++ line ∷ after) × (n ≡ length before + 1)
    × ((ss : List Setting) × SetInOrder before ss) × SetsNothing line

-- the answer for a text: its settings, or its first bad line
abbrev pub IsAnswerFor : List ℕ → Result Settings BadLine → Type 0
IsAnswerFor text answer = MatchResult answer (AreSettingsOf (lines text)) (λ bad. IsFirstBadLine (lines text) bad.number)
