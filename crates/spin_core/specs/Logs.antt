-- What a trace (`log_owns`) and a watch (`known_owns`) own. The algebra has the codes of the entries, so it names no
-- type parameter.
use Rattle.std.specs.Prelude.{◌≡◌, ◌⊎◌, ℕ, List, [], ◌∷◌, map}
use mathlib.Core.List.{IsPrefix}
use base.Fraction.{full_share}
use base.Stored.{Gv}
use base.Growing.{Order, prefixes, latest, at_least}
use base.Fml.{Share, Lft, Fml, ftrue}
use denote.Sharing.{one}
use Rattle.atomic_table.specs.Seated.{itself}

abbrev pub logs : Order (List Gv)
logs = prefixes itself

-- a share of the right to append to the log, whose entries are l
abbrev pub log_part : {T : Type 0} → (T → Gv) → ℕ → List T → Share → Fml
log_part c γ l q = latest logs q γ (map c l)

-- what a `&` to a log owns: some share of the right to append
abbrev pub log_shares : {T : Type 0} → (T → Gv) → ℕ → List T → Lft → Fml
log_shares c γ l = one (log_part c γ l)

-- the whole right to append
abbrev pub log_owns : {T : Type 0} → (T → Gv) → ℕ → List T → Fml
log_owns c γ l = log_part c γ l full_share

-- A lower bound: the log begins with these entries. The empty list is known of any log, under any name.
unfoldable pub known_owns : {T : Type 0} → (T → Gv) → ℕ → List T → Fml
known_owns c γ [] = ftrue
known_owns c γ (x ∷ l) = at_least logs γ (map c (x ∷ l))

-- one of two lists is a prefix of the other
abbrev pub OneIsPrefix : {T : Type 0} → List T → List T → Type 0
OneIsPrefix k l = IsPrefix k l ⊎ IsPrefix l k

-- m is the longer of two lists, and has both as prefixes
abbrev pub KnowsBoth : {T : Type 0} → List T → List T → List T → Type 0
KnowsBoth k l m = IsPrefix k m × IsPrefix l m × ((m ≡ k) ⊎ (m ≡ l))
