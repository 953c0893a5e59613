-- What a closed log owns, and what a blank log owns. The other tokens own what a trace and its watches own.
use Rattle.std.specs.Prelude.{ℕ, List, []}
use base.Fraction.{full_share}
use base.Stored.{Gv}
use base.Growing.{latest}
use base.Fml.{Fml}
use Rattle.spin_core.specs.Logs.{logs, log_shares}

-- a share of the right to append that is never given back: so nobody can append again
unfoldable pub closed_owns : {T : Type 0} → (T → Gv) → ℕ → List T → Fml
closed_owns c γ l = log_shares c γ l []

-- what a blank log owns, whose entry type is not yet fixed
unfoldable pub blank_owns : ℕ → Fml
blank_owns γ = latest logs full_share γ []
