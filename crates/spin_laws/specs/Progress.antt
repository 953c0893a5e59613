-- Progress of threads. The laws of progress of the model also allow that an exchange fails spuriously. In a history of
-- threads none does, so here some thread is granted what it asks.
use Rattle.std.specs.Prelude.{◌≡◌, ℕ, List, ◌++◌}
use Rattle.spin_core.specs.Run.{IsPlayed}
use Rattle.spin_step.specs.Machines.{Machine}
use Rattle.spin_step.specs.Schedules.{Entry}
use Rattle.spin_world_core.specs.Joined.{joined}
use Rattle.spin_world_core.specs.Runs.{opening}
use Rattle.spin_world_core.specs.Users.{seen_after}
use Rattle.spin_laws.specs.Rounds.{InRounds, IsWaiting, grants_party, grants_any}
use Rattle.spin_laws.specs.Rw.{HasAsked, WaitsWithout, rounds_beside}

-- The history `log` is a schedule of the model for some number of parties, and none of its moves is skipped. P holds of
-- this number, and of each way to cut the history into its first moves, some rounds, and the rest.
abbrev pub InHistory : {W V C L A : Type 0} → Machine W V C L A → List (Entry C V) → (ℕ → List (Entry C V) → List (List (Entry C V)) → Type 0) → Type 0
InHistory {V = V} {C = C} m log P =
    (came : ℕ) × IsPlayed m came log × ((past rest : List (Entry C V)) (rounds : List (List (Entry C V))) → log ≡ past ++ (joined rounds ++ rest) → P came past rounds)

-- while a party waits in a call, in every four rounds some party is granted what it asks
abbrev pub GrantsInFour : {W V C L A : Type 0} → Machine W V C L A → ℕ → List (Entry C V) → List (List (Entry C V)) → Type 0
GrantsInFour m = InRounds m (IsWaiting m) 4 (λ p. grants_any m)

-- while a party that holds nothing waits in a call, some party is granted what it asks in `rounds_beside` rounds
abbrev pub GrantsBeside : {W V C L A : Type 0} → Machine W V C L A → ℕ → List (Entry C V) → List (List (Entry C V)) → Type 0
GrantsBeside m n past =
    InRounds m (WaitsWithout m) (rounds_beside (seen_after m (opening m n) past).plain.holders) (λ p. grants_any m) n past

-- a party that has asked to upgrade is granted its upgrade in three rounds
abbrev pub GrantsTheUpgrade : {W V C L A : Type 0} → Machine W V C L A → ℕ → List (Entry C V) → List (List (Entry C V)) → Type 0
GrantsTheUpgrade m = InRounds m HasAsked 3 (grants_party m)
