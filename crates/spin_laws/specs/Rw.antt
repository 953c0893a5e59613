-- Progress of a read-write lock: in how many rounds an upgrade is granted, or some waiting call.
use Rattle.std.specs.List.{list_any}
use Rattle.std.specs.Prelude.{◌≡◌, ℕ, Bool, false, None, true, if◌then◌else◌, Option, List, [], ◌∷◌}
use Rattle.spin_step.specs.Plain.{Kind, Holder, reading, upgradable, asking, writing, same_kind, is_holder}
use Rattle.spin_step.specs.Machines.{Machine}
use Rattle.spin_step.specs.Schedules.{Entry}
use Rattle.spin_step.specs.declared.place.Hold.{Hold}
use Rattle.spin_step.specs.declared.schedule.Move.TheVariants.{Weak}
use Rattle.spin_world_core.specs.Runs.{Seen, opening}
use Rattle.spin_world_core.specs.Users.{seen_after}
use Rattle.spin_laws.specs.Rounds.{Test, InRounds, AtLast, either, grants_party, grants_any, refuses_weakly, is_call_step}

-- the party has asked to upgrade
abbrev pub HasAsked : {W V C L : Type 0} → Seen W V C L → ℕ → C → Option Hold → Type 0
HasAsked seen p c h = is_holder p asking seen.plain.holders ≡ true

-- A party that has asked to upgrade gets its upgrade in three rounds, or its exchange fails spuriously
abbrev pub UpgradesInThree : {W V C L A : Type 0} → Machine W V C L A → ℕ → List (Entry C V) → List (List (Entry C V)) → Type 0
UpgradesInThree m = InRounds m HasAsked 3 (λ p. either (grants_party m p) (refuses_weakly p))

-- A party that has asked to upgrade never starves: in an endless fair schedule its upgrade is granted, or its exchange
-- fails spuriously
abbrev pub UpgradesAtLast : {W V C L A : Type 0} → Machine W V C L A → ℕ → List (Entry C V) → (ℕ → Entry C V) → Type 0
UpgradesAtLast m = AtLast m HasAsked (λ p. either (grants_party m p) (refuses_weakly p))

-- some exchange fails spuriously
abbrev pub refuses_any : {V C L A : Type 0} → Test V C L A
refuses_any q move o x = elim move [ Weak ↦ is_call_step o | _ ↦ false ]

-- the kind of the first holder that does not just read; `reading` if there is no such holder
abbrev pub leading : List Holder → Kind
leading [] = reading
leading (h ∷ hs) = if same_kind reading h.kind then leading hs else h.kind

-- in how many rounds some party is granted what it asks, by the kind that `leading` gives and whether others read too
abbrev pub rounds_by : Kind → Bool → ℕ
rounds_by reading reads = if reads then 4 else 2
rounds_by upgradable reads = if reads then 6 else 5
rounds_by asking reads = if reads then 3 else 1
rounds_by writing reads = 6

abbrev pub rounds_beside : List Holder → ℕ
rounds_beside hs = rounds_by (leading hs) (list_any (λ h. same_kind reading h.kind) hs)

-- the party waits, and holds nothing
abbrev pub WaitsWithout : {W V C L A : Type 0} → Machine W V C L A → Seen W V C L → ℕ → C → Option Hold → Type 0
WaitsWithout m seen p c h = (h ≡ None) × ((m.asks c h).waits ≡ true)

-- While a party that holds nothing waits, some party is granted what it asks in `rounds_beside` rounds, or some exchange
-- fails spuriously. The present holders decide this number of rounds.
abbrev pub GrantsSomebody : {W V C L A : Type 0} → Machine W V C L A → ℕ → List (Entry C V) → List (List (Entry C V)) → Type 0
GrantsSomebody m n past =
    let bound = rounds_beside (seen_after m (opening m n) past).plain.holders in
    InRounds m (WaitsWithout m) bound (λ p. either (grants_any m) refuses_any) n past

-- Deadlock freedom: while a party that holds nothing waits, in an endless fair schedule some party is granted what it
-- asks, or some exchange fails spuriously
abbrev pub RwIsDeadlockFree : {W V C L A : Type 0} → Machine W V C L A → ℕ → List (Entry C V) → (ℕ → Entry C V) → Type 0
RwIsDeadlockFree m = AtLast m (WaitsWithout m) (λ p. either (grants_any m) refuses_any)
