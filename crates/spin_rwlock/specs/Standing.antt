-- Who holds a read-write lock, counted over its parties.
use Rattle.std.specs.Prelude.{◌≡◌, ℕ, ◌+◌, ◌<◌, ◌≤◌, Bool, false, List, count_by}
use Rattle.spin_step.specs.Plain.{Kind, reading, upgradable, asking, writing, same_kind}
use Rattle.spin_step_more.specs.Readers.{reader_limit}
use Rattle.spin_core.specs.Views.{Part, holds, holds_starving, part_at}
use Rattle.spin_rwlock.specs.Rw.{part, View}

-- whether a party with this part is a holder of this kind
abbrev pub is_of_kind : Kind → Part → Bool
is_of_kind k (holds j) = same_kind k j
is_of_kind k holds_starving = same_kind k writing
is_of_kind k _ = false

abbrev pub has_kind : Kind → View → Bool
has_kind k v = is_of_kind k (part v)

-- how many parties are holders of this kind
abbrev pub held : Kind → List View → ℕ
held k vs = count_by (has_kind k) vs

abbrev pub readers : List View → ℕ
readers vs = held reading vs

abbrev pub upgradables : List View → ℕ
upgradables vs = held upgradable vs

abbrev pub askers : List View → ℕ
askers vs = held asking vs

abbrev pub writers : List View → ℕ
writers vs = held writing vs

abbrev pub holders : List View → ℕ
holders vs = ((readers vs + upgradables vs) + askers vs) + writers vs

-- At most one reader is upgradable, whether or not it has asked. A writer holds alone. The holders are within the limit.
pub record ReadersOrWriter (vs : List View) : Type 0 where
  pub one_upgradable : upgradables vs + askers vs ≤ 1
  pub writer_alone : 0 < writers vs → holders vs ≡ 1
  pub within_limit : holders vs ≤ reader_limit

-- the party with this number is a holder of this kind
abbrev pub HoldsAt : List View → ℕ → Kind → Type 0
HoldsAt vs p k = part_at part vs p ≡ holds k
