-- The raw cell as plain data: its parties, how each may use the value, and what a step must show of the rule.
use Rattle.std.specs.Prelude.{◌≡◌, ℕ, zero, suc, ◌+◌, ◌*◌, ◌<◌, ◌≤◌, Bool, true, false, List, [], ◌∷◌, ◌++◌, Option, Some, None, slice_set, sum_by}
use Rattle.std.specs.Option.{IfSome, MatchOption}
use mathlib.Core.Option.{some}
use lib.ListN.{get_elem?}

-- how a party may use the value
pub data Use : Type 0 where
  off : Use
  reads : Use
  writes : Use

-- How the parties share a value of type X. `alone`: one user at a time. `lends`: many readers, or one writer.
-- `fixes fact`: like `lends`, but a party may also read for ever. Under `fixes`, `fact true` holds of a value that
-- somebody reads, and `fact false` of a value that nobody uses.
pub data Way (X : Type 0) : Type 1 where
  alone : Way X
  lends : Way X
  fixes : (Bool → X → Type 0) → Way X

-- What is known of a value that nobody writes: nothing, or a fact that relates the value to what the cell keeps beside
-- it (its `Second`): a trace, perhaps with a second word.
pub data Knowledge (S X : Type 0) : Type 1 where
  no_fact : Knowledge S X
  knows : (S → X → Type 0) → Knowledge S X

-- how the parties of a rule use the value: the way, the use of each view, and the fact known of the value
abbrev pub Ways : Type 0 → Type 0 → Type 0 → Type 1
Ways X V S = Way X × (V → Use) × Knowledge S X

-- counts 1 for a party that reads
abbrev pub reading : Use → ℕ
reading u = elim u [ reads ↦ 1 | _ ↦ 0 ]

-- counts 1 for a party that writes
abbrev pub writing : Use → ℕ
writing u = elim u [ writes ↦ 1 | _ ↦ 0 ]

module _ {V : Type 0} (f : V → Use) where
  -- the use of a permit's party; a permit that has taken no step has no view, and does not use the value
  abbrev pub use_of : Option V → Use
  use_of view = elim view [ None ↦ off | Some v ↦ f v ]

  abbrev pub readers_of : List V → ℕ
  readers_of vs = sum_by (λ v. reading (f v)) vs

  abbrev pub writers_of : List V → ℕ
  writers_of vs = sum_by (λ v. writing (f v)) vs

-- how many different numbers a word can hold
abbrev pub word_limit : ℕ
word_limit = 18446744073709551616

-- how many parties may read at once in the way `lends`
abbrev pub most_readers : ℕ
most_readers = 4611686018427387904

module _ {X : Type 0} where
  -- in this way r parties may read and w parties may write at once
  abbrev pub Limits : Way X → ℕ → ℕ → Type 0
  Limits alone r w = r + r + w ≤ 1
  Limits lends r w = r + most_readers * w ≤ most_readers
  Limits (fixes fact) r w = (w ≤ 1) × (0 < w → r ≡ 0)

  -- what the way `fixes` says of a value with r readers and w writers
  abbrev pub Fixed : Way X → ℕ → ℕ → X → Type 0
  Fixed (fixes fact) (suc r) w x = fact true x
  Fixed (fixes fact) zero zero x = fact false x
  Fixed _ r w x = Unit {0}

  -- what the way `fixes` says of a value to a party that reads it
  abbrev pub Seen : Way X → X → Type 0
  Seen way x = Fixed way 1 0 x

  -- the way is `fixes`: a party that reads the value may read it for ever
  abbrev pub Fixes : Way X → Type 0
  Fixes way = elim way [ fixes fact ↦ Unit {0} | _ ↦ ⊥ ]

  -- in the way `fixes` a new cell may have these views, of parties that have no permit; in the other ways it has none
  abbrev pub IsNew : {V : Type 0} → Way X → List V → Type 0
  IsNew way vs = elim way [ fixes fact ↦ Unit {0} | _ ↦ vs ≡ [] ]

  -- several parties may read the value at once
  abbrev pub IsShared : Way X → Type 0
  IsShared way = elim way [ alone ↦ ⊥ | _ ↦ Unit {0} ]

  -- in this way any value may replace one that nobody uses
  abbrev pub Frees : Way X → Type 0
  Frees way = elim way [ fixes fact ↦ (read : Bool) (x : X) → fact read x | _ ↦ Unit {0} ]

  -- the known fact, if there is one, holds of the value x and the `Second` m
  abbrev pub IsKnown : {S : Type 0} → Knowledge S X → S → X → Type 0
  IsKnown k m x = elim k [ no_fact ↦ Unit {0} | knows φ ↦ φ m x ]

  -- A holds; if there is a known fact and nobody writes, that fact holds too
  abbrev pub Knowing : {S : Type 0} → Knowledge S X → S → ℕ → X → Type 0 → Type 0
  Knowing (knows φ) m zero x A = φ m x × A
  Knowing _ m w x A = A

  -- A holds; if there is a known fact, that fact holds of every value
  abbrev pub Freeing : {S : Type 0} → Knowledge S X → Type 0 → Type 0
  Freeing {S} k A = elim k [ no_fact ↦ A | knows φ ↦ ((m : S) (x : X) → φ m x) × A ]

  -- What a step must show if the known fact is φ before it and ψ after it. A party that stops writing shows ψ of the
  -- value that it leaves. A party that writes on shows nothing. Any other party shows that φ implies ψ.
  abbrev pub Carries : (X → Type 0) → (X → Type 0) → Use → Use → Option X → Type 0
  Carries φ ψ writes writes shown = Unit {0}
  Carries φ ψ writes _ shown = IfSome shown ψ
  Carries φ ψ _ _ shown = (x : X) → φ x → ψ x

  -- What a step tells its party of the value shown before and after the step. A party that writes on learns nothing. A
  -- party that stops using the value learns ψ of the value shown before. Any other party learns ψ of the value shown
  -- after, if there is one.
  abbrev pub Learns : (X → Type 0) → Use → Use → Option X → Option X → Type 0
  Learns ψ writes writes before after = Unit {0}
  Learns ψ off v before after = IfSome after ψ
  Learns ψ _ off before after = IfSome before ψ
  Learns ψ _ _ before after = IfSome after ψ

  -- what a step must show of the known fact, if the step changes the `Second` from m to m'
  abbrev pub Owed : {S : Type 0} → Knowledge S X → S → S → Use → Use → Option X → Type 0
  Owed k m m' u v shown = elim k [ no_fact ↦ Unit {0} | knows φ ↦ Carries (φ m) (φ m') u v shown ]

  -- A holds; if there is a known fact, the step from m to m' also shows what `Carries` asks
  abbrev pub Carrying : {S : Type 0} → Knowledge S X → S → S → Use → Use → Option X → Type 0 → Type 0
  Carrying k m m' u v shown A = elim k [ no_fact ↦ A | knows φ ↦ Carries (φ m) (φ m') u v shown × A ]

  -- What a step must show in the way `fixes`, while r parties read. A party that begins to read shows that somebody reads already. A party
  -- that stops writing shows the fact of the value that it leaves.
  abbrev pub Owes : (Bool → X → Type 0) → Use → Use → Option X → ℕ → Type 0
  Owes fact off reads shown r = 0 < r
  Owes fact writes reads (Some x) r = fact true x
  Owes fact writes off (Some x) r = fact false x
  Owes fact _ _ shown r = Unit {0}

  -- A holds; in the way `fixes` a reader keeps reading, and the party shows what `Owes` says
  abbrev pub Going : Way X → Use → Use → Option X → ℕ → Type 0 → Type 0
  Going (fixes fact) u v shown r A = (u ≡ reads → v ≡ reads) × Owes fact u v shown r × A
  Going _ u v shown r A = A

  -- a party that was shown the value `before` is now shown the same value; a party that was shown none is now shown some value
  abbrev pub SameValue : Option X → Option X → Type 0
  SameValue before after = elim before [ None ↦ (x : X) × (after ≡ Some x) | Some x ↦ after ≡ Some x ]

  abbrev pub Shows : Use → Option X → Option X → Type 0
  Shows off before after = after ≡ None
  Shows _ before after = SameValue before after

  -- in the way `fixes`, the fact that a party learns when it begins to use the value
  abbrev pub Finds : Way X → Use → Use → Option X → Type 0
  Finds (fixes fact) off reads (Some x) = fact true x
  Finds (fixes fact) off writes (Some x) = fact false x
  Finds _ u v after = Unit {0}

  abbrev pub Preserves : Way X → Use → Use → Option X → Option X → Type 0
  Preserves way u v before after = Shows v before after × Finds way u v after

  -- After a step from one view to the next, a party that goes on using the value is shown the same value. A new user
  -- of the value learns what `Finds` says.
  abbrev pub Keeps : {V S : Type 0} → Ways X V S → Option V → Option V → Option X → Option X → Type 0
  Keeps ways view new before after = Preserves ways.0 (use_of ways.1 view) (use_of ways.1 new) before after

module _ {V : Type 0} where
  -- the party has this view, or has no view yet
  abbrev pub HasView : ℕ → Option V → List V → Type 0
  HasView id view vs = IfSome view (λ v. get_elem? vs id ≡ some v)

  -- the views after the party got a new one
  abbrev pub after : ℕ → Option V → List V → V → List V
  after id view vs w = elim view [ None ↦ vs ++ w ∷ [] | Some v ↦ slice_set vs id w ]

  -- the party may leave: it does not use the value, and the rule also holds without its view
  abbrev pub Rests : {S : Type 0} → (ℕ → S → List V → Type 0) → (V → Use) → Option V → Type 0
  Rests {S} holds f view = IfSome view (λ v. (f v ≡ off)
      × ((n : ℕ) (m : S) (before behind : List V) → holds n m (before ++ v ∷ behind) → holds n m (before ++ behind)))

-- a step on one of the words of a cell: the words after it, and the number that it finds
abbrev pub OnWord : Type 0 → Type 0
OnWord S = (ℕ × S → ℕ × S) × (ℕ × S → ℕ)

-- a step that applies f to the first word
abbrev pub by_first : {S : Type 0} → (ℕ → ℕ) → OnWord S
by_first f = (λ s. (f s.0, s.1), λ s. s.0)

-- a step that applies f to the second word
abbrev pub by_second : (ℕ → ℕ) → OnWord ℕ
by_second f = (λ s. (s.0, f s.1), λ s. s.1)

module _ {X V S : Type 0} (holds : ℕ → S → List V → Type 0) (ways : Ways X V S) where
  -- the rule holds of the words and the views, and the uses are within the limits
  abbrev pub MeetsRule : ℕ → S → List V → Type 0
  MeetsRule n m vs = holds n m vs × Limits ways.0 (readers_of ways.1 vs) (writers_of ways.1 vs)

  -- The rule holds of these words and of some views, within the limits. What is known of the value holds too.
  abbrev pub Starts : ℕ → S → X → Type 0
  Starts n m x = (vs : List V) × MeetsRule n m vs × Knowing ways.2 m (writers_of ways.1 vs) x (Fixed ways.0 (readers_of ways.1 vs) (writers_of ways.1 vs) x)

  -- Like `Starts`, for a new cell. In the ways `alone` and `lends` there are no views, since nobody has used the cell.
  -- In the way `fixes` there may be the views of parties that have no permit.
  abbrev pub Opens : ℕ → S → X → Type 0
  Opens n m x = (vs : List V) × IsNew ways.0 vs × MeetsRule n m vs × Knowing ways.2 m (writers_of ways.1 vs) x (Fixed ways.0 (readers_of ways.1 vs) (writers_of ways.1 vs) x)

  -- What a step on a word must show. `shown` is the value that the step's party is shown, if any. Whatever the words
  -- and the views are, the party has a next view that keeps the rule.
  abbrev pub AllowsTo : Option V → Option X → OnWord S → (ℕ → V → Type 0) → Type 0
  AllowsTo view shown g then = (id n : ℕ) (m : S) (vs : List V) → let s = g.0 (n, m) in let found = g.1 (n, m) in
      MeetsRule n m vs → HasView id view vs → found < word_limit
      → (w : V) × Going ways.0 (use_of ways.1 view) (ways.1 w) shown (readers_of ways.1 vs)
      (MeetsRule s.0 s.1 (after id view vs w)) × then found w

  -- a step that applies f to the first word
  abbrev pub AllowsAt : Option V → Option X → (ℕ → ℕ) → (ℕ → V → Type 0) → Type 0
  AllowsAt view shown f then = AllowsTo view shown (by_first f) then

-- Where the rule held under the old key it holds under the new one. Each view uses the value as under the old key.
-- Several parties may share the value only if they might do so under the old key.
module _ {X V S : Type 0} (holds : ℕ → S → List V → Type 0) (ways : Ways X V S) (holds' : ℕ → S → List V → Type 0) (ways' : Ways X V S) where
  abbrev pub MayLend : Type 0
  MayLend = (IsShared ways'.0 → IsShared ways.0) × ((v : V) → ways'.1 v ≡ ways.1 v) × ((n : ℕ) (m : S) (x : X) → Starts holds ways n m x → Starts holds' ways' n m x)

-- the party now has a view of which P holds
abbrev pub Moved : {V : Type 0} → (V → Type 0) → Option V → Type 0
Moved P view = MatchOption view ⊥ P
