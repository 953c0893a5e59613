-- A cell whose `Second` is a trace. A step changes a word and appends to the trace: what it must show, and what it
-- tells.
use Rattle.std.specs.Prelude.{◌≡◌, ◌⊎◌, ℕ, ◌<◌, List, [], ◌++◌, Option}
use mathlib.Core.List.{IsPrefix}
use Rattle.spin_core.specs.declared.trace.Trace.{Trace}
use Rattle.spin_core.specs.declared.trace.Watch.{Watch}
use Rattle.spin_core.specs.declared.cell.Permit.{Permit}
use Rattle.spin_core.specs.Cell.{Use, Knowledge, no_fact, knows, Ways, Going, Carrying, Learns, Keeps, MeetsRule, Moved, HasView, OnWord, by_first, by_second, after, use_of, readers_of, word_limit}

module _ {E S : Type 0} where
  -- the trace with these entries appended
  abbrev pub grown : Trace E S → List E → Trace E S
  grown t es = record { word = t.word; marker = t.marker; name = t.name; entries = t.entries ++ es }

  -- the trace with these entries appended, and this word beside it
  abbrev pub grown_at : Trace E S → S → List E → Trace E S
  grown_at t word es = record { word = word; marker = t.marker; name = t.name; entries = t.entries ++ es }

module _ {E : Type 0} where
  -- A step got the watch `before`, and returned the watch `now`. `now` knows the trace before the step (log), which
  -- begins with what `before` knew, and the entries that the step appended (es). `told` holds of log and es. If
  -- `before` was a watch of this trace (`named`), `now` has the same name.
  abbrev pub Watches : {V : Type 0} → Type 0 → Watch E → Watch E → (List E → List E → ℕ → V → Type 0) → ℕ → V → Type 0
  Watches named before now told n v = (named → now.name ≡ before.name) × ((log es : List E) × IsPrefix before.entries log × (now.entries ≡ log ++ es) × told log es n v)

-- what a party learns of the value by a step after which the trace has the entries es
abbrev pub Learnt : {X E S : Type 0} → Knowledge (Trace E S) X → Use → Use → Option X → Option X → List E → Type 0
Learnt no_fact u v before after es = Unit {0}
Learnt {E = E} {S = S} (knows φ) u v before after es = (t : Trace E S) × (t.entries ≡ es) × Learns (φ t) u v before after

-- what a party learns of the value, given its views before and after the step and a watch that knows the whole trace
abbrev pub Found : {X V E S : Type 0} → Ways X V (Trace E S) → Option V → Option V → Option X → Option X → Watch E → Type 0
Found ways view new before after seen = Learnt ways.2 (use_of ways.1 view) (use_of ways.1 new) before after seen.entries

module _ {X V E S : Type 0} (holds : ℕ → Trace E S → List V → Type 0) (ways : Ways X V (Trace E S)) where
  -- the rule says that the trace has this name
  abbrev pub Named : ℕ → Type 0
  Named name = (n : ℕ) (t : Trace E S) (vs : List V) → MeetsRule holds ways n t vs → t.name ≡ name

  -- the watch is a watch of this trace, or knows nothing yet
  abbrev pub MayKnow : Watch E → Type 0
  MayKnow seen = (seen.entries ≡ []) ⊎ Named seen.name

  -- What a step on a word must show. Whatever the words, the trace and the views are, there are a next view for the
  -- party and entries to append that keep the rule.
  abbrev pub TracesTo : Option V → Option X → OnWord S → (List E → List E → ℕ → V → Type 0) → Type 0
  TracesTo view shown g told = (id n : ℕ) (t : Trace E S) (vs : List V) → let s = g.0 (n, t.word) in
      let found = g.1 (n, t.word) in MeetsRule holds ways n t vs → HasView id view vs → found < word_limit
      → (w : V) × (es : List E) × Going ways.0 (use_of ways.1 view) (ways.1 w) shown (readers_of ways.1 vs)
      (Carrying ways.2 t (grown_at t s.1 es) (use_of ways.1 view) (ways.1 w) shown
      (MeetsRule holds ways s.0 (grown_at t s.1 es) (after id view vs w))) × told t.entries es found w

  -- a step that applies f to the first word
  abbrev pub Traces : Option V → Option X → (ℕ → ℕ) → (List E → List E → ℕ → V → Type 0) → Type 0
  Traces view shown f told = TracesTo view shown (by_first f) told

-- a step that applies f to the second word
module _ {X V E : Type 0} (holds : ℕ → Trace E ℕ → List V → Type 0) (ways : Ways X V (Trace E ℕ)) where
  abbrev pub TracesSecond : Option V → Option X → (ℕ → ℕ) → (List E → List E → ℕ → V → Type 0) → Type 0
  TracesSecond view shown f told = TracesTo holds ways view shown (by_second f) told

-- A party has made a step on a word, which found the number n, and which says what `told` says. Before it the party had this permit and this
-- watch; now it has the permit `now` and the watch `known`.
pub record MadeStep {T V E S K P : Type 0} (holds : K → ℕ → Trace E S → List V → Type 0) (ways : K → Ways T V (Trace E S))
    (told : K → Option V → List E → List E → ℕ → V → Type 0) (before : Permit T V P K (Trace E S)) (seen : Watch E) (n : ℕ)
    (now : Permit T V P K (Trace E S)) (known : Watch E) : Type 0 where
  pub moved : Moved (Watches (Named (holds before.key) (ways before.key) seen.name) seen known (told before.key before.view) n) now.view
  pub kept : Keeps (ways before.key) before.view now.view before.value now.value
  pub found : Found (ways before.key) before.view now.view before.value now.value known
  pub key : now.key ≡ before.key
