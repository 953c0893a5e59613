-- The one history of a lock's calls, what each pass knows of it, and what a step tells.
use Rattle.std.specs.Prelude.{◌≡◌, ◌≢◌, ℕ, ◌+◌, ◌<◌, ◌≤◌, Bool, true, cond, ◌==◌, List, [], ◌∷◌, ◌++◌, Option, Some, None, slice_index, slice_set, map}
use Rattle.std.specs.List.{filter}
use Rattle.std.specs.List.{range_with_len}
use mathlib.Core.Option.{some}
use lib.ListN.{get_elem?}
use Rattle.atomic_table.specs.Table.{State, Step, Me}
use Rattle.spin_seated.specs.declared.history.Entry.{Entry}
use Rattle.spin_seated.specs.declared.history.Known.{Known}

-- The plain object. The arguments of `new` fix its first state and the number of passes. For a pass, a call and a state
-- it says whether the pass may make the call, the answer, and the next state. `holds` is what a pass holds in a state.
-- `held_after` is what it holds after a call of its own, by the call's answer and what it held before.
pub record PlainObject (K S C A H : Type 0) : Type 0 where
  pub start : K → S
  pub passes : K → ℕ
  pub words : S → List ℕ
  pub may : ℕ → C → S → Bool
  pub answer : ℕ → C → S → A
  pub next : ℕ → C → S → S
  pub holds : ℕ → S → H
  pub held_after : C → A → H → H

-- the list `all` begins with the list `first`
pub record BeginsWith {X : Type 0} (all first : List X) : Type 0 where
  pub rest : List X
  pub is : all ≡ first ++ rest

-- the sum of f over the list
abbrev pub total : {X : Type 0} → (X → ℕ) → List X → ℕ
total f [] = 0
total f (x ∷ xs) = f x + total f xs

-- the list has exactly one element, and P holds of it
abbrev pub One : {X : Type 0} → (X → Type 0) → List X → Type 0
One P [] = ⊥
One P (x ∷ []) = P x
One P (x ∷ y ∷ xs) = ⊥

-- the list has exactly two elements, and P holds of them
abbrev pub Two : {X : Type 0} → (X → X → Type 0) → List X → Type 0
Two P [] = ⊥
Two P (x ∷ []) = ⊥
Two P (x ∷ y ∷ []) = P x y
Two P (x ∷ y ∷ z ∷ xs) = ⊥

module _ {C A : Type 0} where
  abbrev pub entry : ℕ → C → A → Entry C A
  entry p c a = record { pass = p; call = c; answer = a }

  -- the calls of one pass, in their order in the history
  abbrev pub calls_by : ℕ → List (Entry C A) → List (Entry C A)
  calls_by p es = filter (λ e. e.pass == p) es

module _ {K C A : Type 0} where
  -- the calls that a pass knows to be its own
  abbrev pub own_calls : Known K C A → List (Entry C A)
  own_calls x = calls_by x.pass x.seen

  -- a pass that has made no call and knows of none
  abbrev pub newcomer : K → ℕ → Known K C A
  newcomer k p = record { opening = k; pass = p; seen = [] }

  -- how often this pass is in the view
  abbrev pub names : ℕ → List (Known K C A) → ℕ
  names p v = total (λ x. cond (x.pass == p) 1 0) v

module _ {K S C A H : Type 0} (m : PlainObject K S C A H) where
  -- the state after these calls
  abbrev pub after : S → List (Entry C A) → S
  after s [] = s
  after s (e ∷ es) = after (m.next e.pass e.call s) es

  -- each call is made by one of n passes, in a state where that pass may make it, and has the machine's answer
  abbrev pub IsLegalFrom : ℕ → S → List (Entry C A) → Type 0
  IsLegalFrom n s [] = Unit {0}
  IsLegalFrom n s (e ∷ es) =
      (e.pass < n) × (m.may e.pass e.call s ≡ true) × (e.answer ≡ m.answer e.pass e.call s) × IsLegalFrom n (m.next e.pass e.call s) es

  abbrev pub state : K → List (Entry C A) → S
  state k log = after (m.start k) log

  abbrev pub IsLegal : K → List (Entry C A) → Type 0
  IsLegal k log = IsLegalFrom (m.passes k) (m.start k) log

  -- what a pass holds at the end of the history that it knows
  abbrev pub holds : Known K C A → H
  holds x = m.holds x.pass (state x.opening x.seen)

  -- what a pass holds follows from its own calls; calls of other passes do not change it
  pub record IsTracked : Type 0 where
    pub own : (k : K) (log : List (Entry C A)) (p : ℕ) (c : C) → IsLegal k log → m.may p c (state k log) ≡ true
        → m.holds p (m.next p c (state k log)) ≡ m.held_after c (m.answer p c (state k log)) (m.holds p (state k log))
    pub steady : (p q : ℕ) (c : C) (s : S) → q ≢ p → m.holds p (m.next q c s) ≡ m.holds p s

  -- The pass x made the call c and got the answer a; now it knows what y says. The history of y is legal, extends that
  -- of x, and ends with this call and its answer. In between the pass made no other call.
  pub record Made (x : Known K C A) (c : C) (a : A) (y : Known K C A) : Type 0 where
    pub opening : y.opening ≡ x.opening
    pub pass : y.pass ≡ x.pass
    pub between : List (Entry C A)
    pub history : y.seen ≡ (x.seen ++ between) ++ entry x.pass c a ∷ []
    pub own : calls_by x.pass y.seen ≡ calls_by x.pass x.seen ++ entry x.pass c a ∷ []
    pub legal : IsLegal x.opening y.seen

  -- The pass x now knows the history `log`, as y says. This history is legal and begins with the history of x. In
  -- between the pass made no call.
  pub record Met (x : Known K C A) (log : List (Entry C A)) (y : Known K C A) : Type 0 where
    pub opening : y.opening ≡ x.opening
    pub pass : y.pass ≡ x.pass
    pub history : y.seen ≡ log
    pub begins : BeginsWith log x.seen
    pub own : calls_by x.pass log ≡ calls_by x.pass x.seen
    pub legal : IsLegal x.opening log

  -- What the pass knows agrees with the history of all calls: it is a beginning of that history, and has all calls of
  -- the pass.
  pub record Fits (k : K) (log : List (Entry C A)) (x : Known K C A) : Type 0 where
    pub opening : x.opening ≡ k
    pub given : x.pass < m.passes k
    pub begins : BeginsWith log x.seen
    pub own : calls_by x.pass log ≡ calls_by x.pass x.seen

  abbrev pub AllFit : K → List (Entry C A) → List (Known K C A) → Type 0
  AllFit k log [] = Unit {0}
  AllFit k log (x ∷ xs) = Fits k log x × AllFit k log xs

  -- The rule of the table. There is one legal history, and the words are those of the state after it. What each seat
  -- knows agrees with this history, and each pass is in at most one seat.
  pub record OneHistory {X : Type 0} (k : K) (table : State X (List (Known K C A))) : Type 0 where
    pub log : List (Entry C A)
    pub words : table.words ≡ m.words (state k log)
    pub legal : IsLegal k log
    pub fit : (id : ℕ) (v : List (Known K C A)) → get_elem? table.views id ≡ some v → AllFit k log v
    pub once : (p : ℕ) → total (names p) table.views ≤ 1

  -- The lock is closed with these passes, and then has this value. All calls form one legal history, with which what
  -- each of the passes knows agrees; the lock has the value after this history.
  abbrev pub Closes : K → List (Known K C A) → ℕ → Type 0
  Closes k all value = (log : List (Entry C A)) × IsLegal k log × AllFit k log all × (slice_index (m.words (state k log)) 1 ≡ value)

  -- the view of the first seat: all passes, before any call
  abbrev pub all_passes : K → List (Known K C A)
  all_passes k = map (newcomer k) (range_with_len 0 (m.passes k))

  -- what a pass knows before and after a step, which is this call with this answer, or no call
  abbrev pub Turned : Option (C × A) → Known K C A → Known K C A → Type 0
  Turned None x y = y ≡ x
  Turned (Some t) x y = Made x t.0 t.1 y

  -- what a pass holds after a step that is this call, or no call
  abbrev pub held_then : Option (C × A) → H → H
  held_then None h = h
  held_then (Some t) h = m.held_after t.0 t.1 h

  -- what a step of a seat with one pass tells: which call it was; the step's operand and the word found decide that
  abbrev pub Tells : {X : Type 0} → (ℕ → ℕ → Option (C × A)) → Step X → Me X (List (Known K C A)) → ℕ → Me X (List (Known K C A)) → Type 0
  Tells told step before found after = One (λ x. One (λ y. Turned (told step.first found) x y) after.0) before.0 × (after.1 ≡ before.1)

  -- what a step of a seat with two passes tells: both now know one history
  abbrev pub Shows : {X : Type 0} → Step X → Me X (List (Known K C A)) → ℕ → Me X (List (Known K C A)) → Type 0
  Shows step before found after = Two (λ x y. Two (λ u v. (log : List (Entry C A)) × Met x log u × Met y log v) after.0) before.0 × (after.1 ≡ before.1)

  -- What a lock must show for a step that applies f to the word i in the state s. If the step is no call, the words
  -- stay the same. If it is a call, the pass may make it, the words become those of the next state, and the answer is
  -- the machine's.
  abbrev pub IsOwedAt : (p i : ℕ) → (ℕ → ℕ) → S → Option (C × A) → Type 0
  IsOwedAt p i f s None = slice_set (m.words s) i (f (slice_index (m.words s) i)) ≡ m.words s
  IsOwedAt p i f s (Some t) =
      (m.may p t.0 s ≡ true) × (slice_set (m.words s) i (f (slice_index (m.words s) i)) ≡ m.words (m.next p t.0 s)) × (t.1 ≡ m.answer p t.0 s)

  -- The lock shows this (`IsOwedAt`) in the state after each legal history, if the pass then holds what it knows that it
  -- holds.
  abbrev pub OwesAlways : Known K C A → (i : ℕ) → (ℕ → ℕ) → (ℕ → Option (C × A)) → Type 0
  OwesAlways x i f told =
      (log : List (Entry C A)) → IsLegal x.opening log → m.holds x.pass (state x.opening log) ≡ holds x → slice_index (m.words (state x.opening log)) i < 18446744073709551616
      → IsOwedAt x.pass i f (state x.opening log) (told (slice_index (m.words (state x.opening log)) i))
