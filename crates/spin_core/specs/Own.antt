-- A trace whose parties know which entries are their own. A party's *number* is its place among all parties that ever
-- joined. Its *mark* is the length of the trace after its last step. The party has made no entry from there on.
use Rattle.std.specs.Prelude.{◌≡◌, ℕ, suc, ◌≤◌, Option, Some, None, List, [], ◌∷◌, ◌++◌, length, map, drop, ◌==◌}
use Rattle.std.specs.Option.{IfSome, option_map}
use Rattle.std.specs.List.{filter}
use Rattle.spin_step.specs.declared.place.Seat.{Seat}
use Rattle.spin_step.specs.declared.schedule.Move.{Move}
use Rattle.spin_step.specs.declared.schedule.Outcome.{Outcome}
use Rattle.spin_step.specs.Machines.{Machine}
use Rattle.spin_step.specs.Schedules.{Entry}
use Rattle.spin_core.specs.Run.{IsPlayed, AreOfCalls, LeadsTo, AreOwn}
use Rattle.spin_core.specs.declared.trace.Trace.{Trace}

-- what a party is (X), its number, and its mark
abbrev pub Numbered : Type 0 → Type 0
Numbered X = X × ℕ × ℕ

-- what the party is, whatever its number
abbrev pub what : {X : Type 0} → Option (Numbered X) → Option X
what view = option_map (λ u. u.0) view

-- how long the trace was after the party's last step
abbrev pub own_mark : {X : Type 0} → Option (Numbered X) → ℕ
own_mark view = elim view [ None ↦ 0 | Some u ↦ u.2 ]

-- the party has the number p, or no number yet
abbrev pub MayBe : {X : Type 0} → ℕ → Option (Numbered X) → Type 0
MayBe p view = IfSome view (λ u. p ≡ u.1)

-- the parties that have not left, from place k on
abbrev pub present_from : {X : Type 0} → ℕ → List (Option (X × ℕ)) → List (Numbered X)
present_from k [] = []
present_from k (None ∷ us) = present_from (suc k) us
present_from k (Some u ∷ us) = (u.0, k, u.1) ∷ present_from (suc k) us

abbrev pub kind : {X : Type 0} → Option (X × ℕ) → Option X
kind o = option_map (λ u. u.0) o

-- these moves, as entries of the party p
abbrev pub by_party : {C V : Type 0} → ℕ → List (Move C V) → List (Entry C V)
by_party p own = map (λ move. (p, move)) own

-- of these entries, those that the party p made
abbrev pub entries_by : {C V : Type 0} → ℕ → List (Entry C V) → List (Entry C V)
entries_by p es = filter (λ e. e.0 == p) es

-- Each party that has not left has made no entry from its mark on. Parties with numbers beyond the list have made
-- none.
abbrev pub Rested : {C V X : Type 0} → List (Entry C V) → ℕ → List (Option (X × ℕ)) → Type 0
Rested schedule k [] = (q : ℕ) → k ≤ q → entries_by q schedule ≡ []
Rested schedule k (o ∷ us) =
    IfSome o (λ u. (u.1 ≤ length schedule) × (entries_by k (drop u.1 schedule) ≡ [])) × Rested schedule (suc k) us

-- the party has made no entry after its last step; a new party has made none at all
abbrev pub MadeNone : {C V X : Type 0} → List (Entry C V) → ℕ → Option (Numbered X) → Type 0
MadeNone log p view = MayBe p view × (entries_by p (drop (own_mark view) log) ≡ [])

module _ {W V C L A X S : Type 0} (m : Machine W V C L A) (seat_of : X → Seat C L) (words_of : W → ℕ × S) where
  -- The schedule leads to these words, and to the views of all parties that have not left. None of its entries is
  -- skipped, and each is a move of a call (`AreOfCalls`). No party has made an entry from its mark on (`Rested`).
  abbrev pub IsRun : List (Entry C V) → ℕ × S → List (Numbered X) → Type 0
  IsRun schedule s vs =
      (came : List (Option (X × ℕ))) × (w : W) × (value : Option V) × (vs ≡ present_from 0 came) × (s ≡ words_of w) × LeadsTo m seat_of words_of schedule w value (map kind came) × IsPlayed m (length (map kind came)) schedule × Rested schedule 0 came × AreOfCalls m schedule

  -- What a step tells: the party's number and its new mark; that the party made no entry between its last step and
  -- this one; its moves in this step, with their outcomes; and what `says` states of these moves.
  abbrev pub Tells : (List (Move C V) → List (Outcome A V) → ℕ → X → Type 0) → Option (Numbered X) → List (Entry C V) → List (Entry C V) → ℕ → Numbered X → Type 0
  Tells says view log es n v =
      (own : List (Move C V)) × (outs : List (Outcome A V)) × (es ≡ by_party v.1 own) × (v.2 ≡ length (log ++ es)) × MadeNone log v.1 view × AreOwn m own outs log es × says own outs n v.0

  -- The lock's own rule holds, and the trace has this name. The trace is a schedule of the model that leads to these
  -- words and these views.
  abbrev pub RunsByRule : (ℕ → S → List X → Type 0) → ℕ → ℕ → Trace (Entry C V) S → List (Numbered X) → Type 0
  RunsByRule holds name n t vs = (t.name ≡ name) × holds n t.word (map (λ v. v.0) vs) × IsRun t.entries (n, t.word) vs
