-- In a history without spurious failures, an event that the model's laws promise is no spurious failure.
use Rattle.std.proofs.Common.{length, map, subst, ◌≡◌, ℕ, ◌||◌, true, false, Option, List, [], ◌∷◌, ◌++◌, slice_get, arith}
use Rattle.std.proofs.lemmas.Bool.{false≢true}
use Rattle.std.proofs.lemmas.List.Folds.{list_all-append}
use Rattle.spin_step.specs.declared.place.Seat.{Seat}
use Rattle.spin_step.specs.declared.schedule.Move.{Move}
use Rattle.spin_step.specs.declared.schedule.Outcome.{Outcome}
use Rattle.spin_step.specs.Machines.{Machine}
use Rattle.spin_step.specs.Schedules.{State, Entry, happens}
use Rattle.spin_step.specs.declared.place.Hold.{Hold}
use Rattle.spin_world_core.specs.Runs.{Seen}
use Rattle.spin_laws.specs.Rounds.{InRounds, Test, either, occurs, refuses_weakly}
use Rattle.spin_laws.specs.Rw.{refuses_any}
use Rattle.spin_laws.specs.Between.{NoneFailsSpuriously, is_sure}
use Rattle.spin_laws.specs.Progress.{InHistory}
use Rattle.spin_laws.proofs.Between.{none_fails}
use Rattle.spin_core.specs.Own.{Numbered, IsRun, kind}
use Rattle.spin_step.specs.Acts.{Table}
use Rattle.spin_world_core.specs.Joined.{joined}
use Rattle.spin_world_core.proofs.Shapes.{Notes}
use Rattle.spin_world_core.proofs.Steps.{played, Plays}

module _ {W V C L A : Type 0} (m : Machine W V C L A) where
  abbrev Schedule : Type 0
  Schedule = List (Entry C V)

  -- a part of such a history
  pub sure_part : (past es rest : Schedule) → NoneFailsSpuriously (past ++ (es ++ rest)) → NoneFailsSpuriously es
  sure_part past es rest sure = grind (arith, sure, list_all-append (λ (x : Entry C V). is_sure x.1) past (es ++ rest), list_all-append (λ (x : Entry C V). is_sure x.1) es rest)

  -- the events of the test `weak` are spurious failures
  abbrev IsWeak : Test V C L A → Type 0
  IsWeak weak = (q : ℕ) (move : Move C V) (o : Outcome A V) (x : Option (Seat C L)) → is_sure move ≡ true → weak q move o x ≡ false

  pub one_is_weak : (p : ℕ) → IsWeak (refuses_weakly p)
  one_is_weak p q move o x sure = grind (arith, sure)

  pub any_is_weak : IsWeak refuses_any
  any_is_weak q move o x sure = grind (arith, sure)

  pub without : (goal weak : Test V C L A) → IsWeak weak → (s : State W V C L) (es : Schedule) → NoneFailsSpuriously es
      → occurs m (either goal weak) s es ≡ true → occurs m goal s es ≡ true
  without goal weak never s [] sure some = absurd (false≢true some)
  without goal weak never s (e ∷ es) sure some =
      let h = happens m s e.0 e.1 in grind (arith, sure, some, never e.0 e.1 h.outcome (slice_get h.next.seats e.0), without goal weak never h.next es)

module _ {W V C L A B X S : Type 0} {t : Table W V C L B} {by : Machine W V C L A} {k : Notes t} (seat_of : X → Seat C L) (words_of : W → ℕ × S) (f : Plays by k) where
  -- what is promised of any rounds, or else a spurious failure, holds of the rounds of a history of threads
  pub in_history : (played t by).lock_kind.makes_value ≡ false → (log : List (Entry C V)) (words : ℕ × S) (parties : List (Numbered X))
      → IsRun (played t by) seat_of words_of log words parties → let m = played t by in
      (Q : Seen W V C L → ℕ → C → Option Hold → Type 0) (bound : ℕ → List (Entry C V) → ℕ) (goal weak : ℕ → Test V C L A)
      → ((p : ℕ) → IsWeak m (weak p))
      → ((n : ℕ) (past : List (Entry C V)) (rounds : List (List (Entry C V))) → InRounds m Q (bound n past) (λ p. either (goal p) (weak p)) n past rounds)
      → InHistory m log (λ n past. InRounds m Q (bound n past) goal n past)
  in_history strong log words parties run Q bound goal weak fails promised =
      let m = played t by in let sure = none_fails seat_of words_of f strong log run.8 in (
        length (map kind run.0),
        run.6,
        λ past rest rounds cut p c l h there so are few.
            without m (goal p) (weak p) (fails p) _ (joined rounds) (sure_part m past (joined rounds) rest (subst NoneFailsSpuriously cut sure))
            (promised _ past rounds p c l h there so are few),
      )
