-- What the cell of a lock that runs a table gives at its end.
use Rattle.std.proofs.Common.{◌≡◌, ℕ, ◌+◌, List, map, sym, ◌∙◌}
use Rattle.std.proofs.lemmas.List.Folds.{fold-map}
use Rattle.spin_core.specs.Cell.{Starts, writing, writers_of}
use Rattle.spin_core.specs.Own.{Numbered}
use Rattle.spin_core.specs.declared.tie.Opening.{Opening}
use Rattle.spin_core.specs.declared.trace.Trace.{Trace}
use Rattle.spin_step.specs.Acts.{Table}
use Rattle.spin_step.specs.Schedules.{Entry}
use Rattle.spin_step.specs.declared.answer.Answer.{Answer}
use Rattle.spin_step.specs.declared.place.Seat.{Seat}
use Rattle.spin_session.specs.Ending.{Ends, Settles}
use Rattle.spin_session.specs.Meaning.{Meaning, AreWords, Beside, RunsOn, ways_of, use_at, use_of_party}

pub ends : {W V C L S : Type 0} (t : ℕ → V → Table W V C L (Answer V)) (s : Meaning C L) (k : Beside S)
    (key : Opening V) (n : ℕ) (x : V) (whole : Trace (Entry C V) S)
    → Starts (RunsOn t s k key) (ways_of s key) n whole x → Ends t s k key (x, whole)
ends t s k key n x whole start = (n, start.0, start.1.0, λ none. (rw none at start.2).0)

-- the same where no party writes in a lock with these words
pub settles : {W V C L S : Type 0} (t : ℕ → V → Table W V C L (Answer V)) (s : Meaning C L) (k : Beside S)
    (key : Opening V) (n : ℕ) (x : V) (whole : Trace (Entry C V) S)
    → ((seats : List (Seat C L)) → AreWords k s n whole.word seats → writers_of (use_at s) seats ≡ 0)
    → Starts (RunsOn t s k key) (ways_of s key) n whole x → Settles t s k key (x, whole)
settles {C = C} {L = L} t s k key n x whole quiet start =
    let same = fold-map (λ z y. z + writing (use_at s y)) (λ (v : Numbered (Seat C L)). v.0) 0 start.0 in
    let none : writers_of (use_of_party s) start.0 ≡ 0 = sym same ∙ quiet (map (λ v. v.0) start.0) start.1.0.1 in
    (ends t s k key n x whole start, (rw none at start.2).0)
