-- What a party's call has done so far, as the steps of its span tell. A span has the latest step first.
use Rattle.std.specs.Prelude.{◌≡◌, ℕ, ◌+◌, Bool, true, not, ◌&&◌, ◌||◌, List, [], ◌∷◌, ◌++◌, is_some, option_to_list, ◌==◌, if◌then◌else◌, nat_lt}
use Rattle.spin_step.specs.Plain.{Change}
use Rattle.spin_step.specs.Parties.{is_held}
use Rattle.spin_step.specs.Steps.{bit}
use Rattle.spin_step.specs.StepKinds.{is_again, is_look}
use Rattle.spin_step.specs.Calls.{LockKind, Mark, first_word}

-- the plain steps that the party made in the span, in order
abbrev pub own : ℕ → List Mark → List Change
own p [] = []
own p (m ∷ ms) = own p ms ++ (if m.party == p then option_to_list m.change else [])

abbrev pub own_count : ℕ → List Mark → ℕ
own_count p [] = 0
own_count p (m ∷ ms) = own_count p ms + (if m.party == p then 1 else 0)

-- how many of the party's exchanges of the kind `again` have failed
abbrev pub failures : ℕ → List Mark → ℕ
failures p [] = 0
failures p (m ∷ ms) = failures p ms + bit ((m.party == p) && (is_again m.step_kind && not (is_some m.change)))

-- how often other parties have changed the first word
abbrev pub changes : LockKind → ℕ → List Mark → ℕ
changes kind p [] = 0
changes kind p (m ∷ ms) = changes kind p ms + bit (not (m.party == p) && not (first_word kind m.after == first_word kind m.before))

-- How many looks of the party have found the lock held. Only a call that waits makes looks.
abbrev pub held_looks : ℕ → List Mark → ℕ
held_looks p [] = 0
held_looks p (m ∷ ms) = held_looks p ms + bit ((m.party == p) && (is_look m.step_kind && is_held m.before))

-- a blind step: it makes no plain step, and it is neither a look nor an exchange that the call repeats
abbrev pub is_blind : Mark → Bool
is_blind m = not (is_some m.change) && not (is_look m.step_kind || is_again m.step_kind)

-- Whether the party's next step may be blind. It may if it is the first of the call, or follows a plain step of the
-- party, or follows a look that found the lock free. It may also follow a look that found the lock held, if n or more
-- earlier looks found it held.
abbrev pub may_be_blind : ℕ → ℕ → List Mark → Bool
may_be_blind p n [] = true
may_be_blind p n (m ∷ ms) =
    if m.party == p then is_some m.change || (is_look m.step_kind && (not (is_held m.before) || not (nat_lt (held_looks p ms) n))) else may_be_blind p n ms

-- The party makes a blind step only when `may_be_blind` allows it. So after a look that found the lock held, the
-- party's next step is not blind, unless n or more earlier looks found it held.
abbrev pub keeps_looking : ℕ → ℕ → List Mark → Bool
keeps_looking p n [] = true
keeps_looking p n (m ∷ ms) = keeps_looking p n ms && (not ((m.party == p) && is_blind m) || may_be_blind p n ms)

abbrev pub IsBeginning : List Change → List Change → Type 0
IsBeginning xs ys = (rest : List Change) × (xs ++ rest ≡ ys)
