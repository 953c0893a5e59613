-- The lines of a transcript, which are written while the moves are played.
use Rattle.std.proofs.Common.{◌≡◌, ℕ, ◌+◌, ◌<◌, ◌^◌, ◌==◌, ◌&&◌, true, Bool, if◌then◌else◌, Option, Some, None, IfSome, List, [], ◌∷◌, ◌++◌, length, sym, ◌∙◌, ap, refl, subst, arith, append_assoc, append-nil, zero-add, length-set, length-append}
use Rattle.spin_step.specs.declared.answer.Answer.{Answer}
use Rattle.spin_step.specs.declared.schedule.Event.{Event}
use Rattle.spin_step.specs.declared.schedule.Move.{Move}
use Rattle.spin_step.specs.declared.schedule.Outcome.{Outcome}
use Rattle.spin_step.specs.Machines.{Machine}
use Rattle.spin_step.specs.Schedules.{State, Happened, happens, after, events_of, with_begins, with_begin, begin_of, begins_after, last_begin, is_begun}
use Rattle.spin_step.proofs.Lists.{get-set_within}
use Rattle.spin_world_core.proofs.Lists.{get-set_other}
use Rattle.spin_world_core.proofs.Schedules.{last_begin-append, stranger, length-happens}
use Rattle.spin_text.specs.Pieces.{HasLine, TellsLine}
use Rattle.spin_text.specs.Transcripts.{event_line, event_lines, end_line, schedule_lines, transcript_from}

-- if the event that began the call is in this transcript, it is one of the first n events
abbrev IsBelow : ℕ → Option ℕ → Type 0
IsBelow n found = IfSome found (λ k. k < n)

still_below : (k : ℕ) (found : Option ℕ) → IsBelow k found → IsBelow (k + 1) found
still_below k found below = grind arith

next_below : (b : Bool) (k : ℕ) (found : Option ℕ) → IsBelow k found → IsBelow (k + 1) (if b then Some k else found)
next_below b k found below = grind (arith, still_below)

has_line : (place : ℕ) (began : Option ℕ) → IsBelow place began → place < 2 ^ 64 → HasLine began
has_line place began below fits = grind arith

tells_line : (began : Option ℕ) (o : Outcome (Answer ℕ) ℕ) → HasLine began → TellsLine (with_begin began o)
tells_line began o has = grind arith

begun_more : {V A : Type 0} (begins : List (Option ℕ)) (p q k : ℕ) (old : Option ℕ) (o : Outcome A V) → (is_begun o ≡ true → p < length begins)
    → begin_of begins q ≡ old → begin_of (begins_after begins p k o) q ≡ (if (p == q) && is_begun o then Some k else old)
begun_more begins p q k old o lt e = grind (arith, lt, get-set_within begins p (Some k), get-set_other begins p q (Some k))

module _ {W C L : Type 0} (m : Machine W ℕ C L (Answer ℕ)) (from : State W ℕ C L) (all : List (ℕ × Move C ℕ)) where
  -- The first k moves of `all` were played, and `left` are left. `text` has the lines of the first; with the lines of those left it is the text of all.
  pub record SoFar (now : State W ℕ C L) (begins : List (Option ℕ)) (left : List (ℕ × Move C ℕ)) (k : ℕ) (text : List ℕ) : Type 0 where
    pub done : List (Event W ℕ (Answer ℕ))
    pub count : length done ≡ k
    pub begun : (p : ℕ) → begin_of begins p ≡ last_begin p 0 None done
    pub below : (p : ℕ) → IsBelow k (begin_of begins p)
    pub parties : length begins ≡ length now.seats
    pub state : after m now left ≡ after m from all
    pub lines : text ++ event_lines m.numbers (k + 1) (with_begins done (events_of m now left)) ≡ schedule_lines m from all

  pub none_told : (begins : List (Option ℕ)) → ((p : ℕ) → begin_of begins p ≡ None) → length begins ≡ length from.seats → SoFar from begins all 0 []
  none_told begins none parties = record { done = []; count = refl; begun = none; below = λ p. subst (IsBelow 0) (sym (none p)) tt; parties = parties; state = refl; lines = refl }

  pub all_told : (now : State W ℕ C L) (begins : List (Option ℕ)) (left : List (ℕ × Move C ℕ)) (k : ℕ) (text : List ℕ) → left ≡ [] → SoFar now begins left k text → text ≡ schedule_lines m from all
  all_told now begins left k text none told =
      sym (append-nil text) ∙ ap (λ l. text ++ event_lines m.numbers (k + 1) (with_begins told.done (events_of m now l))) (sym none) ∙ told.lines

  -- one more move
  moved : (now : State W ℕ C L) (begins : List (Option ℕ)) (rest : List (ℕ × Move C ℕ)) (k : ℕ) (text : List ℕ) (e : ℕ × Move C ℕ) → SoFar now begins (e ∷ rest) k text
      → let h = happens m now e.0 e.1 in SoFar h.next (begins_after begins e.0 k h.outcome) rest (k + 1) (text ++ event_line (k + 1) e.0 (with_begin (begin_of begins e.0) h.outcome) (m.numbers h.next.words))
  moved now begins rest k text e told =
      let h = happens m now e.0 e.1 in
      let x : Event W ℕ (Answer ℕ) = record { party = e.0; outcome = h.outcome; words = h.next.words } in
      let line = λ (began : Option ℕ). event_line (k + 1) e.0 (with_begin began h.outcome) (m.numbers h.next.words) in
      let further = event_lines m.numbers (k + 1 + 1) (with_begins (told.done ++ x ∷ []) (events_of m h.next rest)) in
      let more = λ (q : ℕ) (old : Option ℕ) (is : begin_of begins q ≡ old). begun_more begins e.0 q k old h.outcome (λ b. grind (arith, stranger m now e.0 e.1, told.parties)) is in
      record {
        done = told.done ++ x ∷ [];
        count = omega (arith, length-append told.done (x ∷ []), told.count);
        begun = λ q. more q (last_begin q 0 None told.done) (told.begun q)
            ∙ sym (last_begin-append q 0 None told.done (x ∷ []) ∙ ap (λ n. if (e.0 == q) && is_begun h.outcome then Some n else last_begin q 0 None told.done) (zero-add (length told.done) ∙ told.count));
        below = λ q. subst (IsBelow (k + 1)) (sym (more q (begin_of begins q) refl)) (next_below ((e.0 == q) && is_begun h.outcome) k (begin_of begins q) (told.below q));
        parties = grind (arith, length-set {A = Option ℕ} begins e.0, told.parties, length-happens m now e.0 e.1);
        state = told.state;
        lines = append_assoc text (line (begin_of begins e.0)) further ∙ ap (λ b. text ++ (line b ++ further)) (told.begun e.0) ∙ told.lines;
      }

  pub told_next : (now next : State W ℕ C L) (begins begins' : List (Option ℕ)) (left rest : List (ℕ × Move C ℕ)) (k : ℕ) (text : List ℕ) (e : ℕ × Move C ℕ)
      (o o' : Outcome (Answer ℕ) ℕ) (words : W) (numbers : List ℕ) → SoFar now begins left k text → left ≡ e ∷ rest
      → (let h : Happened W ℕ C L (Answer ℕ) = record { outcome = o; next = next } in h ≡ happens m now e.0 e.1) → words ≡ next.words → m.numbers words ≡ numbers
      → o' ≡ with_begin (begin_of begins e.0) o → begins' ≡ begins_after begins e.0 k o → SoFar next begins' rest (k + 1) (text ++ event_line (k + 1) e.0 o' numbers)
  told_next now next begins begins' left rest k text e o o' words numbers told is acted is_words is_numbers told_o put =
      let P : Happened W ℕ C L (Answer ℕ) → Type 0 = λ h.
      SoFar h.next (begins_after begins e.0 k h.outcome) rest (k + 1) (text ++ event_line (k + 1) e.0 (with_begin (begin_of begins e.0) h.outcome) (m.numbers h.next.words)) in
      rw (put, told_o, ← is_numbers, is_words) (subst P (sym acted) (moved now begins rest k text e (subst (λ l. SoFar now begins l k text) is told)))

  -- the line of the transcript that an answer names has a number of 64 bits
  pub told_line : (now : State W ℕ C L) (begins : List (Option ℕ)) (left : List (ℕ × Move C ℕ)) (k p : ℕ) (text : List ℕ) (o o' : Outcome (Answer ℕ) ℕ)
      → SoFar now begins left k text → k < 2 ^ 64 → o' ≡ with_begin (begin_of begins p) o → TellsLine o'
  told_line now begins left k p text o o' told fits is =
      subst TellsLine (sym is) (tells_line (begin_of begins p) o (has_line k (begin_of begins p) (told.below p) fits))

-- the last line tells the words and the value at the end
pub last_line : {W C L : Type 0} (m : Machine W ℕ C L (Answer ℕ)) (from now : State W ℕ C L) (schedule : List (ℕ × Move C ℕ)) (words : W)
    (numbers : List ℕ) (value : Option ℕ) → now ≡ after m from schedule → words ≡ now.words → m.numbers words ≡ numbers → value ≡ now.value
    → transcript_from m from schedule ≡ schedule_lines m from schedule ++ end_line numbers value
last_line m from now schedule words numbers value is is_words is_numbers is_value = grind arith
