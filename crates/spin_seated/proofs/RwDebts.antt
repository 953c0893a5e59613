-- What the read-write lock must show for each kind of step.
use Rattle.std.proofs.Common.{◌≡◌, ℕ, ◌+◌, ◌-◌, ◌%◌, ◌^◌, ◌==◌, ◌&&◌, Bool, true, false, if◌then◌else◌, List, [], ◌∷◌, Some, None, refl, sym, ap, ◌∙◌, eqb-true, arith}
use prog.Atomic.{either}
use Rattle.spin_step.specs.Plain.{Plain, reading, writing, Change, gets, releases, turns, to_read, is_open, apply, is_holder, weight, rw_word}
use Rattle.spin_step.specs.Parties.{apply_some}
use Rattle.spin_step_more.specs.Readers.{reader_limit, OneOfEach, readers_in, writers_in, has_room}
use Rattle.spin_step_more.proofs.Readers.{one_of_each, read-word, reader-word, writer-word, readers-word, writers-word}
use Rattle.spin_step_more.proofs.ReaderSteps.{rw_release-gives, rw_turn-gives}
use Rattle.spin_seated.specs.declared.history.Entry.{Entry}
use Rattle.spin_seated.specs.declared.rwlock.SeatedHold.TheVariants as hold
use Rattle.spin_seated.specs.Histories.{state, holds, Turned, IsOwedAt, OwesAlways}
use Rattle.spin_seated.specs.Passes.{KnownOf, Seated}
use Rattle.spin_seated.specs.Rw.{Locked, Answer, Truth, Value, Done, Call, TryRead, ReaderCount, WriterCount, UnlockRead, UnlockWrite, Downgrade, SeatedHold, kind_of, hold_in, may_with, rw, refused_by}
use Rattle.spin_seated.proofs.Histories.{after_own}
use Rattle.spin_seated.proofs.RwSteps.{places, there, Standing, standing, tracked}

-- what the step function of a reader ensures: at the word `old` a reader may acquire the lock, and `new` is the word
-- afterwards
abbrev pub LetsRead : ℕ → ℕ → Type 0
LetsRead old new =
    (s : Plain) (p : ℕ) → OneOfEach s → s.cap ≡ reader_limit → rw_word s ≡ old → (is_open s (gets p to_read) ≡ true) × (new ≡ rw_word (apply s (gets p to_read)))

-- A step of a pass in a given state.
module _ (p : ℕ) (s : Locked) (st : Standing s) where
  abbrev word : ℕ
  word = rw_word s.lock

  abbrev words_if : Change → Bool → List ℕ
  words_if c b = rw_word (apply_some s.lock (if b then Some c else None)) ∷ s.value ∷ []

  one : OneOfEach s.lock
  one = one_of_each s.lock st.exclusive

  -- the words after a plain step that is made if it is open
  ends : (d : Change) (b : Bool) (n : ℕ) → is_open s.lock d ≡ b → n ≡ rw_word (apply_some s.lock (if b then Some d else None)) → n ∷ s.value ∷ [] ≡ words_if d (is_open s.lock d)
  ends d b n is to = ap (λ (n : ℕ). n ∷ s.value ∷ []) to ∙ sym (ap (words_if d) is)

  refused : (b : Bool) → hold_in p s ≡ None → is_open s.lock (gets p to_read) ≡ b → IsOwedAt rw p 0 (λ _. word) s (if b then None else Some (TryRead, Truth false))
  refused b free is = grind (arith, ends)

  looks_at : hold_in p s ≡ None → IsOwedAt rw p 0 (λ _. word) s (refused_by word)
  looks_at free = refused (has_room reading word reader_limit) free (read-word s.lock word reader_limit one st.cap refl)

  comes_at : (old new : ℕ) (b : Bool) → hold_in p s ≡ None → (word == old) ≡ b → LetsRead old new → IsOwedAt rw p 0 (λ _. either b new word) s (if b then Some (TryRead, Truth true) else refused_by word)
  comes_at old new b free same lets = grind (arith, one, eqb-true, ends, looks_at)

  -- if a pass holds, the plain lock has it as a holder of that kind
  stands : (k : SeatedHold) → hold_in p s ≡ Some k → is_holder p (kind_of k) s.lock.holders ≡ true
  stands k has = there p s k (st.one_place p ∙ ap (places p) has)

-- the state that a step of this pass finds
abbrev found : KnownOf Call → List (Entry Call Answer) → Locked
found x log = state rw x.opening log

pub loads_owed : (x : KnownOf Call) → holds rw x ≡ None → OwesAlways rw x 0 (λ n. n) refused_by
loads_owed x free log legal has small = looks_at x.pass (found x log) (standing x.opening log legal) (has ∙ free)

pub acquires_read_owed : (x : KnownOf Call) (old new : ℕ) → LetsRead old new → holds rw x ≡ None → OwesAlways rw x 0 (λ n. either (n == old) new n) (λ found. if found == old then Some (TryRead, Truth true) else refused_by found)
acquires_read_owed x old new lets free log legal has small = comes_at x.pass (found x log) (standing x.opening log legal) old new (rw_word (found x log).lock == old) (has ∙ free) refl lets

-- The pass of a call under way has the same value now as when the call began.
module _ {v w : Seated Call} (same : v ≡ w) where
  held_now : holds rw v.known ≡ holds rw w.known
  held_now = ap (λ (u : Seated Call). holds rw u.known) same

  pub counts_readers_owed : OwesAlways rw v.known 0 (λ n. n) (λ found. Some (ReaderCount, Value (readers_in found)))
  counts_readers_owed log legal has small = (refl, refl, ap Value (sym (readers-word (found v.known log).lock _ (one v.known.pass (found v.known log) (standing v.known.opening log legal)) refl)))

  pub counts_writers_owed : OwesAlways rw v.known 0 (λ n. n) (λ found. Some (WriterCount, Value (writers_in found)))
  counts_writers_owed log legal has small = (refl, refl, ap Value (sym (writers-word (found v.known log).lock _ (one v.known.pass (found v.known log) (standing v.known.opening log legal)) refl)))

  pub reader_goes_owed : holds rw w.known ≡ Some hold.Read → OwesAlways rw v.known 0 (λ n. (n + (2 ^ 64 - weight reading)) % 2 ^ 64) (λ _. Some (UnlockRead, Done))
  reader_goes_owed held log legal has small =
      let s : Locked = found v.known log in let st = standing v.known.opening log legal in let mine = stands v.known.pass s st hold.Read (has ∙ (held_now ∙ held)) in
      let to = rw_release-gives s.lock v.known.pass reading (rw_word s.lock) refl mine in let some = reader-word s.lock v.known.pass mine in
      (ap (may_with UnlockRead) (has ∙ (held_now ∙ held)), ends v.known.pass s st (releases v.known.pass reading) true _ mine (omega (arith, to, some, small)), refl)

  pub writer_goes_owed : holds rw w.known ≡ Some hold.Write → OwesAlways rw v.known 0 (λ n. (n + (2 ^ 64 - weight writing)) % 2 ^ 64) (λ _. Some (UnlockWrite, Done))
  writer_goes_owed held log legal has small =
      let s : Locked = found v.known log in let st = standing v.known.opening log legal in let mine = stands v.known.pass s st hold.Write (has ∙ (held_now ∙ held)) in
      let to = rw_release-gives s.lock v.known.pass writing (rw_word s.lock) refl mine in let alone = writer-word s.lock v.known.pass st.exclusive mine in
      (ap (may_with UnlockWrite) (has ∙ (held_now ∙ held)), ends v.known.pass s st (releases v.known.pass writing) true _ mine (omega (arith, to, alone)), refl)

  pub reads_on_owed : holds rw w.known ≡ Some hold.Write → OwesAlways rw v.known 0 (λ n. (n + (weight reading - weight writing)) % 2 ^ 64) (λ _. Some (Downgrade, Done))
  reads_on_owed held log legal has small =
      let s : Locked = found v.known log in let st = standing v.known.opening log legal in let mine = stands v.known.pass s st hold.Write (has ∙ (held_now ∙ held)) in
      let may : is_open s.lock (turns v.known.pass writing reading) ≡ true = ap (λ (b : Bool). b && true) mine in
      let to = rw_turn-gives s.lock v.known.pass writing reading (rw_word s.lock) (omega arith) refl may in let alone = writer-word s.lock v.known.pass st.exclusive mine in
      (ap (may_with Downgrade) (has ∙ (held_now ∙ held)), ends v.known.pass s st (turns v.known.pass writing reading) true _ may (omega (arith, to, alone)), refl)

-- a try that fails does not change what the pass holds, nor does a step that is no call
pub held_still : (b : Bool) (x y : KnownOf Call) → Turned rw (if b then None else Some (TryRead, Truth false)) x y → holds rw y ≡ holds rw x
held_still b x y told = grind (arith, after_own, tracked)
