-- For each object: reading a call inverts its spelling.
use Rattle.std.proofs.Common.{arith, ◌≡◌, ℕ, ◌<◌, ◌^◌, Bool, true, false, ◌&&◌, Option, Some, IfSome, List, [], ◌∷◌, codes, decimal, refl, ap, subst, ◌∙◌}
use Rattle.std.specs.Str.{bytes_eq}
use Rattle.std.proofs.lemmas.Slice.Eq.{bytes_eq-Decides}
use Rattle.std.proofs.lemmas.Bool.{ltb-true, lt-ltb}
use Rattle.spin_step.specs.declared.flag_calls.FlagCall.TheVariants as flag
use Rattle.spin_step_more.specs.declared.fair_calls.FairCall.TheVariants as fair
use Rattle.spin_step_more.specs.declared.rw_calls.RwCall.TheVariants as rw
use Rattle.spin_step.specs.declared.ticket_calls.TicketCall.TheVariants as ticket
use Rattle.spin_world.specs.declared.barrier.BarrierCall.TheVariants as barrier
use Rattle.spin_step.specs.declared.once_calls.OnceCall.{OnceCall}
use Rattle.spin_step.specs.declared.once_calls.OnceCall.TheVariants as once
use Rattle.spin_text.specs.declared.objects.TheConstants.{FLAG_CALLS, TICKET_CALLS, RW_CALLS, FAIR_CALLS, BARRIER_CALLS, PLAIN_ONCE_CALLS}
use Rattle.spin_text.specs.Objects.{without_numbers, flag_call_words, ticket_call_words, rw_call_words, fair_call_words, barrier_call_words, once_spelling}
use Rattle.spin_text.specs.Spelling.{Calls}
use Rattle.spin_text.specs.Reading.{◌>>=◌, has_ended, last_word, last_number, by_word, named, only_named, read_try_call_once, read_once_call}
use Rattle.spin_text.specs.Readable.{ReadsCalls}
use Rattle.spin_text.proofs.Options.{found_is, and_true}
use Rattle.spin_text.proofs.Moves.{is_text, ends, last_word_takes}
use Rattle.spin_text.proofs.Numerals.{last_number_takes, last_number_again}

module _ {C : Type 0} (calls : Calls C) where
  abbrev IsReadAgain : (List (List ℕ) → Option C) → C → Type 0
  IsReadAgain read c = calls.fits c ≡ true → read (calls.words c) ≡ Some c

  abbrev IsCall : List (List ℕ) → C → Type 0
  IsCall ws c = (calls.fits c ≡ true) × (ws ≡ calls.words c)

  abbrev is_word : List (List ℕ) → List ℕ → Bool
  is_word (v ∷ []) w = bytes_eq w v
  is_word _ w = false

  word_is : (ws : List (List ℕ)) (w : List ℕ) → is_word ws w ≡ true → w ∷ [] ≡ ws
  word_is (v ∷ []) w is = ap (λ x. x ∷ []) (is_text w v is)
  word_is _ w is = absurd (cc)

  -- each row of the table has the word that spells its call
  abbrev pub are_calls : List (List ℕ × C) → Bool
  are_calls [] = true
  are_calls (row ∷ rows) = (calls.fits row.1 && is_word (calls.words row.1) row.0) && are_calls rows

  -- if such a table has an entry for a word, the word spells that call
  pub named_found : (rows : List (List ℕ × C)) → are_calls rows ≡ true → (w : List ℕ) → IfSome (named rows w) (IsCall (w ∷ []))
  unfolding named
  named_found [] each w = tt
  named_found (row ∷ rows) each w = grind (arith, and_true, bytes_eq-Decides, word_is (calls.words row.1) row.0, named_found rows)

  -- reading by such a table inverts spelling, if each call has one word
  pub word_reads : (rows : List (List ℕ × C)) → are_calls rows ≡ true
      → ((c : C) → IsReadAgain (only_named rows) c) → ReadsCalls calls (only_named rows)
  unfolding only_named
  word_reads rows each again = record { takes = λ ws c. found_is _ (IsCall ws) c (grind (arith, named_found, last_word_takes)); again = again }

pub flag_reads : ReadsCalls (without_numbers flag_call_words) (only_named (by_word FLAG_CALLS))
unfolding only_named last_word named
flag_reads = word_reads _ (by_word FLAG_CALLS) refl (λ c. elim c as (IsReadAgain (without_numbers flag_call_words) (only_named (by_word FLAG_CALLS))) [ flag.Lock ↦ λ _. refl | _ ↦ λ _. refl ])

pub ticket_reads : ReadsCalls (without_numbers ticket_call_words) (only_named (by_word TICKET_CALLS))
unfolding only_named last_word named
ticket_reads = word_reads _ (by_word TICKET_CALLS) refl (λ c. elim c as (IsReadAgain (without_numbers ticket_call_words) (only_named (by_word TICKET_CALLS))) [ ticket.Lock ↦ λ _. refl | _ ↦ λ _. refl ])

pub rw_reads : ReadsCalls (without_numbers rw_call_words) (only_named (by_word RW_CALLS))
unfolding only_named last_word named
rw_reads = word_reads _ (by_word RW_CALLS) refl (λ c. elim c as (IsReadAgain (without_numbers rw_call_words) (only_named (by_word RW_CALLS))) [ rw.TryRead ↦ λ _. refl | _ ↦ λ _. refl ])

pub fair_reads : ReadsCalls (without_numbers fair_call_words) (only_named (by_word FAIR_CALLS))
unfolding only_named last_word named
fair_reads = word_reads _ (by_word FAIR_CALLS) refl (λ c. elim c as (IsReadAgain (without_numbers fair_call_words) (only_named (by_word FAIR_CALLS))) [ fair.Lock ↦ λ _. refl | _ ↦ λ _. refl ])

pub barrier_reads : ReadsCalls (without_numbers barrier_call_words) (only_named (by_word BARRIER_CALLS))
unfolding only_named last_word named
barrier_reads = word_reads _ (by_word BARRIER_CALLS) refl (λ c. elim c as (IsReadAgain (without_numbers barrier_call_words) (only_named (by_word BARRIER_CALLS))) [ barrier.Wait ↦ λ _. refl ])

try_call_once_found : (w : List ℕ) (ws : List (List ℕ)) → w ≡ codes "try_call_once" → IfSome (read_try_call_once ws) (IsCall once_spelling (w ∷ ws))
unfolding read_try_call_once
try_call_once_found w [] name = tt
try_call_once_found w (v ∷ ws) name = grind (arith, and_true, last_number_takes, bytes_eq-Decides, ends, lt-ltb)

once_found : (ws : List (List ℕ)) → IfSome (read_once_call ws) (IsCall once_spelling ws)
unfolding read_once_call
once_found [] = tt
once_found (w ∷ ws) =
    grind (arith, ends, last_number_takes, bytes_eq-Decides, lt-ltb, try_call_once_found, named_found once_spelling (by_word PLAIN_ONCE_CALLS) refl w)

once_again : (c : OnceCall ℕ) → once_spelling.fits c ≡ true → read_once_call (once_spelling.words c) ≡ Some c
unfolding read_once_call read_try_call_once named
once_again c fits = grind (arith, last_number_again, ltb-true)

pub once_reads : ReadsCalls once_spelling read_once_call
once_reads = record { takes = λ ws c. found_is _ _ c (once_found ws); again = once_again }
