-- Reading an entry inverts its spelling.
use Rattle.std.proofs.Common.{arith, ◌≡◌, ℕ, true, ◌&&◌, Option, Some, IfSome, List, [], ◌∷◌, codes, decimal, ◌∙◌, ap, subst}
use Rattle.std.specs.Str.{bytes_eq}
use Rattle.std.proofs.lemmas.Slice.Eq.{bytes_eq-Decides}
use Rattle.spin_step.specs.declared.schedule.Move.{Move}
use Rattle.spin_step.specs.declared.schedule.Move.TheVariants.{Begin, Step, Weak, Read, Write, Leak, OwnerGet, OwnerSet}
use Rattle.spin_text.specs.Spelling.{Calls, move_words, MoveFits, entry_words, EntryFits}
use Rattle.spin_text.specs.Reading.{word_at, number_at, last_word, last_number, owner_move, plain_move, read_move, read_entry, has_ended}
use Rattle.spin_text.specs.Readable.{ReadsCalls}
use Rattle.spin_text.proofs.Options.{found_is, some_is, and_true, last_takes}
use Rattle.spin_text.proofs.Numerals.{number_at_takes, number_at_again, last_number_takes, last_number_again}

pub is_text : (w v : List ℕ) → bytes_eq w v ≡ true → w ≡ v
is_text w v same = (bytes_eq-Decides w v).0 same

-- a word that equals a name, followed by nothing
pub ends : (w : List ℕ) (ws : List (List ℕ)) (name : List ℕ) → w ≡ name → has_ended ws ≡ true → w ∷ ws ≡ name ∷ []
ends w ws name is end = grind arith

-- a line from which `last_word` reads a word has only this word
pub last_word_takes : (ws : List (List ℕ)) (w : List ℕ) → last_word ws ≡ Some w → ws ≡ w ∷ []
unfolding last_word
last_word_takes ws w is = grind (arith, some_is, last_takes, word_at)

module _ {C : Type 0} (calls : Calls C) (read : List (List ℕ) → Option C) (reads : ReadsCalls calls read) where
  abbrev IsMove : List (List ℕ) → Move C ℕ → Type 0
  IsMove ws m = MoveFits calls m × (ws ≡ move_words calls m)

  owner_found : (w : List ℕ) (ws : List (List ℕ)) → w ≡ codes "owner" → IfSome (owner_move ws) (IsMove (w ∷ ws))
  unfolding owner_move
  owner_found w [] owner = tt
  owner_found w (v ∷ ws) owner = grind (arith, and_true, last_number_takes, bytes_eq-Decides, ends)

  plain_found : (w : List ℕ) (ws : List (List ℕ)) → has_ended ws ≡ true → IfSome (plain_move w) (IsMove (w ∷ ws))
  unfolding plain_move
  plain_found w [] end = grind (arith, bytes_eq-Decides)
  plain_found w (v ∷ ws) end = absurd (cc)

  move_found : (ws : List (List ℕ)) → IfSome (read_move read ws) (IsMove ws)
  unfolding read_move
  move_found [] = tt
  move_found (w ∷ ws) = grind (arith, bytes_eq-Decides, last_number_takes, owner_found, plain_found, reads.takes)

  pub move_takes : (ws : List (List ℕ)) (m : Move C ℕ) → read_move read ws ≡ Some m → IsMove ws m
  move_takes ws m = found_is _ _ m (move_found ws)

  pub move_again : (m : Move C ℕ) → MoveFits calls m → read_move read (move_words calls m) ≡ Some m
  unfolding read_move owner_move plain_move
  move_again m fits = grind (arith, last_number_again)

  pub entry_takes : (ws : List (List ℕ)) (e : ℕ × Move C ℕ) → read_entry read ws ≡ Some e → EntryFits calls e × (ws ≡ entry_words calls e)
  unfolding read_entry
  entry_takes ws e = found_is _ (λ x. EntryFits calls x × (ws ≡ entry_words calls x)) e (grind (arith, number_at_takes, move_takes))

  pub entry_again : (e : ℕ × Move C ℕ) → EntryFits calls e → read_entry read (entry_words calls e) ≡ Some e
  unfolding read_entry
  entry_again e fits = grind (arith, number_at_again, move_again)
