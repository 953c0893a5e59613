-- Bytes cut at a separator, and at line feeds.
use Rattle.std.proofs.Common.{◌≡◌, ℕ, zero, suc, ◌+◌, ◌-◌, ◌<◌, ◌≤◌, ◌==◌, cond, Bool, true, false, Option, Some, None, List, [], ◌∷◌, ◌++◌, length, take, drop, map, get_or, refl, sym, ◌∙◌, ap, arith, length-take, length-drop}
use Rattle.std.specs.Borrow.{Bor}
use Rattle.std.specs.List.{slice_split, onto_first, join_with_byte}
use Rattle.std.proofs.lemmas.Bool.{eqb-true}
use Rattle.std.proofs.lemmas.Grind.{common_steps}
use Rattle.std.proofs.lemmas.List.{length-map, get_or_default, get_or-take}
use Rattle.std.proofs.lemmas.List.Sums.{count_by-le-length}
use Rattle.std.proofs.lemmas.List.Splits.{slice_split_none, slice_split_at, slice_split-cons_no, length-slice_split, join_with_byte-slice_split}
use Rattle.memchr.specs.Find.{Nowhere, NoneBefore, Passes, is_byte}
use Rattle.spin_text.specs.Reading.{has_ended, parts_left, lines_left}
use Rattle.spin_text.specs.Lines.{lines_of, words_of, words_by_line, first_and_further, further_lines}

-- how many bytes are left, plus 1 if anything is left
abbrev pub bytes_left : Option (Bor (List ℕ)) → ℕ
bytes_left None = 0
bytes_left (Some bytes) = length bytes.now + 1

not_passing : (b : Bool) → ¬ (b ≡ true) → b ≡ false
not_passing b never = grind arith

-- bytes without a separator are one part
pub cut_none : (a : ℕ) (bs : List ℕ) → Nowhere (Passes (is_byte a) bs) 0 (length bs) → slice_split (is_byte a) bs ≡ bs ∷ []
cut_none a bs nowhere =
    slice_split_none (is_byte a) bs (λ k d l. ap (is_byte a) (get_or_default bs k d 0 l) ∙ not_passing _ (nowhere k (omega arith) l))

-- The first word of a line and the words after it, if the first i bytes have no space. These bytes are then the
-- beginning of the first word.
pub record FirstWord (line : List ℕ) (i : ℕ) : Type 0 where
  pub word : List ℕ
  pub more : List (List ℕ)
  pub is : words_of line ≡ word ∷ more
  pub begins : take i word ≡ take i line

some_first : (line : List ℕ) (parts : List (List ℕ)) → words_of line ≡ parts → 0 < length parts → FirstWord line 0
some_first line [] is some = absurd (omega (arith, some))
some_first line (word ∷ more) is some = record { word = word; more = more; is = is; begins = refl }

pub first_word : (line : List ℕ) (i : ℕ) → i ≤ length line → Nowhere (Passes (is_byte 32) line) 0 i → FirstWord line i
first_word line zero there none = some_first line (words_of line) refl (omega (arith, length-slice_split (is_byte 32) line))
first_word [] (suc i) there none = absurd (omega (arith, there))
first_word (b ∷ line) (suc i) there none =
    let after = first_word line i (omega (arith, there)) (λ k low high. none (suc k) (omega arith) (omega (arith, high))) in
    record {
      word = b ∷ after.word;
      more = after.more;
      is = slice_split-cons_no (is_byte 32) b line (not_passing _ (none 0 (omega arith) (omega arith))) ∙ ap (onto_first b) after.is;
      begins = ap (λ bs. b ∷ bs) after.begins;
    }

around : (bs : List ℕ) (at : ℕ) → at < length bs → bs ≡ take at bs ++ (get_or bs at 0 ∷ drop (at + 1) bs)
around bs at l = grind (arith, common_steps)

all_of_rest : (bs : List ℕ) (n : ℕ) → take (length bs - n) (drop n bs) ≡ drop n bs
all_of_rest bs n = grind (arith, common_steps, length-drop)

-- if the first separator is at place `at`, the parts are the bytes before it, and the parts of the bytes after it
pub cut_some : (a : ℕ) (bs : List ℕ) (at : ℕ) → NoneBefore (Passes (is_byte a) bs) 0 (length bs) at → Passes (is_byte a) bs at → slice_split (is_byte a) bs ≡ take at bs ∷ slice_split (is_byte a) (take (length bs - (at + 1)) (drop (at + 1) bs))
cut_some a bs at first here =
    ap (slice_split (is_byte a)) (around bs at first.high)
    ∙ slice_split_at (is_byte a) (take at bs) (get_or bs at 0) (drop (at + 1) bs) (λ k d l.
    let below : k < at = omega (arith, length-take at bs, l) in
    ap (is_byte a) (get_or-take at bs k d below ∙ get_or_default bs k d 0 (omega (arith, below, first.high))) ∙ not_passing _ (first.before k (omega arith) below)) here
    ∙ ap (λ rest. take at bs ∷ slice_split (is_byte a) rest) (sym (all_of_rest bs (at + 1)))

-- if bytes follow a line feed, the further lines are the lines of these bytes
further_same : (parts : List (List ℕ)) → ((x : List ℕ) → parts ≡ x ∷ [] → 0 < length x) → further_lines parts ≡ first_and_further parts
further_same [] some = refl
further_same ([] ∷ []) some = absurd (omega (arith, some [] refl))
further_same ((b ∷ bs) ∷ []) some = refl
further_same (x ∷ y ∷ more) some = refl

pub further_lines_of : (bs : List ℕ) → 0 < length bs → further_lines (slice_split (is_byte 10) bs) ≡ lines_of bs
further_lines_of bs some =
    further_same (slice_split (is_byte 10) bs) (λ x is.
    let whole : x ≡ bs = sym (ap (join_with_byte 10) is) ∙ join_with_byte-slice_split 10 bs in
    omega (arith, ap length whole, some))

some_word : (ws : List (List ℕ)) → 0 < length ws → false ≡ has_ended ws
some_word ws some = grind arith

-- the words by line are the words of the first line, and then those of each line after it
pub lines_behind : (bs line : List ℕ) (parts : List (List ℕ)) (further : List (List ℕ)) → slice_split (is_byte 10) bs ≡ line ∷ parts → further_lines parts ≡ further → words_by_line bs ≡ words_of line ∷ map words_of further
lines_behind bs line parts further is then = grind arith

-- each line has a word, which may be empty
pub has_word : (line : List ℕ) → false ≡ has_ended (words_of line)
has_word line = some_word (words_of line) (omega (arith, length-slice_split (is_byte 32) line))

no_bytes : (bs : List ℕ) → true ≡ (length bs == 0) → bs ≡ []
no_bytes [] is = refl
no_bytes (b ∷ bs) is = absurd (omega (arith, eqb-true _ _ (sym is)))

some_bytes : (bs : List ℕ) → false ≡ (length bs == 0) → 0 < length bs
some_bytes bs is = grind arith

split_after : (bs line : List ℕ) (further : Bor (List ℕ)) → slice_split (is_byte 10) bs ≡ line ∷ slice_split (is_byte 10) further.now → (over : Bool) → over ≡ (length further.now == 0) → words_by_line bs ≡ words_of line ∷ lines_left (cond over None (Some further))
split_after bs line further split over test = grind (arith, lines_behind, no_bytes, further_lines_of, some_bytes)

-- if no byte follows the first line feed, there is no second line
pub lines_after : (bs line : List ℕ) (rest : Option (Bor (List ℕ))) (further : Bor (List ℕ)) → slice_split (is_byte 10) bs ≡ line ∷ parts_left 10 rest → rest ≡ Some further
    → (left : Option (Bor (List ℕ))) (over : Bool) → over ≡ (length further.now == 0) → left ≡ cond over None (Some further) → words_by_line bs ≡ words_of line ∷ lines_left left
lines_after bs line rest further parts is left over test made = grind (arith, split_after)

further_within : (parts : List (List ℕ)) → length (further_lines parts) ≤ length parts
further_within [] = omega arith
further_within ([] ∷ []) = omega arith
further_within ((b ∷ bs) ∷ []) = omega arith
further_within (x ∷ y ∷ more) = omega (arith, further_within (y ∷ more))

first_within : (parts : List (List ℕ)) → length (first_and_further parts) ≤ length parts
first_within parts = grind (arith, further_within)

-- the number of lines is at most the number of bytes plus 1
pub lines_within : (bs : List ℕ) → length (words_by_line bs) ≤ length bs + 1
lines_within bs =
    omega (arith, length-map (lines_of bs) words_of, first_within (slice_split (is_byte 10) bs), length-slice_split (is_byte 10) bs, count_by-le-length (is_byte 10) bs)
