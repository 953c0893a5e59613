-- Numbers as words: a printed number is read back, and a word that is read as a number is how that number prints.
use Rattle.std.proofs.Common.{◌≡◌, ℕ, suc, zero, ◌+◌, ◌*◌, ◌<◌, ◌≤◌, ◌^◌, true, ◌&&◌, Option, Some, None, IfSome, IfNone, nat_lt, List, [], ◌∷◌, decimal, length, take, get_or, arith, sym, ◌∙◌, ap, slice_index, subst, refl, cond, length-take, get_or-take, take_all, eqb-true}
use Rattle.std.specs.Char.{digit_value}
use Rattle.std.specs.List.{join_with_byte}
use Rattle.std.specs.Str.{bytes_eq}
use Rattle.std.specs.Str.Parse.{AllDigits, digits_value}
use Rattle.std.proofs.lemmas.Str.Parse.{numerals_by_value, tells_digits, not_in_digits, digits_value-take-le}
use Rattle.std.proofs.lemmas.Int.Digits.{digits_value_more}
use Rattle.std.proofs.lemmas.List.Splits.{join_with_byte-slice_split}
use Rattle.std.proofs.lemmas.Slice.Eq.{bytes_eq-Decides}
use Rattle.std.proofs.lemmas.Bool.{lt-ltb, ltb-true}
use Rattle.std.proofs.lemmas.Fmt.{decimal_is_IsNumeral, decimal-digits_value, decimal_digit, first_decimal}
use Rattle.memchr.specs.Find.{Nowhere, Passes, is_byte}
use Rattle.spin_text.specs.Numbers.{IsNumber}
use Rattle.spin_text.specs.Lines.{words_of}
use Rattle.spin_text.specs.Reading.{◌>>=◌, if_last, read_number, number_at, last_number}
use Rattle.spin_text.proofs.Options.{found_is, some_is, and_true, last_takes}
use Rattle.spin_text.proofs.Cuts.{cut_none, first_word}

-- a number is printed as the word that it was read from
pub prints_back : (word : List ℕ) (n : ℕ) → n < 2 ^ 64 → IsNumber word n → word ≡ decimal n
prints_back word n fits is =
    let small : digits_value 10 word < 2 ^ 64 = omega (arith, is.value) in
    sym (decimal-digits_value (numerals_by_value (AllDigits 10) tells_digits) word is.digits.1 is.digits.0 is.no_leading_zero small) ∙ ap decimal is.value

-- a printed number has no leading zero, unless it is 0
no_leading_zero : (n : ℕ) → n < 2 ^ 64 → slice_index (decimal n) 0 ≡ 48 → length (decimal n) ≡ 1
no_leading_zero n fits is = grind (arith, first_decimal, decimal_digit)

-- the word printed for a number spells that number
pub is_number : (n : ℕ) → n < 2 ^ 64 → IsNumber (decimal n) n
is_number n fits =
    let numeral = decimal_is_IsNumeral n fits in
    record { digits = numeral.0; no_leading_zero = no_leading_zero n fits; value = numeral.1 }

-- reading a printed number gives that number
read_decimal : (n : ℕ) → n < 2 ^ 64 → read_number (decimal n) ≡ Some n
unfolding read_number
read_decimal n fits =
    let ReadsAs : ℕ → Type 0 = λ k. cond (bytes_eq (decimal n) (decimal k) && (nat_lt k (2 ^ 64))) (Some k) None ≡ Some n in
    let both : (bytes_eq (decimal n) (decimal n) && (nat_lt n (2 ^ 64))) ≡ true =
    ap (λ b. b && (nat_lt n (2 ^ 64))) ((bytes_eq-Decides (decimal n) (decimal n)).1 refl) ∙ lt-ltb n (2 ^ 64) fits in
    subst ReadsAs (sym (decimal_is_IsNumeral n fits).1) (ap (λ b. cond b (Some n) None) both)

pub read_number_some : (w : List ℕ) (n : ℕ) → n < 2 ^ 64 → w ≡ decimal n → read_number w ≡ Some n
read_number_some w n fits is = ap read_number is ∙ read_decimal n fits

pub read_number_takes : (w : List ℕ) (n : ℕ) → read_number w ≡ Some n → (n < 2 ^ 64) × (w ≡ decimal n)
unfolding read_number
read_number_takes w n is = grind (arith, and_true, some_is, ltb-true, bytes_eq-Decides)

pub read_number_none : (w : List ℕ) (r : Option ℕ) → r ≡ read_number w → ((n : ℕ) → n < 2 ^ 64 → ¬ (w ≡ decimal n)) → None ≡ r
read_number_none w None is none = refl
read_number_none w (Some n) is none = let found = read_number_takes w n (sym is) in absurd (none n found.0 found.1)

-- if the first word spells no number, the line does not begin with a number
pub no_number_first : (line word : List ℕ) (more : List (List ℕ)) → words_of line ≡ word ∷ more
    → ((n : ℕ) → n < 2 ^ 64 → ¬ (IsNumber word n)) → number_at (words_of line) ≡ None
unfolding number_at
no_number_first line word more is none = grind (arith, read_number_none, is_number)

-- If the first word consists of one or more digits, has a value below 2^64, and begins with 0 only if it is `0`, then
-- the line begins with this value as a number.
pub number_first : (line word : List ℕ) (more : List (List ℕ)) (n : ℕ) → words_of line ≡ word ∷ more
    → n < 2 ^ 64 → AllDigits 10 word → digits_value 10 word ≡ n → 0 < length word → (slice_index word 0 ≡ 48 → length word ≡ 1)
    → number_at (words_of line) ≡ Some (n, more)
unfolding number_at
number_first line word more n is fits digits value some no_zero =
    let number : IsNumber word n = record { digits = (some, digits); no_leading_zero = no_zero; value = value } in
    ap number_at is ∙ ap (λ r. r >>= λ n. Some (n, more)) (read_number_some word n fits (prints_back word n fits number))

-- each byte of a number has a digit value below 10
digit_value_at : (word : List ℕ) (i : ℕ) → AllDigits 10 word → i < length word → digit_value (get_or word i 0) < 10
digit_value_at [] i digits lt = absurd (omega (arith, lt))
digit_value_at (c ∷ word) zero digits lt = digits.0
digit_value_at (c ∷ word) (suc i) digits lt = digit_value_at word i digits.1 (omega (arith, lt))

-- The first i bytes are digits with this value. The next byte is no digit, or makes a number that exceeds 64 bits.
module _ (line : List ℕ) (i number : ℕ) (lt : i < length line) (so_far : digits_value 10 (take i line) ≡ number)
    (past : digit_value (get_or line i 0) < 10 → 2 ^ 64 ≤ number * 10 + digit_value (get_or line i 0)) where
  -- a word that begins with these i + 1 bytes spells no number
  stuck : (word : List ℕ) → take (i + 1) word ≡ take (i + 1) line → (n : ℕ) → n < 2 ^ 64 → ¬ (IsNumber word n)
  stuck word begins n fits is =
      let there : i < length word = omega (arith, length-take (i + 1) word, ap length begins, length-take (i + 1) line, lt) in
      let same : get_or word i 0 ≡ get_or line i 0 =
      sym (get_or-take (i + 1) word i 0 (omega arith)) ∙ ap (λ bs. get_or bs i 0) begins ∙ get_or-take (i + 1) line i 0 (omega arith) in
      let big = past (subst (λ c. digit_value c < 10) same (digit_value_at word i is.digits.1 there)) in
      omega (
        arith,
        ap (digits_value 10) begins,
        digits_value_more 10 line i lt,
        digits_value-take-le 10 word (i + 1) (omega arith),
        big,
        so_far,
        is.value,
        fits,
      )

  -- so the line does not begin with a number
  pub no_number_at : Nowhere (Passes (is_byte 32) line) 0 (i + 1) → number_at (words_of line) ≡ None
  no_number_at none =
      let first = first_word line (i + 1) (omega (arith, lt)) none in
      no_number_first line first.word first.more first.is (stuck first.word first.begins)

-- there is no space among digits
pub no_space : (line : List ℕ) (i : ℕ) → i ≤ length line → AllDigits 10 (take i line) → Nowhere (Passes (is_byte 32) line) 0 i
no_space line i there digits k low high here =
    let numerals = numerals_by_value (AllDigits 10) tells_digits in
    not_in_digits numerals (take i line) 32 digits (λ range. absurd (omega (arith, range))) k (omega (arith, high, there, length-take i line))
    (get_or-take i line k 0 high ∙ eqb-true _ _ here)

-- so a number, taken as a line, is a line of one word
alone : (word : List ℕ) (n : ℕ) → IsNumber word n → words_of word ≡ word ∷ []
alone word n is =
    let digits = subst (AllDigits 10) (sym (take_all (length word) word (omega arith))) is.digits.1 in
    cut_none 32 word (no_space word (length word) (omega arith) digits)

-- a line with one word has the same bytes as the word
same_bytes : (line word : List ℕ) → words_of line ≡ word ∷ [] → line ≡ word
same_bytes line word is = sym (join_with_byte-slice_split 32 line) ∙ ap (join_with_byte 32) is

-- a number that is read is below 2^64, and the line begins with its decimal text
pub number_at_takes : (ws : List (List ℕ)) (x : ℕ × List (List ℕ)) → number_at ws ≡ Some x → (x.0 < 2 ^ 64) × (ws ≡ decimal x.0 ∷ x.1)
unfolding number_at
number_at_takes ws x = found_is (number_at ws) (λ y. (y.0 < 2 ^ 64) × (ws ≡ decimal y.0 ∷ y.1)) x (grind (arith, read_number_takes))

pub number_at_again : (n : ℕ) (ws : List (List ℕ)) → n < 2 ^ 64 → number_at (decimal n ∷ ws) ≡ Some (n, ws)
unfolding number_at
number_at_again n ws fits = ap (λ o. o >>= λ k. Some (k, ws)) (read_number_some (decimal n) n fits refl)

-- A number that is the only word of a line.

pub last_number_takes : (ws : List (List ℕ)) (n : ℕ) → last_number ws ≡ Some n → (n < 2 ^ 64) × (ws ≡ decimal n ∷ [])
unfolding last_number
last_number_takes ws n is = number_at_takes ws (n, []) (last_takes (number_at ws) n is)

pub last_number_again : (n : ℕ) → n < 2 ^ 64 → last_number (decimal n ∷ []) ≡ Some n
unfolding last_number
last_number_again n fits = ap if_last (number_at_again n [] fits)

-- reading a word as a line gives the number that the word spells
pub number_alone : (word : List ℕ) (r : Option ℕ) → r ≡ last_number (words_of word) → IfSome r (λ n. IsNumber word n)
number_alone word None read = tt
number_alone word (Some n) read = grind (arith, last_number_takes (words_of word) n (sym read), same_bytes word (decimal n) (last_number_takes (words_of word) n (sym read)).1, is_number n (last_number_takes (words_of word) n (sym read)).0)

pub no_number_alone : (word : List ℕ) (r : Option ℕ) → r ≡ last_number (words_of word)
    → IfNone r ((n : ℕ) → n < 2 ^ 64 → ¬ (IsNumber word n))
no_number_alone word (Some n) read = tt
no_number_alone word None read = λ n fits is.
    let prints = ap (λ w. last_number (w ∷ [])) (prints_back word n fits is) in
    absurd (cc (read, ap last_number (alone word n is), prints, last_number_again n fits))
