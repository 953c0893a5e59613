-- How a number is written as a word.
use Rattle.std.specs.Prelude.{◌≡◌, ℕ, List, length, slice_index}
use Rattle.std.specs.Str.Parse.{IsNumeral, digits_value}

-- The word is one or more decimal digits without a sign, and n is their value. Only the word `0` begins with a zero.
pub record IsNumber (word : List ℕ) (n : ℕ) : Type 0 where
  pub digits : IsNumeral 10 word
  pub no_leading_zero : slice_index word 0 ≡ 48 → length word ≡ 1
  pub value : digits_value 10 word ≡ n
