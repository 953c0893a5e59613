use Rattle.std.proofs.Common.{ℕ, List, sym, subst}
use Rattle.spin_text.specs.Numbers.{IsNumber}
use Rattle.spin_text.proofs.Numerals.{prints_back, is_number}
use Rattle.spin_text.proofs.numbers.numbers_are_printed_texts.Goals as goal

pub returns : goal.returns
returns c word n fits =
    (prints_back word n fits, λ is. let P : List ℕ → Type 0 = λ w. IsNumber w n in subst P (sym is) (is_number n fits))
