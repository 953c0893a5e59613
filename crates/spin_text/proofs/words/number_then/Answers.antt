use Rattle.std.proofs.Common.{arith, rules, ◌∙◌, ap, sym}
use Rattle.spin_text.specs.Reading.{number_at, words_left}
use Rattle.spin_text.proofs.Numerals.{number_first, no_number_first}
use Rattle.spin_text.proofs.words.number_then.Goals as goal

pub returns-in_err-line : goal.returns-in_err-line
unfolding number_at
returns-in_err-line c = search rules

pub returns-then-is_empty : goal.returns-then-is_empty
returns-then-is_empty c = grind (arith, no_number_first, rules)

pub returns : goal.returns
returns c =
    let found = c.in_ok-number in
    let said = found.ensures in
    sym (number_first c.in_ok-line.field-0.now found.word.now (words_left found.rest) found.number said.parts
    said.fits said.digits said.value (search rules) (λ is. search rules))
    ∙ ap (λ l. number_at (words_left l)) (sym c.in_ok-line.was)
