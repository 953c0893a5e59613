use Rattle.std.proofs.Common.{rules, eq-eqb, eqb-true, arith}
use Rattle.std.proofs.lemmas.Int.Digits.{digits_more, digits_value_more}
use Rattle.spin_text.proofs.Cuts.{cut_none, cut_some}
use Rattle.spin_text.proofs.Numerals.{no_space, no_number_at}
use Rattle.spin_text.proofs.Options.{none_said}
use Rattle.spin_text.proofs.words.digits.Goals as goal

pub returns-then-byte-eq32-clause-parts : goal.returns-then-byte-eq32-clause-parts
returns-then-byte-eq32-clause-parts c =
    let line = c.args.line.now in
    let at = c.loop-at.at in
    let none = no_space line at c.loop-at.auto.at-end c.loop-at.invariant.digits in
    cut_some 32 line at (record { low = omega arith; high = c.loop-at-test.true; before = none }) (eq-eqb _ _ c.if-byte-eq32.true)

pub returns-then-not-is_ascii_digit-clause-none : goal.returns-then-not-is_ascii_digit-clause-none
returns-then-not-is_ascii_digit-clause-none c = grind (arith, no_space, eqb-true, no_number_at, rules)

pub returns-in_err-number-clause-none : goal.returns-in_err-number-clause-none
returns-in_err-number-clause-none c = grind (arith, digits_more, rules, no_space, none_said, no_number_at)

pub loop-at-preserved : goal.loop-at-preserved
loop-at-preserved c = grind (arith, digits_more, rules, digits_value_more)

pub returns-clause-parts : goal.returns-clause-parts
returns-clause-parts c =
    let none = no_space c.args.line.now c.loop-at.at c.loop-at.auto.at-end c.loop-at.invariant.digits in
    cut_none 32 c.args.line.now (λ k low high. none k low (omega (arith, high, c.loop-at-test.false)))
