-- all bytes so far are digits, and the number is their value
use Rattle.std.proofs.Common.{◌≡◌, ◌<◌, ◌^◌, take}
use Rattle.std.specs.Str.Parse.{AllDigits, digits_value}
use Rattle.spin_text.proofs.words.digits.Given as goal

abbrev pub invariant-loop-at : goal.invariant-loop-at
invariant-loop-at l =
    record {
      digits : AllDigits 10 (take l.at l.line);
      value : digits_value 10 (take l.at l.line) ≡ l.number;
      fits : l.number < 2 ^ 64;
    }
