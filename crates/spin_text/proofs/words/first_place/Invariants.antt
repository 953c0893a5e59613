-- no byte so far is the separator
use Rattle.memchr.specs.Find.{Nowhere, Passes, is_byte}
use Rattle.spin_text.proofs.words.first_place.Given as goal

abbrev pub invariant-loop-i : goal.invariant-loop-i
invariant-loop-i l = Nowhere (Passes (is_byte l.separator) l.bytes) 0 l.i
