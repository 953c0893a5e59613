-- the texts taken so far and those of `rest` are together the texts of all arguments
use Rattle.std.proofs.Common.{◌≡◌, ◌++◌, length, map}
use Rattle.spin_text.specs.Lines.{texts_of}
use Rattle.spin_text.proofs.program.texts.Given as goal

abbrev pub invariant-loop-rest : goal.invariant-loop-rest
invariant-loop-rest g l = texts_of l.texts.items ++ map (λ word. word.bytes.items) l.rest ≡ map (λ word. word.bytes.items) l.initial.rest

abbrev pub decreases-loop-rest : goal.decreases-loop-rest
decreases-loop-rest g l = length l.rest
