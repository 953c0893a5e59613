-- The answers that a closure may give when it runs under a lock.
use Rattle.std.specs.Fn.{Once, FnOnceReturns}
use denote.Ref.{Bor, MutBor}

-- f may give this answer for some value of T, which f may change
abbrev pub AnswersOf : {F T A : Type 0} → Once F (MutBor T × Unit {0}) (A × (MutBor T × Unit {0})) → F → A → Type 0
AnswersOf {F} {T} g f answer = (shown : MutBor T) × (left : MutBor T) × FnOnceReturns g f (shown, tt) (answer, (left, tt))

-- f may give this answer for some value of T, which f only reads
abbrev pub AnswersOfShared : {F T A : Type 0} → Once F (Bor T × Unit {0}) A → F → A → Type 0
AnswersOfShared {F} {T} g f answer = (shown : Bor T) × FnOnceReturns g f (shown, tt) answer
