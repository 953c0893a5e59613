-- What follows from what is read. Also what follows from the result of a call.
use Rattle.std.proofs.Common.{arith, ◌≡◌, ℕ, Bool, true, ◌&&◌, Option, Some, IfSome, Result, Err, OnOk, OnErr, IfErr, IfNone, List, []}
use Rattle.spin_text.specs.declared.text.RunError.{RunError}
use Rattle.spin_text.specs.declared.text.RunError.TheVariants.{Memory}
use Rattle.spin_text.specs.Texts.{StopsWriting}
use Rattle.spin_text.specs.Reading.{if_last}

pub some_is : {A : Type 0} {x y : A} → Some x ≡ Some y → x ≡ y
some_is is = cc

-- a value that is found has each property that is shown of what may be found
pub found_is : {A : Type 0} (o : Option A) (P : A → Type 0) (x : A) → IfSome o P → o ≡ Some x → P x
found_is o P x found is = grind arith

pub and_true : (a b : Bool) → (a && b) ≡ true → (a ≡ true) × (b ≡ true)
and_true a b is = grind arith

-- if `if_last` returns a result, no word follows
pub last_takes : {A : Type 0} (read : Option (A × List (List ℕ))) (x : A) → if_last read ≡ Some x → read ≡ Some (x, [])
last_takes read x is = grind (arith, some_is)

pub at_err : {X E : Type 0} (r : Result X E) (P : Type 0) → P → OnErr r P
at_err r P p = grind arith

pub none_said : {A : Type 0} (r : Option A) (P : Type 0) → P → IfNone r P
none_said r P p = grind arith

-- if an allocation failed, nothing was written
pub refused : {X : Type 0} (r : Result X RunError) (e : RunError) (A W : Type 0) → r ≡ Err e → e ≡ Memory → A → IfErr r (StopsWriting (λ x. x ≡ Memory) A W)
refused r e A W is memory a = grind arith
