use Rattle.std.proofs.Common.{arith, List, [], ◌∷◌, length, take, refl}
use Rattle.spin_once.specs.Foretold.{foretold, place_of}
use Rattle.spin_once.specs.Once.{words_of, IsOnce}
use Rattle.spin_once.specs.OnceValues.{Made, bare, given_of}
use Rattle.spin_once.proofs.Foretold.{is_run}
use Rattle.spin_world.proofs.OnceOwed.{once_facts}
use Rattle.spin_laws.proofs.Between.{between}
use Rattle.spin_laws.specs.Between.{NoneFailsSpuriously}
use Rattle.spin_laws.proofs.laws.between_any_two_steps_of_a_once.Goals as goal

-- in the object's schedule no exchange fails spuriously: it leaves out each move `Weak`, by which a closure fails
none_told : (log : List Made) → NoneFailsSpuriously (foretold log)
none_told [] = refl
none_told (e ∷ es) = grind (arith, none_told es)

pub returns : goal.returns
unfolding IsOnce
returns g c = λ opening word trace parties is.
    let given = given_of opening.value in let log = bare trace.entries in let run = is_run given log (word, trace.word) parties is.0.2 in
    between place_of words_of (once_facts given) (foretold log) (word, trace.word) (λ v. length (foretold (take v.2 log))) parties (none_told log) run
