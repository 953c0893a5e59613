use Rattle.std.proofs.lemmas.List.FromFn.{length-map-range_with_len}
use Rattle.spin_seated.specs.Passes.{opening_of, pass_of}
use Rattle.spin_seated.proofs.laws.a_lock_has_as_many_passes_as_asked_for.Goals as goal

pub returns : goal.returns
returns g c = λ lock. length-map-range_with_len (pass_of lock) 0 (opening_of lock).passes
