use Rattle.std.proofs.Common.{◌∙◌, sym}
use Rattle.spin_core.proofs.tie.Values.{read_on}
use Rattle.spin_core.proofs.laws.two_guards_read_one_value.Goals as goal

pub returns : goal.returns
returns g c = λ opening old new more x y told grew none is is'. sym (none x) ∙ read_on opening old new more x y told grew is is'
