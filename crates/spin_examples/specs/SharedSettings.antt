-- The text from which shared settings are read.
use Rattle.std.specs.Prelude.{ℕ, List}
use Rattle.spin_once.specs.Lazy.{promise}
use Rattle.spin_examples.specs.declared.settings.SharedSettings.{SharedSettings}

module _ {R : Type 0} where
  abbrev pub text_of : SharedSettings R → List ℕ
  text_of it = (promise it.answer).0.now
