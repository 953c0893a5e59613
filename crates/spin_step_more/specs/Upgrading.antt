-- The steps of a plain lock while a reader asks to upgrade.
use Rattle.std.specs.Prelude.{◌≡◌, ℕ, true, List, [], ◌∷◌, count_by}
use Rattle.spin_step.specs.Plain.{Plain, asking, Change, apply, is_open, is_holder}
use Rattle.spin_step_more.specs.Readers.{reader_goes}

-- these steps are open, one after another; the party p asks to upgrade before and after each of them
abbrev pub StaysAsking : ℕ → Plain → List Change → Type 0
StaysAsking p s [] = is_holder p asking s.holders ≡ true
StaysAsking p s (c ∷ cs) = (is_holder p asking s.holders ≡ true) × (is_open s c ≡ true) × StaysAsking p (apply s c) cs

abbrev pub apply_all : Plain → List Change → Plain
apply_all s [] = s
apply_all s (c ∷ cs) = apply_all (apply s c) cs

abbrev pub reader_releases : List Change → ℕ
reader_releases cs = count_by reader_goes cs
