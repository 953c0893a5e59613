-- Words of a command line, two by two.
use Rattle.std.proofs.Common.{◌≡◌, ℕ, ◌-◌, ◌≤◌, Option, Some, List, [], ◌∷◌, length, take, drop, map, get_or, sym, ◌∙◌, ap, arith, length-drop, Bor}
use Rattle.std.proofs.lemmas.Grind.{common_steps}
use Rattle.spin_text.specs.Lines.{words_of}
use Rattle.spin_text.specs.Reading.{◌>>=◌, last_number}
use Rattle.spin_run.specs.declared.explore.options.Options.{Options}
use Rattle.spin_run.specs.Options.{with_option, options_from}

all_of_rest : {X : Type 0} (xs : List X) (n : ℕ) → take (length xs - n) (drop n xs) ≡ drop n xs
all_of_rest xs n = grind (arith, common_steps, length-drop)

-- an option takes two words, and the others are left
pub next_options : (o p : Options) (rest : List (Bor (List ℕ))) (d e : Bor (List ℕ)) (word : List ℕ) (number : Option ℕ) (found : Option Options) → 2 ≤ length rest
    → word ≡ (get_or rest 0 d).now → number ≡ last_number (words_of (get_or rest 1 e).now) → found ≡ with_option o word number → found ≡ Some p
    → options_from p (map (λ w. w.now) (take (length rest - 2) (drop 2 rest))) ≡ options_from o (map (λ w. w.now) rest)
next_options o p [] d e word number found two w n f is = absurd (omega (arith, two))
next_options o p (x ∷ []) d e word number found two w n f is = absurd (omega (arith, two))
next_options o p (x ∷ y ∷ rest) d e word number found two w n f is =
    let same : with_option o x.now (last_number (words_of y.now)) ≡ Some p = cc in
    ap (λ l. options_from p (map (λ v. v.now) l)) (all_of_rest (x ∷ y ∷ rest) 2)
    ∙ sym (ap (λ q. q >>= λ r. options_from r (map (λ v. v.now) rest)) same)
