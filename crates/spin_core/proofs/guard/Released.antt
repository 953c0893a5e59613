-- An `impl` of `Release` fits its trait: `release` asks nothing and promises the same, and the rows of the `impl` own what those of the trait own.
-- Assumes `Logic`.
use Rattle.std.proofs.Common.{◌≡◌, [], ◌∷◌}
use seplogic.Ra.Ura.{Ura}
use mir.Syntax.{Dict, named}
use base.Logic.{sep, emp, id⊢}
use types.Logic.{Logic}
use prog.Model.{Model}
use prog.Routine.{Routine}
use contract.Running.{Running}
use contract.BorrowLft.{◌⊑◌, ⊑_refl}
use contract.Lifetimes.{lft_at}
use contract.Monad.{fact}
use denote.Exit.{no}
use denote.Param.{param}
use denote.RattleType.{RattleType}
use denote.Signature.{Signature, plain, named_lft}
use denote.Triple.Impl.{implements, insides_in}
use denote.Triple.Spec.{Spec, Meets, exits}
use denote.Triple.Table.{run_framed}
use Rattle.spin_core.specs.declared.cell.Rule as Rule
use Rattle.spin_core.specs.contracts.cell.WritePermit as Permit
use Rattle.spin_core.specs.contracts.cell.Left as Left
use Rattle.spin_core.specs.declared.guard.Release as Release
use Rattle.spin_core.specs.declared.guard.Uses as Uses
use Rattle.spin_core.specs.contracts.guard.Release.release as trait

module _ (Y V K S T : RattleType) (rule : Rule.Ghosts Y.Denot T.Denot V.Denot K.Denot S.Denot) where
  -- the signature of `release` in the `impl`
  abbrev pub own : Signature
  own = record {
    lifetimes = 2;
    outlives = record { long = 1; long_ok = tt; short = named 0; short_ok = tt } ∷ [];
    params = plain (λ κs. Permit.the_row (named_lft 2 0 tt κs) (param 0 T) V Y K (param 4 S) rule) ∷ [];
    result = plain (λ κs. Left.the_row (named_lft 2 0 tt κs) (param 0 T) V Y K (param 4 S) rule);
  }

  module _ {M : Type 1} {𝓤 : Ura M} (𝓛 : Logic 𝓤) where
    abbrev pub says : Spec 𝓤 own
    says κs a = record { ghost = Unit {0}; requires = λ g. sep 𝓤 (fact 𝓤 (lft_at 2 1 tt κs ⊑ T.lives)) (emp 𝓤); ensures = λ g r. exits 𝓛 own (no, tt) κs a (λ end. fact 𝓤 (r.0 ≡ a.0.key)) }

    module _ (𝓜 : Model 𝓤 𝓛.H) (𝓡 : Running 𝓤 𝓛.H 𝓜) (r : Routine) (release : Release.Ghosts Y.Denot T.Denot V.Denot K.Denot S.Denot) (uses : Uses.Ghosts Y.Denot V.Denot) (release_dict rule_dict uses_dict : Dict) where
      pub released : Meets 𝓛 own (𝓡.run r) says
          → Meets 𝓛 (trait.signature Y T V K S release release_dict rule rule_dict uses uses_dict) (𝓡.run r) (trait.spec Y T V K S release release_dict rule rule_dict uses uses_dict 𝓛 𝓜.mem 𝓡.returns)
      released =
          let Sg = trait.signature Y T V K S release release_dict rule rule_dict uses uses_dict in let c = trait.spec Y T V K S release release_dict rule rule_dict uses uses_dict 𝓛 𝓜.mem 𝓡.returns in
          implements 𝓛 own 6 Sg.outlives (λ τs. (τs.0, (τs.1.1.0, tt))) (𝓡.run r) (run_framed 𝓤 𝓛.H 𝓜 𝓡 r) says
          (λ τs a. record { ghost = (c τs a).ghost; requires = (c τs a).requires; ensures = (c τs a).ensures })
          5 (λ τs. τs.1) (λ τs. (Y.lives, (T.lives, (V.lives, (K.lives, (S.lives, tt)))))) ((0, tt), ((2, tt), tt))
          (λ τs a g. emp 𝓤) (λ τs a g. id⊢ 𝓤 ((c τs a).requires g))
          (λ τs h. ((⊑_refl τs.0, (⊑_refl τs.1.1.0, tt)), (h.0.0, tt)))
          (λ τs a g. g) (λ τs h a g. insides_in 𝓤 1 (τs.1.1.0, tt) (T.lives, tt) (emp 𝓤) (h.1.1.0, tt))
          (λ τs a g r. id⊢ 𝓤 ((c τs a).ensures g r))
