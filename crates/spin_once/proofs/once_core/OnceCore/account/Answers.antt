use base.Fml.{Lft}
use contract.BorrowLft.{◌⊑◌, ⊑_meet, ⊑_static}
use Rattle.std.proofs.Common.{[], ◌++◌}
use Rattle.spin_core.proofs.tie.Laws.{entries_within, permit_within}
use Rattle.spin_once.proofs.once_core.OnceCore.account.Goals as goal

-- a lifetime within the lifetimes of the value's type and within those of the seed's type is within all of them together
module _ (κ : Lft) where
  and : {l r : Lft} → κ ⊑ l → κ ⊑ r → κ ⊑ l ++ r
  and {l} {r} p q = ⊑_meet κ l r p q

  just : {l : Lft} → κ ⊑ l → κ ⊑ l ++ []
  just p = and p (⊑_static κ)

  stage : {t s : Lft} → κ ⊑ t → κ ⊑ s → κ ⊑ (t ++ (s ++ [])) ++ ((s ++ []) ++ ((t ++ []) ++ []))
  stage p q = and (and p (just q)) (and (just q) (just (just p)))

pub watch-requires : goal.watch-requires
watch-requires g c κs within =
    let first = stage κs.1.0 within.0 within.1.0 in let rest = within.1.1 in let key = rest.1.1.1 in let κ = κs.1.1.1.1.1.1.0 in (
      and κs.1.0 (just κs.1.0 first) (just κs.1.0 first),
      (⊑_static _, (entries_within _ _ rest.0, (⊑_static _, (stage _ rest.1.0 rest.1.1.0, and κ (and κ key.0 (just κ key.1)) (and κ (permit_within κ _ key.1) (just κ (permit_within κ _ (stage κ key.0 key.1)))))))),
    )

pub returns : goal.returns
returns g c = λ i. (c.enter.ensures.key i, c.enter.ensures.fresh.0 i, record { marker = record {}; name = c.watch.ensures.0 i; entries = c.watch.ensures.1 i })
