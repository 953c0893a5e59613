use contract.BorrowLft.{⊑_meet, ⊑_static}
use Rattle.spin_rwlock.proofs.rwlock.writer.watch_of.Goals as goal

pub under-requires : goal.under-requires
under-requires g c κs within =
    let κ = κs.1.0 in let none = ⊑_static κ in let own = ⊑_meet κ _ _ within none in
    let half = ⊑_meet κ _ _ (⊑_meet κ _ _ own (⊑_meet κ _ _ own (⊑_meet κ _ _ own none))) none in
    ⊑_meet κ _ _ half half
