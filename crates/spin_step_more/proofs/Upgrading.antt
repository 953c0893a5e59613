-- While a reader asks to upgrade, the other readers only release. The reader is alone when all others have released.
use Rattle.std.proofs.Common.{◌≡◌, ℕ, ◌+◌, ◌↔◌, true, false, cond, List, [], ◌∷◌, Some, refl, arith}
use Rattle.std.proofs.lemmas.List.Sums.{sum_by-cons}
use Rattle.spin_step.specs.Plain.{Plain, Kind, reading, upgradable, asking, writing, Effect, comes, becomes, sits, effect, given, Change, gets, releases, turns, to_write, to_upgrade_asked, apply, is_open, is_open_to, is_holder, is_only, count_kind, with_kind}
use Rattle.spin_step.specs.Parties.{party_of, IsExclusive}
use Rattle.spin_step.specs.Steps.{bit}
use Rattle.spin_step_more.specs.Readers.{reader_goes}
use Rattle.spin_step_more.specs.Upgrading.{StaysAsking, apply_all, reader_releases}
use Rattle.spin_step.proofs.Exclusive.{Lets, lets, exclusive-kept}
use Rattle.spin_step.proofs.Holders.{length-without_holder}
use Rattle.spin_step.proofs.Sums.{against, one_of, by_kinds, all_kinds, sum-less, length-with_kind}
use Rattle.spin_step_more.proofs.Readers.{beside_asking, only-length}

-- if the asking reader still asks afterwards, a party that gets something does not change the number of readers
readers_stay : (s : Plain) (p q : ℕ) (e : Effect) → IsExclusive s → is_holder p asking s.holders ≡ true → Lets s q e → is_holder p asking (given s q e).holders ≡ true → count_kind reading (given s q e).holders ≡ count_kind reading s.holders
readers_stay s p q (comes k) alone found let_in stays =
    grind (arith, beside_asking s p alone found, all_kinds s.holders, by_kinds (against k) s.holders)
readers_stay s p q (becomes j k) alone found let_in stays = let after = with_kind q j k s.holders in
    let fewer = sum-less (one_of asking) p asking after stays in
    grind (arith, all_kinds s.holders, beside_asking s p alone found, length-with_kind q j k s.holders, all_kinds after)
readers_stay s p q sits alone found let_in stays =
    grind (arith, beside_asking s p alone found, all_kinds s.holders, by_kinds (against reading) s.holders)
readers_stay s p q _ alone found let_in stays = omega arith

-- as long as the asking reader asks, each step is a release by a reader or does not change the number of readers
pub readers_only_go : (s : Plain) (p : ℕ) (c : Change) → IsExclusive s → is_holder p asking s.holders ≡ true → is_open s c ≡ true → is_holder p asking (apply s c).holders ≡ true
    → count_kind reading (apply s c).holders + bit (reader_goes c) ≡ count_kind reading s.holders
readers_only_go s p (gets q ask) alone found may stays = omega (arith, readers_stay s p q (effect ask) alone found (lets s q ask may) stays)
readers_only_go s p (releases q k) alone found may stays = grind (arith, sum-less (one_of reading) q k s.holders may)
readers_only_go s p (turns q j k) alone found may stays = let fewer = λ (i : Kind). sum-less (one_of i) q i s.holders in
    grind (arith, beside_asking s p alone found, fewer writing, fewer upgradable)
readers_only_go s p _ alone found may stays = omega arith

-- the asking reader is alone exactly when no other reader is left
pub alone_when_gone : (s : Plain) (p : ℕ) → IsExclusive s → is_holder p asking s.holders ≡ true → (is_only p asking s.holders ≡ true) ↔ (count_kind reading s.holders ≡ 0)
alone_when_gone s p alone found =
    grind (arith, only-length p asking s.holders found, beside_asking s p alone found, all_kinds s.holders)

-- Lists of steps.

pub downgrade_keeps_out : (s : Plain) (p q : ℕ) (k l : Kind) → is_open s (turns p k l) ≡ true → (is_open_to s q to_write ≡ false) × (is_open_to (apply s (turns p k l)) q to_write ≡ false)
downgrade_keeps_out s p q k l may = grind (arith, length-without_holder p k s.holders, length-with_kind p k l s.holders)

stands_at : (p : ℕ) (s : Plain) (cs : List Change) → StaysAsking p s cs → is_holder p asking s.holders ≡ true
stands_at p s [] stays = stays
stands_at p s (c ∷ cs) stays = stays.0

pub readers_go : (s : Plain) (p : ℕ) (cs : List Change) → IsExclusive s → StaysAsking p s cs → count_kind reading (apply_all s cs).holders + reader_releases cs ≡ count_kind reading s.holders
readers_go s p [] x stays = omega arith
readers_go s p (c ∷ cs) x stays =
    let rest = readers_go (apply s c) p cs (exclusive-kept s (party_of c) (Some c) x (refl, stays.1)) stays.2 in
    let one = readers_only_go s p c x stays.0 stays.1 (stands_at p (apply s c) cs stays.2) in
    grind (arith, sum_by-cons (λ d. cond (reader_goes d) 1 0) c cs)

pub upgrade_opens : (s : Plain) (p : ℕ) (cs : List Change) → IsExclusive s → StaysAsking p s cs
    → (is_open_to (apply_all s cs) p to_upgrade_asked ≡ true → reader_releases cs ≡ count_kind reading s.holders) × (reader_releases cs ≡ count_kind reading s.holders → is_open_to (apply_all s cs) p to_upgrade_asked ≡ true)
upgrade_opens s p [] x stays = grind (arith, alone_when_gone s p x stays)
upgrade_opens s p (c ∷ cs) x stays =
    let rest = upgrade_opens (apply s c) p cs (exclusive-kept s (party_of c) (Some c) x (refl, stays.1)) stays.2 in
    let one = readers_only_go s p c x stays.0 stays.1 (stands_at p (apply s c) cs stays.2) in
    grind (arith, sum_by-cons (λ d. cond (reader_goes d) 1 0) c cs)
