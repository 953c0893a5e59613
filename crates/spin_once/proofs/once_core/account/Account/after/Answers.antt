use Rattle.std.proofs.Common.{◌≤◌, sym, ◌∙◌, inl, inr, length, length-append, arith}
use Rattle.spin_once.specs.OnceValues.{made}
use Rattle.spin_once.proofs.Valued.{stays}
use Rattle.spin_once.proofs.once_core.account.Account.after.Goals as goal

pub invariant_of-result : goal.invariant_of-result
invariant_of-result g c =
    let me = c.args.self in let known = c.later.result.entries in let (name, (mine, theirs, either)) = c.later.ensures in let opening = me.party.key.opening in
    let few : length (made opening.value known) ≤ 1 = elim either [ inl mine ↦ rw mine me.few | inr other ↦ rw (other, c.requires.0) c.args.earlier.now.few ] in
    record {
      named = me.named ∙ sym name;
      knows = rw (← mine.1, length-append) (omega (arith, me.knows));
      few = few;
      finds = λ used. ((me.finds used).0, λ v is. stays opening me.seen.entries known mine few v ((me.finds used).1 v is));
    }
