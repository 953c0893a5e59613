use Rattle.std.proofs.Common.{◌≡◌, ◌≤◌, subst}
use Rattle.spin_step_more.specs.Readers.{reader_limit, readers_in}
use Rattle.spin_step.specs.declared.answer.Answer.TheVariants.{Count}
use Rattle.spin_step_more.specs.declared.rw_calls.RwCall.TheVariants.{ReaderCount}
use Rattle.spin_session.specs.Turns.{spot_of}
use Rattle.spin_rwlock.specs.RwPasses.{Calls}
use Rattle.spin_rwlock.proofs.RwCalls.{few_readers}
use Rattle.spin_rwlock.proofs.rwlock.pass.Pass.reader_count.Goals as goal

pub returns-clause-limit : goal.returns-clause-limit
returns-clause-limit g c = let (n, goes, (bounded, (plain, room, order, is))) = c.ask.ensures.found in let arm = c.in-Count-default in
    let answer = rw arm.is-0 at goes in let same : readers_in n ≡ arm.number = cc (answer) in
    subst (λ k. k ≤ reader_limit) same (few_readers plain n room order is)

pub returns-clause-made : goal.returns-clause-made
returns-clause-made g c = let arm = c.in-Count-default in
    subst (λ from. Calls ReaderCount (Count arm.number) from (spot_of c.ask.result.1)) c.self.view_is (rw arm.is-0 at c.ask.ensures.calls)
