use Rattle.spin_flag.proofs.spin.SpinMutex.look.Goals as goal

pub returns : goal.returns
returns g c = (c.is_locked-is_locked.result.1, rw c.pass.ensures.new at c.is_locked-is_locked.ensures, c.into_seen.ensures)
