-- In the read-write lock only `Read` reads the value, and it writes nothing.
use Rattle.std.proofs.Common.{arith, ℕ}
use Rattle.spin_seated.specs.Mutex.{mutex}
use Rattle.spin_seated.specs.Lawful as lawful
use Rattle.spin_seated.specs.Rw.{Locked, Call, rw, plain_answer}
use Rattle.spin_seated.specs.RwLawful.{written, read_by}
use Rattle.spin_seated.proofs.Lawful.{ReadsValue, reads_in_order, written_by, read_then}
use Rattle.spin_seated.proofs.RwSteps.{writes_by}
use Rattle.spin_seated.proofs.laws.a_pass_reads_in_the_order_of_the_writes.Goals as goal

rw_reads : (p : ℕ) (c : Call) (s : Locked) → ReadsValue (read_by c (plain_answer p c s)) (written c) s.value
rw_reads p c s = grind arith

pub returns-clause-mutex : goal.returns-clause-mutex
returns-clause-mutex c = λ k log p. reads_in_order mutex lawful.written written_by lawful.read_by read_then k.passes (mutex.start k) log p

pub returns-clause-rwlock : goal.returns-clause-rwlock
returns-clause-rwlock c = λ k log p. reads_in_order rw written writes_by read_by rw_reads k.passes (rw.start k) log p
