-- Passes of a read-write lock that read and write, and hold nothing between these calls.
use Rattle.std.specs.Prelude.{◌≡◌, ℕ, List, [], ◌++◌, Option, length}
use Rattle.spin_seated.specs.declared.lock.SeatedLock.{SeatedLock}
use Rattle.spin_seated.specs.declared.rwlock.Call.{Call}
use Rattle.spin_seated.specs.declared.rwlock.SeatedHold.{SeatedHold}
use Rattle.spin_seated.specs.Histories.{own_calls}
use Rattle.spin_seated.specs.Passes.{KnownOf, Seated, IsPassOf, pass_of}
use Rattle.spin_seated.specs.RwLawful.{values_written, values_read}

-- from x to y a pass has also read and written these values
pub record Extends (x y : KnownOf Call) (read written : List ℕ) : Type 0 where
  pub number : y.pass ≡ x.pass
  pub reads : values_read (own_calls y) ≡ values_read (own_calls x) ++ read
  pub writes : values_written (own_calls y) ≡ values_written (own_calls x) ++ written

module _ {A : Type 0} where
  -- the pass with this number has read exactly these values, `times` in number, and has written none
  pub record HasLooked (lock : SeatedLock Call A (Option SeatedHold)) (number times : ℕ) (p : Seated Call) (seen : List ℕ) : Type 0 where
    pub own : IsPassOf lock p
    pub goes_on : Extends (pass_of lock number).known p.known seen []
    pub count : length seen ≡ times
