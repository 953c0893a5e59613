-- What a lazy value is made from.
use Rattle.spin_once.specs.declared.lazylock.LazyLock.{LazyLock}

module _ {T F R M : Type 0} where
  -- the initialiser with which the `LazyLock` was made
  abbrev pub initialiser : LazyLock T F R M → F
  initialiser it = it.core.cell.seed.value.f.inner

  -- what is promised of the value
  abbrev pub promise : LazyLock T F R M → M
  promise it = it.core.cell.seed.value.promise
