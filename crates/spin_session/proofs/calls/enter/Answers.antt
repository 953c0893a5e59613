use contract.BorrowLft.{⊑_meet, ⊑_static}
use Rattle.spin_session.proofs.calls.enter.Goals as goal

pub watch-requires : goal.watch-requires
watch-requires g c κs (value, (call, (point, (told, (calls, (word, (rule, last))))))) = (
  value,
  (
    search (call, point, ⊑_meet, ⊑_static) depth 40,
    (
      search (calls, told, ⊑_meet, ⊑_static) depth 40 fits 20000,
      (
        word,
        (
          rule,
          search (last, ⊑_meet, ⊑_static) depth 40,
        ),
      ),
    ),
  ),
)

pub returns : goal.returns
returns g c = λ i. (c.enter.ensures.key i, c.enter.ensures.fresh.0 i, record { marker = record {}; name = c.watch.ensures.0 i; entries = c.watch.ensures.1 i })
