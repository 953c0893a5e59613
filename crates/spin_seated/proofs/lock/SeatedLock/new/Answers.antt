use Rattle.std.proofs.Common.{[], ◌∷◌, ◌++◌, ◌≡◌, ◌∙◌, sym, arith}
use Rattle.std.proofs.lemmas.List.FromFn.{map-range_with_len_more}
use Rattle.spin_seated.specs.Passes.{first_of_view, new_pass}
use Rattle.spin_seated.proofs.Keeping.{opens, splits}
use Rattle.spin_seated.proofs.Passes.{kept_rest, given_first}
use Rattle.spin_seated.proofs.lock.SeatedLock.new.Goals as goal

pub of_words-requires : goal.of_words-requires
of_words-requires g c = opens g.C.Calls.machine _ _ (sym (c.laws.ensures.words _))

pub split_seat-own-requires : goal.split_seat-own-requires
split_seat-own-requires g c = grind (arith, splits)

pub invariant_of-push : goal.invariant_of-push
invariant_of-push g c = grind (arith, given_first)

pub invariant_of-push-in-loop : goal.invariant_of-push-in-loop
invariant_of-push-in-loop g c = grind (arith, given_first)

pub loop-preserved : goal.loop-preserved
loop-preserved g c =
    let k = c.in_ok-table.table.shared.key in let z = c.in_ok-table.table.shared.table_id in let i = c.loop.invariant in
    let rest = kept_rest k c.loop.counter c.args.passes c.loop-test.true c.loop.seat.me c.split_seat-own.new.seat.me c.split_seat-own.result.me i.rest c.split_seat-own.ensures.2 in
    let own = given_first k c.loop.counter c.args.passes c.loop-test.true c.loop.seat.me c.split_seat-own.new.seat.me c.split_seat-own.result.me i.rest c.split_seat-own.ensures.4 in
    let first : c.split_seat-own.result.table_id ≡ z = c.split_seat-own.ensures.3 ∙ i.own in
    record {
      opening = i.opening;
      words = i.words;
      own = c.split_seat-own.ensures.0 ∙ i.own;
      rest = rest;
      given = c.in_ok-push.ensures.items ∙ ((λ j. i.given j ++ record { table = first j; known = first_of_view (own j).0 } ∷ []) ∙ sym (map-range_with_len_more (new_pass z k) 0 c.loop.counter c.loop.counter (omega arith)));
    }
