use Rattle.std.proofs.Common.{◌+◌, length, arith, length-drop, ◌∙◌, ap}
use Rattle.spin_text.proofs.Appended.{Appends-take, drop_more}
use Rattle.spin_text.proofs.ends.write_whole.Goals as goal

-- the bytes that this write accepted follow those written before
pub loop-rest-preserved : goal.loop-rest-preserved
loop-rest-preserved g c =
    let before = c.loop-rest.invariant in (
      before.0 + c.in_ok-n.n,
      omega (arith, ap length before.2, length-drop before.0 c.args.text.now, c.in_ok-n.ensures.bound),
      drop_more c.args.text.now _ _ _ before.2,
      Appends-take _ _ _ c.args.text.now _ _ _ before.2 before.3 c.in_ok-n.ensures.bytes,
      c.in_ok-n.ensures.ok ∙ before.4,
    )
