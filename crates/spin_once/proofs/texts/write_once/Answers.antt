use Rattle.std.proofs.Common.{Some, rules}
use Rattle.core.proofs.fmt.Output.{displays_on_IsOk_append}
use Rattle.spin_once.proofs.texts.write_once.Goals as goal

pub returns : goal.returns
returns g c =
    rw c.in-Some.is (displays_on_IsOk_append g.W.Write.write_str_gives _ _ _ c.write_str-2.result c.write_str-3.result (Some c.args.shown.now) _
    (λ _. search rules) c.write_str-2.ensures.writes
    (displays_on_IsOk_append g.W.Write.write_str_gives _ _ _ c.fmt.result c.write_str-3.result _ _ (λ _. search rules) c.fmt.ensures.writes
    c.write_str-3.ensures.writes))
