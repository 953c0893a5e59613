use Rattle.std.proofs.Common.{◌∙◌, ap}
use Rattle.spin_text.specs.Lines.{words_of}
use Rattle.spin_text.specs.Reading.{last_number}
use Rattle.spin_run.proofs.Words.{next_options}
use Rattle.spin_run.proofs.explore.options.options_of.Goals as goal

pub loop-rest-preserved : goal.loop-rest-preserved
loop-rest-preserved c =
    next_options _ _ c.loop-rest.rest.now _ _ _ _ _ c.in-len2-up.len_at_least c.as_bytes.ensures.value
    (c.only_number.ensures ∙ ap (λ w. last_number (words_of w)) c.as_bytes-in-len2-up.ensures.value) c.with_option.ensures c.in_ok-options.was
    ∙ c.loop-rest.invariant
