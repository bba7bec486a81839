use Rattle.std.proofs.Common.{◌∙◌, ap, length, ◌++◌, ◌/◌}
use Rattle.prodash_base.specs.Moments.{clock_text}
use Rattle.prodash_base.proofs.ClockTexts.{length-clock_text}
use Rattle.prodash_base.proofs.time.format_time_for_messages.Goals as goal

pub returns-clause-length : goal.returns-clause-length
returns-clause-length c =
    ap length (c.in_ok-push_clock.ensures.0 ∙ ap (λ t. t ++ clock_text (c.args.at / 1000000000)) c.new-time.ensures.bytes)
    ∙ length-clock_text (c.args.at / 1000000000)
