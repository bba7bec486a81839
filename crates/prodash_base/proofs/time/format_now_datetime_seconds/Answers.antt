use Rattle.std.proofs.Common.{◌++◌, [], ◌∷◌, ap, ◌∙◌}
use Rattle.prodash_base.specs.Moments.{date_text, time_text}
use Rattle.prodash_base.specs.plumbing.Dates.{calendar_date}
use Rattle.prodash_base.proofs.DayNumbers.{date_is}
use Rattle.prodash_base.proofs.time.format_now_datetime_seconds.Goals as goal

pub returns-clause-ok : goal.returns-clause-ok
returns-clause-ok c =
    let date = calendar_date c.date_of.result in
    let dated = c.in_ok-push_date.ensures.0 ∙ ap (λ t. t ++ date_text date) c.new-text.ensures.bytes in
    let behind = c.in_ok-push_ascii.ensures.0 ∙ ap (λ t. t ++ 84 ∷ []) dated in
    record {
      date = date;
      is_date = date_is c.date_of.result _ c.date_of.ensures;
      is_text = c.in_ok-push_clock.ensures.0 ∙ ap (λ t. t ++ time_text c.args.at) behind;
    }
