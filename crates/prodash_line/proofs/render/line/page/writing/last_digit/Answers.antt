use Rattle.std.proofs.Common.{ap}
use Rattle.std.specs.Fmt.{decimal, digits}
use Rattle.prodash_line.specs.declared.render.line.page.style.Color.{Color}
use Rattle.prodash_line.specs.Styles.{color_code}
use Rattle.prodash_line.proofs.render.line.page.writing.last_digit.Goals as goal

pub returns-in-Red : goal.returns-in-Red
unfolding digits
returns-in-Red c = ap (λ (color : Color). decimal (color_code color)) c.in-Red.is

pub returns-in-Green : goal.returns-in-Green
unfolding digits
returns-in-Green c = ap (λ (color : Color). decimal (color_code color)) c.in-Green.is

pub returns-in-Yellow : goal.returns-in-Yellow
unfolding digits
returns-in-Yellow c = ap (λ (color : Color). decimal (color_code color)) c.in-Yellow.is

pub returns-in-Cyan : goal.returns-in-Cyan
unfolding digits
returns-in-Cyan c = ap (λ (color : Color). decimal (color_code color)) c.in-Cyan.is

pub returns-in-White : goal.returns-in-White
unfolding digits
returns-in-White c = ap (λ (color : Color). decimal (color_code color)) c.in-White.is
