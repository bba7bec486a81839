use Rattle.std.proofs.Common.{Bool, ◌++◌, codes, ap, sym}
use Rattle.std.specs.Str.{chars}
use Rattle.prodash_line.specs.ProgressRows.{ellipsis}
use Rattle.prodash_line.proofs.render.line.draw.more.before_count.Goals as goal

pub returns-then-ascii : goal.returns-then-ascii
unfolding chars
returns-then-ascii c = ap (λ (ascii : Bool). codes " " ++ (ellipsis ascii ++ codes " and ")) (sym c.if-ascii.true)

pub returns-else-ascii : goal.returns-else-ascii
unfolding chars
returns-else-ascii c = ap (λ (ascii : Bool). codes " " ++ (ellipsis ascii ++ codes " and ")) (sym c.if-ascii.false)
