-- What a line that is added to the information changes.
use Rattle.std.specs.Prelude.{◌≡◌, [], ◌∷◌, ◌++◌}
use Rattle.std.specs.Global.{Vec}
use Rattle.prodash_core.specs.declared.render.tui.event.Line.{Line}
use Rattle.prodash_script.specs.DashboardLines.{plain_line, plain_lines}

-- the information has this line behind the others
abbrev pub AddsLine : Line → Vec Line → Vec Line → Type 0
AddsLine line old new = plain_lines new.items ≡ plain_lines old.items ++ plain_line line ∷ []
