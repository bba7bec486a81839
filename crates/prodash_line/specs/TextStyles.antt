-- The styles of the texts of rows and messages.
use Rattle.std.specs.Prelude.{ℕ, ◌*◌, nat_lt, true, false, Option, Some, None, if◌then◌else◌}
use Rattle.prodash_base.specs.Rows.{Phase, Blocked, Halted, Running, RowProgress}
use Rattle.prodash_base.specs.declared.messages.MessageLevel.{MessageLevel}
use Rattle.prodash_base.specs.declared.messages.MessageLevel.TheVariants.{Info, Failure, Success}
use Rattle.prodash_line.specs.declared.render.line.page.style.Color.{Color}
use Rattle.prodash_line.specs.declared.render.line.page.style.Color.TheVariants.{Red, Green, Yellow, Cyan, White}
use Rattle.prodash_line.specs.declared.render.line.page.style.Style.{Style}

-- the style of this colour alone
abbrev pub of_color : Color → Style
of_color color = record { bold = false; dim = false; color = Some color; on_yellow = false }

-- the same style in bold
abbrev pub bold : Style → Style
bold style = record style { bold = true }

-- the same style dimmed
abbrev pub dimmed : Style → Style
dimmed style = record style { dim = true }

-- the same style on a yellow background
abbrev pub on_yellow : Style → Style
on_yellow style = record style { on_yellow = true }

-- the name of a row: cyan with progress, else white
abbrev pub name_style : Option RowProgress → Style
name_style None = bold (of_color White)
name_style (Some p) = bold (of_color Cyan)

-- the values of a row
abbrev pub values_style : Style
values_style = record { bold = true; dim = true; color = None; on_yellow = false }

-- the colour of a row that is running: with a bound green above four fifths of it, else yellow; white without a bound
abbrev pub running_color : ℕ → Option ℕ → Color
running_color step None = White
running_color step (Some bound) = if nat_lt (4 * bound) (5 * step) then Green else Yellow

-- the style of a row in this phase: that colour if it is running, dim red if it is halted, red if it is blocked
abbrev pub style_in : Phase → ℕ → Option ℕ → Style
style_in Running step bound = of_color (running_color step bound)
style_in (Halted reason eta) step bound = dimmed (of_color Red)
style_in (Blocked reason eta) step bound = of_color Red

-- the style of a row, in which its bar is drawn
abbrev pub row_style : RowProgress → Style
row_style p = style_in p.phase p.counter p.bound

-- the origin of a message
abbrev pub origin_style : Style
origin_style = record { bold = false; dim = true; color = None; on_yellow = false }

-- the colour of a severity
abbrev pub level_color : MessageLevel → Color
level_color Info = White
level_color Success = Green
level_color Failure = Red

-- the text of a message, by its severity
abbrev pub message_style : MessageLevel → Style
message_style level = bold (of_color (level_color level))

-- the time of a message, by its severity
abbrev pub time_style : MessageLevel → Style
time_style level = on_yellow (dimmed (of_color (level_color level)))
