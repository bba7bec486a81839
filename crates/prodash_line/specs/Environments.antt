-- What the environment of a program says about the terminal.
use Rattle.std.specs.Prelude.{◌≡◌, ◌&&◌, ◌||◌, ◌==◌, if◌then◌else◌, not, Bool, true, false, List, [], ℕ, codes, SomeIff}
use Rattle.std.specs.List.{before_first, after_first}
use Rattle.std.specs.Str.{bytes_eq, str_eq_ignore_ascii_case}
use Rattle.std.specs.Str.Parse.{digits_value}
use Rattle.prodash_line.specs.Dimensions.{IsDimension}
use Rattle.prodash_line.specs.declared.render.line.terminal.ColorChoice.{ColorChoice}
use Rattle.prodash_line.specs.declared.render.line.terminal.ColorChoice.TheVariants.{Auto, Always, Never}
use Rattle.prodash_line.specs.declared.render.line.terminal.Environment.{Environment}
use Rattle.prodash_line.specs.declared.render.line.terminal.variables.Variables.{Variables}

-- has a variable a value? one that isn't set has an empty text
abbrev pub is_set : List ℕ → Bool
is_set value = not (bytes_eq value [])

-- has it a value other than `0`?
abbrev pub is_nonzero : List ℕ → Bool
is_nonzero value = is_set value && not (bytes_eq value (codes "0"))

-- does CLICOLOR_FORCE or FORCE_COLOR enable colours? unless it is `0`, or the latter is `false`
abbrev pub forces_color : Variables → Bool
forces_color v = is_nonzero v.clicolor_force.now || (is_nonzero v.force_color.now && not (bytes_eq v.force_color.now (codes "false")))

-- NO_COLOR disables colours, else those two enable them, else a CLICOLOR of `0` disables them
abbrev pub colors_of : Variables → ColorChoice
colors_of v =
    if is_set v.no_color.now then Never
    else if forces_color v then Always
    else if bytes_eq v.clicolor.now (codes "0") then Never
    else Auto

-- are there colours, on an output that is a terminal or isn't?
abbrev pub is_colored : ColorChoice → Bool → Bool
is_colored Auto is_terminal = is_terminal
is_colored Always is_terminal = true
is_colored Never is_terminal = false

-- does TERM name a terminal that can show frames?
abbrev pub shows_frames : Variables → Bool
shows_frames v = is_set v.term.now && not (bytes_eq v.term.now (codes "dumb"))

-- the locale of characters: the first of LC_ALL, LC_CTYPE and LANG that has a value
abbrev pub locale_of : Variables → List ℕ
locale_of v = if is_set v.lc_all.now then v.lc_all.now else if is_set v.lc_ctype.now then v.lc_ctype.now else v.lang.now

-- is this codeset UTF-8?
abbrev pub is_utf8 : List ℕ → Bool
is_utf8 codeset = str_eq_ignore_ascii_case codeset (codes "utf-8") || str_eq_ignore_ascii_case codeset (codes "utf8")

-- a locale without its modifier, which stands behind an `@`
abbrev pub without_modifier : List ℕ → List ℕ
without_modifier locale = before_first (λ c. c == 64) locale

-- is a locale one of UTF-8? it is if the codeset behind its `.` is, or the whole name
abbrev pub is_utf8_locale : List ℕ → Bool
is_utf8_locale locale = is_utf8 (after_first (λ c. c == 46) (without_modifier locale)) || is_utf8 (without_modifier locale)

-- what the values of the variables say
pub record IsSaidBy (v : Variables) (it : Environment) : Type 0 where
  -- whether texts have colours
  pub colors : it.colors ≡ colors_of v
  -- whether a terminal can show frames
  pub shows_frames : it.shows_frames ≡ shows_frames v
  -- whether texts are in UTF-8
  pub is_utf8 : it.is_utf8 ≡ is_utf8_locale (locale_of v)
  -- the columns that COLUMNS names
  pub columns : SomeIff it.columns (IsDimension v.columns.now) (digits_value 10 v.columns.now)
  -- the rows that LINES names
  pub rows : SomeIff it.rows (IsDimension v.lines.now) (digits_value 10 v.lines.now)

-- Each variable's value is what was given for its name.
pub record AreGiven (gave : List ℕ → List ℕ → Type 0) (v : Variables) : Type 0 where
  pub no_color : gave (codes "NO_COLOR") v.no_color.now
  pub clicolor : gave (codes "CLICOLOR") v.clicolor.now
  pub clicolor_force : gave (codes "CLICOLOR_FORCE") v.clicolor_force.now
  pub force_color : gave (codes "FORCE_COLOR") v.force_color.now
  pub term : gave (codes "TERM") v.term.now
  pub lc_all : gave (codes "LC_ALL") v.lc_all.now
  pub lc_ctype : gave (codes "LC_CTYPE") v.lc_ctype.now
  pub lang : gave (codes "LANG") v.lang.now
  pub columns : gave (codes "COLUMNS") v.columns.now
  pub lines : gave (codes "LINES") v.lines.now

-- what the values say that were given for the names of the variables
abbrev pub IsReadFrom : (List ℕ → List ℕ → Type 0) → Environment → Type 0
IsReadFrom gave it = (v : Variables) × AreGiven gave v × IsSaidBy v it
