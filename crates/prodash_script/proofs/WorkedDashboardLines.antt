-- Lines for a dashboard, read.
use Prim.Native.Char.{code}
use Rattle.std.proofs.Common.{◌≡◌, ◌++◌, ◌∷◌, [], refl}
use Rattle.std.specs.Prelude.{Some, None, true, false, codes, encode_utf8_all}
use Rattle.std.specs.Str.{chars}
use Rattle.prodash_core.specs.declared.render.tui.event.Interrupt.TheVariants.{Instantly, Deferred}
use Rattle.prodash_core.specs.declared.render.tui.event.KeyCode.TheVariants.{Char as Character, Esc, Other}
use Rattle.prodash_script.specs.Reading.{cut_at_space, first_of}
use Rattle.prodash_script.specs.DashboardLines.{information_after, pressed, read_dashboard_line}
use Rattle.prodash_script.specs.declared.dashboard_line.DashboardLine.TheVariants as lines

-- a key is a character, also a space and one outside of ASCII
pub letter : read_dashboard_line (codes "key q") ≡ Some (lines.Press (pressed false (Character (code "q"))))
unfolding cut_at_space chars
letter = refl

pub space : read_dashboard_line (codes "key  ") ≡ Some (lines.Press (pressed false (Character 32)))
unfolding cut_at_space chars
space = refl

pub accented : read_dashboard_line (encode_utf8_all (codes "key é")) ≡ Some (lines.Press (pressed false (Character (code "é"))))
unfolding cut_at_space chars lib.Utf8.encode
accented = refl

-- or it has a word
pub escape : read_dashboard_line (codes "key esc") ≡ Some (lines.Press (pressed false Esc))
unfolding cut_at_space chars
escape = refl

pub other : read_dashboard_line (codes "key other") ≡ Some (lines.Press (pressed false Other))
unfolding cut_at_space chars
other = refl

-- with Control it is a character
pub control : read_dashboard_line (codes "key ctrl-[") ≡ Some (lines.Press (pressed true (Character (code "["))))
unfolding cut_at_space chars
control = refl

-- these are none
pub two_letters : read_dashboard_line (codes "key ab") ≡ None
unfolding cut_at_space chars
two_letters = refl

pub no_letter : read_dashboard_line (codes "key ") ≡ None
unfolding cut_at_space chars
no_letter = refl

pub control_alone : read_dashboard_line (codes "key ctrl-") ≡ None
unfolding cut_at_space chars
control_alone = refl

pub control_with_escape : read_dashboard_line (codes "key ctrl-esc") ≡ None
unfolding cut_at_space chars
control_with_escape = refl

pub key_alone : read_dashboard_line (codes "key") ≡ None
unfolding cut_at_space chars
key_alone = refl

-- a title is the rest of the line, and may be empty
pub title : read_dashboard_line (codes "title a  b ") ≡ Some (lines.SetTitle (codes "a  b "))
unfolding cut_at_space
title = refl

pub no_title : read_dashboard_line (codes "title ") ≡ Some (lines.SetTitle [])
unfolding cut_at_space
no_title = refl

-- four numbers of 16 bits
pub window : read_dashboard_line (codes "window 1 2 80 0024")
    ≡ Some (lines.SetWindow (record { x = 1; y = 2; width = 80; height = 24 }))
unfolding cut_at_space first_of
window = refl

pub too_wide : read_dashboard_line (codes "window 1 2 65536 24") ≡ None
unfolding cut_at_space first_of
too_wide = refl

pub without_rows : read_dashboard_line (codes "window 1 2 80") ≡ None
unfolding cut_at_space first_of
without_rows = refl

-- when requests to interrupt stop it
pub deferred : read_dashboard_line (codes "interrupt deferred") ≡ Some (lines.SetInterruptMode Deferred)
unfolding cut_at_space
deferred = refl

pub instantly : read_dashboard_line (codes "interrupt instantly") ≡ Some (lines.SetInterruptMode Instantly)
unfolding cut_at_space
instantly = refl

-- the information; `info` is the word of a message
pub added_title : read_dashboard_line (codes "info_title Keys") ≡ Some (lines.AddTitle (codes "Keys"))
unfolding cut_at_space
added_title = refl

pub added_text : read_dashboard_line (codes "info_text q quits") ≡ Some (lines.AddText (codes "q quits"))
unfolding cut_at_space
added_text = refl

pub cleared : read_dashboard_line (codes "info_clear") ≡ Some lines.ClearInformation
unfolding cut_at_space
cleared = refl

pub message : read_dashboard_line (codes "info 1 0 text") ≡ None
unfolding cut_at_space
message = refl

-- what it leaves of two lines
pub one_more : information_after (lines.AddText (codes "c")) ((true, codes "a") ∷ (false, codes "b") ∷ [])
    ≡ (true, codes "a") ∷ (false, codes "b") ∷ (false, codes "c") ∷ []
one_more = refl

pub none_left : information_after lines.ClearInformation ((true, codes "a") ∷ []) ≡ []
none_left = refl
