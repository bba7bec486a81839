-- Copies of lines of the information say the same.
use Rattle.std.proofs.Common.{◌≡◌, ◌∷◌, [], List, true, false, refl, ap}
use Rattle.std.specs.Prelude.{string_bytes}
use Rattle.std.specs.List.{AllZip}
use Rattle.prodash_core.specs.declared.render.tui.event.Line.{Line}
use Rattle.prodash_core.specs.declared.render.tui.event.Line.TheVariants.{Title, Text}
use Rattle.prodash_core.specs.contracts.render.tui.event.LineClone as clones
use Rattle.prodash_script.specs.DashboardLines.{plain_line, plain_lines}

plain_copy : (x y : Line) → clones.TheImpl.ghosts.is_clone x y → plain_line y ≡ plain_line x
plain_copy (Title a) (Title b) h = let same : string_bytes b ≡ string_bytes a = h in ap (λ text. (true, text)) same
plain_copy (Text a) (Text b) h = let same : string_bytes b ≡ string_bytes a = h in ap (λ text. (false, text)) same
plain_copy (Title a) (Text b) h = absurd h
plain_copy (Text a) (Title b) h = absurd h

pub plain_copies : (xs ys : List Line) → AllZip clones.TheImpl.ghosts.is_clone xs ys → plain_lines ys ≡ plain_lines xs
plain_copies [] [] h = refl
plain_copies [] (y ∷ ys) h = absurd h
plain_copies (x ∷ xs) [] h = absurd h
plain_copies (x ∷ xs) (y ∷ ys) h =
    let first = plain_copy x y h.0 in
    let rest = plain_copies xs ys h.1 in
    cc
