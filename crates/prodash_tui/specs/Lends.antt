-- What is lent of a screen, a grid or a row.
use mathlib.Core.Option.{none}
use Rattle.std.specs.Prelude.{◌≡◌, ⊤, List}
use Rattle.std.specs.Borrow.{Lends, MutBor, Fml, follows_so}
use Rattle.prodash_tui.specs.declared.cell.Cell.{Cell}
use Rattle.prodash_tui.specs.Grids.{Sheet}
use Rattle.prodash_tui.specs.Screens.{Buffers}
use Rattle.prodash_tui.specs.contracts.drawn_row.DrawnRow as drawn_row
use Rattle.prodash_tui.specs.contracts.grid.Grid as grid
use Rattle.prodash_tui.specs.contracts.screen.Screen as screen

-- once `r` ends, the grid that is drawn next is the one that was last written through `r`
abbrev pub LendsBack : MutBor Buffers → MutBor Sheet → Fml
LendsBack s r = Lends screen.the_row grid.the_row s r (λ g. record s.now { back = g })

-- the row stays what it is, whenever what was read of it ends
abbrev pub KeepsRow : MutBor (List Cell) → Fml
KeepsRow s = follows_so drawn_row.the_row drawn_row.the_row s.ghost_name none (λ _ _. ⊤) (λ row. row ≡ s.now)

-- the grid stays what it is, whenever what was read of it ends
abbrev pub KeepsGrid : MutBor Sheet → Fml
KeepsGrid s = follows_so grid.the_row grid.the_row s.ghost_name none (λ _ _. ⊤) (λ g. g ≡ s.now)
