-- The definitions of parts of rectangles and of offsets, computed.
use Rattle.std.proofs.Common.{◌≡◌, ℕ, refl}
use Rattle.prodash_core.specs.declared.render.tui.event.Rect.{Rect}
use Rattle.prodash_tui.specs.Rects.{intersect, line_bound, offset_x, snap_to_right}
use Rattle.prodash_tui.specs.Offsets.{sanitize_offset}

abbrev rect : ℕ → ℕ → ℕ → ℕ → Rect
rect x y width height = record { x = x; y = y; width = width; height = height }

-- ---- rows and columns

-- the second row, one below the last one, and one that no grid has
pub second_line : line_bound (rect 3 5 10 2) 1 ≡ rect 3 6 10 1
second_line = refl

pub line_below : line_bound (rect 3 5 10 2) 2 ≡ rect 3 7 10 1
line_below = refl

pub no_line : line_bound (rect 3 5 10 2) 70000 ≡ rect 3 65535 10 1
no_line = refl

-- without four columns, and without more than there are
pub without_four : offset_x (rect 3 5 10 2) 4 ≡ rect 7 5 6 2
without_four = refl

pub without_all : offset_x (rect 3 5 10 2) 12 ≡ rect 15 5 0 2
without_all = refl

-- the last four columns, and as many as there are
pub last_four : snap_to_right (rect 3 5 10 2) 4 ≡ rect 9 5 4 2
last_four = refl

pub last_all : snap_to_right (rect 3 5 10 2) 12 ≡ rect 3 5 10 2
last_all = refl

-- ---- what is in both

pub overlap : intersect (rect 3 5 10 4) (rect 8 0 20 7) ≡ rect 8 5 5 2
overlap = refl

-- one beside the other, and one inside the other
pub beside : intersect (rect 3 5 10 4) (rect 20 5 10 4) ≡ rect 20 5 0 4
beside = refl

pub within : intersect (rect 3 5 10 4) (rect 4 6 2 2) ≡ rect 4 6 2 2
within = refl

-- ---- offsets

-- ten items in four lines: at most six are skipped
pub some_skipped : sanitize_offset 2 10 4 ≡ 2
some_skipped = refl

pub most_skipped : sanitize_offset 20 10 4 ≡ 6
most_skipped = refl

-- none if they fit
pub none_skipped : sanitize_offset 20 4 4 ≡ 0
none_skipped = refl
