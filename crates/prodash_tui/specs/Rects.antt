-- Parts of rectangles.
use Rattle.std.specs.Prelude.{ℕ, ◌+◌, ◌-◌, min, max, List, [], ◌∷◌}
use Rattle.prodash_core.specs.declared.render.tui.event.Rect.{Rect}

-- its first row
abbrev pub top_of : Rect → Rect
top_of area = record area { height = min 1 area.height }

-- its last row
abbrev pub bottom_of : Rect → Rect
bottom_of area = record area { y = min (area.y + (area.height - 1)) 65535; height = min 1 area.height }

-- its first column
abbrev pub left_side_of : Rect → Rect
left_side_of area = record area { width = min 1 area.width }

-- its last column
abbrev pub right_side_of : Rect → Rect
right_side_of area = record area { x = min (area.x + (area.width - 1)) 65535; width = min 1 area.width }

-- what is inside its border
abbrev pub inner_of : Rect → Rect
inner_of area = record {
  x = min (area.x + 1) 65535;
  y = min (area.y + 1) 65535;
  width = area.width - 2;
  height = area.height - 2;
}

-- its row in this place, whatever its height is; row 65535, which no grid has, if it is beyond that
abbrev pub line_bound : Rect → ℕ → Rect
line_bound area line = record area { y = min (area.y + line) 65535; height = 1 }

-- it without its first columns
abbrev pub offset_x : Rect → ℕ → Rect
offset_x area columns = record area { x = min (area.x + columns) 65535; width = area.width - columns }

-- its last columns
abbrev pub snap_to_right : Rect → ℕ → Rect
snap_to_right area width = offset_x area (area.width - width)

-- what is in both: between the later of the first edges and the earlier of the last ones
abbrev pub intersect : Rect → Rect → Rect
intersect a b = record {
  x = max a.x b.x;
  y = max a.y b.y;
  width = min (a.x + a.width) (b.x + b.width) - max a.x b.x;
  height = min (a.y + a.height) (b.y + b.height) - max a.y b.y;
}

-- the parts of a border, each with its character, of which later ones hide earlier ones
abbrev pub border : Rect → List (Rect × ℕ)
border area =
    (left_side_of area, 0x2502)
    ∷ (right_side_of area, 0x2502)
    ∷ (bottom_of area, 0x2500)
    ∷ (top_of area, 0x2500)
    ∷ (right_side_of (bottom_of area), 0x2518)
    ∷ (right_side_of (top_of area), 0x2510)
    ∷ (left_side_of (bottom_of area), 0x2514)
    ∷ (left_side_of (top_of area), 0x250C)
    ∷ []
