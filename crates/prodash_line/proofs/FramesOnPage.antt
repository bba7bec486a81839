-- Frames on a page, and lists of frames.
use Rattle.std.proofs.Common.{Bool, false, ◌≡◌, ℕ, zero, suc, ◌+◌, ◌-◌, ◌^◌, ◌<◌, ◌≤◌, List, [], ◌∷◌, ◌++◌, length, drop, map, refl, sym, ap, subst, ◌∙◌, append_assoc, length-append, length-drop, arith}
use Rattle.std.specs.Prelude.{replicate, min, max}
use Rattle.std.specs.List.{AllByRecursion}
use Rattle.std.proofs.lemmas.List.{append-nil, drop_all, length-replicate, length-map, map-append, drop-map, set_at}
use Rattle.prodash_line.specs.declared.render.line.page.sign.Sign.{Sign}
use Rattle.prodash_line.specs.declared.render.line.page.sign.Sign.TheVariants.{CarriageReturn, EraseLine}
use Rattle.prodash_line.specs.declared.render.line.draw.layout.Layout.{Layout}
use Rattle.prodash_line.specs.declared.render.line.draw.layout.Layout.TheVariants.{Overwriting}
use Rattle.prodash_line.specs.Lines.{Line, columns_of}
use Rattle.prodash_line.specs.Frames.{overwrite, widths_of, cursor_up, redraw, Body, Frame, body_signs, frame_signs, body_lines, lines_after, signs_of, all_lines_after, printed_lines}
use Rattle.prodash_line.specs.Page.{Canvas, blank, page_after}
use Rattle.prodash_line.specs.Shows.{cells_of, ShowsLines, Shows}
use Rattle.prodash_line.specs.Fits.{LineFits, LinesFit, BodyFits, FrameFits}
use Rattle.prodash_line.proofs.Lists.{AllByRecursion-append, AllByRecursion-replicate, AllByRecursion-drop}
use Rattle.prodash_line.proofs.CursorRow.{at, page_after-append}
use Rattle.prodash_line.proofs.UnseenSigns.{IsUnseen, after_unseen}
use Rattle.prodash_line.proofs.OrderlyFrames.{IsEnding, EndsOrderly, IsOrderly}
use Rattle.prodash_line.proofs.Overwriting.{rows_after, length-rows_after, ShowsLines-rows_after, overwrite_at}

-- up to the row in which the rows xs begin
pub cursor_up_at : (columns height : ℕ) (wraps : Bool) (above xs below : List (List ℕ)) → length xs + length below ≤ height → 0 < length below → height < 2 ^ 16
    → page_after (cursor_up (length xs)) (at columns height wraps (above ++ xs) below) ≡ at columns height wraps above (xs ++ below)
cursor_up_at columns height wraps above [] below h i w = ap (λ (a : List (List ℕ)). at columns height wraps a below) (append-nil above)
cursor_up_at columns height wraps above (x ∷ xs) below h i w =
    let rows : (above ++ x ∷ xs) ++ below ≡ above ++ ((x ∷ xs) ++ below) = append_assoc above (x ∷ xs) below in
    let size : length (above ++ ((x ∷ xs) ++ below)) ≡ length above + (length (x ∷ xs) + length below) = length-append above ((x ∷ xs) ++ below) ∙ ap (λ (n : ℕ). length above + n) (length-append (x ∷ xs) below) in
    let size_above : length (above ++ x ∷ xs) ≡ length above + length (x ∷ xs) = length-append above (x ∷ xs) in
    ap (λ (rs : List (List ℕ)). record { columns = columns; height = height; rows = rs; row = max (length rs - height) (length (above ++ x ∷ xs) - min (length (x ∷ xs)) 65535); column = 0; wraps = wraps }) rows
    ∙ ap (λ (n : ℕ). record { columns = columns; height = height; rows = above ++ ((x ∷ xs) ++ below); row = n; column = 0; wraps = wraps })
    (let e : max (length (above ++ ((x ∷ xs) ++ below)) - height) (length (above ++ x ∷ xs) - min (length (x ∷ xs)) 65535) ≡ length above = omega arith in e)

-- rows of lines, then of empty lines, then blank ones show the lines
pub ShowsLines-lines : (columns n : ℕ) (lines : List Line) (below : List (List ℕ)) → ShowsLines columns [] below → ShowsLines columns lines (map (cells_of columns) (lines ++ replicate n []) ++ below)
ShowsLines-lines columns zero [] below h = h
ShowsLines-lines columns (suc n) [] below h = (ap (λ (k : ℕ). replicate k 32) (let e : columns - 0 ≡ columns = omega arith in e), ShowsLines-lines columns n [] below h)
ShowsLines-lines columns n (l ∷ ls) below h = (refl, ShowsLines-lines columns n ls below h)

-- the line of no pieces fits any page
pub LineFits-empty : (columns : ℕ) → LineFits false columns []
LineFits-empty columns = record { plain = record { pieces = tt; columns = refl }; within = omega arith }

-- the rows that a redraw leaves from the cursor's row on
abbrev pub redrawn : ℕ → List Line → List Line → List (List ℕ) → List (List ℕ)
redrawn columns old lines below = let all = lines ++ replicate (length old - length lines) [] in map (cells_of columns) all ++ rows_after columns (length all) below

-- a redraw on a page
pub redraw_at : (columns height : ℕ) (wraps : Bool) (old lines : List Line) (above below : List (List ℕ))
    → LinesFit false columns old → LinesFit false columns lines → length old < height → length lines < height → height < 2 ^ 16
    → ShowsLines columns old below → 0 < length below → length below ≤ height
    → page_after (redraw Overwriting (widths_of old) lines) (at columns height wraps above below) ≡ at columns height wraps above (redrawn columns old lines below)
redraw_at columns height wraps old lines above below s p hs hl w h i fits =
    let n = length old - length lines in
    let all = lines ++ replicate n [] in
    let filled : length (replicate {A = Line} n []) ≡ n = length-replicate {A = Line} n [] in
    let size : length all ≡ length lines + length (replicate {A = Line} n []) = length-append lines (replicate n []) in
    let most : max (length lines) (length old) ≡ length (map (cells_of columns) all) = (let e : max (length lines) (length old) ≡ length all = omega arith in e) ∙ sym (length-map all (cells_of columns)) in
    let rest : length (rows_after columns (length all) below) ≡ max 1 (length below - length all) = length-rows_after columns (length all) below i in
    let mapped : length (map (cells_of columns) all) ≡ length all = length-map all (cells_of columns) in
    ap (λ (k : ℕ). page_after (overwrite (widths_of old) (lines ++ replicate (k - length lines) []) ++ cursor_up (max (length lines) k)) (at columns height wraps above below)) (length-map old columns_of)
    ∙ page_after-append (overwrite (widths_of old) all) (cursor_up (max (length lines) (length old))) (at columns height wraps above below)
    ∙ ap (page_after (cursor_up (max (length lines) (length old)))) (overwrite_at columns height wraps old all above below s (AllByRecursion-append (LineFits false columns) lines _ p (AllByRecursion-replicate (LineFits false columns) n [] (LineFits-empty columns))) h i)
    ∙ ap (λ (k : ℕ). page_after (cursor_up k) (at columns height wraps (above ++ map (cells_of columns) all) (rows_after columns (length all) below))) most
    ∙ cursor_up_at columns height wraps above (map (cells_of columns) all) (rows_after columns (length all) below) (omega arith) (omega arith) w

-- those rows show the lines
pub redrawn_shows : (columns height : ℕ) (old lines : List Line) (below : List (List ℕ))
    → ShowsLines columns old below → 0 < length below → length below ≤ height → length old < height → length lines < height
    → ShowsLines columns lines (redrawn columns old lines below) × (0 < length (redrawn columns old lines below)) × (length (redrawn columns old lines below) ≤ height)
redrawn_shows columns height old lines below h i fits hs hl =
    let n = length old - length lines in
    let all = lines ++ replicate n [] in
    let filled : length (replicate {A = Line} n []) ≡ n = length-replicate {A = Line} n [] in
    let size : length all ≡ length lines + length (replicate {A = Line} n []) = length-append lines (replicate n []) in
    let rest : length (rows_after columns (length all) below) ≡ max 1 (length below - length all) = length-rows_after columns (length all) below i in
    let mapped : length (map (cells_of columns) all) ≡ length all = length-map all (cells_of columns) in
    let whole : length (redrawn columns old lines below) ≡ length (map (cells_of columns) all) + length (rows_after columns (length all) below) = length-append (map (cells_of columns) all) (rows_after columns (length all) below) in
    let blanks : ShowsLines columns [] (rows_after columns (length all) below) = subst (λ (s : List Line). ShowsLines columns s (rows_after columns (length all) below)) (drop_all (length all) old (omega arith)) (ShowsLines-rows_after columns (length all) old below i h) in
    (ShowsLines-lines columns n lines (rows_after columns (length all) below) blanks, omega arith, omega arith)

-- signs that end a frame change nothing if the cursor's row is blank
pub ending_at : (signs : List Sign) (columns height : ℕ) (wraps : Bool) (above below : List (List ℕ)) → AllByRecursion IsEnding signs
    → page_after signs (at columns height wraps above (blank columns ∷ below)) ≡ at columns height wraps above (blank columns ∷ below)
ending_at [] columns height wraps above below h = refl
ending_at (CarriageReturn ∷ ss) columns height wraps above below h = ending_at ss columns height wraps above below h.1
ending_at (EraseLine ∷ ss) columns height wraps above below h =
    ap (λ (rows : List (List ℕ)). page_after ss (record { columns = columns; height = height; rows = rows; row = length above; column = 0; wraps = wraps })) (set_at above (blank columns) below (blank columns) (length above) refl)
    ∙ ending_at ss columns height wraps above below h.1
ending_at (s ∷ ss) columns height wraps above below h = ap (page_after ss) (after_unseen s (at columns height wraps above (blank columns ∷ below)) h.0) ∙ ending_at ss columns height wraps above below h.1

-- nor if no line is on screen
pub ending_shows : (signs : List Sign) (columns height : ℕ) (wraps : Bool) (above below : List (List ℕ)) → AllByRecursion IsEnding signs → ShowsLines columns [] below → 0 < length below
    → page_after signs (at columns height wraps above below) ≡ at columns height wraps above below
ending_shows signs columns height wraps above [] h s i = absurd (omega arith)
ending_shows signs columns height wraps above (row ∷ below) h s i =
    ap (λ (r : List ℕ). page_after signs (at columns height wraps above (r ∷ below))) s.0
    ∙ ending_at signs columns height wraps above below h
    ∙ ap (λ (r : List ℕ). at columns height wraps above (r ∷ below)) (sym s.0)

-- What each frame keeps: the rows above are as they were, the lines are below them, and the window begins no later.
pub record Home (columns height : ℕ) (wraps : Bool) (above : List (List ℕ)) (old : List Line) (p : Canvas) : Type 0 where
  pub below : List (List ℕ)
  pub is : p ≡ at columns height wraps above below
  pub shown : ShowsLines columns old below
  pub inside : 0 < length below
  pub window : length below ≤ height
  pub fit : LinesFit false columns old
  pub few : length old < height

-- what a frame does after its messages keeps it
pub Home-body : (columns height : ℕ) (wraps : Bool) (above : List (List ℕ)) (old : List Line) (p : Canvas) (b : Body) → height < 2 ^ 16
    → Home columns height wraps above old p → BodyFits false columns height b → EndsOrderly b → Home columns height wraps above (body_lines old b) (page_after (body_signs Overwriting (widths_of old) b) p)
Home-body columns height wraps above old p Body.Unchanged w h f o = h
Home-body columns height wraps above old p (Body.Draws lines) w h f o =
    let after = redrawn_shows columns height old lines h.below h.shown h.inside h.window h.few f.1 in
    record {
      below = redrawn columns old lines h.below;
      is = ap (page_after (redraw Overwriting (widths_of old) lines)) h.is ∙ redraw_at columns height wraps old lines above h.below h.fit f.0 h.few f.1 w h.shown h.inside h.window;
      shown = after.0;
      inside = after.1;
      window = after.2;
      fit = f.0;
      few = f.1;
    }
Home-body columns height wraps above old p (Body.Closes ending) w h f o =
    let few : 0 < height = omega (arith, h.few) in
    let after = redrawn_shows columns height old [] h.below h.shown h.inside h.window h.few few in
    record {
      below = redrawn columns old [] h.below;
      is = page_after-append (redraw Overwriting (widths_of old) []) ending p
          ∙ ap (page_after ending) (ap (page_after (redraw Overwriting (widths_of old) [])) h.is ∙ redraw_at columns height wraps old [] above h.below h.fit tt h.few few w h.shown h.inside h.window)
          ∙ ending_shows ending columns height wraps above (redrawn columns old [] h.below) o after.0 after.1;
      shown = after.0;
      inside = after.1;
      window = after.2;
      fit = tt;
      few = few;
    }

-- messages come below the rows above, over the first lines on screen
pub Home-messages : (columns height : ℕ) (wraps : Bool) (above : List (List ℕ)) (old : List Line) (p : Canvas) (messages : List Line)
    → Home columns height wraps above old p → LinesFit false columns messages
    → Home columns height wraps (above ++ map (cells_of columns) messages) (drop (length messages) old) (page_after (overwrite (widths_of old) messages) p)
Home-messages columns height wraps above old p messages h m =
    let size : length (rows_after columns (length messages) h.below) ≡ max 1 (length h.below - length messages) = length-rows_after columns (length messages) h.below h.inside in
    let fewer : length (drop (length messages) old) ≡ length old - length messages = length-drop (length messages) old in
    let is_inside : 0 < length h.below = h.inside in
    let window : length h.below ≤ height = h.window in
    let few : length old < height = h.few in
    record {
      below = rows_after columns (length messages) h.below;
      is = ap (page_after (overwrite (widths_of old) messages)) h.is ∙ overwrite_at columns height wraps old messages above h.below h.fit m h.shown h.inside;
      shown = ShowsLines-rows_after columns (length messages) old h.below h.inside h.shown;
      inside = omega arith;
      window = omega arith;
      fit = AllByRecursion-drop (LineFits false columns) (length messages) old h.fit;
      few = omega arith;
    }

-- signs that a page doesn't show change nothing
pub after_all_unseen : (signs : List Sign) (p : Canvas) → AllByRecursion IsUnseen signs → page_after signs p ≡ p
after_all_unseen [] p h = refl
after_all_unseen (s ∷ ss) p h = ap (page_after ss) (after_unseen s p h.0) ∙ after_all_unseen ss p h.1

pub Home-opening : (columns height : ℕ) (wraps : Bool) (above : List (List ℕ)) (old : List Line) (p : Canvas) (signs : List Sign) → AllByRecursion IsUnseen signs
    → Home columns height wraps above old p → Home columns height wraps above old (page_after signs p)
Home-opening columns height wraps above old p signs o h = record {
  below = h.below;
  is = after_all_unseen signs p o ∙ h.is;
  shown = h.shown;
  inside = h.inside;
  window = h.window;
  fit = h.fit;
  few = h.few;
}

-- a frame keeps it, with its messages above
pub Home-frame : (columns height : ℕ) (wraps : Bool) (above : List (List ℕ)) (old : List Line) (p : Canvas) (f : Frame) → height < 2 ^ 16
    → Home columns height wraps above old p → FrameFits false columns height f → IsOrderly f
    → Home columns height wraps (above ++ map (cells_of columns) f.messages) (lines_after old f) (page_after (frame_signs (widths_of old) f) p)
Home-frame columns height wraps above old p f w h fits o =
    let opened = page_after f.opening p in
    let messages = Home-messages columns height wraps above old opened f.messages (Home-opening columns height wraps above old p f.opening o.opening h) fits.messages in
    let widths = widths_of old in
    let ended = Home-body columns height wraps (above ++ map (cells_of columns) f.messages) (drop (length f.messages) old) _ f.body w messages fits.body o.body in
    let same : page_after (body_signs Overwriting (widths_of (drop (length f.messages) old)) f.body) (page_after (overwrite widths f.messages) opened) ≡ page_after (frame_signs widths f) p =
    ap (λ (ws : List ℕ). page_after (body_signs Overwriting ws f.body) (page_after (overwrite widths f.messages) opened)) (sym (drop-map columns_of (length f.messages) old))
    ∙ sym (page_after-append (overwrite widths f.messages) (body_signs Overwriting (drop (length f.messages) widths) f.body) opened)
    ∙ ap (λ (signs : List Sign). page_after (overwrite widths f.messages ++ signs) opened) (sym (append-nil (body_signs Overwriting (drop (length f.messages) widths) f.body)))
    ∙ sym (page_after-append f.opening (overwrite widths f.messages ++ (body_signs Overwriting (drop (length f.messages) widths) f.body ++ [])) p)
    ∙ ap (λ (layout : Layout). page_after (frame_signs widths (record f { layout = layout })) p) (sym fits.layout) in
    subst (λ (q : Canvas). Home columns height wraps (above ++ map (cells_of columns) f.messages) (lines_after old f) q) same ended

-- and so does a list of frames
pub Home-frames : (columns height : ℕ) (wraps : Bool) (above : List (List ℕ)) (old : List Line) (p : Canvas) (fs : List Frame) → height < 2 ^ 16
    → Home columns height wraps above old p → AllByRecursion (FrameFits false columns height) fs → AllByRecursion IsOrderly fs
    → Home columns height wraps (above ++ map (cells_of columns) (printed_lines fs)) (all_lines_after old fs) (page_after (signs_of old fs) p)
Home-frames columns height wraps above old p [] w h fits o = subst (λ (a : List (List ℕ)). Home columns height wraps a old p) (sym (append-nil above)) h
Home-frames columns height wraps above old p (f ∷ fs) w h fits o =
    let one = Home-frame columns height wraps above old p f w h fits.0 o.0 in
    let others = Home-frames columns height wraps (above ++ map (cells_of columns) f.messages) (lines_after old f) (page_after (frame_signs (widths_of old) f) p) fs w one fits.1 o.1 in
    let rows : (above ++ map (cells_of columns) f.messages) ++ map (cells_of columns) (printed_lines fs) ≡ above ++ map (cells_of columns) (printed_lines (f ∷ fs)) =
    append_assoc above (map (cells_of columns) f.messages) (map (cells_of columns) (printed_lines fs)) ∙ ap (λ (r : List (List ℕ)). above ++ r) (sym (map-append (cells_of columns) f.messages (printed_lines fs))) in
    subst (λ (q : Canvas). Home columns height wraps (above ++ map (cells_of columns) (printed_lines (f ∷ fs))) (all_lines_after old (f ∷ fs)) q)
    (sym (page_after-append (frame_signs (widths_of old) f) (signs_of (lines_after old f) fs) p))
    (subst (λ (a : List (List ℕ)). Home columns height wraps a (all_lines_after (lines_after old f) fs) (page_after (signs_of (lines_after old f) fs) (page_after (frame_signs (widths_of old) f) p))) rows others)

-- such a page shows the lines
pub Shows-Home : (columns height : ℕ) (wraps : Bool) (above : List (List ℕ)) (old : List Line) (p : Canvas) → Home columns height wraps above old p → Shows above old p
Shows-Home columns height wraps above old p h = subst (λ (q : Canvas). Shows above old q) (sym h.is)
    (record { below = h.below; rows = refl; shown = h.shown; row = refl; column = refl; inside = h.inside; window = h.window })

-- a page that shows no lines is such a page
pub Home-Shows : (above : List (List ℕ)) (p : Canvas) → Shows above [] p → Home p.columns p.height p.wraps above [] p
Home-Shows above p h = record {
  below = h.below;
  is = ap (λ (rows : List (List ℕ)). record { columns = p.columns; height = p.height; rows = rows; row = p.row; column = p.column; wraps = p.wraps }) h.rows
      ∙ ap (λ (n : ℕ). record { columns = p.columns; height = p.height; rows = above ++ h.below; row = n; column = p.column; wraps = p.wraps }) h.row
      ∙ ap (λ (n : ℕ). record { columns = p.columns; height = p.height; rows = above ++ h.below; row = length above; column = n; wraps = p.wraps }) h.column;
  shown = h.shown;
  inside = h.inside;
  window = h.window;
  fit = tt;
  few = omega (arith, h.inside, h.window);
}
