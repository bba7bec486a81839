-- After each prefix of a list of frames that fit, a page shows the messages printed so far, then the lines on screen, then blank rows.
use Rattle.std.proofs.Common.{false, ℕ, ◌^◌, ◌<◌, List, [], ◌++◌, map, take}
use Rattle.std.specs.List.{AllByRecursion}
use Rattle.prodash_line.specs.Frames.{all_lines_after, printed_lines, signs_of}
use Rattle.prodash_line.specs.Page.{Canvas, page_after}
use Rattle.prodash_line.specs.Shows.{Shows, cells_of}
use Rattle.prodash_line.specs.Fits.{FrameFits}
use Rattle.prodash_line.specs.Renderer.{Renderer}
use Rattle.prodash_line.specs.Renderings.{Rendering, drawn_frames}
use Rattle.prodash_line.proofs.Lists.{AllByRecursion-take}
use Rattle.prodash_line.proofs.OrderlyFrames.{IsOrderly, orderly_frames}
use Rattle.prodash_line.proofs.FramesOnPage.{Home-Shows, Shows-Home, Home-frames}

pub shows_each_prefix : (r : Renderer) (xs : List Rendering) (page : Canvas) (above : List (List ℕ)) (j : ℕ) → page.height < 2 ^ 16
    → Shows above [] page → AllByRecursion (FrameFits false page.columns page.height) (drawn_frames r xs)
    → Shows (above ++ map (cells_of page.columns) (printed_lines (take j (drawn_frames r xs)))) (all_lines_after [] (take j (drawn_frames r xs)))
    (page_after (signs_of [] (take j (drawn_frames r xs))) page)
shows_each_prefix r xs page above j w shows fits =
    let frames = drawn_frames r xs in
    Shows-Home page.columns page.height page.wraps _ _ _
    (Home-frames page.columns page.height page.wraps above [] page (take j frames) w (Home-Shows above page shows)
    (AllByRecursion-take (FrameFits false page.columns page.height) j frames fits) (AllByRecursion-take IsOrderly j frames (orderly_frames r xs)))
