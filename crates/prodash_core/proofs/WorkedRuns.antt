-- A run that fits a page, and what the page shows of it: a row, a message over it with two rows below, and the closing frame.
use Rattle.std.proofs.Common.{◌≡◌, ◌∙◌, ap, sym, subst, ℕ, cond, List, [], ◌∷◌, ◌++◌, map, Option, Some, None, Ok, false, true, take, refl, arith}
use Rattle.std.specs.Prelude.{codes, replicate, Bool}
use Rattle.std.specs.Cmp.Lexicographic.{texts_ties}
use Rattle.prodash_base.specs.plumbing.KeyHash.{same_path}
use Rattle.std.specs.Str.{chars}
use Rattle.std.specs.FinMap.{empty, get, insert, entries, from_sorted, get-empty, get-insert, get-from_sorted, entries-from_sorted, same_map, slice_cmp-IsAntisymmetric, nat_cmp-IsAntisymmetric}
use Rattle.std.specs.Ordering.{eq_by_cmp}
use Rattle.std.proofs.lemmas.Cmp.{nat_list_cmp_total}
use Rattle.unicode_width.specs.Width.{str_width, char_width, step, past_emoji}
use Rattle.prodash_base.specs.Path.{Path, path_cmp}
use Rattle.prodash_base.specs.Messages.{message_of}
use Rattle.prodash_base.specs.Rows.{unknown_id}
use Rattle.prodash_base.specs.declared.messages.MessageLevel.TheVariants.{Info}
use Rattle.prodash_line.specs.declared.render.line.page.sign.Sign.TheVariants.{Char}
use Rattle.prodash_line.specs.declared.render.line.draw.input.Input.TheVariants as inputs
use Rattle.prodash_line.specs.declared.render.line.draw.input.Answer.TheVariants as answers
use Rattle.prodash_line.specs.Signs.{IsProper}
use Rattle.prodash_line.specs.Lines.{piece, width_of}
use Rattle.prodash_line.specs.Frames.{signs_of}
use Rattle.prodash_line.specs.Page.{Canvas, blank, blank_page, page_after}
use Rattle.prodash_line.specs.Fits.{IsPlainPiece}
use Rattle.prodash_line.specs.Renderer.{Renderer, default_options, new_renderer}
use Rattle.prodash_line.specs.Renderings.{Rendering, FitsPage, drawn_frames}
use Rattle.prodash_core.specs.declared.tree.options.SessionOptions.{SessionOptions}
use Rattle.prodash_core.specs.declared.tree.event.Event.{Event}
use Rattle.prodash_core.specs.declared.tree.event.Event.TheVariants.{AddChild, Message, Tick, Quit}
use Rattle.prodash_core.specs.declared.tree.event.Reply.{Reply}
use Rattle.prodash_core.specs.declared.tree.event.Reply.TheVariants.{Made, Done, Drawn, Ended}
use Rattle.prodash_core.specs.Tables.{new_entry, TaskEntry, Table, frozen}
use Rattle.prodash_core.specs.declared.tree.slot.Slot.{Slot}
use Rattle.prodash_core.specs.Trees.{new_slot, with_child, counter_at, name_of}
use Rattle.prodash_core.specs.Runs.{renderings_of}

abbrev options : SessionOptions
options = record {
  root = record { initial_capacity = 100; message_buffer_capacity = 20 };
  draw = record default_options { terminal_dimensions = (40, 4); colored = false };
  throughput = false;
}

abbrev id : List ℕ
id = unknown_id

abbrev events : List Event
events = AddChild 0 (codes "a") id ∷ Tick 0 true ∷ Message 1 1 Info (codes "x") ∷ AddChild 0 (codes "b") id ∷ Tick 1 true ∷ Quit 2 ∷ []

abbrev replies : List Reply
replies = Made 1 ∷ Drawn ∷ Done ∷ Made 2 ∷ Drawn ∷ Ended ∷ []

abbrev renderings : List Rendering
renderings = renderings_of options events replies

abbrev renderer : Renderer
renderer = new_renderer options.draw false

-- the slots and the table after the first child, and after the second
abbrev slots : List Slot
slots = with_child (new_slot []) ∷ new_slot (0 ∷ []) ∷ []

abbrev more_slots : List Slot
more_slots = with_child (with_child (new_slot [])) ∷ new_slot (0 ∷ []) ∷ new_slot (1 ∷ []) ∷ []

abbrev first : TaskEntry ℕ
first = new_entry (codes "a") id

abbrev second : TaskEntry ℕ
second = new_entry (codes "b") id

abbrev table : Table ℕ
table = insert empty (0 ∷ []) first

abbrev more_table : Table ℕ
more_table = insert table (1 ∷ []) second

named_at : (q : Path) → get table q ≡ cond (eq_by_cmp path_cmp q (0 ∷ [])) (Some first) None
named_at q = get-insert nat_list_cmp_total empty (0 ∷ []) first q ∙ ap (cond (eq_by_cmp path_cmp q (0 ∷ [])) (Some first)) (get-empty path_cmp q)

listed : entries table ≡ (0 ∷ [], first) ∷ []
listed =
    let es = (0 ∷ [], first) ∷ [] in
    let same : table ≡ from_sorted es =
    same_map nat_list_cmp_total (slice_cmp-IsAntisymmetric nat_cmp-IsAntisymmetric) _ _ (λ q. named_at q ∙ sym (get-from_sorted path_cmp es q tt)) in
    ap entries same ∙ entries-from_sorted path_cmp es tt

-- the two paths differ, so that either can be looked for first
apart : (q : List ℕ) → q ≡ 0 ∷ [] → q ≡ 1 ∷ [] → ⊥
apart q h k = cc

either_first : (q : Path) (a b : Bool) → eq_by_cmp path_cmp q (0 ∷ []) ≡ a → eq_by_cmp path_cmp q (1 ∷ []) ≡ b
    → cond b (Some second) (cond a (Some first) None) ≡ cond a (Some first) (cond b (Some second) None)
either_first q true true h k = absurd (apart q (same_path q (0 ∷ []) (texts_ties q (0 ∷ []) ∙ h)) (same_path q (1 ∷ []) (texts_ties q (1 ∷ []) ∙ k)))
either_first q true false h k = refl
either_first q false true h k = refl
either_first q false false h k = refl

more_listed : entries more_table ≡ (0 ∷ [], first) ∷ (1 ∷ [], second) ∷ []
more_listed =
    let es = (0 ∷ [], first) ∷ (1 ∷ [], second) ∷ [] in
    let same : more_table ≡ from_sorted es = same_map nat_list_cmp_total (slice_cmp-IsAntisymmetric nat_cmp-IsAntisymmetric) _ _ (λ q.
    get-insert nat_list_cmp_total table (1 ∷ []) second q ∙ ap (cond (eq_by_cmp path_cmp q (1 ∷ [])) (Some second)) (named_at q)
    ∙ either_first q _ _ refl refl ∙ sym (get-from_sorted path_cmp es q tt)) in
    ap entries same ∙ entries-from_sorted path_cmp es tt

abbrev rendered_with : List (Path × TaskEntry ℕ) → Option (TaskEntry ℕ) → List (Path × TaskEntry ℕ) → List Rendering
rendered_with es e fs =
    record { input = inputs.Tick 0 true (Some (map (frozen (counter_at slots)) es, [], 0)); result = Ok answers.Drawn }
    ∷ record { input = inputs.Tick 1 true (Some (map (frozen (counter_at more_slots)) fs, message_of 1 Info (name_of e) (codes "x") ∷ [], 1)); result = Ok answers.Drawn }
    ∷ record { input = inputs.Quit 2; result = Ok answers.Ended } ∷ []

abbrev rendered : List Rendering
rendered = rendered_with ((0 ∷ [], first) ∷ []) (Some first) ((0 ∷ [], first) ∷ (1 ∷ [], second) ∷ [])

rendered_by : renderings ≡ rendered_with (entries table) (get table (0 ∷ [])) (entries more_table)
rendered_by = refl

is_rendered : renderings ≡ rendered
is_rendered = rendered_by ∙ (λ i. rendered_with (listed i) (named_at (0 ∷ []) i) (more_listed i))

-- what a blank page shows after the first n frames
abbrev page_of : ℕ → List Rendering → Canvas
page_of n xs = page_after (signs_of [] (take n (drawn_frames renderer xs))) (blank_page 40 4)

-- a page that shows these rows, with the cursor at the beginning of one
abbrev shows : List (List ℕ) → ℕ → Canvas
shows rows row = record { columns = 40; height = 4; rows = rows; row = row; column = 0; wraps = true }

abbrev cells : List ℕ → ℕ → List ℕ
cells text blanks = text ++ replicate blanks 32

row_drawn : page_of 1 rendered ≡ shows (cells (codes " a") 38 ∷ blank 40 ∷ blank 40 ∷ blank 40 ∷ []) 0
unfolding chars str_width step past_emoji
row_drawn = refl

message_printed : page_of 2 rendered ≡ shows (cells (codes " a x") 36 ∷ cells (codes " a") 38 ∷ cells (codes " b") 38 ∷ blank 40 ∷ []) 1
unfolding chars str_width step past_emoji
message_printed = refl

closed : page_of 3 rendered ≡ shows (cells (codes " a x") 36 ∷ blank 40 ∷ blank 40 ∷ blank 40 ∷ []) 1
unfolding chars str_width step past_emoji
closed = refl

pub after_row : page_of 1 renderings ≡ shows (cells (codes " a") 38 ∷ blank 40 ∷ blank 40 ∷ blank 40 ∷ []) 0
after_row = ap (page_of 1) is_rendered ∙ row_drawn

pub after_message : page_of 2 renderings ≡ shows (cells (codes " a x") 36 ∷ cells (codes " a") 38 ∷ cells (codes " b") 38 ∷ blank 40 ∷ []) 1
after_message = ap (page_of 2) is_rendered ∙ message_printed

pub after_quit : page_of 3 renderings ≡ shows (cells (codes " a x") 36 ∷ blank 40 ∷ blank 40 ∷ blank 40 ∷ []) 1
after_quit = ap (page_of 3) is_rendered ∙ closed

one_char : (c : ℕ) → IsProper (Char c) → char_width false c ≡ Some 1 → width_of (piece (c ∷ [])) ≡ 1 → IsPlainPiece (piece (c ∷ []))
one_char c proper width columns = record { each = (record { scalar = proper.0; width = width }, tt); width = columns }

rendered_fits : FitsPage renderer rendered false [] (blank_page 40 4)
unfolding chars str_width char_width step past_emoji
rendered_fits = record {
  columns = refl;
  height = refl;
  sizes = (tt, (tt, (tt, tt)));
  begins = record { below = blank 40 ∷ blank 40 ∷ blank 40 ∷ blank 40 ∷ []; rows = refl; shown = (refl, (refl, (refl, (refl, tt)))); row = refl; column = refl; inside = omega arith; window = omega arith };
  each = (
    record {
      layout = refl;
      messages = tt;
      body = ((record { plain = record { pieces = (one_char 32 (refl, refl) refl refl, (one_char 97 (refl, refl) refl refl, tt)); columns = refl }; within = omega arith }, tt), omega arith);
    },
    (
      record {
        layout = refl;
        messages = (
          record {
            plain = record {
              pieces = (one_char 32 (refl, refl) refl refl, (one_char 97 (refl, refl) refl refl, (one_char 32 (refl, refl) refl refl, (one_char 120 (refl, refl) refl refl, tt))));
              columns = refl;
            };
            within = omega arith;
          },
          tt,
        );
        body = ((record { plain = record { pieces = (one_char 32 (refl, refl) refl refl, (one_char 97 (refl, refl) refl refl, tt)); columns = refl }; within = omega arith }, (record { plain = record { pieces = (one_char 32 (refl, refl) refl refl, (one_char 98 (refl, refl) refl refl, tt)); columns = refl }; within = omega arith }, tt)), omega arith);
      },
      (record { layout = refl; messages = tt; body = tt }, tt),
    ),
  );
  unbroken = refl;
}

pub fits : FitsPage renderer renderings false [] (blank_page 40 4)
fits = subst (λ xs. FitsPage renderer xs false [] (blank_page 40 4)) (sym is_rendered) rendered_fits
