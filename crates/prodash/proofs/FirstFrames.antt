-- The first frame of a session that has one task.
use Rattle.std.proofs.Common.{◌≡◌, ◌∙◌, ap, sym, subst, refl, ℕ, cond, List, [], ◌∷◌, ◌++◌, map, Some, None, Result, Ok, Err, Bool, true, false, append-nil}
use Rattle.std.specs.FinMap.{empty, insert, get, entries, from_sorted, get-empty, get-insert, get-from_sorted, entries-from_sorted, same_map, slice_cmp-IsAntisymmetric, nat_cmp-IsAntisymmetric}
use Rattle.std.specs.Ordering.{eq_by_cmp}
use Rattle.std.proofs.lemmas.Cmp.{nat_list_cmp_total}
use Rattle.std.specs.Global.{Vec}
use Rattle.prodash_base.specs.Path.{Path, path_cmp}
use Rattle.prodash_base.specs.Rows.{PathRow, unknown_id}
use Rattle.prodash_base.specs.declared.refusal.Refusal.{Refusal}
use Rattle.prodash_line.specs.declared.render.line.draw.input.Input.{Input}
use Rattle.prodash_line.specs.declared.render.line.draw.input.Input.TheVariants as inputs
use Rattle.prodash_line.specs.declared.render.line.draw.input.Answer.{Answer}
use Rattle.prodash_line.specs.declared.render.line.draw.input.Answer.TheVariants as answers
use Rattle.prodash_line.specs.Signs.{spelling}
use Rattle.prodash_line.specs.Frames.{overwrite, cursor_up}
use Rattle.prodash_line.specs.Renderer.{Renderer, default_options, new_renderer, frame_bytes, Renders}
use Rattle.prodash_line.specs.Screens.{ScreenState}
use Rattle.prodash_core.specs.Tables.{Table, TaskEntry, new_entry, new_progress, frozen}
use Rattle.prodash_core.specs.Trees.{Tree, new_tree, new_slot, add_child, init, init_at, set_counter, counter_at, tree_rows}
use Rattle.prodash_core.specs.Sessions.{SessionState, new_session, frame_reply, RendersFrame}
use Rattle.prodash_core.specs.Runs.{Run, IfRan}
use Rattle.prodash_core.specs.declared.tree.event.Event.TheVariants.{Set, Tick}
use Rattle.prodash_core.specs.declared.tree.event.Reply.{Reply}
use Rattle.prodash_core.specs.declared.tree.event.Reply.TheVariants.{Done, Drawn}
use Rattle.prodash.specs.FirstFrames.{default_session, task_events, task_replies, counted_row, first_line, drawn_bytes, GetsLines, ShowsTask}

abbrev renderer : Renderer
renderer = new_renderer default_options false

frame_of_row : (row : PathRow) → frame_bytes renderer (inputs.Tick 0 true (Some (row ∷ [], [], 0))) ≡ drawn_bytes (first_line row ∷ [])
frame_of_row row = ap spelling (append-nil (overwrite [] (first_line row ∷ []) ++ cursor_up 1))

-- a table with one entry, and the same after another one was put in its place
abbrev one : TaskEntry ℕ → Table ℕ
one e = insert empty (0 ∷ []) e

abbrev changed : TaskEntry ℕ → TaskEntry ℕ → Table ℕ
changed e f = insert (one e) (0 ∷ []) f

get_one : (e : TaskEntry ℕ) (q : Path) → get (one e) q ≡ cond (eq_by_cmp path_cmp q (0 ∷ [])) (Some e) None
get_one e q = get-insert nat_list_cmp_total empty (0 ∷ []) e q ∙ ap (cond (eq_by_cmp path_cmp q (0 ∷ [])) (Some e)) (get-empty path_cmp q)

hidden : (b : Bool) (e f : TaskEntry ℕ) → cond b (Some f) (cond b (Some e) None) ≡ cond b (Some f) None
hidden true e f = refl
hidden false e f = refl

get_changed : (e f : TaskEntry ℕ) (q : Path) → get (changed e f) q ≡ cond (eq_by_cmp path_cmp q (0 ∷ [])) (Some f) None
get_changed e f q =
    get-insert nat_list_cmp_total (one e) (0 ∷ []) f q ∙ ap (cond (eq_by_cmp path_cmp q (0 ∷ [])) (Some f)) (get_one e q)
    ∙ hidden (eq_by_cmp path_cmp q (0 ∷ [])) e f

listed : (e f : TaskEntry ℕ) → entries (changed e f) ≡ (0 ∷ [], f) ∷ []
listed e f =
    let es = (0 ∷ [], f) ∷ [] in
    let same : changed e f ≡ from_sorted es =
    same_map nat_list_cmp_total (slice_cmp-IsAntisymmetric nat_cmp-IsAntisymmetric) _ _ (λ q. get_changed e f q ∙ sym (get-from_sorted path_cmp es q tt)) in
    ap entries same ∙ entries-from_sorted path_cmp es tt

by_result : (r : Renderer) (input : Input) (s : ScreenState) (result : Result Answer Refusal) (r' : Renderer) (s' : ScreenState) → Drawn ≡ frame_reply result
    → Renders r input s result r' s' → s'.bytes ≡ s.bytes ++ frame_bytes r input
by_result r input s (Ok answers.Drawn) r' s' e h = h.screen.bytes
by_result r input s (Ok answers.Ended) r' s' e h = absurd cc
by_result r input s (Err refusal) r' s' e h = absurd cc

drawn_frame : (w : SessionState) (input : Input) (s : ScreenState) (w' : SessionState) (s' : ScreenState) → RendersFrame w input s Drawn w' s'
    → s'.bytes ≡ s.bytes ++ frame_bytes w.renderer input
drawn_frame w input s w' s' h = by_result w.renderer input s h.result w'.renderer s' h.replied h.renders

-- the entry of the task before and after its progress begins, and the trees
abbrev entry : List ℕ → TaskEntry ℕ
entry name = new_entry name unknown_id

abbrev begun : List ℕ → ℕ → TaskEntry ℕ
begun name bound = record (entry name) { progress = new_progress 1 (Some bound) None }

abbrev added : List ℕ → Tree
added name = add_child (new_tree 20) 0 (new_slot []) name unknown_id

abbrev counted : List ℕ → ℕ → Tree
counted name bound = init_at (added name) 1 (new_slot (0 ∷ [])) (Some bound) None (Some (entry name))

begins : (name : List ℕ) (bound : ℕ) → init (added name) 1 (new_slot (0 ∷ [])) (Some bound) None ≡ counted name bound
begins name bound = ap (init_at (added name) 1 (new_slot (0 ∷ [])) (Some bound) None) (get_one (entry name) (0 ∷ []))

-- the session with a tree, before the first frame
abbrev session : Tree → SessionState
session t = record { tree = t; renderer = renderer }

rows_of : (name : List ℕ) (step bound : ℕ) → tree_rows (set_counter (counted name bound) 1 (new_slot (0 ∷ [])) step) ≡ counted_row name step bound ∷ []
rows_of name step bound =
    ap (map (frozen (counter_at (set_counter (counted name bound) 1 (new_slot (0 ∷ [])) step).slots))) (listed (entry name) (begun name bound))

frame_of_task : (name : List ℕ) (step bound : ℕ)
    → frame_bytes renderer (inputs.Tick 0 true (Some (tree_rows (set_counter (counted name bound) 1 (new_slot (0 ∷ [])) step), [], 0)))
    ≡ drawn_bytes (first_line (counted_row name step bound) ∷ [])
frame_of_task name step bound =
    ap (λ rows. frame_bytes renderer (inputs.Tick 0 true (Some (rows, [], 0)))) (rows_of name step bound) ∙ frame_of_row (counted_row name step bound)

draws : (name : List ℕ) (step bound : ℕ) (s s' : ScreenState) → Run (new_session default_session) s (task_events name step bound) task_replies s'
    → GetsLines s s' (first_line (counted_row name step bound) ∷ [])
draws name step bound s s' h =
    let moved : Run (session (counted name bound)) h.2.0 (Set 1 step ∷ Tick 0 true ∷ []) (Done ∷ Drawn ∷ []) s' =
    subst (λ t. Run (session t) h.2.0 (Set 1 step ∷ Tick 0 true ∷ []) (Done ∷ Drawn ∷ []) s') (begins name bound) h.2.2 in
    let from : moved.0 ≡ s = moved.1.screen ∙ h.2.1.screen ∙ h.1.screen in
    let frame = drawn_frame _ _ moved.0 _ moved.2.0 moved.2.1 in
    ap (λ u. u.bytes) moved.2.2 ∙ frame
    ∙ ap (λ u. u.bytes ++ frame_bytes renderer (inputs.Tick 0 true (Some (tree_rows (set_counter (counted name bound) 1 (new_slot (0 ∷ [])) step), [], 0)))) from
    ∙ ap (λ b. s.bytes ++ b) (frame_of_task name step bound)

-- In a new session of the default options the first frame of a task writes the line of its row.
pub shows_task : (name : List ℕ) (step bound : ℕ) (result : Result (Vec Reply) Refusal) (s s' : ScreenState)
    → IfRan default_session (task_events name step bound) result s s' → ShowsTask name step bound result s s'
shows_task name step bound (Ok replies) s s' h = λ e. draws name step bound s s' (subst (λ rs. Run (new_session default_session) s (task_events name step bound) rs s') e h.steps)
shows_task name step bound (Err refusal) s s' h = tt
