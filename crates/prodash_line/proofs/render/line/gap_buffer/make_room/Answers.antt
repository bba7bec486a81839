use Rattle.std.proofs.Common.{◌≡◌, ◌≤◌, ℕ, List, take, ap, sym, ◌∙◌, Result}
use Rattle.std.specs.Prelude.{OnOk, Ok, Err}
use Rattle.std.proofs.lemmas.List.{take-take}
use Rattle.prodash_line.proofs.render.line.gap_buffer.make_room.Goals as goal

fewer : {X E : Type 0} (result : Result ℕ E) (m n : ℕ) (xs ys : List X) → m ≤ n → OnOk result (take n xs ≡ take n ys) → OnOk result (take m xs ≡ take m ys)
fewer (Ok left) m n xs ys le h = sym (take-take m n xs le) ∙ ap (take m) h ∙ take-take m n ys le
fewer (Err e) m n xs ys le h = h

pub returns-else-count-left-clause-written : goal.returns-else-count-left-clause-written
returns-else-count-left-clause-written g c = fewer c.widen.result c.args.written c.args.left c.widen.new.items.items c.args.items.now.items c.requires.gap c.widen.ensures.written
