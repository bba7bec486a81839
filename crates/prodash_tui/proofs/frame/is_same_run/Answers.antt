use Rattle.std.proofs.Common.{◌≡◌, ℕ, ◌+◌, ◌<◌, ◌≤◌, length, sym, ap, ◌∙◌, arith}
use Rattle.prodash_tui.specs.Cells.{same_cell}
use Rattle.prodash_tui.specs.plumbing.Appended.{changes_from}
use Rattle.prodash_tui.proofs.SpelledSigns.{is_same, same_left}
use Rattle.prodash_tui.proofs.frame.is_same_run.Goals as goal

pub loop-k-init : goal.loop-k-init
loop-k-init c = ap (λ (n : ℕ). changes_from n c.args.old.now c.args.new.now) (let e : c.args.x ≡ c.args.x + 0 = omega arith in e)

pub loop-k-preserved : goal.loop-k-preserved
loop-k-preserved c =
    let old = c.args.old.now in
    let new = c.args.new.now in
    let x = c.args.x in
    let k = c.loop-k.k in
    let a = c.index-old-x.result in
    let b = c.index-new-x.result in
    let old_room : x + 8 ≤ length old = c.requires.old in
    let new_room : x + 8 ≤ length new = c.requires.new in
    let few : k < 8 = c.loop-k-test.true in
    let inside : x + k < length old = omega arith in
    let within : x + k < length new = omega arith in
    let next : x + (k + 1) ≡ (x + k) + 1 = omega arith in
    c.loop-k.invariant
    ∙ same_left (x + k) (x + (k + 1)) a b old new inside within (sym c.index-old-x.is) (sym c.index-new-x.is) (is_same (same_cell a b) c.if-ne.ensures) next
