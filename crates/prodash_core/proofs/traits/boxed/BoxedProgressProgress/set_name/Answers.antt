use Rattle.std.proofs.Common.{ap, ◌∙◌, Result, Ok, Err, OnOk, OnErr}
use Rattle.prodash_core.proofs.Boxes.{becomes}
use Rattle.prodash_core.proofs.traits.boxed.BoxedProgressProgress.set_name.Goals as goal

map_ok : {A E P Q : Type 0} (r : Result A E) → (P → Q) → OnOk r P → OnOk r Q
map_ok (Ok a) f p = f p
map_ok (Err e) f p = p

pub returns-clause-ok : goal.returns-clause-ok
returns-clause-ok g c =
    map_ok c.set_name.result
    (becomes c.args.self.now c.deref_box_mut-1.result.now
    (λ i v w. (goal.Progress-dyn g (i, v)).Progress.gets_name v c.args.name.now w)
    _ c.deref_box_mut-1.ensures.value.1)
    c.set_name.ensures.0

map_err : {A E P Q : Type 0} (r : Result A E) → (P → Q) → OnErr r P → OnErr r Q
map_err (Ok a) f p = p
map_err (Err e) f p = f p

-- a box whose value is as it was is as it was
pub returns-clause-err : goal.returns-clause-err
returns-clause-err g c =
    let it = c.args.self.now in
    map_err c.set_name.result
    (λ same.
    ap (λ v. record { ptr = it.ptr; vtable = c.deref_box_mut-1.result.now.0; alloc = it.alloc; value = v }) same
    ∙ ap (λ d. record { ptr = it.ptr; vtable = d.0; alloc = it.alloc; value = d.1 }) c.deref_box_mut-1.ensures.value.1)
    c.set_name.ensures.1.0
