use Rattle.std.proofs.Common.{rules, ◌≡◌, length, refl, vec_len}
use Rattle.prodash_line.proofs.GapBuffers.{after_part}
use Rattle.prodash_line.proofs.render.line.gap_buffer.put_items.Goals as goal

pub returns-clause-after : goal.returns-clause-after
returns-clause-after g c =
    let len : vec_len c.args.items.now ≡ length c.args.items.now.items = search rules in
    after_part c.args.items.now.items c.deref_mut.result.now c.args.others.now c.copy_from_slice.new.self c.args.items.now.len c.args.at (length c.args.others.now)
    c.deref_mut.ensures.value c.copy_from_slice.ensures.after refl c.requires len
