use Rattle.std.proofs.Common.{rules}
use mir.Syntax.{ty_unit}
use denote.Exit.{no}
use denote.RattleType.{RattleType}
use denote.Hole.{as_row}
use denote.Struct.Field as field
use denote.Param.{param, arg}
use denote.Param.Send.{IsSend, IsSync, sendable, param_send, arg_send}
use denote.Param.SendFields.{declared_send, as_row_send}
use Rattle.std.proofs.Crossing.{crosses, send, sync}
use Rattle.std.specs.contracts.alloc.Global
use Rattle.std.specs.contracts.snapshot.Snapshot
use Rattle.std.specs.declared.io.traits.Write
use Rattle.prodash.specs.contracts.render.plain.Plain
use Rattle.prodash.specs.contracts.tree.root.WeakHandle
use Rattle.prodash.proofs.render.plain.Plain.TheSendSync as plain
use Rattle.prodash.proofs.tree.root.WeakHandle.TheSendSync as weak
use Rattle.prodash_line.proofs.render.line.draw.state.State.TheSendSync as state
use Rattle.prodash_line.proofs.render.line.draw.over_write.calls.Calls.TheSendSync as calls
use Rattle.prodash_line.specs.contracts.render.line.draw.over_write.calls.Calls
use Rattle.prodash_line.specs.contracts.render.line.draw.over_write.traced_write.AnyTracedWrite.TheImpl as traced
use Rattle.prodash_line.specs.contracts.render.line.draw.over_write.writer.OverWrite
use Rattle.prodash_line.specs.contracts.render.line.draw.over_write.writer.OverWrite.TheInside as Inside
use Rattle.prodash_line.specs.contracts.render.line.draw.state.State
use Rattle.prodash_line.specs.declared.render.line.draw.over_write.traced_write.TracedWrite
use Rattle.prodash_live.specs.contracts.output.Watched
use Rattle.prodash_live.specs.contracts.output.WatchedWrite.TheImpl
use Rattle.prodash_live.proofs.output.Watched.TheSendSync as watched
use Rattle.prodash_live.specs.contracts.plain_display.Lines
use Rattle.prodash_live.proofs.plain_display.PlainDisplay.start.Goals as goal

heap_send : IsSend (as_row Global.the_field)
heap_send = search (sendable, send) depth 20

root_send : (T : RattleType) → IsSend T → IsSync T → IsSend (as_row (WeakHandle.the_field T))
root_send T s y = search (weak.the_send) depth 20

watched_send : (O : RattleType) → IsSend O → IsSend (Watched.the_row O)
watched_send O s = search (watched.the_send, s) depth 20

closed_send : IsSend (as_row field.bool-field)
closed_send = search (sendable) depth 20

made_send : (W : RattleType) → IsSend (as_row (Snapshot.the_field W))
made_send W = search (crosses) depth 20

calls_send : IsSend (as_row Calls.the_field)
calls_send = search (calls.the_send) depth 20

-- what contracts see of the calls of a watched writer
abbrev calls_of : (O : RattleType) → Write.Ghosts O.Denot → TracedWrite.Ghosts (Watched.the_row O).Denot
calls_of O g = traced.ghosts (Watched.the_row O) (TheImpl.ghosts O g TheImpl.no_dict TheImpl.no_dict) traced.no_dict

inside_send : (O : RattleType) (g : Write.Ghosts O.Denot) → IsSend (Watched.the_row O) → IsSend (Inside.the_row (Watched.the_row O) (calls_of O g))
inside_send O g s =
    let writer = as_row_send (field.row_field (Watched.the_row O)) s in
    declared_send (Inside.the_type (Watched.the_row O) (calls_of O g)) (writer, (made_send (Watched.the_row O), (calls_send, (closed_send, tt))))

out_send : (O : RattleType) (g : Write.Ghosts O.Denot) → IsSend (Watched.the_row O) → IsSend (as_row (OverWrite.the_field (Watched.the_row O) (calls_of O g)))
out_send O g s =
    let inside = inside_send O g s in
    record { owned = λ d vs x. (inside.owned x.0 vs, tt); leaving = λ k d w. tt }

messages_send : IsSend (as_row State.the_field)
messages_send = search (state.the_send) depth 20

log_send : IsSend (as_row Plain.the_field)
log_send = search (plain.the_send) depth 20

lines_send : (T O : RattleType) (g : Write.Ghosts O.Denot) → IsSend T → IsSync T → IsSend O → IsSend (Lines.the_row T O g)
lines_send T O g send_root sync_root send_out =
    let heap = heap_send in
    let root = root_send T send_root sync_root in
    let out = out_send O g (watched_send O send_out) in
    declared_send (Lines.the_type T O g) (heap, (root, (out, (messages_send, (log_send, (closed_send, tt))))))

-- src/plain_display.rt:204:9
pub start_to_look-requires-send-L : goal.start_to_look-requires-send-L
start_to_look-requires-send-L g c κs within =
    let row = Lines.the_row (param 0 g.row.R) (param 1 g.row.O) g.O.Write in
    let send_r : IsSend (param 0 g.row.R) = search (c.type_bounds.send-R) in
    let sync_r : IsSync (param 0 g.row.R) = search (c.type_bounds.sync-R) in
    let send_o : IsSend (param 1 g.row.O) = search (c.type_bounds.send-O) in
    let lines = lines_send (param 0 g.row.R) (param 1 g.row.O) g.O.Write send_r sync_r send_o in
    let given : IsSend (param 1 (arg ty_unit no row)) = param_send 1 (arg ty_unit no row) (arg_send ty_unit no row lines) in
    record { owned = given.owned; leaving = given.leaving }
