-- A call made on a writer, as contracts see it.
use Rattle.prodash_line.specs.Writers.{WriterCall, Write, Flush}
use Rattle.prodash_line.specs.declared.render.line.draw.over_write.calls.Call.{Call}
use Rattle.prodash_line.specs.declared.render.line.draw.over_write.calls.Call.TheVariants as calls

abbrev pub call_of : Call → WriterCall
call_of (calls.Write bytes taken) = Write bytes.now taken
call_of (calls.Flush succeeded) = Flush succeeded
