use Rattle.std.proofs.Common.{length, sym, arith}
use Rattle.std.proofs.lemmas.Bool.{eqb-true, eqb-false}
use Rattle.prodash_line.proofs.SignPrefixes.{shorter, longest_is, none_whole, all_read}
use Rattle.prodash_line.proofs.render.line.page.reading.read.Goals as goal

pub loop-rest-smaller : goal.loop-rest-smaller
loop-rest-smaller c = shorter c.loop-rest.rest.now c.in-Some.more.now c.in-Some.sign c.in-Some.ensures.1

pub returns-in-None-clause-reads : goal.returns-in-None-clause-reads
returns-in-None-clause-reads c = longest_is c.args.bytes.now c.loop-rest.rest.now c.loop-rest.signs.items c.loop-rest.invariant.proper c.loop-rest.invariant.spells (omega (arith, eqb-false (length c.loop-rest.rest.now) 0 (sym c.loop-rest-test.ensures))) c.in-None.ensures

pub returns-in-None-clause-only : goal.returns-in-None-clause-only
returns-in-None-clause-only c others = none_whole c.args.bytes.now c.loop-rest.rest.now c.loop-rest.signs.items others c.loop-rest.invariant.proper c.loop-rest.invariant.spells (omega (arith, eqb-false (length c.loop-rest.rest.now) 0 (sym c.loop-rest-test.ensures))) c.in-None.ensures

pub returns-clause-only : goal.returns-clause-only
returns-clause-only c others = all_read c.args.bytes.now c.loop-rest.rest.now c.loop-rest.signs.items others c.loop-rest.invariant.proper c.loop-rest.invariant.spells (eqb-true (length c.loop-rest.rest.now) 0 (sym c.loop-rest-test.ensures))
