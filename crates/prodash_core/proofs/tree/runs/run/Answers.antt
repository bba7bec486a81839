use Rattle.std.proofs.Common.{rules, arith, [], refl}
use Rattle.std.proofs.lemmas.Grind.{common_steps}
use Rattle.prodash_core.proofs.RunLaws.{completes_more, completes_all, pushed_is, run_renders, steps_at, run_with_memory, after_with_memory}
use Rattle.prodash_core.proofs.AcceptedMessages.{rings_of_prefixes}
use Rattle.prodash_line.proofs.Renderings.{writes_attempts, breaks_exactly, flushes_each, stays_flushed}
use Rattle.prodash_line.proofs.ErasedRenderings.{erases_each}
use Rattle.prodash_line.proofs.SafeFrames.{draws_safely_each}
use Rattle.prodash_line.proofs.ErasedPrefixes.{erases_in_turn}
use Rattle.prodash_line.proofs.PageRenderings.{shows_on_page}
use Rattle.prodash_core.proofs.tree.runs.run.Goals as goal

pub loop-event-preserved : goal.loop-event-preserved
loop-event-preserved g c =
    let cases = c.in-Some.ensures.cases in
    record {
      completes = completes_more _ _ _ c.loop-event.replies.items _ _ _ c.loop-event.invariant.completes _ _ cases.0 c.apply-reply.result _ _ c.apply-reply.ensures
          c.push.new.self.items (pushed_is c.push.result _ _ _ _ c.unwrap.ensures c.push.ensures.items);
      room = grind (arith, common_steps, c.push.ensures.len, c.push.ensures.capacity, c.unwrap.ensures, cases.1);
    }

pub returns-clause-ok : goal.returns-clause-ok
returns-clause-ok g c =
    let es = c.args.events.now in
    let rs = c.loop-event.replies.items in
    let steps = completes_all _ _ _ rs _ _ _ c.loop-event.invariant.completes c.in_default.ensures.cases in
    let renders = run_renders es rs _ _ _ steps in
    record {
      steps = steps;
      each = λ j l. steps_at j es rs _ _ _ steps l;
      with_memory = record { run = run_with_memory es rs _ _ _ steps; session = after_with_memory es rs _ _ _ steps };
      messages = rings_of_prefixes c.args.options.now.root.message_buffer_capacity es rs _ _ _ steps refl;
      breaks = breaks_exactly _ _ _ _ renders;
      flushes = flushes_each _ _ _ _ renders;
      bytes = writes_attempts _ _ _ _ [] renders refl;
      page = λ page above. shows_on_page _ _ _ _ above page renders refl refl (omega arith);
      erases = erases_each _ _ _ _ renders;
      erased = erases_in_turn _ _ _ _ renders;
      safe = draws_safely_each _ _ _ _ renders;
      flushed = stays_flushed _ _ _ _ renders;
    }

pub returns-in_err-replies-clause-reason : goal.returns-in_err-replies-clause-reason
returns-in_err-replies-clause-reason g c = let is = c.from_residual-in_err-replies.ensures in search (rules, is)
