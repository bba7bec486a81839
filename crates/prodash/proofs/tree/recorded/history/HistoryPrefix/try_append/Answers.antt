use Rattle.std.proofs.Common.{sym, ◌∙◌, ap}
use Rattle.prodash.specs.plumbing.Histories.{IsOpen}
use Rattle.prodash.proofs.HistorySteps.{append_moves}
use Rattle.prodash.proofs.tree.recorded.history.HistoryPrefix.try_append.Goals as goal

pub compare_exchange-found-requires : goal.compare_exchange-found-requires
compare_exchange-found-requires g c =
    let word = c.args.word.now.counted in
    let learned = c.learn.ensures in
    let offered = c.requires.offered in
    let pen = c.no_pen-pen.ensures in
    let open' : IsOpen c.self.inside.seen.log = rw c.self.view_is c.requires.open in
    let book = (learned.0 ∙ c.self.invariant.1) ∙ sym (ap (λ w. w.book) word) in (
      ap (λ w. w.tracked) word,
      book,
      pen.0 ∙ book,
      offered.0 ∙ sym (learned.1 ∙ c.self.invariant.2),
      rw (ap (λ w. w.key) word, pen.1, offered.1) (append_moves c.learn.new.self.log c.self.inside.seen.log _ c.self.inside.len (sym c.self.invariant.0) learned.2 open'),
    )
