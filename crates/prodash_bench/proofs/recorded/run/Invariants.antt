use Rattle.prodash_bench.proofs.recorded.run.Given as goal

abbrev pub ghosts-make_calls_on_tree-C-TreeLedger : goal.ghosts-make_calls_on_tree-C-TreeLedger
ghosts-make_calls_on_tree-C-TreeLedger g a = record {
  message_buffer_capacity = 20;
  history = a.ledgers.history.seen.book;
}

abbrev pub ghosts-make_calls_on_tree-C-Ledger : goal.ghosts-make_calls_on_tree-C-Ledger
ghosts-make_calls_on_tree-C-Ledger g a = record { name = a.ledgers.calls.name; parts = a.ledgers.calls.parts }

abbrev pub ghosts-make_calls_on_tree-S-Ledger : goal.ghosts-make_calls_on_tree-S-Ledger
ghosts-make_calls_on_tree-S-Ledger g a = record { name = a.ledgers.sums.name; parts = a.ledgers.sums.parts }
