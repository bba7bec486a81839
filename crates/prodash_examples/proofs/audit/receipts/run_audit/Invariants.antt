use Rattle.prodash_examples.proofs.audit.receipts.run_audit.Given as goal

abbrev pub ghosts-run_on_tree-C-TreeLedger : goal.ghosts-run_on_tree-C-TreeLedger
ghosts-run_on_tree-C-TreeLedger g a = record {
  message_buffer_capacity = 20;
  history = a.ledgers.history.seen.book;
}

abbrev pub ghosts-run_on_tree-C-Ledger : goal.ghosts-run_on_tree-C-Ledger
ghosts-run_on_tree-C-Ledger g a = record { name = a.ledgers.calls.name; parts = a.ledgers.calls.parts }

abbrev pub ghosts-run_on_tree-S-Ledger : goal.ghosts-run_on_tree-S-Ledger
ghosts-run_on_tree-S-Ledger g a = record { name = a.ledgers.sums.name; parts = a.ledgers.sums.parts }
