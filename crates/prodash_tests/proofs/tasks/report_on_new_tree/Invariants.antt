use Rattle.prodash_tests.proofs.tasks.report_on_new_tree.Given as goal

abbrev pub ghosts-report_on_tree-C-TreeLedger : goal.ghosts-report_on_tree-C-TreeLedger
ghosts-report_on_tree-C-TreeLedger g a = record {
  message_buffer_capacity = 20;
  history = a.ledgers.history.seen.book;
}

abbrev pub ghosts-report_on_tree-C-Ledger : goal.ghosts-report_on_tree-C-Ledger
ghosts-report_on_tree-C-Ledger g a = record { name = a.ledgers.calls.name; parts = a.ledgers.calls.parts }

abbrev pub ghosts-report_on_tree-S-Ledger : goal.ghosts-report_on_tree-S-Ledger
ghosts-report_on_tree-S-Ledger g a = record { name = a.ledgers.sums.name; parts = a.ledgers.sums.parts }
