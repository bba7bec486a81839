use Rattle.prodash_tests.proofs.views.view_new_tree.Given as goal

abbrev pub ghosts-view_tree-C-TreeLedger : goal.ghosts-view_tree-C-TreeLedger
ghosts-view_tree-C-TreeLedger g a = record {
  message_buffer_capacity = 20;
  history = a.ledgers.history.seen.book;
}

abbrev pub ghosts-view_tree-C-Ledger : goal.ghosts-view_tree-C-Ledger
ghosts-view_tree-C-Ledger g a = record { name = a.ledgers.calls.name; parts = a.ledgers.calls.parts }

abbrev pub ghosts-view_tree-S-Ledger : goal.ghosts-view_tree-S-Ledger
ghosts-view_tree-S-Ledger g a = record { name = a.ledgers.sums.name; parts = a.ledgers.sums.parts }
