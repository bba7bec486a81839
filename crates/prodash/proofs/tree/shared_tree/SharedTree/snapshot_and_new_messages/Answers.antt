use Rattle.std.proofs.Common.{rules}
use Rattle.prodash.proofs.TurnLaws.{takes_less}
use Rattle.prodash.proofs.tree.shared_tree.SharedTree.snapshot_and_new_messages.Goals as goal

pub returns-in_err-news-clause-turn : goal.returns-in_err-news-clause-turn
returns-in_err-news-clause-turn g c =
    takes_less _ _ _ _ _ (λ found left h. (h.0, search rules)) c.in_err-news.ensures.turn

pub returns-clause-turn : goal.returns-clause-turn
returns-clause-turn g c = rw (c.into_vec.ensures) c.in_ok-news.ensures.turn
