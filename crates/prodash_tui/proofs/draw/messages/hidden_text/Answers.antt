use Rattle.prodash_tui.proofs.draw.messages.hidden_text.Goals as goal

pub returns-clause-ok : goal.returns-clause-ok
unfolding lib.Utf8.encode
returns-clause-ok c = c.in_ok-format.ensures.ok
