use Rattle.prodash_script.proofs.LineFeeds.{finds_line_feed}
use Rattle.prodash_script.proofs.stream.find_line_feed.Goals as goal

pub returns : goal.returns
returns c = finds_line_feed c.args.bytes.now c.memchr.result c.memchr.ensures
