-- At most 16 qids of 13 bytes, behind their count.
use Rattle.p9_server.proofs.QidLists.{walk_short}
use Rattle.p9_server.proofs.replies.walk_told.Goals as goal

pub returns-clause-short : goal.returns-clause-short
returns-clause-short c = walk_short c.args.wqids.items c.requires.few c.requires.spells
