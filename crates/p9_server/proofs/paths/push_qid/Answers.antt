-- The qid fits, as each before it does.
use Rattle.std.proofs.Common.{rules, subst, sym, List, map}
use Rattle.std.specs.List.{AllByRecursion}
use Rattle.tree_model.specs.Attributes.{Qid}
use Rattle.p9_wire.specs.Qids.{qid_of}
use Rattle.p9_wire.specs.Values.{QidSpells}
use Rattle.p9_server.proofs.QidLists.{all_more, pushed}
use Rattle.p9_server.proofs.paths.push_qid.Goals as goal

pub returns-clause-spells : goal.returns-clause-spells
returns-clause-spells c =
    let fits : QidSpells (qid_of c.args.qid) = search rules in
    subst (λ (qs : List Qid). AllByRecursion QidSpells qs)
    (sym (pushed c.push.new.self.items c.args.qids.now.items c.args.qid c.in-Ok.ensures.items))
    (all_more (map qid_of c.args.qids.now.items) (qid_of c.args.qid) c.requires.spells fits)
