-- The name that is found is looked up exactly.
use Rattle.std.proofs.Common.{◌∙◌, ap}
use Rattle.port_base.specs.Names.{name_fault}
use Rattle.p9_server.proofs.Folded.{found_folded}
use Rattle.p9_server.proofs.lookup.find_folded.Goals as goal

pub lookup-requires-clause-named : goal.lookup-requires-clause-named
lookup-requires-clause-named g c =
    ap name_fault c.deref.ensures.value ∙ c.in_ok-found.ensures.named

pub returns-clause-answer : goal.returns-clause-answer
returns-clause-answer g c =
    let e = c.in_ok-found.ensures in
    found_folded (g.H.Host.tree c.args.host.now) _ c.args.dir c.args.name.now c.in_ok-found.found.items
    c.deref.result.now c.lookup.result c.requires.missing e.answer e.tree
    c.deref.ensures.value c.lookup.ensures.answer
