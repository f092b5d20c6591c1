-- What comes after a cookie is the first entry of a page that has room for it.
use Rattle.std.proofs.Common.{ap, arith, length, refl}
use Rattle.tree_model.specs.Reading.{Entry}
use Rattle.p9_server.proofs.Folded.{entry_next, entry_none}
use Rattle.p9_server.proofs.PageSteps.{takes_none, takes_no_room, takes_one}
use Rattle.p9_server.proofs.pages.fitting_entry.Goals as goal

pub returns-then-room-len-clause-takes : goal.returns-then-room-len-clause-takes
returns-then-room-len-clause-takes g c =
    let t = g.H.Host.tree c.args.host.now in
    takes_no_room t c.args.dir (g.met.H.Host.good c.args.host.now) c.args.cookie c.args.room
    c.in-Some.entry
    (entry_next t t _ _ (λ j. t) c.in_ok-entry.ensures.answer c.in-Some.is refl)
    (omega (
      arith,
      c.if-room-len.true,
      c.len.ensures,
      ap (λ (x : Entry). length x.name)
          c.entry.view_is,
    ))

pub returns-clause-takes : goal.returns-clause-takes
returns-clause-takes g c =
    let t = g.H.Host.tree c.args.host.now in
    takes_one t c.args.dir (g.met.H.Host.good c.args.host.now) c.args.cookie c.args.room
    c.in-Some.entry
    (entry_next t t _ _ (λ j. t) c.in_ok-entry.ensures.answer c.in-Some.is refl)
    (omega (
      arith,
      c.if-room-len.false,
      c.len.ensures,
      ap (λ (x : Entry). length x.name)
          c.entry.view_is,
    ))

pub returns-in_default-clause-takes : goal.returns-in_default-clause-takes
returns-in_default-clause-takes g c =
    let t = g.H.Host.tree c.args.host.now in
    takes_none t c.args.dir (g.met.H.Host.good c.args.host.now) c.args.cookie c.args.room
    (entry_none t t _ _ (λ j. t) c.in_ok-entry.ensures.answer c.in_default.is)
