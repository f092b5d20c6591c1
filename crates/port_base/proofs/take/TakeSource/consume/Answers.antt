-- The bytes that are taken are a front of those that the source has in memory.
use Rattle.std.proofs.Common.{take}
use Rattle.port_base.proofs.Takes.{took_front, kept_beyond, front_of_front}
use Rattle.port_base.proofs.take.TakeSource.consume.Goals as goal

pub returns-clause-bytes : goal.returns-clause-bytes
returns-clause-bytes g c =
    let rest = c.args.self.now.rest in
    let buffered = g.S.Source.buffered c.args.self.now.source.now in
    let f = front_of_front c.args.n rest buffered c.requires in
    rw f.front (took_front rest c.args.n (take c.args.n buffered) f.len f.within
    (g.S.Source.left c.args.self.now.source.now) (g.S.Source.left c.consume.new.self)
    c.consume.ensures.bytes)

pub returns-clause-kept : goal.returns-clause-kept
returns-clause-kept g c =
    let rest = c.args.self.now.rest in
    let buffered = g.S.Source.buffered c.args.self.now.source.now in
    let e = c.consume.ensures in
    let f = front_of_front c.args.n rest buffered c.requires in
    let same = kept_beyond rest c.args.n (take c.args.n buffered) f.len f.within
    (g.S.Source.left c.args.self.now.source.now) (g.S.Source.left c.consume.new.self) e.bytes
    e.silent in
    λ t. (same t, (e.lender t, e.kept t))
