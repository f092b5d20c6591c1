-- A frame that is read is its size, and then the bytes behind it.
use Rattle.std.proofs.Common.{arith}
use Rattle.p9_wire.specs.Steps.{Took-trans}
use Rattle.p9_wire.proofs.Framing.{after_size, took_size, ended_within}
use Rattle.p9_wire.proofs.frame.decode_frame.Goals as goal

pub returns-then-size-lt-HEADER_LENGTH-clause-took :
    goal.returns-then-size-lt-HEADER_LENGTH-clause-took
returns-then-size-lt-HEADER_LENGTH-clause-took g c =
    took_size _ _ c.in_ok-size.size c.in_ok-size.ensures.decodes.answer.1

pub returns-clause-decodes : goal.returns-clause-decodes
returns-clause-decodes g c =
    after_size g.M.Framed.view g.M.Framed.reading c.args.limit c.in_ok-size.size _ _ _ _ _ _
    (omega arith) (omega arith) c.in_ok-size.ensures.decodes
    c.decode_rest.result c.decode_rest.ensures.decodes

pub returns-clause-took : goal.returns-clause-took
returns-clause-took g c =
    ended_within _ _ c.decode_rest.result
    (Took-trans _ _ _ c.in_ok-size.ensures.decodes.took c.decode_rest.ensures.decodes.took)
    c.decode_rest.ensures.stop
