-- What was read so far, escaped, and the rest are the field.
use Rattle.std.proofs.Common.{◌++◌, ap, rules}
use Rattle.port_base.specs.Escapes.{escaped}
use Rattle.port_base.proofs.Escaping.{none_escaped, one_more}
use Rattle.port_base.proofs.escapes.text_of.Goals as goal

pub loop-rest-init : goal.loop-rest-init
unfolding escaped
loop-rest-init c = ap (λ l. escaped l ++ c.args.field.now) c.new-out.ensures.items

pub returns-in_default : goal.returns-in_default
returns-in_default c = none_escaped c.loop-rest.out.items c.loop-rest.rest.now c.args.field.now
    c.loop-rest.invariant (λ e. search rules) c.in_default.ensures

pub loop-rest-preserved : goal.loop-rest-preserved
loop-rest-preserved c = one_more c.loop-rest.out.items c.args.field.now c.loop-rest.rest.now _
    c.in-Some.byte c.in-Some.width c.loop-rest.invariant c.in-Some.ensures.1 c.in_ok-push.ensures
