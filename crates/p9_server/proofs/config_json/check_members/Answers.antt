-- The members are counted.
use Rattle.p9_server.proofs.Asking.{lt_true, lt_false}
use Rattle.p9_server.proofs.JsonIds.{many_members, few_members}
use Rattle.p9_server.proofs.config_json.check_members.Goals as goal

pub returns-then-len-gt6 : goal.returns-then-len-gt6
returns-then-len-gt6 c = λ _. many_members _ c.in-Some.object.now.entries c.len.result
    c.in-Some.ensures c.len.ensures.len (lt_true 6 c.len.result c.if-len-gt6.true)

pub returns-else-len-gt6 : goal.returns-else-len-gt6
returns-else-len-gt6 c = few_members _ c.in-Some.object.now.entries c.len.result
    c.in-Some.ensures c.len.ensures.len (lt_false 6 c.len.result c.if-len-gt6.false)
