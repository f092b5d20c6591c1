use Rattle.std.proofs.Common.{◌≡◌, drop}
use Rattle.std.specs.Prelude.{◌==◌}
use Rattle.std.specs.List.{list_any}
use Rattle.fuse_mnt.proofs.moving.has_id.Given as goal

abbrev pub invariant-loop-own : goal.invariant-loop-own
invariant-loop-own l = list_any (λ own. own == l.id) l.ids ≡ list_any (λ own. own == l.id)
    (drop l.own-index l.ids)
