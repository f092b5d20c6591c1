-- The call without an explanation, and then the explanation.
use Rattle.libmount.proofs.flag_change.Remount.remount.Goals as goal

pub returns-clause-ends : goal.returns-clause-ends
returns-clause-ends g c = record {
  bare = _;
  probe = _;
  did = c.bare_remount-bare.ensures.mounted;
  told = rw (c.bare_remount-bare.ensures.facts) at c.explained.ensures.told;
}
