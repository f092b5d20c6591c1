-- The call without an explanation, and then the explanation.
use Rattle.libmount.proofs.bind.BindMount.mount.Goals as goal

pub returns-clause-ends : goal.returns-clause-ends
returns-clause-ends g c = record {
  bare = _;
  probe = _;
  did = c.bare_mount-bare.ensures.mounted;
  told = rw (c.bare_mount-bare.ensures.facts) at c.explained.ensures.told;
}
