-- The target is ASCII.
use Rattle.std.proofs.Common.{arith, refl, rules}
use Rattle.std.specs.Prelude.{codes}
use Rattle.std.proofs.lemmas.Str.{IsUtf8-from_ascii, is_utf8-from_IsUtf8}
use Rattle.tree_host.proofs.memory.tests.put_link.Goals as goal

pub put-requires-clause-item : goal.put-requires-clause-item
put-requires-clause-item g c = (
  omega arith,
  omega arith,
  is_utf8-from_IsUtf8 (codes "d/f")
      (IsUtf8-from_ascii (codes "d/f") (search rules)),
  refl,
)
