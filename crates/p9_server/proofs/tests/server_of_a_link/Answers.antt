-- The target is ASCII.
use Rattle.std.proofs.Common.{arith, refl, rules}
use Rattle.std.specs.Prelude.{codes}
use Rattle.std.proofs.lemmas.Str.{IsUtf8-from_ascii, is_utf8-from_IsUtf8}
use Rattle.p9_server.proofs.tests.server_of_a_link.Goals as goal

pub add-requires-clause-item : goal.add-requires-clause-item
add-requires-clause-item c = (
  omega arith,
  omega arith,
  is_utf8-from_IsUtf8 (codes "a/gh")
      (IsUtf8-from_ascii (codes "a/gh") (search rules)),
  refl,
)
