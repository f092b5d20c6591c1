use Rattle.std.proofs.Common.{◌≡◌, ◌++◌, length}
use Rattle.libmount.specs.Escapes.{decoded}
use Rattle.libmount.proofs.mountinfo.escapes.decode.Given as goal

abbrev pub invariant-bytes : goal.invariant-bytes
invariant-bytes l = l.bytes.items ++ decoded l.rest ≡ decoded l.text

abbrev pub decreases-bytes : goal.decreases-bytes
decreases-bytes l = length l.rest
