use Rattle.std.proofs.Common.{◌≡◌, take}
use Rattle.port_base.specs.Words.{words_of}
use Rattle.libmount.proofs.path_list.PathList.try_clone.Given as goal

abbrev pub invariant-loop-path : goal.invariant-loop-path
invariant-loop-path l = l.copy ≡ words_of (take l.path-index l.path-items)
