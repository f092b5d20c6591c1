use Rattle.std.proofs.Common.{◌≡◌, take}
use Rattle.std.specs.List.{flat_map}
use Rattle.port_base.specs.Words.{words_of}
use Rattle.libmount.specs.Explanations.{dir_part, ended}
use Rattle.libmount.specs.Probes.{Tells}
use Rattle.libmount.proofs.overlay.telling.tell_dirs.Given as goal

abbrev pub invariant-loop-dir : goal.invariant-loop-dir
invariant-loop-dir g l = record {
  told : Tells (g.P.Probe.facts l.initial.probe)
      (λ f. flat_map (λ dir. ended (dir_part f dir)) (words_of (take l.dir-index l.dirs)))
      l.initial.out.items l.out.items (g.P.Probe.calls l.initial.probe) (g.P.Probe.calls l.probe);
  facts : g.P.Probe.facts l.probe ≡ g.P.Probe.facts l.initial.probe;
}
