-- A server keeps what each server keeps.
use Rattle.std.proofs.Common.{ℕ, ◌||◌, sym, ap, ◌∙◌, nat_lt}
use Rattle.tree_model.specs.Tree.{Tree, is_linked}
use Rattle.tree_model.specs.Good.{IsGoodTree}
use Rattle.tree_model.specs.Settings.{Settings}
use Rattle.tree_host.specs.Holds.{Holds}
use Rattle.tree_host.specs.Host.{IsHeldIn}
use Rattle.fid_model.specs.Fids.{Fids, IsGoodServer}
use Rattle.p9_server.specs.Holding.{IsSound}
use Rattle.p9_server.specs.Steps.{server_state}

pub server_good : (t : Tree) (h : Holds) (fids : Fids) (msize : ℕ) (settings : Settings)
    → IsSound h fids msize settings → IsGoodTree t → IsHeldIn t h
    → IsGoodServer (server_state t fids msize settings)
server_good t h fids msize settings sound good stored = record {
  tree = good;
  kept = λ i had. ap (λ b. is_linked t.records i || b) (sym (ap (nat_lt 0) (sound.held i)))
      ∙ stored.kept i had;
  stored = λ i named. stored.stored i (ap (nat_lt 0) (sound.held i) ∙ named);
  roomy = sound.roomy;
  below = sound.below;
}
