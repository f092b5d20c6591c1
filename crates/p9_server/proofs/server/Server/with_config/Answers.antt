-- A server begins without fids.
use Rattle.std.proofs.Common.{◌<◌, ◌^◌, ap, sym, subst, rules, ℕ}
use Rattle.tree_model.specs.Settings.{Settings}
use Rattle.p9_server.proofs.Emptying.{sound_empty, config_roomy}
use Rattle.p9_server.proofs.server.Server.with_config.Goals as goal

pub invariant_of-result : goal.invariant_of-result
invariant_of-result g c =
    let few : c.args.config.fid_limit < 2 ^ 32 = search rules in
    let below : c.args.config.msize < 2 ^ 32 = search rules in
    let limit = ap (λ (s : Settings). s.limit) c.new-2.ensures in
    record {
      sound = sound_empty (g.H.Host.holds c.args.host) c.new.result c.args.config.msize
          c.new-2.result c.requires c.new.ensures
          (subst (λ (n : ℕ). n < 2 ^ 32) (sym limit) few)
          (config_roomy c.args.config.msize c.args.config.root.items c.in_default.ensures) below;
    }
