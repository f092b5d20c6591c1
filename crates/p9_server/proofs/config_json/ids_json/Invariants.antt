-- The pairs so far, as members.
use Rattle.std.proofs.Common.{◌≡◌, map, ℕ, Bor}
use Rattle.std.specs.Prelude.{fold}
use Rattle.serde_json.specs.Data.{no_members}
use Rattle.serde_json.specs.View.{members_view}
use Rattle.p9_server.specs.ConfigJsons.{with_pair, AreNumbers}
use Rattle.p9_server.proofs.config_json.ids_json.Given as goal

abbrev pub invariant-loop-id : goal.invariant-loop-id
invariant-loop-id l =
    record {
      written : members_view l.members.entries
          ≡ fold with_pair no_members (map (λ (p : Bor ℕ × Bor ℕ). (p.0.now, p.1.now)) l.yielded);
      numbers : AreNumbers (map (λ (p : Bor ℕ × Bor ℕ). (p.0.now, p.1.now)) l.yielded);
    }
