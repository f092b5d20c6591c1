-- Where nothing has to go, nothing goes.
use Rattle.std.proofs.Common.{◌≡◌, ℕ, ◌+◌, Bool, true, false, ◌||◌, refl, None, arith, nat_lt}
use Rattle.std.proofs.lemmas.Bool.Decides.{nat_tests}
use Rattle.std.specs.FinMap.{get, insert}
use Rattle.tree_model.specs.Tree.{is_linked}
use Rattle.fid_model.specs.Fids.{ServerState, Fid, fid_weight, fid_count, is_held, kept_state}
use Rattle.fid_model.specs.Fids.{IsGoodServer}
use Rattle.fid_model.proofs.Keeping.{kept_state_kept}
use Rattle.fid_model.proofs.FidCounts.{fid_count-new}

either : (a b c : Bool) → (b ≡ true → c ≡ true) → (a || b) ≡ true → (a || c) ≡ true
either true b c f h = refl
either false b c f h = f h

more : (a b w : ℕ) → b ≡ a + w → nat_lt 0 a ≡ true → nat_lt 0 b ≡ true
more a b w e h = grind (arith, nat_tests)

-- nor where a fid is new
pub kept_state_new : (s : ServerState) (n : ℕ) (f : Fid) → IsGoodServer s → get s.fids n ≡ None
    → kept_state (record s { fids = insert s.fids n f }) ≡ record s { fids = insert s.fids n f }
kept_state_new s n f g none =
    kept_state_kept (record s { fids = insert s.fids n f })
    (λ q had. either (is_linked s.tree.records q) (is_held s.fids q) (is_held (insert s.fids n f) q)
    (more (fid_count s.fids q) (fid_count (insert s.fids n f) q) (fid_weight q f)
    (fid_count-new s.fids n f none q)) (g.kept q had))
