-- A server without fids.
use Rattle.std.proofs.Common.{◌≡◌, ℕ, ◌<◌, ◌≤◌, ◌^◌, Bool, true, false, cond, ◌||◌, refl, sym, ap}
use Rattle.std.proofs.Common.{◌∙◌, Option, Some, None, List, not, arith}
use Rattle.std.specs.Prelude.{nat_lt, unwrap_or}
use Rattle.std.specs.Ordering.{nat_cmp}
use Rattle.std.specs.FinMap.{empty, len, len-empty, get-empty, retain_keys}
use Rattle.port_base.specs.Paths.{is_rooted_path}
use Rattle.tree_model.specs.Tree.{Tree, keep, linked, is_linked}
use Rattle.tree_model.specs.Settings.{Settings}
use Rattle.tree_host.specs.Holds.{Holds, hold_count}
use Rattle.fid_model.specs.Fids.{Fids, Fid, fid_count, is_held as is_named}
use Rattle.fid_model.proofs.FidCounts.{fid_count-few}
use Rattle.std.proofs.lemmas.Bool.Decides.{nat_tests}
use Rattle.p9_server.specs.Holding.{IsSound}
use Rattle.p9_server.specs.Configs.{config_refused}
use Rattle.p9_server.specs.declared.config.ConfigError.{ConfigError}
use Rattle.p9_server.specs.declared.config.ConfigError.TheVariants.{MsizeTooSmall, BadRoot}

no_fid : (i : ℕ) → fid_count empty i ≡ 0
no_fid i = let few = fid_count-few empty i in let none = len-empty nat_cmp Fid in omega arith

pub sound_empty : (h : Holds) (fids : Fids) (msize : ℕ) (settings : Settings) → h ≡ empty
    → fids ≡ empty → settings.limit < 2 ^ 32 → 256 ≤ msize → msize < 2 ^ 32
    → IsSound h fids msize settings
sound_empty h fids msize settings none no_fids bounded roomy below = record {
  held = λ i. ap (λ (k : Holds). hold_count k i) none
      ∙ ap (λ o. unwrap_or o 0) (get-empty nat_cmp i)
      ∙ sym (ap (λ (f : Fids). fid_count f i) no_fids ∙ no_fid i);
  few = let all = ap len no_fids in let zero = len-empty nat_cmp Fid in omega arith;
  bounded = bounded;
  roomy = roomy;
  below = below;
}

or_false : (b : Bool) → (b || false) ≡ b
or_false true = refl
or_false false = refl

-- what no fid holds is kept where it is linked
pub keep_linked : (t : Tree) → keep (is_named empty) t ≡ linked t
keep_linked t = λ j. record t {
  records = retain_keys t.records
      (λ i. (ap (λ n. is_linked t.records i || nat_lt 0 n) (no_fid i)
      ∙ or_false (is_linked t.records i)) j);
}

roomy_by : (small : Bool) (msize : ℕ) (o : Option ConfigError) → nat_lt msize 256 ≡ small
    → None ≡ cond small (Some MsizeTooSmall) o → 256 ≤ msize
roomy_by true msize o is e = absurd (cc)
roomy_by false msize o is e = grind (arith, nat_tests)

-- a configuration that isn't refused has room for each reply
pub config_roomy : (msize : ℕ) (root : List ℕ) → None ≡ config_refused msize root → 256 ≤ msize
config_roomy msize root e = roomy_by (nat_lt msize 256) msize
    (cond (not (is_rooted_path root)) (Some BadRoot) None) refl e

rooted_by : (rooted : Bool) → None ≡ cond (not rooted) (Some BadRoot) None → rooted ≡ true
rooted_by true e = refl
rooted_by false e = absurd (cc)

behind_size : (small : Bool) (o : Option ConfigError) → None ≡ cond small (Some MsizeTooSmall) o
    → None ≡ o
behind_size true o e = absurd (cc)
behind_size false o e = e

-- and its root is one
pub config_rooted : (msize : ℕ) (root : List ℕ) → None ≡ config_refused msize root
    → is_rooted_path root ≡ true
config_rooted msize root e = rooted_by (is_rooted_path root)
    (behind_size (nat_lt msize 256) (cond (not (is_rooted_path root)) (Some BadRoot) None) e)
