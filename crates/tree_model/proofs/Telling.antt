-- What is told of a small tree, and the modes, owners and times that are set in it.
use Rattle.std.proofs.Common.{◌≡◌, ℕ, true, [], ◌∷◌, ap, ◌∙◌, Option, Some, None, Result, Ok, Err}
use Rattle.std.proofs.Common.{arith}
use Rattle.std.specs.Prelude.{codes, option_map, unwrap_or}
use Rattle.std.specs.Ordering.{nat_cmp}
use Rattle.std.specs.FinMap.{insert, empty, get-empty}
use Rattle.port_base.specs.declared.errno.TheConstants.{ENOENT, ENOTDIR}
use Rattle.tree_model.specs.Tree.{Tree, Record, Body, body_at}
use Rattle.tree_model.specs.Finding.{find, root_of, directory_or_not, walk_end}
use Rattle.tree_model.specs.Reading.{above, above_of, next_cookie_of}
use Rattle.tree_model.specs.Making.{next_cookie, unless_refused}
use Rattle.tree_model.specs.Settings.{mapped}
use Rattle.tree_model.specs.Attributing.{refused_at, refused_for_link, never, with_changed}
use Rattle.tree_model.specs.Attributing.{set_mode_of, remoded, set_owner_of, owned_by}
use Rattle.tree_model.specs.Attributing.{touch_ctime_of, restamped}
use Rattle.tree_model.specs.Samples.{born, hello, sample}
use Rattle.tree_model.proofs.Maps.{inserted}
use Rattle.tree_model.proofs.Sampling.{looked_up, top_at, nothing_else, found, body_of_top}
use Rattle.tree_model.proofs.Sampling.{body_of_file, b_missing}

-- ---- names

pub folded_case : find true sample 1 (codes "Hello") ≡ Ok 2
folded_case = ap (looked_up true (codes "Hello")) top_at

pub root_top : root_of sample [] ≡ Ok 1
root_top = ap (λ b. directory_or_not b 1) body_of_top

pub root_file : root_of sample (hello ∷ []) ≡ Err ENOTDIR
root_file = ap (walk_end sample) found ∙ ap (λ b. directory_or_not b 2) body_of_file

pub root_missing : root_of sample (codes "b" ∷ []) ≡ Err ENOENT
root_missing = ap (walk_end sample) b_missing

pub above_top : above_of sample 1 ≡ 1
above_top = ap (λ (b : Option Body). unwrap_or (option_map above b) 0) body_of_top

pub next_in_top : next_cookie_of sample 1 ≡ 2
next_in_top = ap (λ (b : Option Body). unwrap_or (option_map next_cookie b) 0) body_of_top

pub next_in_file : next_cookie_of sample 2 ≡ 0
next_in_file = ap (λ (b : Option Body). unwrap_or (option_map next_cookie b) 0) body_of_file

-- ---- attributes

pub owner_mapped : mapped (insert empty 5 50) 5 ≡ 50
owner_mapped = ap (λ (o : Option ℕ). unwrap_or o 5) (inserted empty 5 50)

pub owner_stays : mapped empty 5 ≡ 5
owner_stays = ap (λ (o : Option ℕ). unwrap_or o 5) (get-empty {X = ℕ} nat_cmp 5)

-- ---- what is set

-- nothing stands at inode 3
none_there : body_at sample.records 3 ≡ None
none_there = ap (option_map (λ (r : Record). r.body))
    (nothing_else 3 (λ h. absurd (omega (arith, h))) (λ h. absurd (omega (arith, h))))

-- a change of an inode, by what stands there and refuses it
abbrev set : (Record → Record) → ℕ → (Body → Option ℕ) → Option Body → Result (Unit {0} × Tree) ℕ
set f ino refused b = unless_refused (refused_at refused b) tt (with_changed f ino sample)

pub mode_set : set_mode_of sample 2 384 ≡ Ok (tt, with_changed (remoded 384 born) 2 sample)
mode_set = ap (set (remoded 384 born) 2 refused_for_link) body_of_file

pub mode_missing : set_mode_of sample 3 384 ≡ Err ENOENT
mode_missing = ap (set (remoded 384 born) 3 refused_for_link) none_there

pub owner_set : set_owner_of sample 2 None (Some 8) ≡ Ok
    (tt, with_changed (owned_by None (Some 8) born) 2 sample)
owner_set = ap (set (owned_by None (Some 8) born) 2 never) body_of_file

pub owner_missing : set_owner_of sample 3 None None ≡ Err ENOENT
owner_missing = ap (set (owned_by None None born) 3 never) none_there

pub ctime_set : touch_ctime_of sample 2 ≡ Ok (tt, with_changed (restamped born) 2 sample)
ctime_set = ap (set (restamped born) 2 never) body_of_file

pub ctime_missing : touch_ctime_of sample 3 ≡ Err ENOENT
ctime_missing = ap (set (restamped born) 3 never) none_there
