-- What a host goes by, on a small tree: it follows by computation from what its maps have.
use Rattle.std.proofs.Common.{◌≡◌, ℕ, ◌+◌, ◌-◌, false, cond, List, [], ◌∷◌, ap, ◌∙◌, Result, Ok}
use Rattle.std.proofs.Common.{Err, arith, nat_lt}
use Rattle.std.specs.Prelude.{codes, unwrap_or}
use Rattle.std.specs.Ordering.{nat_cmp}
use Rattle.std.specs.FinMap.{insert, remove, empty, get-empty}
use Rattle.port_base.specs.declared.errno.TheConstants.{EEXIST, EFBIG, ENOENT, ENOTDIR, EPERM}
use Rattle.tree_model.specs.Samples.{born, sample, hello}
use Rattle.tree_model.specs.Placing.{with_record, with_link, directory_record}
use Rattle.tree_model.specs.Attributing.{with_changed}
use Rattle.tree_model.specs.Finding.{directory_or_not}
use Rattle.tree_model.proofs.Maps.{inserted, insert_keeps, removed}
use Rattle.tree_model.proofs.Sampling.{found, looked_up, file_at, b_missing, body_of_top}
use Rattle.tree_model.proofs.Sampling.{body_of_file, placed_in_top, named_in_top, top_not_named}
use Rattle.tree_model.proofs.Sampling.{too_long as file_too_long}
use Rattle.tree_model.proofs.Telling.{mode_set}
use Rattle.tree_host.specs.Holds.{Holds, hold_count, is_held, held_more, held_less}
use Rattle.tree_host.specs.Walking.{walk_of, walk_parts, part_end}
use Rattle.tree_host.specs.Changing.{change_of, changed_by}
use Rattle.tree_host.specs.TreeHosts.{add_of}
use Rattle.tree_host.specs.declared.change.Change.TheVariants.{Mode, Len}
use Rattle.tree_host.specs.declared.memory.NewItem.TheVariants.{Dir, Hard}

-- ---- holds

pub none_held : hold_count empty 2 ≡ 0
none_held = ap (λ o. unwrap_or o 0) (get-empty {X = ℕ} nat_cmp 2)

one_more : (h : Holds) (n : ℕ) → hold_count h 2 ≡ n → hold_count (held_more h 2) 2 ≡ n + 1
one_more h n had = ap (λ o. unwrap_or o 0) (inserted h 2 (hold_count h 2 + 1)) ∙ ap (λ n. n + 1) had

abbrev once : Holds
once = held_more empty 2

pub held_once : hold_count once 2 ≡ 1
held_once = one_more empty 0 none_held

pub held_twice : hold_count (held_more once 2) 2 ≡ 2
held_twice = one_more once 1 held_once

-- what is left, by the number before
abbrev left : Holds → ℕ → Holds
left h n = cond (nat_lt 1 n) (insert h 2 (n - 1)) (remove h 2)

pub one_left : hold_count (held_less (held_more once 2) 2) 2 ≡ 1
one_left = ap (λ n. hold_count (left (held_more once 2) n) 2) held_twice
    ∙ ap (λ o. unwrap_or o 0) (inserted (held_more once 2) 2 1)

pub none_left : is_held (held_less once 2) 2 ≡ false
none_left = ap (λ n. is_held (left once n) 2) held_once
    ∙ ap (λ o. nat_lt 0 (unwrap_or o 0)) (removed once 2)

pub not_held : is_held once 3 ≡ false
not_held = ap (λ o. nat_lt 0 (unwrap_or o 0))
    (insert_keeps empty 2 (hold_count empty 2 + 1) 3 (omega arith) ∙ get-empty {X = ℕ} nat_cmp 3)

-- ---- walks

pub to_top : walk_of sample.records (codes "//") ≡ Ok 1
to_top = ap (λ b. directory_or_not b 1) body_of_top

abbrev rest : List (List ℕ) → Result ℕ ℕ → Result ℕ ℕ
rest parts at = part_end sample.records (walk_parts sample.records at parts)

pub to_file : walk_of sample.records (codes "/hello/") ≡ Err ENOTDIR
to_file = ap (rest ([] ∷ [])) found ∙ ap (λ b. directory_or_not b 2) body_of_file

pub to_none : walk_of sample.records (codes "/b") ≡ Err ENOENT
to_none = ap (rest []) b_missing

pub below_file : walk_of sample.records (codes "/hello/b") ≡ Err ENOTDIR
below_file = ap (rest (codes "b" ∷ [])) found
    ∙ ap (λ o. part_end sample.records (looked_up false (codes "b") o)) file_at

-- ---- changes and additions

pub mode_changed : change_of (Mode 384) sample 2 ≡ Ok
    (tt, with_changed (changed_by (Mode 384) born) 2 sample)
mode_changed = mode_set

pub too_long : change_of (Len 9) sample 2 ≡ Err EFBIG
too_long = file_too_long

pub directory_added : add_of born sample 1 (codes "d") (Dir 493 0 0) ≡ Ok
    (3, with_record sample 1 (codes "d") (directory_record born 493 0 0 1))
directory_added = placed_in_top (codes "d") (directory_record born 493 0 0 1)

pub name_added : add_of born sample 1 (codes "b") (Hard 2) ≡ Ok
    (2, with_link sample 1 (codes "b") 2)
name_added = named_in_top (codes "b")

pub name_there : add_of born sample 1 hello (Hard 2) ≡ Err EEXIST
name_there = named_in_top hello

pub of_directory : add_of born sample 1 (codes "b") (Hard 1) ≡ Err EPERM
of_directory = top_not_named (codes "b")
