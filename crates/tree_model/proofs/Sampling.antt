-- A tree with one file, `hello`: what is told of it follows by computation from what its map has.
use Rattle.std.proofs.Common.{◌≡◌, ◌≢◌, ℕ, Bool, true, false, cond, not, ◌&&◌, ◌||◌, List, [], ◌∷◌}
use Rattle.std.proofs.Common.{length, refl, sym, ap, ◌∙◌, Option, Some, None, Result, Ok, Err}
use Rattle.std.proofs.Common.{⊎_elim, arith}
use Rattle.std.specs.Prelude.{codes, option_map, option_and_then}
use Rattle.std.proofs.lemmas.Bool.{cases_eq}
use Rattle.std.specs.Ordering.{nat_cmp}
use Rattle.std.specs.FinMap.{get, insert, empty, get-empty, retain_keys}
use Rattle.std.specs.Result.{result_ok}
use Rattle.port_base.specs.declared.errno.TheConstants.{ENOENT, ENOTDIR, EISDIR, EINVAL, EFBIG}
use Rattle.port_base.specs.declared.errno.TheConstants.{ENOTEMPTY}
use Rattle.tree_model.specs.declared.attributes.Kind.TheVariants as kind
use Rattle.tree_model.specs.declared.attributes.TimeSet.{TimeSet}
use Rattle.tree_model.specs.Tree.{Tree, Record, Records, Body, body_at, is_directory_at, linked}
use Rattle.tree_model.specs.Tree.{keep, is_linked}
use Rattle.tree_model.specs.Tree.Body.{File}
use Rattle.tree_model.specs.Finding.{lookup_of, path_names, ino_among, entries_of, find}
use Rattle.tree_model.specs.Attributes.{attr_of, stat_of, attr_or_missing, kind_of}
use Rattle.tree_model.specs.Making.{top_record, file_record, joined_by, changed, new_name_refused}
use Rattle.tree_model.specs.Making.{add_refused, with_file, add_file_of, unless_refused}
use Rattle.tree_model.specs.Making.{create_refused}
use Rattle.tree_model.specs.Samples.{born, limits, alone, hello, world, sample}
use Rattle.tree_model.specs.Opening.{body_answer, unless, open_refused, open_check_of, read_body}
use Rattle.tree_model.specs.Opening.{read_of, readlink_body, readlink_of, walk_to, found_at}
use Rattle.tree_model.specs.Placing.{placed, link_refused, add_hard_of, with_record, with_link}
use Rattle.tree_model.specs.Attributing.{rewritten_at, resized, refused_at, refused_unless_file}
use Rattle.tree_model.specs.Attributing.{set_len_of, write_of, write_refused, fitting}
use Rattle.tree_model.specs.Attributing.{overwritten_at, set_times_of, times_refused, retimed}
use Rattle.tree_model.specs.Attributing.{with_changed}
use Rattle.tree_model.specs.Unlinking.{unless_directory, is_empty_at, if_empty, removed_at}
use Rattle.tree_model.specs.Unlinking.{without_entry, unlink_of, rmdir_of}
use Rattle.tree_model.specs.Creating.{with_name, link_of}
use Rattle.tree_model.specs.Renaming.{climbs_past, is_at_or_below, room_refused, first_of, move_to}
use Rattle.tree_model.specs.Renaming.{with_moved, renamed_at, rename_of}
use Rattle.tree_model.specs.Reading.{Entry, peek_entry_of, entry_above, entry_after_among}
use Rattle.tree_model.specs.Reading.{entry_after_of, part}
use Rattle.tree_model.proofs.Maps.{inserted, insert_keeps, retained, same_gets, rewritten}
use Rattle.tree_model.proofs.Naming.{entry_is_counted}
use Rattle.tree_model.proofs.Keeping.{named_is_linked}

-- ---- the map

first_at : get alone.records 1 ≡ Some (top_record born 493 1 2)
first_at = inserted empty 1 (top_record born 493 1 2)

abbrev pub directory : Record
directory = joined_by hello 2 (top_record born 493 1 2)

abbrev records : Records
records = insert (insert alone.records 2 (file_record born world)) 1 directory

records_are : sample.records ≡ records
records_are = ap (λ o. changed (joined_by hello 2) o
    (insert alone.records 2 (file_record born world)) 1)
    (insert_keeps alone.records 2 (file_record born world) 1 (omega arith) ∙ first_at)

pub top_at : get sample.records 1 ≡ Some directory
top_at = ap (λ rs. get rs 1) records_are ∙ inserted
    (insert alone.records 2 (file_record born world)) 1 directory

pub file_at : get sample.records 2 ≡ Some (file_record born world)
file_at = ap (λ rs. get rs 2) records_are ∙ insert_keeps
    (insert alone.records 2 (file_record born world)) 1 directory 2 (omega arith)
    ∙ inserted alone.records 2 (file_record born world)

pub nothing_else : (q : ℕ) → q ≢ 1 → q ≢ 2 → get sample.records q ≡ None
nothing_else q n1 n2 =
    ap (λ rs. get rs q) records_are ∙ insert_keeps (insert alone.records 2 (file_record born world))
    1 directory q n1
    ∙ insert_keeps alone.records 2 (file_record born world) q n2
    ∙ insert_keeps empty 1 (top_record born 493 1 2) q n1 ∙ get-empty nat_cmp q

-- ---- what is told

abbrev pub looked_up : Bool → List ℕ → Option Record → Result ℕ ℕ
looked_up casefold name o = ino_among casefold name
    (option_and_then entries_of (option_map (λ (r : Record). r.body) o))

pub found : lookup_of sample 1 hello ≡ Ok 2
found = ap (looked_up false hello) top_at

pub not_found : lookup_of sample 1 (codes "Hello") ≡ Err ENOENT
not_found = ap (looked_up false (codes "Hello")) top_at

folded : find true sample 1 (codes "HELLO") ≡ Ok 2
folded = ap (looked_up true (codes "HELLO")) top_at

pub in_file : lookup_of sample 2 hello ≡ Err ENOTDIR
in_file = ap (looked_up false hello) file_at

names_of_path : path_names (codes "//a/b/") ≡ codes "a" ∷ codes "b" ∷ []
names_of_path = refl

pub told : stat_of sample 2 ≡ Ok (record {
  ino = 2;
  kind = kind.File;
  mode = 420;
  uid = 5;
  gid =
      6;
  links = 1;
  size = 5;
  atime = born;
  mtime = born;
  ctime = born;
})
told = ap (attr_or_missing 2) file_at

listed_first : peek_entry_of sample 1 0 ≡ Some (record { cookie = 1; name = hello; ino = 2 })
listed_first = ap (λ o. option_and_then (entry_above 0)
    (option_and_then entries_of (option_map (λ (r : Record). r.body) o))) top_at

listed_last : peek_entry_of sample 1 1 ≡ None
listed_last = ap (λ o. option_and_then (entry_above 1)
    (option_and_then entries_of (option_map (λ (r : Record). r.body) o))) top_at

abbrev entry_of : ℕ → Option Record → Result (Option Entry) ℕ
entry_of cookie o = entry_after_among sample.records cookie
    (option_and_then entries_of (option_map (λ (r : Record). r.body) o))

-- what an entry that names the file shows, by the record of the file
abbrev shown : Option Record → Result (Option Entry) ℕ
shown o = Ok (option_map (λ (r : Record). record { cookie = 1; name = hello; attr = attr_of 2 r })
    o)

pub after_none : entry_after_of sample 1 0 ≡ Ok
    (Some (record { cookie = 1; name = hello; attr = attr_of 2 (file_record born world) }))
after_none = ap (entry_of 0) top_at ∙ ap shown file_at

pub after_first : entry_after_of sample 1 1 ≡ Ok None
after_first = ap (entry_of 1) top_at

pub in_no_directory : entry_after_of sample 2 0 ≡ Err ENOTDIR
in_no_directory = ap (entry_of 0) file_at

a_part : part (codes "world") 1 3 ≡ codes "orl"
a_part = refl

-- ---- what is added

added : add_file_of born alone 1 hello world ≡ Ok (2, sample)
added = ap (λ o. unless_refused (add_refused (new_name_refused true limits.entries 2 hello
    (option_map (λ (r : Record). r.body) o)) limits.file world) alone.next
    (with_file born alone 1 hello world)) first_at

-- ---- what is linked

file_is_linked : is_linked sample.records 2 ≡ true
file_is_linked = named_is_linked sample.records 2
    (entry_is_counted sample.records 1 directory (record { cookie = 1; name = hello; ino = 2 })
    top_at (0, omega arith, refl))

pub all_linked : linked sample ≡ sample
all_linked = ap (λ (rs : Records). let left : Tree = record sample { records = rs } in left)
    (same_gets (retain_keys sample.records (is_linked sample.records)) sample.records (λ q.
    retained sample.records (is_linked sample.records) q ∙ ⊎_elim
    (λ one. ap (λ q. cond (is_linked sample.records q) (get sample.records q) None) one
    ∙ sym (ap (get sample.records) one))
    (λ n1. ⊎_elim
    (λ two. ap (λ q. cond (is_linked sample.records q) (get sample.records q) None) two
    ∙ ap (λ b. cond b (get sample.records 2) None) file_is_linked
    ∙ sym (ap (get sample.records) two))
    (λ n2. ap (cond (is_linked sample.records q) (get sample.records q))
    (sym (nothing_else q n1 n2)) ∙ same (is_linked sample.records q) (get sample.records q))
    (cases_eq q 2))
    (cases_eq q 1))) where
      same : (b : Bool) (o : Option Record) → cond b o o ≡ o
      same true o = refl
      same false o = refl

-- ---- opening, reading and finding

pub body_of_top : body_at sample.records 1 ≡ Some directory.body
body_of_top = ap (option_map (λ (r : Record). r.body)) top_at

pub body_of_file : body_at sample.records 2 ≡ Some (File (codes "world"))
body_of_file = ap (option_map (λ (r : Record). r.body)) file_at

abbrev opened : ℕ → Option Body → Result (Unit {0}) ℕ
opened flags = body_answer (λ b. unless (open_refused flags (kind_of b)))

pub open_file : (flags : ℕ) → open_check_of sample 2 flags ≡ unless (open_refused flags kind.File)
open_file flags = ap (opened flags) body_of_file

pub open_top : (flags : ℕ) → open_check_of sample 1 flags ≡ unless
    (open_refused flags kind.Directory)
open_top flags = ap (opened flags) body_of_top

pub read_file : (offset size : ℕ) → read_of sample 2 offset size ≡ Ok
    (part (codes "world") offset size)
read_file offset size = ap (body_answer (read_body offset size)) body_of_file

pub read_top : (offset size : ℕ) → read_of sample 1 offset size ≡ Err EISDIR
read_top offset size = ap (body_answer (read_body offset size)) body_of_top

pub found_file : found_at sample (hello ∷ []) ≡ Some 2
found_file = ap result_ok found

pub found_none : found_at sample (codes "Hello" ∷ []) ≡ None
found_none = ap result_ok not_found

pub found_below : found_at sample (hello ∷ hello ∷ []) ≡ None
found_below = ap (λ r. result_ok (walk_to sample r (hello ∷ []))) found ∙ ap result_ok in_file

-- ---- adding and changing

abbrev refused_in : List ℕ → ℕ → Option Body → Option ℕ
refused_in name dir = new_name_refused (is_linked sample.records dir) limits.entries 3 name

pub placed_in_top : (name : List ℕ) (r : Record)
    → placed sample 1 name r ≡ unless_refused (refused_in name 1 (Some directory.body)) 3
    (with_record sample 1 name r)
placed_in_top name r = ap (λ o. unless_refused (refused_in name 1 o) sample.next
    (with_record sample 1 name r)) body_of_top

pub placed_in_file : (name : List ℕ) (r : Record) → placed sample 2 name r ≡ Err ENOTDIR
placed_in_file name r = ap (λ o. unless_refused (refused_in name 2 o) sample.next
    (with_record sample 2 name r)) body_of_file

abbrev refused_name : List ℕ → Option Body → Option Record → Option ℕ
refused_name name = link_refused true limits name

pub named_in_top : (name : List ℕ) → add_hard_of sample 1 name 2 ≡ unless_refused
    (refused_name name (Some directory.body) (Some (file_record born world))) 2
    (with_link sample 1 name 2)
named_in_top name = ap (λ o. unless_refused (refused_name name o (get sample.records 2)) 2
    (with_link sample 1 name 2)) body_of_top ∙ ap
    (λ o. unless_refused (refused_name name (Some directory.body) o) 2 (with_link sample 1 name 2))
    file_at

pub top_not_named : (name : List ℕ) → add_hard_of sample 1 name 1 ≡ unless_refused
    (refused_name name (Some directory.body) (Some directory)) 1 (with_link sample 1 name 1)
top_not_named name = ap (λ o. unless_refused (refused_name name o (get sample.records 1)) 1
    (with_link sample 1 name 1)) body_of_top ∙ ap
    (λ o. unless_refused (refused_name name (Some directory.body) o) 1 (with_link sample 1 name 1))
    top_at

pub too_long : set_len_of sample 2 9 ≡ Err EFBIG
too_long = ap (λ o. unless_refused (refused_at (refused_unless_file (Some EFBIG)) o) tt
    (with_changed (rewritten_at born (resized 9)) 2 sample)) body_of_file

pub no_file : set_len_of sample 1 0 ≡ Err EISDIR
no_file = ap (λ o. unless_refused (refused_at (refused_unless_file None) o) tt
    (with_changed (rewritten_at born (resized 0)) 1 sample)) body_of_top

pub file_no_link : readlink_of sample 2 ≡ Err EINVAL
file_no_link = ap (body_answer readlink_body) body_of_file

-- what a write answers for the body that is there
abbrev wrote : ℕ → ℕ → List ℕ → Option Body → Result (ℕ × Tree) ℕ
wrote ino offset new o = unless_refused (refused_at (write_refused 8 offset new) o)
    (length (fitting 8 offset new)) (with_changed
    (overwritten_at born offset (fitting 8 offset new)) ino sample)

pub write_file : (offset : ℕ) (new : List ℕ) → write_of sample 2 offset new ≡ wrote 2 offset new
    (Some (File (codes "world")))
write_file offset new = ap (wrote 2 offset new) body_of_file

pub write_top : (offset : ℕ) (new : List ℕ) → write_of sample 1 offset new ≡ wrote 1 offset new
    (Some directory.body)
write_top offset new = ap (wrote 1 offset new) body_of_top

-- no bytes change nothing
pub write_none : write_of sample 2 9 [] ≡ Ok (0, sample)
write_none = write_file 9 [] ∙ ap (λ (rs : Records). let left : Tree =
    record sample { records = rs } in Ok (0, left))
    (ap (λ o. changed (λ r. r) o sample.records 2) file_at
    ∙ rewritten sample.records 2 (file_record born world) (sym file_at))

pub time_file : (atime mtime : TimeSet) → set_times_of sample 2 atime mtime ≡ unless_refused
    (times_refused atime mtime (File (codes "world"))) tt
    (with_changed (retimed atime mtime born) 2 sample)
time_file atime mtime = ap (λ o. unless_refused (refused_at (times_refused atime mtime) o) tt
    (with_changed (retimed atime mtime born) 2 sample)) body_of_file

-- ---- what goes

abbrev gone : (ℕ → Bool) → ℕ → List ℕ → Result ℕ ℕ → Result (Unit {0} × Tree) ℕ
gone held dir name r = removed_at held sample dir name (unless_directory sample.records r)

pub file_gone : (held : ℕ → Bool) → unlink_of held sample 1 hello ≡ Ok
    (tt, keep held (without_entry sample 1 hello 2))
file_gone held = ap (gone held 1 hello) found
    ∙ ap (λ o. removed_at held sample 1 hello (cond (is_directory_at o) (Err EISDIR) (Ok 2)))
    body_of_file

pub b_missing : lookup_of sample 1 (codes "b") ≡ Err ENOENT
b_missing = ap (looked_up false (codes "b")) top_at

pub none_gone : (held : ℕ → Bool) → unlink_of held sample 1 (codes "b") ≡ Err ENOENT
none_gone held = ap (gone held 1 (codes "b")) b_missing

pub none_below : (held : ℕ → Bool) → unlink_of held sample 2 hello ≡ Err ENOTDIR
none_below held = ap (gone held 2 hello) in_file

pub top_stays : unless_directory sample.records (Ok 1) ≡ Err EISDIR
top_stays = ap (λ o. cond {A = Result ℕ ℕ} (is_directory_at o) (Err EISDIR) (Ok 1)) body_of_top

-- ---- what is created, and what else goes

pub made_in_top : {A : Type 0} (a : A) (name : List ℕ) (u : Tree)
    → unless_refused (create_refused sample 1 name) a u ≡ unless_refused
    (refused_in name 1 (Some directory.body)) a u
made_in_top a name u = ap (λ o. unless_refused (refused_in name 1 o) a u) body_of_top

pub made_in_file : {A : Type 0} (a : A) (name : List ℕ) (u : Tree)
    → unless_refused (create_refused sample 2 name) a u ≡ Err ENOTDIR
made_in_file a name u = ap (λ o. unless_refused (refused_in name 2 o) a u) body_of_file

abbrev named : ℕ → List ℕ → Option Body → Option Record → Result (Unit {0} × Tree) ℕ
named ino name b o = unless_refused (refused_name name b o) tt (with_name sample 1 name ino)

pub link_in_top : (name : List ℕ) → link_of sample 2 1 name ≡ named 2 name (Some directory.body)
    (Some (file_record born world))
link_in_top name = ap (λ o. named 2 name o (get sample.records 2)) body_of_top
    ∙ ap (named 2 name (Some directory.body)) file_at

pub top_not_linked : (name : List ℕ) → link_of sample 1 1 name ≡ named 1 name (Some directory.body)
    (Some directory)
top_not_linked name = ap (λ o. named 1 name o (get sample.records 1)) body_of_top
    ∙ ap (named 1 name (Some directory.body)) top_at

abbrev emptied : Option Body → Result ℕ ℕ
emptied o = cond (not (is_directory_at o)) (Err ENOTDIR)
    (cond (is_empty_at o) (Ok 1) (Err ENOTEMPTY))

pub alone_goes : if_empty alone.records (Ok 1) ≡ Ok 1
alone_goes = ap (λ o. emptied (option_map (λ (r : Record). r.body) o)) first_at

pub sample_stays : if_empty sample.records (Ok 1) ≡ Err ENOTEMPTY
sample_stays = ap emptied body_of_top

abbrev removed : (ℕ → Bool) → ℕ → List ℕ → Result ℕ ℕ → Result (Unit {0} × Tree) ℕ
removed held dir name r = removed_at held sample dir name (if_empty sample.records r)

pub file_not_removed : (held : ℕ → Bool) → rmdir_of held sample 1 hello ≡ Err ENOTDIR
file_not_removed held = ap (removed held 1 hello) found
    ∙ ap (λ o. removed_at held sample 1 hello
    (cond (not (is_directory_at o)) (Err ENOTDIR) (cond (is_empty_at o) (Ok 2) (Err ENOTEMPTY))))
    body_of_file

pub none_removed : (held : ℕ → Bool) → rmdir_of held sample 1 (codes "b") ≡ Err ENOENT
none_removed held = ap (removed held 1 (codes "b")) b_missing

pub none_removed_below : (held : ℕ → Bool) → rmdir_of held sample 2 hello ≡ Err ENOTDIR
none_removed_below held = ap (removed held 2 hello) in_file

-- ---- what moves

kind_of_top : is_directory_at (body_at sample.records 1) ≡ true
kind_of_top = ap is_directory_at body_of_top

kind_of_file : is_directory_at (body_at sample.records 2) ≡ false
kind_of_file = ap is_directory_at body_of_file

pub top_below_itself : is_at_or_below sample 1 1 ≡ true
top_below_itself = ap (λ b. b && not (climbs_past sample.records 1 3 1)) kind_of_top

pub file_not_above : is_at_or_below sample 2 1 ≡ false
file_not_above = ap (λ b. b && not (climbs_past sample.records 2 3 1)) kind_of_file

module _ (held : ℕ → Bool) where
  -- what a rename between two inodes answers, by their kinds and what the old name names
  abbrev moved : ℕ → List ℕ → ℕ → List ℕ → Bool → Bool → Result ℕ ℕ → Result (Unit {0} × Tree) ℕ
  moved olddir oldname newdir newname a b r =
      cond (not a || not b) (Err ENOTDIR) (renamed_at held sample olddir oldname newdir newname r)

  pub file_elsewhere : (newname : List ℕ) → rename_of held sample 2 hello 1 newname ≡ Err ENOTDIR
  file_elsewhere newname = ap (λ a. moved 2 hello 1 newname a
      (is_directory_at (body_at sample.records 1)) (lookup_of sample 2 hello)) kind_of_file

  pub into_file : rename_of held sample 1 hello 2 hello ≡ Err ENOTDIR
  into_file =
      ap (λ a. moved 1 hello 2 hello a (is_directory_at (body_at sample.records 2))
      (lookup_of sample 1 hello)) kind_of_top
      ∙ ap (λ b. moved 1 hello 2 hello true b (lookup_of sample 1 hello)) kind_of_file

  in_top : (oldname newname : List ℕ) → rename_of held sample 1 oldname 1 newname ≡ renamed_at held
      sample 1 oldname 1 newname (lookup_of sample 1 oldname)
  in_top oldname newname = ap (λ a. moved 1 oldname 1 newname a a (lookup_of sample 1 oldname))
      kind_of_top

  pub none_moves : rename_of held sample 1 (codes "b") 1 hello ≡ Err ENOENT
  none_moves = in_top (codes "b") hello ∙ ap (renamed_at held sample 1 (codes "b") 1 hello)
      b_missing

  pub file_stays : rename_of held sample 1 hello 1 hello ≡ Ok (tt, sample)
  file_stays =
      in_top hello hello ∙ ap (renamed_at held sample 1 hello 1 hello) found
      ∙ ap (λ r. move_to held sample 1 hello 1 hello 2 (result_ok r)) found

  abbrev target : Tree
  target = with_moved sample 1 hello 1 (codes "b") 2

  abbrev answer : Bool → Option Body → Result (Unit {0} × Tree) ℕ
  answer below b = unless_refused (cond below (Some EINVAL)
      (first_of None (room_refused 2 false b))) tt (keep held target)

  pub file_moves : rename_of held sample 1 hello 1 (codes "b") ≡ Ok (tt, keep held target)
  file_moves =
      in_top hello (codes "b") ∙ ap (renamed_at held sample 1 hello 1 (codes "b")) found
      ∙ ap (λ r. move_to held sample 1 hello 1 (codes "b") 2 (result_ok r)) b_missing
      ∙ ap (λ below. answer below (body_at sample.records 1)) file_not_above
      ∙ ap (answer false) body_of_top
