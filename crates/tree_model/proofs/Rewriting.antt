-- Files whose bytes change leave a good tree.
use Rattle.std.proofs.Common.{◌≡◌, ℕ, ◌+◌, ◌-◌, ◌≤◌, Bool, true, false, cond, List, ◌++◌, length}
use Rattle.std.proofs.Common.{take, drop, replicate, refl, Option, Some, None, arith, length-append}
use Rattle.std.proofs.Common.{length-take, length-drop, nat_lt}
use Rattle.std.proofs.lemmas.List.{length-replicate}
use Rattle.std.specs.Prelude.{◌==◌}
use Rattle.std.proofs.lemmas.Bool.Decides.{nat_tests}
use Rattle.port_base.specs.declared.errno.TheConstants.{EFBIG}
use Rattle.tree_model.specs.Tree.{Tree, Body, DirEntry, listed, is_directory}
use Rattle.tree_model.specs.Tree.Body.{File, Directory, Link}
use Rattle.tree_model.specs.Good.{IsGoodBody, IsGoodTree, links_of}
use Rattle.tree_model.specs.Attributing.{resized, written, with_bytes, refused_unless_file}
use Rattle.tree_model.specs.Attributing.{rewritten_at, len_refused, fitting, overwritten_at}
use Rattle.tree_model.specs.Attributing.{write_refused}
use Rattle.tree_model.proofs.Altering.{IsAltered}
use Rattle.tree_model.proofs.Attributing.{same_body, Amends}

-- ---- bodies

listed_same : (h : List ℕ → List ℕ) (b : Body) → listed (with_bytes h b) ≡ listed b
listed_same h (File bytes) = refl
listed_same h (Directory es next above) = refl
listed_same h (Link target) = refl

shows_same : (h : List ℕ → List ℕ) (b : Body) (n : ℕ) (linked : Bool)
    → links_of (with_bytes h b) n linked ≡ links_of b n linked
shows_same h (File bytes) n linked = refl
shows_same h (Directory es next above) n linked = refl
shows_same h (Link target) n linked = refl

directory_same : (h : List ℕ → List ℕ) (b : Body) → is_directory (with_bytes h b) ≡ is_directory b
directory_same h (File bytes) = refl
directory_same h (Directory es next above) = refl
directory_same h (Link target) = refl

was_place : (h : List ℕ → List ℕ) (b : Body) (es : List DirEntry) (n up : ℕ)
    → with_bytes h b ≡ Directory es n up → b ≡ Directory es n up
was_place h (File bytes) es n up is = absurd (cc)
was_place h (Directory fs next above) es n up is = is
was_place h (Link target) es n up is = absurd (cc)

is_place : (h : List ℕ → List ℕ) (b : Body) (es : List DirEntry) (n up : ℕ) → b ≡ Directory es n up
    → with_bytes h b ≡ Directory es n up
is_place h (File bytes) es n up is = absurd (cc)
is_place h (Directory fs next above) es n up is = is
is_place h (Link target) es n up is = absurd (cc)

good_bytes : (h : List ℕ → List ℕ) (e : Option ℕ) (b : Body) → refused_unless_file e b ≡ None
    → (e ≡ None → (bytes : List ℕ) → length bytes ≤ 1073741824 → length (h bytes) ≤ 1073741824)
    → IsGoodBody b → IsGoodBody (with_bytes h b)
good_bytes h e (File bytes) free grows good = grows free bytes good
good_bytes h e (Directory es next above) free grows good = absurd (cc)
good_bytes h e (Link target) free grows good = absurd (cc)

-- ---- lengths

pub length_resized : (len : ℕ) (bytes : List ℕ) → length (resized len bytes) ≡ len
length_resized len bytes =
    let all = length-append (take len bytes) (replicate (len - length bytes) 0) in
    let front = length-take len bytes in
    let zeros : length (replicate {A = ℕ} (len - length bytes) 0) ≡ len - length bytes =
    length-replicate (len - length bytes) 0 in
    omega arith

length_written : (offset limit : ℕ) (new old : List ℕ) → offset + length new ≤ limit
    → length old ≤ limit → length (written offset new old) ≤ limit
length_written offset limit new old fits low =
    let all : length (written offset new old) ≡ length (resized offset old ++ new) + length
    (drop (offset + length new) old) = length-append (resized offset old ++ new)
    (drop (offset + length new) old) in
    let both = length-append (resized offset old) new in
    let front = length_resized offset old in
    let behind = length-drop (offset + length new) old in
    omega arith

-- ---- records

module _ (t : Tree) (g : IsGoodTree t) (ino : ℕ) where
  pub rewritten_good : (h : List ℕ → List ℕ) (e : Option ℕ)
      → (e ≡ None → (bytes : List ℕ) → length bytes ≤ 1073741824 → length (h bytes) ≤ 1073741824)
      → Amends t ino (refused_unless_file e) (rewritten_at t.moment h)
  rewritten_good h e grows r at free = let w = g.records ino r at in record {
    at = at;
    good = record {
      body = good_bytes h e r.body free grows w.body;
      mode = w.mode;
      links =
          w.links;
      atime = w.atime;
      mtime = g.moment;
      ctime = g.moment;
    };
    same_links = refl;
    lists = listed_same h r.body;
    shows = shows_same h r.body;
    directory = directory_same h r.body;
    place = was_place h r.body;
    placed = is_place h r.body;
  }

  long_by : (limit len : ℕ) → cond (nat_lt limit len) (Some EFBIG) None ≡ None → len ≤ limit
  long_by limit len free = by_test (nat_lt limit len) refl free where
    by_test : (b : Bool) → nat_lt limit len ≡ b → cond b (Some EFBIG) None ≡ None → len ≤ limit
    by_test true is free = absurd (cc)
    by_test false is free = grind (arith, nat_tests)

  pub resized_good : (len : ℕ) → Amends t ino (len_refused t.limits.file len)
      (rewritten_at t.moment (resized len))
  resized_good len = rewritten_good (resized len)
      (cond (nat_lt t.limits.file len) (Some EFBIG) None) (λ free bytes low.
      let fits = long_by t.limits.file len free in
      let most = g.limits.0 in
      let is = length_resized len bytes in
      omega arith)

  pub overwritten_good : (offset : ℕ) (new : List ℕ)
      → Amends t ino (write_refused t.limits.file offset new)
      (overwritten_at t.moment offset (fitting t.limits.file offset new))
  overwritten_good offset new r at free = by_test (length (fitting t.limits.file offset new) == 0)
      refl where
        by_test : (b : Bool) → (length (fitting t.limits.file offset new) == 0) ≡ b
            → IsAltered t ino r (cond b r (rewritten_at t.moment
            (written offset (fitting t.limits.file offset new)) r))
        by_test true none = same_body t ino r r at refl refl (g.records ino r at)
        by_test false some = rewritten_good (written offset (fitting t.limits.file offset new)) _
            (λ e bytes low.
            let cut = length-take (t.limits.file - offset) new in
            let not_none : 1 ≤ length (fitting t.limits.file offset new) =
            grind (arith, nat_tests) in
            let most = g.limits.0 in
            length_written offset 1073741824 (fitting t.limits.file offset new) bytes (omega arith)
            low)
            r at free
