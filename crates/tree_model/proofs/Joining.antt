-- One more name is let in, and leaves a good tree.
use Rattle.std.proofs.Common.{◌≡◌, ℕ, ◌-◌, ◌^◌, ◌<◌, Bool, true, false, cond, not, ◌||◌, List}
use Rattle.std.proofs.Common.{length, refl, sym, ap, ◌∙◌, subst, Option, Some, None, Ok, arith}
use Rattle.std.specs.Prelude.{◌==◌, is_some, nat_le}
use Rattle.std.proofs.lemmas.Bool.{false≢true}
use Rattle.std.proofs.lemmas.Bool.Decides.{nat_tests}
use Rattle.std.specs.FinMap.{get, insert}
use Rattle.port_base.specs.Names.{name_fault}
use Rattle.port_base.specs.declared.errno.TheConstants.{EPERM, ENOENT, EEXIST, ENOTDIR, ENOSPC}
use Rattle.port_base.specs.declared.errno.TheConstants.{EMLINK}
use Rattle.tree_model.specs.declared.attributes.Limits.{Limits}
use Rattle.tree_model.specs.Tree.{Tree, Record, Records, body_at, listed, is_directory, is_linked}
use Rattle.tree_model.specs.Good.{IsAt, IsGoodTree}
use Rattle.tree_model.specs.Sound.{IsKept, AreStored, IsCounted, has_no_links}
use Rattle.tree_model.specs.Finding.{entry_named}
use Rattle.tree_model.specs.Making.{next_cookie, joined_by, changed, change, unless_refused}
use Rattle.tree_model.specs.Placing.{takes_no_entry, link_refused, one_link_more, with_link}
use Rattle.tree_model.proofs.Sweeping.{no_links}
use Rattle.tree_model.proofs.Bodies.{good_joined}
use Rattle.tree_model.proofs.Linking.{IsLinkedIn, mid_dir, linked_in_good, linked_kept}
use Rattle.tree_model.proofs.Linking.{linked_stored}

-- what is known where one more name is let in
pub record IsNamedIn (rs : Records) (limits : Limits) (dir ino : ℕ) (name : List ℕ) : Type 0 where
  pub d : Record
  pub x : Record
  pub at : IsAt rs dir d
  pub there : IsAt rs ino x
  pub directory : is_directory d.body ≡ true
  pub live : is_linked rs dir ≡ true
  pub plain : is_directory x.body ≡ false
  pub had_links : 0 < x.links
  pub new : entry_named name (listed d.body) ≡ None
  pub few : x.links < limits.links
  pub room : next_cookie d.body < 2 ^ 64 - 1

by_tests : (d x l n m f : Bool)
    → cond {A = Option ℕ} (not d) (Some ENOTDIR)
    (cond x (Some EPERM) (cond l (Some ENOENT)
    (cond n (Some EEXIST) (cond m (Some EMLINK) (cond f (Some ENOSPC) None))))) ≡ None
    → (d ≡ true) × (x ≡ false) × (l ≡ false) × (n ≡ false) × (m ≡ false) × (f ≡ false)
by_tests true false false false false false e = (refl, refl, refl, refl, refl, refl)
by_tests true false false false false true e = absurd (cc)
by_tests true false false false true f e = absurd (cc)
by_tests true false false true m f e = absurd (cc)
by_tests true false true n m f e = absurd (cc)
by_tests true true l n m f e = absurd (cc)
by_tests false x l n m f e = absurd (cc)

none_of : {X : Type 0} (o : Option X) → is_some o ≡ false → o ≡ None
none_of None e = refl
none_of (Some x) e = absurd (false≢true (sym e))

or_false : (a b : Bool) → (a || b) ≡ false → (a ≡ false) × (b ≡ false)
or_false true b e = absurd (false≢true (sym e))
or_false false b e = (refl, e)

not_false : (b : Bool) → not b ≡ false → b ≡ true
not_false true e = refl
not_false false e = absurd (false≢true (sym e))

below : (n k : ℕ) → nat_le k n ≡ false → n < k
below n k e = grind (arith, nat_tests)

some_links : (n : ℕ) → (n == 0) ≡ false → 0 < n
some_links n e = grind (arith, nat_tests)

pub named_in : (rs : Records) (limits : Limits) (dir ino : ℕ) (name : List ℕ)
    → link_refused (is_linked rs dir) limits name (body_at rs dir) (get rs ino) ≡ None
    → IsNamedIn rs limits dir ino name
named_in rs limits dir ino name = by_records (get rs dir) (get rs ino) refl refl where
  by_records : (o p : Option Record) → get rs dir ≡ o → get rs ino ≡ p
      → link_refused (is_linked rs dir) limits name (body_at rs dir) (get rs ino) ≡ None
      → IsNamedIn rs limits dir ino name
  by_records None p at there e = absurd (let f : link_refused (is_linked rs dir) limits name None
      (get rs ino) ≡ None = rw at at e in cc)
  by_records (Some d) None at there e = absurd
      (let f : link_refused (is_linked rs dir) limits name (Some d.body) None ≡ None =
      rw (at, there) at e in cc)
  by_records (Some d) (Some x) at there e =
      let f : link_refused (is_linked rs dir) limits name (Some d.body) (Some x) ≡ None =
      rw (at, there) at e in
      let known = by_tests (is_directory d.body) (is_directory x.body)
      (not (is_linked rs dir) || x.links == 0) (is_some (entry_named name (listed d.body)))
      (nat_le limits.links x.links) (takes_no_entry limits.entries d.body) f in
      let live = or_false (not (is_linked rs dir)) (x.links == 0) known.2 in
      let room = or_false (nat_le limits.entries (length (listed d.body)))
      (nat_le (2 ^ 64 - 1) (next_cookie d.body)) known.5 in
      record {
        d = d;
        x = x;
        at = at;
        there = there;
        directory = known.0;
        live = not_false (is_linked rs dir) live.0;
        plain = known.1;
        had_links = some_links x.links live.1;
        new = none_of (entry_named name (listed d.body)) known.3;
        few = below x.links limits.links known.4;
        room = below (next_cookie d.body) (2 ^ 64 - 1) room.1;
      }

-- a name more, where the changes of the directory and of the record may stamp times too
module _ (t : Tree) (g : IsGoodTree t) (dir ino : ℕ) (name : List ℕ)
    (w : IsNamedIn t.records t.limits dir ino name) where
  pub is_linked_in : IsLinkedIn t dir ino name w.d (joined_by name ino w.d) w.x (one_link_more w.x)
  is_linked_in = record {
    at = w.at;
    there = w.there;
    directory = w.directory;
    live = w.live;
    joined = refl;
    same_links = refl;
    plain = w.plain;
    same_body = refl;
    one_more = refl;
    had_links = w.had_links;
  }

  records_are : (with_link t dir name ino).records ≡ insert
      (insert t.records ino (one_link_more w.x)) dir (joined_by name ino w.d)
  records_are =
      ap (λ o. change (joined_by name ino) (changed one_link_more o t.records ino) dir) w.there
      ∙ ap (λ o. changed (joined_by name ino) o (insert t.records ino (one_link_more w.x)) dir)
      (mid_dir t g dir ino name w.d (joined_by name ino w.d) w.x (one_link_more w.x)
      is_linked_in)

  pub with_link_good : name_fault name ≡ None → IsGoodTree (with_link t dir name ino)
  with_link_good fine =
      let d = g.records dir w.d w.at in
      let x = g.records ino w.x w.there in
      subst (λ (rs : Records). IsGoodTree (record t { records = rs })) (sym records_are)
      (linked_in_good t g dir ino name w.d (joined_by name ino w.d) w.x (one_link_more w.x)
      is_linked_in
      (record {
        body = good_joined w.d.body name ino w.directory d.body fine w.new
            w.room;
        mode =
            d.mode;
        links = d.links;
        atime = d.atime;
        mtime = d.mtime;
        ctime = d.ctime;
      })
      (record {
        body = x.body;
        mode = x.mode;
        links =
            (let l = g.limits.3 in let few = w.few in omega arith);
        atime = x.atime;
        mtime =
            x.mtime;
        ctime = x.ctime;
      }))

  pub with_link_kept : (held : ℕ → Bool) → IsKept t.records held
      → IsKept (with_link t dir name ino).records held
  with_link_kept held k = subst (λ (rs : Records). IsKept rs held) (sym records_are)
      (linked_kept t g dir ino name w.d (joined_by name ino w.d) w.x (one_link_more w.x)
      is_linked_in held k)

  pub with_link_stored : (held : ℕ → Bool) → AreStored t.records held
      → AreStored (with_link t dir name ino).records held
  with_link_stored held s = subst (λ (rs : Records). AreStored rs held) (sym records_are)
      (linked_stored t g dir ino name w.d (joined_by name ino w.d) w.x (one_link_more w.x)
      is_linked_in held s)

pub linked_unless_good : (t : Tree) → IsGoodTree t → (dir ino : ℕ) (name : List ℕ)
    → name_fault name ≡ None → (o : Option ℕ)
    → link_refused (is_linked t.records dir) t.limits name (body_at t.records dir)
    (get t.records ino) ≡ o
    → (n : ℕ) (u : Tree) → unless_refused o ino (with_link t dir name ino) ≡ Ok (n, u)
    → IsGoodTree u
linked_unless_good t g dir ino name fine (Some e) is n u made = absurd (cc)
linked_unless_good t g dir ino name fine None is n u made =
    let both : ◌≡◌ {A = ℕ × Tree} (ino, with_link t dir name ino) (n, u) = cc in
    subst IsGoodTree (ap (λ (p : ℕ × Tree). p.1) both)
    (with_link_good t g dir ino name (named_in t.records t.limits dir ino name is) fine)

-- links tell whether a directory is linked
double : (b : Bool) → not (not b) ≡ b
double true = refl
double false = refl

pub link_refused_by_links : {rs : Records} {next : ℕ} {held : ℕ → Bool} → IsCounted rs next held
    → (limits : Limits) (dir : ℕ) (name : List ℕ) (x : Option Record)
    → link_refused (not (has_no_links (get rs dir))) limits name (body_at rs dir) x ≡ link_refused
    (is_linked rs dir) limits name (body_at rs dir) x
link_refused_by_links {rs = rs} s limits dir name x = by_record (get rs dir) refl where
  by_record : (o : Option Record) → get rs dir ≡ o
      → link_refused (not (has_no_links (get rs dir))) limits name (body_at rs dir) x ≡ link_refused
      (is_linked rs dir) limits name (body_at rs dir) x
  by_record None at = rw at refl
  by_record (Some r) at = ap (λ b. link_refused b limits name (body_at rs dir) x)
      (ap not (no_links s dir r at) ∙ double (is_linked rs dir))
