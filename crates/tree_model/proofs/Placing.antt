-- A good tree with a record more is good.
use Rattle.std.proofs.Common.{◌≡◌, ◌≢◌, ℕ, ◌+◌, ◌-◌, ◌^◌, ◌<◌, Bool, List, refl, sym, ap, subst}
use Rattle.std.proofs.Common.{Option, Some, None, Ok, arith}
use Rattle.port_base.specs.Names.{name_fault}
use Rattle.tree_model.specs.declared.attributes.Stamp.{Stamp}
use Rattle.tree_model.specs.Tree.{Tree, Record, Records}
use Rattle.tree_model.specs.Good.{IsGoodStamp, IsGoodTarget, IsGoodRecord, IsGoodTree}
use Rattle.tree_model.specs.Sound.{IsKept, AreStored}
use Rattle.tree_model.specs.Making.{joined_by, next_cookie, changed, unless_refused, create_refused}
use Rattle.tree_model.specs.Placing.{IsNew, with_record, directory_record, link_record}
use Rattle.std.specs.FinMap.{insert}
use Rattle.tree_model.proofs.Bodies.{good_joined}
use Rattle.tree_model.proofs.Adding.{IsAdded, mid_dir, added_good, added_kept, added_stored}
use Rattle.tree_model.proofs.Files.{IsLetIn, let_in}

module _ (t : Tree) (g : IsGoodTree t) (dir : ℕ) (name : List ℕ)
    (free : create_refused t dir name ≡ None) (r : Record) (new : IsNew dir r) where
  abbrev w : IsLetIn t.records t.next dir name
  w = let_in t.records t.limits.entries t.next dir name free

  is_added : IsAdded t dir name w.d (joined_by name t.next w.d) r
  is_added = record {
    at = w.at;
    directory = w.directory;
    live = w.live;
    joined = refl;
    same_links = refl;
    lists = new.lists;
    shows = new.shows;
    under = new.under;
    number = w.number;
  }

  records_are : (with_record t dir name r).records ≡ insert (insert t.records t.next r) dir
      (joined_by name t.next w.d)
  records_are = ap (λ o. changed (joined_by name t.next) o (insert t.records t.next r) dir)
      (mid_dir t g dir name w.d (joined_by name t.next w.d) r is_added)

  joined_good : name_fault name ≡ None → IsGoodRecord (joined_by name t.next w.d)
  joined_good fine = let d = g.records dir w.d w.at in
      record {
        body = good_joined w.d.body name t.next w.directory d.body fine w.new
            w.room;
        mode =
            d.mode;
        links = d.links;
        atime = d.atime;
        mtime = d.mtime;
        ctime = d.ctime;
      }

  pub with_record_good : name_fault name ≡ None → IsGoodTree (with_record t dir name r)
  with_record_good fine = subst (λ (rs : Records). IsGoodTree
      (record t { records = rs; next = t.next + 1 })) (sym records_are)
      (added_good t g dir name w.d (joined_by name t.next w.d) r is_added (joined_good fine)
      new.good)

  -- the holds that were there, and any of the new record
  module _ (held held' : ℕ → Bool) (other : (q : ℕ) → q ≢ t.next → held' q ≡ held q) where
    pub with_record_kept_more : IsKept t.records held
        → IsKept (with_record t dir name r).records held'
    with_record_kept_more k = subst (λ (rs : Records). IsKept rs held') (sym records_are)
        (added_kept t g dir name w.d (joined_by name t.next w.d) r is_added held held' other k)

    pub with_record_stored_more : AreStored t.records held
        → AreStored (with_record t dir name r).records held'
    with_record_stored_more s = subst (λ (rs : Records). AreStored rs held') (sym records_are)
        (added_stored t g dir name w.d (joined_by name t.next w.d) r is_added held held' other s)

  pub with_record_kept : (held : ℕ → Bool) → IsKept t.records held
      → IsKept (with_record t dir name r).records held
  with_record_kept held = with_record_kept_more held held (λ q ne. refl)

  pub with_record_stored : (held : ℕ → Bool) → AreStored t.records held
      → AreStored (with_record t dir name r).records held
  with_record_stored held = with_record_stored_more held held (λ q ne. refl)

  -- room for one more cookie
  pub cookie_fits : next_cookie w.d.body < 2 ^ 64 - 1
  cookie_fits = w.room

-- ---- what is added

pub new_directory : (born : Stamp) (mode uid gid dir : ℕ) → IsGoodStamp born → mode < 4096
    → IsNew dir (directory_record born mode uid gid dir)
new_directory born mode uid gid dir stamp low = record {
  good = record {
    body = (
      omega arith,
      λ k d low. absurd (omega arith),
      λ i j d less low. absurd
          (omega arith),
      omega arith,
    );
    mode = low;
    links = omega arith;
    atime = stamp;
    mtime = stamp;
    ctime =
        stamp;
  };
  lists = refl;
  shows = refl;
  under = λ es next up is. let same : dir ≡ up = cc in sym same;
}

pub new_link : (born : Stamp) (uid gid dir : ℕ) (target : List ℕ) → IsGoodStamp born
    → IsGoodTarget target → IsNew dir (link_record born uid gid target)
new_link born uid gid dir target stamp good = record {
  good = record {
    body = good;
    mode = omega arith;
    links = omega arith;
    atime = stamp;
    mtime =
        stamp;
    ctime = stamp;
  };
  lists = refl;
  shows = refl;
  under = λ es next up is. absurd (cc);
}

-- ---- laws

pub placed_good : (t : Tree) → IsGoodTree t → (dir : ℕ) (name : List ℕ) (r : Record) → IsNew dir r
    → name_fault name ≡ None → (o : Option ℕ) → create_refused t dir name ≡ o
    → (ino : ℕ) (u : Tree) → unless_refused o t.next (with_record t dir name r) ≡ Ok (ino, u)
    → IsGoodTree u
placed_good t g dir name r new fine (Some e) is ino u made = absurd (cc)
placed_good t g dir name r new fine None is ino u made =
    let both : ◌≡◌ {A = ℕ × Tree} (t.next, with_record t dir name r) (ino, u) = cc in
    subst IsGoodTree (ap (λ (p : ℕ × Tree). p.1) both) (with_record_good t g dir name is r new fine)
