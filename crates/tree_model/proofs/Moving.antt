-- A good tree in which an entry moves is good.
use Rattle.std.proofs.Common.{◌≡◌, ◌≢◌, ℕ, zero, suc, ◌+◌, ◌-◌, ◌^◌, ◌<◌, ◌≤◌, Bool, true, false}
use Rattle.std.proofs.Common.{cond, ◌||◌, List, [], ◌∷◌, ◌++◌, length, refl, sym, ap, ◌∙◌, subst}
use Rattle.std.proofs.Common.{Option, Some}
use Rattle.std.proofs.Common.{None, inl, inr, ⊎_elim, arith, IsSome, IsTrue, nat_lt}
use Rattle.std.proofs.Common.{get_or}
use Rattle.std.specs.Prelude.{◌==◌, option_map, IfSome, Contains}
use Rattle.std.proofs.Math.Logic.{∥∥₁_map, ∥∥₁_elim}
use Rattle.std.proofs.Props.{props}
use Rattle.std.proofs.lemmas.Bool.{cases_eq, false≢true}
use Rattle.std.proofs.lemmas.Bool.Decides.{nat_tests}
use Rattle.std.proofs.lemmas.List.Elements.{Contains-append_cases}
use Rattle.std.specs.FinMap.{get}
use Rattle.tree_model.specs.Tree.{Tree, Record, Records, DirEntry, TOP, body_at, listed}
use Rattle.tree_model.specs.Tree.{is_directory, is_directory_at, name_count, names_in, is_linked}
use Rattle.tree_model.specs.Tree.{count_names}
use Rattle.tree_model.specs.Tree.Body.{Directory}
use Rattle.tree_model.specs.Good.{IsAt, IsGoodRecord, IsGoodTree, Climbs, links_of}
use Rattle.tree_model.specs.Sound.{IsKept, IsKeptBut, AreStored}
use Rattle.tree_model.specs.Finding.{entry_named}
use Rattle.tree_model.specs.Making.{change, joined_by, next_cookie}
use Rattle.tree_model.specs.Creating.{stamped}
use Rattle.tree_model.specs.Unlinking.{without, parted_by}
use Rattle.tree_model.specs.Renaming.{above_at, climbs_past, moved_below, with_moved}
use Rattle.tree_model.proofs.Changing.{change_at}
use Rattle.tree_model.proofs.Naming.{names_in-le, named_is_stored, top_is_unnamed}
use Rattle.tree_model.proofs.Bodies.{shows_links, with_entries-is_directory, with_entries-listed}
use Rattle.tree_model.proofs.Bodies.{with_entries-above, with_entries-next, same_some, good_joined}
use Rattle.tree_model.proofs.Adding.{count_names-push}
use Rattle.tree_model.proofs.Parting.{good_parted, without-Contains, count_names-without}
use Rattle.tree_model.proofs.Moves.{IsMove, above_is, if_there, other_entries, placed-is_directory}
use Rattle.tree_model.proofs.Moves.{placed-listed, placed-shows, placed-good, placed-above}
use Rattle.tree_model.proofs.Moves.{without-none, is_made}
use Rattle.tree_model.proofs.Kin.{change_from, change_to, change_counts, same_counts, all_good}
use Rattle.tree_model.proofs.Kin.{IsKin, same_kin, kin_trans, step_kin}

-- ---- the move

module _ (t : Tree) (g : IsGoodTree t) (olddir : ℕ) (oldname : List ℕ) (newdir : ℕ)
    (newname : List ℕ) (ino : ℕ) (w : IsMove t olddir oldname newdir newname ino) where
  abbrev pub rs : Records
  rs = t.records

  abbrev d : Record
  d = w.old.d

  abbrev parts : Record → Record
  parts = parted_by oldname t.moment

  abbrev joins : Record → Record
  joins = joined_by newname ino

  abbrev parted : Records
  parted = change parts rs olddir

  abbrev joined : Records
  joined = change joins parted newdir

  abbrev stamps : Records
  stamps = change (stamped t.moment) joined newdir

  abbrev pub made : Records
  made = change (moved_below t.moment newdir) stamps ino

  abbrev Kin : ℕ → Record → Record → Type 0
  Kin = IsKin olddir newdir ino

  -- ---- the old entry goes

  fewer : (q : ℕ) → names_in q (parts d) + cond {A = ℕ} (w.old.e.ino == q) 1 0 ≡ names_in q d
  fewer q =
      ap (λ es. count_names q es + cond {A = ℕ} (w.old.e.ino == q) 1 0)
      (with_entries-listed d.body (without oldname (listed d.body)) (next_cookie d.body)
      w.old.directory)
      ∙ count_names-without q oldname (listed d.body) w.old.e w.old.goes

  not_it : (q : ℕ) → q ≢ ino → cond {A = ℕ} (w.old.e.ino == q) 1 0 ≡ 0
  not_it q ne = let is = w.old.names in grind (arith, nat_tests)

  parts_kin : (r : Record) → IsAt rs olddir r → Kin olddir r (parts r)
  parts_kin r at = subst (λ (r : Record). Kin olddir r (parts r))
      (same_some d r (sym w.old.at ∙ at)) (record {
        directory = with_entries-is_directory d.body _ _;
        links = refl;
        shows = λ n linked. sym (shows_links d.body _ _ n n linked w.old.directory);
        names = λ i ne. let less = fewer i in let none = not_it i ne in omega arith;
        entries = λ e c. inl (without-Contains oldname (listed d.body) w.old.e e w.old.goes
            (subst (λ es. Contains es e) (with_entries-listed d.body
            (without oldname (listed d.body))
            (next_cookie d.body) w.old.directory) c));
        lists = λ no nn. absurd (no refl);
        place = λ ne es n up is. with_entries-above d.body _ es _ n up is;
        stays = λ ne es n up is. (
          without oldname (listed d.body),
          next_cookie d.body,
          other_entries
              d.body es _ _ n up is,
        );
      })

  parted_from : (q : ℕ) (x : Record) → IsAt parted q x → (r : Record) × IsAt rs q r × Kin q r x
  parted_from = step_kin olddir newdir ino parts rs olddir parts_kin

  -- ---- the new directory then

  m : (x : Record) × IsAt parted newdir x
  m = change_to parts rs olddir newdir w.n w.there

  m_directory : is_directory (m.0).body ≡ true
  m_directory =
      let was = parted_from newdir m.0 m.1 in
      was.2.directory ∙ ap (λ (r : Record). is_directory r.body)
      (same_some was.0 w.n (sym was.1 ∙ w.there)) ∙ w.directory

  m_new : entry_named newname (listed (m.0).body) ≡ None
  m_new =
      let was = change_from parts rs olddir newdir m.0 m.1 in
      let same : was.0 ≡ w.n = same_some was.0 w.n (sym was.1 ∙ w.there) in
      ⊎_elim
      (λ is.
      let lists : listed (m.0).body ≡ without oldname (listed (was.0).body) =
      ap (λ (r : Record). listed r.body) is.1
      ∙ with_entries-listed (was.0).body (without oldname (listed (was.0).body))
      (next_cookie (was.0).body) (ap (λ (r : Record). is_directory r.body) same ∙ w.directory)
      in
      ap (entry_named newname) lists ∙ without-none oldname newname (listed (was.0).body)
      (ap (λ (r : Record). entry_named newname (listed r.body)) same ∙ w.new))
      (λ is. ap (λ (r : Record). entry_named newname (listed r.body)) (is.1 ∙ same) ∙ w.new)
      was.2

  m_room : next_cookie (m.0).body < 2 ^ 64 - 1
  m_room =
      let was = change_from parts rs olddir newdir m.0 m.1 in
      let same : was.0 ≡ w.n = same_some was.0 w.n (sym was.1 ∙ w.there) in
      subst (λ k. k < 2 ^ 64 - 1) (sym (⊎_elim
      (λ is.
      ap (λ (r : Record). next_cookie r.body) is.1
      ∙ with_entries-next (was.0).body (without oldname (listed (was.0).body))
      (next_cookie (was.0).body) (ap (λ (r : Record). is_directory r.body) same ∙ w.directory)
      ∙ ap (λ (r : Record). next_cookie r.body) same)
      (λ is. ap (λ (r : Record). next_cookie r.body) (is.1 ∙ same))
      was.2)) w.room

  abbrev entry : DirEntry
  entry = record { cookie = next_cookie (m.0).body; name = newname; ino = ino }

  lists_more : listed (joins m.0).body ≡ listed (m.0).body ++ entry ∷ []
  lists_more = with_entries-listed (m.0).body (listed (m.0).body ++ entry ∷ [])
      (next_cookie (m.0).body + 1) m_directory

  more_names : (q : ℕ) → names_in q (joins m.0) ≡ names_in q m.0 + cond {A = ℕ} (ino == q) 1 0
  more_names q = ap (count_names q) lists_more ∙ count_names-push q (listed (m.0).body) entry

  joins_kin : (r : Record) → IsAt parted newdir r → Kin newdir r (joins r)
  joins_kin r at = subst (λ (r : Record). Kin newdir r (joins r)) (same_some m.0 r (sym m.1 ∙ at))
      (record {
        directory = with_entries-is_directory (m.0).body _ _;
        links = refl;
        shows = λ n linked. sym (shows_links (m.0).body _ _ n n linked m_directory);
        names = λ i ne. let more = more_names i in let none : cond {A = ℕ} (ino == i) 1 0 ≡ 0 =
            grind (arith, nat_tests) in omega arith;
        entries = λ e c. ⊎_elim (λ c. inl c) (λ c. inr (by_last e c.0 c.1 c.2))
            (Contains-append_cases (listed (m.0).body) (entry ∷ []) e
            (subst (λ es. Contains es e) lists_more c));
        lists = λ no nn. absurd (nn refl);
        place = λ ne es n up is. with_entries-above (m.0).body _ es _ n up is;
        stays = λ ne es n up is. (
          listed (m.0).body ++ entry
              ∷ [],
          next_cookie (m.0).body + 1,
          other_entries (m.0).body es _ _ n up is,
        );
      }) where
        by_last : (e : DirEntry) (k : ℕ) → k < length (entry ∷ []) → get_or (entry ∷ []) k e ≡ e
            → e.ino ≡ ino
        by_last e zero low is = ap (λ (e : DirEntry). e.ino) (sym is)
        by_last e (suc k) low is = absurd (omega arith)

  joined_from : (q : ℕ) (x : Record) → IsAt joined q x → (r : Record) × IsAt parted q r × Kin q r x
  joined_from = step_kin olddir newdir ino joins parted newdir joins_kin

  stamps_from : (q : ℕ) (x : Record) → IsAt stamps q x → (r : Record) × IsAt joined q r × Kin q r x
  stamps_from = step_kin olddir newdir ino (stamped t.moment) joined newdir
      (λ r at. same_kin olddir newdir ino newdir r _ refl refl)

  settles_kin : (r : Record) → Kin ino r (moved_below t.moment newdir r)
  settles_kin r = record {
    directory = placed-is_directory newdir r.body;
    links = refl;
    shows = λ n linked. placed-shows newdir r.body n linked;
    names = λ i ne. ap (count_names i) (placed-listed newdir r.body);
    entries = λ e c. inl (subst (λ es. Contains es e) (placed-listed newdir r.body) c);
    lists = λ no nn. placed-listed newdir r.body;
    place = λ ne. absurd (ne refl);
    stays = λ ne. absurd (ne refl);
  }

  from : (q : ℕ) (x : Record) → IsAt made q x → (r : Record) × IsAt rs q r × Kin q r x
  from q x at =
      let e = step_kin olddir newdir ino (moved_below t.moment newdir) stamps ino
      (λ r at. settles_kin r) q x at in
      let s = stamps_from q e.0 e.1 in
      let j = joined_from q s.0 s.1 in
      let p = parted_from q j.0 j.1 in (
        p.0,
        p.1,
        kin_trans olddir newdir ino q p.0 j.0 x p.2
            (kin_trans olddir newdir ino q j.0 s.0 x j.2
            (kin_trans olddir newdir ino q s.0 e.0 x s.2 e.2)),
      )

  to : (q : ℕ) (r : Record) → IsAt rs q r → (x : Record) × IsAt made q x × Kin q r x
  to q r at =
      let p = change_to parts rs olddir q r at in
      let j = change_to joins parted newdir q p.0 p.1 in
      let s = change_to (stamped t.moment) joined newdir q j.0 j.1 in
      let e = change_to (moved_below t.moment newdir) stamps ino q s.0 s.1 in
      let was = from q e.0 e.1 in
      (e.0, e.1, subst (λ r. Kin q r e.0) (same_some was.0 r (sym was.1 ∙ at)) was.2)

  -- ---- counts, and what is stored

  counts : (q : ℕ) → name_count made q ≡ name_count rs q
  counts q =
      let p = change_counts parts rs olddir q d w.old.at in
      let less = fewer q in
      let j = change_counts joins parted newdir q m.0 m.1 in
      let more = more_names q in
      let s = same_counts (stamped t.moment) joined newdir q (λ r. refl) in
      let e = same_counts (moved_below t.moment newdir) stamps ino q
      (λ r. ap (count_names q) (placed-listed newdir r.body)) in
      let one = ap (λ i. cond {A = ℕ} (i == q) 1 0) w.old.names in
      omega arith

  same_linked : (q : ℕ) → is_linked made q ≡ is_linked rs q
  same_linked q = ap (λ n. (q == TOP) || nat_lt 0 n) (counts q)

  named : 0 < name_count rs ino
  named =
      let less = fewer ino in
      let is = w.old.names in
      let one : cond {A = ℕ} (w.old.e.ino == ino) 1 0 ≡ 1 = grind (arith, nat_tests) in
      let among = names_in-le rs olddir ino d w.old.at in
      omega arith

  not_top : ino ≢ TOP
  not_top is = let none = top_is_unnamed t g in let some =
      subst (λ i. 0 < name_count rs i) is named in omega arith

  stored : (q : ℕ) → IsSome (get rs q) → IsSome (get made q)
  stored q had = by_record (get rs q) refl had where
    by_record : (o : Option Record) → get rs q ≡ o → IsSome o → IsSome (get made q)
    by_record None at had = absurd (false≢true had)
    by_record (Some r) at had = subst IsSome (sym (to q r at).1) refl

  was_stored : (q : ℕ) → IsSome (get made q) → IsSome (get rs q)
  was_stored q had = by_record (get made q) refl had where
    by_record : (o : Option Record) → get made q ≡ o → IsSome o → IsSome (get rs q)
    by_record None at had = absurd (false≢true had)
    by_record (Some x) at had = subst IsSome (sym (from q x at).1) refl

  -- ---- records

  parted_good : (q : ℕ) (x : Record) → IsAt parted q x → IsGoodRecord x
  parted_good = all_good parts rs olddir g.records (λ r at.
      let good = g.records olddir d w.old.at in
      subst (λ (r : Record). IsGoodRecord (parts r)) (same_some d r (sym w.old.at ∙ at))
      (record {
        body = good_parted d.body oldname w.old.e w.old.directory good.body w.old.goes;
        mode = good.mode;
        links = good.links;
        atime = good.atime;
        mtime = g.moment;
        ctime =
            g.moment;
      }))

  joined_good : (q : ℕ) (x : Record) → IsAt joined q x → IsGoodRecord x
  joined_good = all_good joins parted newdir parted_good (λ r at.
      let good = parted_good newdir m.0 m.1 in
      subst (λ (r : Record). IsGoodRecord (joins r)) (same_some m.0 r (sym m.1 ∙ at))
      (record {
        body = good_joined (m.0).body newname ino m_directory good.body w.fine m_new m_room;
        mode =
            good.mode;
        links = good.links;
        atime = good.atime;
        mtime = good.mtime;
        ctime =
            good.ctime;
      }))

  stamps_good : (q : ℕ) (x : Record) → IsAt stamps q x → IsGoodRecord x
  stamps_good = all_good (stamped t.moment) joined newdir joined_good (λ r at.
      let good = joined_good newdir r at in
      record {
        body = good.body;
        mode = good.mode;
        links = good.links;
        atime = good.atime;
        mtime =
            g.moment;
        ctime = g.moment;
      })

  made_records : (q : ℕ) (x : Record) → IsAt made q x → IsGoodRecord x
  made_records = all_good (moved_below t.moment newdir) stamps ino stamps_good (λ r at.
      let good = stamps_good ino r at in
      record {
        body = placed-good newdir r.body good.body;
        mode = good.mode;
        links =
            good.links;
        atime = good.atime;
        mtime = good.mtime;
        ctime = g.moment;
      })

  -- ---- above

  -- what moves stands below the new directory
  moved_above : (x : Record) → IsAt made ino x → (es : List DirEntry) (n up : ℕ)
      → x.body ≡ Directory es n up → up ≡ newdir
  moved_above x at es n up is =
      let was = change_from (moved_below t.moment newdir) stamps ino ino x at in
      ⊎_elim (λ h. placed-above newdir (was.0).body es n up
      (ap (λ (r : Record). r.body) (sym h.1) ∙ is)) (λ h. absurd (h.0 refl)) was.2

  lists_it : (y : Record) → IsAt made newdir y → 1 ≤ names_in ino y
  lists_it y at =
      let e = change_from (moved_below t.moment newdir) stamps ino newdir y at in
      let at_e : names_in ino y ≡ names_in ino e.0 =
      ⊎_elim (λ h. ap (names_in ino) h.1 ∙ ap (count_names ino)
      (placed-listed newdir (e.0).body)) (λ h. ap (names_in ino) h.1) e.2 in
      let s = change_from (stamped t.moment) joined newdir newdir e.0 e.1 in
      let at_s : names_in ino e.0 ≡ names_in ino s.0 =
      ⊎_elim (λ h. ap (names_in ino) h.1) (λ h. ap (names_in ino) h.1) s.2 in
      let j : joins m.0 ≡ s.0 = same_some (joins m.0) s.0
      (sym (change_at joins parted newdir ∙ ap (option_map joins) m.1) ∙ s.1) in
      let at_j = ap (names_in ino) j in
      let more = more_names ino in
      let one : cond {A = ℕ} (ino == ino) 1 0 ≡ 1 = grind (arith, nat_tests) in
      omega arith

  still_above : (q up : ℕ) → q ≢ ino → IfSome (get rs up) (λ d. 1 ≤ names_in q d)
      → IfSome (get made up) (λ d. 1 ≤ names_in q d)
  still_above q up ne had = if_there made (λ d. 1 ≤ names_in q d) up (λ y at.
      let was = from up y at in
      let same = was.2.names q ne in
      let some : 1 ≤ names_in q was.0 = subst (λ o. IfSome o (λ d. 1 ≤ names_in q d)) was.1 had in
      omega arith)

  -- ---- climbs

  -- a climb that passes the inode is as it was
  climbs_away : (k n i : ℕ) → Climbs rs n i → climbs_past rs ino k i ≡ true → Climbs made n i
  climbs_away k zero i c past = c
  climbs_away zero (suc n) i c past = absurd (false≢true past)
  climbs_away (suc k) (suc n) i c past = ⊎_elim (λ is. inl is)
      (λ s. by_tests s (i == ino) (i == TOP) refl refl past
      (λ low. climbs_away k n s.3 s.6 low)) c where
        by_tests : (s : (r : Record) × (es : List DirEntry) × (m : ℕ) × (above : ℕ) × IsAt rs i r
            × (r.body ≡ Directory es m above) × Climbs rs n above) (b h : Bool) → (i == ino) ≡ b
            → (i == TOP) ≡ h
            → cond b false (cond h true (climbs_past rs ino k (above_at rs i))) ≡ true
            → (climbs_past rs ino k s.3 ≡ true → Climbs made n s.3) → Climbs made (suc n) i
        by_tests s true h here high past later = absurd (false≢true past)
        by_tests s false true here high past later = inl (grind (arith, nat_tests))
        by_tests s false false here high past later =
            let ne : i ≢ ino = λ is. false≢true (sym here
            ∙ (let same : (i == ino) ≡ true = grind (arith, nat_tests) in same)) in
            let x = to i s.0 s.4 in
            let stands = x.2.stays ne s.1 s.2 s.3 s.5 in
            inr (
              x.0,
              stands.0,
              stands.1,
              s.3,
              x.1,
              stands.2,
              later
                  (subst (λ up. climbs_past rs ino k up ≡ true) (above_is rs i s.0 s.1 s.2 s.3 s.4 s.5)
                  past),
            )

  -- a climb goes on from the new directory where it comes to what moves
  climbs_over : (n i : ℕ) → Climbs rs n i → (is_directory_at (body_at rs ino) ≡ true → (k : ℕ)
      × Climbs made k newdir) → (k : ℕ) × Climbs made k i
  climbs_over zero i c up = (zero, c)
  climbs_over (suc n) i c up = ⊎_elim
      (λ is. (zero, is))
      (λ s. ⊎_elim
      (λ eq.
      let moves : is_directory_at (body_at rs ino) ≡ true =
      ap (λ o. is_directory_at (option_map (λ (r : Record). r.body) o))
      (sym (ap (get rs) eq) ∙ s.4) ∙ ap is_directory s.5 in
      let high = up moves in
      let x = to i s.0 s.4 in
      let b = is_made (x.0).body (x.2.directory ∙ ap is_directory s.5) in
      let low = moved_above x.0 (sym (ap (get made) eq) ∙ x.1) b.0 b.1 b.2 b.3 in
      (suc high.0, inr (x.0, b.0, b.1, b.2, x.1, b.3, subst (Climbs made high.0) (sym low) high.1)))
      (λ ne.
      let rest = climbs_over n s.3 s.6 up in
      let x = to i s.0 s.4 in
      let stands = x.2.stays ne s.1 s.2 s.3 s.5 in
      (suc rest.0, inr (x.0, stands.0, stands.1, s.3, x.1, stands.2, rest.1)))
      (cases_eq i ino))
      c

  still_climbs : (q : ℕ) → ∥ ((n : ℕ) × Climbs rs n q) ∥₁ → ∥ ((n : ℕ) × Climbs made n q) ∥₁
  still_climbs q c = by_kind (is_directory_at (body_at rs ino)) refl where
    by_kind : (b : Bool) → is_directory_at (body_at rs ino) ≡ b → ∥ ((n : ℕ) × Climbs made n q) ∥₁
    by_kind true is = ∥∥₁_elim (g.climbs newdir w.n w.there w.directory w.live) (hlevel props)
        (λ up.
        ∥∥₁_map c (λ c. climbs_over c.0 q c.1
        (λ moves. (up.0, climbs_away w.steps up.0 newdir up.1 (w.past moves)))))
    by_kind false is = ∥∥₁_map c (λ c. climbs_over c.0 q c.1
        (λ moves. absurd (false≢true (sym is ∙ moves))))

  -- ---- the tree

  pub moved_good : IsGoodTree (with_moved t olddir oldname newdir newname ino)
  moved_good = record {
    limits = g.limits;
    moment = g.moment;
    next = g.next;
    top_is_directory = top_stays (get rs TOP) refl g.top_is_directory;
    numbers = λ q x at. g.numbers q (from q x at).0 (from q x at).1;
    records = made_records;
    entries = λ q x e at c. let was = from q x at in ⊎_elim
        (λ c. let had = g.entries q was.0 e was.1 c in (stored e.ino had.0, had.1))
        (λ is. (
          subst (λ i. IsSome (get made i)) (sym is)
              (stored ino (named_is_stored t g ino named)),
          λ high. not_top (sym is ∙ high),
        ))
        (was.2.entries e c);
    links = λ q x at. let was = from q x at in
        was.2.links ∙ g.links q was.0 was.1 ∙ ap (λ n. links_of (was.0).body n (is_linked rs q))
        (sym (counts q)) ∙ ap (links_of (was.0).body (name_count made q)) (sym (same_linked q))
        ∙ sym (was.2.shows (name_count made q) (is_linked made q));
    once = λ q x at is. let was = from q x at in let le =
        g.once q was.0 was.1 (sym was.2.directory ∙ is) in let same = counts q in omega arith;
    above = λ q x es n up at is live ne. ⊎_elim
        (λ eq.
        let low = moved_above x (sym (ap (get made) eq) ∙ at) es n up is in
        subst (λ up. IsSome (get made up)
        × IfSome (get made up) (λ d. 1 ≤ names_in q d)) (sym low) (
          stored newdir (subst IsSome (sym w.there) refl),
          subst
              (λ q. IfSome (get made newdir) (λ d. 1 ≤ names_in q d)) (sym eq)
              (if_there made (λ d. 1 ≤ names_in ino d) newdir lists_it),
        ))
        (λ nq.
        let was = from q x at in
        let b = was.2.place nq es n up is in
        let had = g.above q was.0 b.0 b.1 up was.1 b.2 (sym (same_linked q) ∙ live) ne in
        (stored up had.0, still_above q up nq had.1))
        (cases_eq q ino);
    top_above = λ x es n up at is.
        let was = from TOP x at in
        let b = was.2.place (λ top. not_top (sym top)) es n up is in
        g.top_above was.0 b.0 b.1 up was.1 b.2;
    climbs = λ q x at is live. let was = from q x at in still_climbs q
        (g.climbs q was.0 was.1 (sym was.2.directory ∙ is) (sym (same_linked q) ∙ live));
    emptied = λ q x at loose.
        let was = from q x at in
        let none = sym (same_linked q) ∙ loose in
        was.2.lists
        (λ is. some_listed (ap listed (ap (λ (r : Record). r.body)
        (same_some d was.0 (sym w.old.at ∙ sym (ap (get rs) is) ∙ was.1)))
        ∙ g.emptied q was.0 was.1 none))
        (λ is. false≢true (sym none ∙ ap (is_linked rs) is ∙ w.live))
        ∙ g.emptied q was.0 was.1 none;
  } where
    top_stays : (o : Option Record) → get rs TOP ≡ o
        → is_directory_at (option_map (λ (r : Record). r.body) o) ≡ true
        → IsTrue (is_directory_at (body_at made TOP))
    top_stays None at is = absurd (false≢true is)
    top_stays (Some r) at is =
        let x = to TOP r at in
        ap (λ o. is_directory_at (option_map (λ (r : Record). r.body) o)) x.1 ∙ x.2.directory ∙ is

    some_listed : listed d.body ≡ [] → ⊥
    some_listed none = let nothing : entry_named oldname (listed d.body) ≡ None =
        ap (entry_named oldname) none in let some = w.old.goes in cc

  pub moved_kept : (held : ℕ → Bool) → IsKept rs held → IsKept made held
  moved_kept held k q had = ap (λ b. b || held q) (same_linked q) ∙ k q (was_stored q had)

  pub moved_kept_but : (held : ℕ → Bool) (i : ℕ) → IsKeptBut rs held i → IsKeptBut made held i
  moved_kept_but held i k q ne had = ap (λ b. b || held q) (same_linked q)
      ∙ k q ne (was_stored q had)

  pub moved_stored : (held : ℕ → Bool) → AreStored rs held → AreStored made held
  moved_stored held s q h = stored q (s q h)
