-- A scan of a directory for a name in any case, in the order of cookies.
use Rattle.std.proofs.Common.{◌≡◌, ℕ, ◌+◌, ◌<◌, ◌≤◌, Bool, true, false, cond, List, [], ◌∷◌, refl}
use Rattle.std.proofs.Common.{sym, ap, ◌∙◌, subst, Option, Some, None, Result, Ok, Err, arith}
use Rattle.std.proofs.Common.{IsSome, bytes_eq, nat_lt, suc}
use Rattle.std.specs.Prelude.{All, Contains, find as first_where, is_some, option_map}
use Rattle.std.specs.Prelude.{option_and_then, ok_or, ⊤}
use Rattle.std.proofs.lemmas.Bool.{false≢true}
use Rattle.std.proofs.lemmas.List.Elements.{All-contains}
use Rattle.std.proofs.lemmas.Bool.Decides.{nat_tests}
use Rattle.std.proofs.lemmas.Slice.Eq.{bytes_eq-Decides}
use Rattle.std.specs.FinMap.{get}
use Rattle.port_base.specs.Names.{name_fault}
use Rattle.port_base.specs.declared.errno.TheConstants.{ENOENT}
use Rattle.tree_model.specs.Tree.{Tree, Record, Body, DirEntry, listed}
use Rattle.tree_model.specs.Tree.Body.{File, Directory, Link}
use Rattle.tree_model.specs.Good.{IsAt, IsGoodTree, IsGoodBody, CookiesRise}
use Rattle.tree_model.specs.Finding.{entry_named, entry_folded, entries_of, entries_at}
use Rattle.tree_model.specs.Finding.{ino_among, ino_or_missing, find, lookup_of, same_folded}
use Rattle.tree_model.specs.Finding.{folded_name_among, folded_name_of}
use Rattle.tree_model.specs.Reading.{Entry, entry_above, shown_entry, entry_after_among}
use Rattle.tree_model.specs.Reading.{entry_after_of}
use Rattle.tree_model.specs.Attributes.{attr_of}

-- what is found is an element
found_is_in : (p : DirEntry → Bool) (es : List DirEntry) (e : DirEntry) → first_where p es ≡ Some e
    → Contains es e
found_is_in p [] e is = absurd (cc)
found_is_in p (f ∷ es) e is = by_test (found_is_in p es e) (p f) is where
  by_test : (first_where p es ≡ Some e → Contains es e) → (b : Bool)
      → cond b (Some f) (first_where p es) ≡ Some e → Contains (f ∷ es) e
  by_test later true is = let here : f ≡ e = cc in (0, (omega arith), here)
  by_test later false is =
      let rest = later is in
      (suc rest.0, (let below = rest.1 in omega arith), rest.2)

-- no entry up to a cookie has the name in any case
abbrev pub NoneUpTo : ℕ → List ℕ → List DirEntry → Type 0
NoneUpTo cookie name [] = ⊤
NoneUpTo cookie name (e ∷ es) =
    (e.cookie ≤ cookie → same_folded e.name name ≡ false) × NoneUpTo cookie name es

none_below : (cookie : ℕ) (name : List ℕ) (es : List DirEntry) (from end : ℕ)
    → CookiesRise from es end → cookie < from → NoneUpTo cookie name es
none_below cookie name [] from end rise below = tt
none_below cookie name (e ∷ es) from end rise below = (
  λ le. absurd (let first = rise.0 in omega arith),
  none_below cookie name es (e.cookie + 1) end rise.1 (let first = rise.0 in omega arith),
)

above_test : (a b : ℕ) → nat_lt a b ≡ true → a < b
above_test a b is = grind (arith, nat_tests)

upto_test : (a b : ℕ) → nat_lt a b ≡ false → b ≤ a
upto_test a b is = grind (arith, nat_tests)

-- the first entry above a cookie that none up to has is the first of all
found_above : (cookie : ℕ) (name : List ℕ) (es : List DirEntry) (e : DirEntry)
    → NoneUpTo cookie name es → entry_above cookie es ≡ Some e → same_folded e.name name ≡ true
    → entry_folded name es ≡ Some e
found_above cookie name [] e none is same = absurd (cc)
found_above cookie name (f ∷ es) e none is same =
    by_test (λ is. found_above cookie name es e none.1 is same) (nat_lt cookie f.cookie) refl
    is where
      by_test : (entry_above cookie es ≡ Some e → entry_folded name es ≡ Some e) → (b : Bool)
          → nat_lt cookie f.cookie ≡ b
          → cond b (Some f) (entry_above cookie es) ≡ Some e → entry_folded name (f ∷ es) ≡ Some e
      by_test later true above is =
          let here : f ≡ e = cc in
          let this : same_folded f.name name ≡ true =
          subst (λ (d : DirEntry). same_folded d.name name ≡ true) (sym here) same in
          ap (λ (b : Bool). cond b (Some f) (entry_folded name es)) this ∙ ap Some here
      by_test later false above is =
          ap (λ (b : Bool). cond b (Some f) (entry_folded name es))
          (none.0 (upto_test cookie f.cookie above))
          ∙ later is

-- an entry above that doesn't have the name is passed
passed_above : (cookie : ℕ) (name : List ℕ) (es : List DirEntry) (e : DirEntry) (from end : ℕ)
    → CookiesRise from es end → NoneUpTo cookie name es → entry_above cookie es ≡ Some e
    → same_folded e.name name ≡ false → (cookie < e.cookie) × NoneUpTo e.cookie name es
passed_above cookie name [] e from end rise none is other = absurd (cc)
passed_above cookie name (f ∷ es) e from end rise none is other =
    by_test (λ is. passed_above cookie name es e (f.cookie + 1) end rise.1 none.1 is other)
    (nat_lt cookie f.cookie) refl is where
      by_test :
          (entry_above cookie es ≡ Some e → (cookie < e.cookie) × NoneUpTo e.cookie name es)
          → (b : Bool) → nat_lt cookie f.cookie ≡ b
          → cond b (Some f) (entry_above cookie es) ≡ Some e
          → (cookie < e.cookie) × NoneUpTo e.cookie name (f ∷ es)
      by_test later true above is =
          let here : f ≡ e = cc in
          subst (λ (d : DirEntry). (cookie < d.cookie) × NoneUpTo d.cookie name (f ∷ es)) here (
            above_test cookie f.cookie above,
            (
              (λ le. subst (λ (d : DirEntry). same_folded d.name name ≡ false) (sym here) other),
              none_below f.cookie name es (f.cookie + 1) end rise.1 (omega arith),
            ),
          )
      by_test later false above is =
          let rest = later is in
          (rest.0, ((λ le. none.0 (upto_test cookie f.cookie above)), rest.1))

-- where none is above, none has the name
none_above : (cookie : ℕ) (name : List ℕ) (es : List DirEntry) → NoneUpTo cookie name es
    → entry_above cookie es ≡ None → entry_folded name es ≡ None
none_above cookie name [] none is = refl
none_above cookie name (f ∷ es) none is =
    by_test (none_above cookie name es none.1) (nat_lt cookie f.cookie) refl is where
      by_test : (entry_above cookie es ≡ None → entry_folded name es ≡ None) → (b : Bool)
          → nat_lt cookie f.cookie ≡ b
          → cond b (Some f) (entry_above cookie es) ≡ None → entry_folded name (f ∷ es) ≡ None
      by_test later true above is = absurd (cc)
      by_test later false above is =
          ap (λ (b : Bool). cond b (Some f) (entry_folded name es))
          (none.0 (upto_test cookie f.cookie above))
          ∙ later is

-- ---- the exact name of the entry that is found

module _ (name : List ℕ) where
  found_same : (es : List DirEntry) (e : DirEntry) → entry_folded name es ≡ Some e
      → same_folded e.name name ≡ true
  found_same [] e is = absurd (cc)
  found_same (f ∷ es) e is = by_test (found_same es e) (same_folded f.name name) refl is where
    by_test : (entry_folded name es ≡ Some e → same_folded e.name name ≡ true) → (b : Bool)
        → same_folded f.name name ≡ b
        → cond b (Some f) (entry_folded name es) ≡ Some e → same_folded e.name name ≡ true
    by_test later true same is =
        let here : f ≡ e = cc in
        subst (λ (d : DirEntry). same_folded d.name name ≡ true) here same
    by_test later false other is = later is

  -- no entry before it has its exact name
  found_named : (es : List DirEntry) (e : DirEntry) → entry_folded name es ≡ Some e
      → entry_named e.name es ≡ Some e
  found_named [] e is = absurd (cc)
  found_named (f ∷ es) e is =
      by_test (found_named es e) (found_same es e) (same_folded f.name name) refl is where
        by_exact : same_folded f.name name ≡ false → entry_named e.name es ≡ Some e
            → same_folded e.name name ≡ true → (b : Bool) → bytes_eq f.name e.name ≡ b
            → cond b (Some f) (entry_named e.name es) ≡ Some e
        by_exact other later same true exact =
            let alike = (bytes_eq-Decides f.name e.name).0 exact in
            absurd (let yes = ap (λ (n : List ℕ). same_folded n name) alike ∙ same in cc)
        by_exact other later same false exact = later

        by_test : (entry_folded name es ≡ Some e → entry_named e.name es ≡ Some e)
            → (entry_folded name es ≡ Some e → same_folded e.name name ≡ true) → (b : Bool)
            → same_folded f.name name ≡ b → cond b (Some f) (entry_folded name es) ≡ Some e
            → cond (bytes_eq f.name e.name) (Some f) (entry_named e.name es) ≡ Some e
        by_test later alike true same is =
            let here : f ≡ e = cc in
            ap (λ (b : Bool). cond b (Some f) (entry_named e.name es))
            ((bytes_eq-Decides f.name e.name).1 (ap (λ (d : DirEntry). d.name) here))
            ∙ ap Some here
        by_test later alike false other is =
            by_exact other (later is) (alike is) (bytes_eq f.name e.name) refl

exact_none : (o : Option DirEntry) → ino_or_missing (cond (is_some o) o None) ≡ Err ENOENT
    → o ≡ None
exact_none None is = refl
exact_none (Some e) is = absurd (cc)

-- ---- in a tree

abbrev PassedIn : ℕ → List ℕ → Option (List DirEntry) → Type 0
PassedIn cookie name None = ⊤
PassedIn cookie name (Some es) = NoneUpTo cookie name es

-- a scan has come to a cookie: no entry up to it has the name in any case
pub record HasPassed (t : Tree) (dir : ℕ) (name : List ℕ) (cookie : ℕ) : Type 0 where
  pub passed : PassedIn cookie name (entries_at t.records dir)

-- what a good tree says of the entries of a directory
record Listed (t : Tree) (es : List DirEntry) : Type 0 where
  next : ℕ
  rise : CookiesRise 1 es next
  named : All (λ e. name_fault e.name ≡ None) es
  stored : (e : DirEntry) → Contains es e → IsSome (get t.records e.ino)

listed_in : (t : Tree) → IsGoodTree t → (dir : ℕ) (es : List DirEntry)
    → entries_at t.records dir ≡ Some es → Listed t es
listed_in t good dir es is = by_record (get t.records dir) refl is where
  by_body : (r : Record) → IsAt t.records dir r → (b : Body) → r.body ≡ b
      → entries_of b ≡ Some es → Listed t es
  by_body r at (File bytes) body is = absurd (cc)
  by_body r at (Link target) body is = absurd (cc)
  by_body r at (Directory fs next above) body is =
      let same : fs ≡ es = cc in
      let well = subst (λ (b : Body). IsGoodBody b) body (good.records dir r at).body in
      let all = subst (λ (b : Body). (e : DirEntry) → Contains (listed b) e
      → IsSome (get t.records e.ino)) body (λ e has. (good.entries dir r e at has).0) in
      record {
        next = next;
        rise = subst (λ (l : List DirEntry). CookiesRise 1 l next) same well.0;
        named = subst (λ (l : List DirEntry). All (λ e. name_fault e.name ≡ None) l) same well.1;
        stored = subst (λ (l : List DirEntry). (e : DirEntry) → Contains l e
            → IsSome (get t.records e.ino)) same all;
      }

  by_record : (o : Option Record) → get t.records dir ≡ o
      → option_and_then entries_of (option_map (λ (r : Record). r.body) o) ≡ Some es
      → Listed t es
  by_record None at is = absurd (cc)
  by_record (Some r) at is = by_body r at r.body refl is

module _ (t : Tree) (good : IsGoodTree t) (dir : ℕ) (name : List ℕ) where
  starts_in : (o : Option (List DirEntry)) → entries_at t.records dir ≡ o → PassedIn 0 name o
  starts_in None is = tt
  starts_in (Some es) is = let l = listed_in t good dir es is in
      none_below 0 name es 1 l.next l.rise (omega arith)

  -- no entry has the cookie 0
  pub scan_starts : HasPassed t dir name 0
  scan_starts = record { passed = starts_in (entries_at t.records dir) refl }

  passed_in : (es : List DirEntry) (cookie : ℕ) → entries_at t.records dir ≡ Some es
      → HasPassed t dir name cookie → NoneUpTo cookie name es
  passed_in es cookie is p = subst (PassedIn cookie name) is p.passed

  -- an entry that is told is one of the directory's
  record IsEntry (cookie : ℕ) (a : Entry) : Type 0 where
    es : List DirEntry
    e : DirEntry
    is : entries_at t.records dir ≡ Some es
    above : entry_above cookie es ≡ Some e
    number : e.cookie ≡ a.cookie
    text : e.name ≡ a.name

  entry_told : (cookie : ℕ) (a : Entry) → entry_after_of t dir cookie ≡ Ok (Some a)
      → IsEntry cookie a
  entry_told cookie a = by_entries (entries_at t.records dir) refl where
    by_record : (es : List DirEntry) → entries_at t.records dir ≡ Some es → (e : DirEntry)
        → entry_above cookie es ≡ Some e → (r : Option Record)
        → ◌≡◌ {A = Result (Option Entry) ℕ}
        (Ok (option_map (λ (r : Record). record {
          cookie = e.cookie;
          name = e.name;
          attr = attr_of e.ino r;
        }) r)) (Ok (Some a))
        → IsEntry cookie a
    by_record es at e above None told = absurd (cc)
    by_record es at e above (Some r) told =
        let same : record { cookie = e.cookie; name = e.name; attr = attr_of e.ino r } ≡ a = cc in
        record {
          es = es;
          e = e;
          is = at;
          above = above;
          number = ap (λ (x : Entry). x.cookie) same;
          text = ap (λ (x : Entry). x.name) same;
        }

    by_entry : (es : List DirEntry) → entries_at t.records dir ≡ Some es → (o : Option DirEntry)
        → entry_above cookie es ≡ o
        → ◌≡◌ {A = Result (Option Entry) ℕ} (Ok (option_and_then (shown_entry t.records) o))
        (Ok (Some a)) → IsEntry cookie a
    by_entry es at None above told = absurd (cc)
    by_entry es at (Some e) above told = by_record es at e above (get t.records e.ino) told

    by_entries : (o : Option (List DirEntry)) → entries_at t.records dir ≡ o
        → entry_after_among t.records cookie o ≡ Ok (Some a) → IsEntry cookie a
    by_entries None at told = absurd (cc)
    by_entries (Some es) at told = by_entry es at (entry_above cookie es) refl told

  -- an entry of another name is passed
  pub scan_passes : (cookie : ℕ) (a : Entry) → entry_after_of t dir cookie ≡ Ok (Some a)
      → HasPassed t dir name cookie → same_folded a.name name ≡ false
      → (cookie < a.cookie) × HasPassed t dir name a.cookie
  scan_passes cookie a told p other =
      let i = entry_told cookie a told in
      let l = listed_in t good dir i.es i.is in
      let past = passed_above cookie name i.es i.e 1 l.next l.rise (passed_in i.es cookie i.is p)
      i.above (ap (λ (n : List ℕ). same_folded n name) i.text ∙ other) in (
        subst (λ n. cookie < n) i.number past.0,
        record {
          passed = subst (PassedIn a.cookie name) (sym i.is)
              (subst (λ n. NoneUpTo n name i.es) i.number past.1);
        },
      )

  -- an entry of the name, in any case, is the first
  pub scan_finds : (cookie : ℕ) (a : Entry) → entry_after_of t dir cookie ≡ Ok (Some a)
      → HasPassed t dir name cookie → same_folded a.name name ≡ true
      → folded_name_of t dir name ≡ Ok a.name
  scan_finds cookie a told p same =
      let i = entry_told cookie a told in
      let found = found_above cookie name i.es i.e (passed_in i.es cookie i.is p) i.above
      (ap (λ (n : List ℕ). same_folded n name) i.text ∙ same) in
      ap (folded_name_among name) i.is
      ∙ ap (λ (o : Option DirEntry). ok_or (option_map (λ (e : DirEntry). e.name) o) ENOENT) found
      ∙ ap Ok i.text

  -- where no entry is left, none has the name
  pub scan_ends : (cookie : ℕ) → entry_after_of t dir cookie ≡ Ok None → HasPassed t dir name cookie
      → folded_name_of t dir name ≡ Err ENOENT
  scan_ends cookie told p = by_entries (entries_at t.records dir) refl told where
    by_record : (o : Option Record) → IsSome o → (e : DirEntry)
        → ◌≡◌ {A = Result (Option Entry) ℕ}
        (Ok (option_map (λ (r : Record). record {
          cookie = e.cookie;
          name = e.name;
          attr = attr_of e.ino r;
        }) o)) (Ok None) → ⊥
    by_record None there e is = false≢true there
    by_record (Some r) there e is = cc

    by_entry : (es : List DirEntry) → entries_at t.records dir ≡ Some es → (o : Option DirEntry)
        → entry_above cookie es ≡ o
        → ◌≡◌ {A = Result (Option Entry) ℕ} (Ok (option_and_then (shown_entry t.records) o))
        (Ok None) → folded_name_of t dir name ≡ Err ENOENT
    by_entry es at None above is =
        ap (folded_name_among name) at
        ∙ ap (λ (o : Option DirEntry). ok_or (option_map (λ (e : DirEntry). e.name) o) ENOENT)
        (none_above cookie name es (passed_in es cookie at p) above)
    by_entry es at (Some e) above is =
        let there = (listed_in t good dir es at).stored e
        (found_is_in (λ e. nat_lt cookie e.cookie) es e above) in
        absurd (by_record (get t.records e.ino) there e is)

    by_entries : (o : Option (List DirEntry)) → entries_at t.records dir ≡ o
        → entry_after_among t.records cookie o ≡ Ok None → folded_name_of t dir name ≡ Err ENOENT
    by_entries None at is = absurd (cc)
    by_entries (Some es) at is = by_entry es at (entry_above cookie es) refl is

  -- a name that is found has no fault
  fault_in : (o : Option (List DirEntry)) → entries_at t.records dir ≡ o → (n : List ℕ)
      → folded_name_among name o ≡ Ok n → name_fault n ≡ None
  fault_in None at n is = absurd (cc)
  fault_in (Some es) at n is = by_entry (entry_folded name es) refl is where
    by_entry : (o : Option DirEntry) → entry_folded name es ≡ o
        → ok_or (option_map (λ (e : DirEntry). e.name) o) ENOENT ≡ Ok n → name_fault n ≡ None
    by_entry None found is = absurd (cc)
    by_entry (Some e) found is =
        let same : e.name ≡ n = cc in
        subst (λ (n : List ℕ). name_fault n ≡ None) same
        (All-contains (λ e. name_fault e.name ≡ None) es e (listed_in t good dir es at).named
        (found_is_in (λ e. same_folded e.name name) es e found))

  pub folded_name_good : (n : List ℕ) → folded_name_of t dir name ≡ Ok n → name_fault n ≡ None
  folded_name_good n is = fault_in (entries_at t.records dir) refl n is

-- where the exact name is missing, the name that differs in case alone is looked up
found_in : (name : List ℕ) (o : Option (List DirEntry)) → ino_among false name o ≡ Err ENOENT
    → (n : List ℕ) → folded_name_among name o ≡ Ok n → ino_among true name o ≡ ino_among false n o
found_in name None missing n is = absurd (cc)
found_in name (Some es) missing n is = by_entry (entry_folded name es) refl is where
  by_entry : (o : Option DirEntry) → entry_folded name es ≡ o
      → ok_or (option_map (λ (e : DirEntry). e.name) o) ENOENT ≡ Ok n
      → ino_among true name (Some es) ≡ ino_among false n (Some es)
  by_entry None found is = absurd (cc)
  by_entry (Some e) found is =
      let none = exact_none (entry_named name es) missing in
      let same : e.name ≡ n = cc in
      let exact = found_named name es e found in
      subst (λ (n : List ℕ). ino_among true name (Some es) ≡ ino_among false n (Some es)) same
      (ap (λ (o : Option DirEntry). ino_or_missing (cond (is_some o) o
      (entry_folded name es))) none ∙ ap ino_or_missing found
      ∙ sym (ap (λ (o : Option DirEntry). ino_or_missing (cond (is_some o) o None)) exact))

pub find-folded : (t : Tree) (dir : ℕ) (name : List ℕ) → lookup_of t dir name ≡ Err ENOENT
    → (n : List ℕ) → folded_name_of t dir name ≡ Ok n → find true t dir name ≡ lookup_of t dir n
find-folded t dir name missing n is = found_in name (entries_at t.records dir) missing n is
