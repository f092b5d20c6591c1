-- The steps of a walk over a good tree: what is left to be written, and what a record's lines are.
use Rattle.std.proofs.Common.{◌≡◌, ℕ, suc, ◌+◌, ◌<◌, Bool, true, false, cond, not, List, [], ◌∷◌}
use Rattle.std.proofs.Common.{◌++◌, length, refl, sym, ap, ◌∙◌, subst, Option, Some, None, Ok}
use Rattle.std.proofs.Common.{arith, lit<, ◌==◌, eqb-true}
use Rattle.std.specs.Prelude.{filter, option_map, option_and_then, unwrap_or, IsTrue}
use Rattle.std.specs.List.{flat_map}
use Rattle.std.specs.FinMap as map
use Rattle.std.proofs.lemmas.Bool.{false≢true}
use Rattle.port_base.specs.Tables.{next_after}
use Rattle.tree_model.specs.declared.attributes.Attr.{Attr}
use Rattle.tree_model.specs.declared.attributes.Kind.TheVariants as kind
use Rattle.tree_model.specs.Tree.{Tree, Record, Body, DirEntry, body_at, is_directory}
use Rattle.tree_model.specs.Tree.{is_directory_at, is_linked, linked}
use Rattle.tree_model.specs.Tree.Body.{File, Directory, Link}
use Rattle.tree_model.specs.Good.{IsGoodTree, IsGoodBody, CookiesRise}
use Rattle.tree_model.specs.Finding.{entries_of, entries_at}
use Rattle.tree_model.specs.Making.{next_cookie}
use Rattle.tree_model.specs.Attributes.{attr_of, attr_or_missing, kind_of, size_of}
use Rattle.tree_model.specs.Reading.{record_after_of, peek_entry_of, entry_above, above as up_of}
use Rattle.tree_model.specs.Reading.{bytes_of, bytes_at, is_file_at}
use Rattle.tree_model.specs.Opening.{is_link_at, target_of, target_at}
use Rattle.tree_model.specs.Sound.{has_no_links}
use Rattle.tree_model.proofs.Sweeping.{no_links}
use Rattle.tree_model.proofs.Files.{good_is_counted}
use Rattle.mount9_run.specs.ReportLines.{directory_line, entry_line, file_line, link_line}
use Rattle.mount9_run.specs.Report.{entries_text, record_text, records_text, body_text}
use Rattle.mount9_run.specs.Walking.{entries_in, directory_text, stored_text, linked_text, IsStored}
use Rattle.mount9_run.proofs.Rising.{Rises, above, above-all, above-next, above-none, number}
use Rattle.mount9_run.proofs.Rising.{entries-rise, get-first, entries-retain_keys}

-- ---- the entries of a directory

abbrev pub cookie : DirEntry → ℕ
cookie e = e.cookie

cookies_rise : (from : ℕ) (es : List DirEntry) (end : ℕ) → CookiesRise from es end
    → Rises cookie from es
cookies_rise from [] end h = tt
cookies_rise from (e ∷ es) end h = (h.0, cookies_rise (e.cookie + 1) es end h.1)

body_rises : (b : Body) → IsGoodBody b → Rises cookie 1 (unwrap_or (entries_of b) [])
body_rises (File bytes) h = tt
body_rises (Directory es next up) h = cookies_rise 1 es next h.0
body_rises (Link target) h = tt

rises_at : (t : Tree) → IsGoodTree t → (dir : ℕ) (o : Option Record) → map.get t.records dir ≡ o
    → Rises cookie 1 (unwrap_or (option_and_then entries_of (option_map (λ (r : Record). r.body) o))
    [])
rises_at t good dir None e = tt
rises_at t good dir (Some r) e = body_rises r.body (good.records dir r e).body

peeked : (k : ℕ) (o : Option (List DirEntry))
    → option_and_then (entry_above k) o ≡ entry_above k (unwrap_or o [])
peeked k None = refl
peeked k (Some es) = refl

module _ (t : Tree) (good : IsGoodTree t) (dir : ℕ) where
  entries_in-rise : Rises cookie 1 (entries_in t dir)
  entries_in-rise = rises_at t good dir (map.get t.records dir) refl

  pub entries-start : entries_text dir (entries_in t dir) ≡ entries_text dir
      (above cookie 0 (entries_in t dir))
  entries-start = sym (ap (entries_text dir) (above-all cookie 0 1 (entries_in t dir)
      entries_in-rise (lit< tt)))

  module _ (k : ℕ) (e : DirEntry) (is : Some e ≡ peek_entry_of t dir k) where
    entries-next : above cookie k (entries_in t dir) ≡ e ∷ above cookie e.cookie (entries_in t dir)
    entries-next = (above-next cookie k 1 (entries_in t dir) e entries_in-rise
        (sym (peeked k (entries_at t.records dir)) ∙ sym is)).0

    pub entries-step : entries_text dir (above cookie k (entries_in t dir)) ≡ entry_line dir
        e.cookie e.ino e.name ++ entries_text dir (above cookie e.cookie (entries_in t dir))
    unfolding entries_text
    entries-step = ap (λ (es : List DirEntry). flat_map
        (λ (e : DirEntry). entry_line dir e.cookie e.ino e.name) es) entries-next

    pub entries-fewer : length (above cookie e.cookie (entries_in t dir)) < length
        (above cookie k (entries_in t dir))
    entries-fewer = let longer : length (above cookie k (entries_in t dir)) ≡ suc
        (length (above cookie e.cookie (entries_in t dir))) = ap length entries-next in omega arith

  pub entries-end : (k : ℕ) → None ≡ peek_entry_of t dir k
      → entries_text dir (above cookie k (entries_in t dir)) ≡ []
  unfolding entries_text
  entries-end k is = ap (λ (es : List DirEntry). flat_map
      (λ (e : DirEntry). entry_line dir e.cookie e.ino e.name) es)
      (above-none cookie k (entries_in t dir) (sym (peeked k (entries_at t.records dir)) ∙ sym is))

-- ---- the records of a tree

-- the records above a number
abbrev pub left_above : Tree → ℕ → List (ℕ × Record)
left_above t k = above number k (map.entries t.records)

-- the lines of those that are linked
abbrev pub left_text : Tree → ℕ → List ℕ
left_text t k = records_text (filter (λ (e : ℕ × Record). is_linked t.records e.0) (left_above t k))

-- what is told of the first record above a number
record Next (t : Tree) (k : ℕ) (a : Attr) : Type 0 where
  stored : Record
  at : map.get t.records a.ino ≡ Some stored
  told : attr_of a.ino stored ≡ a
  step : left_above t k ≡ (a.ino, stored) ∷ left_above t a.ino

by_linked : (b : Bool) (i : ℕ) (r : Record) (es : List (ℕ × Record))
    → records_text (cond b ((i, r) ∷ es) es) ≡ cond b (record_text i r) [] ++ records_text es
unfolding records_text
by_linked true i r es = refl
by_linked false i r es = refl

none_by : (o : Option (ℕ × Record)) → ◌≡◌ {A = Option Attr} None
    (option_map (λ (e : ℕ × Record). attr_of e.0 e.1) o) → o ≡ None
none_by None h = refl
none_by (Some e) h = absurd (cc)

module _ (t : Tree) (good : IsGoodTree t) where
  numbers_rise : Rises number 1 (map.entries t.records)
  numbers_rise = entries-rise t.records (λ i r at. (good.numbers i r at).0)

  next_by : (k : ℕ) (a : Attr) (o : Option (ℕ × Record)) → next_after k t.records ≡ o
      → Some a ≡ option_map (λ (e : ℕ × Record). attr_of e.0 e.1) o → Next t k a
  next_by k a None found is = absurd (cc)
  next_by k a (Some e) found is =
      let same : attr_of e.0 e.1 ≡ a = cc in
      subst (Next t k) same (record {
        stored = e.1;
        at =
            get-first t.records numbers_rise k e found;
        told = refl;
        step =
            (above-next number k 1 (map.entries t.records) e numbers_rise found).0;
      })

  pub records-start : records_text (map.entries (linked t).records) ≡ left_text t 0
  records-start =
      ap records_text (entries-retain_keys t.records (is_linked t.records))
      ∙ sym (ap (λ (es : List (ℕ × Record)). records_text
      (filter (λ (e : ℕ × Record). is_linked t.records e.0) es))
      (above-all number 0 1 (map.entries t.records) numbers_rise (lit< tt)))

  module _ (k : ℕ) (a : Attr) (is : Some a ≡ record_after_of t k) where
    next : Next t k a
    next = next_by k a (next_after k t.records) refl is

    pub records-step : left_text t k ≡ linked_text t a.ino ++ left_text t a.ino
    unfolding linked_text
    records-step =
        ap (λ (es : List (ℕ × Record)). records_text
        (filter (λ (e : ℕ × Record). is_linked t.records e.0) es)) next.step
        ∙ by_linked (is_linked t.records a.ino) a.ino next.stored
        (filter (λ (e : ℕ × Record). is_linked t.records e.0) (left_above t a.ino))
        ∙ ap (λ (o : Option Record). cond (is_linked t.records a.ino)
        (unwrap_or (option_map (record_text a.ino) o) []) [] ++ left_text t a.ino) (sym next.at)

    pub records-fewer : length (left_above t a.ino) < length (left_above t k)
    records-fewer = let longer : length (left_above t k) ≡ suc (length (left_above t a.ino)) =
        ap length next.step in omega arith

    pub next_is_stored : IsStored t a
    next_is_stored = record {
      told = ap (attr_or_missing a.ino) next.at
          ∙ ap (λ (b : Attr). Ok b) next.told;
    }

  pub records-end : (k : ℕ) → None ≡ record_after_of t k → left_text t k ≡ []
  unfolding records_text
  records-end k is = ap (λ (es : List (ℕ × Record)). flat_map
      (λ (p : ℕ × Record). record_text p.0 p.1)
      (filter (λ (e : ℕ × Record). is_linked t.records e.0) es))
      (above-none number k (map.entries t.records) (none_by (next_after k t.records) is))

-- ---- one record

-- the record that is told
record Found (t : Tree) (a : Attr) : Type 0 where
  stored : Record
  at : map.get t.records a.ino ≡ Some stored
  told : attr_of a.ino stored ≡ a

found_by : (t : Tree) (a : Attr) (o : Option Record) → map.get t.records a.ino ≡ o
    → attr_or_missing a.ino o ≡ Ok a → Found t a
found_by t a None at told = absurd (cc)
found_by t a (Some r) at told = record { stored = r; at = at; told = cc }

directory_body : (a : Attr) (b : Body) → kind_of b ≡ kind.Directory
    → body_text a b ≡ directory_line a (up_of b) (next_cookie b)
    ++ entries_text a.ino (unwrap_or (entries_of b) [])
directory_body a (File bytes) h = absurd (cc)
directory_body a (Directory es next up) h = refl
directory_body a (Link target) h = absurd (cc)

directory_test : (b : Body) → kind_of b ≡ kind.Directory → IsTrue (is_directory b)
directory_test (File bytes) h = absurd (cc)
directory_test (Directory es next up) h = refl
directory_test (Link target) h = absurd (cc)

file_body : (a : Attr) (b : Body) → kind_of b ≡ kind.File → body_text a b ≡ file_line a (bytes_of b)
file_body a (File bytes) h = refl
file_body a (Directory es next up) h = absurd (cc)
file_body a (Link target) h = absurd (cc)

file_test : (b : Body) → kind_of b ≡ kind.File → IsTrue (is_file_at (Some b))
file_test (File bytes) h = refl
file_test (Directory es next up) h = absurd (cc)
file_test (Link target) h = absurd (cc)

file_size : (b : Body) → kind_of b ≡ kind.File → size_of b ≡ length (bytes_of b)
file_size (File bytes) h = refl
file_size (Directory es next up) h = absurd (cc)
file_size (Link target) h = absurd (cc)

link_body : (a : Attr) (b : Body) → kind_of b ≡ kind.Link
    → body_text a b ≡ link_line a (target_of b)
link_body a (File bytes) h = absurd (cc)
link_body a (Directory es next up) h = absurd (cc)
link_body a (Link target) h = refl

link_test : (b : Body) → kind_of b ≡ kind.Link → IsTrue (is_link_at (Some b))
link_test (File bytes) h = absurd (cc)
link_test (Directory es next up) h = absurd (cc)
link_test (Link target) h = refl

module _ (t : Tree) (a : Attr) (h : IsStored t a) where
  found : Found t a
  found = found_by t a (map.get t.records a.ino) refl h.told

  kind_at : kind_of found.stored.body ≡ a.kind
  kind_at = ap (λ (b : Attr). b.kind) found.told

  text_at : stored_text t a.ino ≡ body_text a found.stored.body
  unfolding record_text
  text_at =
      ap (λ (o : Option Record). unwrap_or (option_map (record_text a.ino) o) []) found.at
      ∙ ap (λ (b : Attr). body_text b found.stored.body) found.told

  module _ (is : a.kind ≡ kind.Directory) where
    pub stored-directory : IsTrue (is_directory_at (body_at t.records a.ino))
    stored-directory = subst (λ (o : Option Record). IsTrue
        (is_directory_at (option_map (λ (r : Record). r.body) o))) (sym found.at)
        (directory_test found.stored.body (kind_at ∙ is))

    pub stored_text-directory : stored_text t a.ino ≡ directory_text t a
    stored_text-directory =
        text_at ∙ directory_body a found.stored.body (kind_at ∙ is)
        ∙ ap (λ (o : Option Record).
        directory_line a (unwrap_or (option_map up_of (option_map (λ (r : Record). r.body) o)) 0)
        (unwrap_or (option_map next_cookie (option_map (λ (r : Record). r.body) o)) 0)
        ++ entries_text a.ino (unwrap_or (option_and_then entries_of
        (option_map (λ (r : Record). r.body) o)) [])) (sym found.at)

  module _ (is : a.kind ≡ kind.File) where
    pub stored-file : IsTrue (is_file_at (body_at t.records a.ino))
    stored-file = subst (λ (o : Option Record). IsTrue
        (is_file_at (option_map (λ (r : Record). r.body) o))) (sym found.at)
        (file_test found.stored.body (kind_at ∙ is))

    bytes_there : bytes_at t a.ino ≡ bytes_of found.stored.body
    bytes_there = ap (λ (o : Option Record). unwrap_or
        (option_map bytes_of (option_map (λ (r : Record). r.body) o)) []) found.at

    pub stored_size-file : a.size ≡ length (bytes_at t a.ino)
    stored_size-file = sym (ap (λ (b : Attr). b.size) found.told)
        ∙ file_size found.stored.body (kind_at ∙ is) ∙ sym (ap length bytes_there)

    pub stored_text-file : stored_text t a.ino ≡ file_line a (bytes_at t a.ino)
    stored_text-file = text_at ∙ file_body a found.stored.body (kind_at ∙ is)
        ∙ ap (file_line a) (sym bytes_there)

  module _ (is : a.kind ≡ kind.Link) where
    pub stored-link : IsTrue (is_link_at (body_at t.records a.ino))
    stored-link = subst (λ (o : Option Record). IsTrue
        (is_link_at (option_map (λ (r : Record). r.body) o))) (sym found.at)
        (link_test found.stored.body (kind_at ∙ is))

    pub stored_text-link : stored_text t a.ino ≡ link_line a (target_at t a.ino)
    stored_text-link =
        text_at ∙ link_body a found.stored.body (kind_at ∙ is)
        ∙ ap (λ (o : Option Record). link_line a
        (unwrap_or (option_map target_of (option_map (λ (r : Record). r.body) o)) []))
        (sym found.at)

  module _ (good : IsGoodTree t) where
    linked_by : (a.links == 0) ≡ not (is_linked t.records a.ino)
    linked_by =
        sym (ap (λ (b : Attr). b.links == 0) found.told)
        ∙ sym (ap has_no_links found.at)
        ∙ no_links (good_is_counted t (λ _. false) good (λ i e. absurd (false≢true e))) a.ino
        found.stored found.at

    by_test : (b : Bool) → (a.links == 0) ≡ not b → a.links ≡ 0 → b ≡ false
    by_test true e z = absurd (false≢true (sym e ∙ ap (λ n. n == 0) z))
    by_test false e z = refl

    by_other : (b : Bool) → (a.links == 0) ≡ not b → (a.links ≡ 0 → ⊥) → b ≡ true
    by_other true e z = refl
    by_other false e z = absurd (z (eqb-true a.links 0 e))

    pub linked_text-none : a.links ≡ 0 → linked_text t a.ino ≡ []
    unfolding linked_text
    linked_text-none z = ap (λ b. cond b (stored_text t a.ino) [])
        (by_test (is_linked t.records a.ino) linked_by z)

    pub linked_text-stored : (a.links ≡ 0 → ⊥) → linked_text t a.ino ≡ stored_text t a.ino
    unfolding linked_text
    linked_text-stored z = ap (λ b. cond b (stored_text t a.ino) [])
        (by_other (is_linked t.records a.ino) linked_by z)
