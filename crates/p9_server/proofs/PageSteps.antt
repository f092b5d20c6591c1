-- A page of a directory: entry by entry what is added to it, and what a fid is answered.
use Rattle.std.proofs.Common.{◌≡◌, ℕ, ◌-◌, ◌<◌, ◌≤◌, Bool, true, false, cond, List, []}
use Rattle.std.proofs.Common.{◌∷◌, ◌++◌, length, refl, sym, ap, ◌∙◌, subst, Option, Some, None}
use Rattle.std.proofs.Common.{Result, Ok, Err, arith, append_assoc, append-nil, length-append}
use Rattle.std.specs.Prelude.{option_and_then}
use Rattle.std.proofs.lemmas.List.Concat.{flat_map-cons}
use Rattle.port_base.specs.declared.errno.TheConstants.{ENOTDIR}
use Rattle.tree_model.specs.Tree.{Tree, Body, body_at, is_directory_at}
use Rattle.tree_model.specs.Tree.Body.{File, Directory, Link}
use Rattle.tree_model.specs.Good.{IsGoodTree}
use Rattle.tree_model.specs.Finding.{entries_of}
use Rattle.tree_model.specs.Attributes.{Qid, qid_of, entry_type}
use Rattle.p9_wire.specs.Values.{qid_spelling, le16, le64}
use Rattle.tree_model.specs.Reading.{Entry, entry_after_of, entry_after_among}
use Rattle.tree_model.specs.declared.attributes.HostError.{HostError}
use Rattle.tree_model.specs.declared.attributes.HostError.TheVariants.{Errno, Fault, NoMemory}
use Rattle.tree_model.specs.Pages.{page_of}
use Rattle.tree_model.proofs.Pages.{page_ends, page_takes, page_stops, named_after}
use Rattle.tree_host.specs.Host.{Answers}
use Rattle.p9_rmsg.specs.Dirents.{dirent_spelling}
use Rattle.fid_model.specs.Listings.{entry_told, entry_size, entries_spelling, listed_page}
use Rattle.fid_model.proofs.Listings.{length-entry}
use Rattle.p9_server.specs.Paging.{page_told, Takes}

-- ---- an entry's bytes

joined : (a0 a1 a2 a3 a4 a5 q c t l n : List ℕ) → a1 ≡ a0 ++ q → a2 ≡ a1 ++ c → a3 ≡ a2 ++ t
    → a4 ≡ a3 ++ l → a5 ≡ a4 ++ n → a5 ≡ a0 ++ (q ++ (c ++ (t ++ (l ++ n))))
joined a0 a1 a2 a3 a4 a5 q c t l n e1 e2 e3 e4 e5 = rw (e5, e4, e3, e2, e1) (simp append_assoc)

-- an entry's parts stand one behind another
pub entry_added : (a0 a1 a2 a3 a4 a5 : List ℕ) (view e : Entry) → view ≡ e → (q : Qid)
    → q ≡ qid_of view.attr → (cookie : List ℕ) → cookie ≡ le64 view.cookie → (ty : ℕ)
    → ty ≡ entry_type view.attr.kind → (len : List ℕ) → len ≡ le16 (length view.name)
    → (name : List ℕ) → name ≡ view.name → a1 ≡ a0 ++ qid_spelling q → a2 ≡ a1 ++ cookie
    → a3 ≡ a2 ++ (ty ∷ []) → a4 ≡ a3 ++ len → a5 ≡ a4 ++ name
    → a5 ≡ a0 ++ dirent_spelling (entry_told e)
entry_added a0 a1 a2 a3 a4 a5 view e same q qs cookie cs ty ts len ls name ns e1 e2 e3 e4 e5 =
    joined a0 a1 a2 a3 a4 a5 (qid_spelling q) cookie (ty ∷ []) len name e1 e2 e3 e4 e5
    ∙ (λ j. a0 ++ (qid_spelling (qs j) ++ (cs j ++ ((ts j ∷ []) ++ (ls j ++ ns j)))))
    ∙ ap (λ (e : Entry). a0 ++ dirent_spelling (entry_told e)) same

-- ---- the first entry of a page

module _ (t : Tree) (dir : ℕ) where
  -- what tells an entry, or none, is a directory
  in_directory : (c : ℕ) (o : Option Body) (x : Option Entry)
      → entry_after_among t.records c (option_and_then entries_of o) ≡ Ok x
      → is_directory_at o ≡ true
  in_directory c None x is = absurd (cc)
  in_directory c (Some (File bytes)) x is = absurd (cc)
  in_directory c (Some (Directory es next up)) x is = refl
  in_directory c (Some (Link target)) x is = absurd (cc)

  in_none : (c k : ℕ) (o : Option Body)
      → entry_after_among t.records c (option_and_then entries_of o) ≡ Err k
      → (is_directory_at o ≡ false) × (k ≡ ENOTDIR)
  in_none c k None is = let same : k ≡ ENOTDIR = cc in (refl, same)
  in_none c k (Some (File bytes)) is = let same : k ≡ ENOTDIR = cc in (refl, same)
  in_none c k (Some (Directory es next up)) is = absurd (cc)
  in_none c k (Some (Link target)) is = let same : k ≡ ENOTDIR = cc in (refl, same)

  abbrev told_if : ℕ → ℕ → Bool → Result (List ℕ) ℕ
  told_if c room b = cond b (Ok (listed_page t dir c room)) (Err ENOTDIR)

  page_is : (c room : ℕ) (x : Option Entry) → entry_after_of t dir c ≡ Ok x
      → page_told t dir c room ≡ Ok (listed_page t dir c room)
  page_is c room x is = ap (told_if c room) (in_directory c (body_at t.records dir) x is)

  module _ (g : IsGoodTree t) (c room : ℕ) where
    pub takes_none : entry_after_of t dir c ≡ Ok None → Takes t dir c room (Ok None)
    takes_none is = record {
      exactly = page_is c room None is
          ∙ ap (λ es. Ok (entries_spelling es)) (page_ends entry_size t g dir room c is);
    }

    pub takes_no_room : (e : Entry) → entry_after_of t dir c ≡ Ok (Some e) → room < entry_size e
        → Takes t dir c room (Ok None)
    takes_no_room e is high = record {
      exactly = page_is c room (Some e) is
          ∙ ap (λ es. Ok (entries_spelling es)) (page_stops entry_size t g dir room c e is high);
    }

    pub takes_one : (e : Entry) → entry_after_of t dir c ≡ Ok (Some e) → entry_size e ≤ room
        → Takes t dir c room (Ok (Some e))
    takes_one e is low = record { exactly = (is, low, named_after t g dir c e is) }

  pub takes_error : (c room : ℕ) (e : HostError)
      → Answers {A = Option Entry} (entry_after_of t dir c) (Err e) → Takes t dir c room (Err e)
  takes_error c room (Errno k) a =
      let none = in_none c k (body_at t.records dir) a.exactly in
      record { exactly = ap (told_if c room) none.0 ∙ ap (λ n. Err n) (sym none.1) }
  takes_error c room Fault a = record { exactly = tt }
  takes_error c room NoMemory a = record { exactly = tt }

-- the same of another moment
pub takes_here : (t t0 : Tree) (dir c r r0 : ℕ) (x y : Result (Option Entry) HostError) → t ≡ t0
    → r ≡ r0 → x ≡ y → Takes t dir c r x → Takes t0 dir c r0 y
takes_here t t0 dir c r r0 x y et er ex takes =
    subst (λ (t : Tree). Takes t dir c r0 y) et
    (subst (λ (n : ℕ). Takes t dir c n y) er
    (subst (λ (x : Result (Option Entry) HostError). Takes t dir c r x) ex takes))

-- ---- a page that is read entry by entry

module _ (t : Tree) (dir offset room : ℕ) where
  -- of a page these bytes are there, and the cookie is that of the last entry
  pub record Listing (c : ℕ) (bytes : List ℕ) : Type 0 where
    pub low : length bytes ≤ room
    pub rest : listed_page t dir offset room ≡ bytes ++ listed_page t dir c (room - length bytes)

  pub listing_none : Listing offset []
  listing_none = record {
    low = omega arith;
    rest = ap (λ n. listed_page t dir offset n) (let all : room ≡ room - 0 = omega arith in all);
  }

  module _ (c : ℕ) (bytes : List ℕ) (l : Listing c bytes) where
    abbrev left : ℕ
    left = room - length bytes

    -- an entry more
    pub listing_more : IsGoodTree t → (e : Entry) → Takes t dir c left (Ok (Some e))
        → (more : List ℕ) → more ≡ bytes ++ dirent_spelling (entry_told e)
        → Listing e.cookie more × (room - length more < left)
    listing_more g e takes more is =
        let low = l.low in
        let fits = takes.exactly.1 in
        let size = length-entry e in
        let added = ap length is in
        let both = length-append bytes (dirent_spelling (entry_told e)) in
        let behind : left - entry_size e ≡ room - length more = omega arith in (
          record {
            low = omega arith;
            rest = l.rest
                ∙ ap (λ es. bytes ++ entries_spelling es)
                (page_takes entry_size t g dir left c e takes.exactly.0 fits)
                ∙ ap (λ xs. bytes ++ xs) (flat_map-cons (λ e. dirent_spelling (entry_told e)) e
                (page_of entry_size (left - entry_size e) t dir e.cookie))
                ∙ sym (append_assoc bytes (dirent_spelling (entry_told e))
                (listed_page t dir e.cookie (left - entry_size e)))
                ∙ ap (λ xs. xs ++ listed_page t dir e.cookie (left - entry_size e)) (sym is)
                ∙ ap (λ n. more ++ listed_page t dir e.cookie n) behind;
          },
          omega arith,
        )

    told_same : (b : Bool) (p q : List ℕ) → cond {A = Result (List ℕ) ℕ} b (Ok p) (Err ENOTDIR)
        ≡ Ok [] → q ≡ bytes ++ p → cond {A = Result (List ℕ) ℕ} b (Ok q) (Err ENOTDIR) ≡ Ok bytes
    told_same true p q none is =
        let empty : p ≡ [] = cc in
        ap (λ xs. Ok xs) (is ∙ ap (λ xs. bytes ++ xs) empty ∙ append-nil bytes)
    told_same false p q none is = absurd (cc)

    refused_same : (b : Bool) (k : ℕ) (p q : List ℕ)
        → cond {A = Result (List ℕ) ℕ} b (Ok p) (Err ENOTDIR) ≡ Err k
        → cond {A = Result (List ℕ) ℕ} b (Ok q) (Err ENOTDIR) ≡ Err k
    refused_same true k p q none = absurd (cc)
    refused_same false k p q none = none

    -- no entry more
    pub listing_ends : Takes t dir c left (Ok None) → page_told t dir offset room ≡ Ok bytes
    listing_ends takes = told_same (is_directory_at (body_at t.records dir))
        (listed_page t dir c left) (listed_page t dir offset room) takes.exactly l.rest

    pub listing_fails : (e : HostError) → Takes t dir c left (Err e)
        → Answers {A = List ℕ} (page_told t dir offset room) (Err e)
    listing_fails (Errno k) takes = record {
      exactly =
          refused_same (is_directory_at (body_at t.records dir)) k (listed_page t dir c left)
          (listed_page t dir offset room) takes.exactly;
    }
    listing_fails Fault takes = record { exactly = tt }
    listing_fails NoMemory takes = record { exactly = tt }
