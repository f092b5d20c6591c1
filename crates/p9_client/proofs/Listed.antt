-- A page of a directory: entry by entry, and as the bytes that spell the entries.
use Rattle.std.proofs.Common.{◌≡◌, ◌≢◌, ⊎_elim, inl, inr, ℕ, ◌≤◌, ◌<◌, Bool, true, false, cond}
use Rattle.std.proofs.Common.{not, List, [], ◌∷◌, ◌++◌, length, Result, Ok, Err, Some, None, Option}
use Rattle.std.proofs.Common.{refl, sym, ap, ◌∙◌, subst, arith, length-append, append_assoc}
use Rattle.std.proofs.Common.{append-nil}
use Rattle.std.specs.Prelude.{flat_map, map as each}
use Rattle.std.specs.FinMap as map
use Rattle.std.specs.List.{AllByRecursion}
use Rattle.std.specs.declared.vec.Vec.{Vec}
use Rattle.std.specs.Global.{Global}
use Rattle.std.proofs.lemmas.List.Concat.{flat_map-cons}
use Rattle.std.proofs.lemmas.List.Folds.{flat_map-map}
use Rattle.port_base.specs.declared.errno.TheConstants.{EBADF, EIO, ENOTDIR}
use Rattle.tree_model.specs.Tree.{Tree, body_at, is_directory_at}
use Rattle.tree_model.specs.Reading.{Entry as Listed}
use Rattle.tree_model.specs.Pages.{page_of}
use Rattle.p9_wire.specs.declared.error.WireError.{WireError}
use Rattle.p9_wire.specs.declared.error.WireError.TheVariants.{InvalidInput, InvalidData}
use Rattle.p9_wire.specs.declared.error.WireError.TheVariants.{UnexpectedEof, Read, Write, NoMemory}
use Rattle.p9_wire.specs.declared.data.Data.{Data}
use Rattle.p9_wire.specs.Reading.{Answers}
use Rattle.p9_wire.specs.Numbers.{found_parts}
use Rattle.p9_rmsg.specs.Dirents.{Entry, DirentSpells, dirent_at, dirent_law, dirent_of}
use Rattle.p9_rmsg.specs.Dirents.{dirent_spelling}
use Rattle.p9_rmsg.specs.declared.dirent.Dirent.{Dirent}
use Rattle.fid_model.specs.Fids.{Fid, IsGoodServer, ServerState, is_open}
use Rattle.fid_model.specs.FidCalls.{by_fid}
use Rattle.fid_model.specs.Listings.{entries_spelling, entry_size, entry_told, page_by, page_room}
use Rattle.fid_model.specs.Listings.{readdir_told}
use Rattle.fid_model.specs.Moments.{Keeps, Moment, Untouched}
use Rattle.fid_model.proofs.Listings.{page_spells}
use Rattle.p9_client.specs.Changing.{Gives}
use Rattle.p9_client.specs.Views.{bytes_answer}
use Rattle.p9_client.specs.Listing.{AreSpelled, BeginsWithEntry, IsListing, entries_answer}
use Rattle.p9_client.specs.Listing.{entries_by, entries_told}

-- ---- the first entry of a page

entry_long : (e : Entry) (bytes : List ℕ) → 1 ≤ length (dirent_spelling e ++ bytes)
entry_long e bytes = omega (arith, length-append (dirent_spelling e) bytes)

-- what is spelled, where there is something
record First (entries : List Entry) (bytes : List ℕ) : Type 0 where
  entry : Entry
  rest : List Entry
  splits : entries ≡ entry ∷ rest
  read : dirent_at bytes ≡ Ok (entry, flat_map dirent_spelling rest)
  spells : AllByRecursion DirentSpells rest
  shorter : length (flat_map dirent_spelling rest) < length bytes

first_of : (entries : List Entry) (bytes : List ℕ) → AreSpelled entries bytes → bytes ≢ []
    → First entries bytes
first_of [] bytes are some = absurd (some are.spelled)
first_of (e ∷ rest) bytes are some =
    let is : bytes ≡ dirent_spelling e ++ flat_map dirent_spelling rest =
    are.spelled ∙ flat_map-cons dirent_spelling e rest in
    record {
      entry = e;
      rest = rest;
      splits = refl;
      read = ap dirent_at is
          ∙ dirent_law.again e (flat_map dirent_spelling rest) are.spells.0 tt;
      spells = are.spells.1;
      shorter = omega (
        arith,
        ap length is,
        length-append (dirent_spelling e) (flat_map dirent_spelling rest),
      );
    }

-- where something is left of a page, an entry comes first
pub page_begins : (entries : List Entry) (bytes : List ℕ) → AreSpelled entries bytes → bytes ≢ []
    → BeginsWithEntry bytes
page_begins entries bytes are some =
    let first = first_of entries bytes are some in
    record { entry = first.entry; rest = flat_map dirent_spelling first.rest; read = first.read }

-- only memory may be wanted
pub entry_wants_memory : (bytes : List ℕ) → BeginsWithEntry bytes → (left : Option (List ℕ))
    (e : WireError) → e ≢ NoMemory
    → Answers {V = Dirent} dirent_of dirent_at (Some bytes) left 0 0 (Err e) → ⊥
entry_wants_memory bytes begins left InvalidInput ne a =
    let good = begins.read in let bad = a.1 in cc
entry_wants_memory bytes begins left InvalidData ne a =
    let good = begins.read in let bad = a.1 in cc
entry_wants_memory bytes begins left UnexpectedEof ne a =
    let good = begins.read in let bad = a.1 in cc
entry_wants_memory bytes begins left Read ne a = omega (arith, a.0, a.1)
entry_wants_memory bytes begins left Write ne a = a
entry_wants_memory bytes begins left NoMemory ne a = ne refl

-- ---- a page, entry by entry

-- of these entries so many were read, and the bytes spell the rest
pub record IsReadTo (entries front : List Entry) (left : List ℕ) : Type 0 where
  pub rest : List Entry
  pub splits : entries ≡ front ++ rest
  pub are : AreSpelled rest left

pub read_none : (entries : List Entry) (bytes : List ℕ) → AreSpelled entries bytes
    → IsReadTo entries [] bytes
read_none entries bytes are = record { rest = entries; splits = refl; are = are }

-- what was read first is the first entry
first_is : (entries : List Entry) (left : List ℕ) (first : First entries left) (e : Entry)
    (left' : List ℕ) → dirent_at left ≡ Ok (e, left') → (first.entry ≡ e)
    × (flat_map dirent_spelling first.rest ≡ left')
first_is entries left first e left' read = found_parts first.entry e
    (flat_map dirent_spelling first.rest) left' (sym first.read ∙ read)

pub read_one : (entries front : List Entry) (left left' : List ℕ) (e : Entry)
    → IsReadTo entries front left → left ≢ [] → dirent_at left ≡ Ok (e, left')
    → IsReadTo entries (front ++ e ∷ []) left'
read_one entries front left left' e so_far some read =
    let first = first_of so_far.rest left so_far.are some in
    let is = first_is so_far.rest left first e left' read in
    record {
      rest = first.rest;
      splits = so_far.splits ∙ ap (λ es. front ++ es) first.splits
          ∙ ap (λ x. front ++ x ∷ first.rest) is.0 ∙ sym (append_assoc front (e ∷ []) first.rest);
      are = record { spelled = sym is.1; spells = first.spells };
    }

pub reads_less : (entries front : List Entry) (left left' : List ℕ) (e : Entry)
    → IsReadTo entries front left → left ≢ [] → dirent_at left ≡ Ok (e, left')
    → length left' < length left
reads_less entries front left left' e so_far some read =
    let first = first_of so_far.rest left so_far.are some in
    let is = first_is so_far.rest left first e left' read in
    subst (λ bytes. length bytes < length left) is.1 first.shorter

pub read_all : (entries front : List Entry) (left : List ℕ) → IsReadTo entries front left
    → left ≡ [] → front ≡ entries
read_all entries front left so_far none =
    by_rest so_far.rest so_far.splits (sym none ∙ so_far.are.spelled) where
      by_rest : (rest : List Entry) → entries ≡ front ++ rest → [] ≡ flat_map dirent_spelling rest
          → front ≡ entries
      by_rest [] splits is = sym (splits ∙ append-nil front)
      by_rest (e ∷ rest) splits is =
          let long = entry_long e (flat_map dirent_spelling rest) in
          let same = ap (length {A = ℕ}) (is ∙ flat_map-cons dirent_spelling e rest) in
          absurd (omega arith)

-- ---- what a directory lists, as bytes and by entries

abbrev IsSpelledAs : Result (List Entry) ℕ → Result (List ℕ) ℕ → Type 0
IsSpelledAs (Ok entries) (Ok bytes) = AreSpelled entries bytes
IsSpelledAs (Ok entries) (Err e) = ⊥
IsSpelledAs (Err e) (Ok bytes) = ⊥
IsSpelledAs (Err e) (Err f) = e ≡ f

-- a page's bytes, of the entries that they spell
record Spells (told : Result (List Entry) ℕ) (bytes : List ℕ) : Type 0 where
  entries : List Entry
  told_are : told ≡ Ok entries
  are : AreSpelled entries bytes

spelled_told : (told : Result (List Entry) ℕ) (page : Result (List ℕ) ℕ) → IsSpelledAs told page
    → (bytes : List ℕ) → page ≡ Ok bytes → Spells told bytes
spelled_told (Ok entries) (Ok page) h bytes is =
    let same : page ≡ bytes = cc in
    record { entries = entries; told_are = refl; are = subst (AreSpelled entries) same h }
spelled_told (Ok entries) (Err e) h bytes is = absurd h
spelled_told (Err e) (Ok page) h bytes is = absurd h
spelled_told (Err e) (Err f) h bytes is = absurd (cc)

refused_told : (told : Result (List Entry) ℕ) (page : Result (List ℕ) ℕ) → IsSpelledAs told page
    → (e : ℕ) → page ≡ Err e → told ≡ Err e
refused_told (Ok entries) (Ok page) h e is = absurd (cc)
refused_told (Ok entries) (Err f) h e is = absurd h
refused_told (Err d) (Ok page) h e is = absurd h
refused_told (Err d) (Err f) h e is =
    let same : f ≡ e = cc in ap (λ n. Err n) (h ∙ same)

told_as : (s : ServerState) → IsGoodServer s → (fid offset count : ℕ)
    → IsSpelledAs (entries_told s fid offset count) (readdir_told s fid offset count)
told_as s g fid offset count = by_fids (map.get s.fids fid) where
  by_fids : (o : Option Fid)
      → IsSpelledAs (by_fid (entries_by s offset count) o) (by_fid (page_by s offset count) o)
  by_fids None = refl
  by_fids (Some f) = by_tests (not (is_directory_at (body_at s.tree.records f.ino)))
      (is_open f.open_state) where
        entries : List Listed
        entries = page_of entry_size (page_room count s.msize) s.tree f.ino offset

        by_tests : (b c : Bool)
            → IsSpelledAs
            (cond b (Err ENOTDIR) (cond c (Ok (each entry_told entries)) (Err EBADF)))
            (cond b (Err ENOTDIR) (cond c (Ok (entries_spelling entries)) (Err EBADF)))
        by_tests true c = refl
        by_tests false true = record {
          spelled = sym (flat_map-map dirent_spelling entry_told entries);
          spells = page_spells s.tree g.tree f.ino offset (page_room count s.msize);
        }
        by_tests false false = refl

-- ---- what a call gives

module _ {old new : Moment} (good : IsGoodServer old.state) (fid offset count : ℕ) {F : Type 0}
    {page : Result Data ℕ} (gave : Gives {E = F} bytes_answer
    (readdir_told old.state fid offset count, old.state) Untouched (Ok page) old new) where
  abbrev pages : Result (List ℕ) ℕ
  pages = readdir_told old.state fid offset count

  abbrev told : Result (List Entry) ℕ
  told = entries_told old.state fid offset count

  as_told : IsSpelledAs told pages
  as_told = told_as old.state good fid offset count

  module _ (d : Data) (is : page ≡ Ok d) where
    -- a page that was given is the one that is told, and leaves all as it was
    page_is : (Ok d.0.items ≡ pages) × (new.state ≡ old.state)
    page_is = ⊎_elim
        (λ e. (
          ap bytes_answer (sym is) ∙ ap (λ (x : Result (List ℕ) ℕ × ServerState). x.0) e,
          ap (λ (x : Result (List ℕ) ℕ × ServerState). x.1) e,
        ))
        (λ h. absurd (let failed = ap bytes_answer (sym is) ∙ h.1 in cc))
        gave.answer.asks

    spells_told : Spells told d.0.items
    spells_told = spelled_told told pages as_told d.0.items (sym page_is.0)

    pub is_listing : IsListing d.0.items
    is_listing = record { entries = spells_told.entries; are = spells_told.are }

    pub page_leaves : Untouched old.state.tree new.state.tree
    page_leaves = ap (λ (s : ServerState). s.tree) page_is.1

    pub gives_entries : {E : Type 0} (entries : Vec Dirent Global)
        → ((es : List Entry) → AreSpelled es d.0.items → each dirent_of entries.items ≡ es)
        → Gives {E = E} entries_answer (told, old.state) Untouched (Ok (Ok entries)) old new
    gives_entries entries read =
        let same : Ok (each dirent_of entries.items) ≡ told =
        ap (λ es. Ok es) (read spells_told.entries spells_told.are)
        ∙ sym spells_told.told_are in
        let after = page_is.1 in
        record {
          answer = record { asks = inl (λ j. (same j, after j)); asked = gave.answer.asked };
          unfinished = tt;
          kept = gave.kept;
        }

  pub gives_refusal : {E : Type 0} (e : ℕ) → page ≡ Err e
      → Gives {R = Result (Vec Dirent Global) ℕ} {E = E} entries_answer (told, old.state) Untouched
      (Ok (Err e)) old new
  gives_refusal e is = record {
    answer = record {
      asks = ⊎_elim
          (λ x.
          let refused = sym (ap (λ (x : Result (List ℕ) ℕ × ServerState). x.0) x)
          ∙ ap bytes_answer is in
          let same : Err e ≡ told = sym (refused_told told pages as_told e refused) in
          let after = ap (λ (x : Result (List ℕ) ℕ × ServerState). x.1) x in
          inl (λ j. (same j, after j)))
          (λ h.
          let failed = ap bytes_answer (sym is) ∙ h.1 in
          let eio : e ≡ EIO = cc in
          inr (h.0, ap (λ n. Err n) eio, h.2, h.3))
          gave.answer.asks;
      asked = gave.answer.asked;
    };
    unfinished = tt;
    kept = gave.kept;
  }

-- out of memory, what is left
pub gives_error : {R A E : Type 0} {view : R → Result A ℕ} {told : Result A ℕ × ServerState}
    {part : Tree → Tree → Type 0} {old new : Moment} (result : Result R E) (e : E)
    → result ≡ Err e → part old.state.tree new.state.tree → Keeps old new
    → Gives view told part result old new
gives_error {view = view} {told = told} {part = part} {old = old} {new = new} result e failed left
    kept = subst (λ r. Gives view told part r old new) (sym failed)
    (record { answer = tt; unfinished = left; kept = kept })
