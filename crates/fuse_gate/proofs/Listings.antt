-- READDIR, message by message.
use Rattle.std.proofs.Common.{◌≡◌, ◌≢◌, ℕ, suc, ◌+◌, ◌-◌, ◌<◌, ◌≤◌, Bool, true, false, cond}
use Rattle.std.proofs.Common.{List, [], ◌∷◌, ◌++◌, length, refl, sym, ap, ◌∙◌, subst, Some}
use Rattle.std.proofs.Common.{None, Option, arith, append_assoc, append-nil, ⊎_elim, nat_lt}
use Rattle.std.proofs.Common.{get_or, take, add-one, drop-cons}
use Rattle.std.specs.Prelude.{map as each, drop, ◌==◌}
use Rattle.std.specs.List.{flat_map}
use Rattle.std.proofs.lemmas.Bool.{cases_lt}
use Rattle.std.proofs.lemmas.Bool.Decides.{nat_tests}
use Rattle.std.proofs.lemmas.List.{length-append, map-append, take_more}
use Rattle.std.proofs.lemmas.List.Concat.{flat_map-append, flat_map-cons}
use Rattle.tree_model.specs.declared.attributes.Kind.{Kind}
use Rattle.tree_model.specs.declared.attributes.Kind.TheVariants as kind
use Rattle.tree_model.specs.Reading.{Entry}
use Rattle.tree_model.specs.Pages.{front_within, last_cookie}
use Rattle.tree_model.proofs.Pages.{taken, stopped}
use Rattle.fuse_wire.specs.Adding.{Adds}
use Rattle.fuse_wire.specs.Listing.{dirent_bytes}
use Rattle.fuse_wire.specs.declared.listing.ReplyDirectory.{ReplyDirectory}
use Rattle.fuse_wire.proofs.Sizes.{length-dirent_bytes}
use Rattle.fuse_wire.specs.declared.attr.FileType.{FileType}
use Rattle.p9_rmsg.specs.Dirents.{Entry as Dirent, dirent_of}
use Rattle.p9_rmsg.specs.declared.dirent.Dirent.{Dirent as DirentStruct}
use Rattle.tree_model.specs.Attributes.{entry_type}
use Rattle.fid_model.specs.Listings.{entry_told}
use Rattle.tree_machine.specs.Listing.{entry_size, entry_bytes, file_type, listing_bytes}
use Rattle.fuse_gate.specs.Listings.{type_by, told_size, told_bytes, last_told, next_told}
use Rattle.fuse_gate.specs.Listings.{AddsFront}
use Rattle.fuse_wire.specs.Answers.{rest_of}
use Rattle.fuse_gate.proofs.Desks.{rest_more, behind_more, rest_long}

-- ---- entries that are added, one after another

-- what `add` does to the bytes of a listing
abbrev pub Added : ℕ → List ℕ → List ℕ → List ℕ → Bool → Type 0
Added end entry old new true = (end < length old + length entry) × (new ≡ old)
Added end entry old new false = (length old + length entry ≤ end) × (new ≡ old ++ entry)

pub record Adding (end : ℕ) (old new : List ℕ) (ds so_far rest : List Dirent) (next : ℕ) : Type 0
  where
    pub all : ds ≡ so_far ++ rest
    pub items : new ≡ old ++ flat_map told_bytes so_far
    pub front : front_within told_size (end - length old) ds
        ≡ so_far ++ front_within told_size (end - length new) rest
    pub cookie : next ≡ last_told 0 so_far

told_long : (d : Dirent) → length (told_bytes d) ≡ told_size d
told_long d = length-dirent_bytes d.0.1.1 d.1.0 (type_by d.1.1.0) d.1.1.1

last_of_more : (c : ℕ) (ds : List Dirent) (d : Dirent) → last_told c (ds ++ d ∷ []) ≡ d.1.0
last_of_more c [] d = refl
last_of_more c (e ∷ ds) d = last_of_more e.1.0 ds d

more_bytes : (xs : List Dirent) (d : Dirent) → flat_map told_bytes (xs ++ d ∷ [])
    ≡ flat_map told_bytes xs ++ told_bytes d
more_bytes xs d = flat_map-append told_bytes xs (d ∷ [])
    ∙ ap (λ (ys : List ℕ). flat_map told_bytes xs ++ ys)
    (flat_map-cons told_bytes d [] ∙ append-nil (told_bytes d))

pub adds_none : (end : ℕ) (old : List ℕ) (ds : List Dirent) → Adding end old old ds [] ds 0
adds_none end old ds = record {
  all = refl;
  items = sym (append-nil old);
  front = refl;
  cookie = refl;
}

module _ {end : ℕ} {old mid : List ℕ} {ds so_far : List Dirent} {cookie : ℕ} where
  pub adds_one : (d : Dirent) (rest : List Dirent) → Adding end old mid ds so_far (d ∷ rest) cookie
      → (new : List ℕ) → Added end (told_bytes d) mid new false
      → Adding end old new ds (so_far ++ d ∷ []) rest d.1.0
  adds_one d rest a new adds =
      let long = told_long d in
      let room : told_size d ≤ end - length mid =
      (let fits = adds.0 in omega arith) in
      let grown : length new ≡ length mid + length (told_bytes d) =
      ap length adds.1 ∙ length-append mid (told_bytes d) in
      let left : (end - length mid) - told_size d ≡ end - length new = omega (arith, grown, long) in
      record {
        all = a.all ∙ sym (append_assoc so_far (d ∷ []) rest);
        items = adds.1 ∙ ap (λ (xs : List ℕ). xs ++ told_bytes d) a.items
            ∙ append_assoc old (flat_map told_bytes so_far) (told_bytes d)
            ∙ ap (λ (xs : List ℕ). old ++ xs) (sym (more_bytes so_far d));
        front = a.front
            ∙ ap (λ (xs : List Dirent). so_far ++ xs) (taken told_size
            (end - length mid) d rest room
            ∙ ap (λ n. d ∷ front_within told_size n rest) left)
            ∙ sym (append_assoc so_far (d ∷ []) (front_within told_size
            (end - length new) rest));
        cookie = sym (last_of_more 0 so_far d);
      }

  pub adds_full : (d : Dirent) (rest : List Dirent) → Adding end old mid ds so_far (d ∷ rest) cookie
      → (new : List ℕ) → Added end (told_bytes d) mid new true → AddsFront end old new ds None
  adds_full d rest a new adds =
      let long = told_long d in
      let none : front_within told_size (end - length mid) (d ∷ rest) ≡ [] =
      stopped told_size (end - length mid) d rest
      (let over = adds.0 in omega arith) in
      let run : front_within told_size (end - length old) ds ≡ so_far =
      a.front ∙ ap (λ (xs : List Dirent). so_far ++ xs) none ∙ append-nil so_far in
      let less : nat_lt (length so_far) (length ds) ≡ true =
      (let whole = ap length a.all in let both = length-append so_far (d ∷ rest) in
      let short : length so_far < length ds = omega arith in grind (arith, nat_tests)) in
      record {
        items = adds.1 ∙ a.items
            ∙ ap (λ (xs : List Dirent). old ++ flat_map told_bytes xs) (sym run);
        told = sym (ap (λ (xs : List Dirent). next_told xs ds) run
            ∙ ap (λ (b : Bool). cond b None (Some (last_told 0 ds))) less);
      }

  pub adds_all : Adding end old mid ds so_far [] cookie → AddsFront end old mid ds (Some cookie)
  adds_all a =
      let whole : ds ≡ so_far = a.all ∙ append-nil so_far in
      let run : front_within told_size (end - length old) ds ≡ so_far =
      a.front ∙ append-nil so_far in
      let less : nat_lt (length so_far) (length ds) ≡ false =
      (let long = ap length whole in grind (arith, nat_tests)) in
      record {
        items = a.items ∙ ap (λ (xs : List Dirent). old ++ flat_map told_bytes xs)
            (sym run);
        told = ap (λ (k : ℕ). Some k) (a.cookie ∙ ap (last_told 0) (sym whole))
            ∙ sym (ap (λ (xs : List Dirent). next_told xs ds) run
            ∙ ap (λ (b : Bool). cond b None (Some (last_told 0 ds))) less);
      }

-- ---- what was told, and what is told of it

type_is : (k : Kind) → type_by (entry_type k) ≡ file_type k
type_is kind.File = refl
type_is kind.Directory = refl
type_is kind.Link = refl

bytes_are : (e : Entry) → told_bytes (entry_told e) ≡ entry_bytes e
bytes_are e = ap (λ t. dirent_bytes e.attr.ino e.cookie t e.name)
    (type_is e.attr.kind)

pub listing_is : (es : List Entry) → flat_map told_bytes (each entry_told es) ≡ listing_bytes es
listing_is [] = refl
listing_is (e ∷ es) = flat_map-cons told_bytes (entry_told e) (each entry_told es)
    ∙ ap (λ (xs : List ℕ). xs ++ flat_map told_bytes (each entry_told es)) (bytes_are e)
    ∙ ap (λ (xs : List ℕ). entry_bytes e ++ xs) (listing_is es)
    ∙ sym (flat_map-cons entry_bytes e es)

pub front_is : (room : ℕ) (es : List Entry) → front_within told_size room (each entry_told es)
    ≡ each entry_told (front_within entry_size room es)
front_is room [] = refl
front_is room (e ∷ es) = ⊎_elim
    (λ high. stopped told_size room (entry_told e) (each entry_told es) high
    ∙ ap (each entry_told) (sym (stopped entry_size room e es high)))
    (λ low. taken told_size room (entry_told e) (each entry_told es) low
    ∙ ap (λ (xs : List Dirent). entry_told e ∷ xs) (front_is (room - entry_size e) es)
    ∙ ap (each entry_told) (sym (taken entry_size room e es low)))
    (cases_lt room (entry_size e))

pub length_is : (es : List Entry) → length (each entry_told es) ≡ length es
length_is [] = refl
length_is (e ∷ es) = ap (λ n. suc n) (length_is es)

pub last_is : (c : ℕ) (es : List Entry) → last_told c (each entry_told es) ≡ last_cookie c es
last_is c [] = refl
last_is c (e ∷ es) = last_is e.cookie es

-- ---- the entries of a slice

module _ (xs : List DirentStruct) (i : ℕ) (x : DirentStruct) (low : i < length xs)
    (is : x ≡ get_or xs i x) where
  pub rest_at : each dirent_of (drop i xs) ≡ dirent_of x ∷ each dirent_of (drop (i + 1) xs)
  rest_at =
      let one : drop i xs ≡ x ∷ drop (i + 1) xs = rw add-one (drop-cons xs i x low
      ∙ ap (λ (y : DirentStruct). y ∷ drop (suc i) xs) (sym is)) in
      ap (λ (ds : List DirentStruct). each dirent_of ds) one

  pub front_at : each dirent_of (take (i + 1) xs)
      ≡ each dirent_of (take i xs) ++ dirent_of x ∷ []
  front_at = ap (λ (ds : List DirentStruct). each dirent_of ds) (take_more xs i x low
      ∙ ap (λ (y : DirentStruct). take i xs ++ y ∷ []) (sym is))
      ∙ map-append dirent_of (take i xs) (x ∷ [])

added_of : (end : ℕ) (entry : List ℕ) (old new : ReplyDirectory) (full : Bool)
    → Adds entry end old new full → Added end entry old.bytes.items new.bytes.items full
added_of end entry old new true adds =
    (adds.0, ap (λ (x : ReplyDirectory). x.bytes.items) adds.1)
added_of end entry old new false adds = (adds.0, adds.1)

pub adds_as : (at end : ℕ) → at ≡ end → (old new : ReplyDirectory) (full : Bool)
    (ino offset ty : ℕ) (name told : List ℕ) (kind : FileType) → kind ≡ type_by ty → told ≡ name
    → Adds (dirent_bytes ino offset kind told) at old new full
    → Added end (dirent_bytes ino offset (type_by ty) name) old.bytes.items new.bytes.items full
adds_as at end here old new full ino offset ty name told kind is same adds =
    added_of end (dirent_bytes ino offset (type_by ty) name) old new full
    (subst (λ (m : ℕ). Adds (dirent_bytes ino offset (type_by ty) name) m old new full) here
    (subst (λ (k : FileType). Adds (dirent_bytes ino offset k name) at old new full) is
    (subst (λ (b : List ℕ). Adds (dirent_bytes ino offset kind b) at old new full) same adds)))

-- ---- whether there is an entry

no_number : (n : ℕ) → true ≡ (n == 0) → n ≡ 0
no_number n is = grind (arith, nat_tests)

a_number : (n : ℕ) → false ≡ (n == 0) → n ≡ 0 → ⊥
a_number n is none = grind (arith, nat_tests)

pub none_of : (ds : List DirentStruct) (n : ℕ) → true ≡ (n == 0) → length ds ≡ n
    → each dirent_of ds ≡ []
none_of [] n is long = refl
none_of (d ∷ ds) n is long = absurd (let none = no_number n is in omega arith)

pub some_of : (ds : List DirentStruct) (n : ℕ) → false ≡ (n == 0) → length ds ≡ n
    → each dirent_of ds ≢ []
some_of [] n is long none = a_number n is (sym long)
some_of (d ∷ ds) n is long none = cc

-- ---- behind what a listing had

module _ (before now new : List ℕ) (behind : now ≡ before ++ rest_of before now) (all end : ℕ)
    (same : end ≡ all) (ds : List Dirent) (next : Option ℕ) (adds : AddsFront end now new ds next)
  where
    abbrev room : ℕ
    room = (all - length before) - length (rest_of before now)

    left_same : end - length now ≡ room
    left_same = let long = rest_long before now behind in omega (arith, long, same)

    pub listed_more : rest_of before new
        ≡ rest_of before now ++ flat_map told_bytes (front_within told_size room ds)
    listed_more = rest_more before now behind
        (flat_map told_bytes (front_within told_size (end - length now) ds)) new adds.items
        ∙ ap (λ (k : ℕ). rest_of before now ++ flat_map told_bytes (front_within told_size k ds))
        left_same

    pub listed_behind : new ≡ before ++ rest_of before new
    listed_behind = behind_more before now behind
        (flat_map told_bytes (front_within told_size (end - length now) ds)) new adds.items

    pub listed_next : next ≡ next_told (front_within told_size room ds) ds
    listed_next = adds.told ∙ ap (λ (k : ℕ). next_told (front_within told_size k ds) ds) left_same
