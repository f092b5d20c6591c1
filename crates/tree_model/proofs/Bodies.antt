-- What the kinds of bodies list, and how many links they show.
use Rattle.std.proofs.Common.{◌≡◌, ◌≢◌, ℕ, zero, suc, ◌+◌, ◌-◌, ◌^◌, ◌<◌, Bool, true, false, cond}
use Rattle.std.proofs.Common.{List, []}
use Rattle.std.proofs.Common.{◌∷◌, ◌++◌, length, refl, sym, ap, ◌∙◌, Some, None, arith, bytes_eq}
use Rattle.std.specs.Prelude.{slice_index_or}
use Rattle.std.proofs.lemmas.Bool.{false≢true}
use Rattle.std.proofs.lemmas.List.Elements.{All-push}
use Rattle.std.proofs.lemmas.List.Quantifiers.{all_pairs_push}
use Rattle.std.proofs.lemmas.Slice.Eq.{bytes_eq-Decides}
use Rattle.port_base.specs.Names.{name_fault}
use Rattle.tree_model.specs.Tree.{Body, DirEntry, listed, is_directory}
use Rattle.tree_model.specs.Tree.Body.{File, Directory, Link}
use Rattle.tree_model.specs.Good.{CookiesRise, IsGoodBody, links_of}
use Rattle.tree_model.specs.Finding.{entry_named}
use Rattle.tree_model.specs.Making.{with_entries, next_cookie}

pub lists_none : (b : Body) → is_directory b ≡ false → listed b ≡ []
lists_none (File bytes) is = refl
lists_none (Directory es next above) is = absurd (false≢true (sym is))
lists_none (Link target) is = refl

-- a directory shows as many links whatever it lists, and however many entries name it
pub shows_links : (b : Body) (es : List DirEntry) (next n n' : ℕ) (linked : Bool)
    → is_directory b ≡ true → links_of b n linked ≡ links_of (with_entries b es next) n' linked
shows_links (File bytes) es next n n' linked is = absurd (false≢true is)
shows_links (Directory fs cookie above) es next n n' linked is = refl
shows_links (Link target) es next n n' linked is = absurd (false≢true is)

pub with_entries-is_directory : (b : Body) (es : List DirEntry) (next : ℕ)
    → is_directory (with_entries b es next) ≡ is_directory b
with_entries-is_directory (File bytes) es next = refl
with_entries-is_directory (Directory fs cookie above) es next = refl
with_entries-is_directory (Link target) es next = refl

pub with_entries-listed : (b : Body) (es : List DirEntry) (next : ℕ) → is_directory b ≡ true
    → listed (with_entries b es next) ≡ es
with_entries-listed (File bytes) es next is = absurd (false≢true is)
with_entries-listed (Directory fs cookie above) es next is = refl
with_entries-listed (Link target) es next is = absurd (false≢true is)

pub with_entries-next : (b : Body) (es : List DirEntry) (next : ℕ) → is_directory b ≡ true
    → next_cookie (with_entries b es next) ≡ next
with_entries-next (File bytes) es next is = absurd (false≢true is)
with_entries-next (Directory fs cookie above) es next is = refl
with_entries-next (Link target) es next is = absurd (false≢true is)

-- a directory whose entries changed stays under the same directory
pub with_entries-above : (b : Body) (es fs : List DirEntry) (next cookie up : ℕ)
    → with_entries b es next ≡ Directory fs cookie up → (gs : List DirEntry) × (n : ℕ)
    × (b ≡ Directory gs n up)
with_entries-above (File bytes) es fs next cookie up is = absurd (cc)
with_entries-above (Directory gs n a) es fs next cookie up is =
    (gs, n, let same : a ≡ up = cc in ap (λ a. Directory gs n a) same)
with_entries-above (Link target) es fs next cookie up is = absurd (cc)

pub same_some : {X : Type 0} (x y : X) → Some x ≡ Some y → x ≡ y
same_some x y is = cc

-- ---- a directory with an entry more

pub CookiesRise-push : (from : ℕ) (es : List DirEntry) (end : ℕ) (e : DirEntry) → e.cookie ≡ end
    → CookiesRise from es end → CookiesRise from (es ++ e ∷ []) (end + 1)
CookiesRise-push from [] end e is low = (omega arith, omega arith)
CookiesRise-push from (f ∷ es) end e is rise =
    (rise.0, CookiesRise-push (f.cookie + 1) es end e is rise.1)

-- no entry has a name that isn't found
named_none : (name : List ℕ) (es : List DirEntry) → entry_named name es ≡ None
    → (k : ℕ) (d : DirEntry) → k < length es → (slice_index_or es k d).name ≢ name
named_none name [] none k d low is = absurd (omega arith)
named_none name (f ∷ es) none k d low is = by_test (bytes_eq f.name name) refl none k low is
    (λ none k low is. named_none name es none k d low is) where
      same : f.name ≡ name → bytes_eq f.name name ≡ true
      same is = (bytes_eq-Decides f.name name).1 is

      by_test : (b : Bool) → bytes_eq f.name name ≡ b → cond b (Some f) (entry_named name es) ≡ None
          → (k : ℕ) → k < length (f ∷ es) → (slice_index_or (f ∷ es) k d).name ≡ name
          → (entry_named name es ≡ None → (k : ℕ) → k < length es
          → (slice_index_or es k d).name ≡ name
          → ⊥) → ⊥
      by_test true found none k low is later = cc
      by_test false found none zero low is later = false≢true (sym found ∙ same is)
      by_test false found none (suc k) low is later = later none k (omega arith) is

pub good_joined : (b : Body) (name : List ℕ) (ino : ℕ) → is_directory b ≡ true → IsGoodBody b
    → name_fault name ≡ None → entry_named name (listed b) ≡ None → next_cookie b < 2 ^ 64 - 1
    → IsGoodBody (with_entries b (listed b ++ (record
    { cookie = next_cookie b; name = name; ino = ino } ∷ [])) (next_cookie b + 1))
good_joined (File bytes) name ino is good fine none room = absurd (false≢true is)
good_joined (Link target) name ino is good fine none room = absurd (false≢true is)
good_joined (Directory es next above) name ino is good fine none room = (
  CookiesRise-push 1 es next _ refl good.0,
  All-push (λ e. name_fault e.name ≡ None) es _ good.1 fine,
  all_pairs_push (λ e f. e.name ≢ f.name) es _ good.2 (λ k d low. named_none name es none k d low),
  omega arith,
)
