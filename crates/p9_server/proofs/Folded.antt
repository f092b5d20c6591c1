-- A name that differs in case alone, as a host's calls find it.
use Rattle.std.proofs.Common.{◌≡◌, ◌∙◌, ap, sym, subst, ℕ, Bool, true, List, map, Option}
use Rattle.std.proofs.Common.{Some, None, Result, Ok, Err, IsTrue}
use Rattle.std.specs.Prelude.{◌↔◌}
use Rattle.std.specs.Char.{to_ascii_lowercase}
use Rattle.std.proofs.lemmas.Bool.Decides.{same_from_decides}
use Rattle.std.proofs.lemmas.Slice.Eq.{bytes_eq-Decides}
use Rattle.port_base.specs.declared.errno.TheConstants.{ENOENT}
use Rattle.tree_model.specs.declared.attributes.HostError.{HostError}
use Rattle.tree_model.specs.Tree.{Tree}
use Rattle.tree_model.specs.Reading.{Entry, entry_after_of}
use Rattle.tree_model.specs.Finding.{find, lookup_of, folded_name_of, same_folded}
use Rattle.tree_model.proofs.Folding.{find-folded}
use Rattle.tree_host.specs.Host.{Answers}

-- what the code tests is what the definition does
pub folded_test : (a b n : List ℕ) (r : Bool) → a ≡ b
    → (IsTrue r ↔ (map to_ascii_lowercase a ≡ map to_ascii_lowercase n)) → same_folded b n ≡ r
folded_test a b n r same test =
    ap (λ (m : List ℕ). same_folded m n) (sym same)
    ∙ same_from_decides (same_folded a n) r
    (bytes_eq-Decides (map to_ascii_lowercase a) (map to_ascii_lowercase n)) test

module _ (t t' : Tree) (dir cookie : ℕ) (same : t' ≡ t) where
  -- the entry that a host tells, of a tree that is as it was
  pub entry_next : {o : Option Entry} {a b : Entry} → Answers (entry_after_of t' dir cookie) (Ok o)
      → o ≡ Some b → a ≡ b → entry_after_of t dir cookie ≡ Ok (Some a)
  entry_next told is view =
      ap (λ (u : Tree). entry_after_of u dir cookie) (sym same) ∙ told.exactly
      ∙ ap (λ (o : Option Entry). Ok o) (is ∙ ap Some (sym view))

  -- or that none is left
  pub entry_none : {o : Option Entry} → Answers (entry_after_of t' dir cookie) (Ok o) → o ≡ None
      → entry_after_of t dir cookie ≡ Ok None
  entry_none told is =
      ap (λ (u : Tree). entry_after_of u dir cookie) (sym same) ∙ told.exactly
      ∙ ap (λ (o : Option Entry). Ok o) is

-- the name that was found is looked up
pub found_folded : (t t' : Tree) (dir : ℕ) (name n m : List ℕ)
    (r : Result ℕ HostError) → lookup_of t dir name ≡ Err ENOENT
    → Answers {A = List ℕ} (folded_name_of t dir name) (Ok n) → t' ≡ t → m ≡ n
    → Answers (lookup_of t' dir m) r → Answers (find true t dir name) r
found_folded t t' dir name n m r missing found same is a =
    subst (λ (told : Result ℕ ℕ). Answers told r)
    (ap (λ (u : Tree). lookup_of u dir m) same ∙ ap (lookup_of t dir) is
    ∙ sym (find-folded t dir name missing n found.exactly)) a
