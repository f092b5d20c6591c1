-- Copies of the rows below a path, one by one.
use Rattle.std.proofs.Common.{◌≡◌, ◌∙◌, ◌<◌, ◌+◌, ℕ, Bool, true, false, List, [], ◌∷◌}
use Rattle.std.proofs.Common.{length, take, slice_index_or, refl, sym, ap, arith, length-append}
use Rattle.std.specs.Prelude.{filter}
use Rattle.std.specs.List.{fold}
use Rattle.std.proofs.lemmas.List.{get_or-take, take-append-le}
use Rattle.std.proofs.lemmas.List.Sums.{fold-append}
use Rattle.libmount.specs.MountTables.{Mount, MountTable, add_row, copy_row, is_below, moved_row}
use Rattle.libmount.specs.MountTables.{root_mount}
use Rattle.fuse_mnt.specs.Tables.{IsGrown}
use Rattle.fuse_mnt.proofs.LookupLemmas.{index_same}
use Rattle.fuse_mnt.proofs.MovingLemmas.{filter_more}

pub front_same : (xs ys : List Mount) (count at : ℕ) → at < count → take count xs ≡ take count ys
    → slice_index_or xs at root_mount ≡ slice_index_or ys at root_mount
front_same xs ys count at lt same =
    sym (get_or-take count xs at root_mount lt) ∙ ap (λ l. slice_index_or l at root_mount) same
    ∙ get_or-take count ys at root_mount lt

filter_one : (p : Mount → Bool) (x : Mount) (b : Bool) → p x ≡ b
    → filter p (x ∷ []) ≡ filter (λ y. b) (x ∷ [])
filter_one p x b is = rw is refl

module _ (source target : List ℕ) (old now : MountTable) (count at : ℕ) (there : at < length old.rows)
    (so : now ≡ fold (copy_row source target) old (filter (is_below source) (take at old.rows)))
  where
    abbrev here : Mount
    here = slice_index_or old.rows at root_mount

    so_far : (b : Bool) → is_below source here ≡ b
        → fold (copy_row source target) old (filter (is_below source) (take (at + 1) old.rows))
        ≡ fold (copy_row source target) now (filter (λ (y : Mount). b) (here ∷ []))
    so_far b is =
        ap (fold (copy_row source target) old) (filter_more (is_below source) old.rows at root_mount there)
        ∙ fold-append (copy_row source target) old (filter (is_below source) (take at old.rows))
        (filter (is_below source) (here ∷ []))
        ∙ ap (λ (t : MountTable). fold (copy_row source target) t (filter (is_below source) (here ∷ [])))
        (sym so)
        ∙ ap (fold (copy_row source target) now) (filter_one (is_below source) here b is)

    pub copied_none : is_below source here ≡ false
        → now ≡ fold (copy_row source target) old (filter (is_below source) (take (at + 1) old.rows))
    copied_none is = sym (so_far false is)

    pub copied_one : (row : Mount) (new : MountTable) → is_below source here ≡ true
        → row ≡ moved_row source target here → new ≡ add_row row now
        → new ≡ fold (copy_row source target) old (filter (is_below source) (take (at + 1) old.rows))
    copied_one row new is moved added =
        added ∙ ap (λ (r : Mount). add_row r now) moved ∙ sym (so_far true is)

-- an element that was read is the one that stood there first
pub element_same : (items : List Mount) (old now : MountTable) (count at : ℕ) (found : Mount)
    → at < count → IsGrown count old now → items ≡ now.rows
    → found ≡ slice_index_or items at found → found ≡ slice_index_or old.rows at root_mount
element_same items old now count at found lt grown same is =
    let lengths : length items ≡ length now.rows = ap length same in
    is ∙ index_same items at found root_mount (omega (arith, lt, grown.longer, lengths))
    ∙ ap (λ rows. slice_index_or rows at root_mount) same
    ∙ front_same now.rows old.rows count at lt grown.front

pub grown_more : (row : Mount) (old now new : MountTable) (count : ℕ) → IsGrown count old now
    → new ≡ add_row row now → IsGrown count old new
grown_more row old now new count grown added =
    let longer : length (add_row row now).rows ≡ length now.rows + 1 = length-append now.rows _ in
    rw added (record {
      front = take-append-le count now.rows _ grown.longer ∙ grown.front;
      longer = omega (arith, grown.longer, longer);
      present = grown.present;
      permitted = grown.permitted;
      next_minor = grown.next_minor;
    })
