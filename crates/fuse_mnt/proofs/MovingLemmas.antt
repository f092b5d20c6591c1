-- Rows that pass a test, one by one.
use Rattle.std.proofs.Common.{◌≡◌, ◌∙◌, ◌<◌, ◌+◌, ℕ, refl, Bool, List, [], ◌∷◌, ◌++◌, length, take, map}
use Rattle.std.proofs.Common.{drop, slice_index_or, ap, arith}
use Rattle.std.specs.Prelude.{filter}
use Rattle.std.proofs.lemmas.List.{append-nil, drop_all, take_all, take_more, map-append}
use Rattle.std.proofs.lemmas.List.Elements.{filter-append}
use Rattle.std.specs.List.{fold}
use Rattle.libmount.specs.MountTables.{Mount, MountTable, add_row, is_among, moved_row, relocated}
use Rattle.libmount.specs.MountTables.{stays_among, with_child, with_parent}
use Rattle.fuse_mnt.specs.Tables.{cover_id}

pub filter_more : (p : Mount → Bool) (xs : List Mount) (i : ℕ) (d : Mount) → i < length xs
    → filter p (take (i + 1) xs) ≡ filter p (take i xs) ++ filter p (slice_index_or xs i d ∷ [])
filter_more p xs i d lt =
    ap (filter p) (take_more xs i d lt) ∙ filter-append p (take i xs) (slice_index_or xs i d ∷ [])

pub map_filter_more : (f : Mount → Mount) (p : Mount → Bool) (xs : List Mount) (i : ℕ) (d : Mount)
    → i < length xs → map f (filter p (take (i + 1) xs)) ≡ map f (filter p (take i xs))
    ++ map f (filter p (slice_index_or xs i d ∷ []))
map_filter_more f p xs i d lt =
    ap (map f) (filter_more p xs i d lt)
    ∙ map-append f (filter p (take i xs)) (filter p (slice_index_or xs i d ∷ []))

pub relocated_whole : (source target : List ℕ) (top parent : ℕ)
    (rows others moved parented all : List Mount) (ids : List ℕ)
    → ids ≡ fold with_child (top ∷ []) rows → others ≡ filter (stays_among ids) rows
    → moved ≡ map (moved_row source target) (filter (is_among ids) rows)
    → parent ≡ cover_id target others → parented ≡ with_parent parent moved
    → all ≡ others ++ parented → all ≡ relocated source target top rows
unfolding cover_id
relocated_whole source target top parent rows others moved parented all ids i o m p w a =
    rw (a, w, p, m, o, i) refl

pub row_added : (row : Mount) (table : MountTable) (parent : ℕ) (rows : List Mount)
    → parent ≡ cover_id row.point table.rows
    → rows ≡ table.rows ++ record row { id = table.next_id; parent = parent } ∷ []
    → record table { rows = rows; next_id = table.next_id + 1 } ≡ add_row row table
unfolding cover_id
row_added row table parent rows p r = rw (r, p) refl

with_parent_length : (parent : ℕ) (rows : List Mount)
    → length (with_parent parent rows) ≡ length rows
with_parent_length parent [] = refl
with_parent_length parent (row ∷ rows) = refl

-- rows that were written through a slice of all of them
pub parent_set : (count parent : ℕ) (new old : List Mount) → new ≡ with_parent parent old
    → count ≡ length old
    → take count (new ++ drop (length new) old) ≡ with_parent parent old
parent_set count parent new old is all =
    let same : length new ≡ length old = ap length is ∙ with_parent_length parent old in
    ap (λ rest. take count (new ++ rest)) (drop_all (length new) old (omega (arith, same)))
    ∙ ap (take count) (append-nil new) ∙ take_all count new (omega (arith, same, all)) ∙ is
