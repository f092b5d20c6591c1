-- A part of a part is a part.
use Rattle.std.proofs.Common.{◌≡◌, ℕ, ◌+◌, ◌-◌, ◌≤◌, List, length, take, drop, Some, None, Result}
use Rattle.std.proofs.Common.{Ok, Err, refl, sym, ap, ◌∙◌, arith, take_all}
use Rattle.std.specs.declared.option.Option.{Option}
use Rattle.std.specs.Prelude.{IfSome}
use Rattle.std.specs.Borrow.{Bor}
use Rattle.std.proofs.lemmas.List.{drop-drop, drop-take, take-take}
use Rattle.libmount.specs.declared.mountinfo.escapes.Field.{Field}
use Rattle.libmount.specs.declared.mountinfo.escapes.Field.TheVariants.{Borrowed, Owned}
use Rattle.libmount.specs.declared.mountinfo.errors.ParseError.{ParseError}
use Rattle.libmount.specs.declared.mountinfo.rows.MountPoint.{MountPoint}
use Rattle.libmount.specs.Parsers.{ItemLiesIn, ItemLiesInRest}
use Rattle.libmount.specs.Slices.{FieldLiesIn, LiesIn, LiesInRest, RowLiesIn, StaysIn}

-- bytes of a front of a list, from a place on
front-part : (n m k : ℕ) (xs : List ℕ) → k + n ≤ m
    → take n (drop k (take m xs)) ≡ take n (drop k xs)
front-part n m k xs fits =
    ap (λ (j : ℕ). take n (drop k (take j xs))) (let e : m ≡ k + (m - k) = omega arith in e)
    ∙ ap (take n) (drop-take k (m - k) xs) ∙ take-take n (m - k) (drop k xs) (omega arith)

module _ (a b c : Bor (List ℕ)) where
  pub LiesIn-trans : LiesIn a b → LiesIn b c → LiesIn a c
  LiesIn-trans h k = record {
    start = h.start + k.start;
    block = k.block ∙ h.block;
    address = omega (arith, h.address, k.address);
    within = omega (arith, h.within, k.within);
    bytes =
        k.bytes ∙ ap (λ (t : List ℕ). take (length c.now) (drop k.start t)) h.bytes
        ∙ front-part (length c.now) (length b.now) k.start (drop h.start a.now) k.within
        ∙ ap (take (length c.now)) (drop-drop k.start h.start a.now);
  }

pub LiesIn-refl : (a : Bor (List ℕ)) → LiesIn a a
LiesIn-refl a = record {
  start = 0;
  block = refl;
  address = omega arith;
  within =
      omega arith;
  bytes = sym (take_all (length a.now) a.now (omega arith));
}

module _ (a b : Bor (List ℕ)) (h : LiesIn a b) where
  pub FieldLiesIn-trans : (field : Field) → FieldLiesIn b field → FieldLiesIn a field
  FieldLiesIn-trans (Borrowed bytes) k = LiesIn-trans a b bytes h k
  FieldLiesIn-trans (Owned bytes) k = tt

  pub RowLiesIn-trans : (m : MountPoint) → RowLiesIn b m → RowLiesIn a m
  RowLiesIn-trans m k = record {
    root = FieldLiesIn-trans m.root k.root;
    mount_point = FieldLiesIn-trans m.mount_point k.mount_point;
    mount_options = FieldLiesIn-trans m.mount_options k.mount_options;
    optional_fields = FieldLiesIn-trans m.optional_fields k.optional_fields;
    fstype = FieldLiesIn-trans m.fstype k.fstype;
    mount_source = FieldLiesIn-trans m.mount_source k.mount_source;
    super_options = FieldLiesIn-trans m.super_options k.super_options;
  }

  pub found-trans : (found : Option MountPoint) → IfSome found (RowLiesIn b)
      → IfSome found (RowLiesIn a)
  found-trans None k = tt
  found-trans (Some m) k = RowLiesIn-trans m k

pub StaysIn-refl : (a : Option (Bor (List ℕ))) → StaysIn a a
StaysIn-refl None = tt
StaysIn-refl (Some x) = LiesIn-refl x

pub StaysIn-trans : (a b c : Option (Bor (List ℕ))) → StaysIn a b → StaysIn b c → StaysIn a c
StaysIn-trans a b None h k = tt
StaysIn-trans a None (Some z) h k = absurd k
StaysIn-trans None (Some y) (Some z) h k = absurd h
StaysIn-trans (Some x) (Some y) (Some z) h k = LiesIn-trans x y z h k

pub LiesInRest-trans : (a b : Option (Bor (List ℕ))) (c : Bor (List ℕ)) → StaysIn a b
    → LiesInRest b c → LiesInRest a c
LiesInRest-trans a None c h k = absurd k
LiesInRest-trans None (Some y) c h k = absurd h
LiesInRest-trans (Some x) (Some y) c h k = LiesIn-trans x y c h k

-- what lies in a line lies in the text that the line was taken from
pub Item-trans : (a b : Option (Bor (List ℕ))) (line : Bor (List ℕ))
    (item : Result MountPoint ParseError) → StaysIn a b → LiesInRest b line → ItemLiesIn line item
    → ItemLiesInRest a item
Item-trans a None line item h k i = absurd k
Item-trans None (Some y) line item h k i = absurd h
Item-trans (Some x) (Some y) line (Ok m) h k i =
    RowLiesIn-trans x line (LiesIn-trans x y line h k) m i
Item-trans (Some x) (Some y) line (Err e) h k i = tt

-- what lies in the text that is left later lies in the text that was left before
pub ItemLiesInRest-trans : (a b : Option (Bor (List ℕ))) (item : Result MountPoint ParseError)
    → StaysIn a b → ItemLiesInRest b item → ItemLiesInRest a item
ItemLiesInRest-trans a None item h i = absurd i
ItemLiesInRest-trans None (Some y) item h i = absurd h
ItemLiesInRest-trans (Some x) (Some y) (Ok m) h i = RowLiesIn-trans x y h m i
ItemLiesInRest-trans (Some x) (Some y) (Err e) h i = tt
