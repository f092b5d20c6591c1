-- The bits of a Tsetattr say what those of a SETATTR say.
use Rattle.std.proofs.Common.{◌≡◌, ℕ, Bool, true, false, not, ◌&&◌, ◌||◌, List, [], ◌∷◌, refl, sym, ap}
use Rattle.std.proofs.Common.{◌∙◌, arith}
use Rattle.std.specs.Prelude.{◌==◌}
use Rattle.std.specs.Int.Bits.{bit_and}
use Rattle.std.proofs.lemmas.Bool.Decides.{nat_tests}
use Rattle.std.proofs.lemmas.Nat.{and_assoc, and_or_apart, and_or_self}
use Rattle.port_base.specs.OpenFlags.{has_flag}
use Rattle.tree_model.specs.AttributeSteps.{new_owner, new_time}
use Rattle.tree_model.specs.declared.attributes.Stamp.{Stamp}
use Rattle.fuse_wire.specs.declared.setattr.SetAttrIn.{SetAttrIn}
use Rattle.fuse_wire.specs.declared.setattr.TheConstants.{FATTR_MODE, FATTR_UID, FATTR_GID}
use Rattle.fuse_wire.specs.declared.setattr.TheConstants.{FATTR_SIZE, FATTR_ATIME, FATTR_MTIME}
use Rattle.fuse_wire.specs.declared.setattr.TheConstants.{FATTR_ATIME_NOW, FATTR_MTIME_NOW}
use Rattle.fuse_wire.specs.declared.setattr.TheConstants.{FATTR_CTIME}
use Rattle.tree_machine.specs.Setting.{new_attributes as wanted}
use Rattle.fid_model.specs.Setattr.{new_attributes as asked_of_nine}
use Rattle.p9_client.specs.Changing.{changes_of}
use Rattle.fuse_gate.specs.Setting.{nine_valid, set_message, with_bit, with_bits}

-- ---- one bit

-- a bit is set where it was wanted
own : (b : Bool) (bit bits : ℕ) → has_flag bit bits ≡ false → (bit == 0) ≡ false
    → has_flag bit (with_bit b bit bits) ≡ b
own true bit bits before some = ap (λ n. not (n == 0)) (and_or_self bit bits) ∙ ap not some
own false bit bits before some = before

-- and no other
beside : (b : Bool) (n bit bits : ℕ) → bit_and bit n ≡ 0
    → has_flag n (with_bit b bit bits) ≡ has_flag n bits
beside true n bit bits apart = ap (λ k. not (k == 0)) (and_or_apart n bits bit apart)
beside false n bit bits apart = refl

abbrev AreApart : ℕ → List (Bool × ℕ) → Type 0
AreApart n [] = Unit {0}
AreApart n (x ∷ more) = (bit_and x.1 n ≡ 0) × AreApart n more

skip : (n : ℕ) (more : List (Bool × ℕ)) (bits : ℕ) → AreApart n more
    → has_flag n (with_bits more bits) ≡ has_flag n bits
skip n [] bits apart = refl
skip n (x ∷ more) bits (first, rest) =
    skip n more (with_bit x.0 x.1 bits) rest ∙ beside x.0 n x.1 bits first

-- ---- nine bits

module _ (mode uid gid size atime mtime ctime given_atime given_mtime : Bool) where
  abbrev times : List (Bool × ℕ)
  times = (given_atime, 128) ∷ (given_mtime, 256) ∷ []

  abbrev whole : ℕ
  whole = with_bits ((mode, 1) ∷ (uid, 2) ∷ (gid, 4) ∷ (size, 8) ∷ (atime, 16) ∷ (mtime, 32)
      ∷ (ctime, 64) ∷ times) 0

  mode_bit : has_flag 1 whole ≡ mode
  mode_bit = skip 1 ((uid, 2) ∷ (gid, 4) ∷ (size, 8) ∷ (atime, 16) ∷ (mtime, 32) ∷ (ctime, 64)
      ∷ times) (with_bits ((mode, 1) ∷ []) 0)
      (refl, (refl, (refl, (refl, (refl, (refl, (refl, (refl, tt))))))))
      ∙ own mode 1 0 refl refl

  uid_bit : has_flag 2 whole ≡ uid
  uid_bit = skip 2 ((gid, 4) ∷ (size, 8) ∷ (atime, 16) ∷ (mtime, 32) ∷ (ctime, 64) ∷ times)
      (with_bits ((mode, 1) ∷ (uid, 2) ∷ []) 0) (refl, (refl, (refl, (refl, (refl, (refl, (refl, tt)))))))
      ∙ own uid 2 (with_bits ((mode, 1) ∷ []) 0) (skip 2 ((mode, 1) ∷ []) 0 (refl, tt)) refl

  gid_bit : has_flag 4 whole ≡ gid
  gid_bit = skip 4 ((size, 8) ∷ (atime, 16) ∷ (mtime, 32) ∷ (ctime, 64) ∷ times)
      (with_bits ((mode, 1) ∷ (uid, 2) ∷ (gid, 4) ∷ []) 0) (refl, (refl, (refl, (refl, (refl, (refl, tt))))))
      ∙ own gid 4 (with_bits ((mode, 1) ∷ (uid, 2) ∷ []) 0)
      (skip 4 ((mode, 1) ∷ (uid, 2) ∷ []) 0 (refl, (refl, tt))) refl

  size_bit : has_flag 8 whole ≡ size
  size_bit = skip 8 ((atime, 16) ∷ (mtime, 32) ∷ (ctime, 64) ∷ times)
      (with_bits ((mode, 1) ∷ (uid, 2) ∷ (gid, 4) ∷ (size, 8) ∷ []) 0)
      (refl, (refl, (refl, (refl, (refl, tt)))))
      ∙ own size 8 (with_bits ((mode, 1) ∷ (uid, 2) ∷ (gid, 4) ∷ []) 0)
      (skip 8 ((mode, 1) ∷ (uid, 2) ∷ (gid, 4) ∷ []) 0 (refl, (refl, (refl, tt)))) refl

  atime_bit : has_flag 16 whole ≡ atime
  atime_bit = skip 16 ((mtime, 32) ∷ (ctime, 64) ∷ times)
      (with_bits ((mode, 1) ∷ (uid, 2) ∷ (gid, 4) ∷ (size, 8) ∷ (atime, 16) ∷ []) 0)
      (refl, (refl, (refl, (refl, tt))))
      ∙ own atime 16 (with_bits ((mode, 1) ∷ (uid, 2) ∷ (gid, 4) ∷ (size, 8) ∷ []) 0)
      (skip 16 ((mode, 1) ∷ (uid, 2) ∷ (gid, 4) ∷ (size, 8) ∷ []) 0
      (refl, (refl, (refl, (refl, tt))))) refl

  mtime_bit : has_flag 32 whole ≡ mtime
  mtime_bit = skip 32 ((ctime, 64) ∷ times)
      (with_bits ((mode, 1) ∷ (uid, 2) ∷ (gid, 4) ∷ (size, 8) ∷ (atime, 16) ∷ (mtime, 32) ∷ []) 0)
      (refl, (refl, (refl, tt)))
      ∙ own mtime 32 (with_bits ((mode, 1) ∷ (uid, 2) ∷ (gid, 4) ∷ (size, 8) ∷ (atime, 16) ∷ []) 0)
      (skip 32 ((mode, 1) ∷ (uid, 2) ∷ (gid, 4) ∷ (size, 8) ∷ (atime, 16) ∷ []) 0
      (refl, (refl, (refl, (refl, (refl, tt)))))) refl

  abbrev front : List (Bool × ℕ)
  front = (mode, 1) ∷ (uid, 2) ∷ (gid, 4) ∷ (size, 8) ∷ (atime, 16) ∷ (mtime, 32) ∷ (ctime, 64) ∷ []

  given_atime_bit : has_flag 128 whole ≡ given_atime
  given_atime_bit = skip 128 ((given_mtime, 256) ∷ [])
      (with_bit given_atime 128 (with_bits front 0)) (refl, tt)
      ∙ own given_atime 128 (with_bits front 0)
      (skip 128 front 0 (refl, (refl, (refl, (refl, (refl, (refl, (refl, tt)))))))) refl

  given_mtime_bit : has_flag 256 whole ≡ given_mtime
  given_mtime_bit = own given_mtime 256 (with_bit given_atime 128 (with_bits front 0))
      (beside given_atime 256 128 (with_bits front 0) refl
      ∙ skip 256 front 0 (refl, (refl, (refl, (refl, (refl, (refl, (refl, tt)))))))) refl

-- a bit beside that of ctime is set
not_alone : (n bits : ℕ) → bit_and 511 n ≡ n → bit_and 64 n ≡ 0 → has_flag n bits ≡ true
    → (bit_and bits 511 == 64) ≡ false
not_alone n bits within apart is = by_test (bit_and bits 511 == 64) refl where
  by_test : (b : Bool) → (bit_and bits 511 == 64) ≡ b → b ≡ false
  by_test false alone = refl
  by_test true alone =
      let same : bit_and bits 511 ≡ 64 = grind (arith, nat_tests) in
      let none : bit_and bits n ≡ 0 = sym (ap (bit_and bits) within) ∙ sym (and_assoc n bits 511)
      ∙ ap (λ k. bit_and k n) same ∙ apart in
      absurd (let clash : true ≡ false = sym is ∙ ap (λ k. not (k == 0)) none in cc)

none : (b : Bool) → false ≡ (b && false)
none true = refl
none false = refl

-- ctime alone is set where nothing else is
alone : (mode uid gid size atime mtime ctime na nm : Bool)
    → (bit_and (whole mode uid gid size atime mtime ctime (atime && na) (mtime && nm)) 511 == 64)
    ≡ (ctime && not (mode || uid || gid || size || atime || mtime))
alone true uid gid size atime mtime ctime na nm = not_alone 1 _ refl refl
    (mode_bit true uid gid size atime mtime ctime (atime && na) (mtime && nm)) ∙ none ctime
alone false true gid size atime mtime ctime na nm = not_alone 2 _ refl refl
    (uid_bit false true gid size atime mtime ctime (atime && na) (mtime && nm)) ∙ none ctime
alone false false true size atime mtime ctime na nm = not_alone 4 _ refl refl
    (gid_bit false false true size atime mtime ctime (atime && na) (mtime && nm))
    ∙ none ctime
alone false false false true atime mtime ctime na nm = not_alone 8 _ refl refl
    (size_bit false false false true atime mtime ctime (atime && na) (mtime && nm))
    ∙ none ctime
alone false false false false true mtime ctime na nm = not_alone 16 _ refl refl
    (atime_bit false false false false true mtime ctime na (mtime && nm)) ∙ none ctime
alone false false false false false true ctime na nm = not_alone 32 _ refl refl
    (mtime_bit false false false false false true ctime false nm) ∙ none ctime
alone false false false false false false true na nm = refl
alone false false false false false false false na nm = refl

-- ---- what is set

-- a given time is no time where none is set
time_is : (set given : Bool) (s : Stamp) → new_time set (set && given) s ≡ new_time set given s
time_is true given s = refl
time_is false given s = refl

pub same_attributes : (fid : ℕ) (a : SetAttrIn)
    → asked_of_nine (changes_of (set_message fid a)) ≡ wanted a
same_attributes fid a =
    let v = a.valid in
    let mode = has_flag FATTR_MODE v in
    let uid = has_flag FATTR_UID v in
    let gid = has_flag FATTR_GID v in
    let size = has_flag FATTR_SIZE v in
    let atime = has_flag FATTR_ATIME v in
    let mtime = has_flag FATTR_MTIME v in
    let ctime = has_flag FATTR_CTIME v in
    let na = not (has_flag FATTR_ATIME_NOW v) in
    let nm = not (has_flag FATTR_MTIME_NOW v) in
    let is_mode = mode_bit mode uid gid size atime mtime ctime (atime && na) (mtime && nm) in
    let is_uid = uid_bit mode uid gid size atime mtime ctime (atime && na) (mtime && nm) in
    let is_gid = gid_bit mode uid gid size atime mtime ctime (atime && na) (mtime && nm) in
    let is_size = size_bit mode uid gid size atime mtime ctime (atime && na) (mtime && nm) in
    let is_atime = atime_bit mode uid gid size atime mtime ctime (atime && na) (mtime && nm) in
    let is_mtime = mtime_bit mode uid gid size atime mtime ctime (atime && na) (mtime && nm) in
    let is_given_atime =
    given_atime_bit mode uid gid size atime mtime ctime (atime && na) (mtime && nm) in
    let is_given_mtime =
    given_mtime_bit mode uid gid size atime mtime ctime (atime && na) (mtime && nm) in
    let at : Stamp = record { sec = a.atime; nsec = a.atimensec } in
    let mt : Stamp = record { sec = a.mtime; nsec = a.mtimensec } in
    let atime_is : new_time (has_flag 16 (nine_valid v)) (has_flag 128 (nine_valid v)) at
    ≡ new_time atime na at =
    (λ j. new_time (is_atime j) (is_given_atime j) at) ∙ time_is atime na at in
    let mtime_is : new_time (has_flag 32 (nine_valid v)) (has_flag 256 (nine_valid v)) mt
    ≡ new_time mtime nm mt =
    (λ j. new_time (is_mtime j) (is_given_mtime j) mt) ∙ time_is mtime nm mt in
    let touches = alone mode uid gid size atime mtime ctime na nm in
    (λ j. record {
      sets_mode = is_mode j;
      mode = a.mode;
      sets_owner = is_uid j || is_gid j;
      uid = new_owner (is_uid j) a.uid;
      gid = new_owner (is_gid j) a.gid;
      sets_size = is_size j;
      size = a.size;
      sets_times = is_atime j || is_mtime j;
      atime = atime_is j;
      mtime = mtime_is j;
      touches_ctime = touches j;
    })
