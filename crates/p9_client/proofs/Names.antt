-- The messages that have names have frames which the server takes.
use Rattle.std.proofs.Common.{◌≡◌, ℕ, ◌≤◌, ◌<◌, ◌^◌, List, [], ◌∷◌, ◌+◌, ◌++◌, length, None, arith}
use Rattle.std.proofs.lemmas.List.{length-append}
use Rattle.port_base.specs.Names.{name_fault}
use Rattle.p9_wire.specs.declared.protocol.TheConstants.{TWRITE_HEADER_SIZE}
use Rattle.p9_wire.specs.Values.{TextSpells, le32, text_spelling}
use Rattle.p9_tmsg.specs.Messages.{message_spelling}
use Rattle.p9_tmsg.specs.Messages.Message.{lcreate, link, mkdir, mknod, renameat, symlink}
use Rattle.p9_tmsg.specs.Messages.Message.{unlinkat, walk, write}
use Rattle.fid_model.specs.Fids.{ServerState}
use Rattle.fid_model.proofs.Names.{name_is_text}
use Rattle.p9_client.specs.Asking.{IsAskable}
use Rattle.p9_client.specs.Views.{IsRoomy}

pub walk_askable : (s : ServerState) (fid newfid : ℕ) (name : List ℕ) → IsRoomy s → fid < 2 ^ 32
    → newfid < 2 ^ 32 → name_fault name ≡ None → IsAskable s (walk fid newfid (name ∷ []))
walk_askable s fid newfid name roomy a b named =
    let text = name_is_text name named in
    record {
      spells = (a, (b, (omega arith, ((omega (arith, text.0), text.1), tt))));
      readable =
          tt;
      bounded = tt;
      short = omega (arith, text.0, roomy.enough, length-append name []);
    }

module _ (s : ServerState) (roomy : IsRoomy s) (fid : ℕ) (a : fid < 2 ^ 32) (name : List ℕ)
    (named : name_fault name ≡ None) where
  pub link_askable : (dfid : ℕ) → dfid < 2 ^ 32 → IsAskable s (link dfid fid name)
  link_askable dfid b =
      let text = name_is_text name named in
      record {
        spells = (b, (a, (omega (arith, text.0), text.1)));
        readable = tt;
        bounded = tt;
        short = omega (arith, text.0, roomy.enough);
      }

  pub mkdir_askable : (mode : ℕ) → mode < 2 ^ 32 → IsAskable s (mkdir fid name mode 0)
  mkdir_askable mode b =
      let text = name_is_text name named in
      record {
        spells = (a, ((omega (arith, text.0), text.1), (b, omega arith)));
        readable = tt;
        bounded = tt;
        short = omega (arith, text.0, roomy.enough, length-append name (le32 mode ++ le32 0));
      }

  pub unlinkat_askable : (flags : ℕ) → flags < 2 ^ 32 → IsAskable s (unlinkat fid name flags)
  unlinkat_askable flags b =
      let text = name_is_text name named in
      record {
        spells = (a, ((omega (arith, text.0), text.1), b));
        readable = tt;
        bounded = tt;
        short = omega (arith, text.0, roomy.enough, length-append name (le32 flags));
      }

  pub renameat_askable : (newfid : ℕ) → newfid < 2 ^ 32 → (new : List ℕ) → name_fault new ≡ None
      → IsAskable s (renameat fid name newfid new)
  renameat_askable newfid b new new_named =
      let text = name_is_text name named in
      let other = name_is_text new new_named in
      record {
        spells = (a, ((omega (arith, text.0), text.1), (b, (omega (arith, other.0), other.1))));
        readable = tt;
        bounded = tt;
        short = omega (
          arith,
          text.0,
          other.0,
          roomy.enough,
          length-append name (le32 newfid ++ text_spelling new),
        );
      }

pub write_askable : (s : ServerState) (fid offset : ℕ) (bytes : List ℕ) → fid < 2 ^ 32
    → offset < 2 ^ 64 → length bytes ≤ 33554432 → TWRITE_HEADER_SIZE + length bytes ≤ s.msize
    → IsAskable s (write fid offset bytes)
write_askable s fid offset bytes a b few fits =
    record {
      spells = (a, (b, omega (arith, few)));
      readable = few;
      bounded = tt;
      short = omega (arith, fits);
    }

module _ (s : ServerState) (roomy : IsRoomy s) (fid mode : ℕ) (a : fid < 2 ^ 32) (b : mode < 2 ^ 32)
    (name : List ℕ) (named : name_fault name ≡ None) where
  pub lcreate_askable : (flags : ℕ) → flags < 2 ^ 32 → IsAskable s (lcreate fid name flags mode 0)
  lcreate_askable flags c =
      let text = name_is_text name named in
      record {
        spells = (a, ((omega (arith, text.0), text.1), (c, (b, omega arith))));
        readable = tt;
        bounded = tt;
        short = omega (
          arith,
          text.0,
          roomy.enough,
          length-append name
              (le32 flags ++ (le32 mode ++ le32 0)),
        );
      }

  pub mknod_askable : (major minor : ℕ) → major < 2 ^ 32 → minor < 2 ^ 32
      → IsAskable s (mknod fid name mode major minor 0)
  mknod_askable major minor c d =
      let text = name_is_text name named in
      record {
        spells = (a, ((omega (arith, text.0), text.1), (b, (c, (d, omega arith)))));
        readable = tt;
        bounded = tt;
        short = omega (
          arith,
          text.0,
          roomy.enough,
          length-append name
              (le32 mode ++ (le32 major ++ (le32 minor ++ le32 0))),
        );
      }

pub symlink_askable : (s : ServerState) (fid : ℕ) → fid < 2 ^ 32 → (name target : List ℕ)
    → name_fault name ≡ None → TextSpells target
    → 7 + length (message_spelling (symlink fid name target 0)) ≤ s.msize
    → IsAskable s (symlink fid name target 0)
symlink_askable s fid a name target named text fits =
    let named_text = name_is_text name named in
    record {
      spells = (a, ((omega (arith, named_text.0), named_text.1), (text, omega arith)));
      readable = tt;
      bounded = tt;
      short = fits;
    }
