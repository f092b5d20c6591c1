-- What a small server refuses: it follows by computation from what its map of fids has.
use Rattle.std.proofs.Common.{◌≡◌, ℕ, Bool, true, false, cond, not, ◌&&◌, ap, ◌∙◌, Option, Some}
use Rattle.std.proofs.Common.{None, Result, Ok, Err}
use Rattle.std.specs.Prelude.{codes, is_none, is_some, nat_le}
use Rattle.std.specs.FinMap.{get, len}
use Rattle.port_base.specs.declared.errno.TheConstants.{EBADF, EINVAL, ENFILE}
use Rattle.port_base.proofs.ByComputing.{name_word}
use Rattle.fid_model.specs.Fids.{Fid, Fids, closed}
use Rattle.fid_model.specs.Samples.{server, with_open}
use Rattle.fid_model.proofs.Sampling.{seven, eight, nine, eight_open, nine_with_open, opened_file}
use Rattle.fid_model.proofs.Sampling.{room, no_room}
use Rattle.p9_server.specs.Configs.{config_refused}
use Rattle.p9_server.specs.declared.config.ConfigError.TheVariants.{BadRoot}
use Rattle.p9_server.specs.Steps.{attach_refused, walk_start, start_from}

-- ---- roots

pub good_root : config_refused 256 (codes "/hello") ≡ None
good_root = ap (λ (o : Option ℕ). cond (not (is_none o && true)) (Some BadRoot) None) name_word

pub last_slash : config_refused 256 (codes "/hello/") ≡ Some BadRoot
last_slash = ap (λ (o : Option ℕ). cond (not (is_none o && false)) (Some BadRoot) None) name_word

-- ---- new fids

-- by what the fid has, and whether there is no room
abbrev refused : Option Fid → Bool → Option ℕ
refused o full = cond (is_some o) (Some EBADF) (cond full (Some ENFILE) None)

pub fid_free : attach_refused server.fids 2 8 ≡ None
fid_free = ap (λ o. refused o (nat_le 2 (len server.fids))) eight ∙ ap (refused None) room

pub fid_used : attach_refused server.fids 2 7 ≡ Some EBADF
fid_used = ap (λ o. refused o (nat_le 2 (len server.fids))) seven

pub fids_full : attach_refused with_open.fids 2 9 ≡ Some ENFILE
fids_full = ap (λ o. refused o (nat_le 2 (len with_open.fids))) nine_with_open
    ∙ ap (refused None) no_room

-- ---- walks

-- by what the new fid and the old one have
abbrev begun : Fids → ℕ → Option Fid → Option Fid → Result ℕ ℕ
begun fids count taken from = cond (is_some taken) (Err EBADF)
    (start_from false (nat_le 2 (len fids)) count from)

pub walk_begins : walk_start server.fids 2 7 8 1 ≡ Ok 1
walk_begins = ap (λ o. begun server.fids 1 o (get server.fids 7)) eight
    ∙ ap (begun server.fids 1 None) seven ∙ ap (λ full. start_from false full 1 (Some (closed 1)))
    room

pub walk_stays : walk_start with_open.fids 2 8 8 16 ≡ Ok 2
walk_stays = ap (start_from true (nat_le 2 (len with_open.fids)) 16) eight_open

pub walk_onto_used : walk_start with_open.fids 2 9 8 1 ≡ Err EBADF
walk_onto_used = ap (λ o. begun with_open.fids 1 o (get with_open.fids 9)) eight_open

pub walk_from_none : walk_start server.fids 2 9 8 1 ≡ Err EBADF
walk_from_none = ap (λ o. begun server.fids 1 o (get server.fids 9)) eight
    ∙ ap (begun server.fids 1 None) nine

pub walk_without_room : walk_start with_open.fids 2 8 9 17 ≡ Err ENFILE
walk_without_room =
    ap (λ o. begun with_open.fids 17 o (get with_open.fids 8)) nine_with_open
    ∙ ap (begun with_open.fids 17 None) eight_open
    ∙ ap (λ full. start_from false full 17 (Some opened_file)) no_room

pub walk_of_many : walk_start server.fids 2 7 8 17 ≡ Err EINVAL
walk_of_many = ap (λ o. begun server.fids 17 o (get server.fids 7)) eight
    ∙ ap (begun server.fids 17 None) seven ∙ ap (λ full. start_from false full 17 (Some (closed 1)))
    room
