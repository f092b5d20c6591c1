-- A root that isn't UTF-8 has no text.
use Rattle.std.proofs.Common.{◌∙◌, sym, ap, cond, Bool}
use Rattle.std.specs.Str.{is_utf8}
use Rattle.std.proofs.lemmas.Str.{is_utf8-from_IsUtf8}
use Rattle.p9_server.specs.declared.config_json.ConfigJsonError.TheVariants.{NoMemory, Root}
use Rattle.p9_server.specs.ConfigJsons.{config_of}
use Rattle.p9_server.proofs.JsonBack.{ids_back, config_back}
use Rattle.p9_server.proofs.JsonRoots.{no_utf8}
use Rattle.p9_server.proofs.config.Config.to_json.Goals as goal

pub returns-in_default-clause-refused : goal.returns-in_default-clause-refused
returns-in_default-clause-refused c = ap (λ (b : Bool). cond b NoMemory Root)
    (sym (ap is_utf8 (sym c.deref.ensures.value)
    ∙ no_utf8 c.deref.result.now c.in_default.ensures.cases.0))

pub returns-in-Err-clause-refused : goal.returns-in-Err-clause-refused
returns-in-Err-clause-refused c = ap (λ (b : Bool). cond b NoMemory Root)
    (sym (ap is_utf8 (sym c.deref.ensures.value)
    ∙ is_utf8-from_IsUtf8 c.deref.result.now c.in-Ok.ensures.cases.1))

pub returns-in-Ok-config_json-clause-json : goal.returns-in-Ok-config_json-clause-json
returns-in-Ok-config_json-clause-json c = (
  ap is_utf8 (sym c.deref.ensures.value)
      ∙ is_utf8-from_IsUtf8 c.deref.result.now c.in-Ok.ensures.cases.1,
  c.in-Ok-config_json.ensures.written,
)

pub returns-in-Ok-config_json-clause-read : goal.returns-in-Ok-config_json-clause-read
returns-in-Ok-config_json-clause-read c =
    let e = c.in-Ok-config_json.ensures in
    ap config_of e.written ∙ config_back c.args.self.now
    (ids_back c.args.self.now.uid_map.entries e.users.0 e.users.1)
    (ids_back c.args.self.now.gid_map.entries e.groups.0 e.groups.1) e.sizes.0 e.sizes.1
