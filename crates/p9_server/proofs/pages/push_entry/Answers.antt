-- The parts of an entry stand one behind another.
use Rattle.std.proofs.Common.{◌≡◌, ◌∙◌, ap, ℕ, length, arith}
use Rattle.p9_wire.specs.Values.{le16}
use Rattle.p9_server.proofs.PageSteps.{entry_added}
use Rattle.p9_server.proofs.pages.push_entry.Goals as goal

pub returns : goal.returns
returns c =
    let size : c.len.result ≡ length c.entry.inside.name.items = omega (arith, c.len.ensures) in
    entry_added c.args.bytes.now.items c.push_qid.new.bytes.items c.extend_from_slice.new.self.items
    c.push.new.self.items c.extend_from_slice-2.new.self.items
    c.extend_from_slice-3.new.self.items _ c.args.entry.now c.entry.view_is _ c.qid_of.ensures
    _ c.to_le_bytes.ensures _ c.entry_type.ensures _
    (c.to_le_bytes-2.ensures ∙ ap (λ (n : ℕ). le16 n) size) _
    c.deref.ensures.value
    c.in_ok-push_qid.ensures c.in_ok-extend_from_slice.ensures.items
    c.in_ok-push.ensures.items c.in_ok-extend_from_slice-2.ensures.items
    c.in_ok-extend_from_slice-3.ensures.items
