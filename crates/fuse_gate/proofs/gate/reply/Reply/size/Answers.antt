-- Each body has its size.
use Rattle.std.proofs.Common.{◌≡◌, ℕ, ◌∙◌, ap, sym, ◌⊎◌, ⊎_elim}
use Rattle.fuse_gate.specs.Replies.{reply_of}
use Rattle.fuse_gate.specs.declared.gate.reply.Reply.{Reply}
use Rattle.fuse_gate.specs.declared.gate.reply.Reply.TheVariants.{Refused, Done}
use Rattle.fuse_gate.proofs.Replying.{body_size, sized}
use Rattle.fuse_gate.proofs.gate.reply.Reply.size.Goals as goal
use Rattle.fuse_gate.proofs.gate.reply.Reply.size.Goals.{in-Granted, in-Entry, in-Attributes}
use Rattle.fuse_gate.proofs.gate.reply.Reply.size.Goals.{in-Opened, in-Bytes, in-Sizes, in-Refused}
use Rattle.fuse_gate.proofs.gate.reply.Reply.size.Goals.{in-Refused-2, in-Created, in-Written}

nothing : (r : Reply) → ((errno : ℕ) × (r ≡ Refused errno)) ⊎ (r ≡ Done)
    → 0 ≡ body_size (reply_of r)
nothing r is = ⊎_elim (λ e. sym (ap (λ (r : Reply). body_size (reply_of r)) e.1))
    (λ e. sym (ap (λ (r : Reply). body_size (reply_of r)) e)) is

pub returns : goal.returns
returns c =
    let size : c.match-self.body ≡ body_size (reply_of c.args.self.now) =
    elim c.match-self.branch [
      | in-Granted w ↦ w.body-is ∙ sym (ap (λ (r : Reply). body_size (reply_of r)) w.in-Granted.is)
      | in-Entry w ↦ w.body-is ∙ sym (ap (λ (r : Reply). body_size (reply_of r)) w.in-Entry.is)
      | in-Attributes w ↦ w.body-is ∙ sym (ap (λ (r : Reply). body_size (reply_of r))
          w.in-Attributes.is)
      | in-Opened w ↦ w.body-is ∙ sym (ap (λ (r : Reply). body_size (reply_of r)) w.in-Opened.is)
      | in-Created w ↦ w.body-is ∙ sym (ap (λ (r : Reply). body_size (reply_of r))
          w.in-Created.is)
      | in-Bytes w ↦ w.body-is ∙ w.len-body.ensures ∙ w.in-Bytes.bytes.ok.0
          ∙ sym (ap (λ (r : Reply). body_size (reply_of r)) w.in-Bytes.is)
      | in-Written w ↦ w.body-is ∙ sym (ap (λ (r : Reply). body_size (reply_of r))
          w.in-Written.is)
      | in-Sizes w ↦ w.body-is ∙ sym (ap (λ (r : Reply). body_size (reply_of r)) w.in-Sizes.is)
      | in-Refused w ↦ w.body-is ∙ nothing c.args.self.now w.in-Refused.is
      | in-Refused-2 w ↦ w.body-is ∙ nothing c.args.self.now w.in-Refused.is
    ] in
    sized (reply_of c.args.self.now) c.match-self.body size
