-- SYMLINK and MKNOD, which the server refuses.
use Rattle.std.proofs.Common.{◌≡◌, ℕ, ◌+◌, ◌++◌, ◌≤◌, ◌&&◌, ◌||◌, Bool, true, false, not}
use Rattle.std.proofs.Common.{cond, [], ◌∷◌, List, length, refl, sym, ap, ◌∙◌, Option, Some, None}
use Rattle.std.proofs.Common.{arith, nat_lt}
use Rattle.std.specs.Prelude.{option_map, ◌==◌}
use Rattle.std.specs.List.{list_any}
use Rattle.std.specs.Str.{is_utf8}
use Rattle.std.proofs.lemmas.Bool.Decides.{nat_tests}
use Rattle.std.proofs.lemmas.List.{length-append}
use Rattle.std.specs.FinMap.{get}
use Rattle.port_base.specs.Names.{name_fault}
use Rattle.port_base.specs.declared.errno.TheConstants.{EINVAL, ENAMETOOLONG, ENOENT, ESTALE}
use Rattle.p9_wire.specs.Texts.{is_text}
use Rattle.p9_wire.specs.Values.{TextSpells, le32, text_spelling}
use Rattle.p9_tmsg.specs.Messages.{message_spelling}
use Rattle.p9_tmsg.specs.Messages.Message.{symlink as t_symlink}
use Rattle.fid_model.proofs.Names.{name_is_text}
use Rattle.fuse_wire.specs.Layouts.{is_zero}
use Rattle.tree_machine.specs.State.{Node as MachineNode}
use Rattle.tree_machine.specs.Refusals.{first_refusal}
use Rattle.tree_machine.specs.Naming.{target_fault, symlink_refusal}
use Rattle.fid_model.specs.Moments.{Moment}
use Rattle.fuse_gate.specs.Standing.{IsInStep, machine_of, node_of}
use Rattle.fuse_gate.specs.declared.gate.Node.{Node}
use Rattle.fuse_gate.specs.declared.gate.Gate.{Gate}
use Rattle.fuse_gate.proofs.Standings.{node_seen}

-- ---- the refusals of SYMLINK, in order

module _ {g : Gate} (n : Moment) (st : IsInStep g n.state) (node : ℕ) (name target : List ℕ) where
  abbrev refusal : Option ℕ
  refusal = symlink_refusal name target (get (machine_of g n.state).nodes node)

  refusal_as : (o : Option Node) → get g.nodes node ≡ o
      → refusal ≡ symlink_refusal name target (option_map node_of o)
  refusal_as o at = ap (λ (o : Option MachineNode). symlink_refusal name target o)
      (node_seen st node o at)

  pub link_unknown : get g.nodes node ≡ None → refusal ≡ Some ESTALE
  link_unknown at = refusal_as None at

  module _ (k : Node) (at : get g.nodes node ≡ Some k) where
    pub link_name_fault : (e : ℕ) → Some e ≡ name_fault name → refusal ≡ Some e
    link_name_fault e fault = refusal_as (Some k) at
        ∙ ap (λ (o : Option ℕ). first_refusal (o ∷ target_fault target ∷ [])) (sym fault)

    module _ (fine : None ≡ name_fault name) where
      link_named : refusal ≡ first_refusal (target_fault target ∷ [])
      link_named = refusal_as (Some k) at
          ∙ ap (λ (o : Option ℕ). first_refusal (o ∷ target_fault target ∷ [])) (sym fine)

      pub link_target_fault : (e : ℕ) → Some e ≡ target_fault target → refusal ≡ Some e
      link_target_fault e fault = link_named
          ∙ ap (λ (o : Option ℕ). first_refusal (o ∷ [])) (sym fault)

      pub link_none : None ≡ target_fault target → refusal ≡ None
      link_none good = link_named ∙ ap (λ (o : Option ℕ). first_refusal (o ∷ [])) (sym good)

-- ---- a target without a fault is a text that fits a frame

cond_none : (b : Bool) (e : ℕ) (o : Option ℕ) → cond b (Some e) o ≡ None → (b ≡ false) × (o ≡ None)
cond_none true e o h = absurd cc
cond_none false e o h = (refl, h)

at_most : (n : ℕ) → nat_lt 4000 n ≡ false → n ≤ 4000
at_most n h = grind (arith, nat_tests)

text_of : (zero utf8 : Bool) → (zero || not utf8) ≡ false → (utf8 && not zero) ≡ true
text_of true utf8 h = absurd cc
text_of false true h = refl
text_of false false h = absurd cc

module _ (target : List ℕ) (fine : None ≡ target_fault target) where
  last : Option ℕ
  last = cond (list_any is_zero target || not (is_utf8 target)) (Some EINVAL) None

  middle : Option ℕ
  middle = cond (nat_lt 4000 (length target)) (Some ENAMETOOLONG) last

  long_none : (nat_lt 4000 (length target) ≡ false) × (last ≡ None)
  unfolding last middle
  long_none = cond_none (nat_lt 4000 (length target)) ENAMETOOLONG last
      (cond_none (length target == 0) ENOENT middle (sym fine)).1

  pub target_short : length target ≤ 4000
  target_short = at_most (length target) long_none.0

  spelled : is_text target ≡ true
  unfolding is_text last
  spelled = text_of (list_any is_zero target) (is_utf8 target)
      (cond_none (list_any is_zero target || not (is_utf8 target)) EINVAL None long_none.1).0

  pub target_spells : TextSpells target
  target_spells = let short = target_short in (omega arith, spelled)

  pub link_fits : (fid : ℕ) (name : List ℕ) → None ≡ name_fault name → (msize : ℕ)
      → 4352 ≤ msize
      → 7 + length (message_spelling (t_symlink fid name target 0)) ≤ msize
  link_fits fid name named msize roomy =
      let text = name_is_text name (sym named) in
      let short = target_short in
      omega (
        arith,
        text.0,
        short,
        roomy,
        length-append name (text_spelling target ++ le32 0),
        length-append target (le32 0),
      )
