-- Runs of which some steps met a fault: one after another, and without such a step.
use Rattle.std.proofs.Common.{◌≡◌, ℕ, ◌+◌, List, [], ◌∷◌, ◌++◌, sym, ap, ◌∙◌, subst, arith}
use Rattle.std.proofs.Common.{append_assoc, zero-add, add_assoc, inl, inr}
use Rattle.tree_model.specs.Settings.{Settings}
use Rattle.tree_machine.specs.State.{MachineState}
use Rattle.tree_machine.specs.Step.{step}
use Rattle.tree_machine.specs.Play.{play_from}
use Rattle.tree_machine.specs.Messages.{messages, messages_from}
use Rattle.tree_machine.specs.Faults.{Hurt}

module _ (s : Settings) where
  -- one run and then another
  pub Hurt-append : (m mid last : MachineState) (fs gs : List (List ℕ)) (n k : ℕ) (rs qs : List ℕ)
      → Hurt s m fs n rs mid → Hurt s mid gs k qs last → Hurt s m (fs ++ gs) (n + k) (rs ++ qs) last
  Hurt-append m mid last [] gs n k rs qs h g =
      let count : k ≡ n + k = omega (arith, h.0) in
      subst (λ x. Hurt s x gs (n + k) (rs ++ qs) last) h.2
      (subst (λ j. Hurt s mid gs j (rs ++ qs) last) count
      (subst (λ l. Hurt s mid gs k l last) (sym (ap (λ (l : List ℕ). l ++ qs) h.1)) g))
  Hurt-append m mid last (f ∷ fs) gs n k rs qs (inl (rest, joined, more)) g =
      inl (
        rest ++ qs,
        ap (λ (l : List ℕ). l ++ qs) joined
            ∙ append_assoc (step s m f).0 rest qs,
        Hurt-append (step s m f).1 mid last fs gs n k rest
            qs more g,
      )
  Hurt-append m mid last (f ∷ fs) gs n k rs qs
      (inr (bytes, rest, after, j, one, joined, count, more)) g =
      inr (
        bytes,
        rest ++ qs,
        after,
        j + k,
        one,
        ap (λ (l : List ℕ). l ++ qs) joined
            ∙ append_assoc bytes rest qs,
        omega (arith, count),
        Hurt-append after mid last fs gs j k
            rest qs more g,
      )

  -- without a step that met a fault a run is the machine's
  pub Hurt-zero : (m last : MachineState) (fs : List (List ℕ)) (n : ℕ) (rs : List ℕ) → n ≡ 0
      → Hurt s m fs n rs last → (rs ≡ (play_from s m fs).0) × (last ≡ (play_from s m fs).1)
  Hurt-zero m last [] n rs none h = (h.1, h.2)
  Hurt-zero m last (f ∷ fs) n rs none (inl (rest, joined, more)) =
      let later = Hurt-zero (step s m f).1 last fs n rest none more in
      (joined ∙ ap (λ (l : List ℕ). (step s m f).0 ++ l) later.0, later.1)
  Hurt-zero m last (f ∷ fs) n rs none (inr (bytes, rest, after, j, one, joined, count, more)) =
      absurd (omega (arith, none, count))

  pub messages_from-append : (piece : ℕ) (m : MachineState) (fs gs : List (List ℕ))
      → messages_from piece s m (fs ++ gs) ≡ messages_from piece s m fs + messages_from piece s
      (play_from s m fs).1 gs
  messages_from-append piece m [] gs = sym (zero-add (messages_from piece s m gs))
  messages_from-append piece m (f ∷ fs) gs =
      ap (λ (n : ℕ). messages piece s m f + n) (messages_from-append piece (step s m f).1 fs gs)
      ∙ sym (add_assoc (messages piece s m f) (messages_from piece s (step s m f).1 fs)
      (messages_from piece s (play_from s (step s m f).1 fs).1 gs))
