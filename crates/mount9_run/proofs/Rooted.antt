-- The root that accepted words name is in form.
use Rattle.std.proofs.Common.{◌≡◌, ℕ, Bool, true, false, cond, List, [], ◌∷◌, IfSome, Option, Some}
use Rattle.std.proofs.Common.{None, refl, sym, ap, ◌∙◌, subst, bytes_eq, codes, drop, ◌&&◌, is_some}
use Rattle.std.proofs.Common.{length, nat_le, option_map}
use Rattle.std.specs.Prelude.{option_and_then, unwrap_or}
use Rattle.std.proofs.lemmas.Bool.{false≢true}
use Rattle.port_base.specs.Paths.{is_rooted_path}
use Rattle.mount9_run.specs.Command.{Draft, Serve, once, text_in_form, number_in, with_key}
use Rattle.mount9_run.specs.Command.{with_word, with_words, finished, completed, command, is_serve}
use Rattle.mount9_run.specs.Command.{no_words, with_owner, owners_of}
use Rattle.p9_server.specs.ConfigTexts.{boolean_of}
use Rattle.mount9_run.specs.Paths.{is_path, is_root}
use Rattle.mount9_run.specs.Texts.{split_once}
use Rattle.mount9_run.specs.declared.path.TheConstants.{PATH_LIMIT}

abbrev IsRooted : Draft → Type 0
IsRooted d = IfSome d.root (λ (path : List ℕ). is_rooted_path path ≡ true)

-- what came of a value, where it came
mapped : {A : Type 0} (f : A → Draft) (o : Option A) (e : Draft) → option_map f o ≡ Some e → (a : A)
    × (o ≡ Some a) × (f a ≡ e)
mapped f None e h = cc
mapped f (Some a) e h = (a, refl, (let same : f a ≡ e = cc in same))

-- a key that leaves the root
kept : {A : Type 0} (d e : Draft) (f : A → Draft) (o : Option A) → ((a : A) → (f a).root ≡ d.root)
    → IsRooted d → option_map f o ≡ Some e → IsRooted e
kept d e f o same had h =
    let m = mapped f o e h in
    subst (λ (r : Option (List ℕ)). IfSome r (λ (path : List ℕ). is_rooted_path path ≡ true))
    (sym (same m.0) ∙ ap (λ (x : Draft). x.root) m.2) had

and_right : (a b : Bool) → (a && b) ≡ true → b ≡ true
and_right true b h = h
and_right false b h = absurd (false≢true h)

-- the root that comes is in form
came : (old slot : Option (List ℕ)) (value : List ℕ)
    → once old (text_in_form is_root value) ≡ Some slot
    → IfSome slot (λ (path : List ℕ). is_rooted_path path ≡ true)
came None slot value h = by_form (is_root value) refl h where
  by_form : (b : Bool) → is_root value ≡ b
      → option_map (λ (v : List ℕ). Some v) (cond b (Some value) None) ≡ Some slot
      → IfSome slot (λ (path : List ℕ). is_rooted_path path ≡ true)
  by_form false test h = absurd cc
  by_form true test h =
      let same : Some value ≡ slot = cc in
      subst (λ (r : Option (List ℕ)). IfSome r (λ (path : List ℕ). is_rooted_path path ≡ true))
      same (and_right (nat_le (length value) PATH_LIMIT) (is_rooted_path value) test)
came (Some p) slot value h = absurd cc

module _ (d e : Draft) (had : IsRooted d) (key value : List ℕ) where
  with_root : option_map (λ v. record d { root = v })
      (once d.root (text_in_form is_root value)) ≡ Some e → IsRooted e
  with_root h =
      let m = mapped (λ v. record d { root = v }) (once d.root (text_in_form is_root value)) e h in
      subst IsRooted m.2 (came d.root m.0 value m.1)

  by_key : (target root msize turns ids uid gid casefold : Bool) →
      cond target (option_map (λ v. record d { target = v })
      (once d.target (text_in_form is_path value)))
      (cond root (option_map (λ v. record d { root = v })
      (once d.root (text_in_form is_root value)))
      (cond msize (option_map (λ n. record d { msize = n })
      (once d.msize (number_in 256 65560 value)))
      (cond turns (option_map (λ n. record d { turns = n })
      (once d.turns (number_in 1 8192 value)))
      (cond ids (option_map (λ n. record d { ids = n })
      (once d.ids (number_in 0 1000000 value)))
      (cond uid (option_map (λ m. record d { uid_map = m })
      (with_owner d.uid_map (owners_of value)))
      (cond gid (option_map (λ m. record d { gid_map = m })
      (with_owner d.gid_map (owners_of value)))
      (cond casefold (option_map (λ b. record d { casefold = b })
      (once d.casefold (boolean_of value))) None))))))) ≡ Some e → IsRooted e
  by_key true root msize turns ids uid gid casefold h =
      kept d e (λ v. record d { target = v }) _ (λ a. refl) had h
  by_key false true msize turns ids uid gid casefold h = with_root h
  by_key false false true turns ids uid gid casefold h =
      kept d e (λ n. record d { msize = n }) _ (λ a. refl) had h
  by_key false false false true ids uid gid casefold h =
      kept d e (λ n. record d { turns = n }) _ (λ a. refl) had h
  by_key false false false false true uid gid casefold h =
      kept d e (λ n. record d { ids = n }) _ (λ a. refl) had h
  by_key false false false false false true gid casefold h =
      kept d e (λ m. record d { uid_map = m }) _ (λ a. refl) had h
  by_key false false false false false false true casefold h =
      kept d e (λ m. record d { gid_map = m }) _ (λ a. refl) had h
  by_key false false false false false false false true h =
      kept d e (λ b. record d { casefold = b }) _ (λ a. refl) had h
  by_key false false false false false false false false h = absurd cc

  key_rooted : with_key d key value ≡ Some e → IsRooted e
  key_rooted h = by_key (bytes_eq key (codes "target")) (bytes_eq key (codes "root"))
      (bytes_eq key (codes "msize")) (bytes_eq key (codes "turns")) (bytes_eq key (codes "ids"))
      (bytes_eq key (codes "uid")) (bytes_eq key (codes "gid")) (bytes_eq key (codes "casefold")) h

word_by : (d e : Draft) → IsRooted d → (o : Option (List ℕ × List ℕ))
    → option_and_then (λ p. with_key d p.0 p.1) o ≡ Some e → IsRooted e
word_by d e had None h = absurd cc
word_by d e had (Some p) h = key_rooted d e had p.0 p.1 h

word_rooted : (d e : Draft) (word : List ℕ) → IsRooted d → with_word d word ≡ Some e → IsRooted e
unfolding with_word
word_rooted d e word had h = word_by d e had (split_once 61 word) h

same_draft : (d e : Draft) → ◌≡◌ {A = Option Draft} (Some d) (Some e) → d ≡ e
same_draft d e h = cc

rest_rooted : (d e : Draft) (w : List ℕ) (ws : List (List ℕ)) → IsRooted d
    → ((x : Draft) → IsRooted x → with_words x ws ≡ Some e → IsRooted e)
    → (o : Option Draft) → with_word d w ≡ o → option_and_then (λ x. with_words x ws) o ≡ Some e
    → IsRooted e
rest_rooted d e w ws had later None at told = absurd cc
rest_rooted d e w ws had later (Some x) at told = later x (word_rooted d x w had at) told

words_rooted : (ws : List (List ℕ)) (d e : Draft) → IsRooted d → with_words d ws ≡ Some e
    → IsRooted e
unfolding with_words
words_rooted [] d e had h = subst IsRooted (same_draft d e h) had
words_rooted (w ∷ ws) d e had h = rest_rooted d e w ws had
    (λ x rooted told. words_rooted ws x e rooted told) (with_word d w) refl h

same_serve : (x y : Serve) → ◌≡◌ {A = Option Serve} (Some x) (Some y) → x ≡ y
same_serve x y h = cc

finish_by : (d : Draft) (s : Serve) → IsRooted d → (target root : Option (List ℕ)) → d.root ≡ root
    → option_and_then (λ t. option_map (completed d t) root) target ≡ Some s
    → is_rooted_path s.root ≡ true
finish_by d s had None root at h = absurd cc
finish_by d s had (Some t) None at h = absurd cc
finish_by d s had (Some t) (Some r) at h =
    let rooted : is_rooted_path r ≡ true = subst
    (λ (o : Option (List ℕ)). IfSome o (λ (path : List ℕ). is_rooted_path path ≡ true)) at had
    in
    subst (λ (x : Serve). is_rooted_path x.root ≡ true) (same_serve (completed d t r) s h) rooted

pub command_rooted : (words : List (List ℕ)) (s : Serve) → command words ≡ Some s
    → is_rooted_path s.root ≡ true
unfolding command
command_rooted words s is = by_first (is_serve words) is where
  by_draft : (o : Option Draft) → with_words no_words (drop 1 words) ≡ o
      → option_and_then finished o ≡ Some s → is_rooted_path s.root ≡ true
  by_draft None at h = absurd cc
  by_draft (Some d) at h = finish_by d s (words_rooted (drop 1 words) no_words d tt at) d.target
      d.root refl h

  by_first : (b : Bool) → cond b (option_and_then finished (with_words no_words (drop 1 words)))
      None ≡ Some s → is_rooted_path s.root ≡ true
  by_first false h = absurd cc
  by_first true h = by_draft (with_words no_words (drop 1 words)) refl h
