-- The order of the words after the first doesn't matter.
use Rattle.std.proofs.Common.{◌≡◌, ℕ, Bool, true, false, List, [], ◌∷◌, ◌++◌, Some, None, refl, sym}
use Rattle.std.proofs.Common.{ap, ◌∙◌, bytes_eq, cond}
use Rattle.std.specs.Prelude.{codes, option_and_then}
use Rattle.std.specs.declared.option.Option.{Option}
use Rattle.mount9_run.specs.Texts.{split_once}
use Rattle.mount9_run.specs.Command.{Draft, with_key, with_word, with_words, finished, command}
use Rattle.mount9_run.specs.Command.{no_words}
use Rattle.mount9_run.proofs.WordPlaces.{Key, with_kind, swapped, nothing}
use Rattle.mount9_run.proofs.WordPlaces.Key.{target, root, msize, turns, ids, uid, gid, casefold}
use Rattle.mount9_run.proofs.WordPlaces.Key.{unknown}

abbrev kind_by : Bool → Bool → Bool → Bool → Bool → Bool → Bool → Bool → Key
kind_by true b c d e f g h = target
kind_by false true c d e f g h = root
kind_by false false true d e f g h = msize
kind_by false false false true e f g h = turns
kind_by false false false false true f g h = ids
kind_by false false false false false true g h = uid
kind_by false false false false false false true h = gid
kind_by false false false false false false false true = casefold
kind_by false false false false false false false false = unknown

abbrev kind : List ℕ → Key
kind key = kind_by (bytes_eq key (codes "target")) (bytes_eq key (codes "root"))
    (bytes_eq key (codes "msize")) (bytes_eq key (codes "turns")) (bytes_eq key (codes "ids"))
    (bytes_eq key (codes "uid")) (bytes_eq key (codes "gid")) (bytes_eq key (codes "casefold"))

abbrev keyed : Bool → Bool → Bool → Bool → Bool → Bool → Bool → Bool → List ℕ → Draft → Option Draft
keyed a b c d e f g h v x =
    cond a (with_kind target v x) (cond b (with_kind root v x)
    (cond c (with_kind msize v x) (cond d (with_kind turns v x)
    (cond e (with_kind ids v x) (cond f (with_kind uid v x)
    (cond g (with_kind gid v x) (cond h (with_kind casefold v x) None)))))))

keyed_is : (a b c d e f g h : Bool) (v : List ℕ) (x : Draft)
    → keyed a b c d e f g h v x ≡ with_kind (kind_by a b c d e f g h) v x
keyed_is true b c d e f g h v x = refl
keyed_is false true c d e f g h v x = refl
keyed_is false false true d e f g h v x = refl
keyed_is false false false true e f g h v x = refl
keyed_is false false false false true f g h v x = refl
keyed_is false false false false false true g h v x = refl
keyed_is false false false false false false true h v x = refl
keyed_is false false false false false false false true v x = refl
keyed_is false false false false false false false false v x = refl

key_is : (d : Draft) (key value : List ℕ) → with_key d key value ≡ with_kind (kind key) value d
key_is d key value = keyed_is (bytes_eq key (codes "target")) (bytes_eq key (codes "root"))
    (bytes_eq key (codes "msize")) (bytes_eq key (codes "turns")) (bytes_eq key (codes "ids"))
    (bytes_eq key (codes "uid")) (bytes_eq key (codes "gid")) (bytes_eq key (codes "casefold"))
    value d

-- ---- words

same_after : (o : Option Draft) (f g : Draft → Option Draft) → ((d : Draft) → f d ≡ g d)
    → option_and_then f o ≡ option_and_then g o
same_after None f g h = refl
same_after (Some d) f g h = h d

abbrev with_pair : Option (List ℕ × List ℕ) → Draft → Option Draft
with_pair p d = option_and_then (λ q. with_key d q.0 q.1) p

pair_swap : (p q : Option (List ℕ × List ℕ)) (d : Draft)
    → option_and_then (with_pair q) (with_pair p d) ≡ option_and_then (with_pair p) (with_pair q d)
pair_swap None None d = refl
pair_swap None (Some q) d = sym (nothing (with_pair (Some q) d))
pair_swap (Some p) None d = nothing (with_pair (Some p) d)
pair_swap (Some p) (Some q) d =
    ap (option_and_then (λ e. with_key e q.0 q.1)) (key_is d p.0 p.1)
    ∙ same_after (with_kind (kind p.0) p.1 d) (λ e. with_key e q.0 q.1) (with_kind (kind q.0) q.1)
    (λ e. key_is e q.0 q.1)
    ∙ swapped (kind p.0) (kind q.0) p.1 q.1 d
    ∙ sym (same_after (with_kind (kind q.0) q.1 d) (λ e. with_key e p.0 p.1)
    (with_kind (kind p.0) p.1) (λ e. key_is e p.0 p.1))
    ∙ sym (ap (option_and_then (λ e. with_key e p.0 p.1)) (key_is d q.0 q.1))

both : (o : Option Draft) (f g : Draft → Option Draft)
    → option_and_then (λ e. option_and_then g (f e)) o ≡ option_and_then g (option_and_then f o)
both None f g = refl
both (Some d) f g = refl

with_words_swap : (d : Draft) (one other : List ℕ) (after : List (List ℕ))
    → with_words d (one ∷ other ∷ after) ≡ with_words d (other ∷ one ∷ after)
unfolding with_words with_word
with_words_swap d one other after =
    both (with_pair (split_once 61 one) d) (with_pair (split_once 61 other))
    (λ f. with_words f after)
    ∙ ap (option_and_then (λ f. with_words f after))
    (pair_swap (split_once 61 one) (split_once 61 other) d)
    ∙ sym (both (with_pair (split_once 61 other) d) (with_pair (split_once 61 one))
    (λ f. with_words f after))

with_words_swap_later : (d : Draft) (one other : List ℕ) (before after : List (List ℕ))
    → with_words d (before ++ (one ∷ other ∷ after)) ≡ with_words d
    (before ++ (other ∷ one ∷ after))
unfolding with_words
with_words_swap_later d one other [] after = with_words_swap d one other after
with_words_swap_later d one other (w ∷ ws) after =
    same_after (with_word d w) (λ e. with_words e (ws ++ (one ∷ other ∷ after)))
    (λ e. with_words e (ws ++ (other ∷ one ∷ after)))
    (λ e. with_words_swap_later e one other ws after)

pub command_swap : (first one other : List ℕ) (before after : List (List ℕ))
    → command (first ∷ (before ++ (one ∷ other ∷ after))) ≡ command
    (first ∷ (before ++ (other ∷ one ∷ after)))
unfolding command
command_swap first one other before after =
    ap (λ (o : Option Draft). cond (bytes_eq first (codes "serve")) (option_and_then finished o)
    None) (with_words_swap_later no_words one other before after)
