-- Laws of octets as text.
use Rattle.std.proofs.Common.{◌≡◌, ℕ, ◌+◌, ◌*◌, ◌/◌, ◌%◌, ◌<◌, List, [], ◌∷◌, ◌++◌, length, get_or, take, refl, add-one, arith, take-suc}
use Rattle.text.specs.Text.{Puts, hexadecimal, octet_text, octets_text}
use Rattle.text.proofs.OutputLaws.{then}

octets-append : (s t : List ℕ) → octets_text (s ++ t) ≡ octets_text s ++ octets_text t
unfolding octets_text
octets-append [] t = refl
octets-append (b ∷ s) t = rw (octets-append s t)

-- one octet more
octets-more : (s : List ℕ) (i : ℕ) → i < length s → octets_text (take (i + 1) s) ≡ octets_text (take i s) ++ octet_text (get_or s i 0)
unfolding octets_text
octets-more s i h = rw (add-one i, take-suc s i 0 h, octets-append (take i s) (get_or s i 0 ∷ []))

pub octets-turn : {x y z : List ℕ} {at j k : ℕ} (s : List ℕ) (i : ℕ) → i < length s → Puts x at (octets_text (take i s)) y j → Puts y j (octet_text (get_or s i 0)) z k
    → Puts x at (octets_text (take (i + 1) s)) z k
octets-turn s i h p q = rw (octets-more s i h) (then p q)

pub octets-length : (s : List ℕ) → length (octets_text s) ≡ 3 * length s
unfolding octets_text
octets-length [] = refl
octets-length (b ∷ s) = omega (arith, octets-length s)

pub octet-put : {x y z v : List ℕ} {i j k l p q : ℕ} (b : ℕ) → Puts x i (32 ∷ []) y j → p ≡ hexadecimal (b / 16) → Puts y j (p ∷ []) z k → q ≡ hexadecimal (b % 16) → Puts z k (q ∷ []) v l
    → Puts x i (octet_text b) v l
octet-put b s e f g h = then s (then (rw e at f) (rw g at h))
